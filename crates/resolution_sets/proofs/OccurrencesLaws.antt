-- Tables of sets of clauses as they are filled. In order: one clause is put into one set; into all of its sets, one at
-- a time; the clauses one at a time; and a table by masks as one of the clauses. The sets are those of literals, or of
-- anything that is counted under 64. Not here: what R.2's test reads from a table (BlockingLaws). Assumes nothing.
use mathlib.Core.Path.{◌≡◌, refl, sym, ap, ◌∙◌}
use mathlib.Core.Bool.{Bool, false, ◌&&◌, ◌||◌, or-true, or-false, or_assoc, and-true, and-false, and-or_distrib_left}
use mathlib.Core.List.{List, []}
use Prim.Native.Nat.{ℕ, ◌+◌, ◌-◌, ◌*◌, ◌/◌, ◌%◌, ◌^◌, ◌≤◌, ◌<◌}
use native.Mathlib.Decide.{ℕ_discrete, dec_lt}
use native.Mathlib.Omega.{arith}
use lib.Bits.{bit_and}
use lib.Count.{count_trailing_zeros}
use lib.Dec.{eqb, ltb}
use lib.ListN.{length, get_or, set, replicate, length-set, length-replicate, get_or-replicate}
use lib.Seq.{get_or-set_same, get_or-set_other}
use borrow.Author.Tests.{eq-eqb, ne_eqb, lt-ltb, le-ltb}
use Rattle.bit_set.specs.BitSet.{has, including, mask}
use Rattle.bit_set.proofs.BitSetLaws.{has_none, has_including, has_mask}
use Rattle.bit_set.proofs.DigitLaws.{Least, lowest_is_least}
use Rattle.limits.specs.Limits.{max_clauses}
use Rattle.resolution_sets.specs.Occurrences.{has_clause, Occurrences, OccurrencesByMask}

-- One clause in one set

-- the table with clause j in the set of the literal y
abbrev pub put_clause : List ℕ → ℕ → ℕ → List ℕ
put_clause table j y = set table (64 * (j / 64) + y) (including (get_or table (64 * (j / 64) + y) 0) (j % 64))

module _ (table : List ℕ) (j : ℕ) (size : length table ≡ max_clauses) (few : j < max_clauses) {y : ℕ} (small : y < 64) where
  -- it is in that set, and no other set changes
  has_clause_put : (h l : ℕ) → l < 64 → has_clause (put_clause table j y) h l ≡ has_clause table h l || eqb h j && eqb l y
  has_clause_put h l l< = go (ℕ_discrete (64 * (h / 64) + l) (64 * (j / 64) + y)) (ℕ_discrete h j)
    where
      at : ℕ
      at = 64 * (j / 64) + y

      go : Dec (64 * (h / 64) + l ≡ 64 * (j / 64) + y) → Dec (h ≡ j) → has_clause (put_clause table j y) h l ≡ has_clause table h l || eqb h j && eqb l y
      go (yes e) d =
          rw (e, get_or-set_same table at (including (get_or table at 0) (j % 64)) 0 (omega arith), has_including, eq-eqb l y (omega arith), and-true)
          (ap (has (get_or table at 0) (h % 64) ||◌) (same d))
        where
          same : Dec (h ≡ j) → eqb (j % 64) (h % 64) ≡ eqb h j
          same (yes f) = rw (eq-eqb h j f, eq-eqb (j % 64) (h % 64) (omega arith))
          same (no f) = rw (ne_eqb h j f, ne_eqb (j % 64) (h % 64) (λ g. f (omega arith)))
      go (no n) d = rw (get_or-set_other table at (64 * (h / 64) + l) (including (get_or table at 0) (j % 64)) 0 n, none d, or-false)
        where
          none : Dec (h ≡ j) → eqb h j && eqb l y ≡ false
          none (yes f) = rw (ne_eqb l y (λ g. n (omega arith)), and-false)
          none (no f) = rw (ne_eqb h j f)

-- All sets of a clause

-- the numbers of a set, least first
member_next : {s t rest : ℕ} → Least s t rest → (l : ℕ) → (eqb l t || has rest l) ≡ has s l
member_next {s} {t} {rest} least l = sym (ap (λ n. has n l) least.joined ∙ has_including rest t l ∙ go (ℕ_discrete l t))
  where
    go : Dec (l ≡ t) → (has rest l || eqb t l) ≡ (eqb l t || has rest l)
    go (yes e) = rw (eq-eqb l t e, eq-eqb t l (sym e), or-true)
    go (no n) = rw (ne_eqb l t n, ne_eqb t l (λ e. n (sym e)), or-false)

-- what the table says, with the numbers left, is what it said at the start, with all numbers of the set
pub record PuttingClause (start : List ℕ) (j set : ℕ) (table : List ℕ) (left : ℕ) : Type 0 where
  pub size : length table ≡ max_clauses
  pub says : (h l : ℕ) → l < 64 → (has_clause table h l || eqb h j && has left l) ≡ (has_clause start h l || eqb h j && has set l)

module _ {start table : List ℕ} {j set left : ℕ} (p : PuttingClause start j set table left) where
  -- the least number left is put in
  pub put_least : j < max_clauses → 0 < left → left < 2 ^ 64
      → PuttingClause start j set (put_clause table j (count_trailing_zeros 64 left)) (bit_and left (left - 1))
  put_least j< some small =
      let (least<, least) = lowest_is_least 64 left some small in
      let y = count_trailing_zeros 64 left in
      let later = bit_and left (left - 1) in
      record {
        size = length-set table _ _ ∙ p.size;
        says = λ h l l<.
            ap (◌|| eqb h j && has later l) (has_clause_put table j p.size j< {y = y} least< h l l<)
            ∙ or_assoc (has_clause table h l) (eqb h j && eqb l y) (eqb h j && has later l)
            ∙ ap (has_clause table h l ||◌) (sym (and-or_distrib_left (eqb h j) (eqb l y) (has later l)) ∙ ap (eqb h j &&◌) (member_next least l))
            ∙ p.says h l l<;
      }

  pub put_over : left ≡ 0 → (h l : ℕ) → l < 64 → has_clause table h l ≡ (has_clause start h l || eqb h j && has set l)
  put_over none h l l< = sym (rw (none, has_none l, and-false, or-false)) ∙ p.says h l l<

-- The clauses one at a time

-- under n the table has the first j clauses, each in its own sets, and no other
pub record FilledTable (own : ℕ → ℕ → Bool) (n j : ℕ) (table : List ℕ) : Type 0 where
  pub size : length table ≡ max_clauses
  pub says : (h i : ℕ) → h < max_clauses → i < n → has_clause table h i ≡ ltb h j && own h i

module _ {own : ℕ → ℕ → Bool} {n : ℕ} where
  pub filled_none : n ≤ 64 → FilledTable own n 0 (replicate max_clauses 0)
  filled_none few =
      record {
        size = length-replicate {A = ℕ} max_clauses 0;
        says = λ h i h< i<. rw (get_or-replicate {A = ℕ} max_clauses (64 * (h / 64) + i) 0 0 (omega arith), has_none, le-ltb h 0 (omega arith));
      }

  pub filled_next :
      {j : ℕ} {s t : List ℕ} → FilledTable own n j s → length t ≡ max_clauses
      → ((h i : ℕ) → i < n → has_clause t h i ≡ has_clause s h i || eqb h j && own j i)
      → FilledTable own n (j + 1) t
  filled_next {j} f e more = record { size = e; says = λ h i h< i<. more h i i< ∙ rw (f.says h i h< i<) (go h i (ℕ_discrete h j) (dec_lt h j)) }
    where
      go : (h i : ℕ) → Dec (h ≡ j) → Dec (h < j) → ltb h j && own h i || eqb h j && own j i ≡ ltb h (j + 1) && own h i
      go h i (yes e) d = rw (e, le-ltb j j (omega arith), eq-eqb j j refl, lt-ltb j (j + 1) (omega arith))
      go h i (no n) (yes d) = rw (lt-ltb h j d, ne_eqb h j n, lt-ltb h (j + 1) (omega arith), or-false)
      go h i (no n) (no d) = rw (le-ltb h j (omega arith), ne_eqb h j n, le-ltb h (j + 1) (omega arith))

  pub filled_all : {j count : ℕ} {table : List ℕ} → count ≤ max_clauses → count ≤ j → FilledTable own n j table → (h i : ℕ) → h < count → i < n → has_clause table h i ≡ own h i
  filled_all {j} few all f h i h< i< = f.says h i (omega arith) i< ∙ rw (lt-ltb h j (omega arith))

-- Clauses and their masks

-- a table by the masks of clauses is one of the clauses
pub occurrences_of : (φ : List (List ℕ)) (masks table : List ℕ) (stride : ℕ) → ((j : ℕ) → j < length φ → get_or masks (stride * j) 0 ≡ mask (get_or φ j []))
    → OccurrencesByMask masks stride (length φ) table → Occurrences φ table
occurrences_of φ masks table stride are by j l j< l< = by j l j< l< ∙ rw (are j j<) (has_mask l (get_or φ j []))
