-- Clauses: what the test that a clause fits says; what a walk without fault says of each clause; the words of a run that
-- are left; literals in range, variables that stand twice, and variables that rise, one literal at a time. Elements and
-- walks in general are in WalkLaws, sets of bits in BitSetLaws, the clauses of an accepted file in FileLaws. Assumes
-- nothing.
use mathlib.Core.Path.{◌≡◌, refl, sym, ap, ap₂, ◌∙◌}
use mathlib.Core.Bool.{Bool, true, false, ◌||◌, or-false, or_assoc, or_comm}
use mathlib.Core.List.{List, [], ◌∷◌}
use Rattle.std.specs.Prelude.{None}
use Prim.Native.Nat.{ℕ, zero, suc, ◌+◌, ◌-◌, ◌*◌, ◌≤◌, ◌<◌}
use native.Mathlib.Nat.{le_trans}
use native.Mathlib.Omega.{arith}
use lib.Dec.{leb, ltb, eqb}
use lib.ListN.{get_or}
use borrow.Author.Tests.{lt-ltb, le-ltb, le-leb, lt-leb, ltb-true, ltb-false, leb-true, leb-false}
use Rattle.formula.specs.Formula.{some_of, variable, is_of, out_of_range, repeats, unordered, ill_formed}
use Rattle.formula.proofs.SomeLaws.{same_truth, some_here, some_later, some_over, repeats_over, none_first, none_rest, none_by_places, none_implied}
use Rattle.formula.proofs.Membership.{and_iff}
use Rattle.bit_set.specs.BitSet.{has, including}
use Rattle.bit_set.proofs.BitSetLaws.{has_none, has_including}
use Rattle.limits.specs.Limits.{max_variables}
use Rattle.std.specs.List.{list_any, range_with_len}
use Rattle.words.specs.Walk.{elements, first}
use Rattle.words.specs.Words.{word, word_count, next_word, words}
use Rattle.words.proofs.WalkLaws.{elements_next, elements_passed, first_none, none_at, walked_at}
use Rattle.clause_words.specs.Clauses.{ClausesWithin, EachClause, after_clause, clause_at, clause_start, clauses_from, clause_fits, walk_clauses}

-- A clause that fits

pub record Fits (b : List ℕ) (n end i : ℕ) : Type 0 where
  pub starts : i < end
  pub ends : after_clause b i ≤ end
  pub short : word b i ≤ n

module _ (b : List ℕ) (n end i : ℕ) where
  -- only the number of literals is left to test
  pub fits_by_length : i < end → after_clause b i ≤ end → leb (word b i) n ≡ clause_fits b n end i
  unfolding clause_fits
  fits_by_length s e = rw (lt-ltb _ _ s, le-leb _ _ e)

  pub true_fits : clause_fits b n end i ≡ true → Fits b n end i
  unfolding clause_fits
  true_fits e =
      let (e₁₂, e₃) = (and_iff _ _).0 e in
      let (e₁, e₂) = (and_iff _ _).0 e₁₂ in
      record { starts = ltb-true _ _ e₁; ends = leb-true _ _ e₂; short = leb-true _ _ e₃ }

-- The clauses of a walk

module _ (b : List ℕ) where
  pub walked_clause : (n end count : ℕ) → walk_clauses b n end count 0 ≡ None → (j : ℕ) → j < count → Fits b n end (clause_start b j)
  walked_clause n end count w j h =
      true_fits b n end (clause_start b j) (walked_at (after_clause b) (clause_fits b n end) end count 0 w j h)

  -- and so each clause stands within the file
  pub walked_within : (n end count : ℕ) → end ≤ word_count b → walk_clauses b n end count 0 ≡ None → ClausesWithin b count
  walked_within n end count h w = record { each = λ j l. le_trans (walked_clause n end count w j l).ends h }

  -- where a check fails on no clause, it does not on clause j
  pub clause_passes : (f : List ℕ → Bool) (count j : ℕ) → j < count → some_of f (clauses_from b count 0) ≡ false → f (clause_at b (clause_start b j)) ≡ false
  clause_passes f count j h e = none_at (after_clause b) (clause_at b) f count 0 j h e

  -- where no clause has a literal out of range, each is in range
  pub clauses_in_range : (n count : ℕ) → first (out_of_range n) (clauses_from b count 0) ≡ None → EachClause b count (λ i k. out_of_range n (words b i k) ≡ false)
  clauses_in_range n count e j h = clause_passes (out_of_range n) count j h (first_none (out_of_range n) _ e)

-- A test over the words of a run

pub some_of_words : (f : ℕ → Bool) (b : List ℕ) (k i : ℕ) → list_any (λ at. f (word b at)) (range_with_len i k) ≡ some_of f (words b i k)
unfolding some_of elements
some_of_words f b zero i = refl
some_of_words f b (suc k) i = ap (f (word b i) ||◌) (some_of_words f b k (i + 1))

-- The words of a run that a loop has left, which stand from word `at` to before word `end`

pub words_left : (b : List ℕ) (i k : ℕ) → words b i (i + k - i) ≡ words b i k
words_left b i k = let e : i + k - i ≡ k = omega arith in ap (words b i) e

pub words_next : (b : List ℕ) (end at : ℕ) → at < end → words b at (end - at) ≡ word b at ∷ words b (at + 1) (end - (at + 1))
words_next b end at = elements_next next_word (word b) end at at

pub words_over : (b : List ℕ) (end at : ℕ) → end ≤ at → words b at (end - at) ≡ []
words_over b end at = elements_passed next_word (word b) end at at

-- Literals in range

-- a clause one literal at a time, as a loop takes it: the literal l is at hand, and ys is what is left
module _ (n : ℕ) {l : ℕ} {ls ys : List ℕ} (e : ys ≡ l ∷ ls) where
  pub in_range_first : n ≤ max_variables → out_of_range n ys ≡ false → l < 64
  unfolding out_of_range
  in_range_first h f = let k = leb-false (2 * n) l (none_first (leb (2 * n)) l ls (rw e at f)) in omega arith

  pub in_range_rest : out_of_range n ys ≡ false → out_of_range n ls ≡ false
  unfolding out_of_range
  in_range_rest f = none_rest (leb (2 * n)) l ls (rw e at f)

-- Variables that stand twice, by the set of the variables seen

-- whether the literal's variable is in the set
abbrev pub is_seen : ℕ → ℕ → Bool
is_seen seen l = has seen (variable l)

-- whether a variable stands twice in the literals left, or is one of those seen
unfoldable pub repeats_after : ℕ → List ℕ → Bool
repeats_after seen ls = repeats ls || some_of (is_seen seen) ls

none_seen : (ls : List ℕ) → some_of (is_seen 0) ls ≡ false
unfolding some_of
none_seen [] = refl
none_seen (l ∷ ls) = ap₂ ◌||◌ (has_none (variable l)) (none_seen ls)

pub repeats_from_none : (ls : List ℕ) → repeats_after 0 ls ≡ repeats ls
unfolding repeats_after
repeats_from_none ls = ap (repeats ls ||◌) (none_seen ls) ∙ or-false (repeats ls)

-- one variable more is seen
seen_more : (seen v : ℕ) (ls : List ℕ) → some_of (is_seen (including seen v)) ls ≡ some_of (is_seen seen) ls || some_of (is_of v) ls
unfolding some_of
seen_more seen v [] = refl
seen_more seen v (l ∷ ls) =
    ap₂ ◌||◌ (has_including seen v (variable l)) (seen_more seen v ls)
    ∙ swap (has seen (variable l)) (eqb v (variable l)) (some_of (is_seen seen) ls) (some_of (is_of v) ls)
  where
    swap : (p q r s : Bool) → (p || q) || (r || s) ≡ (p || r) || (q || s)
    swap true q r s = refl
    swap false true true s = refl
    swap false true false s = refl
    swap false false r s = refl

module _ (seen : ℕ) {l : ℕ} {ls ys : List ℕ} (e : ys ≡ l ∷ ls) where
  pub repeats_seen : has seen (variable l) ≡ true → repeats_after seen ys ≡ true
  unfolding repeats_after
  repeats_seen t = ap (repeats ys ||◌) (some_here (is_seen seen) e t) ∙ or_comm (repeats ys) true

  pub repeats_on : has seen (variable l) ≡ false → repeats_after (including seen (variable l)) ls ≡ repeats_after seen ys
  unfolding repeats_after repeats
  repeats_on t =
      ap (repeats ls ||◌) (seen_more seen (variable l) ls ∙ or_comm (some_of (is_seen seen) ls) (some_of (is_of (variable l)) ls))
      ∙ sym (or_assoc (repeats ls) (some_of (is_of (variable l)) ls) (some_of (is_seen seen) ls))
      ∙ ap₂ ◌||◌ (or_comm (repeats ls) (some_of (is_of (variable l)) ls) ∙ sym (ap repeats e)) (some_later (is_seen seen) e t)

pub repeats_done : (seen : ℕ) {ys : List ℕ} → ys ≡ [] → repeats_after seen ys ≡ false
unfolding repeats_after
repeats_done seen e = ap₂ ◌||◌ (repeats_over e) (some_over (is_seen seen) e)

-- Literals in range whose variables rise, by the least variable that the next one may have

-- whether the literal's variable is under the least
abbrev pub is_under : ℕ → ℕ → Bool
is_under least l = ltb (variable l) least

-- whether the literals left are ill-formed, or one is of a variable under the least
unfoldable pub ill_formed_after : ℕ → ℕ → List ℕ → Bool
ill_formed_after n least ls = ill_formed n ls || some_of (is_under least) ls

pub ill_formed_from_none : (n : ℕ) (ls : List ℕ) → ill_formed_after n 0 ls ≡ ill_formed n ls
unfolding ill_formed_after
ill_formed_from_none n ls = ap (ill_formed n ls ||◌) (none_under ls) ∙ or-false (ill_formed n ls)
  where
    none_under : (ls : List ℕ) → some_of (is_under 0) ls ≡ false
    none_under ls = none_by_places (is_under 0) 0 ls (λ k h. le-ltb (variable (get_or ls k 0)) 0 (omega arith))

module _ (n least : ℕ) {l : ℕ} {ls ys : List ℕ} (e : ys ≡ l ∷ ls) where
  pub ill_formed_under : variable l < least → ill_formed_after n least ys ≡ true
  unfolding ill_formed_after
  ill_formed_under h = ap (ill_formed n ys ||◌) (some_here (is_under least) e (lt-ltb (variable l) least h)) ∙ or_comm (ill_formed n ys) true

  pub ill_formed_over : n ≤ variable l → ill_formed_after n least ys ≡ true
  unfolding ill_formed_after ill_formed out_of_range
  ill_formed_over h = rw (some_here (leb (2 * n)) e (le-leb (2 * n) l (omega arith)))

  -- the literal's own variable is the last that may not follow
  abbrev after : List ℕ → Bool
  after = some_of (is_under (variable l + 1))

  after_is : some_of (λ k. leb (variable k) (variable l)) ls ≡ after ls
  after_is = ap (λ f. some_of f ls) (λ i k. same k i)
    where
      same : (k : ℕ) → leb (variable k) (variable l) ≡ ltb (variable k) (variable l + 1)
      same k = same_truth (
        λ t. lt-ltb (variable k) (variable l + 1) (omega (arith, leb-true (variable k) (variable l) t)),
        λ t. le-leb (variable k) (variable l) (omega (arith, ltb-true (variable k) (variable l + 1) t)),
      )

  pub ill_formed_on : least ≤ variable l → variable l < n → ill_formed_after n (variable l + 1) ls ≡ ill_formed_after n least ys
  unfolding ill_formed_after ill_formed out_of_range unordered
  ill_formed_on h h' =
      regroup (some_of (leb (2 * n)) ls) (unordered ls) (after ls) (some_of (is_under least) ls)
      (none_implied (is_under (variable l + 1)) (is_under least) (λ k t. le-ltb (variable k) least (omega (arith, ltb-false (variable k) (variable l + 1) t))) ls)
      ∙ ap₂ ◌||◌
      (ap₂ ◌||◌ (some_later (leb (2 * n)) e (lt-leb (2 * n) l (omega arith))) (ap (◌|| unordered ls) (sym after_is) ∙ sym (ap unordered e)))
      (some_later (is_under least) e (le-ltb (variable l) least h))
    where
      regroup : (o u a b : Bool) → (a ≡ false → b ≡ false) → (o || u) || a ≡ (o || (a || u)) || b
      regroup true u a b h = refl
      regroup false u true b h = or_comm u true
      regroup false u false b h = ap (u ||◌) (sym (h refl))

pub ill_formed_done : (n least : ℕ) {ys : List ℕ} → ys ≡ [] → ill_formed_after n least ys ≡ false
unfolding ill_formed_after ill_formed out_of_range unordered some_of
ill_formed_done n least e = rw e
