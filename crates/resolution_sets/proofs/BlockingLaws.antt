-- R.2's test on sets, in four parts: a test over the literals of a clause depends on their set alone; the test over all
-- clauses, by the table of occurrences; the clauses that one word of the table after another tells to be opposed, as a
-- loop over the literals joins them; and the test of 64 clauses, and of 256, by the set of those that pass. How a table
-- is filled is in OccurrencesLaws. Assumes nothing.
use mathlib.Core.Path.{◌≡◌, refl, sym, ap, ◌∙◌}
use mathlib.Core.Logic.{◌↔◌}
use mathlib.Core.Bool.{Bool, true, false, ◌&&◌, ◌||◌, or-true, or-false, or_assoc, or_comm}
use mathlib.Core.List.{List, [], ◌∷◌, ◌++◌}
use Prim.Native.Nat.{ℕ, ◌+◌, ◌-◌, ◌*◌, ◌/◌, ◌%◌, ◌^◌, ◌≤◌, ◌<◌}
use native.Mathlib.Nat.{mod-eq_of_lt, lt_of_le_of_lt}
use native.Mathlib.Decide.{dec_lt}
use native.Mathlib.Omega.{arith}
use lib.Bits.{bit_and, bit_or, and_le_l}
use lib.Count.{count_trailing_zeros}
use lib.Dec.{leb}
use lib.ListN.{length, get_or}
use borrow.Author.Tests.{le-leb, lt-leb}
use Rattle.formula.specs.Formula.{opposite, some_of, member, ◌∈◌}
use Rattle.formula.proofs.SomeLaws.{same_truth, some_of_append, all_by_places}
use Rattle.formula.proofs.Membership.{and_iff, all_of_iff, some_of_iff, get_or_in}
use Rattle.formula.proofs.OrderLaws.{opposite_is}
use Rattle.bit_set.specs.BitSet.{has, including, from, mask, mask_onto}
use Rattle.bit_set.proofs.BitSetLaws.{has_iff, has_none, onto_append}
use Rattle.bit_set.proofs.DigitLaws.{all_lowest, lowest_is_least, has_both}
use Rattle.bit_set.proofs.PartLaws.{has_union, has_within, has_from, from_has}
use Rattle.resolution.specs.Resolution.{is_blocking}
use Rattle.resolution_sets.specs.Occurrences.{has_clause, Occurrences, opposes}

-- Tests over the literals of a clause

-- what passes a test in one list is in the other, and passes its test
some_goes : (f g : ℕ → Bool) (x y : List ℕ) → ((l : ℕ) → l ∈ x → f l ≡ true → (l ∈ y) × (g l ≡ true)) → some_of f x ≡ true → some_of g y ≡ true
some_goes f g x y goes e = let (l, m, t) = (some_of_iff f x).0 e in let (n, u) = goes l m t in (some_of_iff g y).1 (l, n, u)

-- lists of the same set
module _ (f : ℕ → Bool) where
  some_of_set : (x y : List ℕ) → mask x ≡ mask y → some_of f x ≡ true → some_of f y ≡ true
  some_of_set x y e = some_goes f f x y (λ l m t. ((has_iff l y).0 (ap (λ s. has s l) (sym e) ∙ (has_iff l x).1 m), t))

  pub some_by_mask : (x y : List ℕ) → mask x ≡ mask y → some_of f x ≡ some_of f y
  some_by_mask x y e = same_truth (some_of_set x y e, some_of_set y x (sym e))

pub opposite_small : (l : ℕ) → l < 64 → opposite l < 64
opposite_small l h = omega (arith, opposite_is l)

-- All clauses, by the table

-- the table has clause h in the set of the opposite of some literal of x
abbrev pub Opposed : List ℕ → List ℕ → ℕ → Type 0
Opposed table x h = some_of (λ l. has_clause table h (opposite l)) x ≡ true

module _ (φ : List (List ℕ)) (x table : List ℕ) (are : Occurrences φ table) (small : mask x < 2 ^ 64) where
  same : (h l : ℕ) → h < length φ → l ∈ x → has_clause table h (opposite l) ≡ member (opposite l) (get_or φ h [])
  same h l k m = are h (opposite l) k (opposite_small l (has_within (mask x) 64 l small ((has_iff l x).1 m)))

  pub blocking_iff : (is_blocking φ x ≡ true) ↔ ((h : ℕ) → h < length φ → Opposed table x h)
  blocking_iff = (
    λ e h k. some_goes _ _ x x (λ l m t. (m, same h l k m ∙ t)) ((all_of_iff _ φ).0 e (get_or φ h []) (get_or_in φ h [] k)),
    λ g. all_by_places _ [] φ (λ h k. some_goes _ _ x x (λ l m t. (m, sym (same h l k m) ∙ t)) (g h k)),
  )

-- The words of the table joined, literal after literal

-- of these 64 clauses, those of `set`, and those with the opposite of a literal left, are those of `seen`, and those
-- with the opposite of a literal of c, whatever lists of literals have c and `left` for their sets
pub record Joining (table : List ℕ) (words c seen set left : ℕ) : Type 0 where
  pub small : left < 2 ^ 64
  pub says : (x y : List ℕ) → c ≡ mask x → left ≡ mask y → (h : ℕ)
      → (has set h || some_of (opposes table words h) y) ≡ (has seen h || some_of (opposes table words h) x)

pub joining_none : (table : List ℕ) (words c seen : ℕ) → c < 2 ^ 64 → Joining table words c seen seen c
joining_none table words c seen fits = record { small = fits; says = λ x y e g h. ap (has seen h ||◌) (some_by_mask _ y x (sym g ∙ e)) }

-- where a literal is left, the least is next
module _ {table : List ℕ} {words c seen set left : ℕ} (p : Joining table words c seen set left) (some : 0 < left) where
  pub joining_more : {i : ℕ} → i ≡ words + opposite (count_trailing_zeros 64 left) → Joining table words c seen (bit_or set (get_or table i 0)) (bit_and left (left - 1))
  unfolding some_of mask_onto
  joining_more {i} is =
      record {
        small = lt_of_le_of_lt (and_le_l left (left - 1)) p.small;
        says = λ x y e g h.
            let t = count_trailing_zeros 64 left in
            let f = opposes table words h in
            let joined : left ≡ mask (y ++ (t ∷ [])) =
            (lowest_is_least 64 left some p.small).1.joined ∙ ap (λ n. including n t) g ∙ sym (onto_append 0 y (t ∷ [])) in
            ap (◌|| some_of f y) (has_union set (get_or table i 0) h ∙ ap (λ n. has set h || has (get_or table n 0) h) is) ∙ or_assoc (has set h) (f t) (some_of f y)
            ∙ ap (has set h ||◌) (or_comm (f t) (some_of f y) ∙ ap (some_of f y ||◌) (sym (or-false (f t))) ∙ sym (some_of_append f y (t ∷ [])))
            ∙ p.says x (y ++ (t ∷ [])) e joined h;
      }

pub joined_all : {table : List ℕ} {words c seen set left : ℕ} → Joining table words c seen set left → left ≡ 0 → (x : List ℕ) → c ≡ mask x → (h : ℕ)
    → has set h ≡ (has seen h || some_of (opposes table words h) x)
unfolding some_of mask_onto
joined_all {set} p none x e h = sym (or-false (has set h)) ∙ p.says x [] e none h

-- a set that began empty
pub joined_from_none : {table : List ℕ} {words c set left : ℕ} → Joining table words c 0 set left → left ≡ 0 → (x : List ℕ) → c ≡ mask x → (h : ℕ)
    → has set h ≡ some_of (opposes table words h) x
joined_from_none {table} {words} p none x e h = joined_all p none x e h ∙ ap (◌|| some_of (opposes table words h) x) (has_none h)

-- what all four sets have
pub in_all_four : (a b c d h : ℕ) {p q r s : Bool} → has a h ≡ p → has b h ≡ q → has c h ≡ r → has d h ≡ s
    → has (bit_and (bit_and a b) (bit_and c d)) h ≡ ((p && q) && (r && s))
in_all_four a b c d h ep eq er es =
    has_both (bit_and a b) (bit_and c d) h ∙ (λ j. (has_both a b h ∙ (λ i. ep i && eq i)) j && (has_both c d h ∙ (λ i. er i && es i)) j)

-- 64 and 256 clauses at a time

full_iff : (r : ℕ) → r < 2 ^ 64 → (r ≡ 2 ^ 64 - 1) ↔ ((h : ℕ) → h < 64 → has r h ≡ true)
full_iff r small = (
  λ e h k. ap (λ s. has s h) e ∙ has_from 64 0 h (omega arith) ∙ le-leb 0 h (omega arith),
  λ g. sym (mod-eq_of_lt small) ∙ all_lowest 64 r g,
)

-- the 64 clauses from `passed` on
module _ (table x : List ℕ) (passed : ℕ) (aligned : passed % 64 ≡ 0) where
  here : (h : ℕ) → h < 64 → some_of (λ l. has_clause table (passed + h) (opposite l)) x ≡ some_of (opposes table passed h) x
  here h k =
      let e : 64 * ((passed + h) / 64) ≡ passed = omega arith in
      let f : (passed + h) % 64 ≡ h = omega arith in
      rw (e, f)

  -- clause h is opposed, or is past the last one
  opposed_iff : (count h : ℕ) → h < 64
      → (leb (count - passed) h || some_of (opposes table passed h) x ≡ true) ↔ (passed + h < count → Opposed table x (passed + h))
  opposed_iff count h k = (
    λ e l. here h k ∙ ap (◌|| some_of (opposes table passed h) x) (sym (lt-leb (count - passed) h (omega arith))) ∙ e,
    λ g. go (dec_lt (passed + h) count) g,
  )
    where
      go : Dec (passed + h < count) → (passed + h < count → Opposed table x (passed + h)) → leb (count - passed) h || some_of (opposes table passed h) x ≡ true
      go (yes l) g = rw (← here h k, g l, or-true)
      go (no l) g = rw (le-leb (count - passed) h (omega arith))

-- each of the n clauses from `passed` on is opposed
abbrev pub AllOpposed : List ℕ → List ℕ → ℕ → ℕ → ℕ → Type 0
AllOpposed table x count passed n = (h : ℕ) → h < n → passed + h < count → Opposed table x (passed + h)

module _ (table x : List ℕ) (count passed r : ℕ) (aligned : passed % 64 ≡ 0) (small : r < 2 ^ 64) where
  -- r has those of 64 clauses that are opposed, and all past the last one: it is full where each is opposed
  pub block_iff : ((h : ℕ) → h < 64 → has r h ≡ leb (count - passed) h || some_of (opposes table passed h) x)
      → (r ≡ 2 ^ 64 - 1) ↔ AllOpposed table x count passed 64
  block_iff has_r = (
    λ e h k. (opposed_iff table x passed aligned count h k).0 (sym (has_r h k) ∙ (full_iff r small).0 e h k),
    λ g. (full_iff r small).1 (λ h k. has_r h k ∙ (opposed_iff table x passed aligned count h k).1 (g h k)),
  )

  -- r has those h of 64 for which clause h of each of four times 64 is opposed
  module _ (before : passed + 192 < count) where
    -- clause h of the 64 from `passed + k` on
    abbrev tested : ℕ → ℕ → Bool
    tested k h = some_of (opposes table (passed + k) h) x

    abbrev last_tested : ℕ → Bool
    last_tested h = leb (count - (passed + 192)) h || tested 192 h

    module _ (has_r : (h : ℕ) → h < 64 → has r h ≡ ((some_of (opposes table passed h) x && tested 64 h) && (tested 128 h && last_tested h))) where
      full : r ≡ 2 ^ 64 - 1 → (h : ℕ) → h < 64
          → ((some_of (opposes table passed h) x ≡ true) × (tested 64 h ≡ true)) × ((tested 128 h ≡ true) × (last_tested h ≡ true))
      full e h k =
          let (low, high) = (and_iff (some_of (opposes table passed h) x && tested 64 h) (tested 128 h && last_tested h)).0 (sym (has_r h k) ∙ (full_iff r small).0 e h k) in
          ((and_iff (some_of (opposes table passed h) x) (tested 64 h)).0 low, (and_iff (tested 128 h) (last_tested h)).0 high)

      each : r ≡ 2 ^ 64 - 1 → AllOpposed table x count passed 256
      each e h k l = go (dec_lt h 64) (dec_lt h 128) (dec_lt h 192)
        where
          go : Dec (h < 64) → Dec (h < 128) → Dec (h < 192) → Opposed table x (passed + h)
          go (yes a) _ _ = here table x passed aligned h a ∙ (full e h a).0.0
          go (no a) (yes b) _ =
              let f : passed + 64 + (h - 64) ≡ passed + h = omega arith in
              rw f at (here table x (passed + 64) (omega arith) (h - 64) (omega arith) ∙ (full e (h - 64) (omega arith)).0.1)
          go (no a) (no b) (yes c) =
              let f : passed + 128 + (h - 128) ≡ passed + h = omega arith in
              rw f at (here table x (passed + 128) (omega arith) (h - 128) (omega arith) ∙ (full e (h - 128) (omega arith)).1.0)
          go (no a) (no b) (no c) =
              let f : passed + 192 + (h - 192) ≡ passed + h = omega arith in
              rw f at ((opposed_iff table x (passed + 192) (omega arith) count (h - 192) (omega arith)).0 (full e (h - 192) (omega arith)).1.1 (omega arith))

      back : AllOpposed table x count passed 256 → (k : ℕ) → k % 64 ≡ 0 → (h : ℕ) → h < 64 → k + h < 256 → passed + k + h < count → Opposed table x (passed + k + h)
      back g k e h l m n = let f : passed + (k + h) ≡ passed + k + h = omega arith in rw f at (g (k + h) m (omega arith))

      pub four_iff : (r ≡ 2 ^ 64 - 1) ↔ AllOpposed table x count passed 256
      four_iff = (
        each,
        λ g. (full_iff r small).1
            (λ h k. has_r h k
            ∙ (and_iff (some_of (opposes table passed h) x && tested 64 h) (tested 128 h && last_tested h)).1 (
              (and_iff (some_of (opposes table passed h) x) (tested 64 h)).1 (
                sym (here table x passed aligned h k) ∙ g h (omega arith) (omega arith),
                sym (here table x (passed + 64) (omega arith) h k) ∙ back g 64 refl h k (omega arith) (omega arith),
              ),
              (and_iff (tested 128 h) (last_tested h)).1 (
                sym (here table x (passed + 128) (omega arith) h k) ∙ back g 128 refl h k (omega arith) (omega arith),
                (opposed_iff table x (passed + 192) (omega arith) count h k).1 (back g 192 refl h k (omega arith)),
              ),
            )),
      )

-- The clauses passed, 256 or 64 at a time

-- those passed are opposed, whatever list of literals has c for its set
pub record Passed (table : List ℕ) (count c passed : ℕ) : Type 0 where
  pub aligned : passed % 64 ≡ 0
  pub small : c < 2 ^ 64
  pub each : (x : List ℕ) → c ≡ mask x → (h : ℕ) → h < passed → h < count → Opposed table x h

-- the answer b for a formula of `count` clauses
abbrev pub AnswersBlocking : List ℕ → ℕ → ℕ → Bool → Type 0
AnswersBlocking table count c b = (φ : List (List ℕ)) (x : List ℕ) → Occurrences φ table → length φ ≡ count → c ≡ mask x → b ≡ is_blocking φ x

-- the next n clauses: the set r is full exactly where each of them is opposed
module _ {table : List ℕ} {count c passed : ℕ} (p : Passed table count c passed) {r : ℕ} (n : ℕ) (even : n % 64 ≡ 0)
    (full_iff : (x : List ℕ) → c ≡ mask x → (r ≡ 2 ^ 64 - 1) ↔ AllOpposed table x count passed n) where
  pub more : r ≡ 2 ^ 64 - 1 → Passed table count c (passed + n)
  more all = record { aligned = omega (arith, p.aligned); small = p.small; each = λ x e h k l. go x e h k l (dec_lt h passed) }
    where
      go : (x : List ℕ) → c ≡ mask x → (h : ℕ) → h < passed + n → h < count → Dec (h < passed) → Opposed table x h
      go x e h k l (yes d) = p.each x e h d l
      go x e h k l (no d) = let f : passed + (h - passed) ≡ h = omega arith in rw f at ((full_iff x e).0 all (h - passed) (omega arith) (omega arith))

  pub refused : (r ≡ 2 ^ 64 - 1 → ⊥) → AnswersBlocking table count c false
  refused not_full φ x are size e = go (is_blocking φ x) refl
    where
      go : (b : Bool) → is_blocking φ x ≡ b → false ≡ b
      go true t = absurd (not_full ((full_iff x e).1 (λ h k l. (blocking_iff φ x table are (rw e at p.small)).0 t (passed + h) (omega arith))))
      go false t = refl

-- which a word tells, and four words, where `seen` has those past the last clause
module _ {table : List ℕ} {count c passed seen r : ℕ} (p : Passed table count c passed) (small : r < 2 ^ 64) where
  past : (n : ℕ) → seen ≡ from n → (h : ℕ) → h < 64 → has seen h ≡ leb n h
  past n e h k = ap (λ s. has s h) e ∙ from_has n h k

  pub word_full : seen ≡ from (count - passed)
      → ((x : List ℕ) → c ≡ mask x → (h : ℕ) → has r h ≡ (has seen h || some_of (opposes table passed h) x))
      → (x : List ℕ) → c ≡ mask x → (r ≡ 2 ^ 64 - 1) ↔ AllOpposed table x count passed 64
  word_full is has_r x e =
      block_iff table x count passed r p.aligned small (λ h k. has_r x e h ∙ ap (◌|| some_of (opposes table passed h) x) (past (count - passed) is h k))

  pub four_full : passed + 192 < count → seen ≡ from (count - passed - 192)
      → ((x : List ℕ) → c ≡ mask x → (h : ℕ) → has r h ≡ ((some_of (opposes table passed h) x && some_of (opposes table (passed + 64) h) x)
      && (some_of (opposes table (passed + 128) h) x && (has seen h || some_of (opposes table (passed + 192) h) x))))
      → (x : List ℕ) → c ≡ mask x → (r ≡ 2 ^ 64 - 1) ↔ AllOpposed table x count passed 256
  four_full before is has_r x e =
      let left : count - passed - 192 ≡ count - (passed + 192) = omega arith in
      four_iff table x count passed r p.aligned small before
      (λ h k. has_r x e h
      ∙ ap (λ t. (some_of (opposes table passed h) x && some_of (opposes table (passed + 64) h) x)
      && (some_of (opposes table (passed + 128) h) x && (t || some_of (opposes table (passed + 192) h) x)))
      (past (count - (passed + 192)) (is ∙ ap from left) h k))

pub over : {table : List ℕ} {count c passed : ℕ} → Passed table count c passed → count ≤ passed → AnswersBlocking table count c true
over {table} p none φ x are size e =
    sym ((blocking_iff φ x table are (rw e at p.small)).1 (λ h k. p.each x e h (omega arith) (omega arith)))
