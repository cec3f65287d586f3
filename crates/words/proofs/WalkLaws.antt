-- Elements that stand one after another in a file, for every `next` and `at`: how many there are, where each stands,
-- their first and last ones, some and then more of them, one more of them, and a test that none passes; one element at
-- a time, as a loop takes them; first places, as a loop counts them; and the walk. What fits and what an element is is
-- said by the laws of clauses, of the prefix and of derivation lines. Assumes nothing.
use mathlib.Core.Path.{◌≡◌, refl, sym, ap, ap₂, ◌∙◌}
use mathlib.Core.Bool.{Bool, true, false, cond, ◌||◌}
use mathlib.Core.List.{List, [], ◌∷◌, ◌++◌}
use Rattle.std.specs.Prelude.{Option, None, Some, unwrap_or}
use Rattle.std.proofs.lemmas.Option.{none-some}
use Prim.Native.Nat.{ℕ, zero, suc, ◌+◌, ◌-◌, ◌≤◌, ◌<◌}
use native.Mathlib.Nat.{le_refl, not-suc-le-zero, le_of_suc-le-suc}
use native.Mathlib.Numerals.{add-one}
use native.Mathlib.Omega.{arith}
use lib.Dec.{eqb}
use lib.ListN.{length, get_or, take, drop, take-append-drop}
use borrow.Author.Tests.{eqb-true, eq-eqb, ne_eqb}
use Rattle.formula.specs.Formula.{some_of}
use Rattle.formula.proofs.SomeLaws.{none_first, none_rest, none_by_places}
use Rattle.words.specs.Walk.{start, elements, later, first, walk}

-- Where elements stand

module _ (next : ℕ → ℕ) where
  -- the walk from the second element is the walk from the first, one element later
  pub start_next : (i j : ℕ) → start next (next i) j ≡ start next i (suc j)
  unfolding start
  start_next i zero = refl
  start_next i (suc j) = ap next (start_next i j)

  pub start_zero : (i : ℕ) → start next i 0 ≡ i
  unfolding start
  start_zero i = refl

  pub start_suc : (i j : ℕ) → next (start next i j) ≡ start next i (j + 1)
  unfolding start
  start_suc i j = ap (start next i) (sym (add-one j))

  -- what a step keeps, of the elements left and the word at hand, holds at each element
  pub kept_along : (P : ℕ → ℕ → Type 0) → ((left i : ℕ) → P (suc left) i → P left (next i))
      → (count i j : ℕ) → j ≤ count → P count i → P (count - j) (start next i j)
  unfolding start
  kept_along P keep count i zero h p = let e : count - 0 ≡ count = omega arith in rw e p
  kept_along P keep count i (suc j) h p =
      let e : count - j ≡ suc (count - suc j) = omega arith in
      keep (count - suc j) (start next i j) (rw e at (kept_along P keep count i j (omega arith) p))

  module _ {A : Type 0} (at : ℕ → A) where
    pub elements_length : (left i : ℕ) → length (elements next at left i) ≡ left
    unfolding elements
    elements_length zero i = refl
    elements_length (suc left) i = ap suc (elements_length left (next i))

    pub element_is : (x : A) (left i j : ℕ) → j < left → get_or (elements next at left i) j x ≡ at (start next i j)
    unfolding elements start
    element_is x zero i j h = absurd (not-suc-le-zero h)
    element_is x (suc left) i zero h = refl
    element_is x (suc left) i (suc j) h = element_is x left (next i) j (le_of_suc-le-suc h) ∙ ap at (start_next i j)

    pub elements_take : (k left i : ℕ) → k ≤ left → take k (elements next at left i) ≡ elements next at k i
    unfolding elements
    elements_take zero left i h = refl
    elements_take (suc k) zero i h = absurd (not-suc-le-zero h)
    elements_take (suc k) (suc left) i h = ap (at i ∷◌) (elements_take k left (next i) (le_of_suc-le-suc h))

    pub elements_drop : (k left i : ℕ) → k ≤ left → drop k (elements next at left i) ≡ elements next at (left - k) (start next i k)
    unfolding elements start
    elements_drop zero left i h = let e : left ≡ left - 0 = omega arith in ap (λ n. elements next at n i) e
    elements_drop (suc k) zero i h = absurd (not-suc-le-zero h)
    elements_drop (suc k) (suc left) i h =
        let e : left - k ≡ suc left - suc k = omega arith in
        elements_drop k left (next i) (le_of_suc-le-suc h) ∙ ap₂ (elements next at) e (start_next i k)

    -- some of them and then more
    pub elements_add : (j k i : ℕ) → elements next at (j + k) i ≡ elements next at j i ++ elements next at k (start next i j)
    elements_add j k i =
        let e : j + k - j ≡ k = omega arith in
        sym (take-append-drop j (elements next at (j + k) i))
        ∙ ap₂ ◌++◌ (elements_take j (j + k) i (omega arith)) (elements_drop j (j + k) i (omega arith) ∙ ap (λ n. elements next at n (start next i j)) e)

    -- one more is the next one, at the end
    pub elements_last : (k i : ℕ) → elements next at (suc k) i ≡ elements next at k i ++ (at (start next i k) ∷ [])
    unfolding elements start
    elements_last zero i = refl
    elements_last (suc k) i = ap (at i ∷◌) (elements_last k (next i) ∙ ap (λ w. elements next at k (next i) ++ (at w ∷ [])) (start_next i k))

    -- where no element passes the test, element j does not
    pub none_at : (f : A → Bool) (left i j : ℕ) → j < left → some_of f (elements next at left i) ≡ false → f (at (start next i j)) ≡ false
    unfolding elements start
    none_at f zero i j h e = absurd (not-suc-le-zero h)
    none_at f (suc left) i zero h e = none_first f _ _ e
    none_at f (suc left) i (suc j) h e = ap (λ w. f (at w)) (sym (start_next i j)) ∙ none_at f left (next i) j (le_of_suc-le-suc h) (none_rest f _ _ e)

    -- One element at a time, as a loop that counts down takes them

    pub elements_step : (left i : ℕ) → 0 < left → elements next at left i ≡ at i ∷ elements next at (left - 1) (next i)
    unfolding elements
    elements_step left i h = let e : left ≡ suc (left - 1) = omega arith in ap (λ k. elements next at k i) e

    pub elements_over : (left i : ℕ) → left ≤ 0 → elements next at left i ≡ []
    unfolding elements
    elements_over left i h = let e : left ≡ 0 = omega arith in ap (λ k. elements next at k i) e

    -- and as a loop that counts up takes them: j of `count` are passed, and the next one stands at word i

    pub elements_next : (count j i : ℕ) → j < count → elements next at (count - j) i ≡ at i ∷ elements next at (count - (j + 1)) (next i)
    unfolding elements
    elements_next count j i h = let e : count - j ≡ suc (count - (j + 1)) = omega arith in ap (λ k. elements next at k i) e

    pub elements_passed : (count j i : ℕ) → count ≤ j → elements next at (count - j) i ≡ []
    unfolding elements
    elements_passed count j i h = let e : count - j ≡ 0 = omega arith in ap (λ k. elements next at k i) e

-- First places

pub later_none : (o : Option ℕ) → later o ≡ None → o ≡ None
later_none None e = refl
later_none (Some j) e = absurd (none-some _ (sym e))

later_some : (o : Option ℕ) (i : ℕ) → later o ≡ Some i → (j : ℕ) × (o ≡ Some j) × (suc j ≡ i)
later_some None i e = absurd (none-some i e)
later_some (Some j) i e = (j, refl, ap (λ o. unwrap_or o (suc i)) e)

module _ {A : Type 0} (f : A → Bool) where
  first_passes : (x : A) (xs : List A) → f x ≡ true → first f (x ∷ xs) ≡ Some 0
  unfolding first
  first_passes x xs t = rw (t, first)

  first_fails : (x : A) (xs : List A) → f x ≡ false → first f (x ∷ xs) ≡ later (first f xs)
  unfolding first
  first_fails x xs t = rw (t, first)

  none_here : (x : A) (xs : List A) → first f (x ∷ xs) ≡ None → f x ≡ false
  none_here x xs e = go (f x) refl
    where
      go : (t : Bool) → f x ≡ t → f x ≡ false
      go false t = t
      go true t = absurd (none-some 0 (sym (sym (first_passes x xs t) ∙ e)))

  -- nothing is found exactly where no element passes
  pub first_none : (xs : List A) → first f xs ≡ None → some_of f xs ≡ false
  unfolding some_of
  first_none [] e = refl
  first_none (x ∷ xs) e =
      let t = none_here x xs e in
      rw t (first_none xs (later_none _ (sym (first_fails x xs t) ∙ e)))

  pub none_first_place : (xs : List A) → some_of f xs ≡ false → first f xs ≡ None
  unfolding first
  none_first_place [] e = refl
  none_first_place (x ∷ xs) e = first_fails x xs (none_first f x xs e) ∙ ap later (none_first_place xs (none_rest f x xs e))

  -- by places: the element at i passes, and none before it; or none at all
  pub first_at : (d : A) (xs : List A) (i : ℕ) → i < length xs → ((k : ℕ) → k < i → f (get_or xs k d) ≡ false) → f (get_or xs i d) ≡ true → first f xs ≡ Some i
  first_at d [] i h before t = absurd (omega arith)
  first_at d (x ∷ xs) zero h before t = first_passes x xs t
  first_at d (x ∷ xs) (suc i) h before t =
      first_fails x xs (before 0 (omega arith)) ∙ ap later (first_at d xs i (omega arith) (λ k h. before (suc k) (omega arith)) t)

  pub first_nowhere : (d : A) (xs : List A) → ((k : ℕ) → k < length xs → f (get_or xs k d) ≡ false) → first f xs ≡ None
  first_nowhere d xs fails = none_first_place xs (none_by_places f d xs fails)

  -- what is found passes
  pub first_found : (xs : List A) (i : ℕ) (d : A) → first f xs ≡ Some i → (i < length xs) × (f (get_or xs i d) ≡ true)
  unfolding first
  first_found [] i d e = absurd (none-some i e)
  first_found (x ∷ xs) i d e = go (f x) refl (first_found xs)
    where
      go : (t : Bool) → f x ≡ t → ((j : ℕ) (d : A) → first f xs ≡ Some j → (j < length xs) × (f (get_or xs j d) ≡ true))
          → (i < suc (length xs)) × (f (get_or (x ∷ xs) i d) ≡ true)
      go true t rest = let at : 0 ≡ i = ap (λ o. unwrap_or o 0) (sym (first_passes x xs t) ∙ e) in rw (← at) (omega arith, t)
      go false t rest =
          let (j, found, at) = later_some (first f xs) i (sym (first_fails x xs t) ∙ e) in
          let (h, u) = rest j d found in
          rw (← at) (omega arith, u)

-- where no element passes one of two tests, the first that passes either is the first that passes the other
pub first_either : {A : Type 0} (f g : A → Bool) (xs : List A) → some_of f xs ≡ false → first (λ x. f x || g x) xs ≡ first g xs
unfolding first
first_either f g [] e = refl
first_either f g (x ∷ xs) e = rw (none_first f x xs e, first) (ap (λ o. elim (g x) [ true ↦ Some 0 | false ↦ later o ]) (first_either f g xs (none_rest f x xs e)))

-- what is found in the rest, counted from k
unfoldable pub from : ℕ → Option ℕ → Option ℕ
from k None = None
from k (Some i) = Some (k + i)

pub from_zero : (o : Option ℕ) → from 0 o ≡ o
unfolding from
from_zero None = refl
from_zero (Some i) = ap Some (omega arith)

pub from_here : (k : ℕ) → from k (Some 0) ≡ Some k
unfolding from
from_here k = ap Some (omega arith)

pub from_later : (k : ℕ) (o : Option ℕ) → from k (later o) ≡ from (k + 1) o
unfolding from
from_later k None = refl
from_later k (Some i) = ap Some (omega arith)

-- the first element that passes, one element at a time: ys is what is left
module _ {A : Type 0} (f : A → Bool) (k : ℕ) {x : A} {xs ys : List A} where
  pub first_here : ys ≡ x ∷ xs → f x ≡ true → from k (first f ys) ≡ Some k
  first_here e t = rw (e, first_passes f x xs t) (from_here k)

  pub first_later : ys ≡ x ∷ xs → f x ≡ false → from (k + 1) (first f xs) ≡ from k (first f ys)
  first_later e t = rw (e, first_fails f x xs t) (sym (from_later k (first f xs)))

pub first_over : {A : Type 0} (f : A → Bool) (k : ℕ) {ys : List A} → ys ≡ [] → from k (first f ys) ≡ None
unfolding first from
first_over f k e = rw e

-- The walk

module _ (next : ℕ → ℕ) (fits : ℕ → Bool) (end : ℕ) where
  step_fault : (left i : ℕ) → fits i ≡ false → walk next fits end (suc left) i ≡ Some 0
  unfolding walk
  step_fault left i f = rw (f, walk)

  pub step_on : (left i : ℕ) → fits i ≡ true → walk next fits end (suc left) i ≡ later (walk next fits end left (next i))
  unfolding walk
  step_on left i f = rw (f, walk)

  -- as a loop that counts up takes it: j of `count` elements are passed, and the next one stands at word i
  pub walk_fault : (count j i : ℕ) → j < count → fits i ≡ false → from j (walk next fits end (count - j) i) ≡ Some j
  walk_fault count j i h f =
      let e : count - j ≡ suc (count - (j + 1)) = omega arith in
      rw (e, step_fault (count - (j + 1)) i f) (from_here j)

  pub walk_on : (count j i : ℕ) → j < count → fits i ≡ true
      → from (j + 1) (walk next fits end (count - (j + 1)) (next i)) ≡ from j (walk next fits end (count - j) i)
  walk_on count j i h f =
      let e : count - j ≡ suc (count - (j + 1)) = omega arith in
      rw (e, step_on (count - (j + 1)) i f) (sym (from_later j (walk next fits end (count - (j + 1)) (next i))))

  -- no element is left
  walk_over : (count j i : ℕ) → count ≤ j → walk next fits end (count - j) i ≡ cond (eqb i end) None (Some 0)
  unfolding walk
  walk_over count j i h = let e : count - j ≡ 0 = omega arith in ap (λ k. walk next fits end k i) e

  pub walk_ended : (count j i : ℕ) → count ≤ j → i ≡ end → from j (walk next fits end (count - j) i) ≡ None
  unfolding from
  walk_ended count j i h e = rw (walk_over count j i h, eq-eqb i end e)

  pub walk_not_ended : (count j i : ℕ) → count ≤ j → (i ≡ end → ⊥) → from j (walk next fits end (count - j) i) ≡ Some j
  walk_not_ended count j i h n = rw (walk_over count j i h, ne_eqb i end n) (from_here j)

  -- a walk without fault: each element fits, and the walk from the next one is without fault
  walked_fits : (left i : ℕ) → walk next fits end (suc left) i ≡ None → fits i ≡ true
  walked_fits left i e = go (fits i) refl
    where
      go : (t : Bool) → fits i ≡ t → fits i ≡ true
      go true f = f
      go false f = absurd (none-some 0 (sym (sym (step_fault left i f) ∙ e)))

  walked_rest : (left i : ℕ) → walk next fits end (suc left) i ≡ None → walk next fits end left (next i) ≡ None
  walked_rest left i e = later_none _ (sym (step_on left i (walked_fits left i e)) ∙ e)

  module _ (count i : ℕ) (walked : walk next fits end count i ≡ None) where
    walked_from : (j : ℕ) → j ≤ count → walk next fits end (count - j) (start next i j) ≡ None
    walked_from j h = kept_along next (λ left k. walk next fits end left k ≡ None) walked_rest count i j h walked

    -- element j fits
    pub walked_at : (j : ℕ) → j < count → fits (start next i j) ≡ true
    walked_at j h =
        let e : count - j ≡ suc (count - (j + 1)) = omega arith in
        walked_fits (count - (j + 1)) (start next i j) (rw e at (walked_from j (omega arith)))

    -- and the walk ends at `end`
    pub walked_end : start next i count ≡ end
    walked_end =
        let over = walk_over count count (start next i count) (le_refl count) in
        go (eqb (start next i count) end) refl (sym over ∙ walked_from count (le_refl count))
      where
        go : (t : Bool) → eqb (start next i count) end ≡ t → cond {A = Option ℕ} t None (Some 0) ≡ None → start next i count ≡ end
        go true e _ = eqb-true (start next i count) end e
        go false _ w = absurd (none-some 0 (sym w))
