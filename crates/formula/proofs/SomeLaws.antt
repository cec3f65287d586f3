-- The answers of tests; then tests over a list. First as a loop takes them, one element at a time, where ys is what is
-- left: some_of, repeats. Then a test that no element passes, by the elements' places, and of an appended or a mapped
-- list. Not here: a test as a statement on the elements (Membership). Assumes nothing.
use Prim.Native.Nat.{ℕ, suc, ◌<◌}
use native.Mathlib.Omega.{arith}
use mathlib.Core.Path.{◌≡◌, refl, ap, sym, ◌∙◌}
use mathlib.Core.Logic.{◌↔◌}
use mathlib.Core.Bool.{Bool, true, false, true≢false, not, ◌||◌, or_assoc}
use mathlib.Core.List.{List, [], ◌∷◌, ◌++◌, map}
use lib.ListN.{length, get_or}
use borrow.Author.Tests.{not-true, not-false}
use Rattle.formula.specs.Formula.{some_of, all_of, repeats}

-- two answers that are true together are equal, and so are two that are false together
pub same_truth : {s t : Bool} → (s ≡ true) ↔ (t ≡ true) → s ≡ t
same_truth {s = true} e = sym (e.0 refl)
same_truth {s = false} {t = true} e = e.1 refl
same_truth {s = false} {t = false} e = refl

pub same_falsity : {s t : Bool} → (s ≡ false) ↔ (t ≡ false) → s ≡ t
same_falsity {s = false} e = sym (e.0 refl)
same_falsity {s = true} {t = false} e = e.1 refl
same_falsity {s = true} {t = true} e = refl

pub or_swap : (r s t : Bool) → r || (s || t) ≡ s || (r || t)
or_swap true true t = refl
or_swap true false t = refl
or_swap false s t = refl

-- a test t whose answer r is branched on by its negation
module _ {r t : Bool} (e : r ≡ t) where
  pub test_failed : not r ≡ true → t ≡ false
  test_failed h = sym e ∙ not-true r h

  pub test_passed : not r ≡ false → t ≡ true
  test_passed h = sym e ∙ not-false r h

module _ {A : Type 0} (f : A → Bool) {x : A} {xs ys : List A} where
  -- the element at hand passes
  pub some_here : ys ≡ x ∷ xs → f x ≡ true → some_of f ys ≡ true
  unfolding some_of
  some_here e t = ap (some_of f) e ∙ ap (◌|| some_of f xs) t

  -- it does not
  pub some_later : ys ≡ x ∷ xs → f x ≡ false → some_of f xs ≡ some_of f ys
  unfolding some_of
  some_later e t = sym (ap (some_of f) e ∙ ap (◌|| some_of f xs) t)

-- none is left
pub some_over : {A : Type 0} (f : A → Bool) {ys : List A} → ys ≡ [] → some_of f ys ≡ false
unfolding some_of
some_over f e = ap (some_of f) e

-- where no literal is left, no variable stands twice
pub repeats_over : {ys : List ℕ} → ys ≡ [] → repeats ys ≡ false
unfolding repeats
repeats_over e = ap repeats e

pub or_false : (s t : Bool) → s || t ≡ false → (s ≡ false) × (t ≡ false)
or_false false t e = (refl, e)
or_false true t e = absurd (true≢false e)

-- where no element passes, the first does not, and none after it
module _ {A : Type 0} (f : A → Bool) (x : A) (xs : List A) (e : some_of f (x ∷ xs) ≡ false) where
  pub none_first : f x ≡ false
  unfolding some_of
  none_first = (or_false (f x) (some_of f xs) e).0

  pub none_rest : some_of f xs ≡ false
  unfolding some_of
  none_rest = (or_false (f x) (some_of f xs) e).1

-- by places: where the element at each place fails, none passes, and where it passes, all do
pub none_by_places : {A : Type 0} (f : A → Bool) (d : A) (xs : List A) → ((k : ℕ) → k < length xs → f (get_or xs k d) ≡ false) → some_of f xs ≡ false
unfolding some_of
none_by_places f d [] h = refl
none_by_places f d (x ∷ xs) h = rw (h 0 (omega arith)) (none_by_places f d xs (λ k l. h (suc k) (omega arith)))

pub all_by_places : {A : Type 0} (f : A → Bool) (d : A) (xs : List A) → ((k : ℕ) → k < length xs → f (get_or xs k d) ≡ true) → all_of f xs ≡ true
unfolding all_of
all_by_places f d [] h = refl
all_by_places f d (x ∷ xs) h = rw (h 0 (omega arith)) (all_by_places f d xs (λ k l. h (suc k) (omega arith)))

-- a test that fails wherever one that no element passes does
pub none_implied : {A : Type 0} (f g : A → Bool) → ((x : A) → f x ≡ false → g x ≡ false) → (xs : List A) → some_of f xs ≡ false → some_of g xs ≡ false
unfolding some_of
none_implied f g h [] e = refl
none_implied f g h (x ∷ xs) e = rw (h x (none_first f x xs e)) (none_implied f g h xs (none_rest f x xs e))

pub some_of_append : {A : Type 0} (f : A → Bool) (xs ys : List A) → some_of f (xs ++ ys) ≡ (some_of f xs || some_of f ys)
unfolding some_of
some_of_append f [] ys = refl
some_of_append f (x ∷ xs) ys = ap (f x ||◌) (some_of_append f xs ys) ∙ sym (or_assoc (f x) (some_of f xs) (some_of f ys))

pub some_of_map : {A B : Type 0} (f : B → Bool) (g : A → B) (xs : List A) → some_of f (map g xs) ≡ some_of (λ x. f (g x)) xs
unfolding some_of
some_of_map f g [] = refl
some_of_map f g (x ∷ xs) = ap (f (g x) ||◌) (some_of_map f g xs)
