-- The elements of a list that pass a test, in this order: which they are, and how many; where all pass, and where none
-- does; tests that agree; of one element and of an appended list, and so one more at a time, as a loop takes them. Not
-- here: whether some element passes (SomeLaws, Membership). Assumes nothing.
use Prim.Native.Nat.{ℕ, suc, ◌+◌, ◌≤◌, ◌<◌, zero-le}
use native.Mathlib.Numerals.{add-one}
use native.Mathlib.Omega.{arith}
use mathlib.Core.Path.{◌≡◌, refl, sym, ap, ap₂, ◌∙◌}
use mathlib.Core.Logic.{◌↔◌, ⊎_elim}
use mathlib.Core.Bool.{Bool, true, false, false≢true, cond}
use mathlib.Core.List.Memᴰ
use mathlib.Core.List.{List, [], ◌∷◌, ◌++◌}
use lib.ListN.{length, get_or, take}
use lib.Seq.{take-suc}
use Rattle.formula.specs.Formula.{◌∈◌, those}
use Rattle.formula.specs.Nodes.{Every}

module _ {A : Type 0} (f : A → Bool) where
  pub those_iff : (x : A) (xs : List A) → (x ∈ those f xs) ↔ ((x ∈ xs) × (f x ≡ true))
  unfolding those
  those_iff x [] = (λ m. absurd (Memᴰ.not-nil m), λ h. h.0)
  those_iff x (y ∷ ys) = go (f y) refl (those_iff x ys)
    where
      go : (b : Bool) → f y ≡ b → (x ∈ those f ys) ↔ ((x ∈ ys) × (f x ≡ true))
          → (x ∈ cond b (y ∷ those f ys) (those f ys)) ↔ ((x ∈ y ∷ ys) × (f x ≡ true))
      go true e ih = (
        λ m. ⊎_elim (λ h. (Memᴰ.head h, ap f h ∙ e)) (λ j. (Memᴰ.tail (ih.0 j).0, (ih.0 j).1)) (Memᴰ.cases_cons m),
        λ h. ⊎_elim Memᴰ.head (λ j. Memᴰ.tail (ih.1 (j, h.1))) (Memᴰ.cases_cons h.0),
      )
      go false e ih = (
        λ m. (Memᴰ.tail (ih.0 m).0, (ih.0 m).1),
        λ h. ⊎_elim (λ j. absurd (false≢true (sym e ∙ ap f (sym j) ∙ h.1))) (λ j. ih.1 (j, h.1)) (Memᴰ.cases_cons h.0),
      )

  pub those_few : (xs : List A) → length (those f xs) ≤ length xs
  unfolding those
  those_few [] = zero-le
  those_few (x ∷ xs) = go (f x) (those_few xs)
    where
      go : (b : Bool) → length (those f xs) ≤ length xs → length (cond b (x ∷ those f xs) (those f xs)) ≤ suc (length xs)
      go true h = omega arith
      go false h = omega arith

  pub those_all : (xs : List A) → Every (λ x. f x ≡ true) xs → those f xs ≡ xs
  unfolding those
  those_all [] h = refl
  those_all (x ∷ xs) h = rw (h x (Memᴰ.head refl)) (ap (x ∷◌) (those_all xs (λ y m. h y (Memᴰ.tail m))))

  pub those_none : (xs : List A) → Every (λ x. f x ≡ false) xs → those f xs ≡ []
  unfolding those
  those_none [] h = refl
  those_none (x ∷ xs) h = rw (h x (Memᴰ.head refl)) (those_none xs (λ y m. h y (Memᴰ.tail m)))

  pub those_same : (g : A → Bool) (xs : List A) → Every (λ x. f x ≡ g x) xs → those f xs ≡ those g xs
  unfolding those
  those_same g [] h = refl
  those_same g (x ∷ xs) h = ap₂ (λ b ys. cond b (x ∷ ys) ys) (h x (Memᴰ.head refl)) (those_same g xs (λ y m. h y (Memᴰ.tail m)))

  pub those_one : (x : A) → those f (x ∷ []) ≡ cond (f x) (x ∷ []) []
  unfolding those
  those_one x = refl

  pub those_append : (xs ys : List A) → those f (xs ++ ys) ≡ those f xs ++ those f ys
  unfolding those
  those_append [] ys = refl
  those_append (x ∷ xs) ys = go (f x) (those_append xs ys)
    where
      go : (b : Bool) → those f (xs ++ ys) ≡ those f xs ++ those f ys
          → cond b (x ∷ those f (xs ++ ys)) (those f (xs ++ ys)) ≡ cond b (x ∷ those f xs) (those f xs) ++ those f ys
      go true h = ap (x ∷◌) h
      go false h = h

  -- of the first i + 1 elements, where d stands past the end
  pub those_next : (xs : List A) (i : ℕ) (d : A) → i < length xs
      → those f (take (i + 1) xs) ≡ those f (take i xs) ++ cond (f (get_or xs i d)) (get_or xs i d ∷ []) []
  those_next xs i d less =
      ap (λ n. those f (take n xs)) (add-one i) ∙ ap (those f) (take-suc xs i d less)
      ∙ those_append (take i xs) (get_or xs i d ∷ []) ∙ ap (those f (take i xs) ++◌) (those_one (get_or xs i d))
