-- Lists without copies, and of each element the first: which elements it has, and how many; that it has no copies, and
-- is the list itself where that has none; and of one element more, as a loop takes them. Elements are the same where
-- `same` says so; for most that is where a key of them is. Not here: the place of the first copy (words,
-- FirstCopyLaws). Assumes nothing.
use Prim.Native.Nat.{◌≤◌, zero-le}
use native.Mathlib.Omega.{arith}
use mathlib.Core.Path.{◌≡◌, refl, sym, ap, ◌∙◌}
use mathlib.Core.Logic.{◌↔◌, ⊎_elim}
use mathlib.Core.Bool.{Bool, true, false, cond, not, ◌||◌}
use mathlib.Core.List.Memᴰ
use mathlib.Core.List.{List, [], ◌∷◌, ◌++◌, map}
use lib.ListN.{length}
use borrow.Author.Tests.{not-true}
use Rattle.formula.specs.Formula.{some_of, ◌∈◌, those, first_of_each}
use Rattle.formula.specs.Nodes.{Every}
use Rattle.formula.proofs.ThoseLaws.{those_iff, those_few, those_all, those_append}

-- no element is the same as an earlier one
pub data NoCopies {A : Type 0} (same : A → A → Bool) : List A → Type 0 where
  empty : NoCopies same []
  next : {x : A} {xs : List A} → Every (λ y. same x y ≡ false) xs → NoCopies same xs → NoCopies same (x ∷ xs)

no_copies_parts : {A : Type 0} {same : A → A → Bool} {x : A} {xs : List A} → NoCopies same (x ∷ xs) → Every (λ y. same x y ≡ false) xs × NoCopies same xs
no_copies_parts (next other rest) = (other, rest)

-- elements that are the same where their keys are: a list of them and the list of their keys
pub no_copies_map : {A B : Type 0} (same : B → B → Bool) (key : A → B) (xs : List A) → NoCopies (λ x y. same (key x) (key y)) xs ↔ NoCopies same (map key xs)
no_copies_map same key [] = (λ _. empty, λ _. empty)
no_copies_map same key (x ∷ xs) = (
  λ h.
      let (other, rest) = no_copies_parts h in
      next (λ k m. let (y, n, e) = Memᴰ.of_map key xs m in rw e at (other y n)) ((no_copies_map same key xs).0 rest),
  λ h.
      let (other, rest) = no_copies_parts h in
      next (λ y m. other (key y) (Memᴰ.map key m)) ((no_copies_map same key xs).1 rest),
)

module _ {A : Type 0} (same : A → A → Bool) where
  -- there are none among those that pass a test
  pub those_no_copies : (f : A → Bool) {xs : List A} → NoCopies same xs → NoCopies same (those f xs)
  unfolding those
  those_no_copies f empty = empty
  those_no_copies f (next {x = x} {xs = xs} other rest) = go (f x) (those_no_copies f rest)
    where
      go : (t : Bool) → NoCopies same (those f xs) → NoCopies same (cond t (x ∷ those f xs) (those f xs))
      go true h = next (λ y m. other y ((those_iff f y xs).0 m).0) h
      go false h = h

  -- Of each element the first

  pub first_of_each_in : (x : A) (xs : List A) → x ∈ first_of_each same xs → x ∈ xs
  unfolding first_of_each
  first_of_each_in x [] m = m
  first_of_each_in x (y ∷ ys) m =
      ⊎_elim Memᴰ.head (λ n. Memᴰ.tail (first_of_each_in x ys ((those_iff (λ z. not (same y z)) x (first_of_each same ys)).0 n).0)) (Memᴰ.cases_cons m)

  pub first_of_each_few : (xs : List A) → length (first_of_each same xs) ≤ length xs
  unfolding first_of_each
  first_of_each_few [] = zero-le
  first_of_each_few (x ∷ xs) = omega (arith, those_few (λ y. not (same x y)) (first_of_each same xs), first_of_each_few xs)

  pub first_of_each_no_copies : (xs : List A) → NoCopies same (first_of_each same xs)
  unfolding first_of_each
  first_of_each_no_copies [] = empty
  first_of_each_no_copies (x ∷ xs) =
      next (λ y m. not-true (same x y) ((those_iff (λ y. not (same x y)) y (first_of_each same xs)).0 m).1) (those_no_copies (λ y. not (same x y)) (first_of_each_no_copies xs))

  pub first_of_each_itself : {xs : List A} → NoCopies same xs → first_of_each same xs ≡ xs
  unfolding first_of_each
  first_of_each_itself empty = refl
  first_of_each_itself (next {x = x} {xs = xs} other rest) =
      ap (x ∷◌) (ap (those (λ y. not (same x y))) (first_of_each_itself rest) ∙ those_all (λ y. not (same x y)) xs (λ y m. ap not (other y m)))

  -- one element more is left out where it is the same as an earlier one
  pub first_of_each_next : (xs : List A) (x : A)
      → first_of_each same (xs ++ (x ∷ [])) ≡ first_of_each same xs ++ cond (some_of (λ y. same y x) xs) [] (x ∷ [])
  unfolding first_of_each some_of those
  first_of_each_next [] x = refl
  first_of_each_next (y ∷ ys) x =
      ap (y ∷◌)
      (ap (those new) (first_of_each_next ys x) ∙ those_append new (first_of_each same ys) (cond (some_of (λ y. same y x) ys) [] (x ∷ []))
      ∙ ap (those new (first_of_each same ys) ++◌) (go (same y x) (some_of (λ y. same y x) ys) refl))
    where
      new : A → Bool
      new z = not (same y z)

      go : (s t : Bool) → same y x ≡ s → those new (cond t [] (x ∷ [])) ≡ cond (s || t) [] (x ∷ [])
      go true true e = refl
      go true false e = rw e
      go false true e = refl
      go false false e = rw e

  -- where elements are the same exactly where their keys are, each has the first of its key
  pub first_of_each_key : {B : Type 0} (key : A → B) → ((x y : A) → (same x y ≡ true) ↔ (key x ≡ key y))
      → (x : A) (xs : List A) → x ∈ xs → (y : A) × (y ∈ first_of_each same xs) × (key y ≡ key x)
  unfolding first_of_each
  first_of_each_key key iff x (y ∷ ys) m =
      ⊎_elim (λ e. (y, Memᴰ.head refl, ap key (sym e))) (λ n. later (first_of_each_key key iff x ys n)) (Memᴰ.cases_cons m)
    where
      later : (z : A) × (z ∈ first_of_each same ys) × (key z ≡ key x) → (z : A) × (z ∈ first_of_each same (y ∷ ys)) × (key z ≡ key x)
      later (z, n, e) = go (same y z) refl
        where
          go : (t : Bool) → same y z ≡ t → (z : A) × (z ∈ first_of_each same (y ∷ ys)) × (key z ≡ key x)
          go true s = (y, Memᴰ.head refl, (iff y z).0 s ∙ e)
          go false s = (z, Memᴰ.tail ((those_iff (λ w. not (same y w)) z (first_of_each same ys)).1 (n, ap not s)), e)
  first_of_each_key key iff x [] m = absurd (Memᴰ.not-nil m)
