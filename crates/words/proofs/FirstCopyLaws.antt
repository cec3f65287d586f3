-- The first copy in a list: one element at a time, as a loop takes them; where nothing is the same; that there is none
-- exactly where the list has no copies. Assumes nothing.
use mathlib.Core.Path.{◌≡◌, refl, sym, ap, ◌∙◌}
use mathlib.Core.Logic.{◌↔◌}
use mathlib.Core.Bool.{Bool, true, false, or-false as or_nothing}
use mathlib.Core.List.Memᴰ
use mathlib.Core.List.{List, [], ◌∷◌, ◌++◌}
use Rattle.std.specs.Prelude.{None, Some}
use Rattle.std.proofs.lemmas.Option.{none-some}
use Prim.Native.Nat.{ℕ, ◌+◌}
use Rattle.formula.specs.Formula.{some_of, ◌∈◌}
use Rattle.formula.specs.Nodes.{Every}
use Rattle.formula.proofs.SomeLaws.{or_false, some_of_append}
use Rattle.formula.proofs.Membership.{of_none}
use Rattle.formula.proofs.NodesLaws.{every_cons}
use Rattle.formula.proofs.CopyLaws.{NoCopies, empty, next}
use Rattle.words.specs.Walk.{later, first_copy_after, first_copy}
use Rattle.words.proofs.WalkLaws.{later_none, from, from_here, from_later}

module _ {A : Type 0} (same : A → A → Bool) (before : List A) where
  copy_step : (x : A) (xs : List A) → some_of (λ y. same y x) before ≡ true → first_copy_after same before (x ∷ xs) ≡ Some 0
  unfolding first_copy_after
  copy_step x xs t = rw (t, first_copy_after)

  new_step : (x : A) (xs : List A) → some_of (λ y. same y x) before ≡ false
      → first_copy_after same before (x ∷ xs) ≡ later (first_copy_after same (before ++ (x ∷ [])) xs)
  unfolding first_copy_after
  new_step x xs t = rw (t, first_copy_after)

  -- k elements are passed, x is at hand, and ys is what is left
  module _ (k : ℕ) {x : A} {xs ys : List A} where
    pub copy_here : ys ≡ x ∷ xs → some_of (λ y. same y x) before ≡ true → from k (first_copy_after same before ys) ≡ Some k
    copy_here e t = rw (e, copy_step x xs t) (from_here k)

    pub copy_later : ys ≡ x ∷ xs → some_of (λ y. same y x) before ≡ false
        → from (k + 1) (first_copy_after same (before ++ (x ∷ [])) xs) ≡ from k (first_copy_after same before ys)
    copy_later e t = rw (e, new_step x xs t) (sym (from_later k (first_copy_after same (before ++ (x ∷ [])) xs)))

  pub copy_over : (k : ℕ) {ys : List A} → ys ≡ [] → from k (first_copy_after same before ys) ≡ None
  unfolding first_copy_after from
  copy_over k e = rw e

-- where no two are the same there is no copy
pub none_same : {A : Type 0} (same : A → A → Bool) → ((x y : A) → same x y ≡ false) → (before xs : List A) → first_copy_after same before xs ≡ None
unfolding first_copy_after
none_same same h before [] = refl
none_same same h before (x ∷ xs) =
    new_step same before x xs (of_none (λ y. same y x) before (λ y _. h y x)) ∙ ap later (none_same same h (before ++ (x ∷ [])) xs)

-- none is a copy of one before the list
abbrev NewAfter : {A : Type 0} → (A → A → Bool) → List A → List A → Type 0
NewAfter same before xs = Every (λ x. some_of (λ y. same y x) before ≡ false) xs

module _ {A : Type 0} (same : A → A → Bool) where
  no_copy : (before : List A) {xs : List A} → NoCopies same xs → NewAfter same before xs → first_copy_after same before xs ≡ None
  unfolding first_copy_after some_of
  no_copy before empty new = refl
  no_copy before (next {x = x} {xs = xs} other rest) new =
      let (here, there) = (every_cons (λ x. some_of (λ y. same y x) before ≡ false) x xs).1 new in
      new_step same before x xs here ∙ ap later (no_copy (before ++ (x ∷ [])) rest (λ y m. more y (there y m) (other y m)))
    where
      more : (y : A) → some_of (λ z. same z y) before ≡ false → same x y ≡ false → some_of (λ z. same z y) (before ++ (x ∷ [])) ≡ false
      more y b e = some_of_append (λ z. same z y) before (x ∷ []) ∙ rw (b, e)

  copy_none : (before xs : List A) → first_copy_after same before xs ≡ None → NoCopies same xs × NewAfter same before xs
  unfolding some_of
  copy_none before [] e = (empty, λ x m. absurd (Memᴰ.not-nil m))
  copy_none before (x ∷ xs) e = go (some_of (λ y. same y x) before) refl (copy_none (before ++ (x ∷ [])) xs)
    where
      go : (t : Bool) → some_of (λ y. same y x) before ≡ t
          → (first_copy_after same (before ++ (x ∷ [])) xs ≡ None → NoCopies same xs × NewAfter same (before ++ (x ∷ [])) xs)
          → NoCopies same (x ∷ xs) × NewAfter same before (x ∷ xs)
      go true t ih = absurd (none-some 0 (sym (sym (copy_step same before x xs t) ∙ e)))
      go false t ih =
          let (rest, new) = ih (later_none _ (sym (new_step same before x xs t) ∙ e)) in
          let parts : (y : A) → y ∈ xs → (some_of (λ z. same z y) before ≡ false) × (same x y ≡ false) =
          λ y m.
          let (b, s) = or_false (some_of (λ z. same z y) before) (some_of (λ z. same z y) (x ∷ [])) (sym (some_of_append (λ z. same z y) before (x ∷ [])) ∙ new y m) in
          (b, sym (or_nothing (same x y)) ∙ s)
          in
          (next (λ y m. (parts y m).1) rest, (every_cons (λ x. some_of (λ y. same y x) before ≡ false) x xs).0 (t, λ y m. (parts y m).0))

  pub first_copy_iff : (xs : List A) → (first_copy same xs ≡ None) ↔ NoCopies same xs
  unfolding some_of
  first_copy_iff xs = (λ e. (copy_none [] xs e).0, λ h. no_copy [] h (λ x _. refl))
