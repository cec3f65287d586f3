-- The tests on lists, as statements on membership. Assumes nothing.
use Prim.Native.Nat.{ℕ, zero, suc, ◌*◌, ◌<◌}
use native.Mathlib.Nat.{not-suc-le-zero, le_of_suc-le-suc}
use mathlib.Core.Path.{◌≡◌, refl, sym, ap, ap₂, ◌∙◌}
use mathlib.Core.Logic.{◌⊎◌, inl, inr, ⊎_elim, ◌↔◌, ◌≢◌}
use mathlib.Core.Bool.{Bool, true, false, cond, ◌&&◌, ◌||◌, or-true, false≢true}
use mathlib.Core.List.Memᴰ
use mathlib.Core.List.{List, [], ◌∷◌}
use lib.ListN.{length, get_or}
use lib.Dec.{eqb, leb}
use borrow.Author.Tests.{eqb-true, eqb-false, eq-eqb, ne_eqb, leb-false, lt-leb}
use Rattle.formula.specs.Formula.{some_of, ◌∈◌, member, all_of, out_of_range, without}
use Rattle.formula.proofs.SomeLaws.{none_first, none_rest}

pub and_iff : (a b : Bool) → (a && b ≡ true) ↔ ((a ≡ true) × (b ≡ true))
and_iff true b = (λ e. (refl, e), λ e. e.1)
and_iff false b = (λ e. (e, cc), λ e. e.0)

or_cases : (a b : Bool) → a || b ≡ true → (a ≡ true) ⊎ (b ≡ true)
or_cases true b e = inl refl
or_cases false b e = inr e

module _ {A : Type 0} (f : A → Bool) where
  every_of : {x : A} {xs : List A} → x ∈ xs → all_of f xs ≡ true → f x ≡ true
  unfolding all_of
  every_of {x} (Memᴰ.head {x = y} {xs = ys} m) e = let h = (and_iff (f y) (all_of f ys)).0 e in cc
  every_of (Memᴰ.tail {x = y} {xs = ys} m) e = every_of m ((and_iff (f y) (all_of f ys)).0 e).1

  of_every : (xs : List A) → ((x : A) → x ∈ xs → f x ≡ true) → all_of f xs ≡ true
  unfolding all_of
  of_every [] h = refl
  of_every (y ∷ ys) h = (and_iff (f y) (all_of f ys)).1 (h y (Memᴰ.head refl), of_every ys (λ x m. h x (Memᴰ.tail m)))

  pub all_of_iff : (xs : List A) → (all_of f xs ≡ true) ↔ ((x : A) → x ∈ xs → f x ≡ true)
  all_of_iff xs = (λ e x m. every_of m e, of_every xs)

  some_found : (xs : List A) → some_of f xs ≡ true → (x : A) × (x ∈ xs) × (f x ≡ true)
  unfolding some_of
  some_found [] e = absurd (false≢true e)
  some_found (y ∷ ys) e =
      ⊎_elim
      (λ h. (y, Memᴰ.head refl, h))
      (λ h. let (x, m, g) = some_found ys h in (x, Memᴰ.tail m, g))
      (or_cases (f y) (some_of f ys) e)

  found_some : {x : A} {xs : List A} → x ∈ xs → f x ≡ true → some_of f xs ≡ true
  unfolding some_of
  found_some {x} (Memᴰ.head {x = y} {xs = ys} e) h = cc
  found_some (Memᴰ.tail {x = y} m) h = rw (found_some m h, or-true)

  pub some_of_iff : (xs : List A) → (some_of f xs ≡ true) ↔ ((x : A) × (x ∈ xs) × (f x ≡ true))
  some_of_iff xs = (some_found xs, λ w. found_some w.1 w.2)

  pub none_of : {x : A} {xs : List A} → some_of f xs ≡ false → x ∈ xs → f x ≡ false
  none_of e (Memᴰ.head {x = y} {xs = ys} p) = rw p (none_first f y ys e)
  none_of e (Memᴰ.tail {x = y} {xs = ys} m) = none_of (none_rest f y ys e) m

  pub of_none : (xs : List A) → ((x : A) → x ∈ xs → f x ≡ false) → some_of f xs ≡ false
  unfolding some_of
  of_none [] h = refl
  of_none (y ∷ ys) h = rw (h y (Memᴰ.head refl)) (of_none ys (λ x m. h x (Memᴰ.tail m)))

-- tests that agree on the elements
pub some_of_same : {A : Type 0} (f g : A → Bool) (xs : List A) → ((x : A) → x ∈ xs → f x ≡ g x) → some_of f xs ≡ some_of g xs
unfolding some_of
some_of_same f g [] h = refl
some_of_same f g (x ∷ xs) h = ap₂ ◌||◌ (h x (Memᴰ.head refl)) (some_of_same f g xs (λ y m. h y (Memᴰ.tail m)))

-- a clause over n variables has literals under 2n
pub in_range_iff : (n : ℕ) (c : List ℕ) → (out_of_range n c ≡ false) ↔ ((l : ℕ) → l ∈ c → l < 2 * n)
unfolding out_of_range
in_range_iff n c = (
  λ e l m. leb-false (2 * n) l (none_of (leb (2 * n)) e m),
  λ h. of_none (leb (2 * n)) c (λ l m. lt-leb (2 * n) l (h l m)),
)

pub get_or_in : {A : Type 0} (xs : List A) (i : ℕ) (d : A) → i < length xs → get_or xs i d ∈ xs
get_or_in [] i d h = absurd (not-suc-le-zero h)
get_or_in (x ∷ xs) zero d h = Memᴰ.head refl
get_or_in (x ∷ xs) (suc i) d h = Memᴰ.tail (get_or_in xs i d (le_of_suc-le-suc h))

pub member_iff : (l : ℕ) (c : List ℕ) → (member l c ≡ true) ↔ l ∈ c
member_iff l c = (
  λ e. let (k, m, h) = (some_of_iff (eqb l) c).0 e in Memᴰ.cast (eqb-true l k h) m,
  λ m. (some_of_iff (eqb l) c).1 (l, m, eq-eqb l l refl),
)

pub not_member_iff : (l : ℕ) (c : List ℕ) → (member l c ≡ false) ↔ (¬ (l ∈ c))
not_member_iff l c = (λ e m. eqb-false l l (none_of (eqb l) e m) refl, λ n. of_none (eqb l) c (λ k m. ne_eqb l k (λ e. n (Memᴰ.cast e m))))

-- the literals of a clause other than one
pub without_iff : (l k : ℕ) (c : List ℕ) → (l ∈ without k c) ↔ ((l ∈ c) × (l ≢ k))
unfolding without
without_iff l k [] = (λ m. (m, absurd (Memᴰ.not-nil m)), λ h. h.0)
without_iff l k (j ∷ c) = go (eqb j k) refl (without_iff l k c)
  where
    go : (b : Bool) → eqb j k ≡ b → (l ∈ without k c) ↔ ((l ∈ c) × (l ≢ k))
        → (l ∈ cond b (without k c) (j ∷ without k c)) ↔ ((l ∈ j ∷ c) × (l ≢ k))
    go true e ih = (
      λ m. (Memᴰ.tail (ih.0 m).0, (ih.0 m).1),
      λ h. ⊎_elim (λ g. absurd (h.1 (g ∙ eqb-true j k e))) (λ m. ih.1 (m, h.1)) (Memᴰ.cases_cons h.0),
    )
    go false e ih = (
      λ m. ⊎_elim (λ g. (Memᴰ.head g, λ n. eqb-false j k e (sym g ∙ n))) (λ m. (Memᴰ.tail (ih.0 m).0, (ih.0 m).1)) (Memᴰ.cases_cons m),
      λ h. ⊎_elim (λ g. Memᴰ.head g) (λ m. Memᴰ.tail (ih.1 (m, h.1))) (Memᴰ.cases_cons h.0),
    )

-- which are all where it does not have that one
pub without_none : (l : ℕ) (c : List ℕ) → (¬ (l ∈ c)) → without l c ≡ c
unfolding without
without_none l [] none = refl
without_none l (k ∷ ks) none =
    rw (ne_eqb k l (λ e. none (Memᴰ.head (sym e)))) (ap (k ∷◌) (without_none l ks (λ m. none (Memᴰ.tail m))))
