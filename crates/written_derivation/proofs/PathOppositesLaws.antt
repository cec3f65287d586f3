-- The opposites of a path. First for values of any size: where each stands, one more value, one variable later. Then
-- for values 0 and 1: they are the literals that the path falsifies, one of each variable; their variables rise; and
-- their level.
-- Assumes nothing.
use Prim.Native.Nat.{ℕ, zero, suc, ◌+◌, ◌*◌, ◌%◌, ◌≤◌, ◌<◌}
use native.Mathlib.Nat.{le_antisymm}
use native.Mathlib.Omega.{arith}
use mathlib.Core.Path.{◌≡◌, refl, sym, ap, ap₂, ◌∙◌}
use mathlib.Core.Logic.{◌↔◌, ⊎_elim}
use mathlib.Core.Bool.{false, ◌||◌}
use mathlib.Core.List.Memᴰ
use mathlib.Core.List.{List, [], ◌∷◌, ◌++◌, map}
use lib.Dec.{leb}
use lib.ListN.{length, get_or}
use borrow.Author.Tests.{lt-leb}
use Rattle.formula.specs.Formula.{variable, opposite, unordered, ◌∈◌}
use Rattle.formula.specs.Nodes.{TrueLiteral, FalseLiteral, Every}
use Rattle.formula.proofs.OrderLaws.{OneOfEach, opposite_is}
use Rattle.formula.proofs.Membership.{of_none, get_or_in}
use Rattle.resolution.specs.Resolution.{level}
use Rattle.resolution.proofs.Levels.{level_above, level_least}
use Rattle.written_derivation.specs.Writing.{path_opposites_from, path_opposites}

-- For values of any size

-- the literal at place i is that of variable v + i
opposite_found : (v : ℕ) (p : List ℕ) (l : ℕ) → l ∈ path_opposites_from v p → (i : ℕ) × (i < length p) × (l ≡ 2 * (v + i) + get_or p i 0)
unfolding path_opposites_from
opposite_found v [] l m = absurd (Memᴰ.not-nil m)
opposite_found v (x ∷ p) l m =
    ⊎_elim
    (λ e. (0, omega arith, omega arith))
    (λ n. let (i, h, e) = opposite_found (suc v) p l n in (suc i, omega arith, omega arith))
    (Memᴰ.cases_cons m)

opposite_stands : (v : ℕ) (p : List ℕ) (i : ℕ) → i < length p → 2 * (v + i) + get_or p i 0 ∈ path_opposites_from v p
unfolding path_opposites_from
opposite_stands v [] i h = absurd (omega arith)
opposite_stands v (x ∷ p) zero h = let e : 2 * (v + 0) + x ≡ 2 * v + x = omega arith in Memᴰ.head e
opposite_stands v (x ∷ p) (suc i) h = Memᴰ.tail (Memᴰ.cast (omega arith) (opposite_stands (suc v) p i (omega arith)))

from_append : (v : ℕ) (p : List ℕ) (x : ℕ) → path_opposites_from v (p ++ (x ∷ [])) ≡ path_opposites_from v p ++ ((2 * (v + length p) + x) ∷ [])
unfolding path_opposites_from
from_append v [] x = let e : v ≡ v + 0 = omega arith in ap (λ w. (2 * w + x) ∷ []) e
from_append v (y ∷ p) x =
    let e : suc v + length p ≡ v + suc (length p) = omega arith in
    ap ((2 * v + y) ∷◌) (from_append (suc v) p x ∙ ap (λ w. path_opposites_from (suc v) p ++ ((2 * w + x) ∷ [])) e)

-- one more value adds its opposite at the end
pub path_opposites_append : (p : List ℕ) (x : ℕ) → path_opposites (p ++ (x ∷ [])) ≡ path_opposites p ++ ((2 * length p + x) ∷ [])
path_opposites_append p x = let e : 0 + length p ≡ length p = omega arith in rw e at (from_append 0 p x)

-- the opposites from the next variable on
pub path_opposites_later : (v : ℕ) (p : List ℕ) → path_opposites_from (suc v) p ≡ map (λ x. suc (suc x)) (path_opposites_from v p)
unfolding path_opposites_from
path_opposites_later v [] = refl
path_opposites_later v (x ∷ p) = ap₂ ◌∷◌ (omega arith) (path_opposites_later (suc v) p)

-- For values 0 and 1

-- every literal of c is among the opposites of p
abbrev pub Falsifies : List ℕ → List ℕ → Type 0
Falsifies p c = (l : ℕ) → l ∈ c → l ∈ path_opposites p

from_ordered : (v : ℕ) (p : List ℕ) → Every (λ x. x < 2) p → unordered (path_opposites_from v p) ≡ false
unfolding path_opposites_from unordered
from_ordered v [] values = refl
from_ordered v (x ∷ p) values =
    ap₂ ◌||◌
    (of_none (λ k. leb (variable k) (variable (2 * v + x))) (path_opposites_from (suc v) p)
    (λ k m. let (i, h, e) = opposite_found (suc v) p k m in lt-leb (variable k) (variable (2 * v + x)) (omega (arith, values x (Memᴰ.head refl)))))
    (from_ordered (suc v) p (λ y m. values y (Memᴰ.tail m)))

module _ (p : List ℕ) (values : Every (λ x. x < 2) p) where
  -- the opposites are the literals that the path falsifies
  pub path_opposites_iff : (l : ℕ) → (l ∈ path_opposites p) ↔ FalseLiteral p l
  path_opposites_iff l = (
    λ m.
        let (i, h, e) = opposite_found 0 p l m in
        let small : get_or p i 0 < 2 = values (get_or p i 0) (get_or_in p i 0 h) in
        let same : variable l ≡ i = omega arith in
        (omega arith, ap (λ j. get_or p j 0) same ∙ omega arith),
    λ h. Memᴰ.cast (omega arith) (opposite_stands 0 p (variable l) h.0),
  )

  -- the opposite of a literal that it satisfies is one of them
  pub true_opposed : (l : ℕ) → TrueLiteral p l → opposite l ∈ path_opposites p
  true_opposed l (set, is) =
      let (same, other) = opposite_is l in
      let small : get_or p (variable l) 0 < 2 = values (get_or p (variable l) 0) (get_or_in p (variable l) 0 set) in
      (path_opposites_iff (opposite l)).1 (rw same (set, omega arith))

  -- it falsifies at most one literal of each variable
  one_false : (l k : ℕ) → FalseLiteral p l → FalseLiteral p k → variable l ≡ variable k → l ≡ k
  one_false l k (set, is) (set', is') e = let same : l % 2 ≡ k % 2 = sym is ∙ ap (λ v. get_or p v 0) e ∙ is' in omega arith

  -- so a clause that it falsifies has at most one
  pub falsified_one_of_each : (c : List ℕ) → Falsifies p c → OneOfEach c
  falsified_one_of_each c falsified l k m n = one_false l k ((path_opposites_iff l).0 (falsified l m)) ((path_opposites_iff k).0 (falsified k n))

  -- their variables rise
  pub path_opposites_ordered : unordered (path_opposites p) ≡ false
  path_opposites_ordered = from_ordered 0 p values

  pub path_opposites_level : level (path_opposites p) ≡ length p
  path_opposites_level = le_antisymm (level_least (length p) (path_opposites p) (λ l m. ((path_opposites_iff l).0 m).0)) (go (length p) refl)
    where
      go : (n : ℕ) → length p ≡ n → n ≤ level (path_opposites p)
      go zero e = omega arith
      go (suc k) e =
          let small : get_or p k 0 < 2 = values (get_or p k 0) (get_or_in p k 0 (omega arith)) in
          omega (arith, level_above (opposite_stands 0 p k (omega arith)))
