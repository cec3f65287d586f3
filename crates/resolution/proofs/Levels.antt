-- The levels of a resolvent and of its parents. Assumes nothing.
use Prim.Native.Nat.{ℕ, suc, ◌+◌, ◌*◌, ◌≤◌, ◌<◌, zero-le}
use native.Mathlib.Omega.{arith}
use mathlib.Core.Path.{◌≡◌, refl, sym, ap, ◌∙◌}
use mathlib.Core.Logic.{inl, inr, ⊎_elim, ◌≢◌}
use mathlib.Core.Bool.{false}
use mathlib.Core.List.Memᴰ
use mathlib.Core.List.{List, [], ◌∷◌, ◌++◌}
use lib.ListN.{length, take, drop, take-append-drop}
use lib.Seq.{drop-append-le, length-take-le}
use lib.Arith.{lt_of_le-ne}
use Rattle.formula.specs.Formula.{variable, out_of_range, ◌∈◌}
use Rattle.formula.specs.Quantifier.{Quantifier}
use Rattle.formula.proofs.Membership.{in_range_iff}
use Rattle.formula.proofs.OrderLaws.{one_of_each_iff}
use Rattle.resolution.specs.Resolution.{level, NonTautological, Resolves}
use Rattle.resolution.proofs.Others.{resolves_others}

pub level_above : {l : ℕ} {c : List ℕ} → l ∈ c → variable l < level c
unfolding level
level_above {l} (Memᴰ.head {x = k} {xs = ks} e) = omega arith
level_above {l} (Memᴰ.tail {x = k} {xs = ks} m) = omega (arith, level_above m)

pub level_least : (n : ℕ) (c : List ℕ) → ((l : ℕ) → l ∈ c → variable l < n) → level c ≤ n
unfolding level
level_least n [] h = zero-le
level_least n (k ∷ ks) h = omega (arith, h k (Memᴰ.head refl), level_least n ks (λ l m. h l (Memᴰ.tail m)))

pub level_within : (n : ℕ) (c : List ℕ) → out_of_range n c ≡ false → level c ≤ n
level_within n c e = level_least n c (λ l m. omega (arith, (in_range_iff n c).0 e l m))

-- what the two parents of a resolvent c on v have in common: s holds a literal k of v, no variable after v, and its
-- other literals are in c
pub record Parent (v k : ℕ) (s c : List ℕ) : Type 0 where
  pub holds : k ∈ s
  pub of : variable k ≡ v
  pub last : (l : ℕ) → l ∈ s → variable l ≤ v
  pub others : (l : ℕ) → (l ∈ s) × (l ≢ k) → l ∈ c

pub true_parent : {v : ℕ} {s t c : List ℕ} → Resolves v s t c → Parent v (2 * v + 1) s c
true_parent r = record { holds = r.true_side; of = omega arith; last = r.true_last; others = λ l h. (resolves_others r l).1 (inl h) }

pub false_parent : {v : ℕ} {s t c : List ℕ} → Resolves v s t c → Parent v (2 * v) t c
false_parent r = record { holds = r.false_side; of = omega arith; last = r.false_last; others = λ l h. (resolves_others r l).1 (inr h) }

pub parent_level : {v k : ℕ} {s c : List ℕ} → Parent v k s c → level s ≡ suc v
parent_level {v} {s} r = omega (arith, r.of, level_above r.holds, level_least (suc v) s (λ l m. omega (arith, r.last l m)))

others_before : {v k : ℕ} {s c : List ℕ} → Parent v k s c → NonTautological s → (l : ℕ) → (l ∈ s) × (l ≢ k) → variable l < v
others_before {k} {s} r non_taut l (m, n) =
    lt_of_le-ne (r.last l m) (λ e. n ((one_of_each_iff s).1 non_taut l k m r.holds (e ∙ sym r.of)))

pub resolvent_level : {v : ℕ} {s t c : List ℕ} → Resolves v s t c → NonTautological s → NonTautological t → level c ≤ v
resolvent_level {v} {c} r s_non_taut t_non_taut =
    level_least v c (λ l m. ⊎_elim (others_before (true_parent r) s_non_taut l) (others_before (false_parent r) t_non_taut l) ((resolves_others r l).0 m))

-- the prefix from level i on, parted at level v
pub prefix_parts : (qs : List Quantifier) (i v : ℕ) → i ≤ v → v ≤ length qs → drop i qs ≡ drop i (take v qs) ++ drop v qs
prefix_parts qs i v h k =
    let within : i ≤ length (take v qs) = rw (length-take-le v qs k) h in
    sym (ap (drop i) (take-append-drop v qs)) ∙ drop-append-le i (take v qs) (drop v qs) within
