-- R.3's literals: those of two parents; the rising list of the parents' other literals has exactly those that 004's
-- rule has; and of the clauses whose variables rise it is the only one. Assumes nothing.
use Prim.Native.Nat.{ℕ, ◌+◌, ◌*◌}
use mathlib.Core.Path.{◌≡◌}
use mathlib.Core.Logic.Iff
use mathlib.Core.Logic.{◌⊎◌, ⊎_elim, ⊎_map, ◌↔◌, ◌≢◌}
use mathlib.Core.Bool.{false}
use mathlib.Core.List.Memᴰ
use mathlib.Core.List.{List, ◌++◌}
use Rattle.formula.specs.Formula.{◌∈◌, unordered, without, rising}
use Rattle.formula.proofs.Membership.{without_iff}
use Rattle.formula.proofs.OrderLaws.{ordered_ascends, rising_in, rising_iff}
use Rattle.resolution.specs.Resolution.{remainder, Resolves}
use Rattle.resolution.specs.Claims.{OtherLiterals}

pub remainder_iff : (l a b : ℕ) (s t : List ℕ) → (l ∈ without a s ++ without b t) ↔ (((l ∈ s) × (l ≢ a)) ⊎ ((l ∈ t) × (l ≢ b)))
remainder_iff l a b s t = (
  λ m. ⊎_map (without_iff l a s).0 (without_iff l b t).0 (Memᴰ.append_cases (without a s) m),
  ⊎_elim (λ h. Memᴰ.append_left (without b t) ((without_iff l a s).1 h)) (λ h. Memᴰ.append_right (without a s) ((without_iff l b t).1 h)),
)

module _ (v : ℕ) (s t c : List ℕ) where
  rising_others : c ≡ rising (remainder v s t) → OtherLiterals v s t c
  rising_others e l = rw e (Iff.trans (rising_in l (remainder v s t)) (remainder_iff l (2 * v + 1) (2 * v) s t))

  -- where the variables of c rise, as in each line that passes 16
  pub others_iff : unordered c ≡ false → (c ≡ rising (remainder v s t)) ↔ OtherLiterals v s t c
  others_iff ordered = (
    rising_others,
    λ others.
        (rising_iff c (remainder v s t)).1
        (ordered_ascends c ordered, λ l. Iff.trans (others l) (Iff.symm (remainder_iff l (2 * v + 1) (2 * v) s t))),
  )

pub resolves_others : {v : ℕ} {s t c : List ℕ} → Resolves v s t c → OtherLiterals v s t c
resolves_others {v} {s} {t} {c} r = rising_others v s t c r.others
