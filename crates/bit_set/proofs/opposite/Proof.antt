-- `opposite` meets its contract: the lowest digit is turned over. Assumes nothing.
use Rattle.std.proofs.Common.{◌≡◌, ℕ, zero, suc, ◌+◌, ◌-◌, ◌*◌, ◌/◌, ◌%◌, ◌<◌, cond, eqb, refl, ap, ◌∙◌, arith}
use lib.Bits.{differ, bit_xor, xor_step, xor_zero_r}
use Rattle.formula.specs.Formula.{opposite}
use Rattle.bit_set.proofs.opposite.Statement.{statement}
use Rattle.bit_set.proofs.opposite.Tie as tie

turned : (l : ℕ) → bit_xor l 1 ≡ opposite l
turned l = xor_step l 1 ∙ ap (λ x. x * 2 + differ (l % 2) 1) (xor_zero_r (l / 2)) ∙ go (l % 2) refl (omega arith)
  where
    go : (d : ℕ) → l % 2 ≡ d → d < 2 → l / 2 * 2 + differ d 1 ≡ cond (eqb d 0) (l + 1) (l - 1)
    go zero e h = omega arith
    go (suc zero) e h = omega arith
    go (suc (suc d)) e h = absurd (omega arith)

returns : tie.Need-returns
returns c = turned c.args.l

pub opposite_spec : {M : Type 1} → statement M
opposite_spec = tie.close (tie.spec returns)
