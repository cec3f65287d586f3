-- `alone` meets its contract: one less than the set, without borrow, is what is left without its least number. Assumes
-- nothing.
use Rattle.std.proofs.Common.{◌≡◌, ℕ, ◌+◌, ◌-◌, ◌%◌, ◌^◌, ◌<◌, sym, ap, ◌∙◌, arith, eq-eqb, ne_eqb}
use native.Mathlib.Decide.{ℕ_discrete}
use lib.Bits.{bit_and}
use Rattle.bit_set.specs.BitSet.{alone}
use Rattle.bit_set.proofs.alone.Goals as goal

one_less : (s r : ℕ) → r < 2 ^ 64 → (r + 1) % 2 ^ 64 ≡ s → bit_and s r ≡ bit_and s (s - 1)
one_less s r h e = go (ℕ_discrete s 0)
  where
    go : Dec (s ≡ 0) → bit_and s r ≡ bit_and s (s - 1)
    go (yes z) = rw z
    go (no n) = let less : r ≡ s - 1 = omega arith in ap (bit_and s) less

pub returns-then-set-wrapping_sub_u64-eq0 : goal.returns-then-set-wrapping_sub_u64-eq0
unfolding alone
returns-then-set-wrapping_sub_u64-eq0 c =
    rw (eq-eqb _ 0 (sym (one_less _ _ (omega arith) c.wrapping_sub_u64.ensures.value) ∙ c.if-set-wrapping_sub_u64-eq0.true))

pub returns-else-set-wrapping_sub_u64-eq0 : goal.returns-else-set-wrapping_sub_u64-eq0
unfolding alone
returns-else-set-wrapping_sub_u64-eq0 c =
    rw (ne_eqb _ 0 (λ e. c.if-set-wrapping_sub_u64-eq0.false (one_less _ _ (omega arith) c.wrapping_sub_u64.ensures.value ∙ e)))
