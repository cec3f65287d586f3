-- `from` meets its contract: what is left of all 64 numbers without the x lowest. Assumes nothing.
use Rattle.std.proofs.Common.{◌≡◌, ◌*◌, ◌%◌, ◌^◌, min, arith, pow_pos, rules}
use Rattle.bit_set.proofs.BitSetLaws.{shifted_one}
use Rattle.bit_set.proofs.from.Statement.{statement}
use Rattle.bit_set.proofs.from.Tie as tie

-- the machine's 1 << x
shifted : (c : tie.Else-x-ge64) → 1 * 2 ^ c.before.args.x % 2 ^ 64 ≡ 2 ^ c.before.args.x
shifted c = shifted_one _ (omega arith)

returns : tie.Need-returns-then-x-ge64
returns c = let is : min c.before.args.x 64 ≡ 64 = omega arith in rw is

sub_result : tie.Need-overflow_sub-result
sub_result c = omega (arith, shifted c, pow_pos c.before.args.x)

returns_2 : tie.Need-returns
returns_2 c = let is : min c.before.args.x 64 ≡ c.before.args.x = omega arith in rw is (omega (arith, shifted c, pow_pos c.before.args.x))

pub from_spec : {M : Type 1} → statement M
from_spec = tie.close (tie.spec returns (λ c. search rules) sub_result (λ c. search rules) returns_2)
