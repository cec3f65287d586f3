-- `has` meets its contract: the bit that is looked at is 2^x. Assumes nothing.
use Rattle.std.proofs.Common.{not, eqb, ap, rules}
use lib.Bits.{bit_and}
use Rattle.bit_set.specs.BitSet.{has}
use Rattle.bit_set.proofs.BitSetLaws.{shifted_one}
use Rattle.bit_set.proofs.has.Statement.{statement}
use Rattle.bit_set.proofs.has.Tie as tie

returns : tie.Need-returns
unfolding has
returns c = ap (λ n. not (eqb (bit_and c.args.set n) 0)) (shifted_one c.args.x c.requires)

pub has_spec : {M : Type 1} → statement M
has_spec = tie.close (tie.spec (λ c. search rules) returns)
