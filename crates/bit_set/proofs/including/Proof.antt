-- `including` meets its contract: the bit that is joined is 2^x. Assumes nothing.
use Rattle.std.proofs.Common.{ap, rules}
use lib.Bits.{bit_or}
use Rattle.bit_set.proofs.BitSetLaws.{shifted_one}
use Rattle.bit_set.proofs.including.Statement.{statement}
use Rattle.bit_set.proofs.including.Tie as tie

returns : tie.Need-returns
returns c = ap (bit_or c.args.set) (shifted_one c.args.x c.requires)

pub including_spec : {M : Type 1} → statement M
including_spec = tie.close (tie.spec (λ c. search rules) returns)
