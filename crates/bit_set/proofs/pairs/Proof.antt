-- `pairs` meets its contract: the constant is the set of the even numbers. Assumes nothing.
use Rattle.std.proofs.Common.{refl}
use Rattle.bit_set.specs.BitSet.{evens}
use Rattle.bit_set.proofs.pairs.Statement.{statement}
use Rattle.bit_set.proofs.pairs.Tie as tie

returns : tie.Need-returns
unfolding evens
returns c = refl

pub pairs_spec : {M : Type 1} → statement M
pairs_spec = tie.close (tie.spec returns)
