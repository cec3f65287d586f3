-- `has_pair` meets its contract. Assumes nothing.
use Rattle.std.proofs.Common.{not, eqb, ap, rules}
use Rattle.bit_set.specs.BitSet.{has_pair}
use Rattle.bit_set.proofs.has_pair.Statement.{statement}
use Rattle.bit_set.proofs.has_pair.Tie as tie

returns : tie.Need-returns
unfolding has_pair
returns c = ap (λ n. not (eqb n 0)) c.pairs.ensures

pub has_pair_spec : {M : Type 1} → statement M
has_pair_spec = tie.close (tie.spec (λ c κs. search rules) returns)
