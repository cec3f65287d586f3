-- `paired` meets its contract. Assumes nothing.
use Rattle.std.proofs.Common.{◌*◌, ◌%◌, ◌^◌, ap, rules}
use lib.Bits.{bit_or}
use Rattle.bit_set.proofs.paired.Statement.{statement}
use Rattle.bit_set.proofs.paired.Tie as tie

returns : tie.Need-returns
returns c = ap (λ n. bit_or n (n * 2 ^ 1 % 2 ^ 64)) c.pairs-even.ensures

pub paired_spec : {M : Type 1} → statement M
paired_spec = tie.close (tie.spec (λ c κs. search rules) returns)
