-- `put_clause`: the least number left has a word in the table.
use Rattle.std.proofs.Common.{arith}
use Rattle.resolution_sets.proofs.OccurrencesLaws.{put_least, put_over}
use Rattle.resolution_sets.proofs.occurrence.put_clause.Goals as goal

pub loop-left-preserved : goal.loop-left-preserved
loop-left-preserved c = rw c.including.ensures (put_least c.loop-left.invariant c.requires (omega arith) (omega arith))

pub returns : goal.returns
returns c = put_over c.loop-left.invariant c.loop-left-test.false
