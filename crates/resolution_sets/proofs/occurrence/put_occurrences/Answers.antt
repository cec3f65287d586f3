-- `put_occurrences`: the table begins empty.
use Rattle.std.proofs.Common.{arith}
use Rattle.resolution_sets.proofs.OccurrencesLaws.{filled_none}
use Rattle.resolution_sets.proofs.occurrence.put_occurrences.Goals as goal

pub loop-j-init : goal.loop-j-init
loop-j-init c = rw c.requires.table_value (filled_none (omega arith))
