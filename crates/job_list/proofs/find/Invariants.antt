-- `find`: before the index there is no such byte. Assumes nothing.
use Rattle.std.proofs.Common.{◌≡◌, ◌+◌}
use Rattle.std.proofs.Math.Seq.{slice}
use Rattle.job_list.specs.Find.{index_of}
use Rattle.job_list.proofs.find.Given as goal

abbrev pub invariant-loop-at : goal.invariant-loop-at
invariant-loop-at l = l.from + index_of l.byte (slice l.from l.to l.list) ≡ l.at + index_of l.byte (slice l.at l.to l.list)
