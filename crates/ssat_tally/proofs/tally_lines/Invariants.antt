-- The lines before the index are tallied.
use Rattle.std.proofs.Common.{◌+◌, ◌-◌, ◌≤◌, length}
use Rattle.job_list.specs.JobList.{max_list_bytes}
use Rattle.ssat_tally.proofs.ResultsLaws.{TalliedTo}
use Rattle.ssat_tally.proofs.tally_lines.Given as goal

abbrev pub invariant-loop-at : goal.invariant-loop-at
invariant-loop-at g l = TalliedTo l.list l.at l.tally × (length l.list ≤ max_list_bytes)

abbrev pub decreases-loop-at : goal.decreases-loop-at
decreases-loop-at g l = length l.list + 1 - l.at
