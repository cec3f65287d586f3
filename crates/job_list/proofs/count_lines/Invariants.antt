-- `count_lines`: the lines counted and those from the index on are all lines. Assumes nothing.
use Rattle.std.proofs.Common.{◌≡◌, ◌+◌, ◌-◌, ◌≤◌, length, drop}
use Rattle.job_list.specs.JobList.{list_lines}
use Rattle.job_list.proofs.count_lines.Given as goal

abbrev pub invariant-loop-at : goal.invariant-loop-at
invariant-loop-at l =
    (l.count + length (list_lines (drop l.at l.list)) ≡ length (list_lines l.list)) × (l.count ≤ l.at) × (length l.list ≤ 65536)

abbrev pub decreases-loop-at : goal.decreases-loop-at
decreases-loop-at l = l.end + 1 - l.at
