-- `is_blocking`: the clauses passed, 256 or 64 at a time, are opposed.
use Rattle.std.proofs.Common.{◌-◌}
use Rattle.resolution_sets.proofs.BlockingLaws.{Passed}
use Rattle.resolution_sets.proofs.blocking.is_blocking.Given as goal

abbrev pub invariant-loop-passed : goal.invariant-loop-passed
invariant-loop-passed l = Passed l.table l.clauses l.c l.passed

abbrev pub decreases-loop-passed : goal.decreases-loop-passed
decreases-loop-passed l = l.clauses - l.passed
