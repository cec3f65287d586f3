-- `opposed`: the clauses of `set`, and those with the opposite of a literal left, are those of `seen`, and those with
-- the opposite of a literal of c. The literals left are fewer each time.
use Rattle.resolution_sets.proofs.BlockingLaws.{Joining}
use Rattle.resolution_sets.proofs.blocking.opposed.Given as goal

abbrev pub invariant-loop-left : goal.invariant-loop-left
invariant-loop-left l = Joining l.table l.words l.c l.seen l.set l.left

abbrev pub decreases-loop-left : goal.decreases-loop-left
decreases-loop-left l = l.left
