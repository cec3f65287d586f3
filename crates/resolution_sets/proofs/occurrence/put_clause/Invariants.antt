-- `put_clause`: what the table says, with the numbers left, is what it said at the start, with all numbers of the set.
use Rattle.resolution_sets.proofs.OccurrencesLaws.{PuttingClause}
use Rattle.resolution_sets.proofs.occurrence.put_clause.Given as goal

abbrev pub invariant-loop-left : goal.invariant-loop-left
invariant-loop-left l = PuttingClause l.initial.table l.j l.set l.table l.left

abbrev pub decreases-loop-left : goal.decreases-loop-left
decreases-loop-left l = l.left
