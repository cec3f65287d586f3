-- `put_occurrences`: the table has the first j clauses, each in the sets of its literals, and no other.
use Rattle.std.proofs.Common.{◌*◌, get_or}
use Rattle.bit_set.specs.BitSet.{has}
use Rattle.resolution_sets.proofs.OccurrencesLaws.{FilledTable}
use Rattle.resolution_sets.proofs.occurrence.put_occurrences.Given as goal

abbrev pub invariant-loop-j : goal.invariant-loop-j
invariant-loop-j l = FilledTable (λ h i. has (get_or l.masks (l.stride * h) 0) i) 64 l.j l.table
