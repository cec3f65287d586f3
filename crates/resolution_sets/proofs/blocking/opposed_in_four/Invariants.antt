-- `opposed_in_four`: of each of the four sets what `opposed` keeps of its one.
use Rattle.std.proofs.Common.{◌+◌}
use Rattle.resolution_sets.proofs.BlockingLaws.{Joining}
use Rattle.resolution_sets.proofs.blocking.opposed_in_four.Given as goal

abbrev pub invariant-loop-left : goal.invariant-loop-left
invariant-loop-left l = record {
  first : Joining l.table l.words l.c 0 l.first l.left;
  second : Joining l.table (l.words + 64) l.c 0 l.second l.left;
  third : Joining l.table (l.words + 128) l.c 0 l.third l.left;
  fourth : Joining l.table (l.words + 192) l.c l.seen l.fourth l.left;
}

abbrev pub decreases-loop-left : goal.decreases-loop-left
decreases-loop-left l = l.left
