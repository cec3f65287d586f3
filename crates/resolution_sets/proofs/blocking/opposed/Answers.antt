-- `opposed`: the least literal left is looked up.
use Rattle.std.proofs.Common.{arith}
use Rattle.resolution_sets.proofs.BlockingLaws.{joining_none, joining_more, joined_all}
use Rattle.resolution_sets.proofs.blocking.opposed.Goals as goal

pub loop-left-init : goal.loop-left-init
loop-left-init c = joining_none _ _ _ _ c.ranges.c.fits

pub loop-left-preserved : goal.loop-left-preserved
loop-left-preserved c = joining_more c.loop-left.invariant (omega arith) (omega (arith, c.opposite.ensures))

pub returns : goal.returns
returns c = joined_all c.loop-left.invariant c.loop-left-test.false
