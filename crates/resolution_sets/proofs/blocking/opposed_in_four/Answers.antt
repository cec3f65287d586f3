-- `opposed_in_four`: the least literal left is looked up in the words of each of the four.
use Rattle.std.proofs.Common.{arith}
use Rattle.resolution_sets.proofs.BlockingLaws.{joining_none, joining_more, joined_all, joined_from_none, in_all_four}
use Rattle.resolution_sets.proofs.blocking.opposed_in_four.Goals as goal

pub loop-left-init : goal.loop-left-init
loop-left-init c =
    let fits = c.ranges.c.fits in
    record {
      first = joining_none _ _ _ _ fits;
      second = joining_none _ _ _ _ fits;
      third = joining_none _ _ _ _ fits;
      fourth = joining_none _ _ _ _ fits;
    }

pub loop-left-preserved : goal.loop-left-preserved
loop-left-preserved c =
    let before = c.loop-left.invariant in
    let is = c.opposite.ensures in
    record {
      first = joining_more before.first (omega arith) (omega (arith, is));
      second = joining_more before.second (omega arith) (omega (arith, is));
      third = joining_more before.third (omega arith) (omega (arith, is));
      fourth = joining_more before.fourth (omega arith) (omega (arith, is));
    }

pub returns : goal.returns
returns c x e h =
    let none = c.loop-left-test.false in
    let sets = c.loop-left.invariant in
    in_all_four _ _ _ _ h (joined_from_none sets.first none x e h) (joined_from_none sets.second none x e h) (joined_from_none sets.third none x e h)
    (joined_all sets.fourth none x e h)
