-- `is_blocking`: what four words, and one, tell of the clauses at hand.
use Rattle.std.proofs.Common.{refl}
use Rattle.resolution_sets.proofs.BlockingLaws.{word_full, four_full, more, refused, over}
use Rattle.resolution_sets.proofs.blocking.is_blocking.Goals as goal

pub returns-then-opposed_in_four : goal.returns-then-opposed_in_four
returns-then-opposed_in_four c =
    let passed = c.loop-passed.invariant in
    let r = c.opposed_in_four in
    record { by_index = refused passed 256 refl (four_full passed r.type_inv c.if-passed-clauses.true c.from.ensures r.ensures) c.if-opposed_in_four.true }

pub loop-passed-preserved-then-passed-clauses : goal.loop-passed-preserved-then-passed-clauses
loop-passed-preserved-then-passed-clauses c =
    let passed = c.loop-passed.invariant in
    let r = c.opposed_in_four in
    more passed 256 refl (four_full passed r.type_inv c.if-passed-clauses.true c.from.ensures r.ensures) c.if-opposed_in_four.false

pub returns-then-opposed : goal.returns-then-opposed
returns-then-opposed c =
    let passed = c.loop-passed.invariant in
    record { by_index = refused passed 64 refl (word_full passed c.opposed.type_inv c.from-else-passed-clauses.ensures c.opposed.ensures) c.if-opposed.true }

pub loop-passed-preserved : goal.loop-passed-preserved
loop-passed-preserved c =
    let passed = c.loop-passed.invariant in
    more passed 64 refl (word_full passed c.opposed.type_inv c.from-else-passed-clauses.ensures c.opposed.ensures) c.if-opposed.false

pub returns : goal.returns
returns c = record { by_index = over c.loop-passed.invariant c.loop-passed-test.false }
