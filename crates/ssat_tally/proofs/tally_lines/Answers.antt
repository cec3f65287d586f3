-- Each turn takes in the result of the line at the index.
use Rattle.ssat_tally.proofs.ResultsLaws.{none_yet, one_more, all_lines}
use Rattle.ssat_tally.proofs.tally_lines.Goals as goal

pub loop-at-init : goal.loop-at-init
loop-at-init g c = (rw c.new-tally.ensures (none_yet _), c.requires)

pub loop-at-preserved : goal.loop-at-preserved
loop-at-preserved g c =
    let (so_far, short) = c.loop-at.invariant in
    (one_more _ _ _ c.loop-at-test.true c.line_at-line.ensures.result_value _ _ _ so_far c.line_result.ensures c.absorb.ensures, short)

pub returns : goal.returns
returns g c = all_lines _ _ _ c.loop-at-test.false c.loop-at.invariant.0
