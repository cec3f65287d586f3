-- `walk_fault`: the start of the line at hand is kept.
use Rattle.std.proofs.Common.{sym, arith}
use Rattle.std.proofs.lemmas.Grind.{common_steps}
use Rattle.derivation.specs.DerivationFile.{line_start}
use Rattle.derivation_check.proofs.StartsLaws.{lines_more}
use Rattle.derivation_check.proofs.LineSteps.{walk_steps, ended}
use Rattle.derivation_check.proofs.lines.walk_fault.Goals as goal

pub loop-line-preserved : goal.loop-line-preserved
loop-line-preserved c =
    let before = c.loop-line.invariant in
    record {
      within = grind (arith, walk_steps);
      walked = grind (arith, walk_steps);
      here = grind (arith, walk_steps);
      kept = rw c.keep.ensures (lines_more (line_start _) _ _ _ before.here (omega (arith, before.room)) before.kept);
      room = grind (arith, common_steps);
    }

pub returns-then-i-end-clause-result_value : goal.returns-then-i-end-clause-result_value
returns-then-i-end-clause-result_value c = sym (ended _ _ _ _ _ _ c.loop-line.invariant.walked c.loop-line-test.false c.if-i-end.true)
