use Rattle.std.proofs.Common.{arith}
use native.Mathlib.Numerals.{add-one}
use Rattle.buffer.proofs.TextLaws.{put_nothing, put_append}
use Rattle.report.specs.Report.{cut_lines}
use Rattle.report.proofs.put_cuts.Goals as goal

pub loop-level-init : goal.loop-level-init
unfolding cut_lines
loop-level-init c = record { end = omega arith; text = put_nothing _ _ }

pub loop-level-preserved : goal.loop-level-preserved
unfolding cut_lines
loop-level-preserved c = record {
  end = omega arith;
  text = rw add-one (put_append (omega arith) c.loop-level.invariant.text c.put_cut-end.ensures.put);
}
