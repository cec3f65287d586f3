use Rattle.std.proofs.Common.{◌+◌, ◌*◌, ◌≤◌}
use Rattle.buffer.specs.Text.{Put}
use Rattle.report.specs.Report.{cut_lines, at_level}
use Rattle.report.proofs.put_cuts.Given as goal

abbrev pub invariant-loop-level : goal.invariant-loop-level
invariant-loop-level l = record {
  end : l.end ≤ l.at + 88 * l.level;
  text : Put l.fn.out l.at (cut_lines (at_level l.cuts) l.level) l.out l.end;
}
