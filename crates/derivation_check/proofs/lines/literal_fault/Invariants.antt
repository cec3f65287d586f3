-- `literal_fault`: the first line at fault in the rest, counted from the line at hand, is the first of all.
use Rattle.std.proofs.Common.{◌≡◌, ◌-◌}
use Rattle.words.proofs.WalkLaws.{from}
use Rattle.derivation.specs.DerivationFile.{line_start}
use Rattle.derivation_check.proofs.LineSteps.{over}
use Rattle.derivation_check.proofs.lines.literal_fault.Given as goal

abbrev pub invariant-loop-line : goal.invariant-loop-line
invariant-loop-line l = from l.line (over l.derivation l.n (l.count - l.line) (line_start l.derivation l.line)) ≡ over l.derivation l.n l.count 0
