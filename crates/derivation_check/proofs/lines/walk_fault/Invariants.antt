-- `walk_fault`: what the walk from here finds, counted from the line at hand, is what the whole walk finds; where the
-- line at hand stands; and the starts of the lines before it.
use Rattle.std.proofs.Common.{◌≡◌, ℕ, ◌+◌, ◌*◌, ◌-◌, ◌≤◌, ◌<◌, length, get_or}
use Rattle.words.proofs.WalkLaws.{from}
use Rattle.derivation.specs.DerivationFile.{line_start}
use Rattle.derivation_check.specs.Starts.{max_references}
use Rattle.derivation_check.proofs.LineSteps.{fault}
use Rattle.derivation_check.proofs.lines.walk_fault.Given as goal

abbrev pub invariant-loop-line : goal.invariant-loop-line
invariant-loop-line l = record {
  within : l.i ≤ l.end;
  walked : from l.line (fault l.derivation l.n l.end (l.count - l.line) l.i) ≡ fault l.derivation l.n l.end l.count 0;
  here : l.i ≡ line_start l.derivation l.line;
  kept : (j : ℕ) → j < l.line → get_or l.starts.words (2 * j + 1) 0 ≡ line_start l.derivation j;
  room : length l.starts.words ≡ max_references;
}
