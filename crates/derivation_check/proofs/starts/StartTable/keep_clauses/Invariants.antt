-- `keep_clauses`: where the clause at hand stands, the starts of the clauses before it, and those of the lines as they
-- were.
use Rattle.std.proofs.Common.{◌≡◌, ℕ, ◌+◌, ◌*◌, ◌<◌, length, get_or}
use Rattle.clause_words.specs.Clauses.{clause_start}
use Rattle.derivation_check.specs.Starts.{max_references}
use Rattle.derivation_check.proofs.starts.StartTable.keep_clauses.Given as goal

abbrev pub invariant-loop-clause : goal.invariant-loop-clause
invariant-loop-clause l = record {
  here : l.i ≡ clause_start l.file.bytes.now l.clause;
  clauses : (j : ℕ) → j < l.clause → get_or l.self.words (2 * j) 0 ≡ clause_start l.file.bytes.now j;
  lines : (j : ℕ) → get_or l.self.words (2 * j + 1) 0 ≡ get_or l.initial.self.words (2 * j + 1) 0;
  room : length l.self.words ≡ max_references;
}
