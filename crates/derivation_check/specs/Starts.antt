-- Where the clauses of the rule file and the lines of the derivation begin: one table for both files, in which the
-- start of what a reference names is kept at the reference. Assumes nothing.
use Rattle.std.specs.Prelude.{◌≡◌, List, ℕ, ◌+◌, ◌*◌, ◌<◌, length, get_or}
use Rattle.clause_words.specs.Clauses.{clause_start}
use Rattle.rule_file.specs.RuleFile.{clause_count}
use Rattle.derivation.specs.DerivationFile.{line_count, line_start}

-- the references to 1,024 clauses and 1,024 lines
abbrev pub max_references : ℕ
max_references = 2048

-- the starts of the first `count` clauses, and of the first `count` lines: where document 01's walk from word 0 comes
-- to each
pub record ClauseStarts (b : List ℕ) (count : ℕ) (starts : List ℕ) : Type 0 where
  pub each : (j : ℕ) → j < count → get_or starts (2 * j) 0 ≡ clause_start b j

pub record LineStarts (d : List ℕ) (count : ℕ) (starts : List ℕ) : Type 0 where
  pub each : (j : ℕ) → j < count → get_or starts (2 * j + 1) 0 ≡ line_start d j

-- those of all
pub record Starts (b d starts : List ℕ) : Type 0 where
  pub room : length starts ≡ max_references
  pub clauses : ClauseStarts b (clause_count b) starts
  pub lines : LineStarts d (line_count d) starts

-- a walk from word 0 comes to each of `count` elements where `kept` says: it begins at word 0, and from each element
-- goes on to the word after it
pub record WalkComesTo (next : ℕ → ℕ) (count : ℕ) (kept : ℕ → ℕ) : Type 0 where
  pub begins : 0 < count → kept 0 ≡ 0
  pub goes_on : (j : ℕ) → j + 1 < count → kept (j + 1) ≡ next (kept j)
