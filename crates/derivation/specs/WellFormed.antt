-- What checks 13 to 16 leave true of a derivation file: what judging its lines is given. Assumes nothing.
use Rattle.std.specs.Prelude.{◌≡◌, false, List, ℕ, ◌≤◌, None}
use Rattle.formula.specs.Formula.{some_of}
use Rattle.limits.specs.Limits.{max_bytes, derivation_trailer, max_lines}
use Rattle.words.specs.Words.{word_count, stated_count, Length}
use Rattle.derivation.specs.DerivationFile.{trailer_start, line_count, lines}
use Rattle.derivation.specs.Check.{walk_lines, line_fails}

-- what 13 and 14 leave: the length and the counts are right
pub record RightCounts (d : List ℕ) : Type 0 where
  pub right_length : Length derivation_trailer max_bytes d
  pub right_count : stated_count d ≡ word_count d
  pub few_lines : line_count d ≤ max_lines

-- what 13 to 16 leave, over a rule file of n variables
pub record WellFormed (n : ℕ) (d : List ℕ) : Type 0 where
  pub right_counts : RightCounts d
  pub walked : walk_lines d n (trailer_start d) (line_count d) 0 ≡ None
  pub no_fault : some_of (line_fails n) (lines d) ≡ false

-- check 15 has passed, whatever the number of variables
pub record Walked (d : List ℕ) : Type 0 where
  pub variables : ℕ
  pub walked : walk_lines d variables (trailer_start d) (line_count d) 0 ≡ None
