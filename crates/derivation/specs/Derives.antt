-- What it is for a derivation to close with a value over a rule file, by the rules of S-resolution; and what is claimed
-- of one that is accepted: of its lines' clauses and of its closing value. Assumes nothing.
use Rattle.std.specs.Prelude.{◌≡◌, List, [], ℕ, ◌<◌}
use Rattle.formula.specs.Tree.{figure}
use Rattle.resolution.specs.Resolution.{Annotated, derived, line_at, Names, Follows}
use Rattle.rule_file.specs.RuleFile.{variable_count, clauses, prefix, whole}
use Rattle.rule_file.specs.Accepted.{Accepted}
use Rattle.derivation.specs.DerivationFile.{line_count, closing_reference, lines}
use Rattle.derivation.specs.WellFormed.{WellFormed}
use Rattle.derivation.specs.declared.Closing.{Closing}

-- the rule file b is accepted, the derivation d is well formed, each line follows by R.2, or by R.3 from clauses of b
-- and earlier lines, and the closing reference names an empty clause with c's value, out of b's whole
pub record Derives (b d : List ℕ) (c : Closing) : Type 0 where
  pub accepted : Accepted b
  pub well_formed : WellFormed (variable_count b) d
  pub follow : (k : ℕ) → k < line_count d → Follows (clauses b) (prefix b) (lines d) k (line_at (lines d) k)
  pub closes : Names (clauses b) (lines d) (line_count d) (closing_reference d) (record { literals = []; value = c.value })
  pub out_of : c.whole ≡ whole b

-- the clause of line k, with its value
abbrev pub line_clause : List ℕ → ℕ → Annotated
line_clause d k = derived (line_at (lines d) k)

-- the figure of the rule file b, out of b's whole
abbrev pub closing_figure : List ℕ → Closing
closing_figure b = record { value = figure (clauses b) (prefix b); whole = whole b }
