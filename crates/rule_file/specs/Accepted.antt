-- What a reader's checks leave true of a file: what the layers above are given, of the full reader. That it is
-- exactly the reader's acceptance is proved. Assumes nothing.
use Rattle.std.specs.Prelude.{◌≡◌, false, List, ℕ, ◌+◌, ◌-◌, ◌*◌, ◌≤◌, None}
use Rattle.formula.specs.Formula.{some_of, out_of_range, unordered, equal}
use Rattle.limits.specs.Limits.{rule_trailer, max_clauses, max_whole}
use Rattle.words.specs.Walk.{first_copy}
use Rattle.words.specs.Words.{word_count, stated_count, Length}
use Rattle.prefix_words.specs.Prefix.{malformed}
use Rattle.clause_words.specs.Clauses.{walk_clauses}
use Rattle.rule_file.specs.ReaderLimits.{full_limits}
use Rattle.rule_file.specs.RuleFile.{clause_count, variable_count, prefix_start, clauses, prefix, whole}
use Rattle.rule_file.specs.Reader.{asked}
use Rattle.rule_file.specs.declared.Limits.{Limits}
use Rattle.rule_file.specs.declared.Header.{Header}

-- 7 leaves nothing besides: where variables rise, none stands twice. Nothing is left of 7, 23 and 26 where they are
-- not asked
pub record AcceptedWithin (limits : Limits) (b : List ℕ) : Type 0 where
  pub right_length : Length rule_trailer limits.bytes b
  pub right_count : stated_count b ≡ word_count b
  pub few_variables : variable_count b ≤ limits.variables
  pub few_clauses : clause_count b ≤ max_clauses
  pub prefix_ends : prefix_start b + 2 * variable_count b ≡ word_count b - 4
  pub walked : walk_clauses b (variable_count b) (prefix_start b) (clause_count b) 0 ≡ None
  pub in_range : some_of (out_of_range (variable_count b)) (clauses b) ≡ false
  pub ordered : some_of (asked limits.ordered unordered) (clauses b) ≡ false
  pub no_copies : first_copy (λ c. asked limits.ordered (equal c)) (clauses b) ≡ None
  pub well_formed : some_of malformed (prefix b) ≡ false
  pub bounded : whole b ≤ max_whole

-- by the full reader
abbrev pub Accepted : List ℕ → Type 0
Accepted = AcceptedWithin full_limits

-- n, m, the prefix's start and the whole
abbrev pub header : List ℕ → Header
header b = record { variables = variable_count b; clauses = clause_count b; prefix = prefix_start b; whole = whole b }
