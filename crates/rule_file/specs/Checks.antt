-- How the reader's functions test and what they are given. What the code alone needs; assumes nothing.
use Rattle.std.specs.Prelude.{◌≡◌, Bool, true, List, ℕ, ◌+◌, ◌*◌, ◌≤◌, Err, Ok}
use Rattle.limits.specs.Limits.{max_variables, max_clauses}
use Rattle.answer.specs.Answer.{Answer}
use Rattle.words.specs.Words.{word_count}
use Rattle.copies.specs.Copies.{InOrder}
use Rattle.rule_file.specs.RuleFile.{clause_count, variable_count, prefix_start}
use Rattle.rule_file.specs.Reader.{read_from_5, read_from_26}
use Rattle.rule_file.specs.declared.Header.{Header}
use Rattle.rule_file.specs.declared.Trailer.{Trailer}

-- checks 1 to 4 are passed: the counts are the trailer's, and the prefix ends where the trailer begins
pub record TrailerOf (b : List ℕ) (t : Trailer) : Type 0 where
  pub clause_count_is : t.clauses ≡ clause_count b
  pub variable_count_is : t.variables ≡ variable_count b
  pub prefix_start_is : t.prefix ≡ prefix_start b
  pub few_variables : t.variables ≤ max_variables
  pub few_clauses : t.clauses ≤ max_clauses
  pub ends : t.prefix + 2 * t.variables + 4 ≤ word_count b

-- what checks leave of a reader's answer: a refusal, or what is then known of the trailer's numbers
abbrev pub AfterChecks : (Trailer → Type 0) → Answer Header → Answer Trailer → Type 0
AfterChecks known whole (Err r) = whole ≡ Err r
AfterChecks known whole (Ok t) = known t

-- by the checks up to 4: the answer is that of the rest, from 5 on
abbrev pub TrailerRead : List ℕ → Bool → Answer Header → Answer Trailer → Type 0
TrailerRead b ordered whole = AfterChecks (λ t. TrailerOf b t × (whole ≡ read_from_5 ordered b)) whole

-- by those up to 23, where clauses must be in order: from 26 on
abbrev pub ClausesRead : List ℕ → Answer Header → Answer Trailer → Type 0
ClausesRead b whole = AfterChecks (λ t. TrailerOf b t × InOrder b t.variables t.clauses × (whole ≡ read_from_26 true b)) whole
