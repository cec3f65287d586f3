-- What the search for a copy is given. What the code alone needs; assumes nothing.
use Rattle.std.specs.Prelude.{◌≡◌, false, List, ℕ, ◌≤◌}
use Rattle.formula.specs.Formula.{some_of, ill_formed}
use Rattle.limits.specs.Limits.{max_variables, max_clauses}
use Rattle.clause_words.specs.Clauses.{clauses_from, ClausesWithin}

-- clauses over n variables, within the file, which rise in each
pub record InOrder (b : List ℕ) (n count : ℕ) : Type 0 where
  pub within : ClausesWithin b count
  pub few_variables : n ≤ max_variables
  pub few_clauses : count ≤ max_clauses
  pub well_formed : some_of (ill_formed n) (clauses_from b count 0) ≡ false
