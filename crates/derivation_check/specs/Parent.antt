-- What a reference names, and where it stands: 2j is clause j of the rule file, 2j + 1 is line j of the derivation.
-- What the code alone needs; assumes nothing.
use Rattle.std.specs.Prelude.{◌≡◌, Bool, true, cond, List, [], ℕ, ◌+◌, ◌/◌, ◌%◌, get_or, ltb, eqb}
use Rattle.bit_set.specs.BitSet.{mask}
use Rattle.resolution.specs.Resolution.{Annotated, derived, line_at}
use Rattle.words.specs.Words.{word, part}
use Rattle.clause_words.specs.Clauses.{clause_start}
use Rattle.rule_file.specs.RuleFile.{clause_count, variable_count, clauses}
use Rattle.rule_file.specs.Accepted.{Accepted}
use Rattle.derivation.specs.DerivationFile.{line_count, size, line_start, lines}
use Rattle.derivation.specs.WellFormed.{WellFormed}
use Rattle.derivation_check.specs.Starts.{Starts}

-- whether a reference names one of m clauses or one of the first k lines
unfoldable pub is_named : ℕ → ℕ → ℕ → Bool
is_named m k r = cond (eqb (r % 2) 0) (ltb (r / 2) m) (ltb (r / 2) k)

-- the clause that it names: its literals, and its value, which is 0 for a clause of the rule file
unfoldable pub referent_literals : List ℕ → List ℕ → ℕ → List ℕ
referent_literals b d r = cond (eqb (r % 2) 0) (get_or (clauses b) (r / 2) []) (derived (line_at (lines d) (r / 2))).literals

-- its literals as a part of the file that holds them, by the reference's parity
unfoldable pub referent_part : List ℕ → List ℕ → ℕ → List ℕ
referent_part b d r =
    cond (eqb (r % 2) 0)
    (part b (clause_start b (r / 2) + 1) (word b (clause_start b (r / 2))))
    (part d (line_start d (r / 2) + 2) (size d (line_start d (r / 2))))

unfoldable pub referent_value : List ℕ → ℕ → ℕ
referent_value d r = cond (eqb (r % 2) 0) 0 (derived (line_at (lines d) (r / 2))).value

abbrev pub referent : List ℕ → List ℕ → ℕ → Annotated
referent b d r = record { literals = referent_literals b d r; value = referent_value d r }

-- the table has, at each reference that names a clause or a line, the set of its literals
abbrev pub Masks : List ℕ → List ℕ → List ℕ → Type 0
Masks b d masks = (r : ℕ) → is_named (clause_count b) (line_count d) r ≡ true → get_or masks r 0 ≡ mask (referent_literals b d r)

-- what looking up a clause or a line is given: both files have passed their checks, and the starts of both are kept
pub record Located (b d starts : List ℕ) : Type 0 where
  pub accepted : Accepted b
  pub well_formed : WellFormed (variable_count b) d
  pub starts_are : Starts b d starts
