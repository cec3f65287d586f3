-- What is claimed of S-resolution: that R.2 and R.3 are source document 004's, and 004's Lemma 3.1 and Corollary 3.2 in
-- document 01's numbers. Assumes nothing.
use Rattle.std.specs.Prelude.{ℕ, ◌+◌, ◌*◌, ◌<◌, ◌≡◌, ◌⊎◌, ◌↔◌, ◌≢◌, List, length, drop, None, Some}
use Rattle.formula.specs.declared.Status.TheVariants.{Falsified, Satisfied}
use Rattle.formula.specs.Formula.{clause_status, formula_status, ◌∈◌}
use Rattle.formula.specs.Nodes.{Every}
use Rattle.formula.specs.Quantifier.{Quantifier}
use Rattle.formula.specs.Tree.{number, figure}
use Rattle.resolution.specs.Resolution.{Annotated, level, Line, judge_lines, closing_value}

-- the premise of 004's R.2: every assignment of truth values to the n variables that falsifies c satisfies φ. 004 sets
-- the variables up to c's last and asks that the rest of φ be a tautology: the other variables may have any truth
-- values
abbrev pub Implied : ℕ → List (List ℕ) → List ℕ → Type 0
Implied n φ c = (p : List ℕ) → length p ≡ n → Every (λ x. x < 2) p → clause_status p c ≡ Falsified → formula_status p φ ≡ Satisfied

-- the literals of 004's R.3, a set: c has those of the true-side parent s but the opposite of v, those of the
-- false-side parent t but v, and no other
abbrev pub OtherLiterals : ℕ → List ℕ → List ℕ → List ℕ → Type 0
OtherLiterals v s t c = (l : ℕ) → (l ∈ c) ↔ (((l ∈ s) × (l ≢ 2 * v + 1)) ⊎ ((l ∈ t) × (l ≢ 2 * v)))

-- Lemma 3.1 of a clause: a node at the clause's level under which the clause is falsified has the clause's value for
-- its number
abbrev pub Sound : List (List ℕ) → List Quantifier → Annotated → Type 0
Sound φ qs c =
    (p : List ℕ) → length p ≡ level c.literals → clause_status p c.literals ≡ Falsified
    → number φ (drop (level c.literals) qs) p ≡ c.value

-- Corollary 3.2 of a derivation: where no line is refused, and the closing reference r names the empty clause with the
-- value x, x is the figure
abbrev pub ClosesWithFigure : List (List ℕ) → List Quantifier → List Line → ℕ → Type 0
ClosesWithFigure φ qs lines r = (x : ℕ) → judge_lines φ qs lines ≡ None → closing_value φ lines r ≡ Some x → figure φ qs ≡ x
