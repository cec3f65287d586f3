-- What stands in a rule file: its trailer, its clauses by a walk from word 0, and its prefix. Assumes nothing of the
-- file. Document 01's condition is a variable here, its choice an existential variable and its draw a randomized one.
use Rattle.std.specs.Prelude.{ℕ, ◌-◌, List}
use Rattle.formula.specs.Quantifier.{Quantifier, denominator}
use Rattle.words.specs.Words.{word, word_count}
use Rattle.prefix_words.specs.Prefix.{prefix_from}
use Rattle.clause_words.specs.Clauses.{clauses_from}

-- the trailer's four words, the file's last: m, n, the word where the prefix begins, and the count of all words,
-- stated_count
abbrev pub clause_count : List ℕ → ℕ
clause_count b = word b (word_count b - 4)

abbrev pub variable_count : List ℕ → ℕ
variable_count b = word b (word_count b - 3)

abbrev pub prefix_start : List ℕ → ℕ
prefix_start b = word b (word_count b - 2)

-- the formula
abbrev pub clauses : List ℕ → List (List ℕ)
clauses b = clauses_from b (clause_count b) 0

-- the prefix, outermost variable first
abbrev pub prefix : List ℕ → List Quantifier
prefix b = prefix_from b (variable_count b) (prefix_start b)

-- document 01's whole: the product of all totals
abbrev pub whole : List ℕ → ℕ
whole b = denominator (prefix b)
