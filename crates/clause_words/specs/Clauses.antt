-- What clauses are in the words of a file, by a walk from word 0, and what the checks over them ask. Assumes nothing.
use Rattle.std.specs.Prelude.{ℕ, ◌+◌, ◌≤◌, ◌<◌, Bool, ◌&&◌, List, leb, ltb, Option}
use Rattle.words.specs.Walk.{start, elements, walk}
use Rattle.words.specs.Words.{word, word_count, words}

-- a clause is a length and as many literals; the next clause follows it
abbrev pub after_clause : List ℕ → ℕ → ℕ
after_clause b i = i + 1 + word b i

-- the literals of the clause at word i
abbrev pub clause_at : List ℕ → ℕ → List ℕ
clause_at b i = words b (i + 1) (word b i)

-- the word where clause j stands, by a walk from word 0
abbrev pub clause_start : List ℕ → ℕ → ℕ
clause_start b = start (after_clause b) 0

-- the clauses from word i on, as many as are left
abbrev pub clauses_from : List ℕ → ℕ → ℕ → List (List ℕ)
clauses_from b = elements (after_clause b) (clause_at b)

-- whether the clause at word i stands before the word `end` and has at most n literals
unfoldable pub clause_fits : List ℕ → ℕ → ℕ → ℕ → Bool
clause_fits b n end i = ltb i end && leb (after_clause b i) end && leb (word b i) n

-- 5: the first of m clauses that does not fit before the word `end`; or m, where only the walk's end is wrong
abbrev pub walk_clauses : List ℕ → ℕ → ℕ → ℕ → ℕ → Option ℕ
walk_clauses b n end = walk (after_clause b) (clause_fits b n end) end

-- each of `count` clauses from word 0 on stands within the file
pub record ClausesWithin (b : List ℕ) (count : ℕ) : Type 0 where
  pub each : (j : ℕ) → j < count → after_clause b (clause_start b j) ≤ word_count b

-- P holds of each of them, of the word where its literals begin and how many they are
abbrev pub EachClause : List ℕ → ℕ → (ℕ → ℕ → Type 0) → Type 0
EachClause b count P = (j : ℕ) → j < count → P (clause_start b j + 1) (word b (clause_start b j))
