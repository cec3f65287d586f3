-- A derivation as a file: its words, and their bytes. Assumes nothing. That document 01's reading of the file gives the
-- derivation back is proved.
use Rattle.std.specs.Prelude.{ℕ, ◌+◌, ◌/◌, ◌%◌, ◌^◌, List, [], ◌∷◌, ◌++◌, length}
use Rattle.resolution.specs.Resolution.{Annotated, Line, blocking, resolvent}
use Rattle.words.specs.Bytes.{bytes_of}

-- the number of literals, the literals, and the value: low word, high word
abbrev pub clause_words : Annotated → List ℕ
clause_words c = length c.literals ∷ c.literals ++ (c.value % 2 ^ 32 ∷ c.value / 2 ^ 32 ∷ [])

-- kind 2 adds the variable, the true-side parent and the false-side parent
unfoldable pub line_words : Line → List ℕ
line_words (blocking c) = 1 ∷ clause_words c
line_words (resolvent c v r u) = 2 ∷ clause_words c ++ (v ∷ r ∷ u ∷ [])

unfoldable pub lines_words : List Line → List ℕ
lines_words [] = []
lines_words (l ∷ ls) = line_words l ++ lines_words ls

-- the lines and the trailer: the line count, the closing reference r and the count of all words
unfoldable pub derivation_words : List Line → ℕ → List ℕ
derivation_words ls r = lines_words ls ++ (length ls ∷ r ∷ (length (lines_words ls) + 3) ∷ [])

abbrev pub derivation_bytes : List Line → ℕ → List ℕ
derivation_bytes ls r = bytes_of (derivation_words ls r)
