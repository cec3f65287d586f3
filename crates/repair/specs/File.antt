-- A rule file from its parts, as words and as bytes. Assumes nothing. That document 01's reading of the file gives the
-- parts back is proved.
use Rattle.std.specs.Prelude.{ℕ, ◌+◌, ◌*◌, List, [], ◌∷◌, ◌++◌, length}
use Rattle.words.specs.Bytes.{bytes_of}
use Rattle.words.specs.Words.{words}
use Rattle.rule_file.specs.RuleFile.{variable_count, prefix_start}

-- of each clause its length and its literals
unfoldable pub formula_words : List (List ℕ) → List ℕ
formula_words [] = []
formula_words (c ∷ cs) = (length c ∷ c) ++ formula_words cs

-- the clauses φ, the weights of n variables, and the trailer: m, n, the word where the prefix begins and the count of
-- all words
unfoldable pub rule_words : List (List ℕ) → ℕ → List ℕ → List ℕ
rule_words φ n weights =
    formula_words φ
    ++ weights
    ++ (length φ ∷ n ∷ length (formula_words φ) ∷ (length (formula_words φ) + length weights + 4) ∷ [])

abbrev pub rule_bytes : List (List ℕ) → ℕ → List ℕ → List ℕ
rule_bytes φ n weights = bytes_of (rule_words φ n weights)

-- the words of a file's prefix: of each variable its two weights
abbrev pub weights : List ℕ → List ℕ
weights b = words b (prefix_start b) (2 * variable_count b)
