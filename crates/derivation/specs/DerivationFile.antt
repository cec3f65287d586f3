-- What stands in a derivation file: its trailer, and its lines by a walk from word 0. Assumes nothing of the file.
-- Words are those of a rule file: 32 bits, least byte first.
use Rattle.std.specs.Prelude.{cond, List, ℕ, ◌+◌, ◌-◌, ◌*◌, ◌^◌, eqb}
use Rattle.resolution.specs.Resolution.{Annotated, Line, blocking, resolvent}
use Rattle.words.specs.Walk.{elements, start}
use Rattle.words.specs.Words.{word, word_count, words}

-- the trailer's three words, the file's last: the line count, the closing reference, which names the clause that the
-- derivation closes with, and the count of all words
abbrev pub trailer_start : List ℕ → ℕ
trailer_start d = word_count d - 3

abbrev pub line_count : List ℕ → ℕ
line_count d = word d (trailer_start d)

abbrev pub closing_reference : List ℕ → ℕ
closing_reference d = word d (word_count d - 2)

-- the line at word i: its kind (1 is rule R.2, 2 is rule R.3), the number k of its literals, the literals, and then its
-- value
abbrev pub kind : List ℕ → ℕ → ℕ
kind d i = word d i

abbrev pub size : List ℕ → ℕ → ℕ
size d i = word d (i + 1)

abbrev pub value_start : List ℕ → ℕ → ℕ
value_start d i = i + 2 + size d i

-- a value is a low word and a high word
unfoldable pub value_at : List ℕ → ℕ → ℕ
value_at d i = word d i + 2 ^ 32 * word d (i + 1)

abbrev pub clause_of : List ℕ → ℕ → Annotated
clause_of d i = record { literals = words d (i + 2) (size d i); value = value_at d (value_start d i) }

-- kind 1 ends with the value; kind 2 adds the variable v, the true-side parent and the false-side parent. Any other
-- kind is refused by 15
unfoldable pub line_of : List ℕ → ℕ → Line
line_of d i =
    cond (eqb (kind d i) 1)
    (blocking (clause_of d i))
    (resolvent (clause_of d i) (word d (value_start d i + 2)) (word d (value_start d i + 3)) (word d (value_start d i + 4)))

-- the next line follows
unfoldable pub after_line : List ℕ → ℕ → ℕ
after_line d i = value_start d i + cond (eqb (kind d i) 1) 2 5

-- the word where line j begins, by a walk from word 0
abbrev pub line_start : List ℕ → ℕ → ℕ
line_start d = start (after_line d) 0

-- the lines from word i on, as many as are left
abbrev pub lines_from : List ℕ → ℕ → ℕ → List Line
lines_from d = elements (after_line d) (line_of d)

-- the derivation
abbrev pub lines : List ℕ → List Line
lines d = lines_from d (line_count d) 0
