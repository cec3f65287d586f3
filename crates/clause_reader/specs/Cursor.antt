-- The clause reader over bytes: where it starts, what it gives at a place, and where it goes from there. Assumes
-- nothing of the file or the place.
use Rattle.std.specs.Prelude.{ℕ, zero, suc, ◌+◌, Bool, cond, ◌&&◌, List, [], leb, ltb, Option, None, Some, Err, Ok}
use Rattle.answer.specs.Answer.{Answer, and_then}
use Rattle.words.specs.Words.{word, word_count, part}
use Rattle.clause_words.specs.Clauses.{after_clause}
use Rattle.rule_file.specs.Reader.{read_file}
use Rattle.clause_reader.specs.declared.cursor.Place.{Place}
use Rattle.clause_reader.specs.declared.cursor.Clause.{Clause}

-- clause 0 of an accepted file, at word 0
abbrev pub start_file : List ℕ → Answer Place
start_file b = and_then (read_file b) (λ h. Ok (record { word = 0; number = 0; clauses = h.clauses }))

-- whether the clause at word i ends within the file
abbrev pub within_file : List ℕ → ℕ → Bool
within_file b i = ltb i (word_count b) && leb (after_clause b i) (word_count b)

-- the clause at a place, and the place after it
abbrev pub given_clause : List ℕ → Place → Clause
given_clause b p = record {
  number = p.number;
  start = p.word + 1;
  length = word b p.word;
  next = record { word = after_clause b p.word; number = p.number + 1; clauses = p.clauses };
}

-- it is given; none where no clause is left, or where it would leave the file
unfoldable pub given_at : List ℕ → Place → Option Clause
given_at b p = cond (ltb p.number p.clauses && within_file b p.word) (Some (given_clause b p)) None

abbrev pub clause_file : List ℕ → Answer Place → Answer (Option Clause)
clause_file b p = and_then p (λ q. Ok (given_at b q))

-- the place p after what is given there: it does not move where no clause is given
abbrev pub past : Answer (Option Clause) → Answer Place → Answer Place
past (Err r) p = p
past (Ok None) p = p
past (Ok (Some c)) p = Ok c.next

-- the place `count` clauses on
unfoldable pub advance_file : List ℕ → ℕ → Answer Place → Answer Place
advance_file b zero p = p
advance_file b (suc count) p = advance_file b count (past (clause_file b p) p)

-- what the reader gives after j clauses
abbrev pub nth_file : List ℕ → ℕ → Answer (Option Clause)
nth_file b j = clause_file b (advance_file b j (start_file b))

-- the bytes of the literals of the clause that is given; none where none is
abbrev pub clause_bytes : List ℕ → Answer (Option Clause) → List ℕ
clause_bytes b (Err r) = []
clause_bytes b (Ok None) = []
clause_bytes b (Ok (Some c)) = part b c.start c.length
