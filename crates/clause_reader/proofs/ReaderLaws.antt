-- Of an accepted file the reader gives the clauses, all of them and in order, and then none; of a refused file it gives
-- the refusal. In this order: clause j's place and the clause there, that the reader is there after j clauses and gives
-- it, its literals, the end, and the refusal. Where the clauses stand is in rule_file's ClauseLaws. Assumes nothing.
use Rattle.std.specs.Prelude.{Err, Ok, None, Some}
use mathlib.Core.Path.{◌≡◌, refl, sym, ap, ◌∙◌}
use mathlib.Core.List.{List, []}
use Prim.Native.Nat.{ℕ, zero, suc, ◌+◌, ◌-◌, ◌≤◌, ◌<◌}
use native.Mathlib.Nat.{add-zero, add-suc}
use native.Mathlib.Numerals.{add-one}
use native.Mathlib.Omega.{arith}
use lib.ListN.{get_or}
use Rattle.answer.specs.declared.Refusal.{Refusal}
use Rattle.words.specs.Words.{word, all_words}
use Rattle.words.proofs.WalkLaws.{start_zero, start_suc}
use Rattle.words.proofs.WordsLaws.{part_words}
use Rattle.clause_words.specs.Clauses.{after_clause, clause_start}
use Rattle.rule_file.specs.RuleFile.{clause_count, clauses}
use Rattle.rule_file.specs.Reader.{read_file}
use Rattle.rule_file.specs.Accepted.{Accepted}
use Rattle.rule_file.proofs.FileLaws.{clause_is, clause_within}
use Rattle.rule_file.proofs.AcceptedLaws.{accepted_answers}
use Rattle.clause_reader.specs.declared.cursor.Place.{Place}
use Rattle.clause_reader.specs.declared.cursor.Clause.{Clause}
use Rattle.clause_reader.specs.Cursor.{start_file, given_at, clause_file, advance_file, nth_file, clause_bytes}
use Rattle.clause_reader.proofs.CursorLaws.{none_left, given_is, advance_none, advance_stays, advance_suc}

module _ (b : List ℕ) where
  -- clause j's place, where the walk from word 0 finds it
  abbrev pub place_of_clause : ℕ → Place
  place_of_clause j = record { word = clause_start b j; number = j; clauses = clause_count b }

  -- and the clause itself: its number, where its literals are, and the next one's place
  abbrev pub clause_there : ℕ → Clause
  clause_there j = record { number = j; start = clause_start b j + 1; length = word b (clause_start b j); next = place_of_clause (j + 1) }

module _ (b : List ℕ) (a : Accepted b) where
  abbrev m : ℕ
  m = clause_count b

  given_there : (j : ℕ) → j < m → given_at b (place_of_clause b j) ≡ Some (clause_there b j)
  given_there j h =
      let ends = clause_within b a j h in
      rw (← start_suc (after_clause b) 0 j) (given_is b (place_of_clause b j) h (omega arith) ends)

  -- after j clauses the reader is at clause j
  pub at_clause : (j : ℕ) → j ≤ m → advance_file b j (start_file b) ≡ Ok (place_of_clause b j)
  at_clause zero h = advance_none b (start_file b) ∙ rw (accepted_answers b a, start_zero (after_clause b) 0)
  at_clause (suc j) h = advance_suc b j (start_file b) ∙ rw (at_clause j (omega arith), given_there j h, add-one j)

  -- there it gives clause j, and the place after it
  pub gives : (j : ℕ) → j < m → nth_file b j ≡ Ok (Some (clause_there b j))
  gives j h = ap (clause_file b) (at_clause j (omega arith)) ∙ ap Ok (given_there j h)

  -- the words of the part that is handed back are the literals of clause j
  pub bytes_are : (j : ℕ) → j < m → all_words (clause_bytes b (nth_file b j)) ≡ get_or (clauses b) j []
  bytes_are j h = rw (gives j h) (part_words b (clause_start b j + 1) (word b (clause_start b j)) (clause_within b a j h) ∙ sym (clause_is b j h))

  stays_by : (k : ℕ) → advance_file b (m + k) (start_file b) ≡ Ok (place_of_clause b m)
  stays_by zero = rw add-zero (at_clause m (omega arith))
  stays_by (suc k) = rw (add-suc m k) (advance_suc b (m + k) (start_file b) ∙ rw (stays_by k, none_left b (place_of_clause b m) (omega arith)))

  -- past the last clause the place does not move, and none is left
  pub stays : (j : ℕ) → m ≤ j → advance_file b j (start_file b) ≡ Ok (place_of_clause b m)
  stays j h = let e : j ≡ m + (j - m) = omega arith in rw e (stays_by (j - m))

  pub gives_none : (j : ℕ) → m ≤ j → nth_file b j ≡ Ok None
  gives_none j h = ap (clause_file b) (stays j h) ∙ ap Ok (none_left b (place_of_clause b m) (omega arith))

-- of a refused file each step gives the refusal
pub gives_refusal : (b : List ℕ) (r : Refusal) → read_file b ≡ Err r → (j : ℕ) → nth_file b j ≡ Err r
gives_refusal b r e j = rw (e, advance_stays b (Err r) refl j)
