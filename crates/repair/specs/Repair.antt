-- The repair's answer for every rule file and every lent buffer. Assumes nothing.
use Rattle.std.specs.Prelude.{ℕ, List, length, ltb, Ok}
use Rattle.answer.specs.Answer.{Answer, refuse_if, and_then}
use Rattle.answer.specs.declared.Refusal.TheVariants as refusal
use Rattle.rule_file.specs.RuleFile.{variable_count, clauses}
use Rattle.rule_file.specs.Reader.{read_stored}
use Rattle.repair.specs.Clauses.{repaired, dropped_clauses, dropped_literals, reordered}
use Rattle.repair.specs.File.{rule_bytes, weights}
use Rattle.repair.specs.declared.Repairs.{Repairs}

-- the repaired clauses, the weights as they were, and a trailer that fits them
unfoldable pub repaired_file : List ℕ → List ℕ
repaired_file b = rule_bytes (repaired (clauses b)) (variable_count b) (weights b)

-- the repaired file for a lent buffer of so many bytes; or a refusal of the reader of stored files, or 25, a buffer
-- shorter than the input
unfoldable pub repair_file : List ℕ → ℕ → Answer (List ℕ)
repair_file b capacity = and_then (read_stored b) (λ _.
    refuse_if (ltb capacity (length b)) refusal.BufferTooShort
    (Ok (repaired_file b)))

-- the byte length of the file d and the three counts, over the two files
abbrev pub repairs : List ℕ → List ℕ → Repairs
repairs b d =
    record {
      bytes = length d;
      clauses = dropped_clauses (clauses b) (clauses d);
      literals = dropped_literals (clauses b) (clauses d);
      reordered = reordered (clauses b);
    }

-- the operation answers them
unfoldable pub repair_answer : List ℕ → ℕ → Answer Repairs
repair_answer b capacity = and_then (repair_file b capacity) (λ d. Ok (repairs b d))
