-- The program ssat_repair: what it prints for a rule file, document 02's repaired file to standard output, and to
-- standard error its counts or the refusal's line. Assumes nothing.
use Rattle.std.specs.Prelude.{List, [], ◌∷◌, ◌++◌, ℕ, Err, Ok}
use Rattle.limits.specs.Limits.{max_bytes}
use Rattle.answer.specs.Answer.{Answer}
use Rattle.buffer.specs.Text.{ascii, line}
use Rattle.repair.specs.Repair.{repair_file, repair_answer}
use Rattle.repair.specs.declared.Repairs.{Repairs}
use Rattle.report.specs.Report.{refusal_line}

-- the repaired file's bytes as they are, or none
abbrev pub file_or_nothing : Answer (List ℕ) → List ℕ
file_or_nothing (Err r) = []
file_or_nothing (Ok d) = d

-- all that goes to standard output: the program lends the repair 65,536 bytes
unfoldable pub repair_output : List ℕ → List ℕ
repair_output b = file_or_nothing (repair_file b max_bytes)

-- the file's length and the three counts, one per line, each after its word and a blank
unfoldable pub counts_text : Repairs → List ℕ
counts_text x =
    line (ascii "bytes") (x.bytes ∷ []) ++ line (ascii "clauses") (x.clauses ∷ []) ++ line (ascii "literals") (x.literals ∷ [])
    ++ line (ascii "reordered") (x.reordered ∷ [])

abbrev pub counts_or_refusal : Answer Repairs → List ℕ
counts_or_refusal (Err r) = refusal_line r
counts_or_refusal (Ok x) = counts_text x

-- all that goes to standard error
unfoldable pub repair_notice : List ℕ → List ℕ
repair_notice b = counts_or_refusal (repair_answer b max_bytes)
