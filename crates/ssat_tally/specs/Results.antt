-- Document 02's second program: the results that it takes in, one for each line of the list, and what it prints. What
-- is read of the files is the system's; all else follows from it and from the list. Assumes nothing.
use Rattle.std.specs.Prelude.{ℕ, ◌+◌, ◌≤◌, List, [], ◌∷◌, length, Option, None, Some, Err, Ok}
use Rattle.limits.specs.Limits.{max_bytes}
use Rattle.answer.specs.Answer.{Answer}
use Rattle.value.specs.Value.{verdict_file}
use Rattle.tally.specs.declared.Kind.{Kind}
use Rattle.tally.specs.declared.Kind.TheVariants.{Refused}
use Rattle.tally.specs.Tally.{kind_of, begun, tally_after}
use Rattle.job_list.specs.JobList.{Job, list_lines, job_of, list_file}
use Rattle.report.specs.Report.{refusal_line}
use Rattle.tally_report.specs.TallyReport.{tally_text}

-- what is read for a line: none where its file can't be opened or is not read whole, else the file's bytes
abbrev pub Content : Type 0
Content = Option (List ℕ)

-- there is room for one byte more than a rule file may have
abbrev pub InRoom : Content → Type 0
InRoom None = Unit {0}
InRoom (Some b) = length b ≤ max_bytes + 1

-- one for each line, each no longer than the room
abbrev pub Contents : List (List ℕ) → List Content → Type 0
Contents [] [] = Unit {0}
Contents [] (c ∷ cs) = ⊥
Contents (l ∷ ls) [] = ⊥
Contents (l ∷ ls) (c ∷ cs) = InRoom c × Contents ls cs

-- the result for a file: refused where nothing is read, else the kind of the verdict on its bytes
abbrev pub file_kind : ℕ → ℕ → Content → Kind
file_kind lower upper None = Refused
file_kind lower upper (Some b) = kind_of (verdict_file b lower upper)

-- the result for a line: one of another form counts as refused
abbrev pub job_kind : Option Job → Content → Kind
job_kind None c = Refused
job_kind (Some j) c = file_kind j.lower j.upper c

abbrev pub line_kind : List ℕ → Content → Kind
line_kind l = job_kind (job_of l)

-- the results, line after line
abbrev pub line_kinds : List (List ℕ) → List Content → List Kind
line_kinds [] cs = []
line_kinds (l ∷ ls) [] = []
line_kinds (l ∷ ls) (c ∷ cs) = line_kind l c ∷ line_kinds ls cs

-- what is printed: the refusal's line, or the text of a tally of all results, begun with five noughts
abbrev pub printed_by : List ℕ → List Content → Answer ℕ → List ℕ
printed_by b cs (Err r) = refusal_line r
printed_by b cs (Ok k) = tally_text (tally_after begun (line_kinds (list_lines b) cs))

abbrev pub printed : List ℕ → List Content → List ℕ
printed b cs = printed_by b cs (list_file b)
