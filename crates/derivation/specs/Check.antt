-- The check's answer for every pair of files: document 01's numbers in their order, each over the whole file before the
-- next. Assumes nothing.
use Rattle.std.specs.Prelude.{Bool, not, ◌&&◌, ◌||◌, List, ℕ, ◌+◌, leb, ltb, eqb, Option, None, Some, Err, Ok}
use Rattle.formula.specs.Formula.{ill_formed}
use Rattle.resolution.specs.Resolution.{Line, derived, judge_lines, closing_value}
use Rattle.resolution.specs.declared.Fault.{Fault}
use Rattle.resolution.specs.declared.Fault.TheVariants as fault
use Rattle.limits.specs.Limits.{max_bytes, derivation_trailer, max_lines}
use Rattle.answer.specs.Answer.{Answer, refuse_if, refuse_at, and_then}
use Rattle.answer.specs.declared.Refusal.{Refusal}
use Rattle.answer.specs.declared.Refusal.TheVariants as refusal
use Rattle.words.specs.Walk.{first, walk}
use Rattle.words.specs.Words.{word_count, wrong_length, stated_count}
use Rattle.rule_file.specs.RuleFile.{variable_count, clauses, prefix, whole}
use Rattle.rule_file.specs.Reader.{read_file}
use Rattle.derivation.specs.DerivationFile.{trailer_start, line_count, closing_reference, kind, size, after_line, lines}
use Rattle.derivation.specs.declared.Closing.{Closing}

-- 13 is wrong_length, for a file that holds its trailer. 14: the last word is not the word count, or there are more
-- than 1,024 lines
unfoldable pub wrong_counts : List ℕ → Bool
wrong_counts d = not (eqb (stated_count d) (word_count d)) || ltb max_lines (line_count d)

-- whether the line at word i ends before the word `end`, is of kind 1 or 2 and has at most n literals
unfoldable pub line_fits : List ℕ → ℕ → ℕ → ℕ → Bool
line_fits d n end i =
    leb (i + 2) end && (eqb (kind d i) 1 || eqb (kind d i) 2) && leb (size d i) n && leb (after_line d i) end

-- 15: the first of the lines that does not fit before the word `end`; or their count, where only the walk's end is
-- wrong
abbrev pub walk_lines : List ℕ → ℕ → ℕ → ℕ → ℕ → Option ℕ
walk_lines d n end = walk (after_line d) (line_fits d n end) end

-- 16: a literal of 2n or more, or variables that do not rise, as where one stands twice
abbrev pub line_fails : ℕ → Line → Bool
line_fails n l = ill_formed n (derived l).literals

-- the refusal of a line with a fault, 17 to 20
abbrev pub line_refusal : Fault → ℕ → Refusal
line_refusal fault.NotBlocking line = refusal.NotBlocking line
line_refusal fault.MissingParent line = refusal.MissingParent line
line_refusal fault.NotResolvent line = refusal.NotResolvent line
line_refusal fault.WrongValue line = refusal.WrongValue line

-- refuses with the fault and the line that are found, else goes on
abbrev pub refuse_line : {A : Type 0} → Option (Fault × ℕ) → Answer A → Answer A
refuse_line None rest = rest
refuse_line (Some found) rest = Err (line_refusal found.0 found.1)

-- 21, or the closing value and the whole
abbrev pub close : Option ℕ → ℕ → Answer Closing
close None whole = Err refusal.WrongClosing
close (Some x) whole = Ok (record { value = x; whole = whole })

-- the checks from 21 back to 13; judge_lines has 17 to 20
unfoldable pub check_from_21 : List ℕ → List ℕ → Answer Closing
check_from_21 b d = close (closing_value (clauses b) (lines d) (closing_reference d)) (whole b)

unfoldable pub check_from_17 : List ℕ → List ℕ → Answer Closing
check_from_17 b d = refuse_line (judge_lines (clauses b) (prefix b) (lines d)) (check_from_21 b d)

unfoldable pub check_from_15 : List ℕ → List ℕ → Answer Closing
check_from_15 b d =
    refuse_at (walk_lines d (variable_count b) (trailer_start d) (line_count d) 0) refusal.LineExtent
    (refuse_at (first (line_fails (variable_count b)) (lines d)) refusal.LineLiterals
    (check_from_17 b d))

unfoldable pub check_from_13 : List ℕ → List ℕ → Answer Closing
check_from_13 b d = refuse_if (wrong_length derivation_trailer max_bytes d) refusal.DerivationLength (refuse_if (wrong_counts d) refusal.DerivationCounts (check_from_15 b d))

-- the check's answer to the rule file b and the derivation d: the reader's refusals first
unfoldable pub check_file : List ℕ → List ℕ → Answer Closing
check_file b d = and_then (read_file b) (λ _. check_from_13 b d)
