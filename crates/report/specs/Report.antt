-- Document 01's program: the text that it prints for a rule file. Assumes nothing.
use Rattle.std.specs.Prelude.{List, [], ◌∷◌, ◌++◌, ℕ, zero, suc, get_or, Err, Ok}
use Rattle.std.specs.Option.{option_to_list}
use Rattle.bounds.specs.declared.Bounds.{Bounds}
use Rattle.answer.specs.Answer.{Answer, number_of, place_of}
use Rattle.answer.specs.declared.Refusal.{Refusal}
use Rattle.buffer.specs.Text.{ascii, line}
use Rattle.rule_file.specs.RuleFile.{variable_count}
use Rattle.rule_file.specs.Reader.{read_file}
use Rattle.rule_file.specs.Accepted.{header}
use Rattle.rule_file.specs.declared.Header.{Header}
use Rattle.value.specs.Value.{figure_of}
use Rattle.value.specs.Cut.{cut_of}

-- a refusal's number, and its place where it names one
unfoldable pub refusal_line : Refusal → List ℕ
refusal_line r = line (ascii "refused") (number_of r ∷ option_to_list (place_of r))

-- a level, and the lower number, the upper number and the open weight of the cut there
unfoldable pub cut_line : ℕ → Bounds → List ℕ
cut_line d x = line (ascii "cut") (d ∷ x.lower ∷ x.upper ∷ x.undetermined ∷ [])

-- the lines of the first k levels
unfoldable pub cut_lines : (ℕ → Bounds) → ℕ → List ℕ
cut_lines cut zero = []
cut_lines cut (suc k) = cut_lines cut k ++ cut_line k (cut k)

-- the bounds in a table
abbrev pub at_level : List Bounds → ℕ → Bounds
at_level cuts d = get_or cuts d (record { lower = 0; upper = 0; undetermined = 0 })

-- n, m, the whole and the figure
unfoldable pub head_text : Header → ℕ → List ℕ
head_text h figure =
    line (ascii "vars") (h.variables ∷ []) ++ line (ascii "clauses") (h.clauses ∷ []) ++ line (ascii "whole") (h.whole ∷ [])
    ++ line (ascii "value") (figure ∷ [])

-- then a line for each level from 0 to n
unfoldable pub accepted_text : List ℕ → List ℕ
accepted_text b = head_text (header b) (figure_of b) ++ cut_lines (cut_of b) (suc (variable_count b))

-- by the reader's answer
abbrev pub text_by : List ℕ → Answer Header → List ℕ
text_by b (Err r) = refusal_line r
text_by b (Ok h) = accepted_text b

-- all that is printed
unfoldable pub report_text : List ℕ → List ℕ
report_text b = text_by b (read_file b)
