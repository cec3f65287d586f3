-- The report's text. In order: by the case of what the reader answered; from the table of the cuts; and that the figure
-- and the cuts printed are those that the operations answer. Assumes nothing.
use Rattle.std.specs.Prelude.{Ok}
use mathlib.Core.Path.{◌≡◌, refl, sym, ap, ap₂, ◌∙◌}
use mathlib.Core.List.{List, ◌++◌}
use Prim.Native.Nat.{ℕ, zero, suc, ◌+◌, ◌≤◌, ◌<◌}
use native.Mathlib.Omega.{arith}
use lib.ListN.{length, take}
use lib.Seq.{length-take-le}
use Rattle.std.proofs.lemmas.List.{get_or-take}
use Rattle.bounds.specs.declared.Bounds.{Bounds}
use Rattle.rule_file.specs.RuleFile.{variable_count, whole, clauses, prefix}
use Rattle.rule_file.specs.Reader.{read_file}
use Rattle.rule_file.specs.Accepted.{Accepted}
use Rattle.rule_file.specs.declared.Header.{Header}
use Rattle.rule_file.proofs.AcceptedLaws.{answered}
use Rattle.value.specs.Value.{figure_of, figure_file}
use Rattle.value.specs.Cut.{cut_of, cut_file}
use Rattle.value.proofs.ValueLaws.{figure_answers}
use Rattle.value.proofs.CutAnswer.{cut_answers}
use Rattle.search.proofs.CutsLaws.{cut_at}
use Rattle.solver.specs.FileTables.{cut_table}
use Rattle.solver.proofs.AnswerLaws.{figure_at_last}
use Rattle.report.specs.Report.{cut_line, cut_lines, at_level, head_text, accepted_text}

-- by other bounds that agree
lines_agree : (cut cut' : ℕ → Bounds) (k : ℕ) → ((d : ℕ) → d < k → cut d ≡ cut' d) → cut_lines cut k ≡ cut_lines cut' k
unfolding cut_lines
lines_agree cut cut' zero same = refl
lines_agree cut cut' (suc k) same = ap₂ (λ text x. text ++ cut_line k x) (lines_agree cut cut' k (λ d h. same d (omega arith))) (same k (omega arith))

-- the text from the table that the search makes, of an accepted file
module _ (b : List ℕ) {h : Header} (is_read : read_file b ≡ Ok h) where
  accepted : Accepted b
  accepted = (answered b h is_read).0

  variables_are : h.variables ≡ variable_count b
  variables_are = ap (λ h. h.variables) (answered b h is_read).1

  pub few_levels : h.variables < 33
  few_levels = omega (arith, variables_are, accepted.few_variables)

  module _ {cuts : List Bounds} (are : cuts ≡ cut_table b) where
    tabled : (d : ℕ) → d < suc h.variables → at_level cuts d ≡ cut_of b d
    tabled d less =
        ap (λ table. at_level table d) are
        ∙ cut_at (clauses b) (prefix b) (suc (variable_count b)) d (record { lower = 0; upper = 0; undetermined = 0 }) (omega (arith, variables_are))

    figure_tabled : (at_level cuts h.variables).lower ≡ figure_of b
    figure_tabled = ap (λ x. x.lower) (tabled h.variables (omega arith)) ∙ ap (λ n. (cut_of b n).lower) variables_are ∙ figure_at_last accepted

    -- the levels that are printed
    lines_tabled : {k : ℕ} → k ≡ h.variables + 1 → cut_lines (at_level (take (h.variables + 1) cuts)) k ≡ cut_lines (cut_of b) (suc (variable_count b))
    lines_tabled {k} e =
        lines_agree (at_level (take (h.variables + 1) cuts)) (cut_of b) k (λ d less. get_or-take (h.variables + 1) cuts d _ (omega arith) ∙ tabled d (omega arith))
        ∙ ap (cut_lines (cut_of b)) (omega (arith, variables_are))

    pub text_tabled : length cuts ≡ 33
        → head_text h (at_level cuts h.variables).lower ++ cut_lines (at_level (take (h.variables + 1) cuts)) (length (take (h.variables + 1) cuts)) ≡ accepted_text b
    unfolding accepted_text
    text_tabled size = (λ i.
        head_text ((answered b h is_read).1 i) (figure_tabled i) ++ lines_tabled (length-take-le (h.variables + 1) cuts (omega (arith, few_levels))) i)

-- what is printed of an accepted file is what the operations answer
module _ (b : List ℕ) (a : Accepted b) where
  pub printed_figure : figure_file b ≡ Ok (record { figure = figure_of b; whole = whole b })
  printed_figure = sym (figure_answers b a _ _ refl refl)

  pub printed_cut : (d : ℕ) → d ≤ variable_count b → cut_file b d ≡ Ok (cut_of b d)
  printed_cut d h = sym (cut_answers b a d h _ refl)
