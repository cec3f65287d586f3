-- What is read for marks and point; what is divided; and their answers, by what was read for them. Assumes nothing.
use Rattle.std.specs.Prelude.{Err, Ok}
use mathlib.Core.Path.{◌≡◌, refl, sym, ap, ◌∙◌}
use mathlib.Core.List.{List, []}
use Prim.Native.Nat.{ℕ, ◌≤◌, ◌<◌}
use lib.Dec.{ltb}
use borrow.Author.Tests.{lt-ltb, le-ltb, ltb-false}
use Rattle.formula.proofs.TreeLaws.{quantify_level_rule, quantify_relaxed_level_rule}
use Rattle.formula.specs.Quantifier.{quantify, quantify_relaxed}
use Rattle.formula.specs.Status.{is_satisfied, is_undetermined}
use Rattle.bounds.specs.Bounds.{not_falsified}
use Rattle.bounds.specs.declared.Bounds.{Bounds}
use Rattle.bounds.proofs.BoundsLaws.{cut_bounded}
use Rattle.limits.specs.Limits.{max_plotted}
use Rattle.answer.specs.declared.Refusal.{Refusal}
use Rattle.answer.specs.declared.Refusal.TheVariants as refusal
use Rattle.answer.proofs.AnswerLaws.{same_answer, passed, passed_then}
use Rattle.rule_file.specs.RuleFile.{clauses, prefix, whole}
use Rattle.rule_file.specs.Accepted.{Accepted, header}
use Rattle.rule_file.specs.declared.Header.{Header}
use Rattle.value.specs.Cut.{cut_of, read_with_level}
use Rattle.value.proofs.CutAnswer.{level_accepted}
use Rattle.points.specs.Points.{marks_of, point_for, read_to_plot, marks_file, point_file}
use Rattle.points.specs.Plotted.{Plotted}

-- what is read, by what was read for the cut
pub plot_holds : (b : List ℕ) (level : ℕ) (h : Header) → read_with_level b level ≡ Ok h → h.whole ≤ max_plotted → read_to_plot b level ≡ Ok h
unfolding read_to_plot
plot_holds b level h e small = rw (e, le-ltb max_plotted h.whole small)

-- each number of a cut is at most the whole
pub cut_plotted : (b : List ℕ) (level : ℕ) → whole b ≤ max_plotted → Plotted (cut_of b level) (whole b)
cut_plotted b level small = record {
  lower_within = cut_bounded quantify is_satisfied (clauses b) level (prefix b) [] quantify_level_rule;
  upper_within = cut_bounded quantify not_falsified (clauses b) level (prefix b) [] quantify_level_rule;
  open_within = cut_bounded quantify_relaxed is_undetermined (clauses b) level (prefix b) [] quantify_relaxed_level_rule;
  whole_small = small;
}

-- those of a file and a level that are not refused: what was asked before, what is divided, and the answers
module _ (b : List ℕ) (level : ℕ) (h : Header) (e : read_to_plot b level ≡ Ok h) where
  pub plot_accepted : ((Accepted b × (h ≡ header b)) × (level ≤ h.variables)) × (whole b ≤ max_plotted)
  unfolding read_to_plot
  plot_accepted =
      let (x, is, rest) = passed_then (read_with_level b level) _ h e in
      let (small, same) = passed (ltb max_plotted x.whole) refusal.WholeOverPlotted (Ok x) h rest in
      let asked = level_accepted b level h (is ∙ same) in
      (asked, ltb-false max_plotted (whole b) (ap (λ y. ltb max_plotted y.whole) (sym (same_answer x h same ∙ asked.0.1)) ∙ small))

  whole_is : h.whole ≡ whole b
  whole_is = ap (λ y. y.whole) plot_accepted.0.0.1

  module _ {x : Bounds} (cut_is : x ≡ cut_of b level) where
    pub plotted : Plotted x h.whole
    plotted = rw (cut_is, whole_is) (cut_plotted b level plot_accepted.1)

    pub marks_answered : Ok (marks_of x h.whole) ≡ marks_file b level
    unfolding marks_file
    marks_answered = rw (e, cut_is, whole_is)

    pub point_answered : Ok (point_for x h.whole) ≡ point_file b level
    unfolding point_file
    point_answered = rw (e, cut_is, whole_is)
