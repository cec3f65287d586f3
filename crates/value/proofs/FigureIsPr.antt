-- The figure that is answered, out of the whole, is Teige and Fränzle's maximum probability of satisfaction. Assumes
-- nothing.
use Rattle.std.specs.Prelude.{Ok}
use mathlib.Core.Path.{◌≡◌, subst}
use mathlib.Core.List.{List}
use Prim.Native.Nat.{ℕ}
use Rattle.probability.specs.Fraction.{◌over◌, ◌≈◌}
use Rattle.probability.specs.Probability.{Pr, proposition}
use Rattle.probability.proofs.Figure.{figure_is_Pr}
use Rattle.answer.proofs.AnswerLaws.{passed_then}
use Rattle.prefix_words.proofs.PrefixLaws.{denominator_pos}
use Rattle.rule_file.specs.RuleFile.{clauses, prefix, whole}
use Rattle.rule_file.specs.Reader.{read_file}
use Rattle.rule_file.specs.Accepted.{Accepted}
use Rattle.rule_file.proofs.AcceptedLaws.{answered}
use Rattle.rule_file.proofs.FileLaws.{prefix_length}
use Rattle.value.specs.declared.Ratio.{Ratio}
use Rattle.value.specs.Value.{figure_of, figure_file}

accepted_is_Pr : (b : List ℕ) → Accepted b → figure_of b over whole b ≈ Pr 0 (prefix b) (proposition (clauses b))
accepted_is_Pr b a =
    figure_is_Pr (clauses b) (prefix b) (rw (prefix_length b) a.in_range) (denominator_pos (prefix b) a.well_formed)

-- for every file: what the figure operation answers is Pr of the file's prefix and formula
pub answered_is_Pr : (b : List ℕ) (r : Ratio) → figure_file b ≡ Ok r → r.figure over r.whole ≈ Pr 0 (prefix b) (proposition (clauses b))
unfolding figure_file
answered_is_Pr b r e =
    let (h, read, rest) = passed_then (read_file b) (λ _. Ok (record { figure = figure_of b; whole = whole b })) r e in
    let same : ◌≡◌ {A = Ratio} (record { figure = figure_of b; whole = whole b }) r = cc in
    subst (λ (x : Ratio). x.figure over x.whole ≈ Pr 0 (prefix b) (proposition (clauses b))) same (accepted_is_Pr b (answered b h read).0)
