-- The closing value of an accepted derivation, out of the whole: it is what the figure operation answers, and so Teige
-- and Fränzle's maximum probability of satisfaction. Assumes nothing.
use Rattle.std.specs.Prelude.{Ok}
use mathlib.Core.Path.{◌≡◌, sym}
use mathlib.Core.List.{List}
use Prim.Native.Nat.{ℕ}
use Rattle.probability.specs.Fraction.{◌over◌, ◌≈◌}
use Rattle.probability.specs.Probability.{Pr, proposition}
use Rattle.rule_file.specs.RuleFile.{clauses, prefix}
use Rattle.rule_file.proofs.AcceptedLaws.{accepted_answers}
use Rattle.value.specs.Value.{figure_file}
use Rattle.value.proofs.FigureIsPr.{answered_is_Pr}
use Rattle.derivation.specs.Check.{check_file}
use Rattle.derivation.specs.declared.Closing.{Closing}
use Rattle.derivation.proofs.Theorems.{accepted_iff, accepted_is_figure}

pub accepted_is_answered :
    (b d : List ℕ) (c : Closing) → check_file b d ≡ Ok c → figure_file b ≡ Ok (record { figure = c.value; whole = c.whole })
unfolding figure_file
accepted_is_answered b d c e =
    let is = sym (accepted_is_figure b d c e) in
    rw (accepted_answers b ((accepted_iff b d c).0 e).accepted) (λ j. Ok (record { figure = (is j).value; whole = (is j).whole }))

pub accepted_is_Pr :
    (b d : List ℕ) (c : Closing) → check_file b d ≡ Ok c → c.value over c.whole ≈ Pr 0 (prefix b) (proposition (clauses b))
accepted_is_Pr b d c e = answered_is_Pr b _ (accepted_is_answered b d c e)
