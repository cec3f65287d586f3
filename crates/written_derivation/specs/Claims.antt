-- What is claimed of a derivation that is written for a rule file. Assumes nothing.
use Rattle.std.specs.Prelude.{ℕ, ◌≡◌, List, length, take, drop, Ok}
use Rattle.value.specs.Value.{figure_file}
use Rattle.value.specs.declared.Ratio.{Ratio}
use Rattle.derivation.specs.Check.{check_file}

-- the check accepts the derivation d for the rule file b, with what the figure operation answers
abbrev pub AcceptedWithFigure : List ℕ → List ℕ → Type 0
AcceptedWithFigure b d =
    (x : Ratio) × (figure_file b ≡ Ok x) × (check_file b d ≡ Ok (record { value = x.figure; whole = x.whole }))

-- a lent buffer, before and after a derivation of k bytes is written into it
pub record WrittenInto (b before after : List ℕ) (k : ℕ) : Type 0 where
  pub accepted : AcceptedWithFigure b (take k after)
  pub same_length : length after ≡ length before
  pub rest_kept : drop k after ≡ drop k before
