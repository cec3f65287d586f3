-- `is_full`: the tests are those of the definition, joined from the left. Assumes nothing.
use mathlib.Core.Bool.{or-false, or_assoc}
use Rattle.formula.specs.Formula.{some_of}
use Rattle.tally.specs.Tally.{is_full}
use Rattle.tally.proofs.Tally.is_full.Goals as goal

pub returns : goal.returns
unfolding is_full some_of
returns c = simp (or-false, or_assoc)
