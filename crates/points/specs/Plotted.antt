-- The numbers that are divided. What the code alone needs; assumes nothing.
use Rattle.std.specs.Prelude.{ℕ, ◌≤◌}
use Rattle.bounds.specs.declared.Bounds.{Bounds}
use Rattle.limits.specs.Limits.{max_plotted}

-- three numbers and what they are out of: a double holds each
pub record Plotted (x : Bounds) (whole : ℕ) : Type 0 where
  pub lower_within : x.lower ≤ whole
  pub upper_within : x.upper ≤ whole
  pub open_within : x.undetermined ≤ whole
  pub whole_small : whole ≤ max_plotted
