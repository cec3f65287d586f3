-- Demand 3, as it is claimed over the numbers that the operations answer. Assumes nothing.
use Rattle.std.specs.Prelude.{◌≡◌, List, ℕ, ◌≤◌, Ok}
use Rattle.bounds.specs.Demand3.{Demand3}
use Rattle.bounds.specs.declared.Bounds.{Bounds}
use Rattle.rule_file.specs.declared.Header.{Header}
use Rattle.value.specs.declared.Ratio.{Ratio}
use Rattle.value.specs.Value.{figure_file}
use Rattle.value.specs.Cut.{cut_file}

-- of a file that the reader answers with h, so with n = h.variables: the figure's answer and the cut's at every level
-- up to n, and the claim about them
pub record Answers (b : List ℕ) (h : Header) : Type 0 where
  pub figure : Ratio
  pub cut : ℕ → Bounds
  pub figure_is : figure_file b ≡ Ok figure
  pub cut_is : (i : ℕ) → i ≤ h.variables → cut_file b i ≡ Ok (cut i)
  pub bounded : (d e : ℕ) → d ≤ e → e ≤ h.variables →
      Demand3 (λ i. (cut i).lower) (λ i. (cut i).upper) (λ i. (cut i).undetermined) figure.figure h.variables d e
