-- What is claimed of a rule file b and of its repaired file d. Assumes nothing.
use Rattle.std.specs.Prelude.{ℕ, ◌≤◌, ◌≡◌, ◌↔◌, List, length, take, drop, Ok}
use Rattle.formula.specs.Nodes.{Met}
use Rattle.rule_file.specs.RuleFile.{variable_count, clauses, prefix, whole}
use Rattle.rule_file.specs.Reader.{read_file}
use Rattle.rule_file.specs.Accepted.{header}
use Rattle.value.specs.Value.{figure_of, figure_file}
use Rattle.repair.specs.File.{weights}
use Rattle.repair.specs.Repair.{repair_file, repair_answer}

-- an assignment of all variables meets the new clauses exactly when it meets the old; variables and weights are the
-- same; the reader accepts the new file, and its figure is document 01's rule on the old clauses, whether the reader
-- accepts the old file or not; it is not longer; and repaired again it is the same, with nothing to count
pub record RepairedTo (b d : List ℕ) : Type 0 where
  pub same_assignments : (p : List ℕ) → length p ≡ variable_count b → Met p (clauses d) ↔ Met p (clauses b)
  pub same_variables : variable_count d ≡ variable_count b
  pub same_weights : weights d ≡ weights b
  pub same_prefix : prefix d ≡ prefix b
  pub accepted : read_file d ≡ Ok (header d)
  pub same_figure : figure_file d ≡ Ok (record { figure = figure_of b; whole = whole b })
  pub not_longer : length d ≤ length b
  pub repaired_again : (capacity : ℕ) → length d ≤ capacity → repair_file d capacity ≡ Ok d
  pub nothing_left : (capacity : ℕ) → length d ≤ capacity
      → repair_answer d capacity ≡ Ok (record { bytes = length d; clauses = 0; literals = 0; reordered = 0 })

-- a lent buffer, before and after a repaired file of k bytes is written into it
pub record RepairedInto (b before after : List ℕ) (k : ℕ) : Type 0 where
  pub claims : RepairedTo b (take k after)
  pub same_length : length after ≡ length before
  pub rest_kept : drop k after ≡ drop k before
