-- The limits in which the readers of rule files differ. Assumes nothing.
use Rattle.std.specs.Prelude.{true, false}
use Rattle.limits.specs.Limits.{max_bytes, small_bytes, max_variables, small_variables}
use Rattle.rule_file.specs.declared.Limits.{Limits}

-- the full reader's limits, which document 02 calls the bench limits, and those of the rack controller's small one
abbrev pub full_limits : Limits
full_limits = record { bytes = max_bytes; variables = max_variables; ordered = true }

abbrev pub small_limits : Limits
small_limits = record { bytes = small_bytes; variables = small_variables; ordered = true }

-- what a repair takes: the full reader's limits, with the literals of a clause in any order and copies of clauses
abbrev pub stored_limits : Limits
stored_limits = record { bytes = max_bytes; variables = max_variables; ordered = false }
