-- The clauses as sets of literals. What the code alone needs; assumes nothing.
use Rattle.std.specs.Prelude.{List, ◌++◌, map, ℕ, ◌-◌, replicate}
use Rattle.bit_set.specs.BitSet.{mask}
use Rattle.limits.specs.Limits.{max_clauses}
use Rattle.rule_file.specs.RuleFile.{clause_count, clauses}

-- the clauses' masks in the order of the file, and then zeros
abbrev pub mask_table : List ℕ → List ℕ
mask_table b = map mask (clauses b) ++ replicate (max_clauses - clause_count b) 0
