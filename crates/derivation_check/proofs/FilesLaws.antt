-- Both files, as the check has them in hand once the derivation has passed 13 to 16: what each is given that looks up a
-- clause or a line in them. Assumes nothing.
use mathlib.Core.Path.{◌≡◌, ap}
use Prim.Native.Nat.{ℕ, ◌≤◌}
use Rattle.limits.specs.Limits.{max_clauses, max_lines}
use Rattle.rule_file.specs.RuleFile.{clause_count, whole}
use Rattle.rule_file.specs.Accepted.{Accepted, header}
use Rattle.rule_file.specs.declared.Header.{Header}
use Rattle.rule_file.proofs.AcceptedLaws.{answered}
use Rattle.derivation.specs.DerivationFile.{line_count}
use Rattle.resolution_sets.proofs.DenominatorLaws.{file_bounds}
use Rattle.derivation_check.specs.Parent.{is_named, Located}
use Rattle.derivation_check.specs.declared.files.Files.{Files}

module _ (f : Files) where
  pub accepted : Accepted f.rule.bytes.now
  accepted = (answered f.rule.bytes.now f.rule.header f.rule.is_read).0

  pub header_is : f.rule.header ≡ header f.rule.bytes.now
  header_is = (answered f.rule.bytes.now f.rule.header f.rule.is_read).1

  pub located : Located f.rule.bytes.now f.derivation.now f.starts.now.words
  located = record { accepted = accepted; well_formed = f.well_formed; starts_are = f.starts_are }

  pub few_clauses : f.rule.header.clauses ≤ max_clauses
  few_clauses = rw header_is accepted.few_clauses

  pub few_lines : f.lines ≤ max_lines
  few_lines = rw f.lines_are f.well_formed.right_counts.few_lines

  pub whole_is : f.rule.header.whole ≡ whole f.rule.bytes.now
  whole_is = ap (λ (h : Header). h.whole) header_is

  -- a test of a reference, by the header and the count of lines
  pub named_all : (r : ℕ) → is_named f.rule.header.clauses f.lines r ≡ is_named (clause_count f.rule.bytes.now) (line_count f.derivation.now) r
  named_all r = rw (header_is, f.lines_are)

pub ruleset both_files = (file_bounds, located, few_clauses, few_lines, whole_is, named_all)
