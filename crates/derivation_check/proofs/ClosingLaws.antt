-- 21: what the closing reference names. Assumes nothing.
use mathlib.Core.Path.{◌≡◌, sym, ap, ◌∙◌}
use mathlib.Core.Bool.{true, false}
use mathlib.Core.List.{List}
use Rattle.std.specs.Prelude.{None, Some}
use Prim.Native.Nat.{ℕ, ◌+◌, ◌*◌, ◌/◌, ◌%◌}
use native.Mathlib.Decide.{ℕ_discrete}
use native.Mathlib.Omega.{arith}
use lib.ListN.{length}
use borrow.Author.Tests.{eq-eqb, ne_eqb}
use Rattle.resolution.specs.Resolution.{some_if, empty_value, closing_value}
use Rattle.words.specs.Words.{word, next_word}
use Rattle.words.proofs.WalkLaws.{elements_length}
use Rattle.words.proofs.WordsLaws.{part_length}
use Rattle.rule_file.specs.RuleFile.{clause_count, clauses}
use Rattle.rule_file.proofs.FileLaws.{clause_within}
use Rattle.derivation.specs.DerivationFile.{line_count, size, line_start, lines}
use Rattle.derivation.proofs.LineLaws.{well_walked, lines_length, line_value_within}
use Rattle.derivation_check.specs.Parent.{is_named, referent_literals, referent_part, referent_value, referent}
use Rattle.derivation_check.specs.declared.files.Files.{Files}
use Rattle.derivation_check.proofs.FilesLaws.{accepted}
use Rattle.derivation_check.proofs.ParentLaws.{named_clause, clause_part, named_line, line_part, part_literals, lookup_is, reference_steps}

module _ (b d : List ℕ) (r : ℕ) where
  closing_is : closing_value (clauses b) (lines d) r ≡ empty_value (some_if (is_named (clause_count b) (line_count d) r) (referent b d r))
  closing_is = rw (lines_length d) (ap empty_value (lookup_is b d (line_count d) r))

  pub closing_absent : is_named (clause_count b) (line_count d) r ≡ false → closing_value (clauses b) (lines d) r ≡ None
  unfolding empty_value
  closing_absent e = closing_is ∙ rw e

  module _ (e : is_named (clause_count b) (line_count d) r ≡ true) where
    pub closing_with_literals : (length (referent_literals b d r) ≡ 0 → ⊥) → closing_value (clauses b) (lines d) r ≡ None
    unfolding empty_value
    closing_with_literals n = closing_is ∙ rw (e, ne_eqb _ _ n)

    pub closing_empty : length (referent_literals b d r) ≡ 0 → closing_value (clauses b) (lines d) r ≡ Some (referent_value d r)
    unfolding empty_value
    closing_empty z = closing_is ∙ rw (e, eq-eqb _ _ z)

-- the part that is read has four bytes for each literal
module _ (f : Files) (r : ℕ) (e : is_named (clause_count f.rule.bytes.now) (line_count f.derivation.now) r ≡ true) where
  four_each : 4 * (length (referent_part f.rule.bytes.now f.derivation.now r) / 4) ≡ length (referent_part f.rule.bytes.now f.derivation.now r)
  four_each = go (ℕ_discrete (r % 2) 0)
    where
      go : Dec (r % 2 ≡ 0) → 4 * (length (referent_part f.rule.bytes.now f.derivation.now r) / 4) ≡ length (referent_part f.rule.bytes.now f.derivation.now r)
      go (yes even) =
          rw (← (clause_part r even f.rule.bytes.now f.derivation.now))
          (omega (arith, part_length _ _ _ (clause_within f.rule.bytes.now (accepted f) (r / 2) (named_clause r even _ _ e))))
      go (no odd) =
          let w = line_value_within f.derivation.now (well_walked f.well_formed) (r / 2) (named_line r odd _ _ e) in
          rw (← (line_part r odd f.rule.bytes.now f.derivation.now)) (omega (arith, part_length f.derivation.now (line_start f.derivation.now (r / 2) + 2) (size f.derivation.now (line_start f.derivation.now (r / 2))) (omega arith)))

  pub part_size : length (referent_part f.rule.bytes.now f.derivation.now r) ≡ 4 * length (referent_literals f.rule.bytes.now f.derivation.now r)
  part_size =
      let words = ap length (sym (part_literals f r e)) ∙ elements_length next_word (word _) _ 0 in
      sym four_each ∙ ap (4 *◌) (sym words)

pub ruleset closing_steps = (reference_steps, closing_absent, closing_with_literals, closing_empty, part_size)
