-- `keep_masks`: the table has the set of what each reference passed names, if it names something.
use Rattle.std.proofs.Common.{◌≡◌, ℕ, ◌<◌, true, length, get_or}
use Rattle.bit_set.specs.BitSet.{mask}
use Rattle.rule_file.specs.RuleFile.{clause_count}
use Rattle.derivation.specs.DerivationFile.{line_count}
use Rattle.derivation_check.specs.Starts.{max_references}
use Rattle.derivation_check.specs.Parent.{is_named, referent_literals}
use Rattle.derivation_check.proofs.files.Files.keep_masks.Given as goal

abbrev pub invariant-loop-reference : goal.invariant-loop-reference
invariant-loop-reference l = record {
  room : length l.masks ≡ max_references;
  kept :
      (r : ℕ) → r < l.reference → is_named (clause_count l.self.rule.bytes.now) (line_count l.self.derivation.now) r ≡ true
      → get_or l.masks r 0 ≡ mask (referent_literals l.self.rule.bytes.now l.self.derivation.now r);
}
