-- `check_lines`: the sets of all clauses stand at their references, so the table of occurrences is one of the clauses.
use Rattle.std.proofs.Common.{arith}
use Rattle.rule_file.specs.RuleFile.{clauses}
use Rattle.rule_file.proofs.FileLaws.{clauses_length}
use Rattle.resolution_sets.proofs.OccurrencesLaws.{occurrences_of}
use Rattle.resolution_sets.proofs.DenominatorLaws.{clauses_read}
use Rattle.derivation_check.proofs.ParentLaws.{clause_masked}
use Rattle.derivation_check.proofs.check_lines.Goals as goal

pub invariant_of-tables : goal.invariant_of-tables
invariant_of-tables c =
    let f = c.args.files.now in
    let b = f.rule.bytes.now in
    let count = clauses_length b in
    let masks = c.keep_masks.new.masks in
    record {
      masks_are = c.keep_masks.ensures;
      occurrences_are =
          occurrences_of (clauses b) masks c.put_occurrences.new.table 2
          (λ j h. clause_masked j b f.derivation.now masks c.keep_masks.ensures (omega (arith, count)))
          (λ j l h k. c.put_occurrences.ensures.occurrences_by_mask j l (omega (arith, count, clauses_read b f.rule.header f.rule.is_read)) k);
      denominators_are = c.denominators.ensures.denominators;
    }
