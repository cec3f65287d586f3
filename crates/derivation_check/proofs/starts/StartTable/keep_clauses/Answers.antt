-- `keep_clauses`: the start of the clause at hand is kept.
use Rattle.std.proofs.Common.{arith}
use Rattle.std.proofs.lemmas.Grind.{common_steps}
use Rattle.clause_words.specs.Clauses.{clause_start}
use Rattle.resolution_sets.proofs.DenominatorLaws.{clauses_read, few_clauses}
use Rattle.derivation_check.proofs.StartsLaws.{clauses_more, clause_steps}
use Rattle.derivation_check.proofs.starts.StartTable.keep_clauses.Goals as goal

pub loop-clause-preserved : goal.loop-clause-preserved
loop-clause-preserved c =
    let before = c.loop-clause.invariant in
    let read = c.args.file.now.is_read in
    record {
      here = grind (arith, clause_steps);
      clauses = rw c.keep.ensures (clauses_more (clause_start _) _ _ _ before.here (omega (arith, before.room, clauses_read _ _ read, few_clauses _ _ read)) before.clauses);
      lines = λ j. grind (arith, common_steps, clause_steps);
      room = grind (arith, common_steps);
    }
