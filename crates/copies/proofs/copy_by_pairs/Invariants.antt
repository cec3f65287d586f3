-- No clause that is passed is a copy.
use Rattle.std.proofs.Common.{◌≡◌}
use Rattle.formula.specs.Formula.{equal}
use Rattle.words.specs.Walk.{first_copy}
use Rattle.clause_words.specs.Clauses.{clause_start, clauses_from}
use Rattle.copies.proofs.NoCopyLaws.{copy_left}
use Rattle.copies.proofs.copy_by_pairs.Given as goal

abbrev pub invariant-loop-j : goal.invariant-loop-j
invariant-loop-j l = record {
  starts : l.i ≡ clause_start l.file l.j;
  no_copy : copy_left l.file l.count l.j l.i ≡ first_copy equal (clauses_from l.file l.count 0);
}
