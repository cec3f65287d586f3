-- None of the clauses that are passed equals the other.
use Rattle.std.proofs.Common.{◌≡◌, ◌-◌}
use Rattle.clause_words.specs.Clauses.{clause_start, clauses_from}
use Rattle.copies.proofs.PairLaws.{some_equal}
use Rattle.copies.proofs.equals_earlier.Given as goal

abbrev pub invariant-loop : goal.invariant-loop
invariant-loop l = record {
  starts : l.i ≡ clause_start l.file l.counter;
  left : some_equal l.file l.other (clauses_from l.file (l.count - l.counter) l.i) ≡ some_equal l.file l.other (clauses_from l.file l.count 0);
}
