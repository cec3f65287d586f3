-- From here, as many clauses on as are left, is where the whole way leads.
use Rattle.std.proofs.Common.{◌≡◌, ◌-◌}
use Rattle.clause_reader.specs.Cursor.{advance_file}
use Rattle.clause_reader.proofs.cursor.advanced.Given as goal

abbrev pub invariant-loop : goal.invariant-loop
invariant-loop l = advance_file l.rule (l.count - l.counter) l.at ≡ advance_file l.rule l.count l.fn.cursor
