-- By its case the clause is put, and of a resolvent three words after it.
use Rattle.std.proofs.Common.{[], ◌∷◌, ◌≤◌, length, arith}
use Rattle.words.proofs.BytesLaws.{length_word_bytes}
use Rattle.words.proofs.PutLaws.{put_first_word, put_word_after, put_words_after}
use Rattle.written_derivation.specs.File.{clause_words, line_words}
use Rattle.derivation_writer.specs.Line.{annotated}
use Rattle.derivation_writer.proofs.LineLaws.{blocking_room, resolvent_room, clause_ends}
use Rattle.derivation_writer.proofs.line.Line.put.Goals as goal

pub put_clause-requires-clause-clause_in_bounds : goal.put_clause-requires-clause-clause_in_bounds
put_clause-requires-clause-clause_in_bounds c = blocking_room _ _ c.requires.in_bounds c.in-Blocking.is

pub put_clause-variable-requires-clause-clause_in_bounds : goal.put_clause-variable-requires-clause-clause_in_bounds
put_clause-variable-requires-clause-clause_in_bounds c = omega (arith, resolvent_room _ _ c.requires.in_bounds c.in-Resolvent.is)

pub put_word-first-requires-clause-at_in_bounds : goal.put_word-first-requires-clause-at_in_bounds
put_word-first-requires-clause-at_in_bounds c = omega (arith, clause_ends _ _ c.requires.in_bounds c.in-Resolvent.is c.put_clause-variable.ensures)

pub put_word-second-requires-clause-at_in_bounds : goal.put_word-second-requires-clause-at_in_bounds
put_word-second-requires-clause-at_in_bounds c =
    omega (arith, clause_ends _ _ c.requires.in_bounds c.in-Resolvent.is c.put_clause-variable.ensures, length_word_bytes)

pub put_word-requires-clause-at_in_bounds : goal.put_word-requires-clause-at_in_bounds
put_word-requires-clause-at_in_bounds c =
    omega (arith, clause_ends _ _ c.requires.in_bounds c.in-Resolvent.is c.put_clause-variable.ensures, length_word_bytes)

pub returns-in-Blocking : goal.returns-in-Blocking
unfolding line_words
returns-in-Blocking c = rw c.in-Blocking.is c.put_clause.ensures

pub returns-in-Resolvent : goal.returns-in-Resolvent
unfolding line_words
returns-in-Resolvent c =
    let r = c.in-Resolvent in
    let before : c.args.at ≤ length c.args.out.now = omega arith in
    let after : c.put_clause-variable.result ≤ length c.put_clause-variable.new.out = omega (arith, clause_ends _ _ c.requires.in_bounds r.is c.put_clause-variable.ensures) in
    let variable = put_first_word r.v c.put_word-first.ensures in
    let true_side = put_word_after (r.v ∷ []) after variable r.true_side c.put_word-second.ensures in
    let false_side = put_word_after (r.v ∷ r.true_side ∷ []) after true_side r.false_side c.put_word.ensures in
    rw r.is (put_words_after (2 ∷ clause_words (annotated r.clause)) before c.put_clause-variable.ensures (r.v ∷ r.true_side ∷ r.false_side ∷ []) false_side)
