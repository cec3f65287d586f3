-- What is read stands in the room.
use Rattle.std.proofs.Common.{take, arith, ap, ◌∙◌, Some}
use Rattle.tally.specs.Tally.{kind_of}
use Rattle.ssat_tally.proofs.file_result.Goals as goal

pub returns-in-Ok : goal.returns-in-Ok
returns-in-Ok g c =
    let read = c.in-Ok.ensures in
    (Some (take c.in-Ok.n c.read_named.new.room), (omega (read.0, read.1, c.read_named.auto.room, arith), c.from.ensures ∙ ap kind_of c.verdict.ensures.answer))
