-- `put_number`: a blank, then what `io::decimal` spelled. Assumes nothing.
use Rattle.std.proofs.Common.{arith}
use Rattle.buffer.proofs.DecimalLaws.{decimal_spells}
use Rattle.buffer.proofs.TextLaws.{put_append}
use Rattle.buffer.proofs.put_number.Goals as goal

pub returns-clause-text : goal.returns-clause-text
returns-clause-text c =
    let d = decimal_spells _ _ _ c.ranges.n.fits c.decimal-k.ensures.len c.decimal-k.ensures.digits in
    rw d.0 at (put_append (omega (arith, c.requires)) c.put-start.ensures.text c.put.ensures.text)
