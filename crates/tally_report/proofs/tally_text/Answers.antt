-- The lines, one after another, from the buffer's start.
use Rattle.std.proofs.Common.{zero-le}
use Rattle.buffer.specs.Text.{ascii}
use Rattle.buffer.proofs.TextLaws.{put_append, put_begins}
use Rattle.tally_report.specs.TallyReport.{tally_text}
use Rattle.tally_report.proofs.tally_text.Goals as goal

pub returns : goal.returns
unfolding tally_text ascii
returns c =
    let two = put_append zero-le c.put_line-files.ensures.text c.put_line-refused.ensures.text in
    let four = put_append zero-le (put_append zero-le two c.put_line-above.ensures.text) c.put_line-below.ensures.text in
    record { text = put_begins (put_append zero-le four c.put_line.ensures.text) }
