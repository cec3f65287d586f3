-- The lines, one after another.
use Rattle.std.proofs.Common.{zero-le}
use Rattle.buffer.specs.Text.{ascii}
use Rattle.buffer.proofs.TextLaws.{put_append}
use Rattle.report.specs.Report.{head_text}
use Rattle.report.proofs.put_head.Goals as goal

pub returns-clause-put : goal.returns-clause-put
unfolding head_text ascii
returns-clause-put c =
    let two = put_append zero-le c.put_line-vars.ensures.text c.put_line-clauses.ensures.text in
    put_append zero-le (put_append zero-le two c.put_line-whole.ensures.text) c.put_line.ensures.text
