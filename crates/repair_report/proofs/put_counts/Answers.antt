-- The lines, one after another, from the buffer's start.
use Rattle.std.proofs.Common.{zero-le}
use Rattle.buffer.specs.Text.{ascii}
use Rattle.buffer.proofs.TextLaws.{put_append}
use Rattle.repair_report.specs.RepairReport.{counts_text}
use Rattle.repair_report.proofs.put_counts.Goals as goal

pub returns : goal.returns
unfolding counts_text ascii
returns c =
    let two = put_append zero-le c.put_line-bytes.ensures.text c.put_line-clauses.ensures.text in
    put_append zero-le (put_append zero-le two c.put_line-literals.ensures.text) c.put_line.ensures.text
