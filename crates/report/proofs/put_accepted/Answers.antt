-- The head, and then the lines of the cuts.
use Rattle.std.proofs.Common.{zero-le, rules}
use Rattle.buffer.proofs.TextLaws.{put_append}
use Rattle.report.proofs.ReportLaws.{few_levels, text_tabled}
use Rattle.report.proofs.put_accepted.Goals as goal

pub slice_bounds-put_cuts-end : goal.slice_bounds-put_cuts-end
slice_bounds-put_cuts-end c = let few = few_levels _ c.args.file.now.is_read in search rules

pub returns : goal.returns
returns c =
    rw (← (text_tabled _ c.args.file.now.is_read c.cuts_of-cuts.ensures.value (search rules))) (put_append zero-le c.put_head-end.ensures.put c.put_cuts.ensures)
