-- `is_name`: `find` stops at the end where no byte is 0. Assumes nothing.
use Rattle.job_list.proofs.LineLaws.{empty_name, name_by_index}
use Rattle.job_list.proofs.is_name.Goals as goal

pub returns-then-length-ne0 : goal.returns-then-length-ne0
returns-then-length-ne0 c = record { answer = name_by_index _ _ c.if-length-ne0.true c.find.ensures.value }

pub returns-else-length-ne0 : goal.returns-else-length-ne0
returns-else-length-ne0 c = record { answer = rw c.if-length-ne0.false (empty_name _ c.if-length-ne0.false) }
