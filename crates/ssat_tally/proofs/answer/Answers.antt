-- What is printed goes by what `read_list` answered.
use Rattle.std.proofs.Common.{sym}
use Rattle.buffer.proofs.TextLaws.{put_begins}
use Rattle.job_list.proofs.ListLaws.{accepted_list}
use Rattle.ssat_tally.proofs.ResultsLaws.{prints_refusal}
use Rattle.ssat_tally.proofs.answer.Goals as goal

pub tally_lines-requires : goal.tally_lines-requires
tally_lines-requires g c = (accepted_list _ _ (sym c.in-Ok.ensures.answer)).bytes

pub returns-in-Err : goal.returns-in-Err
returns-in-Err g c = prints_refusal _ _ _ _ _ (sym c.in-Err.ensures.answer) (put_begins c.put_refusal.ensures)
