-- `limit`: the digits passed are read. Assumes nothing.
use Rattle.job_list.proofs.LimitLaws.{ReadTo}
use Rattle.job_list.proofs.limit.Given as goal

abbrev pub invariant-loop-byte : goal.invariant-loop-byte
invariant-loop-byte l = ReadTo l.part l.byte-index l.value
