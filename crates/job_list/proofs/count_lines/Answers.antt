-- `count_lines`: one line more is counted, or none is left. Assumes nothing.
use Rattle.std.proofs.Common.{◌≡◌, length, drop, ap, arith}
use Rattle.job_list.specs.JobList.{list_lines}
use Rattle.job_list.proofs.SplitLaws.{lines_next, lines_over}
use Rattle.job_list.proofs.count_lines.Goals as goal

pub loop-at-preserved : goal.loop-at-preserved
loop-at-preserved c =
    let (sum, less, short) = c.loop-at.invariant in (
      omega (lines_next _ _ _ c.loop-at-test.true c.find-at.ensures.value, sum, arith),
      omega (less, c.find-at.ensures.value, arith),
      short,
    )

pub returns : goal.returns
returns c =
    let none : length (list_lines (drop c.loop-at.at c.args.list.now)) ≡ 0 = ap length (lines_over c.args.list.now c.loop-at.at c.loop-at-test.false) in
    record { value = omega (c.loop-at.invariant.0, none, arith) }
