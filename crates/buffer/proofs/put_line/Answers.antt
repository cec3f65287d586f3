-- `put_line`: name, numbers and line feed, one after another. Assumes nothing.
use Rattle.std.proofs.Common.{◌≤◌, length, arith}
use Rattle.buffer.specs.Text.{line}
use Rattle.buffer.proofs.TextLaws.{put_append}
use Rattle.buffer.proofs.put_line.Goals as goal

pub returns-clause-text : goal.returns-clause-text
unfolding line
returns-clause-text c =
    let room : c.args.at ≤ length c.args.out.now = omega (arith, c.requires) in
    put_append room (put_append room c.put-first.ensures.text c.put_numbers-last.ensures.text) c.put.ensures.text
