-- `put_numbers`: the first numbers are put, in at most 21 bytes each. Assumes nothing.
use Rattle.std.proofs.Common.{◌≡◌, ◌+◌, ◌*◌, ◌≤◌, length, take}
use Rattle.buffer.specs.Text.{Put, after_blanks}
use Rattle.buffer.proofs.put_numbers.Given as goal

abbrev pub invariant-loop-n : goal.invariant-loop-n
invariant-loop-n l =
    (length l.out ≡ length l.initial.out) × (l.end ≤ l.at + 21 * l.n-index) × Put l.initial.out l.at (after_blanks (take l.n-index l.numbers)) l.out l.end
