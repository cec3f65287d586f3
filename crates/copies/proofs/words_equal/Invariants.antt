-- The words that are passed are equal.
use Rattle.std.proofs.Common.{◌≡◌, ℕ, ◌+◌, ◌<◌}
use Rattle.words.specs.Words.{word}
use Rattle.copies.proofs.words_equal.Given as goal

abbrev pub invariant-loop-t : goal.invariant-loop-t
invariant-loop-t l = (s : ℕ) → s < l.t → word l.file (l.i + s) ≡ word l.file (l.j + s)
