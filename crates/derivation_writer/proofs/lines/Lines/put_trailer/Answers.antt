-- Three words, one after another.
use Rattle.std.proofs.Common.{[], ◌∷◌, ◌+◌, ◌/◌, ◌≤◌, length, arith}
use Rattle.words.proofs.PutLaws.{put_first_word, put_word_after}
use Rattle.derivation_writer.proofs.lines.Lines.put_trailer.Goals as goal

pub returns : goal.returns
returns c =
    let w = c.args.self.now in
    let room : w.bytes ≤ length w.out.now = omega (arith, c.requires) in
    let count = put_first_word w.count c.put_word-closing.ensures in
    let closing = put_word_after (w.count ∷ []) room count c.args.reference c.put_word-count.ensures in
    put_word_after (w.count ∷ c.args.reference ∷ []) room closing (w.bytes / 4 + 3) c.put_word.ensures
