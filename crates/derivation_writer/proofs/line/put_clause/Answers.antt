-- The kind, the size, the literals and the value's two words, one after another.
use Rattle.std.proofs.Common.{[], ◌∷◌, ◌++◌, ◌/◌, ◌%◌, ◌≤◌, append_assoc, length, arith, rules}
use lib.Count.{ones}
use Rattle.bit_set.specs.BitSet.{members}
use Rattle.bit_set.proofs.MemberLaws.{length_members}
use Rattle.words.proofs.PutLaws.{put_first_word, put_words_after, put_word_after}
use Rattle.derivation_writer.proofs.line.put_clause.Goals as goal

pub returns : goal.returns
returns c =
    let a = c.args in
    let x = a.clause in
    let room : a.at ≤ length a.out.now = omega (arith, c.requires) in
    let kind = put_first_word a.kind c.put_word-size.ensures in
    let size = put_word_after (a.kind ∷ []) room kind (ones x.literals) c.put_word-literals.ensures in
    let literals = put_words_after (a.kind ∷ ones x.literals ∷ []) room size (members x.literals) c.put_members-low.ensures in
    let low = put_word_after (a.kind ∷ ones x.literals ∷ members x.literals) room literals (x.value % 4294967296) c.put_word-high.ensures in
    let high = put_word_after (a.kind ∷ ones x.literals ∷ (members x.literals ++ (x.value % 4294967296 ∷ []))) room low (x.value / 4294967296) c.put_word.ensures in
    rw (length_members x.literals (search rules)) (rw (append_assoc (members x.literals)) at high)
