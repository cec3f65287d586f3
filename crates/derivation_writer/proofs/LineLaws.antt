-- One line more: its words after the others', whether it passes a limit, and what holds once it is written. Assumes
-- nothing.
use mathlib.Core.Path.{◌≡◌, sym, ap, ◌∙◌}
use mathlib.Core.Bool.{Bool, true, false, not}
use mathlib.Core.List.{List, [], ◌∷◌, ◌++◌, append-nil}
use Rattle.std.specs.Prelude.{Some}
use Prim.Native.Nat.{ℕ, ◌+◌, ◌*◌, ◌^◌, ◌≤◌, ◌<◌}
use native.Mathlib.Omega.{arith}
use lib.ListN.{length, length-append}
use borrow.Author.Tests.{leb-true, ltb-true, le-leb, lt-ltb, not-false}
use Rattle.formula.proofs.Membership.{and_iff}
use Rattle.bit_set.specs.BitSet.{mask, members}
use Rattle.bit_set.proofs.MemberLaws.{mask_members, length_members}
use Rattle.resolution.specs.Resolution.{Line, derived}
use Rattle.limits.specs.Limits.{max_lines}
use Rattle.buffer.specs.Text.{Put}
use Rattle.buffer.proofs.TextLaws.{put_front, put_length}
use Rattle.words.specs.Bytes.{bytes_of}
use Rattle.words.proofs.BytesLaws.{length_word_bytes, length_bytes_of, bytes_of_append}
use Rattle.words.proofs.WordsLaws.{Decides, decides_same}
use Rattle.written_derivation.specs.Writing.{write}
use Rattle.written_derivation.specs.File.{clause_words, line_words, lines_words}
use Rattle.written_derivation.proofs.ReadLaws.{lines_append, length_clause_words, length_blocking, length_resolvent}
use Rattle.derivation_writer.specs.declared.line.Annotated.{Annotated}
use Rattle.derivation_writer.specs.declared.line.Line as writer
use Rattle.derivation_writer.specs.declared.line.Line.TheVariants.{Blocking, Resolvent}
use Rattle.derivation_writer.specs.declared.lines.Lines.{Lines}
use Rattle.derivation_writer.specs.declared.lines.Written.{Written}
use Rattle.derivation_writer.specs.Line.{annotated, line_of}
use Rattle.derivation_writer.specs.Writer.{exceeds, has_room, Holds, Outcome}
use Rattle.derivation_writer.proofs.LimitLaws.{within}

-- the words of one line more
lines_more : (ls : List Line) (l : Line) → lines_words (ls ++ (l ∷ [])) ≡ lines_words ls ++ line_words l
unfolding lines_words
lines_more ls l = lines_append ls (l ∷ []) ∙ ap (lines_words ls ++◌) (append-nil (line_words l))

-- what a test for room says where it is true
pub record LineRoom (w : Lines) (words : ℕ) : Type 0 where
  pub bytes : w.bytes + 4 * words + 12 ≤ length w.out.now
  pub lines : w.count < max_lines

pub room_decides : (w : Lines) (words : ℕ) → Decides (not (has_room w words)) (LineRoom w words)
room_decides w words = (
  λ e. let (b, l) = (and_iff _ _).0 (not-false _ e) in record { bytes = leb-true _ _ b; lines = ltb-true _ _ l },
  λ r. rw (le-leb _ (length w.out.now) r.bytes, lt-ltb _ max_lines r.lines),
)

pub line_room : {w : Lines} {words : ℕ} {r : Bool} → r ≡ has_room w words → r ≡ true → LineRoom w words
line_room e t = (room_decides _ _).0 (ap not (sym e ∙ t))

-- the words of what is put, one part after another
pub ruleset put_steps = (length_word_bytes, length_bytes_of, length_clause_words)

-- and of a line, by its clause
pub size_of_blocking : (c : Annotated) → length (line_words (line_of (Blocking c))) ≡ 4 + length (members c.literals)
size_of_blocking c = length_blocking (annotated c)

pub size_of_resolvent : (c : Annotated) (v r u : ℕ) → length (line_words (line_of (Resolvent c v r u))) ≡ 7 + length (members c.literals)
size_of_resolvent c v r u = length_resolvent (annotated c) v r u

pub ruleset line_sizes = (size_of_blocking, size_of_resolvent, length_members)

module _ (at : ℕ) (before : List ℕ) {l : writer.Line} (room : at + 4 * length (line_words (line_of l)) ≤ length before) where
  pub blocking_room : {c : Annotated} → l ≡ Blocking c → at + 4 * (4 + length (members c.literals)) ≤ length before
  blocking_room {c} is = omega (arith, rw is at room, size_of_blocking c)

  -- where the clause of a resolvent ends, 12 bytes are left
  module _ {c : Annotated} {v r u : ℕ} (is : l ≡ Resolvent c v r u) where
    pub resolvent_room : at + 4 * (7 + length (members c.literals)) ≤ length before
    resolvent_room = omega (arith, rw is at room, size_of_resolvent c v r u)

    pub clause_ends : {out : List ℕ} {end : ℕ} → Put before at (bytes_of (2 ∷ clause_words (annotated c))) out end → end + 12 ≤ length out
    clause_ends put =
        let size = length_bytes_of (2 ∷ clause_words (annotated c)) in
        let words = length_clause_words (annotated c) in
        omega (arith, put_length (omega (arith, resolvent_room, put.ends, size, words)) put, resolvent_room, put.ends, size, words)

module _ {w : Lines} {ls : List Line} (holds : Holds w ls) where
  -- what is written leaves room for the trailer
  pub trailer_fits : w.bytes + 12 ≤ length w.out.now
  trailer_fits = omega (arith, holds.ends, ((within (length w.out.now) ls).0 holds.fits).bytes)

  module _ (l : Line) where
    length_lines : length (lines_words (ls ++ (l ∷ []))) ≡ length (lines_words ls) + length (line_words l)
    length_lines = ap length (lines_more ls l) ∙ length-append (lines_words ls) (line_words l)

    -- the limits with one line more
    line_decides : Decides (exceeds (length w.out.now) (ls ++ (l ∷ []))) (LineRoom w (length (line_words l)))
    line_decides =
        let count = length-append ls (l ∷ []) in (
          λ x. let d = (within (length w.out.now) (ls ++ (l ∷ []))).0 x in record { bytes = omega (arith, d.bytes, holds.ends, length_lines); lines = omega (arith, d.lines, holds.counted, count) },
          λ r. (within (length w.out.now) (ls ++ (l ∷ []))).1 (record { bytes = omega (arith, r.bytes, holds.ends, length_lines); lines = omega (arith, r.lines, holds.counted, count) }),
        )

    pub no_room : {r : Bool} → r ≡ has_room w (length (line_words l)) → r ≡ false → exceeds (length w.out.now) (ls ++ (l ∷ [])) ≡ true
    no_room e f = decides_same line_decides (room_decides w (length (line_words l))) (λ r. r) (λ r. r) ∙ ap not (sym e ∙ f)

    module _ (after : Lines) (put : Put w.out.now w.bytes (bytes_of (line_words l)) after.out.now after.bytes) (count : after.count ≡ w.count + 1) (room : LineRoom w (length (line_words l))) where
      same_length : length after.out.now ≡ length w.out.now
      same_length = put_length (omega (arith, room.bytes, put.ends, length_bytes_of (line_words l))) put

      -- what holds once it is put
      holds_more : Holds after (ls ++ (l ∷ []))
      holds_more =
          record {
            limited = rw same_length holds.limited;
            fits = ap (λ n. exceeds n (ls ++ (l ∷ []))) same_length ∙ line_decides.1 room;
            ends = omega (arith, holds.ends, put.ends, length_lines, length_bytes_of (line_words l));
            counted = omega (arith, holds.counted, length-append ls (l ∷ []), count);
            contents = put_front (omega (arith, room.bytes)) put
                ∙ ap (◌++ bytes_of (line_words l)) holds.contents
                ∙ sym (ap bytes_of (lines_more ls l) ∙ bytes_of_append (lines_words ls) (line_words l));
          }

      -- and what the writer then answers: the line's clause stands for the node
      pub outcome_more : {clause : Annotated} → clause.literals < 2 ^ 64 → annotated clause ≡ derived l → {r : Written} → r ≡ record { reference = 2 * w.count + 1; clause = clause } → Outcome (length w.out.now) after (Some r) (write ls l)
      outcome_more {clause} small e f =
          rw f record {
            same_size = same_length;
            holds = holds_more;
            reference_is = ap (λ n. 2 * n + 1) holds.counted;
            clause_is = sym (mask_members clause.literals small) ∙ ap (λ c. mask c.literals) e;
            value_is = ap (λ c. c.value) e;
          }
