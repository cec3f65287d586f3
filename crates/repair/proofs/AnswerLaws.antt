-- The repair's answer by the case of what it goes on from: the reader's refusal, 25, or the repaired file, and what the
-- buffer then holds. Assumes nothing.
use Rattle.std.specs.Prelude.{Err, Ok}
use mathlib.Core.Path.{◌≡◌, ap, ◌∙◌}
use mathlib.Core.List.{List, ◌++◌}
use Prim.Native.Nat.{ℕ, ◌≤◌, ◌<◌}
use native.Mathlib.Nat.{zero-add}
use lib.ListN.{length, drop}
use lib.Dec.{ltb}
use borrow.Author.Tests.{lt-ltb, le-ltb, ltb-false}
use Rattle.answer.specs.Answer.{buffer_after}
use Rattle.answer.specs.declared.Refusal.{Refusal}
use Rattle.answer.specs.declared.Refusal.TheVariants as refusal
use Rattle.answer.proofs.AnswerLaws.{passed, passed_then, same_answer}
use Rattle.buffer.specs.Text.{Put}
use Rattle.rule_file.specs.ReaderLimits.{stored_limits}
use Rattle.rule_file.specs.Reader.{read_stored}
use Rattle.rule_file.specs.Accepted.{AcceptedWithin}
use Rattle.rule_file.specs.declared.Header.{Header}
use Rattle.rule_file.proofs.AcceptedLaws.{within_answers}
use Rattle.stored_file.proofs.StoredLaws.{stored_answered}
use Rattle.repair.specs.Repair.{repaired_file, repair_file, repairs, repair_answer}

-- what is repaired was accepted by the reader of stored files, and the buffer is as long
pub answered_repair : (b : List ℕ) (capacity : ℕ) (d : List ℕ) → repair_file b capacity ≡ Ok d
    → AcceptedWithin stored_limits b × ((length b ≤ capacity) × (repaired_file b ≡ d))
unfolding repair_file
answered_repair b capacity d e =
    let (h, read, rest) = passed_then _ _ d e in
    let (fits, is) = passed (ltb capacity (length b)) refusal.BufferTooShort _ d rest in
    ((stored_answered b h read).0, (ltb-false _ _ fits, same_answer _ _ is))

-- and what was accepted is repaired in such a buffer
pub repair_answers : (b : List ℕ) (capacity : ℕ) → AcceptedWithin stored_limits b → length b ≤ capacity → repair_file b capacity ≡ Ok (repaired_file b)
unfolding repair_file read_stored
repair_answers b capacity a h = rw (within_answers stored_limits b a, le-ltb _ _ h)

-- a refusal of the reader, and 25
module _ (b : List ℕ) (capacity : ℕ) where
  pub reader_refused : (k : Refusal) → read_stored b ≡ Err k → repair_file b capacity ≡ Err k
  unfolding repair_file
  reader_refused k e = rw e

  pub short_buffer : (h : Header) → read_stored b ≡ Ok h → capacity < length b → repair_file b capacity ≡ Err refusal.BufferTooShort
  unfolding repair_file
  short_buffer h e less = rw (e, lt-ltb _ _ less)

  pub repaired_fits : (h : Header) → read_stored b ≡ Ok h → length b ≤ capacity → repair_file b capacity ≡ Ok (repaired_file b)
  repaired_fits h e = repair_answers b capacity (stored_answered b h e).0

  -- so of the counts
  pub counts_refused : (k : Refusal) → repair_file b capacity ≡ Err k → repair_answer b capacity ≡ Err k
  unfolding repair_answer
  counts_refused k e = rw e

  pub counted : (d : List ℕ) → repair_file b capacity ≡ Ok d → repair_answer b capacity ≡ Ok (repairs b d)
  unfolding repair_answer
  counted d e = rw e

-- a file that is put at the buffer's start
pub put_is_after : (before after d : List ℕ) (end : ℕ) → Put before 0 d after end → after ≡ buffer_after (Ok d) before
put_is_after before after d end p = p.contents ∙ ap (λ n. d ++ drop n before) (p.ends ∙ zero-add _)

pub ruleset repair_steps = (reader_refused, short_buffer, repaired_fits, counts_refused, counted, put_is_after)
