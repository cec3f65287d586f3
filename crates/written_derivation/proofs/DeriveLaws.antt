-- The writer's answer: 22 with the fact that it decides, what an answer has passed, and what the length answered and
-- the lent buffer tell of the derivation. Assumes nothing.
use Rattle.std.specs.Prelude.{Err, Ok}
use mathlib.Core.Path.{◌≡◌, refl, sym, ap, ◌∙◌}
use mathlib.Core.List.{List, ◌++◌}
use Prim.Native.Nat.{ℕ, ◌≤◌}
use native.Mathlib.Omega.{arith}
use lib.ListN.{length, drop}
use borrow.Author.Tests.{le-ltb, ltb-false}
use Rattle.formula.proofs.SomeLaws.{or_false}
use Rattle.limits.specs.Limits.{max_bytes, max_lines}
use Rattle.answer.specs.Answer.{Answer, refuse_if, buffer_after}
use Rattle.answer.specs.declared.Refusal.TheVariants as refusal
use Rattle.answer.specs.declared.Refusal.{Refusal}
use Rattle.answer.proofs.AnswerLaws.{answer_no_refusal, passed, passed_then}
use Rattle.buffer.specs.Text.{Put}
use Rattle.words.proofs.WordsLaws.{Decides}
use Rattle.rule_file.specs.Reader.{read_file}
use Rattle.rule_file.specs.Accepted.{Accepted}
use Rattle.rule_file.proofs.AcceptedLaws.{answered}
use Rattle.written_derivation.specs.Derive.{written_for, derivation_for, too_long, derive_file, length_of}

-- the derivation is within the lent buffer, 65,536 bytes and 1,024 lines
pub record Short (b : List ℕ) (capacity : ℕ) : Type 0 where
  pub in_buffer : length (derivation_for b) ≤ capacity
  pub few_bytes : length (derivation_for b) ≤ max_bytes
  pub few_lines : length (written_for b).lines ≤ max_lines

pub check_22 : (b : List ℕ) (capacity : ℕ) → Decides (too_long b capacity) (Short b capacity)
unfolding too_long
check_22 b capacity = (
  λ e.
      let (e₁₂, e₃) = or_false _ _ e in
      let (e₁, e₂) = or_false _ _ e₁₂ in
      record { in_buffer = ltb-false _ _ e₁; few_bytes = ltb-false _ _ e₂; few_lines = ltb-false _ _ e₃ },
  λ s. simp (le-ltb _ _ s.in_buffer, le-ltb _ _ s.few_bytes, le-ltb _ _ s.few_lines),
)

pub derivation_answered : (b : List ℕ) (capacity : ℕ) (d : List ℕ) → derive_file b capacity ≡ Ok d → Accepted b × Short b capacity × (derivation_for b ≡ d)
unfolding derive_file
derivation_answered b capacity d e =
    let (h, read, rest) = passed_then (read_file b) (λ _. refuse_if (too_long b capacity) refusal.DerivationTooLong (Ok (derivation_for b))) d e in
    let (p₂₂, same) = passed (too_long b capacity) refusal.DerivationTooLong (Ok (derivation_for b)) d rest in
    ((answered b h read).0, (check_22 b capacity).0 p₂₂, cc)

-- the refusal answered is the derivation's, and the buffer is as it was
pub refusal_answered :
    (a : Answer (List ℕ)) (before after : List ℕ) (k : Refusal) → length_of a ≡ Err k → after ≡ buffer_after a before
    → (a ≡ Err k) × (after ≡ before)
refusal_answered (Err r) before after k e f = (cc, f)
refusal_answered (Ok d) before after k e f = absurd (answer_no_refusal k (length d) (sym e))

-- the length answered is that of a derivation that stands at the buffer's start
pub length_answered :
    (a : Answer (List ℕ)) (before after : List ℕ) (n : ℕ) → length_of a ≡ Ok n → after ≡ buffer_after a before
    → (d : List ℕ) × (a ≡ Ok d) × Put before 0 d after n
length_answered (Err r) before after n e f = absurd (answer_no_refusal r n e)
length_answered (Ok d) before after n e f =
    let g : length d ≡ n = cc in
    (d, refl, record { ends = omega arith; contents = f ∙ ap (λ m. d ++ drop m before) g })
