-- The check's answer, one check at a time: 14, what a refusal of a line passes on, and what has passed 21. 13 is
-- WordsLaws' right_length, and 15 and 16 are places that WalkLaws speaks of. Assumes nothing.
use Rattle.std.specs.Prelude.{Ok, Option, None, Some}
use mathlib.Core.Path.{◌≡◌, refl}
use mathlib.Core.List.{List}
use Prim.Native.Nat.{ℕ, ◌≤◌}
use borrow.Author.Tests.{eq-eqb, le-ltb, eqb-true, ltb-false, not-false}
use Rattle.formula.proofs.SomeLaws.{or_false}
use Rattle.limits.specs.Limits.{max_lines}
use Rattle.answer.specs.Answer.{Answer}
use Rattle.answer.proofs.AnswerLaws.{answer_no_refusal}
use Rattle.words.specs.Words.{word_count, stated_count}
use Rattle.words.proofs.WordsLaws.{Decides}
use Rattle.derivation.specs.DerivationFile.{line_count}
use Rattle.resolution.specs.declared.Fault.{Fault}
use Rattle.derivation.specs.Check.{wrong_counts, refuse_line, close}
use Rattle.derivation.specs.declared.Closing.{Closing}

pub check_14 : (d : List ℕ) → Decides (wrong_counts d) ((stated_count d ≡ word_count d) × (line_count d ≤ max_lines))
unfolding wrong_counts
check_14 d = (
  λ e. let (e₁, e₂) = or_false _ _ e in (eqb-true _ _ (not-false _ e₁), ltb-false _ _ e₂),
  λ h. simp (eq-eqb _ _ h.0, le-ltb _ _ h.1),
)

-- an answer has passed 17 to 20 of each line, and 21
pub passed_line : {A : Type 0} (o : Option (Fault × ℕ)) (rest : Answer A) (x : A) → refuse_line o rest ≡ Ok x → (o ≡ None) × (rest ≡ Ok x)
passed_line None rest x e = (refl, e)
passed_line (Some f) rest x e = absurd (answer_no_refusal _ x e)

pub passed_closing : (o : Option ℕ) (w : ℕ) (c : Closing) → close o w ≡ Ok c → (o ≡ Some c.value) × (c.whole ≡ w)
passed_closing None w c e = absurd (answer_no_refusal _ c e)
passed_closing (Some x) w c e = (cc, cc)
