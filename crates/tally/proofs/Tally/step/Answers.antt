-- `step`, by the case of the kind: a tally that is not full has room in every count. Assumes
-- nothing.
use Rattle.std.proofs.Common.{◌≡◌, ℕ, ◌+◌, ◌<◌, false, Fits, w64, refl, sym, ap, ◌∙◌, arith}
use native.Mathlib.Nat.{add-zero}
use Rattle.tally.specs.declared.Tally.{Tally}
use Rattle.tally.specs.declared.Kind.{Kind}
use Rattle.tally.specs.Tally.{is_full, one_if, counted, step}
use Rattle.tally.proofs.TallyLaws.{room, same_tally, full_step, counted_step}
use Rattle.tally.proofs.Tally.step.Goals as goal

-- the counts fit their words
fits : {x : ℕ} → x < 4096 → Fits w64 (x + 1)
fits h = record { fits = omega arith }

-- past the test, the tally with its counts moved by the kind is what is returned
moved : (t : Tally) {u : Tally} {j k : Kind} → false ≡ is_full t → k ≡ j → u ≡ counted t j → u ≡ step t k
moved t {k = k} e f g = g ∙ ap (counted t) (sym f) ∙ sym (counted_step t k (sym e))

same : {x : ℕ} → x ≡ x + 0
same {x = x} = sym (add-zero x)

pub returns-then-is_full : goal.returns-then-is_full
returns-then-is_full c = sym (full_step _ _ (sym c.if-is_full.ensures))

pub overflow_add-next : goal.overflow_add-next
overflow_add-next c = fits (room c.args.self (sym c.if-is_full.ensures)).files

pub overflow_add-next-in-Refused : goal.overflow_add-next-in-Refused
overflow_add-next-in-Refused c = fits (room c.args.self (sym c.if-is_full.ensures)).refused

pub overflow_add-next-in-Above : goal.overflow_add-next-in-Above
overflow_add-next-in-Above c = fits (room c.args.self (sym c.if-is_full.ensures)).above

pub overflow_add-next-in-Below : goal.overflow_add-next-in-Below
overflow_add-next-in-Below c = fits (room c.args.self (sym c.if-is_full.ensures)).below

pub overflow_add-next-in-Within : goal.overflow_add-next-in-Within
overflow_add-next-in-Within c = fits (room c.args.self (sym c.if-is_full.ensures)).within

pub returns-in-Refused : goal.returns-in-Refused
unfolding counted one_if
returns-in-Refused c = moved c.args.self c.if-is_full.ensures c.in-Refused.is (same_tally refl refl same same same)

pub returns-in-Above : goal.returns-in-Above
unfolding counted one_if
returns-in-Above c = moved c.args.self c.if-is_full.ensures c.in-Above.is (same_tally refl same refl same same)

pub returns-in-Below : goal.returns-in-Below
unfolding counted one_if
returns-in-Below c = moved c.args.self c.if-is_full.ensures c.in-Below.is (same_tally refl same same refl same)

pub returns-in-Within : goal.returns-in-Within
unfolding counted one_if
returns-in-Within c = moved c.args.self c.if-is_full.ensures c.in-Within.is (same_tally refl same same same refl)
