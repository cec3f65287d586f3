-- A refusal's line is put into a buffer that is as it was, and a derivation stands in it already.
use Rattle.std.proofs.Common.{◌≡◌, ◌∙◌, List, ℕ, length, sym, ap, rules}
use Rattle.buffer.proofs.TextLaws.{put_begins}
use Rattle.limits.specs.Limits.{max_bytes}
use Rattle.written_derivation.specs.Derive.{derive_file}
use Rattle.written_derivation.proofs.DeriveLaws.{refusal_answered, length_answered}
use Rattle.derive_report.specs.DeriveReport.{derivation_or_refusal, derive_text}
use Rattle.derive_report.proofs.derivation_or_refusal.Goals as goal

-- the text, by what is answered for a buffer of 65,536 bytes
text_is : (b : List ℕ) {n : ℕ} → n ≡ max_bytes → derive_text b ≡ derivation_or_refusal (derive_file b n)
unfolding derive_text
text_is b size = ap (λ n. derivation_or_refusal (derive_file b n)) (sym size)

pub returns-in-Err : goal.returns-in-Err
returns-in-Err c =
    let (a, same) = refusal_answered _ _ _ _ (sym c.in-Err.ensures.answer) c.in-Err.ensures.written in
    record { text = rw (text_is c.args.rule.now {n = length c.args.out.now} (search rules) ∙ ap derivation_or_refusal a) (put_begins (rw same at c.put_refusal.ensures)) }

pub returns-in-Ok : goal.returns-in-Ok
returns-in-Ok c =
    let (d, a, put) = length_answered _ _ _ _ (sym c.in-Ok.ensures.answer) c.in-Ok.ensures.written in
    record { text = rw (text_is c.args.rule.now {n = length c.args.out.now} (search rules) ∙ ap derivation_or_refusal a) (put_begins put) }
