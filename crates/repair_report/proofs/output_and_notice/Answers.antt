-- What stands in `out` is the repair's, and the notice is put by the case of what it answered.
use Rattle.std.proofs.Common.{◌≡◌, ◌∙◌, List, ℕ, Err, Ok, length, refl, ap, arith, rules}
use Rattle.buffer.specs.Text.{Put, Begins}
use Rattle.buffer.proofs.TextLaws.{put_nothing, put_begins}
use Rattle.limits.specs.Limits.{max_bytes}
use Rattle.answer.specs.Answer.{Answer, and_then, buffer_after}
use Rattle.repair.specs.Repair.{repair_file, repairs, repair_answer}
use Rattle.repair.specs.declared.Repairs.{Repairs}
use Rattle.repair_report.specs.RepairReport.{file_or_nothing, repair_output, counts_or_refusal, repair_notice}
use Rattle.repair_report.proofs.output_and_notice.Goals as goal

-- what the repair leaves in the buffer, and its length in what the repair answers
file_put : (a : Answer (List ℕ)) (before : List ℕ) → Put before 0 (file_or_nothing a) (buffer_after a before) (length (file_or_nothing a))
file_put (Err r) before = put_nothing before 0
file_put (Ok d) before = record { ends = omega arith; contents = refl }

abbrev size_of : Answer Repairs → ℕ
size_of (Err r) = 0
size_of (Ok x) = x.bytes

file_size : (b : List ℕ) (a : Answer (List ℕ)) → size_of (and_then a (λ d. Ok (repairs b d))) ≡ length (file_or_nothing a)
file_size b (Err r) = refl
file_size b (Ok d) = refl

-- both texts, by what `repair` answered for a buffer of 65,536 bytes
module _ (b before : List ℕ) {a : Answer Repairs} (size : length before ≡ max_bytes) (e : a ≡ repair_answer b (length before)) where
  output_begins : {after : List ℕ} → after ≡ buffer_after (repair_file b (length before)) before → Begins before (repair_output b) after (size_of a)
  unfolding repair_output repair_answer
  output_begins f = rw (f, ← size, e, file_size b (repair_file b (length before))) (put_begins (file_put (repair_file b (length before)) before))

  notice_begins : {start end : List ℕ} {n : ℕ} → Put start 0 (counts_or_refusal a) end n → Begins start (repair_notice b) end n
  unfolding repair_notice
  notice_begins put = put_begins (rw (e ∙ ap (repair_answer b) size) at put)

pub returns-in-Err : goal.returns-in-Err
returns-in-Err c = record {
  output = output_begins c.args.rule.now c.args.out.now (search rules) c.in-Err.ensures.answer c.in-Err.ensures.written;
  notice = notice_begins c.args.rule.now c.args.out.now (search rules) c.in-Err.ensures.answer c.put_refusal.ensures;
}

pub returns-in-Ok : goal.returns-in-Ok
returns-in-Ok c = record {
  output = output_begins c.args.rule.now c.args.out.now (search rules) c.in-Ok.ensures.answer c.in-Ok.ensures.written;
  notice = notice_begins c.args.rule.now c.args.out.now (search rules) c.in-Ok.ensures.answer c.put_counts.ensures;
}
