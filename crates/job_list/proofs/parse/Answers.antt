-- `parse`: the line by its parts, as far as they go. Assumes nothing.
use Rattle.std.proofs.Common.{◌∙◌, ap, sym, arith}
use Rattle.job_list.specs.JobList.{parsed}
use Rattle.job_list.proofs.LineLaws.{one_part, two_parts, unnamed, without_lower, without_upper, complete}
use Rattle.job_list.proofs.parse.Goals as goal

pub returns-then-first-length : goal.returns-then-first-length
returns-then-first-length c = record { answer = one_part _ _ c.find-first.ensures.value c.if-first-length.true }

pub returns-then-second-length : goal.returns-then-second-length
returns-then-second-length c =
    record { answer = two_parts _ _ c.find-first.ensures.value (omega arith) _ c.find-second.ensures.value c.if-second-length.true }

pub returns-then-not-is_name : goal.returns-then-not-is_name
returns-then-not-is_name c =
    record {
      answer = unnamed _ _ c.find-first.ensures.value (omega arith) _ c.find-second.ensures.value (omega arith) (sym c.if-not-is_name.ensures.answer);
    }

pub returns-in_err-lower : goal.returns-in_err-lower
returns-in_err-lower c =
    record {
      answer =
          ap parsed c.from_residual.ensures
          ∙ without_lower _ _ c.find-first.ensures.value (omega arith) _ c.find-second.ensures.value (omega arith) (sym c.in_err-lower.ensures.answer);
    }

pub returns-in_err-upper : goal.returns-in_err-upper
returns-in_err-upper c =
    record {
      answer =
          ap parsed c.from_residual-in_err-upper.ensures
          ∙ without_upper _ _ c.find-first.ensures.value (omega arith) _ c.find-second.ensures.value (omega arith) (sym c.in_err-upper.ensures.answer);
    }

pub returns : goal.returns
returns c =
    record {
      answer =
          complete _ _ c.find-first.ensures.value (omega arith) _ c.find-second.ensures.value (omega arith) _ _
          (sym c.if-not-is_name.ensures.answer)
          (sym c.in_ok-lower.ensures.answer)
          (sym c.in_ok-upper.ensures.answer);
    }
