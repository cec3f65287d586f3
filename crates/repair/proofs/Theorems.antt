-- What is claimed of a repair, over the bytes of both files and in the lent buffer. The definitions to read are in
-- specs/Clauses, specs/Repair and specs/Claims. Assumes nothing.
use Rattle.std.specs.Prelude.{Ok}
use mathlib.Core.Path.{◌≡◌, refl, sym, ap, ◌∙◌, subst, subst⁻¹}
use mathlib.Core.Bool.{false}
use mathlib.Core.List.{List, ◌++◌}
use Prim.Native.Nat.{ℕ, ◌≤◌}
use native.Mathlib.Omega.{arith}
use lib.ListN.{length, drop, length-append, length-drop}
use Rattle.formula.specs.Formula.{some_of, unordered, equal}
use Rattle.formula.specs.Quantifier.{denominator}
use Rattle.formula.proofs.CopyLaws.{NoCopies}
use Rattle.answer.specs.Answer.{buffer_after}
use Rattle.answer.proofs.AnswerLaws.{passed_then, same_answer}
use Rattle.buffer.specs.Text.{Put}
use Rattle.buffer.proofs.TextLaws.{put_begins}
use Rattle.words.proofs.FirstCopyLaws.{first_copy_iff}
use Rattle.rule_file.specs.ReaderLimits.{stored_limits}
use Rattle.rule_file.specs.RuleFile.{variable_count, clauses, prefix, whole}
use Rattle.rule_file.specs.Accepted.{AcceptedWithin, Accepted}
use Rattle.rule_file.proofs.FileLaws.{prefix_length}
use Rattle.rule_file.proofs.AcceptedLaws.{accepted_answers, stored_accepts}
use Rattle.value.specs.Value.{figure_of, figure_file}
use Rattle.repair.specs.Clauses.{repaired}
use Rattle.repair.specs.File.{rule_bytes}
use Rattle.repair.specs.Repair.{repaired_file, repair_file, repair_answer, repairs}
use Rattle.repair.specs.declared.Repairs.{Repairs}
use Rattle.repair.specs.Claims.{RepairedTo, RepairedInto}
use Rattle.repair.proofs.ListLaws.{repaired_ordered, repaired_in_range, repaired_no_copies, ordered_repaired}
use Rattle.repair.proofs.MeaningLaws.{repaired_satisfied, repaired_figure}
use Rattle.repair.proofs.ReadBack.{same_prefix}
use Rattle.repair.proofs.AnswerLaws.{answered_repair, repair_answers}
use Rattle.repair.proofs.RepairLaws.{not_longer, few_repaired, repaired_reads, in_order_counts}

-- The repaired file of an accepted one
module _ (b : List ℕ) (a : AcceptedWithin stored_limits b) where
  abbrev d : List ℕ
  d = repaired_file b

  prefix_is : prefix d ≡ prefix b
  prefix_is = same_prefix b d (repaired_reads b a).variable_count_is (repaired_reads b a).weights_are

  accepted : Accepted d
  accepted =
      let r = repaired_reads b a in
      record {
        right_length = r.right_length;
        right_count = r.right_count;
        few_variables = rw r.variable_count_is a.few_variables;
        few_clauses = omega (arith, r.clause_count_is, few_repaired b a, a.few_clauses);
        prefix_ends = r.prefix_ends;
        walked = r.walked;
        in_range = rw (r.clauses_are, r.variable_count_is) (repaired_in_range (variable_count b) (clauses b) a.in_range);
        ordered = rw r.clauses_are (repaired_ordered (clauses b));
        no_copies = rw r.clauses_are ((first_copy_iff equal (repaired (clauses b))).1 (repaired_no_copies (clauses b)));
        well_formed = rw prefix_is a.well_formed;
        bounded = rw prefix_is a.bounded;
      }

  figure_is : figure_file d ≡ Ok (record { figure = figure_of b; whole = whole b })
  unfolding figure_file
  figure_is =
      let same : figure_of d ≡ figure_of b = rw ((repaired_reads b a).clauses_are, prefix_is) (repaired_figure (clauses b) (prefix b) (rw (prefix_length b) a.in_range)) in
      rw (accepted_answers d accepted) (λ j. Ok (record { figure = same j; whole = denominator (prefix_is j) }))

  -- the new clauses are in order and without copies, so that nothing is left to do
  in_order : some_of unordered (clauses d) ≡ false
  in_order = accepted.ordered

  distinct : NoCopies equal (clauses d)
  distinct = (first_copy_iff equal (clauses d)).0 accepted.no_copies

  itself : repaired_file d ≡ d
  unfolding repaired_file
  itself =
      let r = repaired_reads b a in
      λ j. rule_bytes ((ordered_repaired (clauses d) in_order distinct ∙ r.clauses_are) j) (r.variable_count_is j) (r.weights_are j)

  again : (capacity : ℕ) → length d ≤ capacity → repair_file d capacity ≡ Ok d
  again capacity h = repair_answers d capacity (stored_accepts d accepted) h ∙ ap Ok itself

  nothing : (capacity : ℕ) → length d ≤ capacity → repair_answer d capacity ≡ Ok (record { bytes = length d; clauses = 0; literals = 0; reordered = 0 })
  unfolding repair_answer
  nothing capacity h = rw (again capacity h) (ap Ok (sym (in_order_counts d in_order distinct)))

  repaired_to : RepairedTo b d
  repaired_to =
      let r = repaired_reads b a in
      record {
        same_assignments = λ p n. rw r.clauses_are (repaired_satisfied (variable_count b) p (omega arith) (clauses b) a.in_range);
        same_variables = r.variable_count_is;
        same_weights = r.weights_are;
        same_prefix = prefix_is;
        accepted = accepted_answers d accepted;
        same_figure = figure_is;
        not_longer = not_longer b a;
        repaired_again = again;
        nothing_left = nothing;
      }

-- Every repaired file is what is claimed
pub repaired_claims : (b : List ℕ) (capacity : ℕ) (d : List ℕ) → repair_file b capacity ≡ Ok d → RepairedTo b d
repaired_claims b capacity d e = let (a, rest) = answered_repair b capacity d e in rw rest.1 at (repaired_to b a)

-- and stands at the start of the lent buffer, whose other bytes are as they were
pub repaired_into_buffer : (b before : List ℕ) (x : Repairs) → repair_answer b (length before) ≡ Ok x
    → RepairedInto b before (buffer_after (repair_file b (length before)) before) x.bytes
unfolding repair_answer
repaired_into_buffer b before x e =
    let (d, is, counted) = passed_then _ _ x e in
    let (a, rest) = answered_repair b (length before) d is in
    let size : length d ≡ x.bytes = ap (λ y. y.bytes) (same_answer (repairs b d) x counted) in
    let put : Put before 0 d (d ++ drop (length d) before) (length d) = record { ends = omega arith; contents = refl } in
    let begins = put_begins put in
    let within : length d ≤ length before = omega (arith, not_longer b a, rest.0, ap length rest.1) in
    let into : RepairedInto b before (d ++ drop (length d) before) (length d) =
    record {
      claims = rw begins.text_is (repaired_claims b (length before) d is);
      same_length = simp (length-append, length-drop) (omega arith);
      rest_kept = begins.rest_kept;
    }
    in subst (λ k. RepairedInto b before (buffer_after (repair_file b (length before)) before) k) size (subst⁻¹ (λ r. RepairedInto b before (buffer_after r before) (length d)) is into)
