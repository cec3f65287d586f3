-- Within any limits a file is answered exactly where it is accepted, and then by its header. Assumes nothing.
use Rattle.std.specs.Prelude.{Err, Ok}
use mathlib.Core.Path.{◌≡◌, sym}
use mathlib.Core.List.{List}
use Prim.Native.Nat.{ℕ}
use Rattle.formula.specs.Formula.{repeats, unordered}
use Rattle.limits.specs.Limits.{rule_trailer}
use Rattle.answer.specs.Answer.{Answer, and_then}
use Rattle.answer.specs.declared.Refusal.{Refusal}
use Rattle.answer.specs.declared.Refusal.TheVariants as refusal
use Rattle.answer.proofs.AnswerLaws.{same_answer, passed, passed_at}
use Rattle.words.specs.Walk.{first}
use Rattle.words.proofs.WalkLaws.{first_none, none_first_place}
use Rattle.words.proofs.WordsLaws.{right_length}
use Rattle.rule_file.specs.ReaderLimits.{full_limits, stored_limits}
use Rattle.rule_file.specs.RuleFile.{clauses}
use Rattle.rule_file.specs.Reader.{read_file, read_within, read_from_3, read_from_5, read_from_6, read_from_26, read_from_8, asked}
use Rattle.rule_file.specs.Accepted.{AcceptedWithin, Accepted, header}
use Rattle.rule_file.specs.declared.Limits.{Limits}
use Rattle.rule_file.specs.declared.Header.{Header}
use Rattle.rule_file.proofs.ReaderLaws.{check_2, check_3, check_4, check_9, asked_once, not_asked, copies_not_asked}

pub answered_within : (limits : Limits) (b : List ℕ) (h : Header) → read_within limits b ≡ Ok h → AcceptedWithin limits b × (h ≡ header b)
unfolding read_within read_from_3 read_from_5 read_from_6 read_from_26 read_from_8
answered_within limits b h e =
    let (e₁, r₁) = passed _ _ _ h e in
    let (e₂, r₂) = passed _ _ _ h r₁ in
    let (e₃, r₃) = passed _ _ _ h r₂ in
    let (e₄, r₄) = passed _ _ _ h r₃ in
    let (e₅, r₅) = passed_at _ _ _ h r₄ in
    let (e₆, r₆) = passed_at _ _ _ h r₅ in
    let (_, r₇) = passed_at (first (asked limits.ordered repeats) (clauses b)) refusal.RepeatedVariable _ h r₆ in
    let (e₂₃, r₂₃) = passed_at _ _ _ h r₇ in
    let (e₂₆, r₂₆) = passed_at _ _ _ h r₂₃ in
    let (e₈, r₈) = passed_at _ _ _ h r₂₆ in
    let (e₉, r₉) = passed _ _ _ h r₈ in
    let counts = (check_3 _ b).0 e₃ in (
      record {
        right_length = (right_length rule_trailer _ b).0 e₁;
        right_count = (check_2 b).0 e₂;
        few_variables = counts.0;
        few_clauses = counts.1;
        prefix_ends = (check_4 b).0 e₄;
        walked = e₅;
        in_range = first_none _ _ e₆;
        ordered = first_none _ _ e₂₃;
        no_copies = e₂₆;
        well_formed = first_none _ _ e₈;
        bounded = (check_9 b).0 e₉;
      },
      same_answer h (header b) (sym r₉),
    )

pub within_answers : (limits : Limits) (b : List ℕ) → AcceptedWithin limits b → read_within limits b ≡ Ok (header b)
unfolding read_within read_from_3 read_from_5 read_from_6 read_from_26 read_from_8
within_answers limits b a =
    rw (
      (right_length rule_trailer _ b).1 a.right_length,
      (check_2 b).1 a.right_count,
      (check_3 _ b).1 (a.few_variables, a.few_clauses),
      (check_4 b).1 a.prefix_ends,
      a.walked,
      none_first_place _ _ a.in_range,
      none_first_place _ _ (asked_once limits.ordered (clauses b) a.ordered),
      none_first_place _ _ a.ordered,
      a.no_copies,
      none_first_place _ _ a.well_formed,
      (check_9 b).1 a.bounded,
    )

-- the same of the full reader
pub answered : (b : List ℕ) (h : Header) → read_file b ≡ Ok h → Accepted b × (h ≡ header b)
unfolding read_file
answered = answered_within full_limits

pub accepted_answers : (b : List ℕ) → Accepted b → read_file b ≡ Ok (header b)
unfolding read_file
accepted_answers = within_answers full_limits

-- what the full reader accepts, the reader of stored files does
pub stored_accepts : (b : List ℕ) → Accepted b → AcceptedWithin stored_limits b
stored_accepts b a =
    record {
      right_length = a.right_length;
      right_count = a.right_count;
      few_variables = a.few_variables;
      few_clauses = a.few_clauses;
      prefix_ends = a.prefix_ends;
      walked = a.walked;
      in_range = a.in_range;
      ordered = first_none _ _ (not_asked unordered (clauses b));
      no_copies = copies_not_asked (clauses b);
      well_formed = a.well_formed;
      bounded = a.bounded;
    }

-- an operation that goes on from the reader's answer: of a refused file it answers the refusal, of an accepted one what
-- it goes on with
module _ {A : Type 0} (b : List ℕ) (f : Header → Answer A) where
  pub then_refused : (k : Refusal) → read_file b ≡ Err k → Err k ≡ and_then (read_file b) f
  then_refused k e = rw e

  pub then_accepted : Accepted b → f (header b) ≡ and_then (read_file b) f
  then_accepted a = rw (accepted_answers b a)
