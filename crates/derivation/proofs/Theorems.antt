-- Exactness and soundness of the check, over the bytes of the two files, and kind 1's test as 004 states R.2's premise.
-- The definitions to read are in specs/Derives, and in resolution's Claims. Assumes nothing.
use Rattle.std.specs.Prelude.{Ok, Option, None, Some}
use mathlib.Core.Path.{◌≡◌, sym, ap}
use mathlib.Core.Logic.{◌↔◌}
use mathlib.Core.Bool.{true}
use mathlib.Core.List.{List}
use Prim.Native.Nat.{ℕ, ◌<◌}
use lib.ListN.{length}
use Rattle.formula.specs.Formula.{unordered}
use Rattle.formula.proofs.Membership.{none_of}
use Rattle.resolution.specs.Resolution.{line, is_blocking, closing_value, judge_lines}
use Rattle.resolution.specs.Claims.{Implied, Sound}
use Rattle.resolution.proofs.Check.{judge_lines_iff, closing_iff}
use Rattle.resolution.proofs.Implied.{blocking_iff_implied}
use Rattle.resolution.proofs.Derivations.{ordered_non_tautological, accepted_sound, closing_is_figure}
use Rattle.limits.specs.Limits.{max_bytes, derivation_trailer}
use Rattle.answer.proofs.AnswerLaws.{passed, passed_at, passed_then}
use Rattle.words.proofs.WalkLaws.{first_none, none_first_place}
use Rattle.words.proofs.WordsLaws.{right_length}
use Rattle.rule_file.specs.RuleFile.{variable_count, clauses, prefix, whole}
use Rattle.rule_file.specs.Reader.{read_file}
use Rattle.rule_file.specs.Accepted.{Accepted}
use Rattle.rule_file.proofs.ReaderLaws.{ordered_once}
use Rattle.rule_file.proofs.AcceptedLaws.{answered, accepted_answers}
use Rattle.derivation.specs.DerivationFile.{line_count, closing_reference, lines}
use Rattle.derivation.specs.Check.{line_fails, check_from_21, check_from_17, check_from_15, check_from_13, check_file}
use Rattle.derivation.specs.WellFormed.{WellFormed}
use Rattle.derivation.specs.Derives.{Derives, line_clause, closing_figure}
use Rattle.derivation.specs.declared.Closing.{Closing}
use Rattle.derivation.proofs.LineLaws.{lines_length, derived_at, lines_no_repeats, line_in_range, line_ordered}
use Rattle.derivation.proofs.CheckLaws.{check_14, passed_line, passed_closing}

module _ (b d : List ℕ) (c : Closing) where
  -- what an answer has passed: the reader's checks, 13 to 16, 17 to 21
  rule_answered : check_file b d ≡ Ok c → Accepted b × (check_from_13 b d ≡ Ok c)
  unfolding check_file
  rule_answered e = let (h, read, rest) = passed_then (read_file b) (λ _. check_from_13 b d) c e in ((answered b h read).0, rest)

  structure_answered : check_from_13 b d ≡ Ok c → WellFormed (variable_count b) d × (check_from_17 b d ≡ Ok c)
  unfolding check_from_13 check_from_15
  structure_answered e₁₃ =
      let (p₁₃, e₁₄) = passed _ _ _ c e₁₃ in
      let (p₁₄, e₁₅) = passed _ _ _ c e₁₄ in
      let (p₁₅, e₁₆) = passed_at _ _ _ c e₁₅ in
      let (p₁₆, e₁₇) = passed_at _ _ (check_from_17 b d) c e₁₆ in
      let (right_count, few_lines) = (check_14 d).0 p₁₄ in (
        record {
          right_counts = record { right_length = (right_length derivation_trailer max_bytes d).0 p₁₃; right_count = right_count; few_lines = few_lines };
          walked = p₁₅;
          no_fault = first_none _ _ p₁₆;
        },
        e₁₇,
      )

  abbrev closing : Option ℕ
  closing = closing_value (clauses b) (lines d) (closing_reference d)

  lines_answered : check_from_17 b d ≡ Ok c
      → (judge_lines (clauses b) (prefix b) (lines d) ≡ None) × (closing ≡ Some c.value) × (c.whole ≡ whole b)
  unfolding check_from_17 check_from_21
  lines_answered e₁₇ =
      let (p₁₇, e₂₁) = passed_line (judge_lines (clauses b) (prefix b) (lines d)) (check_from_21 b d) c e₁₇ in
      let (closes, out) = passed_closing closing (whole b) c e₂₁ in
      (p₁₇, closes, out)

  accepted_derives : check_file b d ≡ Ok c → Derives b d c
  accepted_derives e =
      let (accepted, e₁₃) = rule_answered e in
      let (well_formed, e₁₇) = structure_answered e₁₃ in
      let (judged, closes, out) = lines_answered e₁₇ in
      record {
        accepted = accepted;
        well_formed = well_formed;
        follow = λ k h. (judge_lines_iff _ _ _).0 judged k (rw (lines_length d) h);
        closes = rw (lines_length d) at ((closing_iff _ _ _ _).0 closes);
        out_of = out;
      }

  derives_accepted : Derives b d c → check_file b d ≡ Ok c
  unfolding check_file check_from_13 check_from_15 check_from_17 check_from_21
  derives_accepted v =
      let w = v.well_formed in
      let t = w.right_counts in
      rw (
        accepted_answers b v.accepted,
        (right_length derivation_trailer max_bytes d).1 t.right_length,
        (check_14 d).1 (t.right_count, t.few_lines),
        w.walked,
        none_first_place (line_fails (variable_count b)) (lines d) w.no_fault,
        (judge_lines_iff (clauses b) (prefix b) (lines d)).1 (λ k h. v.follow k (rw (lines_length d) at h)),
        (closing_iff (clauses b) (lines d) (closing_reference d) c.value).1 (rw (lines_length d) v.closes),
      )
      (λ j. Ok (record { value = c.value; whole = sym v.out_of j }))

  -- Exactness: the check accepts with c exactly where the derivation closes with c by the rules
  pub accepted_iff : (check_file b d ≡ Ok c) ↔ Derives b d c
  accepted_iff = (accepted_derives, derives_accepted)

  -- Soundness, 004's Corollary 3.2: the closing value is the figure, out of the whole
  pub accepted_is_figure : check_file b d ≡ Ok c → c ≡ closing_figure b
  accepted_is_figure e =
      let v = accepted_derives e in
      let (judged, closes, out) = lines_answered (structure_answered (rule_answered e).1).1 in
      let is = closing_is_figure (clauses b) (prefix b) (lines d) (ordered_once (clauses b) v.accepted.ordered) (lines_no_repeats (variable_count b) d v.well_formed) (closing_reference d) c.value judged closes in
      λ j. record { value = sym is j; whole = out j }

  -- 004's Lemma 3.1 for each line
  pub accepted_line_sound : check_file b d ≡ Ok c → (k : ℕ) → k < line_count d → Sound (clauses b) (prefix b) (line_clause d k)
  accepted_line_sound e k h =
      let v = accepted_derives e in
      let (judged, closes, out) = lines_answered (structure_answered (rule_answered e).1).1 in
      let within : k < length (lines d) = rw (lines_length d) h in
      accepted_sound (clauses b) (prefix b) (lines d) (ordered_once (clauses b) v.accepted.ordered) (lines_no_repeats (variable_count b) d v.well_formed) judged (line k within)

-- 17's test of a line is the premise that 004 states for R.2. That the two are the same rests on checks 23 and 16
pub line_blocking_iff_implied :
    (b d : List ℕ) → Accepted b → WellFormed (variable_count b) d → (k : ℕ) → k < line_count d
    → (is_blocking (clauses b) (line_clause d k).literals ≡ true) ↔ Implied (variable_count b) (clauses b) (line_clause d k).literals
line_blocking_iff_implied b d a w k h =
    let is = sym (ap (λ c. c.literals) (derived_at d k h)) in
    blocking_iff_implied (variable_count b) (clauses b) (line_clause d k).literals
    (rw is at (line_in_range (variable_count b) d w k h))
    (ordered_non_tautological _ (rw is at (line_ordered (variable_count b) d w k h)))
    (λ x m. ordered_non_tautological x (none_of unordered a.ordered m))
