-- Lines that follow over an accepted rule file, and a reference to an empty clause among them: in a file they fit, and
-- the file derives that clause's value. Assumes nothing; that the walk's lines are such lines is in WalkLaws.
use mathlib.Core.Path.{◌≡◌, refl}
use mathlib.Core.Bool.{false}
use mathlib.Core.List.{List, []}
use Prim.Native.Nat.{ℕ, ◌^◌, ◌≤◌, ◌<◌}
use native.Mathlib.Omega.{arith}
use lib.ListN.{length}
use Rattle.formula.specs.Formula.{out_of_range, ill_formed}
use Rattle.formula.proofs.SomeLaws.{none_by_places}
use Rattle.formula.proofs.Membership.{in_range_iff}
use Rattle.resolution.specs.Resolution.{Annotated, Line, derived, line_at, Names, clause, line, Follows, by_R2, by_R3}
use Rattle.resolution.proofs.Levels.{level_within}
use Rattle.resolution.proofs.Bounds.{derivable_bounded}
use Rattle.limits.specs.Limits.{max_bytes, max_lines}
use Rattle.words.proofs.WordsBack.{FitWords, fit_nil, fit_cons}
use Rattle.rule_file.specs.RuleFile.{variable_count, clauses, prefix, whole}
use Rattle.rule_file.specs.Accepted.{Accepted}
use Rattle.rule_file.proofs.FileLaws.{clauses_length, prefix_length, denominator_within}
use Rattle.derivation.specs.Check.{line_fails}
use Rattle.derivation.specs.WellFormed.{WellFormed}
use Rattle.derivation.specs.Derives.{Derives}
use Rattle.written_derivation.specs.File.{derivation_bytes}
use Rattle.written_derivation.proofs.Leaving.{KnownClause, Proved}
use Rattle.written_derivation.proofs.FileLaws.{added, LineFits, ReadsAs, file_back}

module _ (b : List ℕ) (a : Accepted b) where
  -- a clause: its literals are under 2n, and its value is at most the whole
  module _ (c : Annotated) (k : KnownClause (clauses b) (prefix b) c) where
    in_range : out_of_range (variable_count b) c.literals ≡ false
    in_range = rw (prefix_length b) at k.in_range

    literals_small : FitWords c.literals
    literals_small l m = omega (arith, (in_range_iff (variable_count b) c.literals).0 in_range l m, a.few_variables)

    value_small : c.value < 2 ^ 64
    value_small =
        omega (arith, derivable_bounded k.derivable, denominator_within b a _ (level_within (variable_count b) c.literals in_range))

  module _ (ls : List Line) where
    -- references to the file's clauses and to at most 1,024 lines
    reference_small : {k r : ℕ} {c : Annotated} → k ≤ max_lines → Names (clauses b) ls k r c → r < 2 ^ 32
    reference_small h (clause i lt) = omega (arith, clauses_length b, a.few_clauses)
    reference_small h (line i lt) = omega arith

    added_small : {k : ℕ} {l : Line} → k ≤ max_lines → Follows (clauses b) (prefix b) ls k l → FitWords (added l)
    added_small h (by_R2 p) = fit_nil
    added_small h (by_R3 s t r) =
        fit_cons (omega (arith, r.quantified, prefix_length b, a.few_variables))
        (fit_cons (reference_small h s) (fit_cons (reference_small h t) fit_nil))

    module _ (proved : Proved (clauses b) (prefix b) ls) where
      line_fits : length ls ≤ max_lines → (k : ℕ) → k < length ls → LineFits (variable_count b) (line_at ls k)
      line_fits few k h =
          let c = derived (line_at ls k) in
          let is = proved.clauses k h in
          record {
            few_literals = rw (prefix_length b) at is.short;
            small_literals = literals_small c is;
            small_value = value_small c is;
            small_added = added_small (omega arith) (proved.follow k h);
          }

      line_passes : (k : ℕ) → k < length ls → line_fails (variable_count b) (line_at ls k) ≡ false
      unfolding ill_formed
      line_passes k h = rw (in_range (derived (line_at ls k)) (proved.clauses k h), (proved.clauses k h).ordered)

      module _ (r x : ℕ) (closes : Names (clauses b) ls (length ls) r (record { literals = []; value = x }))
          (few_lines : length ls ≤ max_lines) (few_bytes : length (derivation_bytes ls r) ≤ max_bytes) where
        reads : ReadsAs (variable_count b) ls r (derivation_bytes ls r)
        reads =
            file_back (variable_count b) ls r
            (record {
              few_variables = a.few_variables;
              few_lines = few_lines;
              lines_fit = line_fits few_lines;
              small_reference = reference_small few_lines closes;
              few_bytes = few_bytes;
            })

        well_formed : WellFormed (variable_count b) (derivation_bytes ls r)
        well_formed =
            record {
              right_counts = reads.right_counts;
              walked = reads.walked;
              no_fault = rw reads.lines_are (none_by_places (line_fails (variable_count b)) _ ls line_passes);
            }

        pub file_derives : Derives b (derivation_bytes ls r) (record { value = x; whole = whole b })
        file_derives =
            record {
              accepted = a;
              well_formed = well_formed;
              follow = λ k h. rw reads.lines_are (proved.follow k (rw reads.count_is at h));
              closes = rw (reads.lines_are, reads.count_is, reads.reference_is) closes;
              out_of = refl;
            }
