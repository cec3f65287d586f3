-- What a checked derivation gives: its lines are derivable, so that they are sound, and it closes with the figure.
-- Assumes that no variable stands twice in a clause of the formula or in a line: refusals 7 and 16.
use Prim.Native.Nat.{ℕ, zero, suc, ◌≤◌, ◌<◌}
use native.Mathlib.Nat.{le_refl, not-suc-le-zero}
use native.Mathlib.Omega.{arith}
use mathlib.Core.Path.{◌≡◌}
use mathlib.Core.Bool.{false}
use mathlib.Core.List.{List, []}
use Rattle.std.specs.Prelude.{None, Some}
use lib.ListN.{length}
use Rattle.formula.specs.Formula.{some_of, repeats, unordered}
use Rattle.formula.specs.Quantifier.{Quantifier}
use Rattle.formula.proofs.OrderLaws.{one_of_each_iff, one_of_a_variable, ordered_one_of_each}
use Rattle.formula.proofs.Membership.{none_of, get_or_in}
use Rattle.resolution.specs.Resolution.{Annotated, NonTautological, Derivable, R1, R2, R3, Line, derived, line_at, Names, clause, line, Follows, by_R2, by_R3, lookup, judge, judge_lines}
use Rattle.resolution.specs.Claims.{Sound, ClosesWithFigure}
use Rattle.resolution.proofs.Check.{lookup_names, judge_iff, judge_lines_iff, closing_iff}
use Rattle.resolution.proofs.Soundness.{derivable_sound, derivable_empty}

no_repeats_non_tautological : (c : List ℕ) → repeats c ≡ false → NonTautological c
no_repeats_non_tautological c e = (one_of_each_iff c).0 (λ l k. one_of_a_variable e)

-- so where its variables rise
pub ordered_non_tautological : (c : List ℕ) → unordered c ≡ false → NonTautological c
ordered_non_tautological c e = (one_of_each_iff c).0 (ordered_one_of_each c e)

module _ (φ : List (List ℕ)) (qs : List Quantifier) (lines : List Line)
    (φ-no-repeats : some_of repeats φ ≡ false) (lines_no_repeats : some_of (λ l. repeats (derived l).literals) lines ≡ false) where
  abbrev Follow : ℕ → Type 0
  Follow n = (k : ℕ) → k < n → Follows φ qs lines k (line_at lines k)

  abbrev LinesDerivable : ℕ → Type 0
  LinesDerivable n = (k : ℕ) → k < n → Derivable φ qs (derived (line_at lines k))

  named_from : {n r : ℕ} {c : Annotated} → LinesDerivable n → Names φ lines n r c → Derivable φ qs c
  named_from earlier (clause i h) = let m = get_or_in φ i [] h in R1 (no_repeats_non_tautological _ (none_of repeats φ-no-repeats m)) m
  named_from earlier (line i h) = earlier i h

  follows_from : {n : ℕ} {l : Line} → LinesDerivable n → NonTautological (derived l).literals → Follows φ qs lines n l → Derivable φ qs (derived l)
  follows_from earlier non_taut (by_R2 b) = R2 non_taut b
  follows_from earlier non_taut (by_R3 p q r) = R3 non_taut (named_from earlier p) (named_from earlier q) r

  lines_derivable : (n : ℕ) → n ≤ length lines → Follow n → LinesDerivable n
  lines_derivable zero fits follow k h = absurd (not-suc-le-zero h)
  lines_derivable (suc n) fits follow k h =
      follows_from
      (λ i j. lines_derivable n (omega arith) (λ m g. follow m (omega arith)) i (omega arith))
      (no_repeats_non_tautological _ (none_of (λ l. repeats (derived l).literals) lines_no_repeats (get_or_in lines k _ (omega arith))))
      (follow k h)

  accepted_derivable : judge_lines φ qs lines ≡ None → {r : ℕ} {c : Annotated} → Names φ lines (length lines) r c → Derivable φ qs c
  accepted_derivable e = named_from (lines_derivable (length lines) (le_refl _) ((judge_lines_iff φ qs lines).0 e))

  -- Lemma 3.1 for what a reference names, a clause of φ or a line
  pub accepted_sound : judge_lines φ qs lines ≡ None → {r : ℕ} {c : Annotated} → Names φ lines (length lines) r c → Sound φ qs c
  accepted_sound e n = derivable_sound (accepted_derivable e n)

  -- Corollary 3.2 for the closing reference
  pub closing_is_figure : (r : ℕ) → ClosesWithFigure φ qs lines r
  closing_is_figure r x e close = derivable_empty (accepted_derivable e ((closing_iff φ lines r x).0 close))

  -- what the check may take for granted of the parents of line n
  pub parent_derivable : (n : ℕ) → n ≤ length lines → ((k : ℕ) → k < n → judge φ qs lines k (line_at lines k) ≡ None)
      → (r : ℕ) (c : Annotated) → lookup φ lines n r ≡ Some c → Derivable φ qs c
  parent_derivable n fits passed r c e =
      let follow : Follow n = λ k h. (judge_iff φ qs lines k (line_at lines k)).0 (passed k h) in
      named_from (lines_derivable n fits follow) (lookup_names φ lines n r c e)
