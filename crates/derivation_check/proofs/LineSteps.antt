-- Checks 15 and 16, one line at a time, as a loop that counts up takes them: what is found from a line on, counted from
-- it, is what is found in all. Assumes nothing.
use Rattle.std.specs.Prelude.{Option, None, Some}
use mathlib.Core.Path.{◌≡◌, sym, ◌∙◌}
use mathlib.Core.Bool.{true, false}
use mathlib.Core.List.{List}
use Prim.Native.Nat.{ℕ, ◌+◌, ◌-◌, ◌≤◌, ◌<◌}
use native.Mathlib.Nat.{sub-zero}
use native.Mathlib.Omega.{arith}
use Rattle.words.specs.Walk.{first}
use Rattle.words.specs.Words.{word_count}
use Rattle.words.proofs.WalkLaws.{first_none, start_zero, start_suc, elements_next, elements_passed, from, from_zero, first_here, first_later, first_over, walk_fault, walk_on, walk_ended, walk_not_ended}
use Rattle.resolution_sets.proofs.DenominatorLaws.{file_bounds}
use Rattle.derivation.specs.DerivationFile.{trailer_start, line_of, after_line, lines_from, line_start}
use Rattle.derivation.specs.Check.{line_fits, walk_lines, line_fails}
use Rattle.derivation.proofs.LineLaws.{derived_is, value_before, line_ends, line_within}

-- a line has two words at least
pub has_words : (d : List ℕ) (i : ℕ) → i + 2 ≤ after_line d i
has_words d i = omega (arith, value_before d i)

pub ruleset line_steps = (derived_is, value_before, has_words)

-- 15

abbrev pub fault : List ℕ → ℕ → ℕ → ℕ → ℕ → Option ℕ
fault d n end left i = walk_lines d n end left i

module _ (d : List ℕ) (n end count : ℕ) where
  pub all_walked : from 0 (fault d n end (count - 0) 0) ≡ fault d n end count 0
  all_walked = rw sub-zero (from_zero _)

  -- the next line stands at word i
  module _ (line i : ℕ) (walked : from line (fault d n end (count - line) i) ≡ fault d n end count 0) where
    pub misfit : line < count → line_fits d n end i ≡ false → fault d n end count 0 ≡ Some line
    misfit h e = sym walked ∙ walk_fault (after_line d) (line_fits d n end) end count line i h e

    pub fits_on : line < count → line_fits d n end i ≡ true → from (line + 1) (fault d n end (count - (line + 1)) (after_line d i)) ≡ fault d n end count 0
    fits_on h e = walk_on (after_line d) (line_fits d n end) end count line i h e ∙ walked

    pub ended : count ≤ line → i ≡ end → fault d n end count 0 ≡ None
    ended h e = sym walked ∙ walk_ended (after_line d) (line_fits d n end) end count line i h e

    pub not_ended : count ≤ line → (i ≡ end → ⊥) → fault d n end count 0 ≡ Some line
    not_ended h e = sym walked ∙ walk_not_ended (after_line d) (line_fits d n end) end count line i h e

  -- a line that fits
  pub ends_before : (i : ℕ) → line_fits d n end i ≡ true → after_line d i ≤ end
  ends_before i e = line_ends d n end i e

pub ruleset walk_steps = (start_zero, start_suc, all_walked, misfit, fits_on, ended, not_ended, ends_before, has_words)

-- 16

abbrev pub over : List ℕ → ℕ → ℕ → ℕ → Option ℕ
over d n left i = first (line_fails n) (lines_from d left i)

module _ (d : List ℕ) (n count : ℕ) where
  pub all_ordered : from 0 (over d n (count - 0) (line_start d 0)) ≡ over d n count 0
  all_ordered = rw (sub-zero, start_zero) (from_zero _)

  -- each line ends before the trailer
  pub line_ended : (line : ℕ) → walk_lines d n (trailer_start d) count 0 ≡ None → line < count → after_line d (line_start d line) ≤ word_count d
  line_ended line w h = omega (arith, line_within d n (trailer_start d) count w line h)

  module _ (line : ℕ) (ordered : from line (over d n (count - line) (line_start d line)) ≡ over d n count 0) where
    pub fails_here : line < count → line_fails n (line_of d (line_start d line)) ≡ true → over d n count 0 ≡ Some line
    fails_here h e = sym ordered ∙ first_here (line_fails n) line (elements_next (after_line d) (line_of d) count line (line_start d line) h) e

    pub passes_on : line < count → line_fails n (line_of d (line_start d line)) ≡ false → from (line + 1) (over d n (count - (line + 1)) (line_start d (line + 1))) ≡ over d n count 0
    passes_on h e =
        rw (← (start_suc (after_line d) 0 line)) (first_later (line_fails n) line (elements_next (after_line d) (line_of d) count line (line_start d line) h) e) ∙ ordered

    pub none_fails : count ≤ line → over d n count 0 ≡ None
    none_fails h = sym ordered ∙ first_over (line_fails n) line (elements_passed (after_line d) (line_of d) count line (line_start d line) h)

pub ruleset literal_steps = (all_ordered, line_ended, fails_here, passes_on, none_fails)

-- Both, in a file that passes them

pub ruleset structure_steps = (file_bounds, first_none)
