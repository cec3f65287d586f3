-- One line of a derivation, by its kind, and its literals as a part of the file; then the lines of a file: how many
-- there are, where each stands, and what a walk without fault, and a well-formed derivation, says of each. Elements and
-- walks in general, and one at a time, are rule_file's WalkLaws. Assumes nothing.
use mathlib.Core.Path.{◌≡◌, refl, ap, ◌∙◌}
use mathlib.Core.Bool.{Bool, true, false, cond, ◌&&◌, ◌||◌}
use mathlib.Core.List.{List}
use Rattle.std.specs.Prelude.{None}
use Prim.Native.Nat.{ℕ, ◌+◌, ◌≤◌, ◌<◌}
use native.Mathlib.Omega.{arith}
use lib.ListN.{length}
use lib.Dec.{leb, eqb}
use borrow.Author.Tests.{eq-eqb, ne_eqb, leb-true}
use Rattle.formula.specs.Formula.{some_of, out_of_range, repeats, unordered, ill_formed}
use Rattle.formula.proofs.SomeLaws.{or_false, none_implied}
use Rattle.formula.proofs.OrderLaws.{ordered_no_repeats}
use Rattle.formula.proofs.Membership.{and_iff}
use Rattle.resolution.specs.Resolution.{Line, blocking, resolvent, derived, line_at}
use Rattle.words.specs.Words.{word, word_count, all_words, part}
use Rattle.words.proofs.WalkLaws.{elements_length, element_is, none_at, walked_at}
use Rattle.words.proofs.WordsLaws.{part_words}
use Rattle.derivation.specs.DerivationFile.{trailer_start, line_count, kind, size, value_start, clause_of, line_of, after_line, lines, line_start}
use Rattle.derivation.specs.Check.{line_fits, walk_lines, line_fails}
use Rattle.derivation.specs.WellFormed.{WellFormed, Walked}

-- One line

module _ (d : List ℕ) (i : ℕ) where
  pub after_blocking : kind d i ≡ 1 → after_line d i ≡ value_start d i + 2
  unfolding after_line
  after_blocking e = rw (eq-eqb _ _ e)

  pub after_resolvent : (kind d i ≡ 1 → ⊥) → after_line d i ≡ value_start d i + 5
  unfolding after_line
  after_resolvent n = rw (ne_eqb _ _ n)

  pub line_blocking : kind d i ≡ 1 → line_of d i ≡ blocking (clause_of d i)
  unfolding line_of
  line_blocking e = rw (eq-eqb _ _ e)

  pub line_resolvent : (kind d i ≡ 1 → ⊥)
      → line_of d i ≡ resolvent (clause_of d i) (word d (value_start d i + 2)) (word d (value_start d i + 3)) (word d (value_start d i + 4))
  unfolding line_of
  line_resolvent n = rw (ne_eqb _ _ n)

  pub derived_is : derived (line_of d i) ≡ clause_of d i
  unfolding line_of
  derived_is = go (eqb (kind d i) 1) _ refl
    where
      go : (t : Bool) (l : Line) → derived l ≡ clause_of d i → derived (cond t (blocking (clause_of d i)) l) ≡ clause_of d i
      go true l e = refl
      go false l e = e

  pub value_before : value_start d i + 2 ≤ after_line d i
  unfolding after_line
  value_before = go (eqb (kind d i) 1)
    where
      go : (t : Bool) → value_start d i + 2 ≤ value_start d i + cond t 2 5
      go true = omega arith
      go false = omega arith

  -- its literals, as the words of the part that holds them
  pub line_words : value_start d i + 2 ≤ word_count d → all_words (part d (i + 2) (size d i)) ≡ (clause_of d i).literals
  line_words h = part_words d (i + 2) (size d i) (omega arith)

pub line_ends : (d : List ℕ) (n end i : ℕ) → line_fits d n end i ≡ true → after_line d i ≤ end
unfolding line_fits
line_ends d n end i e =
    leb-true _ _ ((and_iff (leb (i + 2) end && (eqb (kind d i) 1 || eqb (kind d i) 2) && leb (size d i) n) (leb (after_line d i) end)).0 e).1

-- The lines of a file

module _ (d : List ℕ) where
  pub lines_length : length (lines d) ≡ line_count d
  lines_length = elements_length (after_line d) (line_of d) (line_count d) 0

  pub line_is : (k : ℕ) → k < line_count d → line_at (lines d) k ≡ line_of d (line_start d k)
  line_is k h = element_is (after_line d) (line_of d) _ (line_count d) 0 k h

  pub derived_at : (k : ℕ) → k < line_count d → derived (line_at (lines d) k) ≡ clause_of d (line_start d k)
  derived_at k h = ap derived (line_is k h) ∙ derived_is d (line_start d k)

  -- what a walk without fault says of each line
  pub line_within : (n end count : ℕ) → walk_lines d n end count 0 ≡ None → (k : ℕ) → k < count → after_line d (line_start d k) ≤ end
  line_within n end count w k h =
      line_ends d n end (line_start d k) (walked_at (after_line d) (line_fits d n end) end count 0 w k h)

  pub line_value_within : Walked d → (k : ℕ) → k < line_count d → value_start d (line_start d k) + 2 ≤ word_count d
  line_value_within w k h =
      omega (arith, line_within w.variables (trailer_start d) (line_count d) w.walked k h, value_before d (line_start d k))

pub well_walked : {n : ℕ} {d : List ℕ} → WellFormed n d → Walked d
well_walked {n} w = record { variables = n; walked = w.walked }

-- what 16 leaves true of each line's literals, and of all
module _ (n : ℕ) (d : List ℕ) (w : WellFormed n d) where
  pub lines_no_repeats : some_of (λ l. repeats (derived l).literals) (lines d) ≡ false
  unfolding ill_formed
  lines_no_repeats =
      none_implied (line_fails n) (λ l. repeats (derived l).literals)
      (λ l e. ordered_no_repeats (derived l).literals (or_false (out_of_range n (derived l).literals) (unordered (derived l).literals) e).1)
      (lines d) w.no_fault

  module _ (k : ℕ) (h : k < line_count d) where
    no_fault_at : (out_of_range n (clause_of d (line_start d k)).literals ≡ false) × (unordered (clause_of d (line_start d k)).literals ≡ false)
    unfolding ill_formed
    no_fault_at =
        or_false _ _
        (rw (derived_is d (line_start d k)) at (none_at (after_line d) (line_of d) (line_fails n) (line_count d) 0 k h w.no_fault))

    pub line_in_range : out_of_range n (clause_of d (line_start d k)).literals ≡ false
    line_in_range = no_fault_at.0

    pub line_ordered : unordered (clause_of d (line_start d k)).literals ≡ false
    line_ordered = no_fault_at.1
