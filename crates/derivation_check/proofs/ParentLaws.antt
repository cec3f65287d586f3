-- What a reference names. In order: by its parity, where its clause or line stands, its literals as a part of the file
-- that holds them, and its value; what holds of both files at once; the same by the table of starts; where the
-- references end; the reference to clause j, and to line j; and resolution's lookup. Not here: the table of starts as it
-- is filled (StartsLaws), and the lines of a file (LineLaws). Assumes nothing.
use mathlib.Core.Path.{◌≡◌, refl, sym, ap, ◌∙◌}
use mathlib.Core.Bool.{Bool, true, false, cond}
use mathlib.Core.List.{List, []}
use Prim.Native.Nat.{ℕ, ◌+◌, ◌*◌, ◌/◌, ◌%◌, ◌≤◌, ◌<◌, max}
use native.Mathlib.Nat.{le_trans}
use native.Mathlib.Decide.{ℕ_discrete}
use native.Mathlib.Omega.{arith}
use lib.ListN.{get_or}
use lib.Dec.{ltb, eqb}
use borrow.Author.Tests.{eq-eqb, ne_eqb, ltb-true, lt-ltb}
use Rattle.formula.specs.Formula.{some_of, out_of_range}
use Rattle.bit_set.specs.BitSet.{mask}
use Rattle.resolution.specs.Resolution.{derived, original_clause, line_at, some_if, lookup}
use Rattle.limits.specs.Limits.{max_clauses, max_lines}
use Rattle.words.specs.Words.{word, word_count, all_words, part}
use Rattle.words.proofs.WordsLaws.{part_words}
use Rattle.clause_words.specs.Clauses.{after_clause, clause_start}
use Rattle.clause_words.proofs.ClauseLaws.{clause_passes}
use Rattle.rule_file.specs.RuleFile.{clause_count, variable_count, clauses}
use Rattle.rule_file.specs.Accepted.{Accepted}
use Rattle.rule_file.proofs.FileLaws.{clauses_length, clause_is, clause_within}
use Rattle.derivation.specs.DerivationFile.{line_count, size, value_start, value_at, clause_of, lines, line_start}
use Rattle.derivation.specs.WellFormed.{Walked}
use Rattle.derivation.proofs.LineLaws.{well_walked, derived_at, line_words, line_value_within, line_in_range}
use Rattle.derivation_check.specs.Starts.{max_references, ClauseStarts, LineStarts}
use Rattle.derivation_check.specs.Parent.{is_named, referent_literals, referent_part, referent_value, referent, Masks, Located}
use Rattle.derivation_check.specs.declared.files.Files.{Files}
use Rattle.derivation_check.proofs.FilesLaws.{accepted, header_is, few_clauses, few_lines, named_all, both_files}

-- By parity

-- a reference that is even names a clause of the rule file
module _ (r : ℕ) (even : r % 2 ≡ 0) where
  pub named_clause : (m k : ℕ) → is_named m k r ≡ true → r / 2 < m
  unfolding is_named
  named_clause m k e = ltb-true _ _ (rw (eq-eqb _ _ even) at e)

  pub clause_kept_at : (b starts : List ℕ) → ClauseStarts b (clause_count b) starts → r / 2 < clause_count b → get_or starts r 0 ≡ clause_start b (r / 2)
  clause_kept_at b starts kept h = let e : r ≡ 2 * (r / 2) = omega arith in ap (λ i. get_or starts i 0) e ∙ kept.each (r / 2) h

  pub clause_part : (b d : List ℕ) → part b (clause_start b (r / 2) + 1) (word b (clause_start b (r / 2))) ≡ referent_part b d r
  unfolding referent_part
  clause_part b d = rw (eq-eqb _ _ even)

  clause_words : (b d : List ℕ) → Accepted b → r / 2 < clause_count b → all_words (referent_part b d r) ≡ referent_literals b d r
  unfolding referent_literals
  clause_words b d a h =
      rw (← (clause_part b d), eq-eqb _ _ even) (part_words b _ _ (clause_within b a (r / 2) h) ∙ sym (clause_is b (r / 2) h))

  pub clause_value : (d : List ℕ) → referent_value d r ≡ 0
  unfolding referent_value
  clause_value d = rw (eq-eqb _ _ even)

-- one that is odd names a line
module _ (r : ℕ) (odd : r % 2 ≡ 0 → ⊥) where
  pub named_line : (m k : ℕ) → is_named m k r ≡ true → r / 2 < k
  unfolding is_named
  named_line m k e = ltb-true _ _ (rw (ne_eqb _ _ odd) at e)

  pub line_kept_at : (d starts : List ℕ) → LineStarts d (line_count d) starts → r / 2 < line_count d → get_or starts r 0 ≡ line_start d (r / 2)
  line_kept_at d starts kept h = let e : r ≡ 2 * (r / 2) + 1 = omega arith in ap (λ i. get_or starts i 0) e ∙ kept.each (r / 2) h

  pub line_part : (b d : List ℕ) → part d (line_start d (r / 2) + 2) (size d (line_start d (r / 2))) ≡ referent_part b d r
  unfolding referent_part
  line_part b d = rw (ne_eqb _ _ odd)

  named_words : (b d : List ℕ) → Walked d → r / 2 < line_count d → all_words (referent_part b d r) ≡ referent_literals b d r
  unfolding referent_literals
  named_words b d w h =
      rw (← (line_part b d), ne_eqb _ _ odd)
      (line_words d (line_start d (r / 2)) (line_value_within d w (r / 2) h) ∙ sym (ap (λ c. c.literals) (derived_at d (r / 2) h)))

  pub line_value : (d : List ℕ) → r / 2 < line_count d → value_at d (value_start d (line_start d (r / 2))) ≡ referent_value d r
  unfolding referent_value
  line_value d h = rw (ne_eqb _ _ odd) (sym (ap (λ c. c.value) (derived_at d (r / 2) h)))

-- In either file

-- the words of the part are the literals
pub referent_words :
    (b d : List ℕ) → Accepted b → Walked d → (r : ℕ) → is_named (clause_count b) (line_count d) r ≡ true → all_words (referent_part b d r) ≡ referent_literals b d r
referent_words b d a w r e = go (ℕ_discrete (r % 2) 0)
  where
    go : Dec (r % 2 ≡ 0) → all_words (referent_part b d r) ≡ referent_literals b d r
    go (yes even) = clause_words r even b d a (named_clause r even _ _ e)
    go (no odd) = named_words r odd b d w (named_line r odd _ _ e)

-- a test that no clause and no line passes
pub referent_fails :
    (b d : List ℕ) (f : List ℕ → Bool) → some_of f (clauses b) ≡ false → ((k : ℕ) → k < line_count d → f (clause_of d (line_start d k)).literals ≡ false)
    → (r : ℕ) → is_named (clause_count b) (line_count d) r ≡ true → f (referent_literals b d r) ≡ false
unfolding referent_literals
referent_fails b d f clauses_fail lines_fail r e = go (ℕ_discrete (r % 2) 0)
  where
    go : Dec (r % 2 ≡ 0) → f (cond (eqb (r % 2) 0) (get_or (clauses b) (r / 2) []) (derived (line_at (lines d) (r / 2))).literals) ≡ false
    go (yes even) = let h = named_clause r even _ _ e in rw (eq-eqb _ _ even, clause_is b (r / 2) h) (clause_passes b f (clause_count b) (r / 2) h clauses_fail)
    go (no odd) = let h = named_line r odd _ _ e in rw (ne_eqb _ _ odd, derived_at d (r / 2) h) (lines_fail (r / 2) h)

-- and what is read of the part
module _ (f : Files) (r : ℕ) (named : is_named (clause_count f.rule.bytes.now) (line_count f.derivation.now) r ≡ true) where
  pub part_literals : all_words (referent_part f.rule.bytes.now f.derivation.now r) ≡ referent_literals f.rule.bytes.now f.derivation.now r
  part_literals = referent_words f.rule.bytes.now f.derivation.now (accepted f) (well_walked f.well_formed) r named

  pub part_in_range : out_of_range f.rule.header.variables (all_words (referent_part f.rule.bytes.now f.derivation.now r)) ≡ false
  part_in_range =
      rw (part_literals, header_is f)
      (referent_fails f.rule.bytes.now f.derivation.now (out_of_range (variable_count f.rule.bytes.now)) (accepted f).in_range
      (line_in_range (variable_count f.rule.bytes.now) f.derivation.now f.well_formed) r named)

-- By the table of starts

module _ (b d starts : List ℕ) (l : Located b d starts) (r : ℕ) where
  -- a clause stands within its file, and the part of its literals follows
  module _ (even : r % 2 ≡ 0) (named : is_named (clause_count b) (line_count d) r ≡ true) where
    clause_begins : get_or starts r 0 ≡ clause_start b (r / 2)
    clause_begins = clause_kept_at r even b starts l.starts_are.clauses (named_clause r even _ _ named)

    pub clause_there : after_clause b (get_or starts r 0) ≤ word_count b
    clause_there = rw clause_begins (clause_within b l.accepted (r / 2) (named_clause r even _ _ named))

    pub clause_part_there : part b (get_or starts r 0 + 1) (word b (get_or starts r 0)) ≡ referent_part b d r
    clause_part_there = rw clause_begins (clause_part r even b d)

  -- so does a line, with its value
  module _ (odd : r % 2 ≡ 0 → ⊥) (within : r / 2 < line_count d) where
    line_begins : get_or starts r 0 ≡ line_start d (r / 2)
    line_begins = line_kept_at r odd d starts l.starts_are.lines within

    pub line_there : value_start d (get_or starts r 0) + 2 ≤ word_count d
    line_there = rw line_begins (line_value_within d (well_walked l.well_formed) (r / 2) within)

    pub line_part_there : part d (get_or starts r 0 + 2) (size d (get_or starts r 0)) ≡ referent_part b d r
    line_part_there = rw line_begins (line_part r odd b d)

    pub line_value_there : (clause_of d (get_or starts r 0)).value ≡ referent_value d r
    line_value_there = rw line_begins (line_value r odd d within)

-- The references end, and are few enough for the table

pub named_end : (m k r : ℕ) → is_named m k r ≡ true → r < 2 * max m k
named_end m k r e = go (ℕ_discrete (r % 2) 0)
  where
    go : Dec (r % 2 ≡ 0) → r < 2 * max m k
    go (yes even) = omega (arith, named_clause r even m k e)
    go (no odd) = omega (arith, named_line r odd m k e)

pub named_few : (m k r : ℕ) → m ≤ max_clauses → k ≤ max_lines → is_named m k r ≡ true → r < max_references
named_few m k r few few_lines e = omega (arith, named_end m k r e)

pub located_few : (b d starts : List ℕ) → Located b d starts → (r : ℕ) → is_named (clause_count b) (line_count d) r ≡ true → r < max_references
located_few b d starts l r e = named_few _ _ r l.accepted.few_clauses l.well_formed.right_counts.few_lines e

module _ (f : Files) where
  pub few_references : 2 * max f.rule.header.clauses f.lines ≤ max_references
  few_references = omega (arith, few_clauses f, few_lines f)

  pub named_below : (r : ℕ) → is_named (clause_count f.rule.bytes.now) (line_count f.derivation.now) r ≡ true → r < 2 * max f.rule.header.clauses f.lines
  named_below r e = named_end f.rule.header.clauses f.lines r (named_all f r ∙ e)

pub named_within : (b d : List ℕ) (r : ℕ) → is_named (clause_count b) (line_count d) r ≡ true → (r % 2 ≡ 0 → ⊥) → r / 2 < line_count d
named_within b d r e odd = named_line r odd (clause_count b) (line_count d) e

pub ruleset reference_steps = (both_files, clause_there, clause_part_there, line_there, line_part_there, line_value_there, clause_value, located_few, few_references, named_below, named_within, part_literals, part_in_range)

-- The references to clause j and to line j

module _ (j : ℕ) where
  even : (2 * j) % 2 ≡ 0
  even = omega arith

  half_of : (2 * j) / 2 ≡ j
  half_of = omega arith

  clause_named : (m k : ℕ) → j < m → is_named m k (2 * j) ≡ true
  unfolding is_named
  clause_named m k h = rw (eq-eqb _ _ even, half_of) (lt-ltb j m h)

  clause_referent : (b d : List ℕ) → referent_literals b d (2 * j) ≡ get_or (clauses b) j []
  unfolding referent_literals
  clause_referent b d = rw (eq-eqb _ _ even, half_of)

  -- where its mask stands
  pub clause_masked : (b d masks : List ℕ) → Masks b d masks → j < clause_count b → get_or masks (2 * j) 0 ≡ mask (get_or (clauses b) j [])
  clause_masked b d masks are h = are (2 * j) (clause_named _ _ h) ∙ ap mask (clause_referent b d)

module _ (j : ℕ) where
  odd : (2 * j + 1) % 2 ≡ 0 → ⊥
  odd e = omega arith

  half : (2 * j + 1) / 2 ≡ j
  half = omega arith

  pub line_named : (m k : ℕ) → j < k → is_named m k (2 * j + 1) ≡ true
  unfolding is_named
  line_named m k h = rw (ne_eqb _ _ odd, half) (lt-ltb j k h)

  pub line_referent : (b d : List ℕ) → j < line_count d → referent_literals b d (2 * j + 1) ≡ (clause_of d (line_start d j)).literals
  unfolding referent_literals
  line_referent b d h = rw (ne_eqb _ _ odd, half) (ap (λ c. c.literals) (derived_at d j h))

-- Resolution's lookup

pub named_more : (m k l r : ℕ) → k ≤ l → is_named m k r ≡ true → is_named m l r ≡ true
unfolding is_named
named_more m k l r h = go (eqb (r % 2) 0)
  where
    go : (t : Bool) → cond t (ltb (r / 2) m) (ltb (r / 2) k) ≡ true → cond t (ltb (r / 2) m) (ltb (r / 2) l) ≡ true
    go true e = e
    go false e = lt-ltb _ _ (le_trans (ltb-true _ _ e) h)

pub lookup_is : (b d : List ℕ) (k r : ℕ) → lookup (clauses b) (lines d) k r ≡ some_if (is_named (clause_count b) k r) (referent b d r)
unfolding lookup is_named referent_literals referent_value
lookup_is b d k r = rw (clauses_length b) (go (eqb (r % 2) 0))
  where
    go : (t : Bool) →
        cond t (some_if (ltb (r / 2) (clause_count b)) (original_clause (clauses b) (r / 2))) (some_if (ltb (r / 2) k) (derived (line_at (lines d) (r / 2))))
        ≡ some_if (cond t (ltb (r / 2) (clause_count b)) (ltb (r / 2) k))
        (record {
          literals = cond t (get_or (clauses b) (r / 2) []) (derived (line_at (lines d) (r / 2))).literals;
          value = cond t 0 (derived (line_at (lines d) (r / 2))).value;
        })
    go true = refl
    go false = refl
