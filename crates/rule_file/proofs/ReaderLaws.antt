-- The reader's answer, one check at a time: checks 1 to 4 and 9 with the fact that each decides, then what checks 5 to
-- 8 speak of by the counts that a trailer holds, and 6, 7 and 23 at once. What the
-- checks over clauses and variables say is in ClauseLaws and PrefixLaws. Assumes nothing.
use Rattle.std.specs.Prelude.{Err, Ok, None, Some}
use mathlib.Core.Path.{◌≡◌, refl, sym, ap, ◌∙◌}
use mathlib.Core.Bool.{Bool, true, false}
use mathlib.Core.List.{List, [], ◌∷◌}
use Prim.Native.Nat.{ℕ, ◌+◌, ◌-◌, ◌*◌, ◌≤◌}
use native.Mathlib.Omega.{arith}
use borrow.Author.Tests.{le-ltb, ltb-false}
use Rattle.formula.specs.Formula.{some_of, out_of_range, repeats, unordered, ill_formed, equal}
use Rattle.formula.specs.Quantifier.{denominator}
use Rattle.formula.proofs.SomeLaws.{or_false, none_implied}
use Rattle.formula.proofs.OrderLaws.{ordered_no_repeats}
use Rattle.answer.specs.declared.Refusal.TheVariants as refusal
use Rattle.limits.specs.Limits.{max_clauses, max_whole}
use Rattle.words.specs.Walk.{first, first_copy}
use Rattle.words.specs.Words.{word_count, stated_count}
use Rattle.words.proofs.WalkLaws.{first_none, none_first_place, first_either}
use Rattle.words.proofs.FirstCopyLaws.{none_same}
use Rattle.words.proofs.WordsLaws.{Decides, differs}
use Rattle.prefix_words.specs.Prefix.{prefix_from, malformed}
use Rattle.clause_words.specs.Clauses.{clauses_from, walk_clauses, ClausesWithin}
use Rattle.clause_words.proofs.ClauseLaws.{walked_within}
use Rattle.copies.specs.Copies.{InOrder}
use Rattle.rule_file.specs.RuleFile.{clause_count, variable_count, prefix_start, clauses, prefix, whole}
use Rattle.rule_file.specs.Checks.{TrailerOf, ClausesRead}
use Rattle.rule_file.specs.declared.Trailer.{Trailer}
use Rattle.rule_file.specs.Reader.{read_from_6, wrong_count, too_many, wrong_prefix, too_large, asked}

pub check_2 : (b : List ℕ) → Decides (wrong_count b) (stated_count b ≡ word_count b)
unfolding wrong_count
check_2 b = differs _ _

pub check_3 : (most : ℕ) (b : List ℕ) → Decides (too_many most b) ((variable_count b ≤ most) × (clause_count b ≤ max_clauses))
unfolding too_many
check_3 most b =
    (λ e. let (e₁, e₂) = or_false _ _ e in (ltb-false _ _ e₁, ltb-false _ _ e₂), λ h. simp (le-ltb _ _ h.0, le-ltb _ _ h.1))

pub check_4 : (b : List ℕ) → Decides (wrong_prefix b) (prefix_start b + 2 * variable_count b ≡ word_count b - 4)
unfolding wrong_prefix
check_4 b = differs _ _

pub check_9 : (b : List ℕ) → Decides (too_large b) (whole b ≤ max_whole)
unfolding too_large
check_9 b = (ltb-false _ _, le-ltb _ _)

module _ (b : List ℕ) (trailer : Trailer) (t : TrailerOf b trailer) where
  pub walk_is : walk_clauses b (variable_count b) (prefix_start b) (clause_count b) 0 ≡ walk_clauses b trailer.variables trailer.prefix trailer.clauses 0
  walk_is = rw (← t.variable_count_is, ← t.prefix_start_is, ← t.clause_count_is)

  pub check_6 : first (out_of_range (variable_count b)) (clauses b) ≡ first (out_of_range trailer.variables) (clauses_from b trailer.clauses 0)
  check_6 = rw (← t.variable_count_is, ← t.clause_count_is)

  pub check_7 : first repeats (clauses b) ≡ first repeats (clauses_from b trailer.clauses 0)
  check_7 = rw (← t.clause_count_is)

  -- 6, 7 and 23 at once
  pub check_literals : first (ill_formed (variable_count b)) (clauses b) ≡ first (ill_formed trailer.variables) (clauses_from b trailer.clauses 0)
  check_literals = rw (← t.variable_count_is, ← t.clause_count_is)

  pub check_26 : first_copy equal (clauses b) ≡ first_copy equal (clauses_from b trailer.clauses 0)
  check_26 = rw (← t.clause_count_is)

  -- what 5 leaves for the checks over clauses
  pub read_within_file : walk_clauses b trailer.variables trailer.prefix trailer.clauses 0 ≡ None → ClausesWithin b trailer.clauses
  read_within_file = walked_within b trailer.variables trailer.prefix trailer.clauses (omega (arith, t.ends))

  -- what 5, 6, 7 and 23 leave for 26
  pub read_in_order : walk_clauses b trailer.variables trailer.prefix trailer.clauses 0 ≡ None → first (ill_formed trailer.variables) (clauses_from b trailer.clauses 0) ≡ None → InOrder b trailer.variables trailer.clauses
  read_in_order walked passed = record {
    within = read_within_file walked;
    few_variables = t.few_variables;
    few_clauses = t.few_clauses;
    well_formed = first_none _ _ passed;
  }

  prefix_is : prefix b ≡ prefix_from b trailer.variables trailer.prefix
  prefix_is = rw (← t.variable_count_is, ← t.prefix_start_is)

  pub check_8 : first malformed (prefix b) ≡ first malformed (prefix_from b trailer.variables trailer.prefix)
  check_8 = ap (first malformed) prefix_is

  pub whole_is : whole b ≡ denominator (prefix_from b trailer.variables trailer.prefix)
  whole_is = ap denominator prefix_is

-- where the variables of each clause rise, none stands twice in a clause
pub ordered_once : (φ : List (List ℕ)) → some_of unordered φ ≡ false → some_of repeats φ ≡ false
ordered_once = none_implied unordered repeats ordered_no_repeats

-- so where order is asked
pub asked_once : (ordered : Bool) (φ : List (List ℕ)) → some_of (asked ordered unordered) φ ≡ false → some_of (asked ordered repeats) φ ≡ false
asked_once true φ e = ordered_once φ e
asked_once false φ e = e

-- a check that is not asked finds nothing
pub not_asked : (f : List ℕ → Bool) (φ : List (List ℕ)) → first (asked false f) φ ≡ None
unfolding first
not_asked f [] = refl
not_asked f (c ∷ φ) = rw (not_asked f φ)

-- nor does the search for a copy
pub copies_not_asked : (φ : List (List ℕ)) → first_copy (λ c. asked false (equal c)) φ ≡ None
copies_not_asked = none_same _ (λ _ _. refl) []

-- 6, 7 and 23 at once: where no clause is ill-formed each is in order, and all three pass
module _ (n : ℕ) (φ : List (List ℕ)) where
  pub well_formed_ordered : some_of (ill_formed n) φ ≡ false → some_of unordered φ ≡ false
  unfolding ill_formed
  well_formed_ordered = none_implied (ill_formed n) unordered (λ c f. (or_false (out_of_range n c) (unordered c) f).1) φ

  pub well_formed_pass : first (ill_formed n) φ ≡ None → (first (out_of_range n) φ ≡ None) × (first repeats φ ≡ None) × (first unordered φ ≡ None)
  unfolding ill_formed
  well_formed_pass e =
      let none_fails = first_none (ill_formed n) φ e in
      let ordered = well_formed_ordered none_fails in (
        none_first_place (out_of_range n) φ (none_implied (ill_formed n) (out_of_range n) (λ c f. (or_false (out_of_range n c) (unordered c) f).0) φ none_fails),
        none_first_place repeats φ (ordered_once φ ordered),
        none_first_place unordered φ ordered,
      )

  -- and where 6 passes, the first that is ill-formed is the first that is unordered
  pub ill_formed_unordered : first (out_of_range n) φ ≡ None → first (ill_formed n) φ ≡ first unordered φ
  unfolding ill_formed
  ill_formed_unordered e = first_either (out_of_range n) unordered φ (first_none (out_of_range n) φ e)

-- what is answered from 6 on, where 5 passes, by what the code finds: no clause that is ill-formed; or the first that
-- fails 6, the first that fails 7, and the first that is ill-formed
module _ (b : List ℕ) (trailer : Trailer) (t : TrailerOf b trailer) where
  pub all_well_formed :
      walk_clauses b trailer.variables trailer.prefix trailer.clauses 0 ≡ None → None ≡ first (ill_formed trailer.variables) (clauses_from b trailer.clauses 0) →
      ClausesRead b (read_from_6 true b) (Ok trailer)
  unfolding read_from_6
  all_well_formed walked passed =
      let (six, seven, twenty_three) = well_formed_pass _ _ (check_literals b trailer t ∙ sym passed) in
      (t, read_in_order b trailer t walked (sym passed), rw (six, seven, twenty_three))

  pub refused_by_6 : (clause : ℕ) → Some clause ≡ first (out_of_range trailer.variables) (clauses_from b trailer.clauses 0) → read_from_6 true b ≡ Err (refusal.LiteralOutOfRange clause)
  unfolding read_from_6
  refused_by_6 clause e = rw (check_6 b trailer t ∙ sym e)

  module _ (six : None ≡ first (out_of_range trailer.variables) (clauses_from b trailer.clauses 0)) where
    pub refused_by_7 : (clause : ℕ) → Some clause ≡ first repeats (clauses_from b trailer.clauses 0) → read_from_6 true b ≡ Err (refusal.RepeatedVariable clause)
    unfolding read_from_6
    refused_by_7 clause e = rw (check_6 b trailer t ∙ sym six, check_7 b trailer t ∙ sym e)

    pub refused_by_23 :
        (clause : ℕ) → None ≡ first repeats (clauses_from b trailer.clauses 0) → Some clause ≡ first (ill_formed trailer.variables) (clauses_from b trailer.clauses 0) →
        read_from_6 true b ≡ Err (refusal.UnorderedVariables clause)
    unfolding read_from_6
    refused_by_23 clause seven e =
        let none : first (out_of_range (variable_count b)) (clauses b) ≡ None = check_6 b trailer t ∙ sym six in
        rw (none, check_7 b trailer t ∙ sym seven, sym (ill_formed_unordered _ _ none) ∙ check_literals b trailer t ∙ sym e)

-- what the code that tells 6, 7 and 23 apart needs
pub ruleset literal_checks = (read_within_file, refused_by_6, refused_by_7, refused_by_23)
