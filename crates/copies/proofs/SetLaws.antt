-- Copies by sets: a clause has a copy among others where one of their sets is its set; so it is of clauses in order,
-- and of those once they are. Then the clauses of a file: those that are in order, and the sets of the first ones that
-- are taken in. Assumes nothing.
use mathlib.Core.Path.{◌≡◌, refl, sym, ap, ◌∙◌}
use mathlib.Core.Logic.Iff
use mathlib.Core.Logic.{◌↔◌}
use mathlib.Core.Bool.{Bool, true, false}
use mathlib.Core.List.{List, [], ◌∷◌, ◌++◌, map, map-append}
use Prim.Native.Nat.{ℕ, ◌+◌, ◌-◌, ◌≤◌, ◌<◌}
use native.Mathlib.Numerals.{add-one}
use native.Mathlib.Omega.{arith}
use lib.Dec.{eqb}
use lib.ListN.{length, length-map}
use borrow.Author.Tests.{eqb-true, eq-eqb}
use Rattle.formula.specs.Formula.{some_of, member, out_of_range, unordered, ill_formed, rising, equal}
use Rattle.formula.specs.Nodes.{Every}
use Rattle.formula.proofs.SomeLaws.{same_truth, or_false, some_of_append, some_of_map}
use Rattle.formula.proofs.Membership.{none_of, some_of_same}
use Rattle.formula.proofs.OrderLaws.{ordered_ascends, equal_iff}
use Rattle.bit_set.specs.BitSet.{mask}
use Rattle.bit_set.proofs.BitSetLaws.{same_mask_iff}
use Rattle.bit_set.proofs.MemberLaws.{same_set_iff}
use Rattle.words.specs.Walk.{elements}
use Rattle.words.proofs.WalkLaws.{elements_length, elements_add, elements_last}
use Rattle.clause_words.specs.Clauses.{after_clause, clause_at, clause_start, clauses_from}
use Rattle.clause_words.proofs.ClauseLaws.{clause_passes}
use Rattle.copies.specs.Copies.{InOrder}

-- a test that tells the same sets apart
by_sets : (same : List ℕ → List ℕ → Bool) (c : List ℕ) (φ : List (List ℕ)) → Every (λ d. (mask d ≡ mask c) ↔ (same d c ≡ true)) φ
    → member (mask c) (map mask φ) ≡ some_of (λ d. same d c) φ
by_sets same c φ iff =
    some_of_map (eqb (mask c)) mask φ
    ∙ some_of_same (λ d. eqb (mask c) (mask d)) (λ d. same d c) φ (λ d m. same_truth (
      λ t. (iff d m).0 (sym (eqb-true (mask c) (mask d) t)),
      λ t. eq-eqb (mask c) (mask d) (sym ((iff d m).1 t)),
    ))

pub ordered_by_sets : (c : List ℕ) (φ : List (List ℕ)) → unordered c ≡ false → Every (λ d. unordered d ≡ false) φ
    → member (mask c) (map mask φ) ≡ some_of (λ d. equal d c) φ
ordered_by_sets c φ in_order each =
    by_sets equal c φ (λ d m. Iff.trans (same_mask_iff (ordered_ascends d (each d m)) (ordered_ascends c in_order)) (Iff.symm (equal_iff d c)))

pub rising_by_sets : (c : List ℕ) (φ : List (List ℕ)) → Every (λ l. l < 64) c → Every (Every (λ l. l < 64)) φ
    → member (mask c) (map mask φ) ≡ some_of (λ d. equal (rising d) (rising c)) φ
rising_by_sets c φ small each =
    by_sets (λ d c. equal (rising d) (rising c)) c φ (λ d m. Iff.trans (same_set_iff d c (each d m) small) (Iff.symm (equal_iff (rising d) (rising c))))

-- Clauses of a file

-- a test that none of `count` clauses passes, none of the first j does
pub none_of_first : (f : List ℕ → Bool) (b : List ℕ) (count j : ℕ) → j ≤ count → some_of f (clauses_from b count 0) ≡ false → some_of f (clauses_from b j 0) ≡ false
none_of_first f b count j h e =
    let all : j + (count - j) ≡ count = omega arith in
    let split = ap (λ k. clauses_from b k 0) (sym all) ∙ elements_add (after_clause b) (clause_at b) j (count - j) 0 in
    (or_false _ _ (sym (some_of_append f (clauses_from b j 0) (clauses_from b (count - j) (clause_start b j))) ∙ ap (some_of f) (sym split) ∙ e)).0

module _ {b : List ℕ} {n count : ℕ} (o : InOrder b n count) where
  -- the first j clauses
  pub first_in_order : (j : ℕ) → j ≤ count → Every (λ c. unordered c ≡ false) (clauses_from b j 0)
  unfolding ill_formed
  first_in_order j h c m = (or_false (out_of_range n c) (unordered c) (none_of (ill_formed n) (none_of_first (ill_formed n) b count j h o.well_formed) m)).1

  -- clause j
  module _ (j : ℕ) (h : j < count) where
    parts_are : (out_of_range n (clause_at b (clause_start b j)) ≡ false) × (unordered (clause_at b (clause_start b j)) ≡ false)
    unfolding ill_formed
    parts_are = or_false _ _ (clause_passes b (ill_formed n) count j h o.well_formed)

    pub in_range : out_of_range n (clause_at b (clause_start b j)) ≡ false
    in_range = parts_are.0

    -- it has a copy among those before it where one of their sets is its set
    pub copy_by_sets : (i : ℕ) → i ≡ clause_start b j
        → member (mask (clause_at b i)) (map mask (clauses_from b j 0)) ≡ some_of (λ c. equal c (clause_at b i)) (clauses_from b j 0)
    copy_by_sets i e =
        rw e (ordered_by_sets (clause_at b (clause_start b j)) (clauses_from b j 0) parts_are.1 (first_in_order j (omega arith)))

-- The first clauses

-- one clause more, which stands at word i
pub clauses_last : (b : List ℕ) (j i : ℕ) → i ≡ clause_start b j → clauses_from b (j + 1) 0 ≡ clauses_from b j 0 ++ (clause_at b i ∷ [])
clauses_last b j i e = rw (e, add-one j) (elements_last (after_clause b) (clause_at b) j 0)

pub masks_last : (b : List ℕ) (j i : ℕ) → i ≡ clause_start b j
    → map mask (clauses_from b (j + 1) 0) ≡ map mask (clauses_from b j 0) ++ (mask (clause_at b i) ∷ [])
masks_last b j i e = ap (map mask) (clauses_last b j i e) ∙ map-append mask (clauses_from b j 0) (clause_at b i ∷ [])

pub masks_length : (b : List ℕ) (j : ℕ) → length (map mask (clauses_from b j 0)) ≡ j
masks_length b j = length-map (clauses_from b j 0) mask ∙ elements_length (after_clause b) (clause_at b) j 0

pub no_masks : (b : List ℕ) → map mask (clauses_from b 0 0) ≡ []
unfolding elements
no_masks b = refl

pub ruleset set_steps = (in_range, copy_by_sets, no_masks, masks_length, masks_last)
