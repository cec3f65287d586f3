-- Quantifiers by their weights; totals and denominators of a well-formed prefix; products capped past the largest
-- whole, one variable at a time; where an entry stands, and the first that is malformed; and the parts of a prefix whose
-- denominator is within the whole. Entries one at a time are WalkLaws' elements. Assumes nothing.
use mathlib.Core.Path.{◌≡◌, refl, sym, ap, ◌∙◌}
use mathlib.Core.Bool.{true, false, true≢false}
use mathlib.Core.List.{List, [], ◌∷◌, ◌++◌}
use Prim.Native.Nat.{ℕ, zero, suc, ◌+◌, ◌-◌, ◌*◌, ◌≤◌, ◌<◌, min}
use native.Mathlib.Nat.{min-eq_left, min-eq_right, mul-le-mul_right, mul-le-mul_left, mul_assoc, mul_comm, mul-one, le_trans, mul-pos, le-mul_of_pos_right}
use native.Mathlib.Decide.{dec_le}
use native.Mathlib.Omega.{arith}
use lib.Dec.{eqb-suc-zero}
use lib.ListN.{get_or}
use Rattle.std.specs.Prelude.{Option, None, Some, MatchOption}
use Rattle.formula.specs.Formula.{some_of}
use Rattle.formula.specs.LevelRules.{denominator_by}
use Rattle.formula.specs.Quantifier.{Quantifier, existential, randomized, total, denominator}
use Rattle.formula.proofs.SomeLaws.{or_false, none_first, none_rest, some_of_append}
use Rattle.formula.proofs.TreeLaws.{denominator_append}
use Rattle.limits.specs.Limits.{max_whole}
use Rattle.words.specs.Walk.{start, first}
use Rattle.words.proofs.WalkLaws.{elements_length, element_is, elements_step, first_at, first_nowhere}
use Rattle.prefix_words.specs.Prefix.{quantifier, after_entry, quantifier_at, prefix_from, malformed}

-- a quantifier by its weights, not both 0
pub quantifier_some : (s t : ℕ) → (s + t ≡ 0 → ⊥) → quantifier s t ≡ randomized s t
unfolding quantifier
quantifier_some zero zero f = absurd (f refl)
quantifier_some zero (suc t) f = rw (eqb-suc-zero t)
quantifier_some (suc s) t f = rw (eqb-suc-zero s)

pub total_pos : (q : Quantifier) → malformed q ≡ false → 0 < total q
unfolding malformed
total_pos existential e = omega arith
total_pos (randomized zero t) e = absurd (true≢false e)
total_pos (randomized (suc s) t) e = omega arith

pub denominator_pos : (qs : List Quantifier) → some_of malformed qs ≡ false → 0 < denominator qs
unfolding denominator_by
denominator_pos [] e = omega arith
denominator_pos (q ∷ qs) e = mul-pos (total_pos q (none_first malformed q qs e)) (denominator_pos qs (none_rest malformed q qs e))

-- a product that is capped at c on the way keeps what it comes to below c
pub capped : (c t x d : ℕ) → 0 < d → min (min (t * x) c * d) c ≡ min (x * (t * d)) c
capped c t x d h = go (dec_le (t * x) c)
  where
    same : t * x * d ≡ x * (t * d)
    same = ap (◌* d) (mul_comm t x) ∙ mul_assoc x t d

    go : Dec (t * x ≤ c) → min (min (t * x) c * d) c ≡ min (x * (t * d)) c
    go (yes le) = rw (min-eq_left le, same)
    go (no gt) =
        let g : c ≤ t * x = omega arith in
        let k : c ≤ c * d = rw mul-one at (mul-le-mul_left c h) in
        rw (min-eq_right g) (min-eq_right k ∙ sym (min-eq_right (le_trans k (rw same at (mul-le-mul_right d g)))))

-- a well-formed prefix, one variable at a time
module _ (b : List ℕ) (left i : ℕ) (h : 0 < left) (e : some_of malformed (prefix_from b left i) ≡ false) where
  well_formed : some_of malformed (quantifier_at b i ∷ prefix_from b (left - 1) (after_entry i)) ≡ false
  well_formed = sym (ap (some_of malformed) (elements_step after_entry (quantifier_at b) left i h)) ∙ e

  pub well_formed_first : malformed (quantifier_at b i) ≡ false
  well_formed_first = none_first malformed _ _ well_formed

  pub well_formed_rest : some_of malformed (prefix_from b (left - 1) (after_entry i)) ≡ false
  well_formed_rest = none_rest malformed _ _ well_formed

  pub capped_step :
      (c x : ℕ) →
      min (min (total (quantifier_at b i) * x) c * denominator (prefix_from b (left - 1) (after_entry i))) c
      ≡ min (x * denominator (prefix_from b left i)) c
  unfolding denominator_by
  capped_step c x =
      capped c _ x _ (denominator_pos _ well_formed_rest) ∙
      ap (λ (d : ℕ). min (x * d) c) (sym (ap denominator (elements_step after_entry (quantifier_at b) left i h)))

-- where the entry of variable j stands
pub entry_start : (i j : ℕ) → start after_entry i j ≡ i + 2 * j
unfolding start
entry_start i zero = omega arith
entry_start i (suc j) = let e : i + 2 * j + 2 ≡ i + 2 * suc j = omega arith in ap (◌+ 2) (entry_start i j) ∙ e

-- the first variable whose entry, where it stands, is malformed is the first of the entries that is
module _ (b : List ℕ) (count i : ℕ) where
  entry : (v : ℕ) → v < count → get_or (prefix_from b count i) v existential ≡ quantifier_at b (i + 2 * v)
  entry v h = element_is after_entry (quantifier_at b) existential count i v h ∙ ap (quantifier_at b) (entry_start i v)

  pub first_entry :
      (r : Option ℕ) →
      MatchOption r
      ((k : ℕ) → 0 ≤ k → k < count → malformed (quantifier_at b (i + 2 * k)) ≡ false)
      (λ v. (0 ≤ v) × (v < count) × (malformed (quantifier_at b (i + 2 * v)) ≡ true) × ((k : ℕ) → 0 ≤ k → k < v → malformed (quantifier_at b (i + 2 * k)) ≡ false)) →
      r ≡ first malformed (prefix_from b count i)
  first_entry None m =
      let n = elements_length after_entry (quantifier_at b) count i in
      sym (first_nowhere malformed existential _ (λ k h. let l : k < count = omega arith in ap malformed (entry k l) ∙ m k (omega arith) l))
  first_entry (Some v) (_, h, t, before) =
      let n = elements_length after_entry (quantifier_at b) count i in
      sym (first_at malformed existential _ v (omega arith) (λ k l. ap malformed (entry k (omega arith)) ∙ before k (omega arith) l) (ap malformed (entry v h) ∙ t))

-- the quantifiers are well-formed, and their denominator is at most the largest whole
abbrev pub WithinWhole : List Quantifier → Type 0
WithinWhole qs = (some_of malformed qs ≡ false) × (denominator qs ≤ max_whole)

module _ (qs rs : List Quantifier) (h : WithinWhole (qs ++ rs)) where
  both_well_formed : (some_of malformed qs ≡ false) × (some_of malformed rs ≡ false)
  both_well_formed = or_false _ _ (sym (some_of_append malformed qs rs) ∙ h.0)

  product_within : denominator rs * denominator qs ≤ max_whole
  product_within = rw denominator_append at h.1

  pub first_within : WithinWhole qs
  first_within =
      (both_well_formed.0, le_trans (rw mul_comm (le-mul_of_pos_right (denominator qs) (denominator_pos rs both_well_formed.1))) product_within)

  pub second_within : WithinWhole rs
  second_within = (both_well_formed.1, le_trans (le-mul_of_pos_right (denominator rs) (denominator_pos qs both_well_formed.0)) product_within)
