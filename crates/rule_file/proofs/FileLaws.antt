-- The clauses and the prefix of a file: how many there are and where each stands; what an accepted file says of each
-- clause; the table of masks, one clause at a time; and a part of the prefix, whose denominator is within the whole.
-- Clauses and prefixes in words, whatever the file, are ClauseLaws and PrefixLaws of the crates below. Assumes nothing.
use mathlib.Core.Path.{◌≡◌, refl, sym, ap, ◌∙◌}
use mathlib.Core.Bool.{false}
use mathlib.Core.List.{List, [], ◌∷◌, ◌++◌, map, map-append}
use Prim.Native.Nat.{ℕ, suc, ◌+◌, ◌-◌, ◌*◌, ◌≤◌, ◌<◌}
use native.Mathlib.Nat.{le_refl}
use native.Mathlib.Numerals.{add-one}
use native.Mathlib.Omega.{arith}
use lib.ListN.{length, get_or, take, drop, set, replicate, length-map, length-append, length-replicate, take-append-drop, get_or-append, get_or-map}
use lib.Seq.{set_at, take_at, append_snoc}
use Rattle.formula.specs.Formula.{out_of_range}
use Rattle.formula.specs.Quantifier.{existential, denominator}
use Rattle.bit_set.specs.BitSet.{mask_onto, mask}
use Rattle.limits.specs.Limits.{max_clauses, max_whole}
use Rattle.words.specs.Walk.{elements}
use Rattle.words.specs.Words.{word_count}
use Rattle.words.proofs.WalkLaws.{elements_length, element_is, elements_last, elements_take, elements_drop}
use Rattle.prefix_words.specs.Prefix.{after_entry, quantifier_at, prefix_from}
use Rattle.prefix_words.proofs.PrefixLaws.{entry_start, WithinWhole, first_within, second_within}
use Rattle.clause_words.specs.Clauses.{after_clause, clause_at, clause_start, clauses_from}
use Rattle.clause_words.proofs.ClauseLaws.{Fits, walked_clause, clause_passes}
use Rattle.rule_file.specs.RuleFile.{clause_count, variable_count, prefix_start, clauses, prefix}
use Rattle.rule_file.specs.Accepted.{AcceptedWithin, Accepted}
use Rattle.rule_file.specs.Masks.{mask_table}
use Rattle.rule_file.specs.declared.Limits.{Limits}

-- The clauses

module _ (b : List ℕ) where
  pub clauses_length : length (clauses b) ≡ clause_count b
  clauses_length = elements_length (after_clause b) (clause_at b) (clause_count b) 0

  pub clause_is : (j : ℕ) → j < clause_count b → get_or (clauses b) j [] ≡ clause_at b (clause_start b j)
  clause_is j h = element_is (after_clause b) (clause_at b) [] (clause_count b) 0 j h

  module _ {limits : Limits} (a : AcceptedWithin limits b) (j : ℕ) (h : j < clause_count b) where
    pub accepted_clause : Fits b (variable_count b) (prefix_start b) (clause_start b j)
    accepted_clause = walked_clause b (variable_count b) (prefix_start b) (clause_count b) a.walked j h

    pub clause_within : after_clause b (clause_start b j) ≤ word_count b
    clause_within = omega (arith, accepted_clause.ends, a.prefix_ends)

    pub clause_in_range : out_of_range (variable_count b) (clause_at b (clause_start b j)) ≡ false
    clause_in_range = clause_passes b (out_of_range (variable_count b)) (clause_count b) j h a.in_range

-- The table of masks

-- the table with the masks of the first j clauses
abbrev pub masks_of_first : List ℕ → ℕ → List ℕ
masks_of_first b j = map mask (clauses_from b j 0) ++ replicate (max_clauses - j) 0

pub masks_none : (b : List ℕ) → masks_of_first b 0 ≡ replicate max_clauses 0
unfolding elements
masks_none b = refl

-- a number is put in after the first j, where there are zeros
put_next : (n : ℕ) (xs : List ℕ) (j y : ℕ) → length xs ≡ j → j < n → set (xs ++ replicate (n - j) 0) j y ≡ xs ++ (y ∷ []) ++ replicate (n - (j + 1)) 0
put_next n xs j y size h =
    let e : n - j ≡ suc (n - (j + 1)) = omega arith in
    ap (λ k. set (xs ++ replicate k 0) j y) e ∙ set_at xs 0 (replicate (n - (j + 1)) 0) y j size ∙ sym (append_snoc xs y (replicate (n - (j + 1)) 0))

module _ (b : List ℕ) (j : ℕ) where
  masks_length : length (map mask (clauses_from b j 0)) ≡ j
  masks_length = length-map (clauses_from b j 0) mask ∙ elements_length (after_clause b) (clause_at b) j 0

  masks_last : map mask (clauses_from b (suc j) 0) ≡ map mask (clauses_from b j 0) ++ (mask (clause_at b (clause_start b j)) ∷ [])
  masks_last =
      ap (map mask) (elements_last (after_clause b) (clause_at b) j 0) ∙ map-append mask (clauses_from b j 0) (clause_at b (clause_start b j) ∷ [])

  -- clause j's mask is put in
  pub masks_next : j < max_clauses → set (masks_of_first b j) j (mask (clause_at b (clause_start b j))) ≡ masks_of_first b (j + 1)
  masks_next h =
      put_next max_clauses (map mask (clauses_from b j 0)) j (mask (clause_at b (clause_start b j))) masks_length h
      ∙ ap (◌++ replicate (max_clauses - (j + 1)) 0) (sym (ap (λ k. map mask (clauses_from b k 0)) (add-one j) ∙ masks_last))

-- the whole table has room for all masks that are allowed, and begins with those of the clauses
module _ (b : List ℕ) where
  pub table_length : clause_count b ≤ max_clauses → length (mask_table b) ≡ max_clauses
  table_length h =
      simp (length-append, length-replicate) (omega (arith, masks_length b (clause_count b)))

  pub table_at : (j : ℕ) → j < clause_count b → get_or (mask_table b) j 0 ≡ mask (get_or (clauses b) j [])
  unfolding mask_onto
  table_at j h =
      get_or-append (map mask (clauses b)) _ 0 j (omega (arith, masks_length b (clause_count b))) ∙ get_or-map mask (clauses b) j []

  pub table_begins : take (clause_count b) (mask_table b) ≡ map mask (clauses b)
  table_begins = take_at (map mask (clauses b)) _ (clause_count b) (masks_length b (clause_count b))

-- The prefix

module _ (b : List ℕ) where
  pub prefix_length : length (prefix b) ≡ variable_count b
  prefix_length = elements_length after_entry (quantifier_at b) (variable_count b) (prefix_start b)

  -- where the weights of variable v stand
  pub quantifier_is : (v : ℕ) → v < variable_count b → get_or (prefix b) v existential ≡ quantifier_at b (prefix_start b + 2 * v)
  quantifier_is v h =
      element_is after_entry (quantifier_at b) existential (variable_count b) (prefix_start b) v h
      ∙ ap (quantifier_at b) (entry_start (prefix_start b) v)

  first_part : (to : ℕ) → to ≤ variable_count b → take to (prefix b) ≡ prefix_from b to (prefix_start b)
  first_part to h = elements_take after_entry (quantifier_at b) to (variable_count b) (prefix_start b) h

  -- where the weights of variables from .. to - 1 stand
  pub prefix_part_is : (from to : ℕ) → from ≤ to → to ≤ variable_count b
      → drop from (take to (prefix b)) ≡ prefix_from b (to - from) (prefix_start b + 2 * from)
  prefix_part_is from to h k =
      ap (drop from) (first_part to k) ∙ elements_drop after_entry (quantifier_at b) from to (prefix_start b) h
      ∙ ap (prefix_from b (to - from)) (entry_start (prefix_start b) from)

  -- a part that goes on to the prefix's end
  pub last_part : (from : ℕ) → drop from (take (variable_count b) (prefix b)) ≡ drop from (prefix b)
  last_part from = ap (drop from) (first_part (variable_count b) (le_refl _))

pub part_within :
    (b : List ℕ) → Accepted b → (from to : ℕ) → from ≤ to → to ≤ variable_count b → WithinWhole (prefix_from b (to - from) (prefix_start b + 2 * from))
part_within b a from to h k =
    let whole : WithinWhole (prefix b) = (a.well_formed, a.bounded) in
    let first : WithinWhole (take to (prefix b)) = first_within _ (drop to (prefix b)) (rw take-append-drop whole) in
    rw (← (prefix_part_is b from to h k)) (second_within (take from (take to (prefix b))) _ (rw take-append-drop first))

-- so is that of the prefix from a variable on
pub denominator_within : (b : List ℕ) → Accepted b → (i : ℕ) → i ≤ variable_count b → denominator (drop i (prefix b)) ≤ max_whole
denominator_within b a i h =
    rw (← (last_part b i), prefix_part_is b i (variable_count b) h (le_refl _)) (part_within b a i (variable_count b) h (le_refl _)).1
