-- The truth of a formula after a substitution, and of a list of clauses under an assignment of all its variables.
-- Assumes nothing.
use Prim.Native.Nat.{ℕ, zero, suc, ◌*◌, ◌%◌, ◌<◌}
use mathlib.Core.Path.{◌≡◌, refl, sym, ap, ap₂, ◌∙◌}
use mathlib.Core.Bool.{Bool, true, false, cond, not, ◌&&◌, ◌||◌}
use mathlib.Core.List.{List, [], ◌∷◌, ◌++◌, map}
use native.Mathlib.Omega.{arith}
use lib.ListN.{length, get_or, length-map}
use lib.Dec.{leb, eqb, eqb-zero-suc, eqb-suc-suc}
use borrow.Author.Tests.{leb-false, lt-ltb}
use Rattle.formula.specs.declared.Status.{Status}
use Rattle.formula.specs.declared.Status.TheVariants.{Falsified, Undetermined, Satisfied}
use Rattle.formula.specs.Status.{either, both, is_satisfied}
use Rattle.formula.specs.Literals.{literal_status_by, clause_status_by, formula_status_by}
use Rattle.formula.specs.Formula.{variable, some_of, literal_status, clause_status, formula_status}
use Rattle.formula.proofs.SomeLaws.{or_false}
use Rattle.probability.specs.Probability.{Proposition, constant, atom, negation, conjunction, disjunction, ◌⟦◌/◌⟧, truth, literal, clause, proposition}

-- v with the value b for x
pub update : (ℕ → Bool) → ℕ → Bool → ℕ → Bool
update v x b y = cond (eqb x y) b (v y)

pub truth_substitute : (v : ℕ → Bool) (b : Bool) (x : ℕ) (φ : Proposition) → truth v (φ ⟦ b / x ⟧) ≡ truth (update v x b) φ
unfolding truth ◌⟦◌/◌⟧ update
truth_substitute v b x (constant c) = refl
truth_substitute v b x (atom y) = go (eqb x y)
  where
    go : (t : Bool) → truth v (cond t (constant b) (atom y)) ≡ cond t b (v y)
    go true = refl
    go false = refl
truth_substitute v b x (negation φ) = ap not (truth_substitute v b x φ)
truth_substitute v b x (conjunction φ ψ) = ap₂ ◌&&◌ (truth_substitute v b x φ) (truth_substitute v b x ψ)
truth_substitute v b x (disjunction φ ψ) = ap₂ ◌||◌ (truth_substitute v b x φ) (truth_substitute v b x ψ)

-- the values bs of variables 0, 1, .., and those of v past their end
unfoldable pub override : List Bool → (ℕ → Bool) → ℕ → Bool
override bs v x = get_or bs x (v x)

pub override_snoc : (bs : List Bool) (b : Bool) (v : ℕ → Bool) (x : ℕ) → override bs (update v (length bs) b) x ≡ override (bs ++ (b ∷ [])) v x
unfolding override update
override_snoc [] b v zero = refl
override_snoc [] b v (suc x) = rw eqb-zero-suc
override_snoc (c ∷ bs) b v zero = refl
override_snoc (c ∷ bs) b v (suc x) = rw eqb-suc-suc (override_snoc bs b (λ y. v (suc y)) x)

-- a truth value as an assignment has it
abbrev pub numeral : Bool → ℕ
numeral b = cond b 1 0

get_or_numeral : (bs : List Bool) (x : ℕ) (d : Bool) → x < length bs → get_or (map numeral bs) x 0 ≡ numeral (get_or bs x d)
get_or_numeral [] x d h = omega arith
get_or_numeral (b ∷ bs) zero d h = refl
get_or_numeral (b ∷ bs) (suc x) d h = get_or_numeral bs x d (omega arith)

-- r is the literal's sign
sign_truth : (v : ℕ → Bool) (x r : ℕ) → r < 2
    → truth v (cond (eqb r 0) (atom x) (negation (atom x))) ≡ is_satisfied (cond (eqb (numeral (v x)) r) Falsified Satisfied)
unfolding truth
sign_truth v x zero h = elim (v x) as (λ b. b ≡ is_satisfied (cond (eqb (numeral b) 0) Falsified Satisfied)) [ true ↦ refl | false ↦ refl ]
sign_truth v x (suc zero) h = elim (v x) as (λ b. not b ≡ is_satisfied (cond (eqb (numeral b) 1) Falsified Satisfied)) [ true ↦ refl | false ↦ refl ]
sign_truth v x (suc (suc r)) h = absurd (omega arith)

is_satisfied_either : (s t : Status) → is_satisfied (either s t) ≡ (is_satisfied s || is_satisfied t)
is_satisfied_either Satisfied t = refl
is_satisfied_either Falsified t = refl
is_satisfied_either Undetermined Satisfied = refl
is_satisfied_either Undetermined Undetermined = refl
is_satisfied_either Undetermined Falsified = refl

is_satisfied_both : (s t : Status) → is_satisfied (both s t) ≡ (is_satisfied s && is_satisfied t)
is_satisfied_both Falsified t = refl
is_satisfied_both Satisfied t = refl
is_satisfied_both Undetermined Falsified = refl
is_satisfied_both Undetermined Undetermined = refl
is_satisfied_both Undetermined Satisfied = refl

module _ (bs : List Bool) (v : ℕ → Bool) where
  literal_truth : (l : ℕ) → variable l < length bs → truth (override bs v) (literal l) ≡ is_satisfied (literal_status (map numeral bs) l)
  unfolding literal_status_by override
  literal_truth l h =
      rw (length-map, lt-ltb (variable l) (length bs), get_or_numeral bs (variable l) (v (variable l)))
      (sign_truth (override bs v) (variable l) (l % 2) (omega arith))

  clause_truth : (ls : List ℕ) → some_of (leb (2 * length bs)) ls ≡ false → truth (override bs v) (clause ls) ≡ is_satisfied (clause_status (map numeral bs) ls)
  unfolding truth clause clause_status_by some_of
  clause_truth [] h = refl
  clause_truth (l ∷ ls) h =
      let (k, ks) = or_false (leb (2 * length bs) l) _ h in
      ap₂ ◌||◌ (literal_truth l (omega (arith, leb-false (2 * length bs) l k))) (clause_truth ls ks)
      ∙ sym (is_satisfied_either (literal_status (map numeral bs) l) (clause_status (map numeral bs) ls))

  -- under values for all its variables
  pub formula_truth : (φ : List (List ℕ)) → some_of (some_of (leb (2 * length bs))) φ ≡ false → truth (override bs v) (proposition φ) ≡ is_satisfied (formula_status (map numeral bs) φ)
  unfolding truth proposition formula_status_by some_of
  formula_truth [] h = refl
  formula_truth (c ∷ φ) h =
      let (k, ks) = or_false (some_of (leb (2 * length bs)) c) _ h in
      ap₂ ◌&&◌ (clause_truth c k) (formula_truth φ ks)
      ∙ sym (is_satisfied_both (clause_status (map numeral bs) c) (formula_status (map numeral bs) φ))
