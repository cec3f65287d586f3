-- The figure out of the denominator is Pr. Assumes that each literal's variable has its quantifier, and that the
-- denominator is positive.
use Prim.Native.Nat.{ℕ, zero, suc, ◌+◌, ◌*◌, ◌<◌}
use mathlib.Core.Path.{◌≡◌, refl, ap, ap₂, ◌∙◌, fun_ext}
use mathlib.Core.Bool.{Bool, true, false, cond, not, ◌&&◌, ◌||◌, false≢true, and-eq-true_iff}
use mathlib.Core.List.{List, [], ◌∷◌, ◌++◌, map, map-append}
use native.Mathlib.Nat.{one-mul}
use native.Mathlib.Numerals.{add-one}
use native.Mathlib.Omega.{arith}
use lib.ListN.{length, length-append}
use lib.Dec.{leb, lit<}
use Rattle.formula.specs.Status.{is_satisfied}
use Rattle.formula.specs.Formula.{some_of, out_of_range, formula_status}
use Rattle.formula.specs.LevelRules.{denominator_by}
use Rattle.formula.specs.Quantifier.{Quantifier, existential, randomized, denominator}
use Rattle.formula.specs.Tree.{value, number, figure}
use Rattle.probability.specs.Fraction.{◌over◌, ◌≈◌, ◌⊗◌, ◌⊕◌, maximum, complement}
use Rattle.probability.specs.Probability.{Proposition, constant, atom, negation, conjunction, disjunction, ◌⟦◌/◌⟧, truth, Equivalent, closed, Pr, clause, proposition}
use Rattle.probability.proofs.FractionLaws.{maximum_over, mean_over}
use Rattle.probability.proofs.Truth.{update, truth_substitute, override, override_snoc, numeral, formula_truth}

-- the definition's first line as the paper has it: 1 or 0 for a formula that is logically equivalent to true or to
-- false
pub Pr_of_constant : (i : ℕ) (φ : Proposition) (b : Bool) → Equivalent φ (constant b) → Pr i [] φ ≡ cond b 1 0 over 1
unfolding Pr truth
Pr_of_constant i φ b h = ap (λ t. cond t 1 0 over 1) (h (λ x. false))

-- each closed formula is one of these two, and its truth under any valuation, so that by which Pr decides, tells which
pub closed_is_constant : (φ : Proposition) → closed φ ≡ true → Equivalent φ (constant (truth (λ x. false) φ))
unfolding closed truth
closed_is_constant (constant b) h v = refl
closed_is_constant (atom x) h v = absurd (false≢true h)
closed_is_constant (negation φ) h v = ap not (closed_is_constant φ h v)
closed_is_constant (conjunction φ ψ) h v =
    let (k, l) = (and-eq-true_iff (closed φ) (closed ψ)).0 h in ap₂ ◌&&◌ (closed_is_constant φ k v) (closed_is_constant ψ l v)
closed_is_constant (disjunction φ ψ) h v =
    let (k, l) = (and-eq-true_iff (closed φ) (closed ψ)).0 h in ap₂ ◌||◌ (closed_is_constant φ k v) (closed_is_constant ψ l v)

pos_factors : (a b : ℕ) → 0 < a * b → (0 < a) × (0 < b)
pos_factors zero b h = omega arith
pos_factors (suc a) zero h = omega arith
pos_factors (suc a) (suc b) h = omega arith

module _ (φ : List (List ℕ)) (n : ℕ) (bound : some_of (some_of (leb (2 * n))) φ ≡ false) where
  -- ψ is φ with the values bs for variables 0, 1, .., up to logical equivalence
  abbrev Substituted : List Bool → Proposition → Type 0
  Substituted bs ψ = (v : ℕ → Bool) → truth v ψ ≡ truth (override bs v) (proposition φ)

  -- the claim at a node: its number over the denominator is Pr of what the substitutions on the way to it have left
  abbrev Node : List Quantifier → Type 0
  Node Q =
      (bs : List Bool) (ψ : Proposition) → length bs + length Q ≡ n → 0 < denominator Q → Substituted bs ψ
      → number φ Q (map numeral bs) over denominator Q ≈ Pr (length bs) Q ψ

  -- at a leaf ψ is logically equivalent to the constant that the status of φ gives
  leaf : Node []
  unfolding value denominator_by truth ◌≈◌
  leaf bs ψ fits pos is =
      let full : length bs ≡ n = omega arith in
      rw (Pr_of_constant (length bs) ψ (is_satisfied (formula_status (map numeral bs) φ)) (λ v. is v ∙ formula_truth bs v φ (rw full bound)))
      (omega arith, omega arith, refl)

  child : (Q : List Quantifier) → Node Q → (bs : List Bool) (ψ : Proposition) → length bs + suc (length Q) ≡ n → 0 < denominator Q → Substituted bs ψ
      → (b : Bool) → number φ Q (map numeral bs ++ (numeral b ∷ [])) over denominator Q ≈ Pr (suc (length bs)) Q (ψ ⟦ b / length bs ⟧)
  child Q claim bs ψ fits pos is b =
      simp (length-append, add-one (length bs), map-append numeral bs (b ∷ []))
      at (claim (bs ++ (b ∷ [])) (ψ ⟦ b / length bs ⟧) (simp length-append (omega arith)) pos
      (λ v. truth_substitute v b (length bs) ψ ∙ is (update v (length bs) b) ∙ ap (λ w. truth w (proposition φ)) (fun_ext (override_snoc bs b v))))

  node : (Q : List Quantifier) → Node Q
  unfolding value denominator_by Pr
  node [] bs ψ fits pos is = leaf bs ψ fits pos is
  node (existential ∷ Q) bs ψ fits pos is =
      let below = child Q (node Q) bs ψ fits (omega arith) is in
      rw one-mul (maximum_over _ _ _ _ _ (below true) (below false))
  node (randomized a b ∷ Q) bs ψ fits pos is =
      let (some, rest) = pos_factors (a + b) (denominator Q) pos in
      let below = child Q (node Q) bs ψ fits rest is in
      mean_over a b _ _ _ _ _ some (below true) (below false)

-- every literal's variable has its quantifier, and no randomized quantifier has both weights 0
pub figure_is_Pr : (φ : List (List ℕ)) (Q : List Quantifier) → some_of (out_of_range (length Q)) φ ≡ false → 0 < denominator Q
    → figure φ Q over denominator Q ≈ Pr 0 Q (proposition φ)
unfolding override out_of_range
figure_is_Pr φ Q bound pos = node φ (length Q) bound Q [] (proposition φ) (omega arith) pos (λ v. refl)

-- the paper's example, whose Pr it gives as 0.24
example : Pr 0 (randomized 8 2 ∷ existential ∷ randomized 3 7 ∷ []) (proposition ((0 ∷ 2 ∷ []) ∷ (3 ∷ []) ∷ (2 ∷ 4 ∷ []) ∷ [])) ≈ 24 over 100
unfolding Pr truth ◌⟦◌/◌⟧ proposition clause ◌≈◌ ◌⊗◌ ◌⊕◌ maximum complement
example = (lit< tt, lit< tt, refl)
