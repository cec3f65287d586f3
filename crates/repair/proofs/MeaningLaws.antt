-- What the repaired formula means: it is satisfied where the formula is, and has its figure. Assumes nothing.
use Prim.Native.Nat.{ℕ, ◌%◌, ◌≤◌}
use native.Mathlib.Decide.{ℕ_discrete}
use native.Mathlib.Omega.{arith}
use mathlib.Core.Path.{◌≡◌, refl, ap}
use mathlib.Core.Logic.{◌↔◌}
use mathlib.Core.Bool.{Bool, true, false, cond}
use mathlib.Core.List.Memᴰ
use mathlib.Core.List.{List, []}
use lib.ListN.{length, get_or}
use Rattle.formula.specs.Status.{is_satisfied}
use Rattle.formula.specs.Formula.{variable, opposite, formula_status, some_of, ◌∈◌, out_of_range, rising}
use Rattle.formula.specs.Nodes.{TrueLiteral, Some, Met}
use Rattle.formula.specs.Quantifier.{Quantifier, quantify}
use Rattle.formula.specs.Tree.{satisfies, figure}
use Rattle.formula.proofs.SomeLaws.{same_truth}
use Rattle.formula.proofs.Membership.{none_of, in_range_iff}
use Rattle.formula.proofs.OrderLaws.{opposite_is, rising_in}
use Rattle.formula.proofs.StatusLaws.{is_satisfied_true}
use Rattle.formula.proofs.NodesLaws.{satisfied_iff_met}
use Rattle.formula.proofs.TreeLaws.{value_same}
use Rattle.repair.specs.Clauses.{tautological, kept, repaired}
use Rattle.repair.proofs.ListLaws.{tautological_iff, kept_in, kept_rising}

-- an assignment that sets the variables of a tautological clause makes one of its literals true
tautological_satisfied : (n : ℕ) (p : List ℕ) → n ≤ length p → (c : List ℕ) → out_of_range n c ≡ false → tautological c ≡ true → Some (TrueLiteral p) c
tautological_satisfied n p h c in_range is =
    let (l, m, m') = (tautological_iff c).0 is in
    go l m m' (ℕ_discrete (get_or p (variable l) 0) (l % 2))
  where
    go : (l : ℕ) → l ∈ c → opposite l ∈ c → Dec (get_or p (variable l) 0 ≡ l % 2) → Some (TrueLiteral p) c
    go l m m' (no other) = (l, m, (omega (arith, (in_range_iff n c).0 in_range l m), other))
    go l m m' (yes false_here) =
        let (same, other) = opposite_is l in
        (opposite l, m', rw same (omega (arith, (in_range_iff n c).0 in_range l m), λ e. omega arith))

module _ (n : ℕ) (p : List ℕ) (h : n ≤ length p) (φ : List (List ℕ)) (in_range : some_of (out_of_range n) φ ≡ false) where
  pub repaired_satisfied : Met p (repaired φ) ↔ Met p φ
  repaired_satisfied = (λ satisfied c m. back satisfied c m (tautological c) refl, there)
    where
      back : Met p (repaired φ) → (c : List ℕ) → c ∈ φ → (t : Bool) → tautological c ≡ t → Some (TrueLiteral p) c
      back satisfied c m true e = tautological_satisfied n p h c (none_of (out_of_range n) in_range m) e
      back satisfied c m false e =
          let (l, i, is) = satisfied (rising c) (kept_rising φ c m e) in (l, (rising_in l c).0 i, is)

      there : Met p φ → Met p (repaired φ)
      there satisfied d m =
          let (c, k, e) = Memᴰ.of_map rising (kept φ) m in
          let (l, i, is) = satisfied c (kept_in φ c k).0 in (l, rw e at ((rising_in l c).1 i), is)

  -- and so a leaf of the one tree satisfies where that of the other does
  repaired_satisfies : satisfies (repaired φ) p ≡ satisfies φ p
  repaired_satisfies =
      let same : is_satisfied (formula_status p (repaired φ)) ≡ is_satisfied (formula_status p φ) = same_truth (
        λ e. rw ((satisfied_iff_met p φ).1 (repaired_satisfied.0 ((satisfied_iff_met p (repaired φ)).0 (is_satisfied_true _ e)))),
        λ e. rw ((satisfied_iff_met p (repaired φ)).1 (repaired_satisfied.1 ((satisfied_iff_met p φ).0 (is_satisfied_true _ e)))),
      ) in
      ap (λ t. cond t 1 0) same

pub repaired_figure : (φ : List (List ℕ)) (qs : List Quantifier) → some_of (out_of_range (length qs)) φ ≡ false → figure (repaired φ) qs ≡ figure φ qs
repaired_figure φ qs e =
    value_same quantify (satisfies (repaired φ)) (satisfies φ) (length qs) (λ p h. repaired_satisfies (length qs) p h φ e) qs [] (omega arith)
