-- The premise of R.2 as document 01 states it, a test of the clauses, is the one that 004 states, over assignments. The
-- test gives 004's by opposed_satisfied. For the converse, an assignment falsifies the line c and, where it can, a
-- clause d of the formula: a literal of d that is true under it has its opposite in c. Assumes that c is in range, and
-- that neither c nor a clause of the formula is a tautology.
use Prim.Native.Nat.{ℕ, zero, suc, ◌%◌, ◌<◌}
use native.Mathlib.Omega.{arith}
use mathlib.Core.Path.{◌≡◌, refl, sym, ap, ◌∙◌}
use mathlib.Core.Logic.{◌↔◌, ◌≢◌, ⊎_elim}
use mathlib.Core.Bool.{Bool, true, false, cond}
use mathlib.Core.List.Memᴰ
use mathlib.Core.List.{List, [], ◌∷◌, ◌++◌, append-nil}
use lib.ListN.{length, get_or}
use borrow.Author.Tests.{eqb-true, eq-eqb}
use Rattle.formula.specs.declared.Status.TheVariants.{Falsified}
use Rattle.formula.specs.Formula.{variable, opposite, is_of, clause_status, out_of_range, ◌∈◌}
use Rattle.formula.specs.Nodes.{TrueLiteral, FalseLiteral, Every}
use Rattle.formula.proofs.NodesLaws.{clause_is_falsified, satisfied_iff_met}
use Rattle.formula.proofs.Membership.{all_of_iff, some_of_iff, in_range_iff, member_iff}
use Rattle.formula.proofs.OrderLaws.{opposite_is, one_of_each_iff}
use Rattle.resolution.specs.Resolution.{NonTautological, is_blocking}
use Rattle.resolution.specs.Claims.{Implied}
use Rattle.resolution.proofs.Soundness.{opposed_satisfied}

-- the assignment of f 0, f 1, .. to the first n variables
abbrev assign : ℕ → (ℕ → ℕ) → List ℕ
assign zero f = []
assign (suc n) f = f 0 ∷ assign n (λ v. f (suc v))

length_assign : (n : ℕ) (f : ℕ → ℕ) → length (assign n f) ≡ n
length_assign zero f = refl
length_assign (suc n) f = ap suc (length_assign n (λ v. f (suc v)))

assign_at : (n : ℕ) (f : ℕ → ℕ) (v : ℕ) → v < n → get_or (assign n f) v 0 ≡ f v
assign_at zero f v h = absurd (omega arith)
assign_at (suc n) f zero h = refl
assign_at (suc n) f (suc v) h = assign_at n (λ w. f (suc w)) v (omega arith)

assign_every : (P : ℕ → Type 0) (n : ℕ) (f : ℕ → ℕ) → ((v : ℕ) → P (f v)) → Every P (assign n f)
assign_every P zero f h x m = absurd (Memᴰ.not-nil m)
assign_every P (suc n) f h x (Memᴰ.head e) = rw e (h 0)
assign_every P (suc n) f h x (Memᴰ.tail m) = assign_every P n (λ v. f (suc v)) (λ v. h (suc v)) x m

-- the value that falsifies the first literal of v in c
unfoldable falsifying : List ℕ → ℕ → ℕ
falsifying [] v = 0
falsifying (l ∷ c) v = cond (is_of v l) (l % 2) (falsifying c v)

falsifying_value : (c : List ℕ) (v : ℕ) → falsifying c v < 2
unfolding falsifying
falsifying_value [] v = omega arith
falsifying_value (l ∷ c) v = go (is_of v l) (falsifying_value c v)
  where
    go : (b : Bool) → falsifying c v < 2 → cond b (l % 2) (falsifying c v) < 2
    go true h = omega arith
    go false h = h

-- where c has a literal of l's variable, the first such literal k is the one falsified
abbrev First : List ℕ → List ℕ → ℕ → Type 0
First c d l = (k : ℕ) × (k ∈ c) × (variable k ≡ variable l) × (falsifying (c ++ d) (variable l) ≡ k % 2)

first_of : (d : List ℕ) {l : ℕ} {c : List ℕ} → l ∈ c → First c d l
unfolding falsifying
first_of d {l} (Memᴰ.head {x = k} {xs = c} e) =
    let same : variable k ≡ variable l = ap variable (sym e) in (k, Memᴰ.head refl, same, rw (eq-eqb (variable l) (variable k) (sym same)))
first_of d {l} (Memᴰ.tail {x = k} {xs = c} m) = go (is_of (variable l) k) refl (first_of d m)
  where
    go : (b : Bool) → is_of (variable l) k ≡ b → First c d l
        → (j : ℕ) × (j ∈ k ∷ c) × (variable j ≡ variable l) × (cond b (k % 2) (falsifying (c ++ d) (variable l)) ≡ j % 2)
    go true e h = (k, Memᴰ.head refl, sym (eqb-true (variable l) (variable k) e), refl)
    go false e (j, m, same, is) = (j, Memᴰ.tail m, same, is)

-- two literals of one variable in a clause have the same sign
same_sign : {c : List ℕ} → NonTautological c → {l k : ℕ} → l ∈ c → k ∈ c → variable k ≡ variable l → k % 2 ≡ l % 2
same_sign {c} non_taut {l} {k} m n same = ap (◌% 2) ((one_of_each_iff c).1 non_taut k l n m same)

module _ (n : ℕ) (φ : List (List ℕ)) (c : List ℕ) (in_range : out_of_range n c ≡ false)
    (non_taut : NonTautological c) (φ-non-taut : Every NonTautological φ) where
  -- falsifies c, and of d each literal that has no opposite in c
  abbrev witness : List ℕ → List ℕ
  witness d = assign n (falsifying (c ++ d))

  line_falsified : (d : List ℕ) → clause_status (witness d) c ≡ Falsified
  line_falsified d = (clause_is_falsified (witness d) c).1 (λ l m. go l m (first_of d m))
    where
      go : (l : ℕ) → l ∈ c → First c d l → FalseLiteral (witness d) l
      go l m (k, of, same, is) =
          let h : variable l < n = omega (arith, (in_range_iff n c).0 in_range l m) in
          (rw length_assign h, assign_at n (falsifying (c ++ d)) (variable l) h ∙ is ∙ same_sign non_taut m of same)

  -- a literal l of d that is true under the witness is the opposite of the literal that is falsified for its variable
  implied_opposed : Implied n φ c → (d : List ℕ) → d ∈ φ → (k : ℕ) × (k ∈ c) × (opposite k ∈ d)
  implied_opposed implied d m =
      let f : ℕ → ℕ = falsifying (c ++ d) in
      let truth_values : Every (λ x. x < 2) (witness d) = assign_every (λ x. x < 2) n f (falsifying_value (c ++ d)) in
      let satisfied = implied (witness d) (length_assign n f) truth_values (line_falsified d) in
      let (l, in_d, is_true) = (satisfied_iff_met (witness d) φ).0 satisfied d m in
      go l in_d is_true (first_of [] (Memᴰ.append_right c in_d))
    where
      go : (l : ℕ) → l ∈ d → TrueLiteral (witness d) l → First (c ++ d) [] l → (k : ℕ) × (k ∈ c) × (opposite k ∈ d)
      go l in_d (set, is_true) (k, of, same, is) =
          let value = assign_at n (falsifying (c ++ d)) (variable l) (rw length_assign at set) in
          let differs : k % 2 ≢ l % 2 = λ e. is_true (value ∙ rw append-nil at is ∙ e) in
          ⊎_elim
          (λ in_c. (k, in_c, Memᴰ.cast (omega (arith, opposite_is k)) in_d))
          (λ k_in_d. absurd (differs (same_sign (φ-non-taut d m) in_d k_in_d same)))
          (Memᴰ.append_cases c of)

  -- refusals 23 and 16 give what is assumed (ordered_non_tautological). The literals of φ may be of any variables
  pub blocking_iff_implied : (is_blocking φ c ≡ true) ↔ Implied n φ c
  blocking_iff_implied = simp (all_of_iff, member_iff, some_of_iff) (λ opposed p _ _ f. opposed_satisfied φ c p opposed f, implied_opposed)
