-- Under every reading of literals: the laws asked of it; the status of a literal; a longer assignment refines every
-- status; a formula is satisfied exactly where each clause is; an assignment that sets all variables decides. Then
-- document 01's literals. Assumes nothing.
use Prim.Native.Nat.{ℕ, zero, suc, ◌+◌, ◌*◌, ◌%◌, ◌≤◌, ◌<◌}
use native.Mathlib.Omega.{arith}
use native.Mathlib.Decide.{ℕ_discrete}
use mathlib.Core.Path.{◌≡◌, refl, subst}
use mathlib.Core.Logic.{◌↔◌, ◌⊎◌, inl, inr}
use mathlib.Core.Bool.{Bool, true, false, cond}
use mathlib.Core.List.Memᴰ
use mathlib.Core.List.{List, [], ◌∷◌, ◌++◌}
use lib.ListN.{length, get_or, length-append, get_or-append}
use lib.Dec.{ltb, eqb}
use borrow.Author.Tests.{ltb-true, ltb-false, lt-ltb, le-ltb, eqb-true, eq-eqb}
use Rattle.formula.specs.declared.Status.{Status}
use Rattle.formula.specs.declared.Status.TheVariants.{Falsified, Undetermined, Satisfied}
use Rattle.formula.specs.Literals.{Literals, literal_status_by, clause_status_by, formula_status_by}
use Rattle.formula.specs.Formula.{variable, are_opposite, two_valued, literal_status, clause_status, formula_status, some_of, out_of_range}
use Rattle.formula.specs.Nodes.{Every}
use Rattle.formula.specs.LevelRules.{Levels}
use Rattle.formula.specs.Quantifier.{two_sided}
use Rattle.formula.proofs.Membership.{and_iff, none_of, in_range_iff}
use Rattle.formula.proofs.StatusLaws.{Refines, Decided, stays, becomes, either_refines, both_refines, either_decided, both_decided, both_is_satisfied}

-- each test of a reading says its statement, and literals that exclude each other are of one variable
pub record LiteralsLaws (R : Literals) : Type 1 where
  pub false_at_iff : (l x : ℕ) → (R.false_at l x ≡ true) ↔ R.FalseAt l x
  pub some_excluding_iff : (P : ℕ → ℕ → Type 0) → R.SomeExcluding P ↔ ((l : ℕ) × (k : ℕ) × (R.excludes l k ≡ true) × P l k)
  pub one_variable : (l k : ℕ) → R.excludes l k ≡ true → R.variable l ≡ R.variable k

-- each value that a variable has makes one of two literals false that exclude each other
abbrev pub Exclusive : {Q : Type 0} → Literals → Levels Q → Type 0
Exclusive {Q} R L = (l k : ℕ) → R.excludes l k ≡ true → (q : Q) (x : ℕ) → x < L.size q → R.FalseAt l x ⊎ R.FalseAt k x

-- what the laws of the tree ask of a node's status
abbrev pub OnlyRefinesBy : {Q : Type 0} → Levels Q → (List ℕ → Status) → Type 0
OnlyRefinesBy {Q} L status = (q : Q) (p : List ℕ) (x : ℕ) → x < L.size q → Refines (status p) (status (p ++ (x ∷ [])))

pub set_decided : (b : Bool) → Decided (cond b Falsified Satisfied)
set_decided true = refl
set_decided false = refl

module _ (R : Literals) where
  -- every literal is of one of the first n variables
  abbrev pub VariablesUnder : ℕ → List (List ℕ) → Type 0
  VariablesUnder n = Every (Every (λ l. R.variable l < n))

  pub literal_set_by : (p : List ℕ) (l : ℕ) → R.variable l < length p
      → literal_status_by R p l ≡ cond (R.false_at l (get_or p (R.variable l) 0)) Falsified Satisfied
  unfolding literal_status_by
  literal_set_by p l h = rw (lt-ltb (R.variable l) (length p) h)

  pub literal_unset_by : (p : List ℕ) (l : ℕ) → length p ≤ R.variable l → literal_status_by R p l ≡ Undetermined
  unfolding literal_status_by
  literal_unset_by p l h = rw (le-ltb (R.variable l) (length p) h)

  pub literal_stays_by : (p r : List ℕ) (l : ℕ) → R.variable l < length p → literal_status_by R (p ++ r) l ≡ literal_status_by R p l
  literal_stays_by p r l h =
      let h' : R.variable l < length (p ++ r) = rw length-append (omega arith) in
      rw (literal_set_by p l, literal_set_by (p ++ r) l, get_or-append)

  pub literal_refines_by : (p r : List ℕ) (l : ℕ) → Refines (literal_status_by R p l) (literal_status_by R (p ++ r) l)
  literal_refines_by p r l = go (ltb (R.variable l) (length p)) refl
    where
      go : (set : Bool) → ltb (R.variable l) (length p) ≡ set → Refines (literal_status_by R p l) (literal_status_by R (p ++ r) l)
      go true e = rw (literal_stays_by p r l (ltb-true (R.variable l) (length p) e)) stays
      go false e = rw (literal_unset_by p l (ltb-false (R.variable l) (length p) e)) becomes

  pub clause_refines_by : (p r : List ℕ) (c : List ℕ) → Refines (clause_status_by R p c) (clause_status_by R (p ++ r) c)
  unfolding clause_status_by
  clause_refines_by p r [] = stays
  clause_refines_by p r (l ∷ ls) = either_refines (literal_refines_by p r l) (clause_refines_by p r ls)

  pub formula_refines_by : (p r : List ℕ) (φ : List (List ℕ)) → Refines (formula_status_by R p φ) (formula_status_by R (p ++ r) φ)
  unfolding formula_status_by
  formula_refines_by p r [] = stays
  formula_refines_by p r (c ∷ cs) = both_refines (clause_refines_by p r c) (formula_refines_by p r cs)

  pub formula_only_refines_by : {Q : Type 0} (L : Levels Q) (φ : List (List ℕ)) → OnlyRefinesBy L (λ p. formula_status_by R p φ)
  formula_only_refines_by L φ q p x _ = formula_refines_by p (x ∷ []) φ

  -- a formula is satisfied exactly where each clause is
  pub each_satisfied_by : (p : List ℕ) (φ : List (List ℕ)) → formula_status_by R p φ ≡ Satisfied
      → (k : ℕ) → k < length φ → clause_status_by R p (get_or φ k []) ≡ Satisfied
  unfolding formula_status_by
  each_satisfied_by p [] e k h = absurd (omega arith)
  each_satisfied_by p (c ∷ φ) e zero h = ((both_is_satisfied (clause_status_by R p c) (formula_status_by R p φ)).0 e).0
  each_satisfied_by p (c ∷ φ) e (suc k) h =
      each_satisfied_by p φ ((both_is_satisfied (clause_status_by R p c) (formula_status_by R p φ)).0 e).1 k (omega arith)

  pub satisfied_by_each_by : (p : List ℕ) (φ : List (List ℕ))
      → ((k : ℕ) → k < length φ → clause_status_by R p (get_or φ k []) ≡ Satisfied) → formula_status_by R p φ ≡ Satisfied
  unfolding formula_status_by
  satisfied_by_each_by p [] each = refl
  satisfied_by_each_by p (c ∷ φ) each =
      (both_is_satisfied (clause_status_by R p c) (formula_status_by R p φ)).1
      (each 0 (omega arith), satisfied_by_each_by p φ (λ k h. each (suc k) (omega arith)))

  clause_decided : (n : ℕ) (p : List ℕ) → n ≤ length p → (c : List ℕ) → Every (λ l. R.variable l < n) c → Decided (clause_status_by R p c)
  unfolding clause_status_by
  clause_decided n p h [] within = refl
  clause_decided n p h (l ∷ ls) within =
      let set : R.variable l < length p = omega (arith, within l (Memᴰ.head refl)) in
      either_decided (literal_status_by R p l) (clause_status_by R p ls)
      (rw (literal_set_by p l set) (set_decided (R.false_at l (get_or p (R.variable l) 0))))
      (clause_decided n p h ls (λ k m. within k (Memᴰ.tail m)))

  pub formula_decided_by : (n : ℕ) (p : List ℕ) → n ≤ length p → (φ : List (List ℕ)) → VariablesUnder n φ → Decided (formula_status_by R p φ)
  unfolding formula_status_by
  formula_decided_by n p h [] within = refl
  formula_decided_by n p h (c ∷ cs) within =
      both_decided (clause_status_by R p c) (formula_status_by R p cs)
      (clause_decided n p h c (within c (Memᴰ.head refl))) (formula_decided_by n p h cs (λ d m. within d (Memᴰ.tail m)))

-- Document 01's literals

opposites : (l k : ℕ) → are_opposite l k ≡ true → (l % 2 ≡ 0) × (k ≡ l + 1)
unfolding are_opposite
opposites l k e = let (even, next) = (and_iff (eqb (l % 2) 0) (eqb k (l + 1))).0 e in (eqb-true (l % 2) 0 even, eqb-true k (l + 1) next)

pub two_valued_laws : LiteralsLaws two_valued
unfolding are_opposite
two_valued_laws = record {
  false_at_iff = λ l x. (eqb-true x (l % 2), eq-eqb x (l % 2));
  some_excluding_iff = λ P. (pair P, λ h. let (l, k, e, r) = h in unpair P l k (opposites l k e).0 (opposites l k e).1 r);
  one_variable = λ l k e. let (even, next) = opposites l k e in omega arith;
}
  where
    pair : (P : ℕ → ℕ → Type 0) → (v : ℕ) × P (2 * v) (2 * v + 1) → (l : ℕ) × (k : ℕ) × (are_opposite l k ≡ true) × P l k
    pair P (v, h) = (2 * v, 2 * v + 1, rw (eq-eqb (2 * v % 2) 0 (omega arith)) (eq-eqb (2 * v + 1) (2 * v + 1) refl), h)

    unpair : (P : ℕ → ℕ → Type 0) (l k : ℕ) → l % 2 ≡ 0 → k ≡ l + 1 → P l k → (v : ℕ) × P (2 * v) (2 * v + 1)
    unpair P l k even next h =
        let here : l ≡ 2 * variable l = omega arith in
        let there : k ≡ 2 * variable l + 1 = omega arith in
        (variable l, subst (P (2 * variable l)) there (subst (λ j. P j k) here h))

pub two_valued_exclusive : Exclusive two_valued two_sided
two_valued_exclusive l k e q x h = go (ℕ_discrete x 0)
  where
    go : Dec (x ≡ 0) → (x ≡ l % 2) ⊎ (x ≡ k % 2)
    go (yes z) = let (even, next) = opposites l k e in inl (omega arith)
    go (no n) = let (even, next) = opposites l k e in inr (omega arith)

-- the status of a literal whose variable has the value v, given the literal's sign
abbrev pub set_status : ℕ → ℕ → Status
set_status v sign = cond (eqb v sign) Falsified Satisfied

pub literal_set : (p : List ℕ) (l : ℕ) → variable l < length p → literal_status p l ≡ set_status (get_or p (variable l) 0) (l % 2)
literal_set = literal_set_by two_valued

pub literal_unset : (p : List ℕ) (l : ℕ) → length p ≤ variable l → literal_status p l ≡ Undetermined
literal_unset = literal_unset_by two_valued

pub literal_stays : (p r : List ℕ) (l : ℕ) → variable l < length p → literal_status (p ++ r) l ≡ literal_status p l
literal_stays = literal_stays_by two_valued

pub literal_refines : (p r : List ℕ) (l : ℕ) → Refines (literal_status p l) (literal_status (p ++ r) l)
literal_refines = literal_refines_by two_valued

pub clause_refines : (p r : List ℕ) (c : List ℕ) → Refines (clause_status p c) (clause_status (p ++ r) c)
clause_refines = clause_refines_by two_valued

pub formula_refines : (p r : List ℕ) (φ : List (List ℕ)) → Refines (formula_status p φ) (formula_status (p ++ r) φ)
formula_refines = formula_refines_by two_valued

pub each_satisfied : (p : List ℕ) (φ : List (List ℕ)) → formula_status p φ ≡ Satisfied → (k : ℕ) → k < length φ → clause_status p (get_or φ k []) ≡ Satisfied
each_satisfied = each_satisfied_by two_valued

pub satisfied_by_each : (p : List ℕ) (φ : List (List ℕ)) → ((k : ℕ) → k < length φ → clause_status p (get_or φ k []) ≡ Satisfied) → formula_status p φ ≡ Satisfied
satisfied_by_each = satisfied_by_each_by two_valued

abbrev pub OnlyRefines : (List ℕ → Status) → Type 0
OnlyRefines = OnlyRefinesBy two_sided

pub formula_only_refines : (φ : List (List ℕ)) → OnlyRefines (λ p. formula_status p φ)
formula_only_refines = formula_only_refines_by two_valued two_sided

-- every literal is below 2n: its variable is one of the first n
abbrev pub InRange : ℕ → List (List ℕ) → Type 0
InRange n φ = some_of (out_of_range n) φ ≡ false

pub in_range_under : (n : ℕ) (φ : List (List ℕ)) → InRange n φ → VariablesUnder two_valued n φ
in_range_under n φ h c m l i = omega (arith, (in_range_iff n c).0 (none_of (out_of_range n) h m) l i)

pub formula_decided : (n : ℕ) (p : List ℕ) → n ≤ length p → (φ : List (List ℕ)) → InRange n φ → Decided (formula_status p φ)
formula_decided n p h φ e = formula_decided_by two_valued n p h φ (in_range_under n φ e)
