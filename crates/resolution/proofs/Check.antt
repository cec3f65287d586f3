-- The check refuses no line exactly where every line follows by the rules, and closes exactly on an empty clause.
-- Assumes nothing.
use Prim.Native.Nat.{ℕ, zero, suc, ◌+◌, ◌*◌, ◌/◌, ◌%◌, ◌≤◌, ◌<◌, suc-le-suc}
use native.Mathlib.Nat.{add-zero, add-suc, suc-add, zero-add, not-suc-le-zero, le_of_suc-le-suc, zero-lt-suc, le_of_eq}
use native.Mathlib.Omega.{arith}
use mathlib.Core.Path.{◌≡◌, sym, refl, ap, subst₂}
use mathlib.Core.Logic.{◌↔◌}
use mathlib.Core.Bool.{Bool, true, false, cond}
use mathlib.Core.List.{List, [], ◌∷◌}
use Rattle.std.specs.Prelude.{Option, None, Some}
use Rattle.std.proofs.lemmas.Option.{none-some}
use lib.ListN.{length, drop_of_length-le}
use lib.Dec.{eqb, ltb, leb}
use borrow.Author.Tests.{eqb-true, eqb-false, eq-eqb, ltb-true, lt-ltb, leb-true, le-leb}
use Rattle.formula.specs.Quantifier.{Quantifier}
use Rattle.formula.proofs.OrderLaws.{equal_iff}
use Rattle.formula.proofs.Membership.{and_iff, all_of_iff, some_of_iff, member_iff}
use Rattle.resolution.specs.declared.Fault.{Fault}
use Rattle.resolution.specs.declared.Fault.TheVariants as fault
use Rattle.resolution.specs.Resolution.{Annotated, Blocking, Resolves, Resolvent, Line, blocking, resolvent, derived, original_clause, line_at, Names, clause, line, Follows, by_R2, by_R3, is_resolvent, some_if, lookup, require, judge_resolvent, judge, first_fault, judge_from, judge_lines, empty_value, closing_value}

require_iff : (b : Bool) (f : Fault) (rest : Option Fault) → (require b f rest ≡ None) ↔ ((b ≡ true) × (rest ≡ None))
unfolding require
require_iff true f rest = (λ e. (refl, e), λ h. h.1)
require_iff false f rest = (λ e. (cc, cc), λ h. cc)

ltb_iff : (a b : ℕ) → (ltb a b ≡ true) ↔ a < b
ltb_iff a b = (ltb-true a b, lt-ltb a b)

leb_iff : (a b : ℕ) → (leb a b ≡ true) ↔ a ≤ b
leb_iff a b = (leb-true a b, le-leb a b)

eqb_iff : (a b : ℕ) → (eqb a b ≡ true) ↔ (a ≡ b)
eqb_iff a b = (eqb-true a b, eq-eqb a b)

some_if_is : {A : Type 0} (b : Bool) (x y : A) → some_if b x ≡ Some y → (b ≡ true) × (x ≡ y)
some_if_is true x y e = (refl, cc)
some_if_is false x y e = (cc, cc)

module _ (φ : List (List ℕ)) (lines : List Line) (k : ℕ) where
  pub lookup_names : (r : ℕ) (c : Annotated) → lookup φ lines k r ≡ Some c → Names φ lines k r c
  unfolding lookup
  lookup_names r c = go (eqb (r % 2) 0) refl
    where
      go : (even : Bool) → eqb (r % 2) 0 ≡ even
          → cond even (some_if (ltb (r / 2) (length φ)) (original_clause φ (r / 2))) (some_if (ltb (r / 2) k) (derived (line_at lines (r / 2)))) ≡ Some c
          → Names φ lines k r c
      go true h e =
          let (below, is) = some_if_is (ltb (r / 2) (length φ)) (original_clause φ (r / 2)) c e in
          let twice : 2 * (r / 2) ≡ r = omega (arith, eqb-true (r % 2) 0 h) in
          subst₂ (Names φ lines k) twice is (clause (r / 2) (ltb-true (r / 2) (length φ) below))
      go false h e =
          let (below, is) = some_if_is (ltb (r / 2) k) (derived (line_at lines (r / 2))) c e in
          let twice : 2 * (r / 2) + 1 ≡ r = omega (arith, eqb-false (r % 2) 0 h) in
          subst₂ (Names φ lines k) twice is (line (r / 2) (ltb-true (r / 2) k below))

  names_lookup : {r : ℕ} {c : Annotated} → Names φ lines k r c → lookup φ lines k r ≡ Some c
  unfolding lookup
  names_lookup (clause i h) =
      let (e, d) : (2 * i % 2 ≡ 0) × (2 * i / 2 ≡ i) = omega arith in rw (e, d, lt-ltb i (length φ) h)
  names_lookup (line i h) =
      let (e, d) : ((2 * i + 1) % 2 ≡ 1) × ((2 * i + 1) / 2 ≡ i) = omega arith in rw (e, d, lt-ltb i k h)

-- the tests, as statements
ruleset reflected = (require_iff, and_iff, all_of_iff, member_iff, some_of_iff, ltb_iff, leb_iff, eqb_iff, equal_iff)

pub resolves_iff : (v : ℕ) (s t c : List ℕ) → (is_resolvent v s t c ≡ true) ↔ Resolves v s t c
unfolding is_resolvent
resolves_iff v s t c =
    simp
    reflected (
      λ ((((in_true, in_false), last_true), last_false), others).
          record { true_side = in_true; false_side = in_false; true_last = last_true; false_last = last_false; others = others },
      λ r. ((((r.true_side, r.false_side), r.true_last), r.false_last), r.others),
    )

resolvent_iff : (qs : List Quantifier) (v : ℕ) (s t c : Annotated) → (judge_resolvent qs v (Some s) (Some t) c ≡ None) ↔ Resolvent qs v s t c
unfolding judge_resolvent
resolvent_iff qs v s t c =
    simp
    (reflected, resolves_iff) (
      λ (bound, (resolves, (equal, _))). record { quantified = bound; resolves = resolves; valued = equal },
      λ r. (r.quantified, (r.resolves, (r.valued, refl))),
    )

module _ (φ : List (List ℕ)) (qs : List Quantifier) (lines : List Line) (k : ℕ) where
  blocking_iff : (c : Annotated) → (judge φ qs lines k (blocking c) ≡ None) ↔ Blocking φ qs c
  unfolding judge
  blocking_iff c =
      simp reflected (λ (opposed, (equal, _)). record { opposed = opposed; valued = equal }, λ b. (b.opposed, (b.valued, refl)))

  judge_follows : (l : Line) → judge φ qs lines k l ≡ None → Follows φ qs lines k l
  unfolding judge judge_resolvent
  judge_follows (blocking c) e = by_R2 ((blocking_iff c).0 e)
  judge_follows (resolvent c v r u) e = go (lookup φ lines k r) (lookup φ lines k u) refl refl e
    where
      go : (s t : Option Annotated) → lookup φ lines k r ≡ s → lookup φ lines k u ≡ t → judge_resolvent qs v s t c ≡ None
          → Follows φ qs lines k (resolvent c v r u)
      go None t p q e = absurd (none-some fault.MissingParent (sym e))
      go (Some s) None p q e = absurd (none-some fault.MissingParent (sym e))
      go (Some s) (Some t) p q e = by_R3 (lookup_names φ lines k r s p) (lookup_names φ lines k u t q) ((resolvent_iff qs v s t c).0 e)

  follows_judge : {l : Line} → Follows φ qs lines k l → judge φ qs lines k l ≡ None
  unfolding judge
  follows_judge (by_R2 {c = c} b) = (blocking_iff c).1 b
  follows_judge (by_R3 {s = s} {t = t} {c = c} {v = v} p q x) =
      rw (names_lookup φ lines k p, names_lookup φ lines k q) ((resolvent_iff qs v s t c).1 x)

  pub judge_iff : (l : Line) → (judge φ qs lines k l ≡ None) ↔ Follows φ qs lines k l
  judge_iff l = (judge_follows l, follows_judge)

first_iff : (o : Option Fault) (k : ℕ) (rest : Option (Fault × ℕ)) → (first_fault o k rest ≡ None) ↔ ((o ≡ None) × (rest ≡ None))
unfolding first_fault
first_iff None k rest = (λ e. (refl, e), λ h. h.1)
first_iff (Some f) k rest = (λ e. (cc, cc), λ h. cc)

module _ (φ : List (List ℕ)) (qs : List Quantifier) (lines : List Line) where
  from_follow : (k : ℕ) (rest : List Line) → judge_from φ qs lines k rest ≡ None
      → (i : ℕ) → i < length rest → Follows φ qs lines (k + i) (line_at rest i)
  unfolding judge_from
  from_follow k [] e i h = absurd (not-suc-le-zero h)
  from_follow k (l ∷ rest) e zero h = rw add-zero ((judge_iff φ qs lines k l).0 ((first_iff _ _ _).0 e).0)
  from_follow k (l ∷ rest) e (suc i) h =
      rw (add-suc, ← suc-add) (from_follow (suc k) rest ((first_iff _ _ _).0 e).1 i (le_of_suc-le-suc h))

  follow_from : (k : ℕ) (rest : List Line) → ((i : ℕ) → i < length rest → Follows φ qs lines (k + i) (line_at rest i))
      → judge_from φ qs lines k rest ≡ None
  unfolding judge_from
  follow_from k [] h = refl
  follow_from k (l ∷ rest) h =
      (first_iff _ _ _).1 (
        (judge_iff φ qs lines k l).1 (rw add-zero at (h 0 (zero-lt-suc (length rest)))),
        follow_from (suc k) rest (λ i b. rw (suc-add, ← add-suc) (h (suc i) (suc-le-suc b))),
      )

  pub judge_lines_iff : (judge_lines φ qs lines ≡ None) ↔ ((k : ℕ) → k < length lines → Follows φ qs lines k (line_at lines k))
  judge_lines_iff = (λ e k h. rw zero-add at (from_follow 0 lines e k h), λ h. follow_from 0 lines (λ k b. rw zero-add (h k b)))

named_empty : (o : Option Annotated) (x : ℕ) → empty_value o ≡ Some x → o ≡ Some (record { literals = []; value = x })
unfolding empty_value
named_empty None x e = absurd (none-some x e)
named_empty (Some c) x e =
    let (empty, is) = some_if_is (eqb (length c.literals) 0) c.value x e in
    let nil : c.literals ≡ [] = drop_of_length-le c.literals (le_of_eq (eqb-true (length c.literals) 0 empty)) in
    ap Some (λ i. record { literals = nil i; value = is i })

pub closing_iff : (φ : List (List ℕ)) (lines : List Line) (r x : ℕ)
    → (closing_value φ lines r ≡ Some x) ↔ Names φ lines (length lines) r (record { literals = []; value = x })
unfolding empty_value
closing_iff φ lines r x = (
  λ e. lookup_names φ lines (length lines) r _ (named_empty (lookup φ lines (length lines) r) x e),
  λ n. ap empty_value (names_lookup φ lines (length lines) n),
)
