-- Clauses as sets of literals. In order: the level of a set, by its length in digits; the other literals of two
-- parents, as the union's digits under 2v; and R.3's test of three sets. Not here: R.2's test (BlockingLaws),
-- membership and masks (bit_set's BitSetLaws). Assumes nothing.
use mathlib.Core.Path.{◌≡◌, refl, sym, ◌∙◌}
use mathlib.Core.Logic.{◌↔◌, ◌≢◌, ⊎_elim, ⊎_map}
use mathlib.Core.Bool.{Bool, true, false, false≢true}
use mathlib.Core.List.Memᴰ
use mathlib.Core.List.{List}
use Prim.Native.Nat.{ℕ, zero, suc, ◌+◌, ◌-◌, ◌*◌, ◌/◌, ◌%◌, ◌^◌, ◌≤◌, ◌<◌}
use native.Mathlib.Nat.{add-zero, pow-suc, lt_of_not-le}
use native.Mathlib.Decide.{ℕ_discrete, dec_lt}
use native.Mathlib.Omega.{arith}
use lib.Pow.{pow_pos}
use lib.Bits.{bit_and, bit_or, and_le_l, or_lt}
use lib.Count.{count_leading_zeros, leading_length}
use lib.Dec.{eqb}
use borrow.Author.Tests.{eqb-true, eq-eqb, ne_eqb}
use Rattle.formula.specs.Formula.{variable, member, unordered, rising, ◌∈◌}
use Rattle.formula.proofs.SomeLaws.{same_truth, some_of_append}
use Rattle.formula.proofs.OrderLaws.{ordered_ascends, ordered_one_of_each, rising_member, rising_ascends}
use Rattle.formula.proofs.Membership.{member_iff, not_member_iff}
use Rattle.bit_set.specs.BitSet.{has, mask}
use Rattle.bit_set.proofs.BitSetLaws.{has_mask, has_iff, same_mask_iff, mask_small, shifted_one}
use Rattle.bit_set.proofs.DigitLaws.{same_digits, shifted_single}
use Rattle.bit_set.proofs.PartLaws.{has_union, has_within, has_highest, has_part, has_past}
use Rattle.resolution.specs.Resolution.{level, remainder, Resolves, is_resolvent}
use Rattle.resolution.proofs.Levels.{level_above, level_least}
use Rattle.resolution.proofs.Others.{remainder_iff}
use Rattle.resolution.proofs.Check.{resolves_iff}

-- The level of a set, by its length in digits

level_by_length : (x : List ℕ) (m : ℕ) → mask x < 2 ^ m → 2 ^ m ≤ 2 * mask x + 1 → (m + 1) / 2 ≡ level x
level_by_length x zero h k = omega (arith, level_least 0 x (λ l i. absurd (omega (arith, has_within (mask x) 0 l h ((has_iff l x).1 i)))))
level_by_length x (suc j) h k =
    let highest : j ∈ x = (has_iff j x).0 (has_highest (mask x) j (omega (arith, pow-suc 2 j)) h) in
    omega (arith, level_above highest, level_least ((suc j + 1) / 2) x (λ l i. omega (arith, has_within (mask x) (suc j) l h ((has_iff l x).1 i))))

pub level_is : (s : ℕ) → s < 2 ^ 64 → (x : List ℕ) → s ≡ mask x → (65 - count_leading_zeros 64 s) / 2 ≡ level x
level_is s h x is =
    let (m, sum, below, above) = leading_length 64 s h in
    let e : (65 - count_leading_zeros 64 s) / 2 ≡ (m + 1) / 2 = omega arith in
    e ∙ level_by_length x m (omega arith) (omega arith)

-- The other literals of two parents

-- s and t have, of the variables from v on, only a literal of v each, so their union has the other literals under 2v
has_joined :
    (v a : ℕ) (s t : List ℕ) → a + 1 ≡ 2 ^ (2 * v) → ((l : ℕ) → l ∈ s → l ≢ 2 * v + 1 → l < 2 * v) → ((l : ℕ) → l ∈ t → l ≢ 2 * v → l < 2 * v)
    → (x : ℕ) → has (bit_and (bit_or (mask s) (mask t)) a) x ≡ member x (remainder v s t)
has_joined v a s t e s_before t_before x = go (dec_lt x (2 * v))
  where
    go : Dec (x < 2 * v) → has (bit_and (bit_or (mask s) (mask t)) a) x ≡ member x (remainder v s t)
    go (yes h) =
        has_part (bit_or (mask s) (mask t)) a (2 * v) e x h ∙ has_union (mask s) (mask t) x
        ∙ rw (has_mask x s, has_mask x t, ← some_of_append)
        (same_truth
        (simp (member_iff, remainder_iff) (
          λ m. ⊎_map (λ i. (i, λ z. omega arith)) (λ i. (i, λ z. omega arith)) (Memᴰ.append_cases s m),
          ⊎_elim (λ i. Memᴰ.append_left t i.0) (λ i. Memᴰ.append_right s i.0),
        )))
    go (no h) =
        has_past (bit_or (mask s) (mask t)) a (2 * v) e x (omega arith)
        ∙ sym ((not_member_iff x (remainder v s t)).1
        (λ m. ⊎_elim (λ i. absurd (omega (arith, s_before x i.0 i.1))) (λ i. absurd (omega (arith, t_before x i.0 i.1))) ((remainder_iff x (2 * v + 1) (2 * v) s t).0 m)))

-- and that is the set of the resolvent
pub mask_joined :
    (v a : ℕ) (s t : List ℕ) → a + 1 ≡ 2 ^ (2 * v) → ((l : ℕ) → l ∈ s → l ≢ 2 * v + 1 → l < 2 * v) → ((l : ℕ) → l ∈ t → l ≢ 2 * v → l < 2 * v)
    → bit_and (bit_or (mask s) (mask t)) a < 2 ^ 64 → bit_and (bit_or (mask s) (mask t)) a ≡ mask (rising (remainder v s t))
mask_joined v a s t e s_before t_before small =
    let others = rising (remainder v s t) in
    let same : (l : ℕ) → has (bit_and (bit_or (mask s) (mask t)) a) l ≡ has (mask others) l = λ l. has_joined v a s t e s_before t_before l ∙ sym (has_mask l others ∙ rising_member l (remainder v s t)) in
    same_digits 64 _ (mask others) small (mask_small 64 others (λ l m. has_within _ 64 l small (same l ∙ (has_iff l others).1 m))) same

-- R.3's test of three sets

-- a parent's set by its digits from 2v on
module _ (v j : ℕ) (sign : j < 2) (x : List ℕ) (small : mask x < 2 ^ 64) where
  alone_iff : (mask x / 2 ^ (2 * v) ≡ 2 ^ j) ↔ ((i : ℕ) → member (2 * v + i) x ≡ eqb j i)
  alone_iff = simp has_mask at (shifted_single 64 (mask x) (2 * v) j small (omega arith))

  -- where the literal 2v + j is there alone, the others are below
  others_before : mask x / 2 ^ (2 * v) ≡ 2 ^ j → (l : ℕ) → l ∈ x → l ≢ 2 * v + j → l < 2 * v
  others_before e l i n =
      lt_of_not-le (λ h.
      let k : 2 * v + (l - 2 * v) ≡ l = omega arith in
      n (omega (arith, eqb-true j (l - 2 * v) (sym (alone_iff.0 e (l - 2 * v)) ∙ rw k ((member_iff l x).1 i)))))

  -- it is, where v is the last variable of a clause in which none stands twice
  parent_iff : unordered x ≡ false → (mask x / 2 ^ (2 * v) ≡ 2 ^ j) ↔ ((2 * v + j ∈ x) × ((l : ℕ) → l ∈ x → variable l ≤ v))
  parent_iff ordered = (
    λ e. (
      (member_iff (2 * v + j) x).0 (alone_iff.0 e j ∙ eq-eqb j j refl),
      λ l i. omega (arith, lt_of_not-le {n = 2 * v + 2} {m = l} (λ h. omega (arith, others_before e l i (λ is. omega arith)))),
    ),
    λ (own, last). alone_iff.1 (λ i. alone own last i (ℕ_discrete j i)),
  )
    where
      alone : 2 * v + j ∈ x → ((l : ℕ) → l ∈ x → variable l ≤ v) → (i : ℕ) → Dec (j ≡ i) → member (2 * v + i) x ≡ eqb j i
      alone own last i (yes e) = (member_iff (2 * v + i) x).1 (Memᴰ.cast (omega arith) own) ∙ sym (eq-eqb j i e)
      alone own last i (no n) =
          (not_member_iff (2 * v + i) x).1 (λ m. n (omega (arith, ordered_one_of_each x ordered (2 * v + j) (2 * v + i) own m (omega (arith, last (2 * v + i) m)))))
          ∙ sym (ne_eqb j i n)

-- the test of s and t, the parents' sets, and of c
abbrev pub SetsResolve : ℕ → ℕ → ℕ → ℕ → Type 0
SetsResolve v s t c = (s / 2 ^ (2 * v) ≡ 2) × ((t / 2 ^ (2 * v) ≡ 1) × (c ≡ bit_and (bit_or s t) (2 ^ (2 * v) - 1)))

module _ (v : ℕ) (x y z : List ℕ) (x_small : mask x < 2 ^ 64) (y_small : mask y < 2 ^ 64) where
  -- where each parent has its own literal alone, the union under 2v is the set of the resolvent
  joined_is : mask x / 2 ^ (2 * v) ≡ 2 → mask y / 2 ^ (2 * v) ≡ 1 → bit_and (bit_or (mask x) (mask y)) (2 ^ (2 * v) - 1) ≡ mask (rising (remainder v x y))
  joined_is p q =
      let low = 2 ^ (2 * v) - 1 in
      let union = bit_or (mask x) (mask y) in
      mask_joined v low x y (omega (arith, pow_pos (2 * v))) (others_before v 1 (omega arith) x x_small p) (rw add-zero at (others_before v 0 (omega arith) y y_small q))
      (omega (arith, and_le_l union low, or_lt 64 (mask x) (mask y) x_small y_small))

  sets_iff : unordered x ≡ false → unordered y ≡ false → unordered z ≡ false → SetsResolve v (mask x) (mask y) (mask z) ↔ Resolves v x y z
  sets_iff x_ordered y_ordered z_ordered =
      let s = parent_iff v 1 (omega arith) x x_small x_ordered in
      let t : (mask y / 2 ^ (2 * v) ≡ 1) ↔ ((2 * v ∈ y) × ((l : ℕ) → l ∈ y → variable l ≤ v)) = rw add-zero at (parent_iff v 0 (omega arith) y y_small y_ordered) in
      let same = same_mask_iff (ordered_ascends z z_ordered) (rising_ascends (remainder v x y)) in (
        λ (p, (q, r)). record {
          true_side = (s.0 p).0;
          false_side = (t.0 q).0;
          true_last = (s.0 p).1;
          false_last = (t.0 q).1;
          others = same.0 (r ∙ joined_is p q);
        },
        λ r.
            let p = s.1 (r.true_side, r.true_last) in
            let q = t.1 (r.false_side, r.false_last) in
            (p, (q, same.1 r.others ∙ sym (joined_is p q))),
      )

-- so R.3's test is that of the sets, one after another
module _ (v s t c : ℕ) (s_small : s < 2 ^ 64) (t_small : t < 2 ^ 64) (x y z : List ℕ) (s_is : s ≡ mask x) (t_is : t ≡ mask y) (c_is : c ≡ mask z)
    (x_ordered : unordered x ≡ false) (y_ordered : unordered y ≡ false) (z_ordered : unordered z ≡ false) where
  by_sets : (b : Bool) → (b ≡ true) ↔ SetsResolve v s t c → is_resolvent v x y z ≡ b
  by_sets b test =
      let sets = sets_iff v x y z (omega arith) (omega arith) x_ordered y_ordered z_ordered in
      sym (same_truth (simp (resolves_iff, ← sets) (rw (s_is, t_is, c_is) at test)))

  pub no_true_side : s / 2 ^ (2 * v) ≢ 2 → is_resolvent v x y z ≡ false
  no_true_side n = by_sets false (λ e. absurd (false≢true e), λ h. absurd (n h.0))

  pub no_false_side : t / 2 ^ (2 * v) ≢ 1 → is_resolvent v x y z ≡ false
  no_false_side n = by_sets false (λ e. absurd (false≢true e), λ h. absurd (n h.1.0))

  pub both_sides : 2 * v < 64 → s / 2 ^ (2 * v) ≡ 2 → t / 2 ^ (2 * v) ≡ 1
      → is_resolvent v x y z ≡ eqb c (bit_and (bit_or s t) (1 * 2 ^ (2 * v) % 2 ^ 64 - 1))
  both_sides small p q = rw (shifted_one (2 * v) small) (by_sets _ (λ e. (p, (q, eqb-true _ _ e)), λ h. eq-eqb _ _ h.1.1))

pub ruleset resolvent_sets = (no_true_side, no_false_side, both_sides)
