-- A set that is not empty has a number, and when a set has a greater one than l; a set with one number alone; the even
-- numbers, and a set with an even number and the one after it. Assumes nothing.
use Rattle.std.proofs.Common.{◌≡◌, ℕ, zero, suc, ◌+◌, ◌-◌, ◌*◌, ◌/◌, ◌%◌, ◌^◌, ◌<◌, ◌≤◌, true, false, cond, not, ◌&&◌, ◌||◌, eqb, ltb, ◌≢◌, ◌↔◌, sym, refl, ap, ◌∙◌, ap₂, mod-eq_of_lt, pos_of_ne-zero, pow-suc, le-div_iff_mul-le, arith, pow_pos, shr-shr, ltb-true, le-ltb, lt-ltb, eq-eqb, ne_eqb, eqb-true}
use mathlib.Core.Bool.{false≢true, or-true}
use native.Mathlib.Decide.{ℕ_discrete, dec_lt}
use lib.Pow.{shl-shr}
use lib.Bits.{bit_and, and_le_l, and_le_r}
use lib.Count.{count_trailing_zeros}
use lib.Dec.{leb-suc-suc}
use borrow.Author.Tests.{eqb-false, not-true}
use Rattle.formula.proofs.Membership.{and_iff}
use Rattle.bit_set.specs.BitSet.{has, alone, evens, pairs, has_pair, paired}
use Rattle.bit_set.proofs.BitLaws.{under_power}
use Rattle.bit_set.proofs.BitSetLaws.{has_none, has_including}
use Rattle.bit_set.proofs.DigitLaws.{has_shifted, has_both, lowest_is_least, trailing_first}
use Rattle.bit_set.proofs.PartLaws.{has_union, has_within, has_lowest, has_later}

pub some_number : (k s : ℕ) → s < 2 ^ k → s ≢ 0 → (x : ℕ) × (has s x ≡ true)
some_number k s small n = let (_, (is, _)) = trailing_first k s (pos_of_ne-zero n) small in (count_trailing_zeros k s, is)

-- what the shift by l leaves is over 1 exactly where the set has a number over l
pub has_greater_iff : (s l : ℕ) → (ltb 1 (s / 2 ^ l) ≡ true) ↔ ((y : ℕ) × (l < y) × (has s y ≡ true))
has_greater_iff s l = (
  λ t.
      let half : s / 2 ^ l / 2 ^ 1 ≡ s / 2 ^ (l + 1) = shr-shr s l 1 in
      let (x, is) = some_number _ (s / 2 ^ (l + 1)) (under_power _) (λ z. omega (arith, ltb-true 1 (s / 2 ^ l) t)) in
      (l + 1 + x, omega arith, sym (has_shifted s (l + 1) x) ∙ is),
  λ w. let (y, h, is) = w in lt-ltb 1 (s / 2 ^ l) ((le-div_iff_mul-le (pow_pos l)).1 (large y h is (dec_lt s (2 ^ suc l)))),
)
  where
    large : (y : ℕ) → l < y → has s y ≡ true → Dec (s < 2 ^ suc l) → 2 * 2 ^ l ≤ s
    large y h is (yes small) = absurd (omega (arith, has_within s (suc l) y small is))
    large y h is (no n) = omega (arith, pow-suc 2 l)

pub alone_iff : (k s x : ℕ) → s < 2 ^ k → (has (alone s) x ≡ true) ↔ ((has s x ≡ true) × ((y : ℕ) → has s y ≡ true → y ≡ x))
unfolding alone
alone_iff k s x small = go (ℕ_discrete s 0) (ℕ_discrete (bit_and s (s - 1)) 0)
  where
    t : ℕ
    t = count_trailing_zeros k s

    says : s ≢ 0 → (y : ℕ) → has s y ≡ has (bit_and s (s - 1)) y || eqb t y
    says n y =
        let (_, least) = lowest_is_least k s (pos_of_ne-zero n) small in
        ap (λ m. has m y) least.joined ∙ has_including (bit_and s (s - 1)) t y

    -- a second number, over the least one
    second : s ≢ 0 → bit_and s (s - 1) ≢ 0 → (y : ℕ) × ((has s y ≡ true) × (y ≢ t))
    second n m =
        let (_, least) = lowest_is_least k s (pos_of_ne-zero n) small in
        let (y, is) = some_number k (bit_and s (s - 1)) (omega (arith, and_le_l s (s - 1))) m in
        (y, (says n y ∙ ap (◌|| eqb t y) is, λ e. false≢true (sym (least.none_before y (omega arith)) ∙ is)))

    go : Dec (s ≡ 0) → Dec (bit_and s (s - 1) ≡ 0)
        → (has (cond (eqb (bit_and s (s - 1)) 0) s 0) x ≡ true) ↔ ((has s x ≡ true) × ((y : ℕ) → has s y ≡ true → y ≡ x))
    go (yes e) f = rw e (λ h. absurd (false≢true (sym (has_none x) ∙ h)), λ h. h.0)
    go (no n) (yes e) =
        let only : (y : ℕ) → has s y ≡ true → t ≡ y = λ y h. eqb-true t y (sym (says n y ∙ ap (λ m. has m y || eqb t y) e ∙ ap (◌|| eqb t y) (has_none y)) ∙ h) in
        rw (eq-eqb (bit_and s (s - 1)) 0 e) (λ h. (h, λ y i. sym (only y i) ∙ only x h), λ h. h.0)
    go (no n) (no m) =
        let (y, (is, other)) = second n m in
        let least : has s t ≡ true = says n t ∙ rw (eq-eqb t t refl, or-true) in
        rw (ne_eqb (bit_and s (s - 1)) 0 m) (λ h. absurd (false≢true (sym (has_none x) ∙ h)), λ h. absurd (other (h.1 y is ∙ sym (h.1 t least))))

pub has_evens : (k x : ℕ) → (has (evens k) (2 * x) ≡ ltb x k) × (has (evens k) (2 * x + 1) ≡ false)
unfolding evens has
has_evens zero x = (has_none (2 * x) ∙ sym (le-ltb x 0 (omega arith)), has_none (2 * x + 1))
has_evens (suc k) zero = (has_lowest 1 (evens k) (omega arith) 0 (omega arith) ∙ sym (lt-ltb 0 (suc k) (omega arith)), has_lowest 1 (evens k) (omega arith) 1 (omega arith))
has_evens (suc k) (suc x) =
    let even : 2 * suc x ≡ suc (suc (2 * x)) = omega arith in
    let odd : 2 * suc x + 1 ≡ suc (suc (2 * x + 1)) = omega arith in
    let (a, b) = has_evens k x in (
      ap (has (evens (suc k))) even ∙ has_later 1 (evens k) (omega arith) (2 * x) ∙ a ∙ sym (leb-suc-suc (suc x) k),
      ap (has (evens (suc k))) odd ∙ has_later 1 (evens k) (omega arith) (2 * x + 1) ∙ b,
    )

-- they and the numbers after them are within 64 bits
pub evens_small : 2 * evens 32 < 2 ^ 64
unfolding evens
evens_small = omega arith

-- the even numbers of a set whose next one is in it too
has_pairs : (s x : ℕ) → has (pairs s) x ≡ (has s x && has s (1 + x)) && has (evens 32) x
has_pairs s x =
    has_both (bit_and s (s / 2 ^ 1)) (evens 32) x
    ∙ ap (◌&& has (evens 32) x) (has_both s (s / 2 ^ 1) x ∙ ap (has s x &&◌) (has_shifted s 1 x))

pair_has : (s v : ℕ) → v < 32 → has s (2 * v) ≡ true → has s (2 * v + 1) ≡ true → has (pairs s) (2 * v) ≡ true
pair_has s v few here next =
    let even : has (evens 32) (2 * v) ≡ true = (has_evens 32 v).0 ∙ lt-ltb v 32 few in
    let after : has s (1 + 2 * v) ≡ true = let e : 1 + 2 * v ≡ 2 * v + 1 = omega arith in ap (has s) e ∙ next in
    has_pairs s (2 * v) ∙ rw (here, after, even)

pub has_pair_iff : (s : ℕ) → (has_pair s ≡ true) ↔ ((v : ℕ) × ((v < 32) × ((has s (2 * v) ≡ true) × (has s (2 * v + 1) ≡ true))))
unfolding has_pair
has_pair_iff s = (found, of_pair)
  where
    go : (x : ℕ) → Dec (x % 2 ≡ 0) → has s x ≡ true → has s (1 + x) ≡ true → has (evens 32) x ≡ true
        → (v : ℕ) × ((v < 32) × ((has s (2 * v) ≡ true) × (has s (2 * v + 1) ≡ true)))
    go x (yes e) here next even =
        let a : x ≡ 2 * (x / 2) = omega arith in
        let b : 1 + x ≡ 2 * (x / 2) + 1 = omega arith in
        (x / 2, (ltb-true (x / 2) 32 (sym (has_evens 32 (x / 2)).0 ∙ ap (has (evens 32)) (sym a) ∙ even), (rw a at here, rw b at next)))
    go x (no n) here next even =
        let a : x ≡ 2 * (x / 2) + 1 = omega arith in
        absurd (false≢true (sym (has_evens 32 (x / 2)).1 ∙ ap (has (evens 32)) (sym a) ∙ even))

    found : not (eqb (pairs s) 0) ≡ true → (v : ℕ) × ((v < 32) × ((has s (2 * v) ≡ true) × (has s (2 * v + 1) ≡ true)))
    found e =
        let (x, is) = some_number 64 (pairs s) (omega (arith, and_le_r (bit_and s (s / 2 ^ 1)) (evens 32), evens_small)) (eqb-false (pairs s) 0 (not-true (eqb (pairs s) 0) e)) in
        let (both, even) = (and_iff (has s x && has s (1 + x)) (has (evens 32) x)).0 (sym (has_pairs s x) ∙ is) in
        let (here, next) = (and_iff (has s x) (has s (1 + x))).0 both in
        go x (ℕ_discrete (x % 2) 0) here next even

    of_pair : ((v : ℕ) × ((v < 32) × ((has s (2 * v) ≡ true) × (has s (2 * v + 1) ≡ true)))) → not (eqb (pairs s) 0) ≡ true
    of_pair (v, (few, (here, next))) = ap not (ne_eqb (pairs s) 0 (λ z. false≢true (sym (has_none (2 * v)) ∙ ap (λ n. has n (2 * v)) (sym z) ∙ pair_has s v few here next)))

-- both numbers of a pair
pub paired_has : (s v : ℕ) → v < 32 → has s (2 * v) ≡ true → has s (2 * v + 1) ≡ true → (has (paired s) (2 * v) ≡ true) × (has (paired s) (2 * v + 1) ≡ true)
paired_has s v few here next =
    let even = pair_has s v few here next in
    let double : pairs s * 2 ^ 1 % 2 ^ 64 ≡ pairs s * 2 ^ 1 = mod-eq_of_lt (omega (arith, and_le_r (bit_and s (s / 2 ^ 1)) (evens 32), evens_small)) in
    let odd : has (pairs s * 2 ^ 1 % 2 ^ 64) (2 * v + 1) ≡ true =
    let e : 2 * v + 1 ≡ 1 + 2 * v = omega arith in
    ap₂ has double e ∙ sym (has_shifted (pairs s * 2 ^ 1) 1 (2 * v)) ∙ ap (λ n. has n (2 * v)) (shl-shr (pairs s) 1) ∙ even in (
      has_union (pairs s) (pairs s * 2 ^ 1 % 2 ^ 64) (2 * v) ∙ ap (◌|| has (pairs s * 2 ^ 1 % 2 ^ 64) (2 * v)) even,
      has_union (pairs s) (pairs s * 2 ^ 1 % 2 ^ 64) (2 * v + 1) ∙ ap (has (pairs s) (2 * v + 1) ||◌) odd ∙ or-true (has (pairs s) (2 * v + 1)),
    )
