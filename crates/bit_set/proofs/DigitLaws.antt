-- A set by its binary digits: its numbers under k are its k lowest digits, all ones where it has them all, and those
-- from k on are what the machine's shift by k leaves; what two sets have in common, and a set without that; then its
-- least number, which the machine's count of trailing zeros finds, and the set without it. Membership itself is in
-- BitSetLaws. Assumes nothing.
use Rattle.std.proofs.Common.{◌≡◌, ℕ, zero, suc, ◌+◌, ◌-◌, ◌*◌, ◌/◌, ◌%◌, ◌^◌, ◌<◌, ◌≤◌, min, true, false, cond, not, ◌&&◌, ◌||◌, eqb, ◌↔◌, sym, refl, ap, ◌∙◌, ap₂, mod-eq_of_lt, one-mul, pow-suc, zero-mul, arith, pow_pos, shr-shr, eq-eqb, ne_eqb}
use mathlib.Core.Path.{subst⁻¹}
use mathlib.Core.Bool.{and-false, or-true}
use native.Mathlib.Nat.{mod-one}
use native.Mathlib.Decide.{ℕ_discrete}
use lib.Pow.{pow-lt, shr_le, mod-pow-add, ones_lt}
use lib.Bits.{bit_and, and_step, and_self, and_high, and_le_l, and_block, and_shifted, and_shr, or_shifted}
use lib.Count.{under, count_trailing_zeros}
use lib.Dec.{eqb-suc-zero}
use Rattle.bit_set.specs.BitSet.{has, including}
use Rattle.bit_set.proofs.BitLaws.{and_odd}
use Rattle.bit_set.proofs.BitSetLaws.{has_none, has_including}

-- the digit of x in s
and_digit : (s x : ℕ) → bit_and s (2 ^ x) ≡ s / 2 ^ x % 2 * 2 ^ x
and_digit s x =
    let e : 2 ^ (1 + x) - 2 ^ x ≡ 2 ^ x = let h : 1 + x ≡ suc x = omega arith in rw h (omega (arith, pow-suc 2 x)) in
    ap (bit_and s) (sym e) ∙ and_high s 1 x

-- the k + 1 lowest digits, by the k lowest
pub low_more : (s k : ℕ) → s % 2 ^ suc k ≡ cond (has s k) (2 ^ k) 0 + s % 2 ^ k
unfolding has
low_more s k =
    let h : suc k ≡ 1 + k = omega arith in
    ap (λ n. s % 2 ^ n) h ∙ mod-pow-add s 1 k ∙ ap (◌+ s % 2 ^ k) (go (s / 2 ^ k % 2) refl (omega arith))
  where
    go : (d : ℕ) → s / 2 ^ k % 2 ≡ d → d < 2 → d * 2 ^ k ≡ cond (not (eqb (bit_and s (2 ^ k)) 0)) (2 ^ k) 0
    go zero e h = rw (and_digit s k, e, zero-mul)
    go (suc zero) e h = rw (and_digit s k, e, one-mul, ne_eqb (2 ^ k) 0 (λ z. omega (arith, pow_pos k)))
    go (suc (suc d)) e h = absurd (omega arith)

-- a set that has all k lowest numbers
pub all_lowest : (k s : ℕ) → ((x : ℕ) → x < k → has s x ≡ true) → s % 2 ^ k ≡ 2 ^ k - 1
all_lowest zero s h = mod-one s
all_lowest (suc k) s h =
    low_more s k ∙ rw (h k (omega arith), all_lowest k s (λ x l. h x (omega arith))) (omega (arith, pow-suc 2 k, pow_pos k))

-- a number is in the set where its digit is not 0
has_digit : (s x : ℕ) → has s x ≡ not (eqb (s / 2 ^ x % 2) 0)
unfolding has
has_digit s x = ap (λ n. not (eqb n 0)) (and_digit s x) ∙ go (s / 2 ^ x % 2)
  where
    go : (d : ℕ) → not (eqb (d * 2 ^ x) 0) ≡ not (eqb d 0)
    go zero = rw zero-mul
    go (suc d) = rw (ne_eqb (suc d * 2 ^ x) 0 (λ z. omega (arith, pow_pos x)), eqb-suc-zero)

-- the set without its k lowest digits
pub has_shifted : (s k x : ℕ) → has (s / 2 ^ k) x ≡ has s (k + x)
has_shifted s k x = has_digit (s / 2 ^ k) x ∙ ap (λ n. not (eqb (n % 2) 0)) (shr-shr s k x) ∙ sym (has_digit s (k + x))

-- what two sets have in common
pub has_both : (a b x : ℕ) → has (bit_and a b) x ≡ has a x && has b x
has_both a b x =
    has_digit (bit_and a b) x ∙ rw (and_shr a b x, and_odd (a / 2 ^ x) (b / 2 ^ x), has_digit a x, has_digit b x) (go (ℕ_discrete (a / 2 ^ x % 2) 0) (ℕ_discrete (b / 2 ^ x % 2) 0))
  where
    go : {d e : ℕ} → Dec (d ≡ 0) → Dec (e ≡ 0) → not (eqb (min d e) 0) ≡ not (eqb d 0) && not (eqb e 0)
    go {d} {e} (yes p) f = rw (eq-eqb (min d e) 0 (omega arith), eq-eqb d 0 p)
    go {d} {e} (no p) (yes q) = rw (eq-eqb (min d e) 0 (omega arith), eq-eqb e 0 q, and-false)
    go {d} {e} (no p) (no q) = rw (ne_eqb (min d e) 0 (λ z. q (omega arith)), ne_eqb d 0 p, ne_eqb e 0 q)

-- a set without what it has in common with another
minus_step : (a b : ℕ) → a - bit_and a b ≡ (a / 2 - bit_and (a / 2) (b / 2)) * 2 + (a % 2 - b % 2)
minus_step a b = rw (and_step a b) (go (bit_and (a / 2) (b / 2)) (and_le_l (a / 2) (b / 2)))
  where
    go : (d : ℕ) → d ≤ a / 2 → a - (d * 2 + min (a % 2) (b % 2)) ≡ (a / 2 - d) * 2 + (a % 2 - b % 2)
    go d h = omega arith

pub has_minus : (a b x : ℕ) → has (a - bit_and a b) x ≡ has a x && not (has b x)
has_minus a b zero = rw (has_digit (a - bit_and a b) zero, has_digit a zero, has_digit b zero, minus_step a b) (go (ℕ_discrete (a % 2) 0) (ℕ_discrete (b % 2) 0))
  where
    rest : ℕ
    rest = a / 2 - bit_and (a / 2) (b / 2)

    go : Dec (a % 2 ≡ 0) → Dec (b % 2 ≡ 0)
        → not (eqb ((rest * 2 + (a % 2 - b % 2)) / 2 ^ zero % 2) 0) ≡ not (eqb (a / 2 ^ zero % 2) 0) && not (not (eqb (b / 2 ^ zero % 2) 0))
    go (yes p) e = rw (eq-eqb (a / 2 ^ zero % 2) 0 (omega arith), eq-eqb ((rest * 2 + (a % 2 - b % 2)) / 2 ^ zero % 2) 0 (omega arith))
    go (no p) (yes q) =
        rw (ne_eqb (a / 2 ^ zero % 2) 0 (λ z. p (omega arith)), eq-eqb (b / 2 ^ zero % 2) 0 (omega arith), ne_eqb ((rest * 2 + (a % 2 - b % 2)) / 2 ^ zero % 2) 0 (λ z. p (omega arith)))
    go (no p) (no q) =
        rw (ne_eqb (a / 2 ^ zero % 2) 0 (λ z. p (omega arith)), ne_eqb (b / 2 ^ zero % 2) 0 (λ z. q (omega arith)), eq-eqb ((rest * 2 + (a % 2 - b % 2)) / 2 ^ zero % 2) 0 (omega arith))
has_minus a b (suc x) =
    let half : (a - bit_and a b) / 2 ^ 1 ≡ a / 2 - bit_and (a / 2) (b / 2) = omega (arith, minus_step a b) in
    let next : 1 + x ≡ suc x = omega arith in
    rw (← next, ← has_shifted (a - bit_and a b) 1 x, ← has_shifted a 1 x, ← has_shifted b 1 x, half) (has_minus (a / 2) (b / 2) x)

-- two sets of k digits that have the same numbers are equal
pub same_digits : (k a b : ℕ) → a < 2 ^ k → b < 2 ^ k → ((x : ℕ) → has a x ≡ has b x) → a ≡ b
same_digits k a b p q same = sym (mod-eq_of_lt p) ∙ lowest k ∙ mod-eq_of_lt q
  where
    lowest : (j : ℕ) → a % 2 ^ j ≡ b % 2 ^ j
    lowest zero = mod-one a ∙ sym (mod-one b)
    lowest (suc j) = low_more a j ∙ ap₂ (λ d n. cond d (2 ^ j) 0 + n) (same j) (lowest j) ∙ sym (low_more b j)

-- the set without its k lowest digits has j alone where of the numbers from k on the set has k + j alone
pub shifted_single : (n s k j : ℕ) → s < 2 ^ n → j < n → (s / 2 ^ k ≡ 2 ^ j) ↔ ((x : ℕ) → has s (k + x) ≡ eqb j x)
shifted_single n s k j small within = (
  λ e x. sym (has_shifted s k x) ∙ ap (λ m. has m x) e ∙ has_single x,
  λ each. same_digits n (s / 2 ^ k) (2 ^ j) (omega (arith, shr_le s k)) (pow-lt within) (λ x. has_shifted s k x ∙ each x ∙ sym (has_single x)),
)
  where
    has_single : (x : ℕ) → has (2 ^ j) x ≡ eqb j x
    has_single x = has_including 0 j x ∙ ap (◌|| eqb j x) (has_none x)

-- a set that is not empty is an odd multiple of 2^t, t its count of trailing zeros
abbrev Odd : ℕ → ℕ → Type 0
Odd s t = (a : ℕ) × (s ≡ (2 * a + 1) * 2 ^ t)

trailing_odd : (k s : ℕ) → 0 < s → s < 2 ^ k → (count_trailing_zeros k s < k) × Odd s (count_trailing_zeros k s)
unfolding count_trailing_zeros
trailing_odd zero s p h = absurd (omega arith)
trailing_odd (suc k) s p h = go (s % 2) refl (omega arith) (λ q. trailing_odd k (s / 2) q (omega (arith, pow-suc 2 k)))
  where
    go : (d : ℕ) → s % 2 ≡ d → d < 2
        → (0 < s / 2 → (count_trailing_zeros k (s / 2) < k) × Odd (s / 2) (count_trailing_zeros k (s / 2)))
        → (under d (count_trailing_zeros k (s / 2)) < suc k) × Odd s (under d (count_trailing_zeros k (s / 2)))
    go zero e h half =
        let (t<, (a, f)) = half (omega arith) in
        (omega arith, (a, omega (arith, ap ((2 * a + 1) *◌) (pow-suc 2 (count_trailing_zeros k (s / 2))))))
    go (suc zero) e h half = (omega arith, (s / 2, omega arith))
    go (suc (suc d)) e h half = absurd (omega arith)

-- t is the least number of the set s, and the set `rest` has the others
pub record Least (s t rest : ℕ) : Type 0 where
  pub joined : s ≡ including rest t
  pub none_before : (x : ℕ) → x ≤ t → has rest x ≡ false

-- an odd number, and an odd multiple of 2^t, without the lowest digit
odd_even : (a : ℕ) → bit_and (2 * a + 1) (2 * a) ≡ 2 * a
odd_even a =
    let h : (2 * a + 1) / 2 ≡ a = omega arith in
    let e : 2 * a / 2 ≡ a = omega arith in
    and_step (2 * a + 1) (2 * a) ∙ rw (h, e, and_self) (omega arith)

odd_rest : (a t : ℕ) → bit_and ((2 * a + 1) * 2 ^ t) ((2 * a + 1) * 2 ^ t - 1) ≡ a * 2 ^ suc t
odd_rest a t =
    let e : (2 * a + 1) * 2 ^ t ≡ (2 * a + 1) * 2 ^ t + 0 = omega arith in
    let f : (2 * a + 1) * 2 ^ t - 1 ≡ 2 * a * 2 ^ t + (2 ^ t - 1) = omega (arith, pow_pos t) in
    ap₂ bit_and e f ∙ and_block t (2 * a + 1) (2 * a) 0 (2 ^ t - 1) (pow_pos t) (ones_lt t)
    ∙ omega (arith, ap (◌* 2 ^ t) (odd_even a), ap (a *◌) (pow-suc 2 t))

odd_least : (a t : ℕ) → Least ((2 * a + 1) * 2 ^ t) t (a * 2 ^ suc t)
unfolding has
odd_least a t =
    record {
      joined = sym (or_shifted a (suc t) (2 ^ t) (pow-lt (omega arith)) ∙ omega (arith, ap (a *◌) (pow-suc 2 t)));
      none_before = λ x h. rw (and_shifted a (suc t) (2 ^ x) (pow-lt (omega arith)));
    }

-- the machine's way to the least number of a set of k digits, and to the others
pub lowest_is_least : (k s : ℕ) → 0 < s → s < 2 ^ k → (count_trailing_zeros k s < k) × Least s (count_trailing_zeros k s) (bit_and s (s - 1))
lowest_is_least k s p h =
    let (t<, (a, e)) = trailing_odd k s p h in
    let t = count_trailing_zeros k s in
    (t<, subst⁻¹ (λ n. Least n t (bit_and n (n - 1))) e (rw odd_rest (odd_least a t)))

-- so that number is the first that the set has
pub trailing_first : (k s : ℕ) → 0 < s → s < 2 ^ k
    → (count_trailing_zeros k s < k) × ((has s (count_trailing_zeros k s) ≡ true) × ((x : ℕ) → x < count_trailing_zeros k s → has s x ≡ false))
trailing_first k s p h =
    let (t<, least) = lowest_is_least k s p h in
    let t = count_trailing_zeros k s in
    let says : (x : ℕ) → has s x ≡ has (bit_and s (s - 1)) x || eqb t x = λ x. ap (λ n. has n x) least.joined ∙ has_including (bit_and s (s - 1)) t x in
    (t<, (says t ∙ rw (eq-eqb t t refl, or-true), λ x less. says x ∙ rw (least.none_before x (omega arith), ne_eqb t x (λ e. omega arith))))
