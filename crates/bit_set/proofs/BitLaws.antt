-- Laws of bit operations: distribution, order, single bits, powers of two and of four. Those of sets are in BitSetLaws.
-- Assumes nothing.
use Rattle.std.proofs.Common.{◌≡◌, ℕ, zero, suc, ◌+◌, ◌*◌, ◌/◌, ◌%◌, ◌^◌, ◌<◌, ◌≤◌, min, max, Bool, true, false, ◌&&◌, leb, sym, refl, ap, ◌∙◌, ap₂, pow-suc, mul_left_comm, arith, pow_pos, le-leb, leb-false, leb-true}
use lib.Arith.{bin_ind, digits_mod}
use lib.Bits.{bit_and, bit_or, and_step, or_step, and_shr, or_shr, and_le_l, and_le_r, or_add_and, or_lt, or_shifted, and_comm, and_mask, and_high}
use borrow.Author.Tests.{lt-leb}

-- the two operations digit by digit
pub and_odd : (a b : ℕ) → bit_and a b % 2 ≡ min (a % 2) (b % 2)
and_odd a b = ap (◌% 2) (and_step a b) ∙ digits_mod (bit_and (a / 2) (b / 2)) (omega arith)

or_odd : (a b : ℕ) → bit_or a b % 2 ≡ max (a % 2) (b % 2)
or_odd a b = ap (◌% 2) (or_step a b) ∙ digits_mod (bit_or (a / 2) (b / 2)) (omega arith)

pub and_or : (a b s : ℕ) → bit_and (bit_or a b) s ≡ bit_or (bit_and a s) (bit_and b s)
and_or a =
    bin_ind (λ (n : ℕ). (b s : ℕ) → bit_and (bit_or n b) s ≡ bit_or (bit_and n s) (bit_and b s)) (λ b s. refl)
    (λ n ih b s.
    and_step (bit_or n b) s
    ∙ ap₂ (λ (x y : ℕ). x * 2 + y)
    (ap (λ (x : ℕ). bit_and x (s / 2)) (or_shr n b 1) ∙ ih (b / 2) (s / 2) ∙ sym (ap₂ bit_or (and_shr n s 1) (and_shr b s 1)))
    (ap (λ (x : ℕ). min x (s % 2)) (or_odd n b) ∙ omega arith ∙ sym (ap₂ max (and_odd n s) (and_odd b s)))
    ∙ sym (or_step (bit_and n s) (bit_and b s))) a

pub le_or_l : (a b : ℕ) → a ≤ bit_or a b
le_or_l a b = omega (arith, or_add_and a b, and_le_r a b)

pub le_or_r : (a b : ℕ) → b ≤ bit_or a b
le_or_r a b = omega (arith, or_add_and a b, and_le_l a b)

-- a set that meets a smaller one meets it with bits from k on added
pub intersects_more : (m s a k : ℕ) → s < 2 ^ k → bit_and m (s + a * 2 ^ k) ≡ 0 → bit_and m s ≡ 0
intersects_more m s a k h e =
    let f : s + a * 2 ^ k ≡ bit_or (a * 2 ^ k) s = omega (arith, or_shifted a k s h) in
    let g = sym (and_or (a * 2 ^ k) s m) ∙ and_comm (bit_or (a * 2 ^ k) s) m ∙ ap (bit_and m) (sym f) ∙ e in
    and_comm m s ∙ omega (arith, le_or_r (bit_and (a * 2 ^ k) m) (bit_and s m))

-- a set lies below 2^k where both its parts do
pub or_below : (k n a b : ℕ) → n + 1 ≡ 2 ^ k → leb (bit_or a b) n ≡ leb a n && leb b n
or_below k n a b e = go (leb a n) (leb b n) refl refl
  where
    go : (s t : Bool) → leb a n ≡ s → leb b n ≡ t → leb (bit_or a b) n ≡ s && t
    go true true p q = le-leb (bit_or a b) n (omega (arith, or_lt k a b (omega (arith, leb-true a n p)) (omega (arith, leb-true b n q))))
    go true false p q = lt-leb (bit_or a b) n (omega (arith, leb-false b n q, le_or_r a b))
    go false t p q = lt-leb (bit_or a b) n (omega (arith, leb-false a n p, le_or_l a b))

-- the two lowest bits
pub bit_0 : (m : ℕ) → bit_and 1 m ≡ m % 2
bit_0 m = and_comm 1 m ∙ and_mask m 1

pub bit_1 : (m : ℕ) → bit_and 2 m ≡ m / 2 % 2 * 2
bit_1 m = and_comm 2 m ∙ and_high m 1 1

-- a number has no more digits than itself
pub under_power : (n : ℕ) → n < 2 ^ n
under_power zero = pow_pos 0
under_power (suc n) = omega (arith, under_power n, pow-suc 2 n)

pub four_pow : (k : ℕ) → 2 ^ (2 * suc k) ≡ 4 * 2 ^ (2 * k)
four_pow k =
    let e : 2 * suc k ≡ suc (suc (2 * k)) = omega arith in
    ap (2 ^◌) e ∙ omega (arith, pow-suc 2 (suc (2 * k)), pow-suc 2 (2 * k))

pub times_four_pow : (y k : ℕ) → y * 2 ^ (2 * suc k) ≡ 4 * (y * 2 ^ (2 * k))
times_four_pow y k = ap (y *◌) (four_pow k) ∙ mul_left_comm y 4 (2 ^ (2 * k))
