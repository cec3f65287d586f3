-- Parts of a set made of bits: a union; a number past the set, and its highest one; the numbers under k, and those from
-- k on; and the two lowest digits with what follows them. Assumes nothing.
use Rattle.std.proofs.Common.{◌≡◌, ℕ, suc, ◌+◌, ◌-◌, ◌*◌, ◌/◌, ◌%◌, ◌^◌, ◌<◌, ◌≤◌, min, true, false, not, ◌||◌, eqb, leb, sym, ap, ◌∙◌, ap₂, mod-lt, mod-eq_of_lt, one-mul, pow-suc, div-add-mod', zero-mul, arith, pow_pos, pow-add, ne_eqb, le-leb}
use mathlib.Core.Bool.{false≢true}
use native.Mathlib.Nat.{zero-mod, div-eq_of_lt, pow-le-pow_right}
use native.Mathlib.Decide.{ℕ_discrete, dec_lt}
use lib.Pow.{pow-lt, shl-shr}
use lib.Bits.{bit_and, bit_or, and_zero_r, and_comm, and_shifted, and_mask, and_le_r, and_block, and_high}
use borrow.Author.Tests.{lt-leb}
use Rattle.bit_set.specs.BitSet.{has, from}
use Rattle.bit_set.proofs.BitLaws.{and_or}
use Rattle.bit_set.proofs.BitSetLaws.{has_none, union_empty}

pub has_union : (a b x : ℕ) → has (bit_or a b) x ≡ has a x || has b x
unfolding has
has_union a b x = rw (and_or a b (2 ^ x)) (union_empty (bit_and a (2 ^ x)) (bit_and b (2 ^ x)))

-- a set under 2^x does not have x
pub has_over : (s x : ℕ) → s < 2 ^ x → has s x ≡ false
unfolding has
has_over s x h = rw (and_comm s (2 ^ x) ∙ ap (λ n. bit_and n s) (sym (one-mul (2 ^ x))) ∙ and_shifted 1 x s h)

-- so a set has no number past its digits
pub has_within : (s m x : ℕ) → s < 2 ^ m → has s x ≡ true → x < m
has_within s m x h t = go (dec_lt x m)
  where
    go : Dec (x < m) → x < m
    go (yes k) = k
    go (no k) =
        absurd (false≢true (sym (has_over s x (omega (arith, pow-le-pow_right {n = 2} (omega arith) {i = m} {j = x} (omega arith)))) ∙ t))

-- the highest number of a set
pub has_highest : (s x : ℕ) → 2 ^ x ≤ s → s < 2 ^ suc x → has s x ≡ true
unfolding has
has_highest s x h k =
    let e : s ≡ 1 * 2 ^ x + (s - 2 ^ x) = omega arith in
    let f : 2 ^ x ≡ 1 * 2 ^ x + 0 = omega arith in
    let g : bit_and s (2 ^ x) ≡ 2 ^ x = ap₂ bit_and e f ∙ and_block x 1 1 (s - 2 ^ x) 0 (omega (arith, pow-suc 2 x)) (pow_pos x) ∙ rw and_zero_r (omega arith) in
    rw (g, ne_eqb (2 ^ x) 0 (λ z. omega (arith, pow_pos x)))

-- the part of a set under 2^k
module _ (a n k : ℕ) (e : n + 1 ≡ 2 ^ k) where
  pub has_part : (x : ℕ) → x < k → has (bit_and a n) x ≡ has a x
  unfolding has
  has_part x h =
      let low : n ≡ 2 ^ k - 1 = omega arith in
      let f : a ≡ a / 2 ^ k * 2 ^ k + a % 2 ^ k = sym (div-add-mod' a (2 ^ k)) in
      let z : 2 ^ x ≡ 0 * 2 ^ k + 2 ^ x = omega arith in
      let g : bit_and a (2 ^ x) ≡ bit_and (a % 2 ^ k) (2 ^ x) =
      ap₂ bit_and f z ∙ and_block k (a / 2 ^ k) 0 (a % 2 ^ k) (2 ^ x) (mod-lt a (pow_pos k)) (pow-lt h) ∙ rw and_zero_r (omega arith) in
      rw (low, and_mask, g)

  pub has_past : (x : ℕ) → k ≤ x → has (bit_and a n) x ≡ false
  has_past x h = has_over (bit_and a n) x (omega (arith, and_le_r a n, pow-le-pow_right {n = 2} (omega arith) h))

-- of the j + k lowest numbers those from k on
pub has_from : (j k x : ℕ) → x < j + k → has (2 ^ (j + k) - 2 ^ k) x ≡ leb k x
unfolding has
has_from j k x h = rw (and_comm (2 ^ (j + k) - 2 ^ k) (2 ^ x), and_high (2 ^ x) j k) (go (dec_lt x k))
  where
    go : Dec (x < k) → not (eqb (2 ^ x / 2 ^ k % 2 ^ j * 2 ^ k) 0) ≡ leb k x
    go (yes l) = rw (div-eq_of_lt (pow-lt l), zero-mod, zero-mul, lt-leb k x l)
    go (no l) =
        let e : x ≡ x - k + k = omega arith in
        let f : 2 ^ x / 2 ^ k ≡ 2 ^ (x - k) = ap (λ n. 2 ^ n / 2 ^ k) e ∙ rw (pow-add 2 (x - k) k) (shl-shr (2 ^ (x - k)) k) in
        let g : 2 ^ (x - k) * 2 ^ k ≡ 2 ^ x = sym (pow-add 2 (x - k) k) ∙ ap (2 ^◌) (sym e) in
        rw (f, mod-eq_of_lt (pow-lt {i = x - k} {j = j} (omega arith)), g, ne_eqb (2 ^ x) 0 (λ z. omega (arith, pow_pos x)), le-leb k x (omega arith))

-- and of the numbers under 64
pub from_has : (k x : ℕ) → x < 64 → has (from k) x ≡ leb k x
from_has k x h = go (dec_lt k 64)
  where
    go : Dec (k < 64) → has (from k) x ≡ leb k x
    go (yes l) =
        let is : min k 64 ≡ k = omega arith in
        let e : 64 ≡ 64 - k + k = omega arith in
        ap (λ n. has n x) (ap₂ (λ (m n : ℕ). 2 ^ m - 2 ^ n) e is) ∙ has_from (64 - k) k x (omega arith)
    go (no l) =
        let is : min k 64 ≡ 64 = omega arith in
        ap (λ n. has n x) (ap (λ n. 2 ^ 64 - 2 ^ n) is) ∙ has_none x ∙ sym (lt-leb k x (omega arith))

-- the two digits d, and then the set m
module _ (d m : ℕ) (h : d < 4) where
  -- and a number under 4, or a multiple of 4, that is met there
  low_part : (x : ℕ) → x < 4 → bit_and (d + 4 * m) x ≡ bit_and d x
  low_part x k =
      let f : d + 4 * m ≡ m * 4 + d = omega arith in
      let e : x ≡ 0 * 4 + x = omega arith in
      ap₂ bit_and f e ∙ and_block 2 m 0 d x h k ∙ rw and_zero_r (omega arith)

  high_part : (x : ℕ) → bit_and (d + 4 * m) (x * 4) ≡ bit_and m x * 4
  high_part x =
      let f : d + 4 * m ≡ m * 4 + d = omega arith in
      let e : x * 4 ≡ x * 4 + 0 = omega arith in
      ap₂ bit_and f e ∙ and_block 2 m x d 0 h (omega arith) ∙ rw and_zero_r (omega arith)

  pub has_lowest : (x : ℕ) → x < 2 → has (d + 4 * m) x ≡ has d x
  unfolding has
  has_lowest x k = rw (low_part (2 ^ x) (pow-lt k))

  pub has_later : (x : ℕ) → has (d + 4 * m) (suc (suc x)) ≡ has m x
  unfolding has
  has_later x =
      let e : 2 ^ suc (suc x) ≡ 2 ^ x * 4 = omega (arith, pow-suc 2 (suc x), pow-suc 2 x) in
      rw (e, high_part (2 ^ x)) (go (ℕ_discrete (bit_and m (2 ^ x)) 0))
    where
      go : {y : ℕ} → Dec (y ≡ 0) → not (eqb (y * 4) 0) ≡ not (eqb y 0)
      go (yes e) = rw e
      go {y} (no n) = rw (ne_eqb y 0 n, ne_eqb (y * 4) 0 (λ z. n (omega arith)))
