-- A number out of a whole as a double, for a whole up to 2^53. In order: a double by its value; how far a quotient that
-- is rounded to p digits is off, in numbers alone; a double that is off by less than half of one part, so that two of
-- these for different parts are in order; and then shares: the division alone rounds (`representable`, `share_is`),
-- they are in order (`share_ordered`), from 0 to 1 (`share_from_zero`, `share_to_one`), and different for different
-- numbers (`share_apart`). Assumes nothing.
use mathlib.Core.Path.{◌≡◌, sym, ap, ◌∙◌}
use mathlib.Core.Bool.{true, false, not, true≢false}
use mathlib.Core.Logic.{◌⊎◌, inl, inr}
use Prim.Native.Nat.{ℕ, zero, suc, ◌+◌, ◌*◌, ◌/◌, ◌%◌, ◌^◌, ◌≤◌, ◌<◌, zero-le, compare, Ordering}
use native.Mathlib.Nat.{zero-lt-suc, le_refl, le_of_lt, le_trans, lt_of_lt_of_le, mul-pos, mul_comm, mul_assoc, mul-le-mul_right, mul-lt-mul_of_pos_right, lt_of_mul-lt-mul_right, mod-lt, div-add-mod', div-lt_iff_lt-mul, eq-or-lt_of_le}
use native.Mathlib.Omega.{arith}
use lib.IntN.{ℤ, pos}
use lib.Dec.{T, lit≤, is_le, compare_is_eq, leb→le, nleb→lt, lt→ltb, eqb→eq, eqb-suc-zero}
use lib.Pow.{pow_pos, pow_mono, shl_lt}
use lib.Ieee.{Float, nan, inf, fin, Format, binary64, up, down, size, nearest, round, of_int, div, lt, le}
use lib.Ieee.Back.{round_whole}
use lib.Ieee.Digits.{size-le}
use lib.Ieee.Exact.{HasValue, round_exact}
use lib.Ieee.Fits.{up_pos, down_pos}
use lib.Ieee.Nearest.{closest}
use lib.Ieee.Order.{drop, kept, round_mono}
use lib.Ieee.Scale.{round_same, overflow, round_val}
use Rattle.limits.specs.Limits.{max_plotted}
use Rattle.points.specs.Points.{share}
use Rattle.points.specs.Claims.{Representable}

-- A double by its value

-- x is finite, not negative, and a / c
data Quotient (a c : ℕ) : Float → Type 0 where
  exactly : (m : ℕ) (e : ℤ) → m * up e * c ≡ a * down e → Quotient a c (fin false m e)

quotient_of : (x : Float) {a c : ℕ} → HasValue x false a c → Quotient a c x
quotient_of nan v = absurd v
quotient_of (inf s) v = absurd v
quotient_of (fin true m e) v = absurd (true≢false v.0)
quotient_of (fin false m e) v = exactly m e v.1

-- a division of two whole numbers rounds once
div_is : (f : Format) {x y : Float} {a b : ℕ} → Quotient a 1 x → Quotient b 1 y → 0 < b → div f x y ≡ round f false a b
unfolding div
div_is f (exactly m e v) (exactly zero d w) h = absurd (omega (arith, mul-pos h (down_pos d)))
div_is f {a = a} {b} (exactly m e v) (exactly (suc n) d w) h =
    let divisor : 0 < suc n * up d * down e = mul-pos (mul-pos (zero-lt-suc n) (up_pos d)) (down_pos e) in
    let same : m * up e * down d * b ≡ a * (suc n * up d * down e) = omega (arith, ap (λ z. z * down d * b) v, ap (λ z. a * z * down e) w) in
    rw eqb-suc-zero (round_same f false (m * up e * down d) (suc n * up d * down e) a b divisor h same)

-- A rounded quotient, in numbers alone

-- x and y differ by less than e
abbrev Close : ℕ → ℕ → ℕ → Type 0
Close x y e = (x < y + e) × (y < x + e)

-- the whole number closest to n / u is off by a half at most
closest_close : (n u : ℕ) → 0 < u → Close (2 * (closest n u * u)) (2 * n) (suc u)
closest_close n u positive = go (compare (n % u * 2) u) (leb→le (n % u * 2) u) (eqb→eq (n % u * 2) u) (nleb→lt (n % u * 2) u)
  where
    go : (o : Ordering) → (T (is_le o) → n % u * 2 ≤ u) → (T (compare_is_eq o) → n % u * 2 ≡ u) → (T (not (is_le o)) → u < n % u * 2)
        → Close (2 * (nearest (n / u) o * u)) (2 * n) (suc u)
    go Ordering.lt under tie over = omega (arith, under tt, div-add-mod' n u)
    go Ordering.eq under tie over = let h : n / u % 2 ≤ 1 = omega arith in omega (arith, tie tt, div-add-mod' n u, mul-le-mul_right u h)
    go Ordering.gt under tie over = omega (arith, over tt, div-add-mod' n u, mod-lt n positive)

-- a / t to p digits, in units of 1 / 2^l, is off by less than half of 1 / t: its last digit counts less than 1 / t
kept_close : (p l a t : ℕ) → p ≤ l → a < t → t < 2 ^ p → Close (2 * (kept p (a * 2 ^ l) t * 2 ^ drop p (a * 2 ^ l) t * t)) (2 * (a * 2 ^ l)) (2 ^ l)
kept_close p l a t room part few =
    let positive : 0 < t = omega arith in
    let n = a * 2 ^ l in
    let k = drop p n t in
    let short : size (n / t) ≤ l = size-le (n / t) l ((div-lt_iff_lt-mul positive).1 (omega (arith, mul-lt-mul_of_pos_right part (pow_pos l)))) in
    let dropped : p + k ≤ l = omega arith in
    let unit : t * 2 ^ k < 2 ^ l = lt_of_lt_of_le (shl_lt p k few) (pow_mono dropped) in
    omega (arith, closest_close n (t * 2 ^ k) (mul-pos positive (pow_pos k)))

-- so it is under 1
under_one : {g c a t : ℕ} → a < t → Close (2 * (g * t)) (2 * (a * c)) c → g < c
under_one {c = c} {t = t} part close = lt_of_mul-lt-mul_right t (omega (arith, mul-le-mul_right c part))

-- A double that is off by less than half of one part

-- x is finite, not negative, and off a / t by less than half of 1 / t
data Near (a t : ℕ) : Float → Type 0 where
  near : (m : ℕ) (e : ℤ) → Close (2 * (m * up e * t)) (2 * (a * down e)) (down e) → Near a t (fin false m e)

near_of : {x : Float} {g c a t : ℕ} → Quotient g c x → Close (2 * (g * t)) (2 * (a * c)) c → Near a t x
near_of {c = c} {t = t} (exactly m e v) (under, over) = near m e (
  lt_of_mul-lt-mul_right c (omega (arith, ap (λ z. z * t) v, mul-lt-mul_of_pos_right under (down_pos e))),
  lt_of_mul-lt-mul_right c (omega (arith, ap (λ z. z * t) v, mul-lt-mul_of_pos_right over (down_pos e))),
)

near_apart : {x y : Float} {a b t : ℕ} → Near a t x → Near b t y → a < b → T (lt x y)
unfolding lt
near_apart {t = t} (near m e (under, _)) (near n d (_, over)) h =
    lt→ltb (m * up e * down d) (n * up d * down e)
    (lt_of_mul-lt-mul_right t
    (omega (arith, mul-lt-mul_of_pos_right under (down_pos d), mul-lt-mul_of_pos_right over (down_pos e), mul-le-mul_right (down e * down d) h)))

-- a double counts in units of 1 / 2^1074: these are under 1
no_overflow : {g : ℕ} → g < 2 ^ 1074 → g < overflow binary64
no_overflow h = lt_of_lt_of_le h (pow_mono {i = 1074} {j = 2098} (lit≤ tt))

-- a share of a whole under 2^53
near_few : {a t : ℕ} → a < t → t < max_plotted → Near a t (round binary64 false a t)
near_few {a} {t} part few =
    let close = kept_close 53 1074 a t (lit≤ tt) part few in
    let value = round_val binary64 a t (no_overflow (under_one part close)) in
    near_of (quotient_of (round binary64 false a t) value) close

-- a share of 2^53 itself: nothing is rounded
near_most : {a : ℕ} → a < max_plotted → Near a max_plotted (round binary64 false a max_plotted)
near_most {a} part =
    let units : a * 2 ^ 1074 ≡ a * 2 ^ 1021 * max_plotted = sym (mul_assoc a (2 ^ 1021) (2 ^ 53)) in
    let value = round_exact binary64 false a max_plotted a 1021 (pow_pos 53) part (no_overflow (shl_lt 53 1021 part)) units in
    near_of (quotient_of (round binary64 false a max_plotted) value) (omega arith)

-- Shares

-- a double holds each number up to 2^53
pub representable : (n : ℕ) → n ≤ max_plotted → Representable n
unfolding of_int
representable n h = round_whole binary64 false n h

module _ {whole : ℕ} (positive : 0 < whole) (small : whole ≤ max_plotted) where
  -- so the division alone rounds
  pub share_is : {part : ℕ} → part ≤ whole → share part whole ≡ round binary64 false part whole
  unfolding share
  share_is {part} h =
      div_is binary64 (quotient_of (of_int binary64 (pos part)) (representable part (le_trans h small))) (quotient_of (of_int binary64 (pos whole)) (representable whole small)) positive

  pub share_ordered : {a b : ℕ} → a ≤ b → b ≤ whole → T (le (share a whole) (share b whole))
  share_ordered {a} {b} h within =
      rw (share_is (le_trans h within), share_is within) (round_mono binary64 a whole b whole positive positive (mul-le-mul_right whole h))

  -- from 0 to 1, both exactly
  share_zero : share 0 whole ≡ fin false 0 (pos 0)
  unfolding round
  share_zero = share_is zero-le ∙ round_same binary64 false 0 whole 0 1 positive (zero-lt-suc 0) (omega arith)

  share_whole : share whole whole ≡ fin false 1 (pos 0)
  unfolding round
  share_whole = share_is (le_refl whole) ∙ round_same binary64 false whole whole 1 1 positive (zero-lt-suc 0) (mul_comm whole 1)

  pub share_from_zero : {a : ℕ} → a ≤ whole → T (le (fin false 0 (pos 0)) (share a whole))
  share_from_zero within = rw share_zero at (share_ordered zero-le within)

  pub share_to_one : {a : ℕ} → a ≤ whole → T (le (share a whole) (fin false 1 (pos 0)))
  share_to_one within = rw share_whole at (share_ordered within (le_refl whole))

  share_near : {a : ℕ} → a ≤ whole → Near a whole (share a whole)
  share_near {a} h = go (eq-or-lt_of_le h) (eq-or-lt_of_le small)
    where
      go : (a ≡ whole) ⊎ (a < whole) → (whole ≡ max_plotted) ⊎ (whole < max_plotted) → Near a whole (share a whole)
      go (inl all) _ = rw (all, share_whole) (near 1 (pos 0) (omega arith))
      go (inr part) (inl most) = rw (share_is h, most) (near_most (rw most at part))
      go (inr part) (inr few) = rw (share_is h) (near_few part few)

  -- different parts of one whole never become the same double
  pub share_apart : {a b : ℕ} → a < b → b ≤ whole → T (lt (share a whole) (share b whole))
  share_apart h within = near_apart (share_near (le_trans (le_of_lt h) within)) (share_near within) h
