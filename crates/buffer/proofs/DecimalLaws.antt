-- The decimal text of a number is its fewest digits. Assumes nothing.
use mathlib.Core.Path.{◌≡◌, ap₂, ◌∙◌}
use mathlib.Core.List.{List, [], ◌∷◌, ◌++◌}
use Prim.Native.Nat.{ℕ, zero, suc, ◌+◌, ◌-◌, ◌*◌, ◌/◌, ◌%◌, ◌^◌, ◌≤◌, ◌<◌}
use native.Mathlib.Nat.{pow-suc, one-le-pow, pow-le-pow_right, mod-eq_of_lt, lt_of_not-le, le_of_suc-le-suc}
use native.Mathlib.Omega.{arith}
use lib.ListN.{length, take, length-take}
use borrow.Author.Tests.{lt-ltb, le-ltb}
use Rattle.io.specs.Digits.{hex_digit_ascii, last_digits, IsDigitCount}
use Rattle.buffer.specs.Text.{decimal, decimal_by}

glyph_digit : (d : ℕ) → d < 10 → hex_digit_ascii d ≡ 48 + d
glyph_digit d h = rw (lt-ltb d 10 h)

one_digit : (divisions n : ℕ) → n < 10 → last_digits 10 1 n ≡ decimal_by divisions n
unfolding decimal_by
one_digit zero n h = rw (mod-eq_of_lt h, glyph_digit n h)
one_digit (suc divisions) n h = rw (mod-eq_of_lt h, decimal_by, lt-ltb n 10 h)

-- what more than one digit says
module _ (n k : ℕ) (w : IsDigitCount 10 1 n (suc (suc k))) where
  at_least : 10 ^ k * 10 ≤ n
  at_least = let e : suc (suc k) - 1 ≡ suc k = omega arith in rw (e, pow-suc) at (w.2 (omega arith))

  ten_or_more : 10 ≤ n
  ten_or_more = omega (arith, at_least, one-le-pow k 10 (omega arith))

  fewest_of_quotient : IsDigitCount 10 1 (n / 10) (suc k)
  fewest_of_quotient =
      let e : suc k - 1 ≡ k = omega arith in
      (omega arith, omega (arith, w.1, pow-suc 10 (suc k)), λ _. rw e (omega (arith, at_least)))

by_division : (divisions n k : ℕ) → n ≤ divisions → IsDigitCount 10 1 n k → last_digits 10 k n ≡ decimal_by divisions n
unfolding decimal_by
by_division divisions n zero h w = absurd (omega arith)
by_division divisions n (suc zero) h w = one_digit divisions n w.1
by_division zero n (suc (suc k)) h w = absurd (omega (arith, ten_or_more n k w))
by_division (suc divisions) n (suc (suc k)) h w =
    rw (decimal_by, le-ltb n 10 (ten_or_more n k w))
    (ap₂ (λ x y. x ++ (y ∷ []))
    (by_division divisions (n / 10) (suc k) (omega (arith, ten_or_more n k w)) (fewest_of_quotient n k w))
    (glyph_digit (n % 10) (omega arith)))

-- no leading zeros, in the library's terms
pub digits_decimal : (n k : ℕ) → IsDigitCount 10 1 n k → last_digits 10 k n ≡ decimal n
unfolding decimal
digits_decimal n k w = by_division n n k (omega arith) w

-- a number of 64 bits has at most 20 digits
few_digits : (n k : ℕ) → n < 2 ^ 64 → IsDigitCount 10 1 n k → k ≤ 20
few_digits n k h w = le_of_suc-le-suc (lt_of_not-le (λ more. omega (arith, w.2 (omega arith), power more)))
  where
    power : 21 ≤ k → 10 ^ 20 ≤ 10 ^ (k - 1)
    power more = pow-le-pow_right (omega arith) {i = 20} {j = k - 1} (omega arith)

-- the text is n in decimal, of at most 20 bytes
abbrev pub Spells : ℕ → List ℕ → Type 0
Spells n text = (text ≡ decimal n) × (length text ≤ 20)

-- what `io::decimal` puts at the start of its buffer
pub decimal_spells :
    (n k : ℕ) (out : List ℕ) → n < 2 ^ 64 → IsDigitCount 10 1 n k → take k out ≡ last_digits 10 k n → Spells n (take k out)
decimal_spells n k out h w e = (e ∙ digits_decimal n k w, omega (arith, length-take k out, few_digits n k h w))
