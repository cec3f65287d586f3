-- What the maximum, and the mean by odds, of two fractions are over a common denominator. Assumes nothing.
use Prim.Native.Nat.{ℕ, ◌+◌, ◌*◌, ◌≤◌, ◌<◌, max}
use mathlib.Core.Path.{◌≡◌, ap}
use native.Mathlib.Nat.{mul-pos, mul-le-mul_right, max-eq_left, max-eq_right, add-sub_cancel_left}
use native.Mathlib.Decide.{dec_le}
use native.Mathlib.Omega.{arith}
use Rattle.probability.specs.Fraction.{Fraction, ◌over◌, ◌≈◌, ◌⊗◌, ◌⊕◌, maximum, complement}

max_mul : (a b c : ℕ) → max a b * c ≡ max (a * c) (b * c)
max_mul a b c = go (dec_le a b)
  where
    go : Dec (a ≤ b) → max a b * c ≡ max (a * c) (b * c)
    go (yes h) = rw (max-eq_right h, max-eq_right (mul-le-mul_right c h))
    go (no h) = let g : b ≤ a = omega arith in rw (max-eq_left g, max-eq_left (mul-le-mul_right c g))

pub maximum_over : (a b d : ℕ) (f g : Fraction) → a over d ≈ f → b over d ≈ g → max a b over d ≈ maximum f g
unfolding ◌≈◌ maximum
maximum_over a b d (x over m) (y over n) (d_pos, m_pos, e) (_, n_pos, e') =
    (d_pos, mul-pos m_pos n_pos, rw (max_mul a, max_mul (x * n)) (omega (arith, ap (λ t. t * n) e, ap (λ t. t * m) e')))

-- over any s: multiplied out for s = u + v, the equation would be too long for omega
mean_cross : (u v s a b d x y m n : ℕ) → a * m ≡ x * d → b * n ≡ y * d
    → (u * a + v * b) * (s * m * (s * n)) ≡ (u * x * (s * n) + v * y * (s * m)) * (s * d)
mean_cross u v s a b d x y m n e e' = omega (arith, ap (λ t. t * (u * s * s * n)) e, ap (λ t. t * (v * s * s * m)) e')

pub mean_over : (u v a b d : ℕ) (f g : Fraction) → 0 < u + v → a over d ≈ f → b over d ≈ g
    → (u * a + v * b) over ((u + v) * d) ≈ (u over (u + v)) ⊗ f ⊕ complement (u over (u + v)) ⊗ g
unfolding ◌≈◌ ◌⊗◌ ◌⊕◌ complement
mean_over u v a b d (x over m) (y over n) pos (d_pos, m_pos, e) (_, n_pos, e') = (
  mul-pos pos d_pos,
  mul-pos (mul-pos pos m_pos) (mul-pos pos n_pos),
  rw add-sub_cancel_left (mean_cross u v (u + v) a b d x y m n e e'),
)
