-- Exact fractions at least 0, with the operations that a probability needs. Assumes nothing.
use Rattle.std.specs.Prelude.{ℕ, ◌+◌, ◌-◌, ◌*◌, ◌<◌, max, ◌≡◌}

infix 60 ◌over◌
infixl 55 ◌⊗◌
infixl 50 ◌⊕◌
infix 40 ◌≈◌
pub data Fraction : Type 0 where
  ◌over◌ : ℕ → ℕ → Fraction

-- both denominators are positive, and the two are the same number
unfoldable pub ◌≈◌ : Fraction → Fraction → Type 0
a over m ≈ b over n = (0 < m) × (0 < n) × (a * n ≡ b * m)

unfoldable pub ◌⊗◌ : Fraction → Fraction → Fraction
a over m ⊗ b over n = (a * b) over (m * n)

unfoldable pub ◌⊕◌ : Fraction → Fraction → Fraction
a over m ⊕ b over n = (a * n + b * m) over (m * n)

unfoldable pub maximum : Fraction → Fraction → Fraction
maximum (a over m) (b over n) = max (a * n) (b * m) over (m * n)

-- 1 − p, for a p at most 1
unfoldable pub complement : Fraction → Fraction
complement (a over m) = (m - a) over m
