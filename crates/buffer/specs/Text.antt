-- Lines of ASCII text: names, numbers in decimal, and a buffer that a text is put into. Assumes nothing.
use Rattle.std.specs.Prelude.{◌≡◌, true, false, List, [], ◌∷◌, ◌++◌, ℕ, zero, suc, ◌+◌, ◌/◌, ◌%◌, ltb, length, take, drop}
use Prim.Native.Char.{code}
use Prim.Native.String.{String}
use Rattle.io.specs.Counts.{IsPrefixLen}

-- the bytes of a text
unfoldable pub ascii : String → List ℕ
ascii String.[] = []
ascii (String.◌∷◌ c s) = code c ∷ ascii s

-- n in decimal, by at most `divisions` divisions by 10
unfoldable pub decimal_by : ℕ → ℕ → List ℕ
decimal_by zero n = (48 + n) ∷ []
decimal_by (suc divisions) n =
    elim (ltb n 10) [
      | true ↦ (48 + n) ∷ []
      | false ↦ decimal_by divisions (n / 10) ++ ((48 + n % 10) ∷ [])
    ]

-- n in decimal, with no leading zeros: n divisions are more than enough
unfoldable pub decimal : ℕ → List ℕ
decimal n = decimal_by n n

-- each number after a blank
unfoldable pub after_blanks : List ℕ → List ℕ
after_blanks [] = []
after_blanks (n ∷ ns) = 32 ∷ decimal n ++ after_blanks ns

-- a name, then numbers, closed by a line feed
unfoldable pub line : List ℕ → List ℕ → List ℕ
line name ns = name ++ after_blanks ns ++ (10 ∷ [])

-- the text stands in the buffer from `at` to `end`, and the buffer's other bytes are as they were
pub record Put (before : List ℕ) (at : ℕ) (text after : List ℕ) (end : ℕ) : Type 0 where
  pub ends : end ≡ at + length text
  pub contents : after ≡ take at before ++ text ++ drop end before

-- a text of n bytes stands at the buffer's start, and the buffer's other bytes are as they were
pub record Begins (before text after : List ℕ) (n : ℕ) : Type 0 where
  pub within : IsPrefixLen n after
  pub size : n ≡ length text
  pub text_is : take n after ≡ text
  pub rest_kept : drop n after ≡ drop n before
