-- The bytes of words: how many they are, those of two lists one after the other, the word read back from its four
-- bytes; then four bytes as those of their word, and the first four of a list. How a buffer takes bytes is in TextLaws.
-- Assumes nothing.
use mathlib.Core.Path.{◌≡◌, refl, sym}
use mathlib.Core.List.{List, [], ◌∷◌, ◌++◌, append_assoc}
use Prim.Native.Nat.{ℕ, zero, suc, ◌+◌, ◌*◌, ◌/◌, ◌%◌, ◌^◌, ◌≤◌, ◌<◌}
use native.Mathlib.Nat.{le_of_suc-le-suc, mod-eq_of_lt, div-div-eq-div-mul}
use native.Mathlib.Omega.{arith}
use lib.ListN.{length, get_or, take, length-append}
use lib.Seq.{get_or-append-add}
use Rattle.words.specs.Bytes.{word_bytes, bytes_of}

pub length_word_bytes : (w : ℕ) → length (word_bytes w) ≡ 4
unfolding word_bytes
length_word_bytes w = refl

pub length_bytes_of : (ws : List ℕ) → length (bytes_of ws) ≡ 4 * length ws
unfolding bytes_of
length_bytes_of [] = refl
length_bytes_of (w ∷ ws) = simp (length-append, length_word_bytes, length_bytes_of ws) (omega arith)

pub bytes_of_append : (xs ys : List ℕ) → bytes_of (xs ++ ys) ≡ bytes_of xs ++ bytes_of ys
unfolding bytes_of
bytes_of_append [] ys = refl
bytes_of_append (x ∷ xs) ys = rw (bytes_of_append xs ys) (sym (append_assoc (word_bytes x) (bytes_of xs) (bytes_of ys)))

-- the bytes past the first word
past : (w : ℕ) (ws : List ℕ) (j : ℕ) → get_or (bytes_of (w ∷ ws)) (4 + j) 0 ≡ get_or (bytes_of ws) j 0
unfolding bytes_of word_bytes
past w ws j = get_or-append-add (word_bytes w) (bytes_of ws) j 0

next_byte : (w k : ℕ) → w / k ≡ 256 * (w / (k * 256)) + w / k % 256
next_byte w k = omega (arith, div-div-eq-div-mul w k 256)

first_word :
    (w : ℕ) (ws : List ℕ) → w < 2 ^ 32
    → get_or (bytes_of (w ∷ ws)) 0 0 + 256 * get_or (bytes_of (w ∷ ws)) 1 0 + 65536 * get_or (bytes_of (w ∷ ws)) 2 0
    + 16777216 * get_or (bytes_of (w ∷ ws)) 3 0
    ≡ w
unfolding bytes_of word_bytes
first_word w ws h =
    let small : w / 16777216 % 256 ≡ w / 16777216 = mod-eq_of_lt (omega arith) in
    omega (arith, next_byte w 256, next_byte w 65536)

-- the word at byte 4 * i
pub word_back :
    (ws : List ℕ) (i : ℕ) → i < length ws → ((k : ℕ) → k < length ws → get_or ws k 0 < 2 ^ 32)
    → get_or (bytes_of ws) (4 * i) 0 + 256 * get_or (bytes_of ws) (4 * i + 1) 0 + 65536 * get_or (bytes_of ws) (4 * i + 2) 0
    + 16777216 * get_or (bytes_of ws) (4 * i + 3) 0
    ≡ get_or ws i 0
word_back [] i h fit = absurd (omega arith)
word_back (w ∷ ws) zero h fit = first_word w ws (fit 0 h)
word_back (w ∷ ws) (suc i) h fit =
    let e₁ : 4 * suc i + 1 ≡ 4 + (4 * i + 1) = omega arith in
    let e₂ : 4 * suc i + 2 ≡ 4 + (4 * i + 2) = omega arith in
    let e₃ : 4 * suc i + 3 ≡ 4 + (4 * i + 3) = omega arith in
    let e₀ : 4 * suc i ≡ 4 + 4 * i = omega arith in
    rw (e₁, e₂, e₃, e₀) (simp past (word_back ws i (le_of_suc-le-suc h) (λ k k<. fit (suc k) (omega arith))))

low_byte : (x q : ℕ) → x < 256 → (x + 256 * q) % 256 ≡ x
low_byte x q h = omega arith

-- four bytes are those of their word
pub four_bytes : (x y z t : ℕ) → x < 256 → y < 256 → z < 256 → t < 256
    → word_bytes (x + 256 * y + 65536 * z + 16777216 * t) ≡ x ∷ y ∷ z ∷ t ∷ []
unfolding word_bytes
four_bytes x y z t hx hy hz ht =
    let w : ℕ = x + 256 * y + 65536 * z + 16777216 * t in
    let e₀ : w ≡ x + 256 * (y + 256 * z + 65536 * t) = omega arith in
    let e₁ : w / 256 ≡ y + 256 * (z + 256 * t) = omega arith in
    let e₂ : w / 65536 ≡ z + 256 * t = omega arith in
    let e₃ : w / 16777216 ≡ t + 256 * 0 = omega arith in
    rw (e₁, e₂, e₃, e₀, low_byte x _ hx, low_byte y _ hy, low_byte z _ hz, low_byte t _ ht)

-- the first four of a list
pub take_four : (xs : List ℕ) → 4 ≤ length xs → take 4 xs ≡ get_or xs 0 0 ∷ get_or xs 1 0 ∷ get_or xs 2 0 ∷ get_or xs 3 0 ∷ []
take_four (x ∷ y ∷ z ∷ t ∷ xs) h = refl
take_four (x ∷ y ∷ z ∷ []) h = absurd (omega arith)
take_four (x ∷ y ∷ []) h = absurd (omega arith)
take_four (x ∷ []) h = absurd (omega arith)
take_four [] h = absurd (omega arith)
