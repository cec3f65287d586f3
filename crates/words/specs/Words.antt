-- The 32-bit words of a file, least byte first, and its parts. Assumes nothing; a byte past the file's end reads as 0.
use Rattle.std.specs.Prelude.{◌≡◌, Bool, cond, not, ◌||◌, List, [], ℕ, ◌+◌, ◌-◌, ◌*◌, ◌/◌, ◌%◌, ◌≤◌, leb, ltb, eqb, length, get_or, take, drop}
use Rattle.words.specs.Walk.{elements}

-- the word at index i
unfoldable pub word : List ℕ → ℕ → ℕ
word b i =
    get_or b (4 * i) 0 + 256 * get_or b (4 * i + 1) 0 + 65536 * get_or b (4 * i + 2) 0 + 16777216 * get_or b (4 * i + 3) 0

-- how many whole words the file has
abbrev pub word_count : List ℕ → ℕ
word_count b = length b / 4

-- the file's last word states how many there are
abbrev pub stated_count : List ℕ → ℕ
stated_count b = word b (word_count b - 1)

abbrev pub next_word : ℕ → ℕ
next_word i = i + 1

-- the k words from index i on
abbrev pub words : List ℕ → ℕ → ℕ → List ℕ
words b i k = elements next_word (word b) k i

-- all whole words of a part of a file: the literals of a clause that is handed over as such a part
abbrev pub all_words : List ℕ → List ℕ
all_words c = words c 0 (word_count c)

-- the bytes of the k words from index i on; none where they would leave the file
unfoldable pub part : List ℕ → ℕ → ℕ → List ℕ
part b i k = cond (leb (i + k) (word_count b)) (take (4 * k) (drop (4 * i) b)) []

-- the byte length is not a multiple of 4, under the least or over the most
unfoldable pub wrong_length : ℕ → ℕ → List ℕ → Bool
wrong_length least most b = not (eqb (length b % 4) 0) || ltb (length b) least || ltb most (length b)

-- a length that is not wrong_length
pub record Length (least most : ℕ) (b : List ℕ) : Type 0 where
  pub whole_words : length b % 4 ≡ 0
  pub at_least : least ≤ length b
  pub at_most : length b ≤ most
