-- For each literal the set of the clauses in which it occurs, 64 clauses to a word. What the code alone needs; assumes
-- nothing.
use Rattle.std.specs.Prelude.{◌≡◌, Bool, List, [], ℕ, ◌+◌, ◌*◌, ◌/◌, ◌%◌, ◌<◌, length, get_or}
use Rattle.formula.specs.Formula.{opposite, member}
use Rattle.bit_set.specs.BitSet.{has}

-- whether the table has clause j in the set of the literal l: the words of clauses 64i to 64i + 63 are those from 64i
-- on, one a literal
abbrev pub has_clause : List ℕ → ℕ → ℕ → Bool
has_clause table j l = has (get_or table (64 * (j / 64) + l) 0) (j % 64)

-- it does exactly where l stands in clause j of φ
abbrev pub Occurrences : List (List ℕ) → List ℕ → Type 0
Occurrences φ table = (j l : ℕ) → j < length φ → l < 64 → has_clause table j l ≡ member l (get_or φ j [])

-- it does, of the first `count` clauses, exactly where the mask of clause j has l; that mask stands at `stride` times j
abbrev pub OccurrencesByMask : List ℕ → ℕ → ℕ → List ℕ → Type 0
OccurrencesByMask masks stride count table = (j l : ℕ) → j < count → l < 64 → has_clause table j l ≡ has (get_or masks (stride * j) 0) l

-- whether clause h of the 64 whose words stand from `words` on contains the opposite of l
abbrev pub opposes : List ℕ → ℕ → ℕ → ℕ → Bool
opposes table words h l = has (get_or table (words + opposite l) 0) h
