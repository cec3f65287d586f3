-- The limits of files, each named once. Assumes nothing.
use Rattle.std.specs.Prelude.{ℕ, ◌^◌}

-- the longest file, a rule file or a derivation
abbrev pub max_bytes : ℕ
max_bytes = 65536

-- the longest rule file for the small reader
abbrev pub small_bytes : ℕ
small_bytes = 4096

-- the trailers, and so the shortest files: four words and three
abbrev pub rule_trailer : ℕ
rule_trailer = 16

abbrev pub derivation_trailer : ℕ
derivation_trailer = 12

abbrev pub max_variables : ℕ
max_variables = 32

abbrev pub small_variables : ℕ
small_variables = 16

abbrev pub max_clauses : ℕ
max_clauses = 1024

abbrev pub max_lines : ℕ
max_lines = 1024

abbrev pub max_weight : ℕ
max_weight = 65535

-- the largest product of all totals
abbrev pub max_whole : ℕ
max_whole = 2 ^ 60

-- the largest whole that is plotted: a double holds each number up to it
abbrev pub max_plotted : ℕ
max_plotted = 2 ^ 53
