-- The definitions of the repair, computed: over clauses, and over the bytes of two files. Assumes nothing.
use Rattle.std.specs.Prelude.{Err, Ok}
use mathlib.Core.Path.{◌≡◌, refl}
use mathlib.Core.List.{List, [], ◌∷◌, map}
use Prim.Native.Nat.{ℕ}
use Rattle.formula.specs.Formula.{some_of, those, first_of_each, out_of_range, repeats, unordered, insert_once, rising, equal}
use Rattle.formula.specs.LevelRules.{denominator_by}
use Rattle.answer.specs.declared.Refusal.TheVariants as refusal
use Rattle.words.specs.Bytes.{word_bytes, bytes_of}
use Rattle.words.specs.Walk.{elements, first, first_copy_after, walk}
use Rattle.words.specs.Words.{word, wrong_length}
use Rattle.prefix_words.specs.Prefix.{quantifier, malformed}
use Rattle.clause_words.specs.Clauses.{clause_fits}
use Rattle.rule_file.specs.Reader.{wrong_count, too_many, wrong_prefix, too_large, read_from_8, read_from_26, read_from_6, read_from_5, read_from_3, read_within, read_file, read_stored}
use Rattle.repair.specs.Clauses.{tautological, repaired, literal_count, dropped_clauses, dropped_literals, reordered}
use Rattle.repair.specs.File.{formula_words, rule_words}
use Rattle.repair.specs.Repair.{repaired_file, repair_file}

-- one that falls, with a repeat; a tautology with a repeat; a copy of the first, with a repeat; one with a repeat that
-- does not fall; an empty one; a copy of the first that falls; a copy of the tautology; one that falls
abbrev before : List (List ℕ)
before = (4 ∷ 0 ∷ 4 ∷ []) ∷ (0 ∷ 1 ∷ 0 ∷ []) ∷ (0 ∷ 4 ∷ 0 ∷ []) ∷ (2 ∷ 2 ∷ []) ∷ [] ∷ (4 ∷ 0 ∷ []) ∷ (1 ∷ 0 ∷ []) ∷ (6 ∷ 3 ∷ []) ∷ []

abbrev after : List (List ℕ)
after = (0 ∷ 4 ∷ []) ∷ (2 ∷ []) ∷ [] ∷ (3 ∷ 6 ∷ []) ∷ []

pub example_repaired : repaired before ≡ after
unfolding tautological some_of those first_of_each insert_once rising equal
example_repaired = refl

-- clauses dropped, literals dropped, clauses reordered
pub example_counts : dropped_clauses before after ∷ dropped_literals before after ∷ reordered before ∷ [] ≡ 4 ∷ 2 ∷ 2 ∷ []
unfolding tautological some_of those first_of_each literal_count insert_once rising unordered equal
example_counts = refl

-- which of them are reordered, each by itself
pub example_reordered : map (λ c. reordered (c ∷ [])) before ≡ 1 ∷ 0 ∷ 0 ∷ 0 ∷ 0 ∷ 1 ∷ 0 ∷ 1 ∷ []
unfolding tautological some_of those first_of_each unordered
example_reordered = refl

-- a file of the clause 2, 0 over two existential variables: 7 and 23 are not asked
pub example_unordered : repair_file (bytes_of (2 ∷ 2 ∷ 0 ∷ 0 ∷ 0 ∷ 0 ∷ 0 ∷ 1 ∷ 2 ∷ 3 ∷ 11 ∷ [])) 44 ≡ Ok (bytes_of (2 ∷ 0 ∷ 2 ∷ 0 ∷ 0 ∷ 0 ∷ 0 ∷ 1 ∷ 2 ∷ 3 ∷ 11 ∷ []))
unfolding
    tautological some_of those first_of_each insert_once rising out_of_range repeats unordered denominator_by
    bytes_of word_bytes elements first first_copy_after walk word wrong_length quantifier
    wrong_count too_many wrong_prefix clause_fits malformed too_large read_from_8 read_from_26 read_from_6 read_from_5 read_from_3 read_within read_file read_stored
    formula_words rule_words repaired_file repair_file
example_unordered = refl

-- one of the clause 2, 2: the repaired file has 40 bytes, and still 43 are too few
pub example_room : repair_file (bytes_of (2 ∷ 2 ∷ 2 ∷ 0 ∷ 0 ∷ 0 ∷ 0 ∷ 1 ∷ 2 ∷ 3 ∷ 11 ∷ [])) 43 ≡ Err refusal.BufferTooShort
unfolding
    tautological some_of those first_of_each insert_once rising out_of_range repeats unordered denominator_by
    bytes_of word_bytes elements first first_copy_after walk word wrong_length quantifier
    wrong_count too_many wrong_prefix clause_fits malformed too_large read_from_8 read_from_26 read_from_6 read_from_5 read_from_3 read_within read_file read_stored
    formula_words rule_words repaired_file repair_file
example_room = refl
