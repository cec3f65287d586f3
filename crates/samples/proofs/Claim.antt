-- Every sample's question has its outcome, computed. Assumes nothing.
use mathlib.Core.Path.{◌≡◌, refl}
use mathlib.Core.List.{map}
use Rattle.formula.specs.Literals.{literal_status_by, clause_status_by, formula_status_by, unset_literals_by, is_unit_by, clash_by, node_status_by}
use Rattle.formula.specs.Formula.{are_opposite, some_of, those, first_of_each, out_of_range, repeats, unordered, ill_formed, without, insert_once, rising, equal, all_of}
use Rattle.formula.specs.LevelRules.{denominator_by}
use Rattle.formula.specs.Tree.{value, evaluate}
use Rattle.resolution.specs.Resolution.{level, is_resolvent, lookup, require, judge_resolvent, judge, first_fault, judge_from, empty_value}
use Rattle.words.specs.Bytes.{word_bytes, bytes_of}
use Rattle.words.specs.Walk.{elements, first, first_copy_after, walk}
use Rattle.words.specs.Words.{word, wrong_length}
use Rattle.prefix_words.specs.Prefix.{quantifier, malformed}
use Rattle.clause_words.specs.Clauses.{clause_fits}
use Rattle.rule_file.specs.Reader.{wrong_count, too_many, wrong_prefix, too_large, read_from_8, read_from_26, read_from_6, read_from_5, read_from_3, read_within, read_file, read_small, read_stored}
use Rattle.value.specs.Value.{figure_file, verdict, verdict_file, read_with_limits}
use Rattle.value.specs.Cut.{read_with_level, cut_file}
use Rattle.derivation.specs.DerivationFile.{value_at, line_of, after_line}
use Rattle.derivation.specs.Check.{wrong_counts, line_fits, check_from_21, check_from_17, check_from_15, check_from_13, check_file}
use Rattle.written_derivation.specs.Writing.{path_opposites_from, walk_tree}
use Rattle.written_derivation.specs.File.{line_words, lines_words, derivation_words}
use Rattle.written_derivation.specs.Derive.{derivation_for, too_long, derive_file}
use Rattle.repair.specs.Clauses.{tautological, literal_count}
use Rattle.repair.specs.File.{formula_words, rule_words}
use Rattle.repair.specs.Repair.{repaired_file, repair_file, repair_answer}
use Rattle.samples.specs.Samples.{Sample, ask, samples}

pub samples_hold : map (λ (s : Sample). ask s.question) samples ≡ map (λ (s : Sample). s.expected) samples
unfolding literal_status_by clause_status_by formula_status_by some_of all_of those first_of_each out_of_range repeats unordered ill_formed without insert_once rising equal
    unset_literals_by is_unit_by are_opposite clash_by node_status_by
    denominator_by value evaluate
    bytes_of word_bytes elements first first_copy_after walk word wrong_length quantifier
    wrong_count too_many wrong_prefix clause_fits malformed too_large read_from_8 read_from_26 read_from_6 read_from_5 read_from_3 read_within read_file read_small read_stored
    figure_file read_with_limits verdict verdict_file read_with_level cut_file
    level is_resolvent lookup require judge_resolvent judge first_fault judge_from empty_value
    value_at line_of after_line wrong_counts line_fits check_from_21 check_from_17 check_from_15 check_from_13 check_file
    path_opposites_from walk_tree line_words lines_words derivation_words derivation_for too_long derive_file
    tautological literal_count formula_words rule_words repaired_file repair_file repair_answer
    ask samples
samples_hold = refl
