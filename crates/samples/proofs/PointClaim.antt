-- Every sample of marks and points has its answer, computed. Assumes nothing.
use mathlib.Core.Path.{◌≡◌, refl}
use mathlib.Core.List.{map}
use lib.Count.{count_trailing_zeros}
use lib.Ieee.{span, climb, size, odd, units, round, div, of_int, of_fields, of_bits}
use Rattle.formula.specs.Literals.{literal_status_by, clause_status_by, formula_status_by, unset_literals_by, is_unit_by, clash_by, node_status_by}
use Rattle.formula.specs.Formula.{are_opposite, some_of, out_of_range, repeats, unordered, ill_formed, equal, all_of}
use Rattle.formula.specs.LevelRules.{denominator_by}
use Rattle.formula.specs.Tree.{value, evaluate}
use Rattle.words.specs.Bytes.{word_bytes, bytes_of}
use Rattle.words.specs.Walk.{elements, first, first_copy_after, walk}
use Rattle.words.specs.Words.{word, wrong_length}
use Rattle.prefix_words.specs.Prefix.{quantifier, malformed}
use Rattle.clause_words.specs.Clauses.{clause_fits}
use Rattle.rule_file.specs.Reader.{wrong_count, too_many, wrong_prefix, too_large, read_from_8, read_from_26, read_from_6, read_from_5, read_from_3, read_within, read_file}
use Rattle.value.specs.Cut.{read_with_level, cut_file}
use Rattle.points.specs.Points.{share, marks_of, point_for, read_to_plot, marks_file, point_file}
use Rattle.samples.specs.Samples.{numbered}
use Rattle.samples.specs.PointSamples.{MarksSample, PointSample, marks_samples, point_samples}

pub marks_samples_hold :
    map (λ (s : MarksSample). numbered (marks_file (bytes_of s.file) s.level)) marks_samples ≡ map (λ (s : MarksSample). s.expected) marks_samples
unfolding literal_status_by clause_status_by formula_status_by some_of all_of out_of_range repeats unordered ill_formed equal
    unset_literals_by is_unit_by are_opposite clash_by node_status_by
    denominator_by value evaluate
    bytes_of word_bytes elements first first_copy_after walk word wrong_length quantifier
    wrong_count too_many wrong_prefix clause_fits malformed too_large read_from_8 read_from_26 read_from_6 read_from_5 read_from_3 read_within read_file
    read_with_level cut_file
    count_trailing_zeros span climb size odd units round div of_int of_fields of_bits share marks_of read_to_plot marks_file
    marks_samples
marks_samples_hold = refl

pub point_samples_hold :
    map (λ (s : PointSample). numbered (point_file (bytes_of s.file) s.level)) point_samples ≡ map (λ (s : PointSample). s.expected) point_samples
unfolding literal_status_by clause_status_by formula_status_by some_of all_of out_of_range repeats unordered ill_formed equal
    unset_literals_by is_unit_by are_opposite clash_by node_status_by
    denominator_by value evaluate
    bytes_of word_bytes elements first first_copy_after walk word wrong_length quantifier
    wrong_count too_many wrong_prefix clause_fits malformed too_large read_from_8 read_from_26 read_from_6 read_from_5 read_from_3 read_within read_file
    read_with_level cut_file
    count_trailing_zeros span climb size odd units round div of_int of_fields of_bits share marks_of point_for read_to_plot point_file
    point_samples
point_samples_hold = refl
