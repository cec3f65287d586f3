-- All that the program prints for document 01's example file, and for two files that are refused with a place. Assumes
-- nothing.
use mathlib.Core.Path.{◌≡◌, refl}
use Rattle.formula.specs.Literals.{literal_status_by, clause_status_by, formula_status_by, unset_literals_by, is_unit_by, clash_by, node_status_by}
use Rattle.formula.specs.Formula.{are_opposite, some_of, all_of, out_of_range, repeats, unordered, equal}
use Rattle.formula.specs.LevelRules.{denominator_by}
use Rattle.formula.specs.Tree.{value, evaluate}
use Rattle.buffer.specs.Text.{ascii, decimal_by, decimal, after_blanks, line}
use Rattle.words.specs.Bytes.{word_bytes, bytes_of}
use Rattle.words.specs.Walk.{elements, first, first_copy_after, walk}
use Rattle.words.specs.Words.{word, wrong_length}
use Rattle.prefix_words.specs.Prefix.{quantifier, malformed}
use Rattle.clause_words.specs.Clauses.{clause_fits}
use Rattle.rule_file.specs.Reader.{wrong_count, too_many, wrong_prefix, too_large, read_from_8, read_from_26, read_from_6, read_from_5, read_from_3, read_within, read_file}
use Rattle.report.specs.Report.{refusal_line, cut_line, cut_lines, head_text, accepted_text, report_text}
use Rattle.samples.specs.Samples.{example, variable_twice, not_rising}

pub example_text :
    report_text (bytes_of example)
    ≡ ascii "vars 3\nclauses 3\nwhole 50\nvalue 12\ncut 0 0 50 50\ncut 1 0 40 40\ncut 2 0 40 40\ncut 3 12 12 0\n"
unfolding report_text accepted_text head_text cut_lines cut_line line after_blanks decimal decimal_by ascii bytes_of word_bytes
    read_file read_within read_from_3 read_from_5 read_from_6 read_from_26 read_from_8 wrong_length wrong_count too_many wrong_prefix walk clause_fits first first_copy_after malformed too_large
    elements word quantifier out_of_range repeats unordered equal some_of
    denominator_by value evaluate literal_status_by clause_status_by formula_status_by all_of unset_literals_by is_unit_by are_opposite clash_by node_status_by
example_text = refl

pub refusal_text : report_text (bytes_of variable_twice) ≡ ascii "refused 7 1\n"
unfolding report_text refusal_line line after_blanks decimal decimal_by ascii bytes_of word_bytes
    read_file read_within read_from_3 read_from_5 read_from_6 wrong_length wrong_count too_many wrong_prefix walk clause_fits first
    elements word out_of_range repeats some_of
refusal_text = refl

pub order_text : report_text (bytes_of not_rising) ≡ ascii "refused 23 1\n"
unfolding report_text refusal_line line after_blanks decimal decimal_by ascii bytes_of word_bytes
    read_file read_within read_from_3 read_from_5 read_from_6 wrong_length wrong_count too_many wrong_prefix walk clause_fits first
    elements word out_of_range repeats unordered some_of
order_text = refl
