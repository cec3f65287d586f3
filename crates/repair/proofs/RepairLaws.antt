-- The repaired file of a stored one: its parts fit, so that it is read back; it is not longer; and where a file is in
-- order and without copies there is nothing to count. Then the file as it is written. Assumes nothing.
use mathlib.Core.Path.{◌≡◌, sym, ap, ap₂, ◌∙◌, subst}
use mathlib.Core.Bool.{false}
use mathlib.Core.List.{List, [], ◌∷◌, ◌++◌}
use Prim.Native.Nat.{ℕ, zero, suc, ◌+◌, ◌-◌, ◌*◌, ◌/◌, ◌≤◌}
use native.Mathlib.Omega.{arith}
use lib.ListN.{length}
use Rattle.std.proofs.lemmas.Bool.Decides.{nat_tests}
use Rattle.formula.specs.Formula.{some_of, out_of_range, unordered, equal}
use Rattle.formula.proofs.SomeLaws.{none_first, none_rest}
use Rattle.formula.proofs.Membership.{none_of}
use Rattle.formula.proofs.CopyLaws.{NoCopies}
use Rattle.formula.proofs.OrderLaws.{ordered_short}
use Rattle.limits.specs.Limits.{max_weight, max_bytes, max_variables, max_clauses}
use Rattle.buffer.specs.Text.{Put}
use Rattle.words.specs.Bytes.{bytes_of}
use Rattle.words.specs.Walk.{elements}
use Rattle.words.specs.Words.{word, next_word, words, word_count}
use Rattle.words.proofs.WalkLaws.{elements_length}
use Rattle.words.proofs.BytesLaws.{length_bytes_of}
use Rattle.words.proofs.PutLaws.{put_words_after}
use Rattle.words.proofs.WordsBack.{FitWords, fit_nil, fit_cons}
use Rattle.prefix_words.specs.Prefix.{quantifier, quantifier_at, prefix_from, malformed}
use Rattle.rule_file.specs.ReaderLimits.{stored_limits}
use Rattle.rule_file.specs.RuleFile.{clause_count, variable_count, prefix_start, clauses}
use Rattle.rule_file.specs.Accepted.{AcceptedWithin}
use Rattle.rule_file.proofs.FileLaws.{clauses_length}
use Rattle.stored_file.specs.declared.file.StoredFile.{StoredFile}
use Rattle.stored_file.proofs.FileLaws.{accepted, clauses_are, variables_are, prefix_is}
use Rattle.repair.specs.Clauses.{repaired, dropped_clauses, dropped_literals}
use Rattle.repair.specs.File.{formula_words, rule_words, weights}
use Rattle.repair.specs.Repair.{repaired_file, repairs}
use Rattle.repair.specs.Progress.{Held}
use Rattle.repair.specs.declared.Repairs.{Repairs}
use Rattle.repair.proofs.ListLaws.{kept_few, repaired_ordered, repaired_in_range, ordered_kept, ordered_not_reordered}
use Rattle.repair.proofs.ReadBack.{rule_length, RuleFits, RuleReadsAs, rule_back, weights_length, formula_ends}
use Rattle.repair.proofs.HeldLaws.{kept_length, repaired_shorter}

-- Weights that pass check 8 fit a word

small_weights : (s t : ℕ) → malformed (quantifier s t) ≡ false → (s ≤ max_weight) × (t ≤ max_weight)
unfolding malformed quantifier
small_weights s t e = grind (arith, nat_tests)

fit_entries : (b : List ℕ) (left i : ℕ) → some_of malformed (prefix_from b left i) ≡ false → FitWords (words b i (2 * left))
unfolding elements
fit_entries b zero i e = fit_nil
fit_entries b (suc left) i e =
    let twice : 2 * suc left ≡ suc (suc (2 * left)) = omega arith in
    let next : i + 1 + 1 ≡ i + 2 = omega arith in
    let (s, t) = small_weights (word b i) (word b (i + 1)) (none_first malformed (quantifier_at b i) (prefix_from b left (i + 2)) e) in
    let rest = fit_entries b left (i + 2) (none_rest malformed (quantifier_at b i) (prefix_from b left (i + 2)) e) in
    rw (twice, next) (fit_cons {w = word b i} (omega arith) (fit_cons {w = word b (i + 1)} (omega arith) rest))

module _ (b : List ℕ) (a : AcceptedWithin stored_limits b) where
  pub repaired_length : length (repaired_file b) ≡ 4 * (length (formula_words (repaired (clauses b))) + 2 * variable_count b + 4)
  unfolding repaired_file
  repaired_length = omega (arith, rule_length (repaired (clauses b)) (variable_count b) (weights b), weights_length b)

  pub not_longer : length (repaired_file b) ≤ length b
  not_longer = omega (arith, repaired_length, repaired_shorter (clauses b), formula_ends b a, a.prefix_ends, a.right_length.at_least)

  -- no more clauses than before
  pub few_repaired : length (repaired (clauses b)) ≤ clause_count b
  few_repaired = omega (arith, kept_length (clauses b), kept_few (clauses b), clauses_length b)

  repaired_fits : RuleFits (repaired (clauses b)) (variable_count b) (weights b)
  unfolding repaired_file
  repaired_fits =
      let in_range = repaired_in_range (variable_count b) (clauses b) a.in_range in
      record {
        few_variables = a.few_variables;
        few_clauses = omega (arith, few_repaired, a.few_clauses);
        short_clauses = λ c m. ordered_short (variable_count b) c (none_of (out_of_range (variable_count b)) in_range m) (none_of unordered (repaired_ordered (clauses b)) m);
        in_range = in_range;
        entries = weights_length b;
        fit_weights = fit_entries b (variable_count b) (prefix_start b) a.well_formed;
        few_bytes = omega (arith, not_longer, a.right_length.at_most);
      }

  pub repaired_reads : RuleReadsAs (repaired (clauses b)) (variable_count b) (weights b) (repaired_file b)
  unfolding repaired_file
  repaired_reads = rule_back (repaired (clauses b)) (variable_count b) (weights b) repaired_fits

-- Nothing is to be counted of a file in order and without copies
pub in_order_counts : (b : List ℕ) → some_of unordered (clauses b) ≡ false → NoCopies equal (clauses b)
    → record { bytes = length b; clauses = 0; literals = 0; reordered = 0 } ≡ repairs b b
in_order_counts b in_order distinct =
    let no_clauses : 0 ≡ dropped_clauses (clauses b) (clauses b) = omega arith in
    let no_literals : 0 ≡ dropped_literals (clauses b) (clauses b) = rw (ordered_kept (clauses b) in_order distinct) (omega arith) in
    λ j. record { bytes = length b; clauses = no_clauses j; literals = no_literals j; reordered = sym (ordered_not_reordered (clauses b) in_order distinct) j }

-- The file as it is written: the clauses are held, the weights are put after them, and then the trailer
module _ (file : StoredFile) where
  abbrev b : List ℕ
  b = file.bytes.now

  abbrev a : AcceptedWithin stored_limits b
  a = accepted file

  pub few_clauses : file.header.clauses ≤ max_clauses
  few_clauses = omega (arith, clauses_are file, a.few_clauses)

  pub few_variables : file.header.variables ≤ max_variables
  few_variables = omega (arith, variables_are file, a.few_variables)

  pub few_file_bytes : length file.bytes.now ≤ max_bytes
  few_file_bytes = a.right_length.at_most

  pub header_clauses : length (clauses file.bytes.now) ≡ file.header.clauses
  header_clauses = omega (arith, clauses_length b, clauses_are file)

  -- where the weights stand, and that there is room for them and the trailer after the clauses
  pub weights_within : file.header.prefix + 2 * file.header.variables ≤ word_count file.bytes.now
  weights_within = omega (arith, variables_are file, prefix_is file, a.prefix_ends)

  pub weights_bytes : length (bytes_of (words file.bytes.now file.header.prefix (2 * file.header.variables))) ≡ 4 * (2 * file.header.variables)
  weights_bytes =
      length_bytes_of (words b file.header.prefix (2 * file.header.variables)) ∙ ap (4 *◌) (elements_length next_word (word b) (2 * file.header.variables) file.header.prefix)

  pub room_after : length (bytes_of (formula_words (repaired (clauses file.bytes.now)))) + 4 * (2 * file.header.variables) + 16 ≤ length file.bytes.now
  room_after = omega (arith, variables_are file, length_bytes_of (formula_words (repaired (clauses b))), repaired_length b a, not_longer b a)

  weights_are : words b file.header.prefix (2 * file.header.variables) ≡ weights b
  weights_are = ap₂ (λ i n. words b i (2 * n)) (prefix_is file) (variables_are file)

  module _ {before one two three : List ℕ} {x : Repairs} {y z : ℕ} (held : Held before (clauses b) one x)
      (weights_put : Put one x.bytes (bytes_of (words b file.header.prefix (2 * file.header.variables))) two y)
      (trailer : Put two y (bytes_of ((file.header.clauses - x.clauses) ∷ file.header.variables ∷ x.bytes / 4 ∷ (y / 4 + 4) ∷ [])) three z)
    where
      pub file_put : Put before 0 (repaired_file b) three z
      unfolding repaired_file rule_words
      file_put =
          let φ = repaired (clauses b) in
          let ws = words b file.header.prefix (2 * file.header.variables) in
          let clauses_end : x.bytes ≡ 4 * length (formula_words φ) = omega (arith, held.put.ends, length_bytes_of (formula_words φ)) in
          let m : file.header.clauses - x.clauses ≡ length φ = omega (arith, held.clauses_dropped, few_repaired b a, header_clauses, clauses_are file) in
          let start : x.bytes / 4 ≡ length (formula_words φ) = omega (arith, clauses_end) in
          let count : y / 4 + 4 ≡ length (formula_words φ) + length (weights b) + 4 = omega (arith, weights_put.ends, weights_bytes, clauses_end, weights_length b, variables_are file) in
          subst (λ all. Put before 0 (bytes_of all) three z)
          (λ j. formula_words φ ++ weights_are j ++ (m j ∷ variables_are file j ∷ start j ∷ count j ∷ []))
          (put_words_after (formula_words φ ++ ws) (omega arith) (put_words_after (formula_words φ) (omega arith) held.put ws weights_put) _ trailer)

      pub file_counts : record { bytes = z; clauses = x.clauses; literals = x.literals; reordered = x.reordered } ≡ repairs b (repaired_file b)
      file_counts =
          let new = sym (repaired_reads b a).clauses_are in
          let size : z ≡ length (repaired_file b) = omega (arith, file_put.ends) in
          let dropped = held.clauses_dropped ∙ ap (dropped_clauses (clauses b)) new in
          let fewer = held.literals_dropped ∙ ap (dropped_literals (clauses b)) new in
          λ j. record { bytes = size j; clauses = dropped j; literals = fewer j; reordered = held.clauses_reordered j }

pub ruleset write_steps = (few_clauses, few_variables, few_file_bytes, header_clauses, weights_within, weights_bytes, room_after)
