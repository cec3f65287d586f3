-- A rule file from its parts as document 01 reads it: how long the file is, and that it gives the parts back where they
-- fit; then a prefix by its words; and where the clauses of an accepted file end. How clauses are read where their words stand is in FormulaWords. Assumes nothing.
use mathlib.Core.Path.{◌≡◌, refl, sym, ap, ap₂, ◌∙◌}
use mathlib.Core.Bool.{false}
use mathlib.Core.List.{List, [], ◌∷◌, ◌++◌}
use Rattle.std.specs.Prelude.{None}
use Prim.Native.Nat.{ℕ, ◌+◌, ◌-◌, ◌*◌, ◌≤◌, ◌<◌}
use native.Mathlib.Nat.{add_assoc}
use native.Mathlib.Omega.{arith}
use lib.ListN.{length, get_or, length-append}
use lib.Seq.{ext_get_or}
use Rattle.formula.specs.Formula.{some_of, out_of_range}
use Rattle.formula.specs.Nodes.{Every}
use Rattle.formula.specs.Quantifier.{existential}
use Rattle.limits.specs.Limits.{rule_trailer, max_bytes, max_variables, max_clauses}
use Rattle.words.specs.Words.{word, word_count, stated_count, next_word, words, Length}
use Rattle.words.proofs.BytesLaws.{length_bytes_of}
use Rattle.words.proofs.WalkLaws.{elements_length}
use Rattle.words.proofs.WordsLaws.{Stand, stand_word, stand_first, stand_rest, words_stand}
use Rattle.words.proofs.WordsBack.{FitWords, fit_nil, fit_cons, fit_append, words_back}
use Rattle.prefix_words.specs.Prefix.{quantifier}
use Rattle.clause_words.specs.Clauses.{clauses_from, walk_clauses}
use Rattle.rule_file.specs.ReaderLimits.{stored_limits}
use Rattle.rule_file.specs.RuleFile.{clause_count, variable_count, prefix_start, clauses, prefix}
use Rattle.rule_file.specs.Accepted.{AcceptedWithin}
use Rattle.rule_file.proofs.FileLaws.{prefix_length, quantifier_is}
use Rattle.repair.specs.File.{formula_words, rule_words, rule_bytes, weights}
use Rattle.repair.proofs.FormulaWords.{formula_small, formula_end, clauses_back, walk_clauses_back}

-- The file

pub rule_length : (φ : List (List ℕ)) (n : ℕ) (ws : List ℕ) → length (rule_bytes φ n ws) ≡ 4 * (length (formula_words φ) + length ws + 4)
unfolding rule_words
rule_length φ n ws =
    length_bytes_of (rule_words φ n ws) ∙ ap (4 *◌) (length-append (formula_words φ ++ ws) _ ∙ ap (◌+ 4) (length-append (formula_words φ) ws))

-- parts that fit in a rule file
pub record RuleFits (φ : List (List ℕ)) (n : ℕ) (ws : List ℕ) : Type 0 where
  pub few_variables : n ≤ max_variables
  pub few_clauses : length φ ≤ max_clauses
  pub short_clauses : Every (λ c. length c ≤ n) φ
  pub in_range : some_of (out_of_range n) φ ≡ false
  pub entries : length ws ≡ 2 * n
  pub fit_weights : FitWords ws
  pub few_bytes : length (rule_bytes φ n ws) ≤ max_bytes

-- document 01's reading of the file d passes 1, 2, 4 and 5 and gives the parts back
pub record RuleReadsAs (φ : List (List ℕ)) (n : ℕ) (ws d : List ℕ) : Type 0 where
  pub right_length : Length rule_trailer max_bytes d
  pub right_count : stated_count d ≡ word_count d
  pub clause_count_is : clause_count d ≡ length φ
  pub variable_count_is : variable_count d ≡ n
  pub prefix_start_is : prefix_start d ≡ length (formula_words φ)
  pub prefix_ends : prefix_start d + 2 * variable_count d ≡ word_count d - 4
  pub walked : walk_clauses d (variable_count d) (prefix_start d) (clause_count d) 0 ≡ None
  pub clauses_are : clauses d ≡ φ
  pub weights_are : weights d ≡ ws

module _ (φ : List (List ℕ)) (n : ℕ) (ws : List ℕ) (fits : RuleFits φ n ws) where
  abbrev file : List ℕ
  file = rule_bytes φ n ws

  -- the word after the clauses, where the prefix begins
  abbrev end : ℕ
  end = length (formula_words φ)

  abbrev trailer : List ℕ
  trailer = length φ ∷ n ∷ end ∷ (end + length ws + 4) ∷ []

  file_stands : Stand file 0 (formula_words φ ++ ws ++ trailer)
  unfolding rule_words
  file_stands =
      let size : 4 * (end + length ws + 4) ≤ max_bytes = rw (rule_length φ n ws) at fits.few_bytes in
      let small_trailer : FitWords trailer = fit_cons (omega arith) (fit_cons (omega arith) (fit_cons (omega arith) (fit_cons (omega arith) fit_nil))) in
      let small_formula = formula_small n fits.few_variables φ fits.short_clauses fits.in_range in
      words_back (rule_words φ n ws) (fit_append (fit_append small_formula fits.fit_weights) small_trailer)

  parts_stand : Stand file 0 (formula_words φ ++ ws)
  parts_stand = stand_first file 0 (formula_words φ ++ ws) trailer file_stands

  formula_stands : Stand file 0 (formula_words φ)
  formula_stands = stand_first file 0 (formula_words φ) ws parts_stand

  weights_stand : Stand file end ws
  weights_stand = stand_rest file 0 (formula_words φ) ws parts_stand end (omega arith)

  -- word j of the trailer is the file's word k
  trailer_word : (j k : ℕ) → j < 4 → end + length ws + j ≡ k → word file k ≡ get_or trailer j 0
  trailer_word =
      stand_word file (end + length ws) trailer
      (stand_rest file 0 (formula_words φ ++ ws) trailer file_stands (end + length ws) (omega (arith, length-append (formula_words φ) ws)))

  pub rule_back : RuleReadsAs φ n ws file
  rule_back =
      let words_are : word_count file ≡ end + length ws + 4 = omega (arith, rule_length φ n ws) in
      let count_is : clause_count file ≡ length φ = trailer_word 0 (word_count file - 4) (omega arith) (omega arith) in
      let variables_are : variable_count file ≡ n = trailer_word 1 (word_count file - 3) (omega arith) (omega arith) in
      let start_is : prefix_start file ≡ end = trailer_word 2 (word_count file - 2) (omega arith) (omega arith) in
      let stated : stated_count file ≡ end + length ws + 4 = trailer_word 3 (word_count file - 1) (omega arith) (omega arith) in
      record {
        right_length = record { whole_words = omega (arith, rule_length φ n ws); at_least = omega (arith, rule_length φ n ws); at_most = fits.few_bytes };
        right_count = stated ∙ sym words_are;
        clause_count_is = count_is;
        variable_count_is = variables_are;
        prefix_start_is = start_is;
        prefix_ends = omega (arith, fits.entries);
        walked = rw (count_is, variables_are, start_is) (walk_clauses_back file n end φ 0 formula_stands fits.short_clauses (omega arith));
        clauses_are = ap (λ k. clauses_from file k 0) count_is ∙ clauses_back file φ 0 formula_stands;
        weights_are = ap₂ (words file) start_is (ap (2 *◌) variables_are ∙ sym fits.entries) ∙ weights_stand;
      }

-- The prefix

pub weights_length : (b : List ℕ) → length (weights b) ≡ 2 * variable_count b
weights_length b = elements_length next_word (word b) (2 * variable_count b) (prefix_start b)

-- the weights stand where the prefix begins
own_weights : (b : List ℕ) → Stand b (prefix_start b) (weights b)
own_weights b = words_stand b (prefix_start b) (2 * variable_count b)

weight_at : (b : List ℕ) (j : ℕ) → j < 2 * variable_count b → word b (prefix_start b + j) ≡ get_or (weights b) j 0
weight_at b j h = stand_word b (prefix_start b) (weights b) (own_weights b) j _ (omega (arith, weights_length b)) refl

-- the prefix is its words
pub same_prefix : (b d : List ℕ) → variable_count d ≡ variable_count b → weights d ≡ weights b → prefix d ≡ prefix b
same_prefix b d count same = ext_get_or existential (prefix d) (prefix b) (prefix_length d ∙ count ∙ sym (prefix_length b)) entry
  where
    same_word : (j : ℕ) → j < 2 * variable_count d → word d (prefix_start d + j) ≡ word b (prefix_start b + j)
    same_word j h = weight_at d j h ∙ ap (λ ws. get_or ws j 0) same ∙ sym (weight_at b j (rw count at h))

    entry : (v : ℕ) → v < length (prefix d) → get_or (prefix d) v existential ≡ get_or (prefix b) v existential
    entry v h =
        let lt : v < variable_count d = rw (prefix_length d) at h in
        quantifier_is d v lt
        ∙ ap₂ quantifier (same_word (2 * v) (omega arith)) (simp add_assoc (same_word (2 * v + 1) (omega arith)))
        ∙ sym (quantifier_is b v (rw count at lt))

-- where the clauses of an accepted file end
pub formula_ends : (b : List ℕ) → AcceptedWithin stored_limits b → length (formula_words (clauses b)) ≡ prefix_start b
formula_ends b a = formula_end b (variable_count b) (prefix_start b) (clause_count b) a.walked
