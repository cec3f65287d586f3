-- A derivation's file as document 01 reads it: its words fit 32 bits where its lines do; how long the file is; and it
-- gives back its lines and its closing reference where they fit. How lines are read where their words stand is in
-- ReadLaws. Assumes nothing.
use mathlib.Core.Path.{◌≡◌, sym, ap, ◌∙◌}
use mathlib.Core.List.{List, [], ◌∷◌, ◌++◌}
use Rattle.std.specs.Prelude.{None}
use Prim.Native.Nat.{ℕ, suc, ◌+◌, ◌-◌, ◌*◌, ◌^◌, ◌≤◌, ◌<◌}
use native.Mathlib.Omega.{arith}
use lib.ListN.{length, get_or, length-append}
use Rattle.resolution.specs.Resolution.{Line, blocking, resolvent, derived, line_at}
use Rattle.limits.specs.Limits.{max_bytes, max_variables, max_lines}
use Rattle.words.specs.Words.{word, word_count, stated_count}
use Rattle.words.proofs.BytesLaws.{length_bytes_of}
use Rattle.words.proofs.WordsLaws.{Stand, stand_word, stand_first, stand_rest}
use Rattle.words.proofs.WordsBack.{FitWords, fit_nil, fit_cons, fit_append, words_back}
use Rattle.derivation.specs.DerivationFile.{trailer_start, line_count, closing_reference, lines_from, lines}
use Rattle.derivation.specs.Check.{walk_lines}
use Rattle.derivation.specs.WellFormed.{RightCounts}
use Rattle.written_derivation.specs.File.{clause_words, line_words, lines_words, derivation_words, derivation_bytes}
use Rattle.written_derivation.proofs.ReadLaws.{lines_back, walk_back}

-- The words of lines

-- what kind 2 adds
abbrev pub added : Line → List ℕ
added (blocking c) = []
added (resolvent c v r u) = v ∷ r ∷ u ∷ []

-- a line of at most n literals, whose literals and references fit one word and whose value fits two
pub record LineFits (n : ℕ) (l : Line) : Type 0 where
  pub few_literals : length (derived l).literals ≤ n
  pub small_literals : FitWords (derived l).literals
  pub small_value : (derived l).value < 2 ^ 64
  pub small_added : FitWords (added l)

module _ (n : ℕ) (few_variables : n ≤ max_variables) where
  clause_small : (l : Line) → LineFits n l → FitWords (clause_words (derived l))
  clause_small l f =
      fit_cons (omega arith) (fit_append f.small_literals (fit_cons (omega arith) (fit_cons (omega arith) fit_nil)))

  line_small : (l : Line) → LineFits n l → FitWords (line_words l)
  unfolding line_words
  line_small (blocking c) f = fit_cons (omega arith) (clause_small (blocking c) f)
  line_small (resolvent c v r u) f = fit_cons (omega arith) (fit_append (clause_small (resolvent c v r u) f) f.small_added)

  lines_small : (ls : List Line) → ((k : ℕ) → k < length ls → LineFits n (line_at ls k)) → FitWords (lines_words ls)
  unfolding lines_words
  lines_small [] fit = fit_nil
  lines_small (l ∷ ls) fit = fit_append (line_small l (fit 0 (omega arith))) (lines_small ls (λ k h. fit (suc k) (omega arith)))

-- The file

pub derivation_length : (ls : List Line) (r : ℕ) → length (derivation_bytes ls r) ≡ 4 * (length (lines_words ls) + 3)
unfolding derivation_words
derivation_length ls r = length_bytes_of (derivation_words ls r) ∙ ap (4 *◌) (length-append (lines_words ls) _)

-- the lines ls, over n variables, and the closing reference r fit in a file
pub record FileFits (n : ℕ) (ls : List Line) (r : ℕ) : Type 0 where
  pub few_variables : n ≤ max_variables
  pub few_lines : length ls ≤ max_lines
  pub lines_fit : (k : ℕ) → k < length ls → LineFits n (line_at ls k)
  pub small_reference : r < 2 ^ 32
  pub few_bytes : length (derivation_bytes ls r) ≤ max_bytes

-- document 01's reading of the file d passes 13 to 15 and gives ls and r
pub record ReadsAs (n : ℕ) (ls : List Line) (r : ℕ) (d : List ℕ) : Type 0 where
  pub right_counts : RightCounts d
  pub count_is : line_count d ≡ length ls
  pub reference_is : closing_reference d ≡ r
  pub lines_are : lines d ≡ ls
  pub walked : walk_lines d n (trailer_start d) (line_count d) 0 ≡ None

module _ (n : ℕ) (ls : List Line) (r : ℕ) (fits : FileFits n ls r) where
  abbrev file : List ℕ
  file = derivation_bytes ls r

  -- the word after the lines, where the trailer stands
  abbrev end : ℕ
  end = length (lines_words ls)

  abbrev trailer : List ℕ
  trailer = length ls ∷ r ∷ (end + 3) ∷ []

  file_stands : Stand file 0 (lines_words ls ++ trailer)
  unfolding derivation_words
  file_stands =
      let small_trailer : FitWords trailer = fit_cons (omega arith) (fit_cons fits.small_reference (fit_cons (omega (arith, derivation_length ls r)) fit_nil)) in
      words_back (derivation_words ls r) (fit_append (lines_small n fits.few_variables ls fits.lines_fit) small_trailer)

  lines_stand : Stand file 0 (lines_words ls)
  lines_stand = stand_first file 0 (lines_words ls) trailer file_stands

  -- word j of the trailer is the file's word k
  trailer_word : (j k : ℕ) → j < 3 → end + j ≡ k → word file k ≡ get_or trailer j 0
  trailer_word = stand_word file end trailer (stand_rest file 0 (lines_words ls) trailer file_stands end (omega arith))

  pub file_back : ReadsAs n ls r file
  file_back =
      let words_are : word_count file ≡ end + 3 = omega (arith, derivation_length ls r) in
      let count_is : line_count file ≡ length ls = trailer_word 0 (trailer_start file) (omega arith) (omega arith) in
      let stated : stated_count file ≡ end + 3 = trailer_word 2 (word_count file - 1) (omega arith) (omega arith) in
      record {
        right_counts =
            record {
              right_length = record { whole_words = omega (arith, derivation_length ls r); at_least = omega (arith, derivation_length ls r); at_most = fits.few_bytes };
              right_count = stated ∙ sym words_are;
              few_lines = rw count_is fits.few_lines;
            };
        count_is = count_is;
        reference_is = trailer_word 1 (word_count file - 2) (omega arith) (omega arith);
        lines_are = ap (λ k. lines_from file k 0) count_is ∙ lines_back file ls 0 lines_stand;
        walked =
            ap (λ k. walk_lines file n (trailer_start file) k 0) count_is
            ∙ walk_back file n (trailer_start file) ls 0 lines_stand (λ k h. (fits.lines_fit k h).few_literals) (omega arith);
      }
