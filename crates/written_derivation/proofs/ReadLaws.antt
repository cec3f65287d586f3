-- How many words a clause and a line are, and the words of more lines; then document 01's reading of lines where their
-- words stand in a file: one line, of each kind, the lines one after another, and the walk over them. Assumes nothing
-- of the file but that the words stand there.
use mathlib.Core.Path.{◌≡◌, refl, sym, ap, ap₂, ◌∙◌}
use mathlib.Core.Bool.{true, ◌||◌}
use mathlib.Core.List.{List, [], ◌∷◌, ◌++◌, append_assoc}
use Rattle.std.specs.Prelude.{None}
use Prim.Native.Nat.{ℕ, suc, ◌+◌, ◌/◌, ◌%◌, ◌^◌, ◌≤◌, ◌<◌}
use native.Mathlib.Omega.{arith}
use lib.ListN.{length, length-append}
use lib.Dec.{eqb}
use borrow.Author.Tests.{eq-eqb, le-leb}
use Rattle.resolution.specs.Resolution.{Annotated, Line, blocking, resolvent, derived, line_at}
use Rattle.words.specs.Walk.{elements, later, walk}
use Rattle.words.specs.Words.{word, words}
use Rattle.words.proofs.WalkLaws.{step_on}
use Rattle.words.proofs.WordsLaws.{Stand, stand_word, stand_first, stand_rest}
use Rattle.derivation.specs.DerivationFile.{kind, size, value_start, value_at, clause_of, line_of, after_line, lines_from}
use Rattle.derivation.specs.Check.{line_fits, walk_lines}
use Rattle.derivation.proofs.LineLaws.{after_blocking, after_resolvent, line_blocking, line_resolvent, value_before}
use Rattle.written_derivation.specs.File.{clause_words, line_words, lines_words}

-- The words of clauses and lines

pub length_clause_words : (c : Annotated) → length (clause_words c) ≡ length c.literals + 3
length_clause_words c = simp length-append (omega arith)

pub length_blocking : (c : Annotated) → length (line_words (blocking c)) ≡ 4 + length c.literals
unfolding line_words
length_blocking c = omega (arith, length_clause_words c)

pub length_resolvent : (c : Annotated) (v r u : ℕ) → length (line_words (resolvent c v r u)) ≡ 7 + length c.literals
unfolding line_words
length_resolvent c v r u = omega (arith, length-append (clause_words c) (v ∷ r ∷ u ∷ []), length_clause_words c)

pub lines_append : (ls more : List Line) → lines_words (ls ++ more) ≡ lines_words ls ++ lines_words more
unfolding lines_words
lines_append [] more = refl
lines_append (l ∷ ls) more = ap (line_words l ++◌) (lines_append ls more) ∙ sym (append_assoc (line_words l) (lines_words ls) (lines_words more))

-- One line

-- the clause of the line at word i, whatever the line's kind
module _ (d : List ℕ) (i : ℕ) (c : Annotated) (s : Stand d (i + 1) (clause_words c)) where
  size_back : size d i ≡ length c.literals
  size_back = stand_word d (i + 1) (clause_words c) s 0 (i + 1) (omega arith) (omega arith)

  after_size : Stand d (i + 2) (c.literals ++ (c.value % 2 ^ 32 ∷ c.value / 2 ^ 32 ∷ []))
  after_size = stand_rest d (i + 1) (length c.literals ∷ []) _ s (i + 2) (omega arith)

  literals_back : words d (i + 2) (size d i) ≡ c.literals
  literals_back = rw size_back (stand_first d (i + 2) c.literals _ after_size)

  value_back : value_at d (value_start d i) ≡ c.value
  unfolding value_at
  value_back =
      let at : ℕ = i + 2 + length c.literals in
      let both : Stand d at (c.value % 2 ^ 32 ∷ c.value / 2 ^ 32 ∷ []) = stand_rest d (i + 2) c.literals _ after_size at refl in
      let low : word d at ≡ c.value % 2 ^ 32 = stand_word d at _ both 0 at (omega arith) (omega arith) in
      let high : word d (at + 1) ≡ c.value / 2 ^ 32 = stand_word d at _ both 1 (at + 1) (omega arith) refl in
      rw size_back (omega arith)

  clause_back : clause_of d i ≡ c
  clause_back = λ j. record { literals = literals_back j; value = value_back j }

-- the line l is read at word i
record Read (d : List ℕ) (i : ℕ) (l : Line) : Type 0 where
  line_is : line_of d i ≡ l
  next_is : after_line d i ≡ i + length (line_words l)
  size_is : size d i ≡ length (derived l).literals
  of_kind : (eqb (kind d i) 1 || eqb (kind d i) 2) ≡ true

module _ (d : List ℕ) (i : ℕ) where
  blocking_back : (c : Annotated) → Stand d i (1 ∷ clause_words c) → Read d i (blocking c)
  unfolding line_words
  blocking_back c s =
      let one : kind d i ≡ 1 = stand_word d i _ s 0 i (omega arith) (omega arith) in
      let here : Stand d (i + 1) (clause_words c) = stand_rest d i (1 ∷ []) (clause_words c) s (i + 1) refl in
      let size_is = size_back d i c here in
      record {
        line_is = line_blocking d i one ∙ ap blocking (clause_back d i c here);
        next_is = after_blocking d i one ∙ omega (arith, length_blocking c);
        size_is = size_is;
        of_kind = rw one;
      }

  resolvent_back : (c : Annotated) (v r u : ℕ) → Stand d i (2 ∷ clause_words c ++ (v ∷ r ∷ u ∷ [])) → Read d i (resolvent c v r u)
  unfolding line_words
  resolvent_back c v r u s =
      let two : kind d i ≡ 2 = stand_word d i _ s 0 i (omega arith) (omega arith) in
      let here : Stand d (i + 1) (clause_words c ++ (v ∷ r ∷ u ∷ [])) = stand_rest d i (2 ∷ []) _ s (i + 1) refl in
      let of_clause : Stand d (i + 1) (clause_words c) = stand_first d (i + 1) (clause_words c) _ here in
      let size_is = size_back d i c of_clause in
      let at : ℕ = value_start d i + 2 in
      let added : Stand d at (v ∷ r ∷ u ∷ []) = stand_rest d (i + 1) (clause_words c) _ here at (omega (arith, length_clause_words c)) in
      let variable_is : word d at ≡ v = stand_word d at _ added 0 at (omega arith) (omega arith) in
      let true_side_is : word d (value_start d i + 3) ≡ r = stand_word d at _ added 1 _ (omega arith) (omega arith) in
      let false_side_is : word d (value_start d i + 4) ≡ u = stand_word d at _ added 2 _ (omega arith) (omega arith) in
      record {
        line_is =
            line_resolvent d i (λ e. omega arith)
            ∙ (λ j. resolvent (clause_back d i c of_clause j) (variable_is j) (true_side_is j) (false_side_is j));
        next_is = after_resolvent d i (λ e. omega arith) ∙ omega (arith, length_resolvent c v r u);
        size_is = size_is;
        of_kind = rw two;
      }

  line_back : (l : Line) → Stand d i (line_words l) → Read d i l
  unfolding line_words
  line_back (blocking c) s = blocking_back c s
  line_back (resolvent c v r u) s = resolvent_back c v r u s

-- The lines

module _ (d : List ℕ) where
  -- the first of them at word i, and the words of the rest after it
  module _ (i : ℕ) (l : Line) (ls : List Line) (s : Stand d i (line_words l ++ lines_words ls)) where
    first_back : Read d i l
    first_back = line_back d i l (stand_first d i (line_words l) (lines_words ls) s)

    rest_stand : Stand d (after_line d i) (lines_words ls)
    rest_stand = stand_rest d i (line_words l) (lines_words ls) s (after_line d i) (sym first_back.next_is)

  pub lines_back : (ls : List Line) (i : ℕ) → Stand d i (lines_words ls) → lines_from d (length ls) i ≡ ls
  unfolding lines_words elements
  lines_back [] i s = refl
  lines_back (l ∷ ls) i s = ap₂ ◌∷◌ (first_back i l ls s).line_is (lines_back ls (after_line d i) (rest_stand i l ls s))

  module _ (n end : ℕ) where
    fits_back : (i : ℕ) (l : Line) → Read d i l → length (derived l).literals ≤ n → i + length (line_words l) ≤ end → line_fits d n end i ≡ true
    unfolding line_fits
    fits_back i l here few h =
        let ends : after_line d i ≤ end = rw here.next_is h in
        let short : size d i ≤ n = rw here.size_is few in
        rw (le-leb (i + 2) end (omega (arith, value_before d i)), here.of_kind, le-leb (size d i) n short, le-leb (after_line d i) end ends)

    -- lines of at most n literals, of which the last ends before the word `end`
    pub walk_back : (ls : List Line) (i : ℕ) → Stand d i (lines_words ls) → ((k : ℕ) → k < length ls → length (derived (line_at ls k)).literals ≤ n)
        → i + length (lines_words ls) ≡ end → walk_lines d n end (length ls) i ≡ None
    unfolding lines_words walk
    walk_back [] i s few e = let h : i ≡ end = omega arith in rw (eq-eqb i end h)
    walk_back (l ∷ ls) i s few e =
        let here = first_back i l ls s in
        let ends : i + length (line_words l) + length (lines_words ls) ≡ end = omega (arith, length-append (line_words l) (lines_words ls)) in
        let rest = walk_back ls (after_line d i) (rest_stand i l ls s) (λ k h. few (suc k) (omega arith)) (rw here.next_is ends) in
        step_on (after_line d) (line_fits d n end) end (length ls) i (fits_back i l here (few 0 (omega arith)) (omega arith)) ∙ ap later rest
