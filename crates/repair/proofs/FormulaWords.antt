-- The words of clauses: those of more clauses, and that they fit 32 bits where the literals are in range; how many the
-- clauses of a file take, by where the next one stands and by a walk without fault; then document 01's reading of
-- clauses where their words stand in a file: one clause, the clauses one after another, and the walk over them. Assumes
-- nothing of the file but that the words stand there.
use mathlib.Core.Path.{◌≡◌, refl, sym, ap, ap₂, ◌∙◌}
use mathlib.Core.Bool.{true, false}
use mathlib.Core.List.{List, [], ◌∷◌, ◌++◌, append_assoc}
use Rattle.std.specs.Prelude.{None}
use Prim.Native.Nat.{ℕ, zero, suc, ◌+◌, ◌≤◌}
use native.Mathlib.Numerals.{one-add}
use native.Mathlib.Omega.{arith}
use lib.ListN.{length, length-append}
use borrow.Author.Tests.{eq-eqb, le-leb}
use Rattle.formula.specs.Formula.{some_of, out_of_range}
use Rattle.formula.specs.Nodes.{Every}
use Rattle.formula.proofs.NodesLaws.{every_cons}
use Rattle.formula.proofs.SomeLaws.{none_first, none_rest}
use Rattle.formula.proofs.Membership.{in_range_iff}
use Rattle.limits.specs.Limits.{max_variables}
use Rattle.words.specs.Walk.{start, elements, later, walk}
use Rattle.words.specs.Words.{word, next_word, words}
use Rattle.words.proofs.WalkLaws.{start_next, elements_length, step_on, walked_end}
use Rattle.words.proofs.WordsLaws.{Stand, stand_word, stand_first, stand_rest}
use Rattle.words.proofs.WordsBack.{FitWords, fit_nil, fit_cons, fit_append}
use Rattle.clause_words.specs.Clauses.{after_clause, clause_at, clause_start, clauses_from, clause_fits, walk_clauses}
use Rattle.clause_words.proofs.ClauseLaws.{fits_by_length}
use Rattle.repair.specs.File.{formula_words}

pub formula_words_append : (φ ψ : List (List ℕ)) → formula_words (φ ++ ψ) ≡ formula_words φ ++ formula_words ψ
unfolding formula_words
formula_words_append [] ψ = refl
formula_words_append (c ∷ φ) ψ = ap ((length c ∷ c) ++◌) (formula_words_append φ ψ) ∙ sym (append_assoc (length c ∷ c) (formula_words φ) (formula_words ψ))

-- clauses of at most n literals, each under 2n, fit words of 32 bits
pub formula_small : (n : ℕ) → n ≤ max_variables → (φ : List (List ℕ)) → Every (λ c. length c ≤ n) φ → some_of (out_of_range n) φ ≡ false
    → FitWords (formula_words φ)
unfolding formula_words
formula_small n few [] short in_range = fit_nil
formula_small n few (c ∷ φ) short in_range =
    let (first, rest) = (every_cons (λ c. length c ≤ n) c φ).1 short in
    let small : FitWords c = λ l m. let h = (in_range_iff n c).0 (none_first (out_of_range n) c φ in_range) l m in omega arith in
    fit_append (fit_cons (omega arith) small) (formula_small n few φ rest (none_rest (out_of_range n) c φ in_range))

-- The clauses of a file

module _ (b : List ℕ) where
  -- a clause has as many literals as its first word says
  pub clause_length : (i : ℕ) → length (clause_at b i) ≡ word b i
  clause_length i = elements_length next_word (word b) (word b i) (i + 1)

  -- with that word, its own words
  pub own_words : (i : ℕ) → words b i (1 + word b i) ≡ word b i ∷ clause_at b i
  unfolding elements
  own_words i = ap (words b i) (one-add (word b i))

  -- j clauses from word i on end where the next one stands
  words_end : (j i : ℕ) → i + length (formula_words (clauses_from b j i)) ≡ start (after_clause b) i j
  unfolding formula_words elements start
  words_end zero i = omega arith
  words_end (suc j) i =
      let rest = words_end j (after_clause b i) ∙ start_next (after_clause b) i j in
      omega (arith, clause_length i, length-append (clause_at b i) (formula_words (clauses_from b j (after_clause b i))))

  -- the words of the first j clauses end where clause j stands
  pub formula_start : (j : ℕ) → length (formula_words (clauses_from b j 0)) ≡ clause_start b j
  formula_start j = omega (arith, words_end j 0)

  -- so those of all clauses, where a walk without fault ends
  pub formula_end : (n end count : ℕ) → walk_clauses b n end count 0 ≡ None → length (formula_words (clauses_from b count 0)) ≡ end
  formula_end n end count w = formula_start count ∙ walked_end (after_clause b) (clause_fits b n end) end count 0 w

-- Reading back

module _ (d : List ℕ) where
  -- the first clause at word i, and the words of the rest after it
  module _ (i : ℕ) (c : List ℕ) (φ : List (List ℕ)) (s : Stand d i ((length c ∷ c) ++ formula_words φ)) where
    first_stand : Stand d i (length c ∷ c)
    first_stand = stand_first d i (length c ∷ c) (formula_words φ) s

    length_back : word d i ≡ length c
    length_back = stand_word d i (length c ∷ c) first_stand 0 i (omega arith) (omega arith)

    clause_back : clause_at d i ≡ c
    clause_back = rw length_back (stand_rest d i (length c ∷ []) c first_stand (i + 1) refl)

    rest_stand : Stand d (after_clause d i) (formula_words φ)
    rest_stand = stand_rest d i (length c ∷ c) (formula_words φ) s (after_clause d i) (omega (arith, length_back))

  pub clauses_back : (φ : List (List ℕ)) (i : ℕ) → Stand d i (formula_words φ) → clauses_from d (length φ) i ≡ φ
  unfolding formula_words elements
  clauses_back [] i s = refl
  clauses_back (c ∷ φ) i s = ap₂ ◌∷◌ (clause_back i c φ s) (clauses_back φ (after_clause d i) (rest_stand i c φ s))

  module _ (n end : ℕ) where
    fits_back : (i : ℕ) → word d i ≤ n → after_clause d i ≤ end → clause_fits d n end i ≡ true
    fits_back i short ends = sym (fits_by_length d n end i (omega arith) ends) ∙ le-leb (word d i) n short

    -- clauses of at most n literals, of which the last ends right before the word `end`
    pub walk_clauses_back : (φ : List (List ℕ)) (i : ℕ) → Stand d i (formula_words φ) → Every (λ c. length c ≤ n) φ
        → i + length (formula_words φ) ≡ end → walk_clauses d n end (length φ) i ≡ None
    unfolding formula_words walk
    walk_clauses_back [] i s few e = let h : i ≡ end = omega arith in rw (eq-eqb i end h)
    walk_clauses_back (c ∷ φ) i s few e =
        let (first, rest) = (every_cons (λ c. length c ≤ n) c φ).1 few in
        let size = length_back i c φ s in
        let ends : after_clause d i + length (formula_words φ) ≡ end = omega (arith, length-append c (formula_words φ)) in
        step_on (after_clause d) (clause_fits d n end) end (length φ) i (fits_back i (rw size first) (omega arith))
        ∙ ap later (walk_clauses_back φ (after_clause d i) (rest_stand i c φ s) rest ends)
