-- Checks that are Booleans, as facts, and so of a file's length; then words that stand one after another in a file; and
-- a part of a file: its bytes, its length and its words. Words one at a time are WalkLaws' elements. Assumes nothing.
use mathlib.Core.Path.{◌≡◌, refl, sym, ap, ap₂, ◌∙◌}
use mathlib.Core.Bool.{Bool, true, false, not}
use mathlib.Core.List.{List, [], ◌∷◌, ◌++◌}
use Prim.Native.Nat.{ℕ, zero, suc, ◌+◌, ◌-◌, ◌*◌, ◌≤◌, ◌<◌}
use native.Mathlib.Nat.{add-zero}
use native.Mathlib.Omega.{arith}
use lib.Dec.{eqb}
use lib.ListN.{length, take, drop, get_or, length-append, length-drop}
use lib.Seq.{length-take-le, get_or-take, get_or-drop, ext_get_or, take-append_seam, drop-append_seam}
use borrow.Author.Tests.{eq-eqb, eqb-true, le-ltb, ltb-false, le-leb, lt-leb, not-false}
use Rattle.formula.proofs.SomeLaws.{same_falsity, or_false}
use Rattle.words.specs.Walk.{start, elements}
use Rattle.words.specs.Words.{word, word_count, next_word, words, all_words, part, wrong_length, Length}
use Rattle.words.proofs.WalkLaws.{elements_length, element_is, elements_take, elements_drop, elements_add}

-- a Boolean check passes exactly where its fact holds
abbrev pub Decides : Bool → Type 0 → Type 0
Decides t P = (t ≡ false → P) × (P → t ≡ false)

pub fails : {t : Bool} {P : Type 0} → Decides t P → (P → ⊥) → t ≡ true
fails {t} {P} d f = go t refl
  where
    go : (s : Bool) → t ≡ s → t ≡ true
    go true e = e
    go false e = absurd (f (d.0 e))

-- checks of facts that follow from each other are equal
pub decides_same : {s t : Bool} {P Q : Type 0} → Decides s P → Decides t Q → (P → Q) → (Q → P) → s ≡ t
decides_same p q to from = same_falsity (λ e. q.1 (to (p.0 e)), λ e. p.1 (from (q.0 e)))

pub differs : (x y : ℕ) → Decides (not (eqb x y)) (x ≡ y)
differs x y = (λ e. eqb-true x y (not-false _ e), λ e. ap not (eq-eqb x y e))

-- check 1
pub right_length : (least most : ℕ) (b : List ℕ) → Decides (wrong_length least most b) (Length least most b)
unfolding wrong_length
right_length least most b = (
  λ e.
      let (e₁₂, e₃) = or_false _ _ e in
      let (e₁, e₂) = or_false _ _ e₁₂ in
      record { whole_words = eqb-true _ _ (not-false _ e₁); at_least = ltb-false _ _ e₂; at_most = ltb-false _ _ e₃ },
  λ l. simp (eq-eqb _ _ l.whole_words, le-ltb _ _ l.at_least, le-ltb _ _ l.at_most),
)

-- Words that stand in a file

word_start : (i j : ℕ) → start next_word i j ≡ i + j
unfolding start
word_start i zero = omega arith
word_start i (suc j) = let e : i + j + 1 ≡ i + suc j = omega arith in ap (◌+ 1) (word_start i j) ∙ e

-- the words ws stand in the file b from word i on
abbrev pub Stand : List ℕ → ℕ → List ℕ → Type 0
Stand b i ws = words b i (length ws) ≡ ws

module _ (b : List ℕ) (i : ℕ) where
  word_of : (count j : ℕ) → j < count → get_or (words b i count) j 0 ≡ word b (i + j)
  word_of count j h = element_is next_word (word b) 0 count i j h ∙ ap (word b) (word_start i j)

  -- word j of ws is the file's word k
  pub stand_word : (ws : List ℕ) → Stand b i ws → (j k : ℕ) → j < length ws → i + j ≡ k → word b k ≡ get_or ws j 0
  stand_word ws s j k h e = ap (word b) (sym e) ∙ sym (word_of (length ws) j h) ∙ ap (λ l. get_or l j 0) s

  pub stand_by_places : (ws : List ℕ) → ((j : ℕ) → j < length ws → word b (i + j) ≡ get_or ws j 0) → Stand b i ws
  stand_by_places ws same =
      let count : length (words b i (length ws)) ≡ length ws = elements_length next_word (word b) (length ws) i in
      ext_get_or 0 (words b i (length ws)) ws count (λ j h. word_of (length ws) j (rw count at h) ∙ same j (rw count at h))

  -- the first of them, and the rest, from word k on
  pub stand_first : (ws vs : List ℕ) → Stand b i (ws ++ vs) → Stand b i ws
  stand_first ws vs s =
      sym (elements_take next_word (word b) (length ws) (length (ws ++ vs)) i (simp length-append (omega arith)))
      ∙ ap (take (length ws)) s ∙ take-append_seam ws vs

  pub stand_rest : (ws vs : List ℕ) → Stand b i (ws ++ vs) → (k : ℕ) → i + length ws ≡ k → Stand b k vs
  stand_rest ws vs s k e =
      let left : length vs ≡ length (ws ++ vs) - length ws = simp length-append (omega arith) in
      ap₂ (words b) (sym (word_start i (length ws) ∙ e)) left
      ∙ sym (elements_drop next_word (word b) (length ws) (length (ws ++ vs)) i (simp length-append (omega arith)))
      ∙ ap (drop (length ws)) s ∙ drop-append_seam ws vs

  -- words, and from word k on more words
  pub stand_append : (ws vs : List ℕ) → Stand b i ws → (k : ℕ) → i + length ws ≡ k → Stand b k vs → Stand b i (ws ++ vs)
  stand_append ws vs s k e t =
      ap (words b i) (length-append ws vs) ∙ elements_add next_word (word b) (length ws) (length vs) i
      ∙ ap₂ ◌++◌ s (ap (λ x. words b x (length vs)) (word_start i (length ws) ∙ e) ∙ t)

  -- the file's own words
  pub words_stand : (count : ℕ) → Stand b i (words b i count)
  words_stand count = ap (words b i) (elements_length next_word (word b) count i)

-- A part of a file

-- a part that would leave the file
pub part_none : (b : List ℕ) (i k : ℕ) → word_count b < i + k → part b i k ≡ []
unfolding part
part_none b i k h = simp (lt-leb _ _ h)

module _ (b : List ℕ) (i k : ℕ) (within : i + k ≤ word_count b) where
  pub part_is : part b i k ≡ take (4 * k) (drop (4 * i) b)
  unfolding part
  part_is = simp (le-leb _ _ within)

  pub part_length : length (part b i k) ≡ 4 * k
  part_length =
      let h : 4 * k ≤ length (drop (4 * i) b) = simp length-drop (omega arith) in
      ap length part_is ∙ length-take-le (4 * k) (drop (4 * i) b) h

  byte_is : (j t : ℕ) → j < k → t < 4 → get_or (part b i k) (4 * j + t) 0 ≡ get_or b (4 * (i + j) + t) 0
  byte_is j t h h' =
      let lt : 4 * j + t < 4 * k = omega arith in
      let e : 4 * i + (4 * j + t) ≡ 4 * (i + j) + t = omega arith in
      rw part_is (get_or-take _ (drop (4 * i) b) _ 0 lt ∙ get_or-drop (4 * i) b _ 0 ∙ rw e)

  word_is : (j : ℕ) → j < k → word (part b i k) j ≡ word b (i + j)
  unfolding word
  word_is j h =
      let first : get_or (part b i k) (4 * j) 0 ≡ get_or b (4 * (i + j)) 0 = simp add-zero at (byte_is j 0 h (omega arith)) in
      rw (first, byte_is j 1 h (omega arith), byte_is j 2 h (omega arith), byte_is j 3 h (omega arith))

  words_are : (j left : ℕ) → j + left ≤ k → words (part b i k) j left ≡ words b (i + j) left
  unfolding elements
  words_are j zero h = refl
  words_are j (suc left) h =
      let e : i + (j + 1) ≡ i + j + 1 = omega arith in
      ap₂ ◌∷◌ (word_is j (omega arith)) (words_are (j + 1) left (omega arith) ∙ ap (λ x. words b x left) e)

  pub part_words : all_words (part b i k) ≡ words b i k
  part_words =
      let count : word_count (part b i k) ≡ k = omega (arith, part_length) in
      let e : i + 0 ≡ i = omega arith in
      rw count (words_are 0 k (omega arith) ∙ ap (λ x. words b x k) e)
