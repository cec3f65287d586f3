-- Numbers that fit words of 32 bits, and that they are read back from their bytes; and a part of a file, and a whole
-- file, as the bytes of its words. Assumes nothing.
use mathlib.Core.Path.{◌≡◌, refl, sym, ap, ap₂, ◌∙◌}
use mathlib.Core.List.Memᴰ
use mathlib.Core.List.{List, [], ◌∷◌, ◌++◌}
use Prim.Native.Nat.{ℕ, zero, suc, ◌+◌, ◌*◌, ◌^◌, ◌≤◌, ◌<◌}
use native.Mathlib.Nat.{add-zero}
use native.Mathlib.Omega.{arith}
use lib.ListN.{length, get_or, take, drop, length-drop}
use lib.Seq.{take-add, drop-drop, get_or-drop}
use Rattle.formula.specs.Nodes.{Every}
use Rattle.formula.proofs.NodesLaws.{every_cons, every_append}
use Rattle.formula.proofs.Membership.{get_or_in}
use Rattle.words.specs.Bytes.{word_bytes, bytes_of}
use Rattle.words.specs.Walk.{elements}
use Rattle.words.specs.Words.{word, word_count, words, part}
use Rattle.words.proofs.BytesLaws.{word_back, four_bytes, take_four}
use Rattle.words.proofs.WordsLaws.{Stand, stand_by_places, part_is}

abbrev pub FitWords : List ℕ → Type 0
FitWords ws = Every (λ w. w < 2 ^ 32) ws

pub fit_nil : FitWords []
fit_nil w m = absurd (Memᴰ.not-nil m)

pub fit_cons : {w : ℕ} {ws : List ℕ} → w < 2 ^ 32 → FitWords ws → FitWords (w ∷ ws)
fit_cons {w} {ws} h s = (every_cons (λ w. w < 2 ^ 32) w ws).0 (h, s)

pub fit_append : {ws vs : List ℕ} → FitWords ws → FitWords vs → FitWords (ws ++ vs)
fit_append {ws} {vs} = every_append (λ w. w < 2 ^ 32) ws vs

-- the file of the words ws has them from word 0 on
pub words_back : (ws : List ℕ) → FitWords ws → Stand (bytes_of ws) 0 ws
unfolding word
words_back ws small =
    stand_by_places (bytes_of ws) 0 ws
    (λ i h. let e : 0 + i ≡ i = omega arith in rw e (word_back ws i h (λ k l. small (get_or ws k 0) (get_or_in ws k 0 l))))

-- A file whose bytes are bytes, and its parts

module _ (b : List ℕ) (bytes : (i : ℕ) → get_or b i 0 < 256) where
  -- the four bytes of word i
  word_bytes_are : (i : ℕ) → i < word_count b → take 4 (drop (4 * i) b) ≡ word_bytes (word b i)
  unfolding word
  word_bytes_are i h =
      let long : 4 ≤ length (drop (4 * i) b) = simp length-drop (omega arith) in
      simp (get_or-drop, add-zero) at (take_four (drop (4 * i) b) long)
      ∙ sym (four_bytes _ _ _ _ (bytes (4 * i)) (bytes (4 * i + 1)) (bytes (4 * i + 2)) (bytes (4 * i + 3)))

  -- the bytes of k words, one word at a time
  part_from : (k i : ℕ) → i + k ≤ word_count b → take (4 * k) (drop (4 * i) b) ≡ bytes_of (words b i k)
  unfolding elements bytes_of
  part_from zero i h = refl
  part_from (suc k) i h =
      let e : 4 * suc k ≡ 4 + 4 * k = omega arith in
      let next : 4 * i + 4 ≡ 4 * (i + 1) = omega arith in
      let rest : drop 4 (drop (4 * i) b) ≡ drop (4 * (i + 1)) b = drop-drop 4 (4 * i) b ∙ ap (λ j. drop j b) next in
      ap (λ j. take j (drop (4 * i) b)) e ∙ take-add 4 (4 * k) (drop (4 * i) b)
      ∙ ap₂ ◌++◌ (word_bytes_are i (omega arith)) (ap (take (4 * k)) rest ∙ part_from k (i + 1) (omega arith))

  -- a part is the bytes of its words
  pub part_bytes : (i k : ℕ) → i + k ≤ word_count b → part b i k ≡ bytes_of (words b i k)
  part_bytes i k h = part_is b i k h ∙ part_from k i h
