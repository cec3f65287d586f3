-- Words put into a buffer one after another. Texts in general are TextLaws. Assumes nothing.
use mathlib.Core.List.{List, [], ◌∷◌, ◌++◌, append-nil}
use Prim.Native.Nat.{ℕ, ◌≤◌}
use lib.ListN.{length}
use Rattle.buffer.specs.Text.{Put}
use Rattle.buffer.proofs.TextLaws.{put_append}
use Rattle.words.specs.Bytes.{word_bytes, bytes_of}
use Rattle.words.proofs.BytesLaws.{bytes_of_append}

-- a word, words after words, and a word after words
pub put_first_word : {a b : List ℕ} {i j : ℕ} (w : ℕ) → Put a i (word_bytes w) b j → Put a i (bytes_of (w ∷ [])) b j
unfolding bytes_of
put_first_word w p = rw append-nil p

module _ {a b c : List ℕ} {i j k : ℕ} (vs : List ℕ) (h : i ≤ length a) (p : Put a i (bytes_of vs) b j) where
  pub put_words_after : (ws : List ℕ) → Put b j (bytes_of ws) c k → Put a i (bytes_of (vs ++ ws)) c k
  put_words_after ws q = rw (bytes_of_append vs ws) (put_append h p q)

  pub put_word_after : (w : ℕ) → Put b j (word_bytes w) c k → Put a i (bytes_of (vs ++ (w ∷ []))) c k
  put_word_after w q = put_words_after (w ∷ []) (put_first_word w q)
