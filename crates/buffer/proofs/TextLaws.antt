-- Texts put into a buffer: the copy of one text, texts one after another, a text at the buffer's start, and one number
-- more. The digits of a number are in DecimalLaws. Assumes nothing.
use mathlib.Core.Path.{◌≡◌, sym, ap, ap₂, ◌∙◌}
use mathlib.Core.List.{List, [], ◌∷◌, ◌++◌, append-nil, append_assoc}
use Prim.Native.Nat.{ℕ, zero, suc, ◌+◌, ◌≤◌, ◌<◌, zero-le}
use native.Mathlib.Nat.{add-zero, le_of_suc-le-suc}
use native.Mathlib.Omega.{arith}
use native.Mathlib.Numerals.{add-one}
use lib.ListN.{length, take, drop, get_or, set, length-append, length-take, length-drop, take-append-drop}
use lib.Seq.{paste, paste-suc, take_all, take_at, drop_at, drop-drop, length-take-le}
use Rattle.buffer.specs.Text.{Put, decimal, after_blanks, Begins}

-- a copy goes on by one byte
pub paste_more :
    (before after : List ℕ) (at : ℕ) (text : List ℕ) (i : ℕ) → at + i < length before → i < length text
    → after ≡ paste before at text i → set after (at + i) (get_or text i 0) ≡ paste before at text (i + 1)
paste_more before after at text i h k e = rw (e, add-one) (paste-suc before at text i 0 h k)

-- a copy of the whole text
pub paste_all :
    (before after : List ℕ) (at : ℕ) (text : List ℕ) (i : ℕ) → i ≤ length text → length text ≤ i
    → after ≡ paste before at text i → Put before at text after (at + i)
paste_all before after at text i h k e =
    let n : i ≡ length text = omega arith in
    record { ends = ap (λ m. at + m) n; contents = e ∙ rw (take_all i text k) }

-- no text yet
pub put_nothing : (a : List ℕ) (i : ℕ) → Put a i [] a i
put_nothing a i =
    record { ends = sym (add-zero i); contents = sym (ap (λ l. l ++ drop i a) (append-nil (take i a)) ∙ take-append-drop i a) }

module _ {a b : List ℕ} {i j : ℕ} {s : List ℕ} (h : i ≤ length a) (p : Put a i s b j) where
  -- the buffer up to a text's end, and from there on
  length_front : length (take i a ++ s) ≡ j
  length_front = simp (length-append, length-take-le i a h) (sym p.ends)

  pub put_front : take j b ≡ take i a ++ s
  put_front = rw (p.contents, take_at (take i a ++ s) (drop j a) j length_front)

  put_past : drop j b ≡ drop j a
  put_past = rw (p.contents, drop_at (take i a ++ s) (drop j a) j length_front)

  -- a text after a text
  pub put_append : {c : List ℕ} {k : ℕ} {t : List ℕ} → Put b j t c k → Put a i (s ++ t) c k
  put_append {c} {k} {t} q =
      record {
        ends = rw length-append (omega (arith, p.ends, q.ends));
        contents = q.contents ∙ ap₂ (λ x y. x ++ t ++ y) put_front rest ∙ ap (λ x. x ++ drop k a) (append_assoc (take i a) s t);
      }
    where
      rest : drop k b ≡ drop k a
      rest = rw (q.ends, ← drop-drop (length t) j b, put_past, drop-drop)

-- the buffer stays as long as it was
pub put_length : {a b : List ℕ} {i j : ℕ} {s : List ℕ} → j ≤ length a → Put a i s b j → length b ≡ length a
put_length h p =
    ap length p.contents ∙ simp (length-append, length-take, length-drop) (omega (arith, p.ends))

-- a text at the buffer's start
pub put_begins : {before text after : List ℕ} {n : ℕ} → Put before 0 text after n → Begins before text after n
put_begins {text = text} {after} {n} p =
    let size : n ≡ length text = omega (arith, p.ends) in
    let front : take n after ≡ text = put_front zero-le p in
    record {
      within = (omega (arith, length-take n after, ap length front), size ∙ ap length (sym front));
      size = size;
      text_is = front;
      rest_kept = put_past zero-le p;
    }

-- one number more
pub blanks_more :
    (ns : List ℕ) (i : ℕ) → i < length ns → after_blanks (take (suc i) ns) ≡ after_blanks (take i ns) ++ 32 ∷ decimal (get_or ns i 0)
unfolding after_blanks
blanks_more [] i h = absurd (omega arith)
blanks_more (n ∷ ns) zero h = append-nil (32 ∷ decimal n)
blanks_more (n ∷ ns) (suc i) h =
    ap (λ l. 32 ∷ decimal n ++ l) (blanks_more ns i (le_of_suc-le-suc h))
    ∙ sym (append_assoc (32 ∷ decimal n) (after_blanks (take i ns)) (32 ∷ decimal (get_or ns i 0)))
