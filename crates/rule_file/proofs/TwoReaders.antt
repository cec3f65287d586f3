-- Two readers, one chain of checks within other limits: where they agree, and what the one with the tighter limits
-- refuses beside. Over any limits, and then of the full reader and the small one. Assumes nothing.
use Rattle.std.specs.Prelude.{Err, Ok}
use mathlib.Core.Path.{◌≡◌, refl, sym, ◌∙◌}
use mathlib.Core.Bool.{Bool, true, false}
use mathlib.Core.Logic.{◌⊎◌, inl, inr, ◌↔◌}
use mathlib.Core.List.{List}
use Prim.Native.Nat.{ℕ, ◌≤◌, ◌<◌}
use native.Mathlib.Nat.{le_trans, lt_of_not-le, not-le_of_lt}
use native.Mathlib.Decide.{dec_le}
use lib.Dec.{lit≤}
use lib.ListN.{length}
use Rattle.limits.specs.Limits.{rule_trailer}
use Rattle.answer.specs.declared.Refusal.TheVariants as refusal
use Rattle.words.specs.Words.{wrong_length}
use Rattle.words.proofs.WordsLaws.{fails, decides_same, right_length}
use Rattle.rule_file.specs.ReaderLimits.{full_limits, small_limits}
use Rattle.rule_file.specs.RuleFile.{variable_count}
use Rattle.rule_file.specs.Reader.{wrong_count, too_many, read_from_3, read_within, read_file, read_small}
use Rattle.rule_file.specs.Accepted.{AcceptedWithin}
use Rattle.rule_file.specs.TwoReaders.{Tighter, WithinLimits, Compared, agree, over_bytes, over_variables}
use Rattle.rule_file.specs.declared.Limits.{Limits}
use Rattle.rule_file.specs.declared.Header.{Header}
use Rattle.rule_file.proofs.ReaderLaws.{check_2, check_3}
use Rattle.rule_file.proofs.AcceptedLaws.{answered_within}

-- a file that is not too long for either has a wrong length for both or for none
same_length : (least k l : ℕ) (b : List ℕ) → length b ≤ k → length b ≤ l → wrong_length least k b ≡ wrong_length least l b
same_length least k l b p q =
    decides_same (right_length least k b) (right_length least l b)
    (λ r. record { whole_words = r.whole_words; at_least = r.at_least; at_most = q })
    (λ r. record { whole_words = r.whole_words; at_least = r.at_least; at_most = p })

same_count : (k l : ℕ) (b : List ℕ) → variable_count b ≤ k → variable_count b ≤ l → too_many k b ≡ too_many l b
same_count k l b p q = decides_same (check_3 k b) (check_3 l b) (λ r. (q, r.1)) (λ r. (p, r.1))

-- what is accepted is within the limits
accepted_is_within : (k : Limits) (b : List ℕ) → AcceptedWithin k b → WithinLimits k b
accepted_is_within k b a = record { few_bytes = a.right_length.at_most; few_variables = a.few_variables }

module _ (k l : Limits) (tighter : Tighter k l) (b : List ℕ) where
  same_lengths : length b ≤ k.bytes → wrong_length rule_trailer k.bytes b ≡ wrong_length rule_trailer l.bytes b
  same_lengths h = same_length rule_trailer k.bytes l.bytes b h (le_trans h tighter.bytes)

  -- within the tighter limits the answers are the same, a refusal and its place too
  pub same_within : WithinLimits k b → read_within k b ≡ read_within l b
  unfolding read_within read_from_3
  same_within w =
      let few = w.few_variables in
      rw (same_lengths w.few_bytes, same_count k.variables l.variables b few (le_trans few tighter.variables), tighter.ordered)

  -- a file that is too long is refused by 1, whatever else is wrong
  refused_by_1 : k.bytes < length b → read_within k b ≡ Err refusal.FileLength
  unfolding read_within
  refused_by_1 h = rw (fails (right_length rule_trailer k.bytes b) (λ r. not-le_of_lt h r.at_most))

  -- one with too many variables is refused by 3, unless both readers refuse it by 1 or 2
  refused_by_3 : length b ≤ k.bytes → k.variables < variable_count b
      → (s t : Bool) → wrong_length rule_trailer k.bytes b ≡ s → wrong_count b ≡ t → Compared k b (read_within k b) (read_within l b)
  unfolding read_within read_from_3
  refused_by_3 p q true t e f = agree (rw (sym (same_lengths p), e))
  refused_by_3 p q false true e f = agree (rw (sym (same_lengths p), e, f))
  refused_by_3 p q false false e f =
      over_variables ((right_length rule_trailer k.bytes b).0 e) ((check_2 b).0 f) q
      (rw (e, f, fails (check_3 k.variables b) (λ r. not-le_of_lt q r.0)))

  -- so of every file: one answer, or the number of the limit that it passes
  pub compare : Compared k b (read_within k b) (read_within l b)
  compare = by_length (dec_le (length b) k.bytes) (dec_le (variable_count b) k.variables)
    where
      by_length : Dec (length b ≤ k.bytes) → Dec (variable_count b ≤ k.variables) → Compared k b (read_within k b) (read_within l b)
      by_length (no p) _ = over_bytes (lt_of_not-le p) (refused_by_1 (lt_of_not-le p))
      by_length (yes p) (yes q) = agree (same_within (record { few_bytes = p; few_variables = q }))
      by_length (yes p) (no q) = refused_by_3 p (lt_of_not-le q) _ _ refl refl

  -- it accepts what the other accepts within its limits
  pub accepts_within : (h : Header) → (read_within k b ≡ Ok h) ↔ ((read_within l b ≡ Ok h) × WithinLimits k b)
  accepts_within h = (
    λ e. let w = accepted_is_within k b (answered_within k b h e).0 in (sym (same_within w) ∙ e, w),
    λ (e, w). same_within w ∙ e,
  )

  -- and refuses by 1 or 3 what the other accepts beyond them
  pub refuses_beyond : (h : Header) → read_within l b ≡ Ok h → ¬ WithinLimits k b
      → (read_within k b ≡ Err refusal.FileLength) ⊎ (read_within k b ≡ Err refusal.TooMany)
  refuses_beyond h e beyond = by_case compare
    where
      by_case : Compared k b (read_within k b) (read_within l b) → (read_within k b ≡ Err refusal.FileLength) ⊎ (read_within k b ≡ Err refusal.TooMany)
      by_case (agree r) = absurd (beyond ((accepts_within h).0 (r ∙ e)).1)
      by_case (over_bytes _ r) = inl r
      by_case (over_variables _ _ _ r) = inr r

-- The small reader beside the full one

small_is_tighter : Tighter small_limits full_limits
small_is_tighter = record { bytes = lit≤ tt; variables = lit≤ tt; ordered = refl }

module _ (b : List ℕ) where
  pub small_same : WithinLimits small_limits b → read_small b ≡ read_file b
  unfolding read_small read_file
  small_same = same_within small_limits full_limits small_is_tighter b

  pub small_accepts : (h : Header) → (read_small b ≡ Ok h) ↔ ((read_file b ≡ Ok h) × WithinLimits small_limits b)
  unfolding read_small read_file
  small_accepts = accepts_within small_limits full_limits small_is_tighter b

  pub small_refuses : (h : Header) → read_file b ≡ Ok h → ¬ WithinLimits small_limits b
      → (read_small b ≡ Err refusal.FileLength) ⊎ (read_small b ≡ Err refusal.TooMany)
  unfolding read_small read_file
  small_refuses = refuses_beyond small_limits full_limits small_is_tighter b

  pub small_compared : Compared small_limits b (read_small b) (read_file b)
  unfolding read_small read_file
  small_compared = compare small_limits full_limits small_is_tighter b
