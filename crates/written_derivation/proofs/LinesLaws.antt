-- Lines written one after another: what a line follows from stays where it is, and one more line that follows is kept.
-- Assumes nothing.
use Prim.Native.Nat.{ℕ, ◌+◌, ◌*◌, ◌≤◌, ◌<◌}
use native.Mathlib.Nat.{not-suc-le-zero}
use native.Mathlib.Decide.{dec_lt}
use native.Mathlib.Omega.{arith}
use mathlib.Core.Path.{◌≡◌, sym, subst}
use mathlib.Core.List.{List, [], ◌∷◌, ◌++◌}
use lib.ListN.{length, length-append, get_or-append}
use lib.Seq.{get_or-append_seam}
use Rattle.formula.specs.Quantifier.{Quantifier}
use Rattle.resolution.specs.Resolution.{Annotated, Line, derived, line_at, Names, clause, line, Follows, by_R2, by_R3}
use Rattle.written_derivation.proofs.Leaving.{KnownClause, Proved}

module _ (lines more : List Line) where
  line_stays : (i : ℕ) → i < length lines → line_at lines i ≡ line_at (lines ++ more) i
  line_stays i h = sym (get_or-append lines more _ i h)

  -- what a reference names among the lines, it names among more
  pub names_stays : {φ : List (List ℕ)} {k j r : ℕ} {c : Annotated} → k ≤ length lines → k ≤ j → Names φ lines k r c → Names φ (lines ++ more) j r c
  names_stays fits h (clause i b) = clause i b
  names_stays fits h (line i b) = rw (line_stays i (omega arith)) (line i (omega arith))

  follows_stays : {φ : List (List ℕ)} {qs : List Quantifier} {k : ℕ} {l : Line} → k ≤ length lines
      → Follows φ qs lines k l → Follows φ qs (lines ++ more) k l
  follows_stays fits (by_R2 b) = by_R2 b
  follows_stays {k} fits (by_R3 s t r) = by_R3 (names_stays fits (omega arith) s) (names_stays fits (omega arith) t) r

pub no_lines_proved : {φ : List (List ℕ)} {qs : List Quantifier} → Proved φ qs []
no_lines_proved = record { follow = λ k h. absurd (not-suc-le-zero h); clauses = λ k h. absurd (not-suc-le-zero h) }

-- one more line
module _ (lines : List Line) (l : Line) where
  abbrev longer : List Line
  longer = lines ++ (l ∷ [])

  last_line : line_at longer (length lines) ≡ l
  last_line = get_or-append_seam lines l [] _

  pub last_named : {φ : List (List ℕ)} → Names φ longer (length longer) (2 * length lines + 1) (derived l)
  last_named {φ} =
      subst (λ x. Names φ longer (length longer) (2 * length lines + 1) (derived x)) last_line (line (length lines) (rw length-append (omega arith)))

  -- a line of the longer list is an earlier one or the last
  line_cases : (P : ℕ → Line → Type 0) → ((k : ℕ) → k < length lines → P k (line_at lines k)) → P (length lines) l
      → (k : ℕ) → k < length longer → P k (line_at longer k)
  line_cases P earlier last k h = go (dec_lt k (length lines))
    where
      go : Dec (k < length lines) → P k (line_at longer k)
      go (yes b) = rw (← line_stays lines (l ∷ []) k b) (earlier k b)
      go (no n) = let e : k ≡ length lines = omega (arith, length-append lines (l ∷ [])) in rw (e, last_line) last

  -- where it follows from the others, all follow
  pub proved_append : {φ : List (List ℕ)} {qs : List Quantifier} → Proved φ qs lines → Follows φ qs lines (length lines) l → KnownClause φ qs (derived l)
      → Proved φ qs longer
  proved_append {φ} {qs} proved follows is = record {
    follow =
        line_cases (λ k x. Follows φ qs longer k x)
        (λ k h. follows_stays lines (l ∷ []) (omega arith) (proved.follow k h))
        (follows_stays lines (l ∷ []) (omega arith) follows);
    clauses = line_cases (λ k x. KnownClause φ qs (derived x)) proved.clauses is;
  }
