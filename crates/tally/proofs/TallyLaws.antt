-- Laws of the tally: what a tally that is not full has room for, the step, and the theorem on a tally that began with
-- five noughts. Assumes nothing.
use Prim.Native.Nat.{ℕ, ◌+◌, ◌≤◌, ◌<◌}
use native.Mathlib.Omega.{arith}
use mathlib.Core.Path.{◌≡◌, refl, ap, ◌∙◌}
use mathlib.Core.Bool.{true, false}
use mathlib.Core.List.{List, [], ◌∷◌, ◌++◌}
use lib.ListN.{length}
use borrow.Author.Tests.{leb-false, lt-leb}
use Rattle.formula.specs.Formula.{some_of}
use Rattle.formula.proofs.SomeLaws.{or_false}
use Rattle.tally.specs.declared.Tally.{Tally}
use Rattle.tally.specs.declared.Kind.{Kind}
use Rattle.tally.specs.declared.Kind.TheVariants.{Refused, Above, Below, Within}
use Rattle.tally.specs.Tally.{begun, full_count, is_full, one_if, counted, step, tally_after, number_of_kind, tally_of}

-- every count is under the limit
pub record Room (t : Tally) : Type 0 where
  pub files : t.files < full_count
  pub refused : t.refused < full_count
  pub above : t.above < full_count
  pub below : t.below < full_count
  pub within : t.within < full_count

-- a tally that is not full has room
pub room : (t : Tally) → is_full t ≡ false → Room t
unfolding is_full some_of
room t e =
    let (f, e₁) = or_false _ _ e in
    let (r, e₂) = or_false _ _ e₁ in
    let (a, e₃) = or_false _ _ e₂ in
    let (b, e₄) = or_false _ _ e₃ in
    record {
      files = leb-false _ _ f;
      refused = leb-false _ _ r;
      above = leb-false _ _ a;
      below = leb-false _ _ b;
      within = leb-false _ _ (or_false _ _ e₄).0;
    }

-- and one with room is not full
pub not_full : (t : Tally) → Room t → is_full t ≡ false
unfolding is_full some_of
not_full t h =
    simp
    (lt-leb _ _ h.files, lt-leb _ _ h.refused, lt-leb _ _ h.above, lt-leb _ _ h.below, lt-leb _ _ h.within)

-- the step of a full tally, and of another
pub full_step : (t : Tally) (k : Kind) → is_full t ≡ true → step t k ≡ t
unfolding step
full_step t k e = rw e

pub counted_step : (t : Tally) (k : Kind) → is_full t ≡ false → step t k ≡ counted t k
unfolding step
counted_step t k e = rw e

-- one result more at the end
pub tally_after_snoc : (t : Tally) (ks : List Kind) (k : Kind) → tally_after t (ks ++ k ∷ []) ≡ step (tally_after t ks) k
unfolding tally_after
tally_after_snoc t [] k = refl
tally_after_snoc t (j ∷ js) k = tally_after_snoc (step t j) js k

-- a result is of one kind
pub one_kind : (k : Kind) → one_if Refused k + one_if Above k + one_if Below k + one_if Within k ≡ 1
unfolding one_if
one_kind Refused = refl
one_kind Above = refl
one_kind Below = refl
one_kind Within = refl

-- the last four add up to the first
pub kinds_add_up :
    (ks : List Kind)
    → number_of_kind Refused ks + number_of_kind Above ks + number_of_kind Below ks + number_of_kind Within ks ≡ length ks
unfolding number_of_kind
kinds_add_up [] = refl
kinds_add_up (k ∷ ks) = omega (one_kind k, kinds_add_up ks, arith)

abbrev tally : ℕ → ℕ → ℕ → ℕ → ℕ → Tally
tally f r a b w = record { files = f; refused = r; above = a; below = b; within = w }

-- counts that are the same
pub same_tally : {f f' r r' a a' b b' w w' : ℕ} → f ≡ f' → r ≡ r' → a ≡ a' → b ≡ b' → w ≡ w' → tally f r a b w ≡ tally f' r' a' b' w'
same_tally e₁ e₂ e₃ e₄ e₅ = rw (e₁, e₂, e₃, e₄, e₅)

-- from any counts that add up, as long as there is room for all results
tally_after_adds :
    (ks : List Kind) (f r a b w : ℕ)
    → r + a + b + w ≡ f
    → f + length ks ≤ full_count
    → tally_after (tally f r a b w) ks
    ≡ tally
    (f + length ks)
    (r + number_of_kind Refused ks)
    (a + number_of_kind Above ks)
    (b + number_of_kind Below ks)
    (w + number_of_kind Within ks)
unfolding tally_after counted number_of_kind
tally_after_adds [] f r a b w e h = same_tally (omega arith) (omega arith) (omega arith) (omega arith) (omega arith)
tally_after_adds (k ∷ ks) f r a b w e h =
    let has : Room (tally f r a b w) = record {
      files = omega (h, arith);
      refused = omega (e, h, arith);
      above = omega (e, h, arith);
      below = omega (e, h, arith);
      within = omega (e, h, arith);
    } in
    let more : r + one_if Refused k + (a + one_if Above k) + (b + one_if Below k) + (w + one_if Within k) ≡ f + 1 =
    omega (e, one_kind k, arith) in
    ap (λ t. tally_after t ks) (counted_step _ k (not_full _ has))
    ∙ tally_after_adds ks _ _ _ _ _ more (omega (h, arith))
    ∙ same_tally (omega arith) (omega arith) (omega arith) (omega arith) (omega arith)

-- document 02's theorem: in a tally that began with five noughts each count is the number of results of its kind
pub tally_counts : (ks : List Kind) → length ks ≤ full_count → tally_after begun ks ≡ tally_of ks
unfolding tally_of
tally_counts ks h =
    tally_after_adds ks 0 0 0 0 0 refl (omega (h, arith))
    ∙ same_tally (omega arith) (omega arith) (omega arith) (omega arith) (omega arith)

-- and the last four add up to the first
pub tally_adds_up :
    (ks : List Kind)
    → length ks ≤ full_count
    → (tally_after begun ks).refused + (tally_after begun ks).above + (tally_after begun ks).below + (tally_after begun ks).within ≡ (tally_after begun ks).files
unfolding tally_of
tally_adds_up ks h = rw (tally_counts ks h) (kinds_add_up ks)

-- Computed examples: one result of each kind and one more, a count that reaches the limit, and one that stands there.
pub example_tally :
    (tally_after begun (Within ∷ Refused ∷ Above ∷ Below ∷ Refused ∷ []) ≡ tally 5 2 1 1 1)
    × (step (tally 4095 0 4095 0 0) Above ≡ tally 4096 0 4096 0 0)
    × (step (tally 7 0 0 0 4096) Refused ≡ tally 7 0 0 0 4096)
unfolding tally_after step is_full some_of counted one_if
example_tally = (refl, refl, refl)
