-- Marks and point over rule files. In order: the marks and the point of any numbers are their shares; what is claimed
-- of a file and a level (`marked_claims`), and of two levels (`points_narrow`). Assumes nothing.
use Rattle.std.specs.Prelude.{Ok}
use mathlib.Core.Path.{◌≡◌, refl, sym, ap, ◌∙◌}
use mathlib.Core.List.{List}
use Prim.Native.Nat.{ℕ, ◌≤◌, ◌<◌}
use native.Mathlib.Nat.{le_refl, le_trans}
use native.Mathlib.Decide.{ℕ_discrete}
use native.Mathlib.Omega.{arith}
use borrow.Author.Tests.{eq-eqb, ne_eqb}
use Rattle.bounds.specs.declared.Bounds.{Bounds}
use Rattle.limits.specs.Limits.{max_plotted}
use Rattle.answer.proofs.AnswerLaws.{same_answer}
use Rattle.prefix_words.proofs.PrefixLaws.{denominator_pos}
use Rattle.rule_file.specs.RuleFile.{prefix}
use Rattle.rule_file.specs.Reader.{read_file}
use Rattle.rule_file.specs.declared.Header.{Header}
use Rattle.rule_file.proofs.AcceptedLaws.{answered}
use Rattle.value.specs.Cut.{cut_of}
use Rattle.value.proofs.CutAnswer.{level_holds, cut_answers}
use Rattle.value.proofs.Demand3Files.{demand_3_files}
use Rattle.points.specs.Points.{share, marks_of, point_for, read_to_plot, point_file}
use Rattle.points.specs.Plotted.{Plotted}
use Rattle.points.specs.Claims.{Marked, Narrows}
use Rattle.points.specs.declared.Marks.TheVariants.{One, Two}
use Rattle.points.specs.declared.Point.{Point}
use Rattle.points.proofs.ShareLaws.{representable, share_ordered, share_from_zero, share_to_one, share_apart}
use Rattle.points.proofs.PointsAnswer.{plot_holds, plotted, marks_answered, point_answered}

-- the marks of any three numbers, and their point: the shares of the numbers
module _ (x : Bounds) (whole : ℕ) where
  one_mark : x.lower ≡ x.upper → marks_of x whole ≡ One (share x.lower whole)
  unfolding marks_of
  one_mark agree = rw (eq-eqb x.lower x.upper agree)

  two_marks : (x.lower ≡ x.upper → ⊥) → marks_of x whole ≡ Two (share x.lower whole) (share x.upper whole)
  unfolding marks_of
  two_marks differ = rw (ne_eqb x.lower x.upper differ)

  abbrev PointShares : Type 0
  PointShares =
      ((point_for x whole).low ≡ share x.lower whole) × (((point_for x whole).high ≡ share x.upper whole) × ((point_for x whole).open_share ≡ share x.undetermined whole))

  point_shares : PointShares
  unfolding point_for
  point_shares = go (ℕ_discrete x.lower x.upper)
    where
      go : Dec (x.lower ≡ x.upper) → PointShares
      go (yes agree) = rw (one_mark agree) (refl, (ap (λ n. share n whole) agree, refl))
      go (no differ) = rw (two_marks differ) (refl, (refl, refl))

-- a file that the reader answers with h, whose whole is plotted
module _ (b : List ℕ) (h : Header) (e : read_file b ≡ Ok h) (small : h.whole ≤ max_plotted) where
  abbrev cut_at : ℕ → Bounds
  cut_at = (demand_3_files b h e).cut

  positive : 0 < h.whole
  positive = let (a, is) = answered b h e in rw is (denominator_pos (prefix b) a.well_formed)

  module _ (level : ℕ) (within : level ≤ h.variables) where
    to_plot : read_to_plot b level ≡ Ok h
    to_plot =
        let (a, is) = answered b h e in
        plot_holds b level h (sym (ap Ok is ∙ level_holds b a level (rw is at within))) small

    cut_is : cut_at level ≡ cut_of b level
    cut_is =
        let (a, is) = answered b h e in
        same_answer (cut_at level) (cut_of b level) (sym ((demand_3_files b h e).cut_is level within) ∙ sym (cut_answers b a level (rw is at within) _ refl))

    divided : Plotted (cut_at level) h.whole
    divided = plotted b level h to_plot cut_is

    point_at : point_file b level ≡ Ok (point_for (cut_at level) h.whole)
    point_at = sym (point_answered b level h to_plot cut_is)

    pub marked_claims : Marked b h level
    marked_claims =
        let x = cut_at level in
        let bounded = (demand_3_files b h e).bounded level level (le_refl level) within in
        let lower_upper : x.lower ≤ x.upper = le_trans bounded.lower_bound bounded.upper_bound in
        let (low_is, (high_is, open_is)) = point_shares x h.whole in
        record {
          cut = x;
          marks = marks_of x h.whole;
          point = point_for x h.whole;
          cut_is = (demand_3_files b h e).cut_is level within;
          marks_are = sym (marks_answered b level h to_plot cut_is);
          point_is = point_at;
          low_is = low_is;
          high_is = high_is;
          open_is = open_is;
          lower_representable = representable x.lower (le_trans divided.lower_within small);
          upper_representable = representable x.upper (le_trans divided.upper_within small);
          open_representable = representable x.undetermined (le_trans divided.open_within small);
          whole_representable = representable h.whole small;
          agree = λ same. rw (low_is, high_is) (one_mark x h.whole same, ap (λ n. share n h.whole) (sym same));
          differ = λ other. rw (low_is, high_is) (two_marks x h.whole other, share_apart positive small (omega (arith, lower_upper, other)) divided.upper_within);
          from_zero = rw low_is (share_from_zero positive small divided.lower_within);
          ordered = rw (low_is, high_is) (share_ordered positive small lower_upper divided.upper_within);
          to_one = rw high_is (share_to_one positive small divided.upper_within);
          open_from_zero = rw open_is (share_from_zero positive small divided.open_within);
          open_to_one = rw open_is (share_to_one positive small divided.open_within);
        }

  pub points_narrow : (level deeper : ℕ) → level ≤ deeper → deeper ≤ h.variables → (p q : Point)
      → point_file b level ≡ Ok p → point_file b deeper ≡ Ok q → Narrows p q
  points_narrow level deeper order within p q p_is q_is =
      let above = le_trans order within in
      let bounded = (demand_3_files b h e).bounded level deeper order within in
      let (p_low, (p_high, p_open)) = point_shares (cut_at level) h.whole in
      let (q_low, (q_high, q_open)) = point_shares (cut_at deeper) h.whole in
      rw (same_answer p _ (sym p_is ∙ point_at level above), same_answer q _ (sym q_is ∙ point_at deeper within)) (
      record {
        low_rises = rw (p_low, q_low) (share_ordered positive small bounded.lower_rises (divided deeper within).lower_within);
        high_falls = rw (p_high, q_high) (share_ordered positive small bounded.upper_falls (divided level above).upper_within);
        open_share_falls = rw (p_open, q_open) (share_ordered positive small bounded.open_weight_falls (divided level above).open_within);
      })
