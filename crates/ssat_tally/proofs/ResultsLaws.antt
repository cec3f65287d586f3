-- The program's results: of a line, and of the lines so far. Then the theorem on what it prints. Assumes nothing.
use Rattle.std.specs.Prelude.{Err, Ok, None}
use Prim.Native.Nat.{ℕ, suc, ◌+◌, ◌≤◌, ◌<◌}
use native.Mathlib.Omega.{arith}
use mathlib.Core.Path.{◌≡◌, refl, sym, ap, ◌∙◌}
use mathlib.Core.List.{List, [], ◌∷◌, ◌++◌, append-nil, append_assoc}
use lib.ListN.{length, drop}
use Rattle.answer.specs.declared.Refusal.{Refusal}
use Rattle.buffer.specs.Text.{Begins}
use Rattle.tally.specs.declared.Tally.{Tally}
use Rattle.tally.specs.declared.Kind.{Kind}
use Rattle.tally.specs.Tally.{begun, step, tally_after, tally_of}
use Rattle.tally.proofs.TallyLaws.{tally_after_snoc, tally_counts, kinds_add_up}
use Rattle.job_list.specs.JobList.{list_lines, list_file, list_line_at}
use Rattle.job_list.proofs.SplitLaws.{lines_step, lines_over}
use Rattle.job_list.proofs.ListLaws.{accepted_list}
use Rattle.report.specs.Report.{refusal_line}
use Rattle.tally_report.specs.TallyReport.{tally_text}
use Rattle.ssat_tally.specs.Results.{Content, InRoom, Contents, line_kind, line_kinds, printed}

-- nothing read for any line
nothing_for : List (List ℕ) → List Content
nothing_for [] = []
nothing_for (l ∷ ls) = None ∷ nothing_for ls

nothing_read : (ls : List (List ℕ)) → Contents ls (nothing_for ls)
unfolding nothing_for
nothing_read [] = tt
nothing_read (l ∷ ls) = (tt, nothing_read ls)

-- one line more
contents_snoc :
    (ls : List (List ℕ)) (cs : List Content) (l : List ℕ) (c : Content)
    → Contents ls cs
    → InRoom c
    → Contents (ls ++ l ∷ []) (cs ++ c ∷ [])
contents_snoc [] [] l c h r = (r, tt)
contents_snoc [] (d ∷ ds) l c h r = absurd h
contents_snoc (m ∷ ms) [] l c h r = absurd h
contents_snoc (m ∷ ms) (d ∷ ds) l c h r = (h.0, contents_snoc ms ds l c h.1 r)

kinds_snoc :
    (ls : List (List ℕ)) (cs : List Content) (l : List ℕ) (c : Content)
    → Contents ls cs
    → line_kinds (ls ++ l ∷ []) (cs ++ c ∷ []) ≡ line_kinds ls cs ++ line_kind l c ∷ []
kinds_snoc [] [] l c h = refl
kinds_snoc [] (d ∷ ds) l c h = absurd h
kinds_snoc (m ∷ ms) [] l c h = absurd h
kinds_snoc (m ∷ ms) (d ∷ ds) l c h = ap (line_kind m d ∷◌) (kinds_snoc ms ds l c h.1)

-- a tally of the results for lines, by what is read for them
abbrev Tallied : List (List ℕ) → Tally → Type 0
Tallied ls t = (cs : List Content) × (Contents ls cs × (t ≡ tally_after begun (line_kinds ls cs)))

-- the lines before an index of the list are tallied
pub record TalliedTo (b : List ℕ) (at : ℕ) (t : Tally) : Type 0 where
  pub before : List (List ℕ)
  pub all : list_lines b ≡ before ++ list_lines (drop at b)
  pub so_far : Tallied before t

pub none_yet : (b : List ℕ) → TalliedTo b 0 begun
unfolding tally_after
none_yet b = record { before = []; all = refl; so_far = ([], (tt, refl)) }

module _ (b : List ℕ) (at : ℕ) (l : List ℕ) (h : at < length b) (e : l ≡ list_line_at b at) where
  pub one_more :
      (t u : Tally) (k : Kind)
      → TalliedTo b at t
      → (c : Content) × (InRoom c × (k ≡ line_kind l c))
      → u ≡ step t k
      → TalliedTo b (at + (length l + 1)) u
  one_more t u k s (c, (room, kind)) f =
      let next : at + length l + 1 ≡ at + (length l + 1) = omega arith in
      let line : list_lines (drop at b) ≡ l ∷ list_lines (drop (at + (length l + 1)) b) =
      lines_step b at h ∙ ap (λ m. m ∷ list_lines (drop (at + length m + 1) b)) (sym e) ∙ ap (λ i. l ∷ list_lines (drop i b)) next in
      let (cs, (read, tally)) = s.so_far in
      let ks = line_kinds s.before cs in
      record {
        before = s.before ++ l ∷ [];
        all = s.all ∙ ap (s.before ++◌) line ∙ sym (append_assoc s.before (l ∷ []) (list_lines (drop (at + (length l + 1)) b)));
        so_far = (
          cs ++ c ∷ [],
          (
            contents_snoc s.before cs l c read room,
            f ∙ ap (λ v. step v k) tally ∙ ap (step (tally_after begun ks)) kind
                ∙ sym (tally_after_snoc begun ks (line_kind l c))
                ∙ ap (tally_after begun) (sym (kinds_snoc s.before cs l c read)),
          ),
        );
      }

pub all_lines : (b : List ℕ) (at : ℕ) (t : Tally) → length b ≤ at → TalliedTo b at t → Tallied (list_lines b) t
all_lines b at t h s =
    let whole : list_lines b ≡ s.before = s.all ∙ ap (s.before ++◌) (lines_over b at h) ∙ append-nil s.before in
    rw whole s.so_far

-- the text of the results' tally is what is printed for an accepted list
printed_tally :
    (b : List ℕ) (cs : List Content) (k : ℕ) (t : Tally)
    → list_file b ≡ Ok k
    → t ≡ tally_after begun (line_kinds (list_lines b) cs)
    → tally_text t ≡ printed b cs
printed_tally b cs k t e h = rw e (ap tally_text h)

-- a buffer that begins with a refused list's line begins with what is printed; of such a list nothing is read
pub prints_refusal :
    (b before after : List ℕ) (n : ℕ) (r : Refusal)
    → list_file b ≡ Err r
    → Begins before (refusal_line r) after n
    → (cs : List Content) × (Contents (list_lines b) cs × Begins before (printed b cs) after n)
prints_refusal b before after n r e h = (nothing_for (list_lines b), (nothing_read (list_lines b), rw e h))

-- one result for each line
as_many : (ls : List (List ℕ)) (cs : List Content) → Contents ls cs → length (line_kinds ls cs) ≡ length ls
as_many [] [] h = refl
as_many [] (c ∷ cs) h = absurd h
as_many (l ∷ ls) [] h = absurd h
as_many (l ∷ ls) (c ∷ cs) h = ap suc (as_many ls cs h.1)

-- document 02's theorem on what is printed: each count is the number of results of its kind, one result for each line,
-- and the last four add up to the first
pub printed_counts :
    (b : List ℕ) (n : ℕ) (cs : List Content)
    → list_file b ≡ Ok n
    → Contents (list_lines b) cs
    → (t : Tally)
    → t ≡ tally_of (line_kinds (list_lines b) cs)
    → (printed b cs ≡ tally_text t) × ((t.files ≡ length (list_lines b)) × (t.refused + t.above + t.below + t.within ≡ t.files))
unfolding tally_of
printed_counts b n cs e h t f =
    let list = accepted_list b n e in
    let ks = line_kinds (list_lines b) cs in
    let many : length ks ≡ length (list_lines b) = as_many (list_lines b) cs h in
    let few : length ks ≤ 4096 = omega (many, list.count, list.few, arith) in
    let counts : tally_after begun ks ≡ t = tally_counts ks few ∙ sym f in
    (sym (printed_tally b cs n t e (sym counts)), (rw f many, rw f (kinds_add_up ks)))
