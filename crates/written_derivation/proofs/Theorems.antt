-- What is written for a rule file is accepted, with the figure: over the bytes of both files, and in the lent buffer.
-- The definitions to read are in specs/Derive and specs/Claims. Assumes nothing.
use Rattle.std.specs.Prelude.{Ok}
use mathlib.Core.Path.{◌≡◌, refl}
use mathlib.Core.List.{List}
use Prim.Native.Nat.{ℕ, ◌≤◌}
use native.Mathlib.Omega.{arith}
use lib.ListN.{length, length-append, length-drop}
use Rattle.answer.specs.Answer.{buffer_after}
use Rattle.buffer.proofs.TextLaws.{put_begins}
use Rattle.rule_file.specs.RuleFile.{clauses, prefix, whole}
use Rattle.rule_file.specs.Accepted.{Accepted}
use Rattle.rule_file.proofs.FileLaws.{prefix_length}
use Rattle.derivation.specs.Derives.{Derives}
use Rattle.derivation.specs.declared.Closing.{Closing}
use Rattle.derivation.proofs.Theorems.{accepted_iff}
use Rattle.derivation.proofs.Figure.{accepted_is_answered}
use Rattle.written_derivation.specs.Derive.{written_for, derivation_for, derive_file, length_of}
use Rattle.written_derivation.specs.Claims.{AcceptedWithFigure, WrittenInto}
use Rattle.written_derivation.proofs.WalkLaws.{derivation_closes}
use Rattle.written_derivation.proofs.Derives.{file_derives}
use Rattle.written_derivation.proofs.DeriveLaws.{Short, derivation_answered, length_answered}

-- the value of the clause that stands for the root, out of the whole
abbrev root_closing : List ℕ → Closing
root_closing b = record { value = (written_for b).clause.value; whole = whole b }

-- the derivation closes with it by the rules
derivation_derives : (b : List ℕ) (capacity : ℕ) → Accepted b → Short b capacity → Derives b (derivation_for b) (root_closing b)
unfolding derivation_for
derivation_derives b capacity a s =
    let (proved, closes) = derivation_closes (clauses b) (prefix b) (rw (prefix_length b) a.in_range) a.ordered in
    file_derives b a (written_for b).lines proved (written_for b).reference (written_for b).clause.value closes s.few_lines s.few_bytes

-- What is written is accepted with the figure
pub written_is_accepted : (b : List ℕ) (capacity : ℕ) (d : List ℕ) → derive_file b capacity ≡ Ok d → AcceptedWithFigure b d
written_is_accepted b capacity d e =
    let (a, s, same) = derivation_answered b capacity d e in
    let checked = (accepted_iff b d (root_closing b)).1 (rw same at (derivation_derives b capacity a s)) in
    (record { figure = (root_closing b).value; whole = whole b }, accepted_is_answered b d (root_closing b) checked, checked)

-- Where the answer is a length k, the buffer's first k bytes are accepted so, and its other bytes are as they were
pub written_into_buffer : (b before : List ℕ) (k : ℕ) → length_of (derive_file b (length before)) ≡ Ok k
    → WrittenInto b before (buffer_after (derive_file b (length before)) before) k
written_into_buffer b before k e =
    let (d, is, written) = length_answered (derive_file b (length before)) before _ k e refl in
    let (a, s, same) = derivation_answered b (length before) d is in
    let begins = put_begins written in
    let within : length d ≤ length before = rw same at s.in_buffer in
    record {
      accepted = rw begins.text_is (written_is_accepted b (length before) d is);
      same_length = simp (written.contents, length-append, length-drop) (omega arith);
      rest_kept = begins.rest_kept;
    }
