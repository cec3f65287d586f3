-- An answer that is no refusal has passed each check on its way. Assumes nothing.
use Rattle.std.specs.Prelude.{Err, Ok, Option, None, Some}
use mathlib.Core.Path.{◌≡◌, refl}
use mathlib.Core.Bool.{Bool, true, false}
use Prim.Native.Nat.{ℕ}
use native.Mathlib.Omega.{arith}
use Rattle.answer.specs.Answer.{Answer, refuse_if, refuse_at, and_then}
use Rattle.answer.specs.declared.Refusal.{Refusal}

-- an answer is no refusal
pub answer_no_refusal : {A : Type 0} (r : Refusal) (x : A) → ◌≡◌ {A = Answer A} (Err r) (Ok x) → ⊥
answer_no_refusal r x e = let z : ◌≡◌ {A = ℕ} 0 1 = cc in omega arith

pub same_answer : {A : Type 0} (x y : A) → ◌≡◌ {A = Answer A} (Ok x) (Ok y) → x ≡ y
same_answer x y e = cc

-- it has passed the check at hand
pub passed : {A : Type 0} (t : Bool) (r : Refusal) (rest : Answer A) (x : A) → refuse_if t r rest ≡ Ok x → (t ≡ false) × (rest ≡ Ok x)
passed false r rest x e = (refl, e)
passed true r rest x e = absurd (answer_no_refusal _ x e)

pub passed_at : {A : Type 0} (o : Option ℕ) (r : ℕ → Refusal) (rest : Answer A) (x : A) → refuse_at o r rest ≡ Ok x → (o ≡ None) × (rest ≡ Ok x)
passed_at None r rest x e = (refl, e)
passed_at (Some i) r rest x e = absurd (answer_no_refusal _ x e)

pub passed_then : {A B : Type 0} (r : Answer A) (f : A → Answer B) (x : B) → and_then r f ≡ Ok x → (a : A) × (r ≡ Ok a) × (f a ≡ Ok x)
passed_then (Err r) f x e = absurd (answer_no_refusal r x e)
passed_then (Ok a) f x e = (a, refl, e)
