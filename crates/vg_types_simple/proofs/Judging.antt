-- Judgements of parts.
use Rattle.std.proofs.Common.{◌≡◌, ℕ, Bool, true, false, not, Result, Ok, Err, Option, Some, None, IfOk, OnOk, refl, sym, ap, ◌∙◌, subst}
use Rattle.vg_base.specs.declared.refusal.Refusal.{Refusal}
use Rattle.vg_base.specs.declared.refusal.Refusal.TheVariants.{Fault, NoMemory}
use Rattle.vg_syntax.specs.Tree.{Spot}
use Rattle.vg_syntax.specs.Numbering.{with_id}
use Rattle.vg_rules.specs.Breach.{Breach, asks, ◌or◌}
use Rattle.vg_types_views.specs.declared.broken.Broken.{Broken}
use Rattle.vg_types_views.specs.Judges.{Judges}
use Rattle.vg_types_simple.specs.Asked.{asked}

pub always_ok : {A E P : Type 0} (r : Result A E) → P → OnOk r P
always_ok (Ok a) h = h
always_ok (Err e) h = tt

-- the first breach of two parts, where neither has one
pub none_of_two : (a b : Option Breach) → a or b ≡ None → (a ≡ None) × (b ≡ None)
none_of_two None b e = (refl, e)
none_of_two (Some x) b e = absurd (cc)

pub or_behind : (a b c : Option Breach) → (a or b) or c ≡ a or (b or c)
or_behind None b c = refl
or_behind (Some x) b c = refl

-- a breach in a part in front is the first of all
pub err_in_front : {A B : Type 0} (P : A → Type 0) (Q : B → Type 0) (e : Refusal Broken) (a b all : Option Breach) → all ≡ a or b → Judges P (Err e) a
    → Judges Q (Err e) all
err_in_front P Q (Fault f) a b all q h = q ∙ ap (λ z. z or b) h
err_in_front P Q NoMemory a b all q h = tt

-- the answer of a fault is the breach that it names
pub refused : {A : Type 0} (P : A → Type 0) (r : Refusal Broken) (f : Broken) (b : Option Breach) → r ≡ Fault f
    → b ≡ Some (record { rule = f.rule; node = f.node.0 }) → Judges P (Err r) b
refused P r f b e h = subst (λ z. Judges P (Err z) b) (sym e) h

-- what is wanted holds of an answer
pub judged_ok : {A : Type 0} (P Q : A → Type 0) (r : Result A (Refusal Broken)) (b : Option Breach) → ((a : A) → P a → Q a) → Judges P r b → IfOk r Q
judged_ok P Q (Ok a) b f h = f a h.1
judged_ok P Q (Err e) b f h = tt

-- a rule that is asked at a node of this number
pub asks_is : (b : Bool) (rule id : ℕ) (at : Spot) → asks b rule (with_id id at) ≡ asked b rule id
asks_is true rule id at = refl
asks_is false rule id at = refl

-- no fault is answered where there is no breach
pub err_of_none : {A B : Type 0} (P : A → Type 0) (Q : B → Type 0) (e : Refusal Broken) (a all : Option Breach) → a ≡ None → Judges P (Err e) a
    → Judges Q (Err e) all
err_of_none P Q (Fault f) a all n h = absurd (cc)
err_of_none P Q NoMemory a all n h = tt

pub not_false : (b : Bool) → not b ≡ false → b ≡ true
not_false true e = refl
not_false false e = cc
