-- Pieces of code that are put one behind the other.
use Rattle.std.proofs.Common.{◌≡◌, List, ◌++◌, Result, Ok, Err, OnOk, ap, ◌∙◌, append_assoc}
use Rattle.avr_instr.specs.declared.instr.Instr.{Instr}

-- what follows where a call answers Ok follows of its answer
pub on_ok : {A E P Q : Type 0} (r : Result A E) → (P → Q) → OnOk r P → OnOk r Q
on_ok (Ok a) f p = f p
on_ok (Err e) f p = p

pub two : (old x y a b : List Instr) → x ≡ old ++ a → y ≡ x ++ b → y ≡ old ++ (a ++ b)
two old x y a b p q = q ∙ ap (λ z. z ++ b) p ∙ append_assoc old a b

pub three : (old x y z a b c : List Instr) → x ≡ old ++ a → y ≡ x ++ b → z ≡ y ++ c → z ≡ old ++ (a ++ (b ++ c))
three old x y z a b c p q r = two x y z b c q r ∙ ap (λ w. w ++ (b ++ c)) p ∙ append_assoc old a (b ++ c)
