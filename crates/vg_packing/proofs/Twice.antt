-- An operator before an operand that is done twice leaves what was there.
use Rattle.std.proofs.Common.{◌≡◌, refl, ap, subst, ◌∙◌, arith, ℕ, ◌-◌, ◌%◌, ◌^◌, ◌<◌, ◌≤◌, Bool, true, false, nat_le, nat_lt, ℤ, pos, negsuc, FitsSigned}
use Rattle.std.proofs.Common.{List, ◌∷◌}
use Rattle.std.specs.Int.{w32, cast_unsigned, cast_signed}
use Rattle.std.proofs.lemmas.Int.{of_z-to_z}
use Rattle.std.proofs.lemmas.Nat.{pow_pos}
use Rattle.vg_meaning.specs.History.{Recorder}
use Rattle.vg_meaning.specs.World.{World}
use Rattle.vg_meaning.specs.Answer.{Piece, and_then}
use Rattle.vg_meaning.specs.Code.{Code, Then, Do, performed}
use Rattle.vg_codes.specs.Codes.{Codes}
use Rattle.vg_core.specs.declared.types.CoreType.{CoreType}
use Rattle.vg_core.specs.declared.value.CoreValue.{CoreValue}
use Rattle.vg_core.specs.declared.value.CoreValue.TheVariants.{Int, Bool as Truth, Raw}
use Rattle.vg_core.specs.declared.operator.Prefix.{Prefix}
use Rattle.vg_core.specs.declared.program.Tables.{Tables}
use Rattle.vg_core.specs.Heap.{Kind}
use Rattle.vg_core.specs.Types.{HasType}
use Rattle.vg_core.specs.Typing.{PrefixTakes, negative, not_bool, complement}
use Rattle.vg_firm.specs.declared.step.Prefix.{Prefix as FirmPrefix}
use Rattle.vg_firm.specs.declared.step.Prefix.TheVariants.{Negative, Not, Complement}
use Rattle.vg_firm.specs.declared.step.Step.{Step as FirmStep}
use Rattle.vg_firm.specs.declared.step.Step.TheVariants as steps
use Rattle.vg_firm.specs.Operators.{as_number, applied, has_string}
use Rattle.vg_firm.specs.Program.{Procedure, Program as FirmProgram}
use Rattle.vg_firm.specs.Meaning as firm
use Rattle.vg_firm.specs.Meaning.{State as FirmState}
use Rattle.vg_coded.specs.Numbers.{Numbering, coded}
use Rattle.vg_coded.specs.Kept.{IsKept}
use Rattle.vg_coded.specs.Operators.{prefix_for}
use Rattle.vg_packing.proofs.Steps.{below, both}

-- An operator takes a number and what it makes of it, and makes the number of the latter.
pub record Undoes (op : FirmPrefix) (n : ℕ) : Type 0 where
  pub takes : has_string op n ≡ true
  pub takes_again : has_string op (applied op n) ≡ true
  pub same : applied op (applied op n) ≡ n

bits_small : (z : ℤ) → FitsSigned w32 z → cast_unsigned w32 z < 2 ^ 32
bits_small (pos n) h = omega (arith, h)
bits_small (negsuc n) h = omega (arith, h)

opposite : (n : ℕ) → n < 2 ^ 32 → applied Negative n ≡ (2 ^ 32 - n) % 2 ^ 32
opposite n h =
    of_z-to_z w32 ((2 ^ 32 - cast_unsigned w32 (cast_signed w32 n)) % 2 ^ 32) (small (2 ^ 32 - cast_unsigned w32 (cast_signed w32 n)))
    ∙ ap (λ z. (2 ^ 32 - z) % 2 ^ 32) (of_z-to_z w32 n h)
  where
    small : (n : ℕ) → n % 2 ^ 32 < 2 ^ 32
    small n = omega arith

twice_opposite : (n : ℕ) → n < 2 ^ 32 → applied Negative (applied Negative n) ≡ n
twice_opposite n h = ap (applied Negative) (opposite n h) ∙ (opposite ((2 ^ 32 - n) % 2 ^ 32) (omega arith) ∙ omega (arith, h))

undoes_negative : (n : ℕ) → n < 2 ^ 32 → Undoes Negative n
undoes_negative n h = record { takes = refl; takes_again = refl; same = twice_opposite n h }

undoes_not : (b : Bool) → Undoes Not (as_number b)
undoes_not true = record { takes = refl; takes_again = refl; same = refl }
undoes_not false = record { takes = refl; takes_again = refl; same = refl }

at_most : (a b : ℕ) → a ≤ b → nat_le a b ≡ true
at_most a b h = grind (arith, h)

undoes_complement : (k n : ℕ) → k ≤ 32 → n < 2 ^ k → Undoes (Complement k) n
undoes_complement k n few h =
    let some = pow_pos k in
    record {
      takes = both (nat_le k 32) (nat_lt n (2 ^ k)) (at_most k 32 few) (below n (2 ^ k) h);
      takes_again = both (nat_le k 32) (nat_lt (2 ^ k - 1 - n) (2 ^ k)) (at_most k 32 few) (below (2 ^ k - 1 - n) (2 ^ k) (omega (arith, h, some)));
      same = omega (arith, h);
    }

-- a value of its type that is kept
pub undoes : (p : Tables) (κ : List Kind) (l : Numbering) (k : Codes) (op : Prefix) (t : CoreType) → PrefixTakes op t → (v : CoreValue) → IsKept l v
    → HasType p κ v t → Undoes (prefix_for op t) (coded l k v)
undoes p κ l k op t negative (Int n) kept h = undoes_negative (cast_unsigned w32 n) (bits_small n kept)
undoes p κ l k op t negative _ kept h = absurd h
undoes p κ l k op t not_bool (Truth b) kept h = undoes_not b
undoes p κ l k op t not_bool _ kept h = absurd h
undoes p κ l k op t (complement {k = j}) (Raw i n) kept h =
    subst (λ z. Undoes (Complement z) n) h (undoes_complement i n kept.0 kept.1)
undoes p κ l k op t (complement {k = j}) _ kept h = absurd h

-- a type has one operator
pub one_prefix : (op op' : Prefix) (t : CoreType) → PrefixTakes op t → PrefixTakes op' t → op' ≡ op
one_prefix op op' t negative negative = refl
one_prefix op op' t not_bool not_bool = refl
one_prefix op op' t complement complement = refl

-- what is done twice is nothing
pub done_twice : {K : Type 0} (r : Recorder K) (k : Codes) (f : FirmProgram) (m : Procedure) (call : firm.Caller K) (handle : ℕ → Piece FirmState K)
    (op : FirmPrefix) (n : ℕ) → Undoes op n → (c : Code FirmStep) (s : FirmState) (w : World K)
    → performed r (firm.step k f m call handle) firm.truth (Then (Do (steps.Apply op)) (Then (Do (steps.Apply op)) c)) (record s { values = n ∷ s.values }) w
    ≡ performed r (firm.step k f m call handle) firm.truth c (record s { values = n ∷ s.values }) w
done_twice {K} r k f m call handle op n u c s w =
    ap (λ b. and_then (firm.checked b (firm.put (applied op n)) s w) again) u.takes
    ∙ (ap (λ b. and_then (firm.checked b (firm.put (applied op (applied op n))) s w) rest) u.takes_again
    ∙ ap (λ z. rest (record s { values = z ∷ s.values }) w) u.same)
  where
    rest : Piece FirmState K
    rest = performed r (firm.step k f m call handle) firm.truth c

    again : Piece FirmState K
    again = performed r (firm.step k f m call handle) firm.truth (Then (Do (steps.Apply op)) c)
