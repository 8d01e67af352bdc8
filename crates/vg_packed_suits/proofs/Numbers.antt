-- Numbers of values and of classes have at most 32 bits.
use Rattle.std.proofs.Common.{◌≡◌, sym, subst, arith, ℕ, suc, ◌^◌, ◌<◌, ◌≤◌, ◌&&◌, Bool, true, false, List, [], ◌∷◌, length, Option, Some, None}
use Rattle.std.proofs.Common.{ℤ, pos, negsuc, FitsSigned, if◌then◌else◌}
use Rattle.std.specs.Int.{w32, cast_unsigned}
use Rattle.std.proofs.Math.Pow.{pow_mono}
use Rattle.vg_codes.specs.Codes.{Codes, delegate}
use Rattle.vg_core.specs.declared.program.Tables.{Tables}
use Rattle.vg_core.specs.declared.value.CoreValue.{CoreValue}
use Rattle.vg_core.specs.declared.value.CoreValue.TheVariants.{Int, Bool as Truth, Char, Raw, Null, Obj, Arr, Bound}
use Rattle.vg_core.specs.Heap.{Kind}
use Rattle.vg_firm.specs.Operators.{as_number}
use Rattle.vg_coded.specs.Numbers.{Numbering, known, receiver_number, coded}
use Rattle.vg_coded.specs.Kept.{HasSmallNumbers, IsKept}
use Rattle.vg_numbers.specs.Keys.{Object, Where, Earlier, Inside, Later, is_earlier, is_inside, place, key, before, inside}
use Rattle.vg_numbers.specs.Numbers.{is_of_hierarchy, way_of, objects}

-- ---- values

receiver_small : (n : Numbering) (k : Codes) → HasSmallNumbers n k → (r : Option ℕ) → receiver_number n r < 65536
receiver_small n k h None = omega arith
receiver_small n k h (Some j) = h.cells j

int_small : (z : ℤ) → FitsSigned w32 z → cast_unsigned w32 z < 2 ^ 32
int_small (pos n) h = omega (arith, h)
int_small (negsuc n) h = omega (arith, h)

truth_small : (b : Bool) → as_number b < 2 ^ 32
truth_small true = omega arith
truth_small false = omega arith

bits_small : (w b : ℕ) → w ≤ 32 → b < 2 ^ w → b < 2 ^ 32
bits_small w b le lt = let m : 2 ^ w ≤ 2 ^ 32 = pow_mono le in omega (arith, lt, m)

delegate_small : (n : Numbering) (k : Codes) → HasSmallNumbers n k → (m q : ℕ) (r : Option ℕ) → n.procedure m ≡ Some q
    → delegate k (known (n.procedure m)) (receiver_number n r) < 2 ^ 32
delegate_small n k h m q r e =
    let c = h.codes m q e in let s = receiver_small n k h r in
    subst (λ z. delegate k (known z) (receiver_number n r) < 2 ^ 32) (sym e) (omega (arith, c.2, s))

pub value_small : (n : Numbering) (k : Codes) → HasSmallNumbers n k → (v : CoreValue) → IsKept n v → coded n k v < 2 ^ 32
value_small n k h (Int z) r = int_small z r
value_small n k h (Truth b) r = truth_small b
value_small n k h (Char c) r = omega (arith, r)
value_small n k h (Raw w b) r = bits_small w b r.0 r.1
value_small n k h Null r = omega arith
value_small n k h (Obj j) r = let s = h.cells j in omega (arith, s)
value_small n k h (Arr j) r = let s = h.cells j in omega (arith, s)
value_small n k h (Bound receiver m) ((q, e, b), r) = delegate_small n k h m q receiver e

-- ---- classes

one_earlier : (w : Where) → is_earlier w ≤ 1
one_earlier Earlier = omega arith
one_earlier Inside = omega arith
one_earlier Later = omega arith

one_inside : (w : Where) → is_inside w ≤ 1
one_inside Earlier = omega arith
one_inside Inside = omega arith
one_inside Later = omega arith

pub few_before : (os : List Object) (k : List ℕ) → before os k ≤ length os
few_before [] k = omega arith
few_before (o ∷ os) k = let h = few_before os k in let a = one_earlier (place k (key o)) in omega (arith, h, a)

pub few_inside : (os : List Object) (k : List ℕ) → inside os k ≤ length os
few_inside [] k = omega arith
few_inside (o ∷ os) k = let h = few_inside os k in let a = one_inside (place k (key o)) in omega (arith, h, a)

pub few_objects : (p : Tables) (t : Option ℕ) (kept : ℕ → Bool) (at : ℕ) (κ : List Kind) → length (objects p t kept at κ) ≤ length κ
few_objects p t kept at [] = omega arith
few_objects p t kept at (a ∷ κ) = by (kept at && is_of_hierarchy p t a) (few_objects p t kept (suc at) κ)
  where
    by : (b : Bool) → length (objects p t kept (suc at) κ) ≤ length κ
        → length (if b then record { way = way_of p a; cell = at } ∷ objects p t kept (suc at) κ else objects p t kept (suc at) κ) ≤ length (a ∷ κ)
    by true h = omega (arith, h)
    by false h = omega (arith, h)
