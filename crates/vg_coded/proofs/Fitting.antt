-- The number of a value fits into the bytes of its type.
use Rattle.std.proofs.Common.{◌≡◌, refl, sym, ap, subst, ◌∙◌, arith, ℕ, zero, suc, ◌+◌, ◌*◌, ◌/◌, ◌^◌, ◌<◌, ◌≤◌, Bool, true, false, ◌==◌, nat_lt, List}
use Rattle.std.proofs.Common.{Option, Some, None, ℤ, pos, negsuc, FitsSigned}
use Rattle.std.specs.Int.{w32, cast_unsigned}
use Rattle.std.specs.Cmp.{unsigned_Decides}
use Rattle.std.proofs.Math.Pow.{pow_mono}
use Rattle.std.proofs.Math.Nat.{pow-suc}
use Rattle.std.proofs.lemmas.Nat.{pow-add}
use Rattle.vg_codes.specs.Codes.{Codes, delegate}
use Rattle.vg_core.specs.declared.types.CoreType.{CoreType}
use Rattle.vg_core.specs.declared.types.CoreType.TheVariants.{IntType, BoolType, CharType, RawType, NullType, ClassType, ArrayType, FunctionType, NoType}
use Rattle.vg_core.specs.declared.types.CoreType.TheVariants.{MoreTypes}
use Rattle.vg_core.specs.declared.value.CoreValue.{CoreValue}
use Rattle.vg_core.specs.declared.value.CoreValue.TheVariants.{Int, Bool as Truth, Char, Raw, Null, Obj, Arr, Bound}
use Rattle.vg_core.specs.declared.heap.Cell.{Cell}
use Rattle.vg_core.specs.declared.program.Tables.{Tables}
use Rattle.vg_core.specs.State.{is_of}
use Rattle.vg_firm.specs.Operators.{as_number}
use Rattle.vg_firm.specs.Meaning.{fits}
use Rattle.vg_coded.specs.Numbers.{Numbering, known, receiver_number, coded}
use Rattle.vg_coded.specs.Widths.{bytes_for, width_of}
use Rattle.vg_coded.specs.Kept.{HasSmallNumbers, IsKept}

below : (a b : ℕ) → a < b → nat_lt a b ≡ true
below a b h = grind (arith, h)

-- so many bytes hold so many bits
bytes_hold : (k : ℕ) → 2 ^ k ≤ 256 ^ bytes_for k
bytes_hold k = subst (λ z. 2 ^ k ≤ z) (sym (bytes (bytes_for k))) (pow_mono (enough k))
  where
    enough : (j : ℕ) → j ≤ 8 * ((j + 7) / 8)
    enough j = omega arith

    bytes : (n : ℕ) → 256 ^ n ≡ 2 ^ (8 * n)
    bytes zero = refl
    bytes (suc n) =
        let e : 8 * suc n ≡ 8 * n + 8 = omega arith in
        pow-suc 256 n ∙ (ap (λ z. z * 256) (bytes n) ∙ (sym (pow-add 2 (8 * n) 8) ∙ ap (λ z. 2 ^ z) (sym e)))

receiver_small : (n : Numbering) (k : Codes) → HasSmallNumbers n k → (r : Option ℕ) → receiver_number n r < 65536
receiver_small n k h None = omega arith
receiver_small n k h (Some j) = h.cells j

int_small : (z : ℤ) → FitsSigned w32 z → cast_unsigned w32 z < 2 ^ 32
int_small (pos n) h = omega (arith, h)
int_small (negsuc n) h = omega (arith, h)

truth_small : (b : Bool) → fits 1 (as_number b) ≡ true
truth_small true = refl
truth_small false = refl

module _ (n : Numbering) (k : Codes) (small : HasSmallNumbers n k) (p : Tables) (cells : List Cell) where
  delegate_fits : (m q : ℕ) (r : Option ℕ) → n.procedure m ≡ Some q → fits 4 (delegate k (known (n.procedure m)) (receiver_number n r)) ≡ true
  delegate_fits m q r e =
      let c = small.codes m q e in let s = receiver_small n k small r in
      subst (λ z. fits 4 (delegate k (known z) (receiver_number n r)) ≡ true) (sym e)
      (below (k.code q + 65536 * receiver_number n r) (256 ^ 4) (omega (arith, c.2, s)))

  raw_fits : (j w b : ℕ) → (j == w) ≡ true → b < 2 ^ j → fits (bytes_for w) b ≡ true
  raw_fits j w b e h =
      subst (λ z. fits (bytes_for z) b ≡ true) ((unsigned_Decides j w).0 e)
      (below b (256 ^ bytes_for j) (let m = bytes_hold j in omega (arith, h, m)))

  pub value_fits : (t : CoreType) (v : CoreValue) → is_of p cells t v ≡ true → IsKept n v → fits (width_of t) (coded n k v) ≡ true
  value_fits IntType (Int z) e h = below (cast_unsigned w32 z) (256 ^ 4) (int_small z h)
  value_fits BoolType (Truth b) e h = truth_small b
  value_fits CharType (Char c) e h = below c 256 h
  value_fits (RawType w) (Raw j b) e h = raw_fits j w b e h.1
  value_fits NullType Null e h = refl
  value_fits (ClassType c) Null e h = refl
  value_fits (ArrayType c) Null e h = refl
  value_fits (FunctionType ps r) Null e h = refl
  value_fits NoType Null e h = refl
  value_fits (MoreTypes a b) Null e h = refl
  value_fits (ClassType c) (Obj j) e h = below (n.number j) 65536 (small.cells j)
  value_fits (ArrayType c) (Arr j) e h = below (n.number j) 65536 (small.cells j)
  value_fits (FunctionType ps r) (Bound receiver m) e ((q, eq, bi), h) = delegate_fits m q receiver eq
  value_fits _ _ e h = absurd (let clash : false ≡ true = e in cc)
