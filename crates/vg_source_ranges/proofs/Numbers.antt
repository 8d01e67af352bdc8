-- Numbers and types that keep the rules.
use Rattle.std.proofs.Common.{◌≡◌, refl, sym, ap, subst, ◌∙◌, arith, ℕ, zero, suc, ◌+◌, ◌-◌, ◌*◌, ◌<◌, ◌≤◌, ◌^◌, ◌==◌, ◌&&◌, not, nat_le, Bool, true, false}
use Rattle.std.proofs.Common.{List, [], ◌∷◌, length, pos, negsuc, FitsSigned, if◌then◌else◌}
use Rattle.std.specs.List.{list_all}
use Rattle.std.specs.Int.{w32}
use Rattle.std.proofs.lemmas.Nat.{pow_pos}
use Rattle.vg_syntax.specs.Bytes.{is_hex_digit}
use Rattle.vg_syntax.specs.Hexadecimal.{digit_value, more_digits, hex_value}
use Rattle.vg_syntax.specs.Lexemes.{is_hexadecimal}
use Rattle.vg_syntax.specs.Tree.{Node, TypeTree}
use Rattle.vg_syntax.specs.Tree as tree
use Rattle.vg_source.specs.Declared.{written_type}
use Rattle.vg_source.specs.Literals.{number_of, int_of, number_value, decimal_behind}
use Rattle.vg_source.specs.Types.{StaticType, IntType, BoolType, CharType, RawType, NullType, ClassType, ArrayType, FunctionType, NoType, MoreTypes}
use Rattle.vg_source.specs.Values.{Raw, default}
use Rattle.vg_rules.specs.Bodies.{number_keeps}
use Rattle.vg_rules.specs.Written.{levels, type_keeps}
use Rattle.vg_source_ranges.specs.Ranges.{IsSmall, IsWide, IsConstant}
use Rattle.vg_source_ranges.specs.Spelled.{IsProper}

pub both : (a b : Bool) → (a && b) ≡ true → (a ≡ true) × (b ≡ true)
both true true e = (refl, refl)
both true false e = absurd (let clash : false ≡ true = e in cc)
both false b e = absurd (let clash : false ≡ true = e in cc)

at_most : (n m : ℕ) → nat_le n m ≡ true → n ≤ m
at_most n m e = grind (arith, e)

-- ---- types

pub small_type : (ds : Node) (t : TypeTree) → type_keeps ds t ≡ true → IsSmall (written_type t)
small_type ds (tree.RawType width) e =
    at_most (number_of width) 32 (both (not (is_hexadecimal width) && nat_le 1 (number_of width)) (nat_le (number_of width) 32) e).1
small_type ds tree.IntType e = tt
small_type ds tree.BoolType e = tt
small_type ds tree.CharType e = tt
small_type ds (tree.ClassType n) e = tt
small_type ds (tree.ArrayType t) e = tt
small_type ds (tree.FunctionType ps r) e = tt
small_type ds tree.NoType e = tt
small_type ds (tree.MoreTypes t ts) e = tt

pub wide_type : (ds : Node) (t : TypeTree) → type_keeps ds t ≡ true → IsProper t → IsWide (written_type t)
wide_type ds (tree.RawType width) e h =
    let q = both (not (is_hexadecimal width) && nat_le 1 (number_of width)) (nat_le (number_of width) 32) e in
    at_most 1 (number_of width) (both (not (is_hexadecimal width)) (nat_le 1 (number_of width)) q.0).1
wide_type ds tree.IntType e h = tt
wide_type ds tree.BoolType e h = tt
wide_type ds tree.CharType e h = tt
wide_type ds (tree.ClassType n) e h = tt
wide_type ds (tree.ArrayType t) e h = tt
wide_type ds (tree.FunctionType ps r) e h = tt
wide_type ds tree.NoType e h = absurd h
wide_type ds (tree.MoreTypes t ts) e h = absurd h

pub element_keeps : (ds : Node) (t : TypeTree) → type_keeps ds (tree.ArrayType t) ≡ true → type_keeps ds t ≡ true
element_keeps ds t e = (both (nat_le (levels (tree.ArrayType t)) 4) (type_keeps ds t) e).1

pub small_element : (ds : Node) (t : TypeTree) → type_keeps ds (tree.ArrayType t) ≡ true → IsSmall (written_type t)
small_element ds t e = small_type ds t (element_keeps ds t e)

pub default_in_range : (t : StaticType) → IsSmall t → IsConstant (default t)
default_in_range IntType h = int 0 (omega arith)
  where
    int : (n : ℕ) → n < 2 ^ 31 → FitsSigned w32 (pos n)
    int n l = omega (arith, l)
default_in_range (RawType k) h = (h, pow_pos k)
default_in_range BoolType h = tt
default_in_range CharType h = omega arith
default_in_range NullType h = tt
default_in_range (ClassType c) h = tt
default_in_range (ArrayType t) h = tt
default_in_range (FunctionType ps r) h = tt
default_in_range NoType h = tt
default_in_range (MoreTypes t ts) h = tt

-- ---- numbers

one_digit : (b : ℕ) → is_hex_digit b ≡ true → digit_value b < 16
one_digit b e = grind (arith, e)

next_power : (n : ℕ) → 16 ^ suc n ≡ 16 ^ n * 16
next_power n = grind arith

turn : (a q : ℕ) → a * 16 * q ≡ a * (q * 16)
turn a q = grind arith

more_below : (ds : List ℕ) (v bound : ℕ) → list_all is_hex_digit ds ≡ true → v < bound → more_digits v ds < bound * 16 ^ length ds
more_below [] v bound e h = let z : bound * 16 ^ 0 ≡ bound = omega arith in omega (arith, h, z)
more_below (d ∷ ds) v bound e h =
    let q = both (is_hex_digit d) (list_all is_hex_digit ds) e in
    let l = one_digit d q.0 in
    let r = more_below ds (v * 16 + digit_value d) (bound * 16) q.1 (omega (arith, h, l)) in
    let z : bound * 16 * 16 ^ length ds ≡ bound * 16 ^ length (d ∷ ds) =
    turn bound (16 ^ length ds) ∙ ap (λ p. bound * p) (sym (next_power (length ds))) in omega (arith, r, z)

hexadecimal_below : (bs : List ℕ) → is_hexadecimal bs ≡ true → hex_value bs < 16 ^ (length bs - 2)
hexadecimal_below (a ∷ x ∷ first ∷ digits) e =
    let q = both ((a == 48) && (x == 120) && is_hex_digit first) (list_all is_hex_digit digits) e in
    let r = both ((a == 48) && (x == 120)) (is_hex_digit first) q.0 in
    let m = more_below (first ∷ digits) 0 1 (ap (λ z. z && list_all is_hex_digit digits) r.1 ∙ q.1) (omega arith) in
    let n : length (first ∷ digits) ≡ length (a ∷ x ∷ first ∷ digits) - 2 = omega arith in
    let z : 16 ^ length (first ∷ digits) ≡ 16 ^ (length (a ∷ x ∷ first ∷ digits) - 2) = ap (λ k. 16 ^ k) n in omega (arith, m, z)
hexadecimal_below [] e = absurd (let clash : false ≡ true = e in cc)
hexadecimal_below (a ∷ []) e = absurd (let clash : false ≡ true = e in cc)
hexadecimal_below (a ∷ x ∷ []) e = absurd (let clash : false ≡ true = e in cc)

power : (n : ℕ) → 16 ^ n ≡ 2 ^ (4 * n)
power zero = refl
power (suc n) =
    let h = power n in
    let z : 2 ^ (4 * suc n) ≡ 2 ^ (4 * n) * 16 = ap (λ m. 2 ^ m) (omega arith) ∙ four (4 * n) in
    let s = next_power n in omega (arith, h, z, s)
  where
    four : (m : ℕ) → 2 ^ (suc (suc (suc (suc m)))) ≡ 2 ^ m * 16
    four m = grind arith

int_in_range : (n : ℕ) → n ≤ 2147483648 → IsConstant (int_of n)
int_in_range n h = by (n == 2147483648) refl
  where
    int : (m : ℕ) → m < 2 ^ 31 → FitsSigned w32 (pos m)
    int m l = omega (arith, l)

    least : FitsSigned w32 (negsuc 2147483647)
    least = omega arith

    by : (b : Bool) → (n == 2147483648) ≡ b → FitsSigned w32 (if b then negsuc 2147483647 else pos n)
    by true e = least
    by false e = int n (grind (arith, e, h))

pub number_in_range : (bs : List ℕ) → number_keeps bs ≡ true → IsConstant (number_value bs)
number_in_range bs e = by (is_hexadecimal bs) refl e
  where
    decimal : (b : Bool) → is_hexadecimal bs ≡ false → number_of bs ≡ decimal_behind 0 bs
    decimal b q = ap (λ z. if z then hex_value bs else decimal_behind 0 bs) q

    by : (b : Bool) → is_hexadecimal bs ≡ b → (if b then nat_le (length bs) 10 else nat_le (number_of bs) 2147483648) ≡ true
        → IsConstant (number_value bs)
    by true q h =
        subst (λ z. IsConstant (if z then Raw (4 * (length bs - 2)) (hex_value bs) else int_of (decimal_behind 0 bs))) (sym q) (
          (let l = at_most (length bs) 10 h in omega (arith, l)),
          (let a = hexadecimal_below bs q in let z = power (length bs - 2) in omega (arith, a, z)),
        )
    by false q h =
        subst (λ z. IsConstant (if z then Raw (4 * (length bs - 2)) (hex_value bs) else int_of (decimal_behind 0 bs))) (sym q)
        (int_in_range (decimal_behind 0 bs) (let l = at_most (number_of bs) 2147483648 h in let d = decimal false q in omega (arith, l, d)))
