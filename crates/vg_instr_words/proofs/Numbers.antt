-- How many bytes of a known number count.
use Rattle.std.specs.Prelude.{ℕ, zero, suc, ◌/◌, ◌%◌, ◌≤◌, Bool, true, false, ◌==◌, if◌then◌else◌, [], ◌∷◌, ◌++◌}
use Rattle.std.proofs.Common.{◌≡◌, refl, subst, sym, arith}
use Rattle.avr_instr.specs.declared.instr.Instr.TheVariants.{Ldi}
use Rattle.avr_isa.specs.Standing.{widths}
use Rattle.vg_templates.specs.Operands.{known_bytes}
use Rattle.vg_templates.specs.Plain.{bytes_in}

pub bytes_grow : (n m v : ℕ) → n ≤ m → bytes_in n v ≤ bytes_in m v
bytes_grow zero m v h = omega arith
bytes_grow (suc n) zero v h = absurd (omega (arith, h))
bytes_grow (suc n) (suc m) v h = by_zero (v == 0) (bytes_grow n m (v / 256) (omega (arith, h)))
  where
    by_zero : (b : Bool) → bytes_in n (v / 256) ≤ bytes_in m (v / 256)
        → (if b then zero else suc (bytes_in n (v / 256))) ≤ (if b then zero else suc (bytes_in m (v / 256)))
    by_zero true few = omega arith
    by_zero false few = omega (arith, few)

-- zeros take no code
zero_words : (d n : ℕ) → widths (known_bytes d n 0) ≡ 0
zero_words d zero = refl
zero_words d (suc n) = zero_words (suc d) n

pub bytes_words : (d n v : ℕ) → widths (known_bytes d n v) ≤ bytes_in n v
bytes_words d zero v = omega arith
bytes_words d (suc n) v = by_zero (v == 0) refl (bytes_words (suc d) n (v / 256))
  where
    some : (b : Bool) → widths (known_bytes (suc d) n (v / 256)) ≤ bytes_in n (v / 256)
        → widths ((if b then [] else Ldi d (v % 256) ∷ []) ++ known_bytes (suc d) n (v / 256)) ≤ suc (bytes_in n (v / 256))
    some true rest = omega (arith, rest)
    some false rest = omega (arith, rest)

    by_zero : (b : Bool) → (v == 0) ≡ b → widths (known_bytes (suc d) n (v / 256)) ≤ bytes_in n (v / 256)
        → widths (known_bytes d (suc n) v) ≤ (if b then zero else suc (bytes_in n (v / 256)))
    by_zero true e rest =
        let none : v ≡ 0 = grind (arith, e) in
        subst (λ x. widths (known_bytes d (suc n) x) ≤ 0) (sym none) (let all = zero_words d (suc n) in omega (arith, all))
    by_zero false e rest = some (v % 256 == 0) rest
