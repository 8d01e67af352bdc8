-- Code numbers that lead to procedures before one of them alone.
use Rattle.std.specs.Prelude.{ℕ, ◌/◌, ◌%◌, ◌<◌, nat_lt, if◌then◌else◌, Bool, true, false, List, [], ◌∷◌, map, Option, Some, None}
use Rattle.std.proofs.Common.{◌≡◌, refl, ap, ap₂, subst, ltb-true, lt-ltb}
use Rattle.std.proofs.lemmas.Option.{same_Some, none-some}
use Rattle.vg_codes.specs.Codes.{Codes}
use Rattle.vg_tables.specs.declared.datum.Datum.{Datum}
use Rattle.vg_tables.specs.declared.datum.Datum.TheVariants.{Byte, CodeLow, CodeHigh}
use Rattle.vg_tables.specs.Bytes.{byte_of}
use Rattle.vg_link.specs.Linking.{kept_before}

pub kept_found : (start : ℕ) (o : Option ℕ) (m : ℕ) → kept_before start o ≡ Some m → o ≡ Some m
kept_found start None m h = absurd (none-some m h)
kept_found start (Some q) m h = by (nat_lt q start) h
  where
    by : (b : Bool) → (if b then Some q else None) ≡ Some m → Some q ≡ Some m
    by true e = e
    by false e = absurd (none-some m e)

pub kept_low : (start : ℕ) (o : Option ℕ) (m : ℕ) → kept_before start o ≡ Some m → m < start
kept_low start None m h = absurd (none-some m h)
kept_low start (Some q) m h = by (nat_lt q start) refl h
  where
    by : (b : Bool) → nat_lt q start ≡ b → (if b then Some q else None) ≡ Some m → m < start
    by true low e = subst (λ z. z < start) (same_Some q m e) (ltb-true q start low)
    by false low e = absurd (none-some m e)

pub kept_there : (start q : ℕ) → q < start → kept_before start (Some q) ≡ Some q
kept_there start q low = ap (λ b. if b then Some q else None) (lt-ltb q start low)

same_byte : (a b : Codes) → a.code ≡ b.code → (d : Datum) → byte_of a d ≡ byte_of b d
same_byte a b e (Byte x) = refl
same_byte a b e (CodeLow q) = ap (λ code. code q % 256) e
same_byte a b e (CodeHigh q) = ap (λ code. code q / 256) e

-- the bytes of tables tell nothing of where code numbers lead
pub same_bytes : (a b : Codes) → a.code ≡ b.code → (ds : List Datum) → map (byte_of a) ds ≡ map (byte_of b) ds
same_bytes a b e [] = refl
same_bytes a b e (d ∷ ds) = ap₂ (λ x xs. x ∷ xs) (same_byte a b e d) (same_bytes a b e ds)
