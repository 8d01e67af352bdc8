-- Digits that are too many for a record.
use Rattle.std.proofs.Common.{◌≡◌, ℕ, ◌+◌, ◌*◌, ◌%◌, ◌<◌, Bool, true, false, List, [], ◌∷◌, length, take, sum, Result, Ok, Err, refl, sym, arith, ◌==◌}
use Rattle.std.specs.Prelude.{if◌then◌else◌}
use Rattle.std.proofs.lemmas.Bool.{false≢true}
use Rattle.hex.specs.Hex.{decode_of}
use Rattle.hex.specs.declared.error.FromHexError.{FromHexError}
use Rattle.hex.proofs.HexLemmas.{decode_of-ok}
use Rattle.vg_hex.specs.declared.hex_record.HexRecord.{HexRecord}
use Rattle.vg_hex.specs.declared.hex_record.HexRecord.TheVariants.{NoForm}
use Rattle.vg_hex.specs.HexRecords.{typed, summed, from_digits}

-- no record has so many digits
pub too_many : (ds : List ℕ) → 520 < length ds → NoForm ≡ from_digits (decode_of ds)
too_many ds h = by_bytes (decode_of ds) refl
  where
    other : (n count : ℕ) (r : HexRecord) → count < 256 → 256 < n → NoForm ≡ (if n == count + 1 then r else NoForm)
    other n count r k l = tested (n == count + 1) (differs n count k l) r
      where
        differs : (n count : ℕ) → count < 256 → 256 < n → (n == count + 1) ≡ false
        differs n count k l = grind (arith, k, l)

        tested : (t : Bool) → t ≡ false → (r : HexRecord) → NoForm ≡ (if t then r else NoForm)
        tested true e r = absurd (false≢true (sym e))
        tested false e r = refl

    by_bytes : (o : Result (List ℕ) FromHexError) → decode_of ds ≡ o → NoForm ≡ from_digits o
    by_bytes (Err x) e = refl
    by_bytes (Ok []) e = refl
    by_bytes (Ok (a ∷ [])) e = refl
    by_bytes (Ok (a ∷ b ∷ [])) e = refl
    by_bytes (Ok (a ∷ b ∷ c ∷ [])) e = refl
    by_bytes (Ok (count ∷ high ∷ low ∷ kind ∷ rest)) e =
        let k = decode_of-ok ds (count ∷ high ∷ low ∷ kind ∷ rest) e in
        let long = k.2 in
        other (length rest) count (summed (sum (count ∷ high ∷ low ∷ kind ∷ rest) % 256 == 0) (typed count (high * 256 + low) kind (take count rest)))
        (k.3 0) (omega (arith, long, h))
