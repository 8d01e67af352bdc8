-- The numbers of bytes.
use Rattle.std.proofs.Common.{◌≡◌, sym, ap, subst, ◌∙◌, arith, ℕ, zero, suc, ◌+◌, ◌*◌, ◌/◌, ◌%◌, ◌<◌, ◌^◌}
use Rattle.std.proofs.Common.{◌-◌, List, [], ◌∷◌, ◌++◌, append_assoc}
use Rattle.std.proofs.Math.Nat.{pow-succ'}
use Rattle.vg_codes.specs.Codes.{Codes, delegate}
use Rattle.vg_tables.specs.declared.datum.Datum.{Datum}
use Rattle.vg_tables.specs.declared.datum.Datum.TheVariants.{Byte}
use Rattle.vg_tables.specs.Bytes.{delegate_bytes, low_bytes, number_of}

-- a number of more bytes, without its lowest
shorter : (width n : ℕ) → n < 256 ^ suc width → n / 256 < 256 ^ width
shorter width n lt = below (256 ^ width) (subst (λ z. n < z) (pow-succ' 256 width) lt)
  where
    below : (m : ℕ) → n < 256 * m → n / 256 < m
    below m h = omega (arith, h)

again : (n : ℕ) → n % 256 + 256 * (n / 256) ≡ n
again n = omega arith

pub holds : (k : Codes) (width n : ℕ) → n < 256 ^ width → number_of k (low_bytes width n) ≡ n
holds k zero n lt = omega (arith, lt)
holds k (suc width) n lt = ap (λ z. n % 256 + 256 * z) (holds k width (n / 256) (shorter width n lt)) ∙ again n

two_bytes : (c r : ℕ) → c % 256 + 256 * (c / 256 + 256 * r) ≡ c + 65536 * r
two_bytes c r = omega arith

pub delegate_holds : (k : Codes) (q r : ℕ) → r < 65536 → number_of k (delegate_bytes q r) ≡ delegate k q r
delegate_holds k q r lt = ap (λ z. k.code q % 256 + 256 * (k.code q / 256 + 256 * z)) (holds k 2 r lt) ∙ two_bytes (k.code q) r

-- so far and the rest, with one more byte
pub one_more : (width place rest : ℕ) (bytes new whole : List Datum) → place < width → bytes ++ low_bytes (width - place) rest ≡ whole
    → new ≡ bytes ++ Byte (rest % 256) ∷ [] → new ++ low_bytes (width - (place + 1)) (rest / 256) ≡ whole
one_more width place rest bytes new whole lt h e =
    let left : width - place ≡ suc (width - (place + 1)) = omega (arith, lt) in
    ap (λ z. z ++ low_bytes (width - (place + 1)) (rest / 256)) e
    ∙ (append_assoc bytes (Byte (rest % 256) ∷ []) (low_bytes (width - (place + 1)) (rest / 256))
    ∙ (sym (ap (λ z. bytes ++ low_bytes z rest) left) ∙ h))
