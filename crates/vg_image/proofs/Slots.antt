-- One slot more.
use Rattle.std.proofs.Common.{◌≡◌, ℕ, zero, suc, ◌+◌, List, [], ◌∷◌, ◌++◌, Option, refl, sym, ap, ◌∙◌, arith, append_assoc}
use Rattle.std.specs.List.{flat_map}
use Rattle.avr_instr.specs.declared.instr.Instr.{Instr}
use Rattle.avr_isa.specs.Standing.{instr_bytes}
use Rattle.vg_image.specs.Image.{slot_code, slots_from}

bytes-append : (a b : List Instr) → flat_map instr_bytes (a ++ b) ≡ flat_map instr_bytes a ++ flat_map instr_bytes b
bytes-append [] b = refl
bytes-append (i ∷ a) b =
    ap (λ l. instr_bytes i ++ l) (bytes-append a b) ∙ sym (append_assoc (instr_bytes i) (flat_map instr_bytes a) (flat_map instr_bytes b))

nothing : (l : List Instr) → l ++ [] ≡ l
nothing [] = refl
nothing (x ∷ l) = ap (λ z. x ∷ z) (nothing l)

one_more : (s : ℕ → Option ℕ) (v n : ℕ) → slots_from s v (suc n) ≡ slots_from s v n ++ slot_code (s (v + n))
one_more s v zero =
    let same : v ≡ v + 0 = omega arith in nothing (slot_code (s v)) ∙ ap (λ m. slot_code (s m)) same
one_more s v (suc n) =
    let same : suc v + n ≡ v + suc n = omega arith in
    ap (λ l. slot_code (s v) ++ l) (one_more s (suc v) n ∙ ap (λ m. slots_from s (suc v) n ++ slot_code (s m)) same)
    ∙ sym (append_assoc (slot_code (s v)) (slots_from s (suc v) n) (slot_code (s (v + suc n))))

-- the bytes so far and those of the next slot
pub slot_put : (s : ℕ → Option ℕ) (count : ℕ) (old now next : List ℕ) → now ≡ old ++ flat_map instr_bytes (slots_from s 1 count)
    → next ≡ now ++ flat_map instr_bytes (slot_code (s (count + 1))) → next ≡ old ++ flat_map instr_bytes (slots_from s 1 (count + 1))
slot_put s count old now next e f =
    let same : count + 1 ≡ 1 + count = omega arith in
    let more : suc count ≡ count + 1 = omega arith in
    f ∙ ap (λ l. l ++ flat_map instr_bytes (slot_code (s (count + 1)))) e
    ∙ append_assoc old (flat_map instr_bytes (slots_from s 1 count)) (flat_map instr_bytes (slot_code (s (count + 1))))
    ∙ ap (λ l. old ++ l) (sym (bytes-append (slots_from s 1 count) (slot_code (s (count + 1))))
    ∙ ap (λ m. flat_map instr_bytes (slots_from s 1 count ++ slot_code (s m))) same
    ∙ ap (flat_map instr_bytes) (sym (one_more s 1 count) ∙ ap (slots_from s 1) more))
