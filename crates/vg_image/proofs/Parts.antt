-- Where the parts of an image stand.
use Rattle.std.proofs.Common.{◌≡◌, ℕ, zero, suc, ◌+◌, ◌-◌, ◌*◌, ◌%◌, ◌<◌, List, [], ◌∷◌, ◌++◌, length, replicate, Option, Some, None}
use Rattle.std.proofs.Common.{refl, sym, ap, ◌∙◌, subst, arith, append_assoc, length-append}
use Rattle.std.specs.List.{flat_map, AllByRecursion}
use Rattle.avr_instr.specs.declared.instr.Instr.{Instr}
use Rattle.avr_instr.specs.declared.instr.Instr.TheVariants.{Jmp}
use Rattle.avr_instr.specs.Spelled.{InRange}
use Rattle.avr_isa.specs.Standing.{instr_bytes, widths, StandsAt, AllStandAt}
use Rattle.avr_isa.proofs.Standing.{length-code, front_stands, back_stands, widths-append}
use Rattle.vg_templates.specs.Startup.{bytes_from}
use Rattle.vg_image.specs.Image.{Parts, slot_code, slots_from, first_table, code_start, filler, vectors, flash_of, words_of}
use Rattle.vg_image.proofs.Emitted.{byte_behind, stand_between}

-- ---- slots

slot-width : (o : Option ℕ) → widths (slot_code o) ≡ 2
slot-width (Some at) = refl
slot-width None = refl

slots-width : (slots : ℕ → Option ℕ) (v n : ℕ) → widths (slots_from slots v n) ≡ 2 * n
slots-width slots v zero = refl
slots-width slots v (suc n) =
    let one = slot-width (slots v) in
    let rest = slots-width slots (suc v) n in
    let both = widths-append (slot_code (slots v)) (slots_from slots (suc v) n) in omega (arith, one, rest, both)

both_in : (a b : List Instr) → AllByRecursion InRange a → AllByRecursion InRange b → AllByRecursion InRange (a ++ b)
both_in [] b p q = q
both_in (i ∷ a) b p q = (p.0, both_in a b p.1 q)

slot-in : (o : Option ℕ) → ((at : ℕ) → o ≡ Some at → at < 65536) → AllByRecursion InRange (slot_code o)
slot-in (Some at) h = (h at refl, tt)
slot-in None h = (tt, (tt, tt))

slots-in : (slots : ℕ → Option ℕ) (v n : ℕ) → ((k at : ℕ) → slots k ≡ Some at → at < 65536) → AllByRecursion InRange (slots_from slots v n)
slots-in slots v zero h = tt
slots-in slots v (suc n) h = both_in (slot_code (slots v)) (slots_from slots (suc v) n) (slot-in (slots v) (h v)) (slots-in slots (suc v) n h)

-- the slot of a vector
slot_stands : (flash : List ℕ) (slots : ℕ → Option ℕ) (n v k pc : ℕ) → k < n → AllStandAt flash pc (slots_from slots v n)
    → AllStandAt flash (pc + 2 * k) (slot_code (slots (v + k)))
slot_stands flash slots zero v k pc h a = absurd (omega (arith, h))
slot_stands flash slots (suc n) v zero pc h a =
    let here : pc ≡ pc + 2 * 0 = omega arith in
    let same : v ≡ v + 0 = omega arith in
    subst (λ m. AllStandAt flash m (slot_code (slots (v + 0)))) here
    (subst (λ m. AllStandAt flash pc (slot_code (slots m))) same (front_stands flash pc (slot_code (slots v)) (slots_from slots (suc v) n) a))
slot_stands flash slots (suc n) v (suc k) pc h a =
    let one = slot-width (slots v) in
    let there : pc + widths (slot_code (slots v)) + 2 * k ≡ pc + 2 * suc k = omega (arith, one) in
    let same : suc v + k ≡ v + suc k = omega arith in
    subst (λ m. AllStandAt flash m (slot_code (slots (v + suc k)))) there
    (subst (λ m. AllStandAt flash (pc + widths (slot_code (slots v)) + 2 * k) (slot_code (slots m))) same
    (slot_stands flash slots n (suc v) k (pc + widths (slot_code (slots v))) (omega (arith, h))
    (back_stands flash pc (slot_code (slots v)) (slots_from slots (suc v) n) a)))

-- ---- bytes

bytes-read : (front list rest : List ℕ) (at : ℕ) → length front ≡ at → bytes_from (front ++ (list ++ rest)) at (length list) ≡ list
bytes-read front [] rest at e = refl
bytes-read front (x ∷ list) rest at e =
    let here = byte_behind front x (list ++ rest) at e in
    let longer : length (front ++ x ∷ []) ≡ suc at = omega (arith, length-append front (x ∷ []), e) in
    let same = append_assoc front (x ∷ []) (list ++ rest) in
    let more = subst (λ l. bytes_from l (suc at) (length list) ≡ list) same (bytes-read (front ++ x ∷ []) list rest (suc at) longer) in
    ap (λ z. z ∷ bytes_from (front ++ (x ∷ list ++ rest)) (suc at) (length list)) here ∙ ap (λ l. x ∷ l) more

abbrev filling : ℕ → List ℕ
filling n = replicate n 0xFF

fillers : (n : ℕ) → length (filling n) ≡ n
fillers zero = refl
fillers (suc n) = ap suc (fillers n)

module _ (p : Parts) (slots : (k at : ℕ) → p.slots k ≡ Some at → at < 65536) (code : AllByRecursion InRange p.code) (room : words_of p < 65536) where
  abbrev behind : List ℕ
  behind = p.tables ++ (filler p.tables ++ flat_map instr_bytes p.code)

  vectors-width : widths (vectors p) ≡ 70
  vectors-width = let all = slots-width p.slots 1 34 in omega (arith, all)

  vectors-bytes : length (flat_map instr_bytes (vectors p)) ≡ 0x8C
  vectors-bytes = let all = length-code (vectors p) in let n = vectors-width in omega (arith, all, n)

  vectors_stand : AllStandAt (flash_of p) 0 (vectors p)
  vectors_stand =
      let n = vectors-width in
      stand_between (vectors p) [] behind 0 refl (omega (arith, n)) (omega (arith, room), slots-in p.slots 1 34 slots)

  pub jumps : StandsAt (flash_of p) 0 (Jmp (code_start p.tables))
  jumps = vectors_stand.0

  pub slots_stand : (k : ℕ) → 0 < k → k < 35 → AllStandAt (flash_of p) (2 * k) (slot_code (p.slots k))
  slots_stand k low high =
      let one : 1 + (k - 1) ≡ k = omega (arith, low) in
      let there : 2 + 2 * (k - 1) ≡ 2 * k = omega (arith, low) in
      subst (λ m. AllStandAt (flash_of p) m (slot_code (p.slots k))) there
      (subst (λ m. AllStandAt (flash_of p) (2 + 2 * (k - 1)) (slot_code (p.slots m))) one
      (slot_stands (flash_of p) p.slots 34 1 (k - 1) 2 (omega (arith, low, high)) vectors_stand.1))

  -- a piece of the tables
  pub tables_stand : (front piece rest : List ℕ) → p.tables ≡ front ++ (piece ++ rest)
      → bytes_from (flash_of p) (first_table + length front) (length piece) ≡ piece
  tables_stand front piece rest e =
      let v = flat_map instr_bytes (vectors p) in
      let more = filler p.tables ++ flat_map instr_bytes p.code in
      let long : length (v ++ front) ≡ first_table + length front = omega (arith, length-append v front, vectors-bytes) in
      let cut : v ++ ((front ++ (piece ++ rest)) ++ more) ≡ (v ++ front) ++ (piece ++ (rest ++ more)) =
      ap (λ l. v ++ l) (append_assoc front (piece ++ rest) more ∙ ap (λ l. front ++ l) (append_assoc piece rest more))
      ∙ sym (append_assoc v front (piece ++ (rest ++ more))) in
      let whole : flash_of p ≡ (v ++ front) ++ (piece ++ (rest ++ more)) = ap (λ l. v ++ (l ++ more)) e ∙ cut in
      ap (λ l. bytes_from l (first_table + length front) (length piece)) whole
      ∙ bytes-read (v ++ front) piece (rest ++ more) (first_table + length front) long

  pub code_stands : AllStandAt (flash_of p) (code_start p.tables) p.code
  code_stands =
      let v = flat_map instr_bytes (vectors p) in
      let c = flat_map instr_bytes p.code in
      let front = v ++ (p.tables ++ filler p.tables) in
      let long : length front ≡ 2 * code_start p.tables =
      omega (arith, length-append v (p.tables ++ filler p.tables), length-append p.tables (filler p.tables), fillers (length p.tables % 2), vectors-bytes) in
      let whole : front ++ (c ++ []) ≡ flash_of p =
      append_assoc v (p.tables ++ filler p.tables) (c ++ [])
      ∙ ap (λ l. v ++ l) (append_assoc p.tables (filler p.tables) (c ++ []) ∙ ap (λ l. p.tables ++ (filler p.tables ++ l)) (nothing c)) in
      subst (λ l. AllStandAt l (code_start p.tables) p.code) whole
      (stand_between p.code front [] (code_start p.tables) long (omega (arith, room)) code)
    where
      nothing : (l : List ℕ) → l ++ [] ≡ l
      nothing [] = refl
      nothing (x ∷ l) = ap (λ z. x ∷ z) (nothing l)

  pub bytes_count : length (flash_of p) ≡ 2 * words_of p
  bytes_count =
      let v = flat_map instr_bytes (vectors p) in
      let c = flat_map instr_bytes p.code in
      omega (
        arith,
        length-append v (p.tables ++ (filler p.tables ++ c)),
        length-append p.tables (filler p.tables ++ c),
        length-append (filler p.tables) c,
        fillers (length p.tables % 2),
        vectors-bytes,
        length-code p.code,
      )
