-- Bytes that were emitted for instructions stand in the flash as these instructions.
use Rattle.std.proofs.Common.{◌≡◌, ℕ, zero, suc, ◌+◌, ◌*◌, ◌/◌, ◌%◌, ◌<◌, List, [], ◌∷◌, ◌++◌, length, replicate, Option, Some, None, refl, sym, ap}
use Rattle.std.proofs.Common.{◌∙◌, subst, arith, append_assoc, length-append}
use Rattle.std.specs.Prelude.{slice_get, unwrap_or}
use Rattle.std.specs.List.{flat_map, AllByRecursion}
use Rattle.std.proofs.Math.Seq.{get_or-append_seam}
use Rattle.std.proofs.lemmas.Option.{slice_get-get_or}
use Rattle.avr_instr.specs.declared.instr.Instr.{Instr}
use Rattle.avr_instr.specs.Spelled.{InRange, first_word, second_word, IsNext}
use Rattle.avr_isa.specs.Cpu.{flash_byte, flash_word, forward}
use Rattle.avr_instr.proofs.BothWays.{decodes}
use Rattle.avr_isa.specs.Standing.{word_bytes, second_bytes, instr_bytes, words_with, width, widths, StandsAt, AllStandAt}

-- no address behind the last word comes round
no_wrap : (pc n : ℕ) → pc + n < 65536 → forward n pc ≡ pc + n
no_wrap pc n h = omega arith

byte_behind : (front : List ℕ) (x : ℕ) (rest : List ℕ) (at : ℕ) → length front ≡ at → flash_byte (front ++ x ∷ rest) at ≡ x
byte_behind front x rest at e =
    let inside : length front < length (front ++ x ∷ rest) = omega (arith, length-append front (x ∷ rest)) in
    let here : slice_get (front ++ x ∷ rest) (length front) ≡ Some x = slice_get-get_or (front ++ x ∷ rest) (length front) x inside
    ∙ ap Some (get_or-append_seam front x rest x) in
    ap (flash_byte (front ++ x ∷ rest)) (sym e) ∙ ap (λ o. unwrap_or o 0xFF) here

word_behind : (front rest : List ℕ) (w pc : ℕ) → length front ≡ 2 * pc → flash_word (front ++ (word_bytes w ++ rest)) pc ≡ w
word_behind front rest w pc e =
    let low = byte_behind front (w % 256) (w / 256 ∷ rest) (2 * pc) e in
    let longer : length (front ++ w % 256 ∷ []) ≡ 2 * pc + 1 = omega (arith, length-append front (w % 256 ∷ [])) in
    let high = byte_behind (front ++ w % 256 ∷ []) (w / 256) rest (2 * pc + 1) longer in
    let high_here = subst (λ l. flash_byte l (2 * pc + 1) ≡ w / 256) (append_assoc front (w % 256 ∷ []) (w / 256 ∷ rest)) high in
    omega (arith, low, high_here)

second_behind : (o : Option ℕ) (front rest : List ℕ) (w pc : ℕ) → length front ≡ 2 * pc → pc + 1 < 65536
    → IsNext o (flash_word (front ++ (word_bytes w ++ (second_bytes o ++ rest))) (forward 1 pc))
second_behind None front rest w pc e low = tt
second_behind (Some x) front rest w pc e low =
    let longer : length (front ++ word_bytes w) ≡ 2 * (pc + 1) = omega (arith, length-append front (word_bytes w)) in
    let here = subst (λ l. flash_word l (pc + 1) ≡ x) (append_assoc front (word_bytes w) (word_bytes x ++ rest))
    (word_behind (front ++ word_bytes w) rest x (pc + 1) longer) in
    ap (flash_word (front ++ (word_bytes w ++ (word_bytes x ++ rest)))) (no_wrap pc 1 low) ∙ here

length-second_bytes : (o : Option ℕ) → length (second_bytes o) + 2 ≡ 2 * words_with o
length-second_bytes None = refl
length-second_bytes (Some w) = refl

pub length-instr_bytes : (i : Instr) → length (instr_bytes i) ≡ 2 * width i
length-instr_bytes i = omega (arith, length-append (word_bytes (first_word i)) (second_bytes (second_word i)), length-second_bytes (second_word i))

-- the bytes of instructions are two for each word
pub length-code : (is : List Instr) → length (flat_map instr_bytes is) ≡ 2 * widths is
length-code [] = refl
length-code (i ∷ is) = omega (arith, length-append (instr_bytes i) (flat_map instr_bytes is), length-instr_bytes i, length-code is)

wide_enough : (o : Option ℕ) (n pc : ℕ) → pc + (words_with o + n) < 65536 → pc + 1 < 65536
wide_enough None n pc h = omega arith
wide_enough (Some w) n pc h = omega arith

-- behind a front of whole words stand the instructions whose bytes follow
pub emitted_stand : (is : List Instr) (front : List ℕ) (pc : ℕ) → length front ≡ 2 * pc → pc + widths is < 65536 → AllByRecursion InRange is
    → AllStandAt (front ++ flat_map instr_bytes is) pc is
emitted_stand [] front pc e low r = tt
emitted_stand (i ∷ is) front pc e low r =
    let rest = flat_map instr_bytes is in
    let room : pc + 1 < 65536 = wide_enough (second_word i) (widths is) pc low in
    let here = decodes i _ _ r.0 (word_behind front (second_bytes (second_word i) ++ rest) (first_word i) pc e)
    (second_behind (second_word i) front rest (first_word i) pc e room) in
    let longer : length (front ++ instr_bytes i) ≡ 2 * (pc + width i) = omega (arith, length-append front (instr_bytes i), length-instr_bytes i) in
    let lower : pc + width i + widths is < 65536 = omega (arith, low) in (
      here,
      subst (λ l. AllStandAt l (pc + width i) is) (append_assoc front (instr_bytes i) rest)
          (emitted_stand is (front ++ instr_bytes i) (pc + width i) longer lower r.1),
    )

-- of two pieces, the first stands where both begin
pub front_stands : (flash : List ℕ) (pc : ℕ) (a b : List Instr) → AllStandAt flash pc (a ++ b) → AllStandAt flash pc a
front_stands flash pc [] b h = tt
front_stands flash pc (i ∷ a) b h = (h.0, front_stands flash (pc + width i) a b h.1)

-- and the second behind it
pub back_stands : (flash : List ℕ) (pc : ℕ) (a b : List Instr) → AllStandAt flash pc (a ++ b) → AllStandAt flash (pc + widths a) b
back_stands flash pc [] b h = let e : pc ≡ pc + 0 = omega arith in subst (λ n. AllStandAt flash n b) e h
back_stands flash pc (i ∷ a) b h =
    let e : pc + width i + widths a ≡ pc + widths (i ∷ a) = omega arith in
    subst (λ n. AllStandAt flash n b) e (back_stands flash (pc + width i) a b h.1)

-- each of n equal instructions of one word
pub each_stands : (flash : List ℕ) (i : Instr) (n j pc : ℕ) → width i ≡ 1 → j < n → AllStandAt flash pc (replicate n i) → StandsAt flash (pc + j) i
each_stands flash i zero j pc one h a = absurd (omega arith)
each_stands flash i (suc n) zero pc one h a = let e : pc ≡ pc + 0 = omega arith in subst (λ m. StandsAt flash m i) e a.0
each_stands flash i (suc n) (suc j) pc one h a =
    let from : pc + width i ≡ pc + 1 = omega (arith, one) in
    let e : pc + 1 + j ≡ pc + suc j = omega arith in
    let inside : j < n = omega arith in
    subst (λ m. StandsAt flash m i) e (each_stands flash i n j (pc + 1) one inside (subst (λ m. AllStandAt flash m (replicate n i)) from a.1))

pub widths-replicate : (i : Instr) (n : ℕ) → width i ≡ 1 → widths (replicate n i) ≡ n
widths-replicate i zero one = refl
widths-replicate i (suc n) one = omega (arith, one, widths-replicate i n one)

pub widths-append : (a b : List Instr) → widths (a ++ b) ≡ widths a + widths b
widths-append [] b = omega arith
widths-append (i ∷ a) b = omega (arith, widths-append a b)
