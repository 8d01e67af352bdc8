-- Bytes that were emitted for instructions stand as these instructions, whatever stands behind them.
use Rattle.std.proofs.Common.{◌≡◌, ℕ, ◌+◌, ◌*◌, ◌/◌, ◌%◌, ◌<◌, List, [], ◌∷◌, ◌++◌, length, Option, Some, None, ap, sym, ◌∙◌, subst, arith}
use Rattle.std.proofs.Common.{append_assoc, length-append}
use Rattle.std.specs.Prelude.{slice_get, unwrap_or}
use Rattle.std.specs.List.{flat_map, AllByRecursion}
use Rattle.std.proofs.Math.Seq.{get_or-append_seam}
use Rattle.std.proofs.lemmas.Option.{slice_get-get_or}
use Rattle.avr_instr.specs.declared.instr.Instr.{Instr}
use Rattle.avr_instr.specs.Spelled.{InRange, first_word, second_word, IsNext}
use Rattle.avr_instr.proofs.BothWays.{decodes}
use Rattle.avr_isa.specs.Cpu.{flash_byte, flash_word, forward}
use Rattle.avr_isa.specs.Standing.{word_bytes, second_bytes, instr_bytes, words_with, width, widths, AllStandAt}
use Rattle.avr_isa.proofs.Standing.{length-instr_bytes}

-- a byte behind others
pub byte_behind : (front : List ℕ) (x : ℕ) (rest : List ℕ) (at : ℕ) → length front ≡ at → flash_byte (front ++ x ∷ rest) at ≡ x
byte_behind front x rest at e =
    let inside : length front < length (front ++ x ∷ rest) = omega (arith, length-append front (x ∷ rest)) in
    let here : slice_get (front ++ x ∷ rest) (length front) ≡ Some x =
    slice_get-get_or (front ++ x ∷ rest) (length front) x inside ∙ ap Some (get_or-append_seam front x rest x) in
    ap (flash_byte (front ++ x ∷ rest)) (sym e) ∙ ap (λ o. unwrap_or o 0xFF) here

word_behind : (front rest : List ℕ) (w pc : ℕ) → length front ≡ 2 * pc → flash_word (front ++ (word_bytes w ++ rest)) pc ≡ w
word_behind front rest w pc e =
    let low = byte_behind front (w % 256) (w / 256 ∷ rest) (2 * pc) e in
    let longer : length (front ++ w % 256 ∷ []) ≡ 2 * pc + 1 = omega (arith, length-append front (w % 256 ∷ []), e) in
    let high = byte_behind (front ++ w % 256 ∷ []) (w / 256) rest (2 * pc + 1) longer in
    let high_here = subst (λ l. flash_byte l (2 * pc + 1) ≡ w / 256) (append_assoc front (w % 256 ∷ []) (w / 256 ∷ rest)) high in
    omega (arith, low, high_here)

second_behind : (o : Option ℕ) (front rest : List ℕ) (w pc : ℕ) → length front ≡ 2 * pc → pc + 1 < 65536
    → IsNext o (flash_word (front ++ (word_bytes w ++ (second_bytes o ++ rest))) (forward 1 pc))
second_behind None front rest w pc e low = tt
second_behind (Some x) front rest w pc e low =
    let longer : length (front ++ word_bytes w) ≡ 2 * (pc + 1) = omega (arith, length-append front (word_bytes w), e) in
    let here = subst (λ l. flash_word l (pc + 1) ≡ x) (append_assoc front (word_bytes w) (word_bytes x ++ rest))
    (word_behind (front ++ word_bytes w) rest x (pc + 1) longer) in
    let next : forward 1 pc ≡ pc + 1 = omega (arith, low) in
    ap (flash_word (front ++ (word_bytes w ++ (word_bytes x ++ rest)))) next ∙ here

room_for : (o : Option ℕ) (n pc : ℕ) → pc + (words_with o + n) < 65536 → pc + 1 < 65536
room_for None n pc h = omega arith
room_for (Some w) n pc h = omega arith

-- between a front of whole words and a rest
pub stand_between : (is : List Instr) (front rest : List ℕ) (pc : ℕ) → length front ≡ 2 * pc → pc + widths is < 65536 → AllByRecursion InRange is
    → AllStandAt (front ++ (flat_map instr_bytes is ++ rest)) pc is
stand_between [] front rest pc e low r = tt
stand_between (i ∷ is) front rest pc e low r =
    let more = flat_map instr_bytes is ++ rest in
    let first = word_bytes (first_word i) in
    let second = second_bytes (second_word i) in
    let room = room_for (second_word i) (widths is) pc low in
    let cut : (instr_bytes i ++ flat_map instr_bytes is) ++ rest ≡ instr_bytes i ++ more = append_assoc (instr_bytes i) (flat_map instr_bytes is) rest in
    let cut_on : instr_bytes i ++ more ≡ first ++ (second ++ more) = append_assoc first second more in
    let here =
    decodes i _ _ r.0 (word_behind front (second ++ more) (first_word i) pc e) (second_behind (second_word i) front more (first_word i) pc e room) in
    let longer : length (front ++ instr_bytes i) ≡ 2 * (pc + width i) = omega (arith, length-append front (instr_bytes i), length-instr_bytes i, e) in
    let lower : pc + width i + widths is < 65536 = omega (arith, low) in
    let there = stand_between is (front ++ instr_bytes i) rest (pc + width i) longer lower r.1 in
    subst (λ l. AllStandAt (front ++ l) pc (i ∷ is)) (sym cut)
    (subst (λ l. AllStandAt l pc (i ∷ is)) (ap (λ l. front ++ l) (sym cut_on))
    (here, subst (λ l. AllStandAt l (pc + width i) is) (append_assoc front (instr_bytes i) more ∙ ap (λ l. front ++ l) cut_on) there))
