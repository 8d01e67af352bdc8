-- How many words it takes to bring operands into registers, and to give what is in registers to locals.
use Rattle.std.specs.Prelude.{ℕ, zero, suc, ◌+◌, ◌-◌, ◌≤◌, List, [], ◌∷◌, length, Option, Some, None, slice_index}
use Rattle.std.proofs.Common.{◌≡◌, inl, inr, refl, arith}
use Rattle.avr_view.proofs.Going.{below_or_not}
use Rattle.avr_instr.specs.declared.instr.Instr.TheVariants.{Movw}
use Rattle.avr_isa.specs.Standing.{widths}
use Rattle.avr_isa.proofs.Standing.{widths-append}
use Rattle.vg_lin.specs.declared.instr.Operand.{Operand}
use Rattle.vg_lin.specs.declared.instr.Operand.TheVariants.{Local, Known}
use Rattle.vg_templates.specs.Spots.{Spot, InFrame, InRegisters}
use Rattle.vg_templates.specs.Layouts.{Layout, width_of}
use Rattle.vg_templates.specs.Transfers.{known, loads, stores, reach, fetch, keep}
use Rattle.vg_templates.specs.Held.{brings, gives}
use Rattle.vg_templates.specs.Homes.{settles}
use Rattle.vg_templates.specs.Operands.{least, finds_spot, finds, found_in}
use Rattle.vg_templates.specs.Linkage.{pushes}
use Rattle.vg_templates.specs.Pointers.{fetch_z, brings_z}
use Rattle.vg_templates.specs.Plain.{pushes_value}
use Rattle.vg_templates.proofs.Bytes.{bytes_in_few}
use Rattle.vg_templates.proofs.Finding.{found-length, least_less}
use Rattle.vg_instr_words.specs.Words.{IsNarrow, brought_words, found_words}
use Rattle.vg_instr_words.proofs.Chains.{clears_words, known_words, number_words, moves_words, reach_few, loads_words, stores_words, pushes_words}
use Rattle.vg_instr_words.proofs.Numbers.{bytes_grow, bytes_words}

-- ---- spots

pub fetch_words : (s : Spot) (w d n : ℕ) → widths (fetch s w d n) ≤ 3 + n
fetch_words (InFrame at) w d n =
    let way = reach_few at w in
    let bytes = loads_words (reach at w).base (reach at w).displacement d w n in
    let all = widths-append (reach at w).code (loads (reach at w).base (reach at w).displacement d w n) in omega (arith, way, bytes, all)
fetch_words (InRegisters r) w d n = let few = moves_words r d w n in omega (arith, few)

keep_words : (s : Spot) (w r n : ℕ) → widths (keep s w r n) ≤ 3 + w
keep_words (InFrame at) w r n =
    let way = reach_few at w in
    let bytes = stores_words (reach at w).base (reach at w).displacement r w n in
    let all = widths-append (reach at w).code (stores (reach at w).base (reach at w).displacement r w n) in omega (arith, way, bytes, all)
keep_words (InRegisters d) w r n = let few = moves_words r d n w in omega (arith, few)

finds_spot_words : (s : Spot) (w d n : ℕ) → widths (finds_spot s w d n) ≤ 3 + n
finds_spot_words (InFrame at) w d n =
    let few = fetch_words (InFrame at) w d (least w n) in
    let less = (least_less w n).1 in omega (arith, few, less)
finds_spot_words (InRegisters r) w d n = omega arith

fetch_z_words : (s : Spot) (w : ℕ) → widths (fetch_z s w) ≤ 6
fetch_z_words (InFrame at) w =
    let few = fetch_words (InFrame at) w 26 2 in
    let all = widths-append (fetch (InFrame at) w 26 2) (Movw 30 26 ∷ []) in omega (arith, few, all)
fetch_z_words (InRegisters r) w = let few = moves_words r 30 w 2 in omega (arith, few)

-- ---- operands

pub found_grow : (a : Operand) (n m : ℕ) → n ≤ m → found_words a n ≤ found_words a m
found_grow (Local k) n m h = omega (arith, h)
found_grow (Known x) n m h = bytes_grow n m x h

pub found_brought : (a : Operand) (n : ℕ) → found_words a n ≤ brought_words a n
found_brought (Local k) n = omega arith
found_brought (Known x) n = let few = bytes_in_few n x in omega (arith, few)

module _ (l : Layout) where
  pub brings_words : (a : Operand) (d n : ℕ) → widths (brings l a d n) ≤ brought_words a n
  brings_words (Local k) d n = fetch_words (l.spots k) (width_of l k) d n
  brings_words (Known x) d n = let few = number_words d n x in omega (arith, few)

  pub finds_words : (a : Operand) (d n : ℕ) → widths (finds l a d n) ≤ found_words a n
  finds_words (Local k) d n = finds_spot_words (l.spots k) (width_of l k) d n
  finds_words (Known x) d n = bytes_words d n x

  pub pushes_value_words : (w : ℕ) (a : Operand) → widths (pushes_value l w a) ≤ found_words a w + w
  pushes_value_words w a =
      let found = finds_words a 22 w in
      let pushed = pushes_words (found_in l a 22 w) in
      let long = found-length l a 22 w in
      let all = widths-append (finds l a 22 w) (pushes (found_in l a 22 w)) in omega (arith, found, pushed, long, all)

  pub local_z_words : (k : ℕ) → widths (brings_z l (Local k)) ≤ 6
  local_z_words k = fetch_z_words (l.spots k) (width_of l k)

  pub known_z_words : (x : ℕ) → widths (brings_z l (Known x)) ≡ 3
  known_z_words x =
      let two = known_words 26 2 x in
      let all = widths-append (known 26 2 x) (Movw 30 26 ∷ []) in omega (arith, two, all)

  -- ---- locals

  pub gives_by_width : (to r n : ℕ) → widths (gives l to r n) ≤ 3 + width_of l to
  gives_by_width to r n = keep_words (l.spots to) (width_of l to) r n

  module _ (ok : IsNarrow l) where
    pub few_bytes : (k : ℕ) → width_of l k ≤ 4
    few_bytes k = elim (below_or_not k (length l.widths)) [
      | inl more ↦ ok.widths k more
      | inr less ↦ let none = index_behind l.widths k less in omega (arith, none)
    ]
      where
        index_behind : (ws : List ℕ) (j : ℕ) → length ws ≤ j → slice_index ws j ≡ 0
        index_behind [] j h = refl
        index_behind (w ∷ ws) zero h = absurd (omega (arith, h))
        index_behind (w ∷ ws) (suc j) h = index_behind ws j (omega (arith, h))

    pub gives_words : (to r n : ℕ) → widths (gives l to r n) ≤ 7
    gives_words to r n =
        let few = gives_by_width to r n in
        let four = few_bytes to in omega (arith, few, four)

    pub settles_words : (to : ℕ) (h : Option ℕ) (n : ℕ) → widths (settles l to h n) ≤ 7
    settles_words to None n = gives_words to 22 n
    settles_words to (Some r) n =
        let all = clears_words (r + n) (width_of l to - n) in
        let four = few_bytes to in omega (arith, all, four)

    pub settled_words : (to r n : ℕ) → n ≤ width_of l to → n + widths (settles l to (Some r) n) ≤ 4
    settled_words to r n inside =
        let all = clears_words (r + n) (width_of l to - n) in
        let four = few_bytes to in omega (arith, all, four, inside)
