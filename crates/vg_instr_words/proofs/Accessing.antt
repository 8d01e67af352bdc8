-- How many words it takes to read and write columns, tables and device registers, and to find the procedure of a dispatch.
use Rattle.std.specs.Prelude.{ℕ, ◌+◌, ◌*◌, ◌≤◌, Bool, true, false, if◌then◌else◌, List, ◌++◌, length}
use Rattle.std.proofs.Common.{◌≡◌, arith}
use Rattle.avr_isa.specs.Standing.{widths}
use Rattle.avr_isa.proofs.Standing.{widths-append}
use Rattle.vg_codes.specs.declared.case.Case.{Case}
use Rattle.vg_lin.specs.declared.instr.Operand.{Operand}
use Rattle.vg_lin.specs.declared.instr.Operand.TheVariants.{Local, Known}
use Rattle.vg_templates.specs.Layouts.{Layout}
use Rattle.vg_templates.specs.Held.{brings, gives}
use Rattle.vg_templates.specs.Homes.{home_of, made_in, settles}
use Rattle.vg_templates.specs.Operands.{finds, found_in}
use Rattle.vg_templates.specs.Pointers.{brings_z}
use Rattle.vg_templates.specs.Plain.{first_of, writes_register, writes_device, reads_register, reads_device}
use Rattle.vg_templates.specs.Plains.{pops_from, pops_value}
use Rattle.vg_templates.specs.Accesses.{plus_base, points_x, is_near, address_of, points_by, loads_by, stores_by, loads_column, stores_column}
use Rattle.vg_templates.specs.Choices.{usual, unusual}
use Rattle.vg_templates.specs.Lookups.{points_z, loads_z, loads_table, tries_cases, finds_procedure}
use Rattle.vg_templates.proofs.Finding.{found-length}
use Rattle.vg_instr_words.specs.Words.{IsNarrow, brought_words, found_words, pointer_words, column_words, table_words}
use Rattle.vg_instr_words.proofs.Chains.{known_words, base_words, loads_x_words, stores_x_words, loads_at_words, stores_at_words, loads_z_words}
use Rattle.vg_instr_words.proofs.Chains.{writes_words, reads_words, pops_from_words}
use Rattle.vg_instr_words.proofs.Cases.{unusual_few, cases_words}
use Rattle.vg_instr_words.proofs.Operands.{brings_words, finds_words, local_z_words, gives_words, settles_words}

module _ (l : Layout) where
  points_x_words : (base : ℕ) (a : Operand) → widths (points_x l base a) ≤ pointer_words a
  points_x_words base (Known x) = let two = known_words 26 2 (base + x) in omega (arith, two)
  points_x_words base (Local k) =
      let bring = brings_words l (Local k) 26 2 in
      let more = base_words 26 base in
      let all = widths-append (brings l (Local k) 26 2) (plus_base 26 base) in omega (arith, bring, more, all)

  points_z_words : (base : ℕ) (a : Operand) → widths (points_z l base a) ≤ table_words a
  points_z_words base (Known x) = let two = known_words 30 2 (base + x) in omega (arith, two)
  points_z_words base (Local k) =
      let bring = local_z_words l k in
      let more = base_words 30 base in
      let all = widths-append (brings_z l (Local k)) (plus_base 30 base) in omega (arith, bring, more, all)

  -- ---- columns

  loads_near : (b : Bool) (d w base : ℕ) (a : Operand)
      → widths (points_by b l base a) + widths (loads_by b d w (address_of base a)) ≤ (if b then w else pointer_words a) + w
  loads_near true d w base a = let all = loads_at_words d w (address_of base a) in omega (arith, all)
  loads_near false d w base a =
      let point = points_x_words base a in
      let all = loads_x_words d w in omega (arith, point, all)

  stores_near : (b : Bool) (rs : List ℕ) (w base : ℕ) (a : Operand) → length rs ≡ w
      → widths (points_by b l base a) + widths (stores_by b rs (address_of base a)) ≤ (if b then w else pointer_words a) + w
  stores_near true rs w base a long = let all = stores_at_words rs (address_of base a) in omega (arith, all, long)
  stores_near false rs w base a long =
      let point = points_x_words base a in
      let all = stores_x_words rs in omega (arith, point, all, long)

  pub stores_words : (w base : ℕ) (index from : Operand) → widths (stores_column l w base index from) ≤ column_words index w + found_words from w + w
  stores_words w base index from =
      let near = is_near w index in
      let rs = found_in l from 22 w in
      let found = finds_words l from 22 w in
      let both = stores_near near rs w base index (found-length l from 22 w) in
      let one = widths-append (points_by near l base index) (finds l from 22 w ++ stores_by near rs (address_of base index)) in
      let two = widths-append (finds l from 22 w) (stores_by near rs (address_of base index)) in omega (arith, found, both, one, two)

  pub writes_device_words : (address : ℕ) (a : Operand) → widths (writes_device l address a) ≤ found_words a 1 + 2
  writes_device_words address a =
      let found = finds_words l a 22 1 in
      let write = writes_words address (first_of (found_in l a 22 1)) in
      let all = widths-append (finds l a 22 1) (writes_register address (first_of (found_in l a 22 1))) in omega (arith, found, write, all)

  module _ (ok : IsNarrow l) where
    pub loads_words : (w to base : ℕ) (index : Operand) → widths (loads_column l w to base index) ≤ column_words index w + w + 7
    loads_words w to base index =
        let near = is_near w index in
        let h = home_of l to w in
        let both = loads_near near (made_in h) w base index in
        let settle = settles_words l ok to h w in
        let one = widths-append (points_by near l base index) (loads_by near (made_in h) w (address_of base index) ++ settles l to h w) in
        let two = widths-append (loads_by near (made_in h) w (address_of base index)) (settles l to h w) in omega (arith, both, settle, one, two)

    pub table_loads_words : (w to base : ℕ) (index : Operand) → widths (loads_table l w to base index) ≤ table_words index + w + 7
    table_loads_words w to base index =
        let h = home_of l to w in
        let point = points_z_words base index in
        let load = loads_z_words (made_in h) w in
        let settle = settles_words l ok to h w in
        let one = widths-append (points_z l base index) (loads_z (made_in h) w ++ settles l to h w) in
        let two = widths-append (loads_z (made_in h) w) (settles l to h w) in omega (arith, point, load, settle, one, two)

    pub reads_device_words : (to address : ℕ) → widths (reads_device l to address) ≤ 9
    reads_device_words to address =
        let h = home_of l to 1 in
        let read = reads_words (made_in h) address in
        let settle = settles_words l ok to h 1 in
        let all = widths-append (reads_register (made_in h) address) (settles l to h 1) in omega (arith, read, settle, all)

    pub pops_value_words : (w to : ℕ) → widths (pops_value l w to) ≤ w + 7
    pops_value_words w to =
        let pop = pops_from_words 22 w in
        let give = gives_words l ok to 22 w in
        let all = widths-append (pops_from 22 w) (gives l to 22 w) in omega (arith, pop, give, all)

    pub finds_procedure_words : (codes : ℕ → ℕ) (cs : List Case) (to : ℕ) (a : Operand)
        → widths (finds_procedure l codes cs to a) ≤ brought_words a 2 + 8 * length cs + 9
    finds_procedure_words codes cs to a =
        let rest = unusual (usual cs) cs in
        let bring = brings_words l a 24 2 in
        let tries = cases_words codes (usual cs) rest in
        let few = unusual_few (usual cs) cs in
        let give = gives_words l ok to 22 2 in
        let one = widths-append (brings l a 24 2) (tries_cases codes (usual cs) rest ++ gives l to 22 2) in
        let two = widths-append (tries_cases codes (usual cs) rest) (gives l to 22 2) in omega (arith, bring, tries, few, give, one, two)
