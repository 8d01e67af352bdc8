-- The procedures of a packed program, and its dispatches.
use Rattle.std.proofs.Common.{◌≡◌, refl, sym, ap, subst, arith, ℕ, suc, ◌+◌, ◌-◌, ◌<◌, ◌≤◌, List, [], ◌∷◌, length, map}
use Rattle.std.proofs.Common.{Option, Some, None, slice_get}
use Rattle.std.proofs.lemmas.List.{length-map, length-append}
use Rattle.vg_codes.specs.Codes.{Codes, AreCodes}
use Rattle.vg_core.specs.declared.heap.Heap.{Heap}
use Rattle.vg_core.specs.declared.program.Method.{Method}
use Rattle.vg_core.specs.declared.program.Tables.{Tables}
use Rattle.vg_core.specs.declared.program.Target.TheVariants.{Run}
use Rattle.vg_core.specs.Program.{Body, Program, method_signature}
use Rattle.vg_core.specs.Typing.{IsEntry}
use Rattle.vg_firm.specs.Held.{procedure_of}
use Rattle.vg_live.specs.Sets.{flat}
use Rattle.vg_live.specs.declared.live_set.LiveSet.{LiveSet}
use Rattle.vg_number.specs.declared.numbers.Numbers.{Numbers}
use Rattle.vg_number.specs.Numbering.{kept_in, kinds_of}
use Rattle.vg_packing.specs.Laid.{Laid}
use Rattle.vg_packing.specs.Layout.{Layout}
use Rattle.vg_place.specs.declared.placing.Columns.{Columns}
use Rattle.vg_place.proofs.Glue.{are_few}
use Rattle.vg_pack_code.specs.declared.plan.Plan.{Plan}
use Rattle.vg_pack_bodies.specs.Procedures.{unless_none, packed_if, packed_here, packed_methods}
use Rattle.vg_packed.specs.declared.program.FirmProgram.{FirmProgram}
use Rattle.vg_packed.specs.Given.{IsGiven}
use Rattle.vg_packed.specs.Packed.{IsPackedFrom}
use Rattle.vg_packed.specs.Plans.{planned}
use Rattle.vg_packed.specs.Programs.{program_of}
use Rattle.vg_packed.specs.Ready.{IsReady}
use Rattle.vg_packed.proofs.Live.{is_of}
use Rattle.vg_packed.proofs.Placed.{is_placed}
use Rattle.vg_packed.proofs.Whole.{is_laid}
use Rattle.vg_packed_small.specs.Small.{AreAllSmall, HasNoParameters}
use Rattle.vg_packed_small.proofs.Cases.{all_small}

-- ---- how many procedures there are

module _ (p : Tables) (n : Numbers) (x : Plan) where
  one_at_most : (m : ℕ) (y : Method) (b : Body) → length (packed_if p n x m y b) ≤ 1
  one_at_most m y b = by (flat (slice_get x.procedures m))
    where
      by : (o : Option ℕ) → length (unless_none o (packed_here p n x m y b)) ≤ 1
      by (Some q) = omega arith
      by None = omega arith

  few_packed : (m : ℕ) (ys : List Method) (bs : List Body) → length (packed_methods p n x m ys bs) ≤ length ys
  few_packed m (y ∷ ys) (b ∷ bs) =
      let h = few_packed (suc m) ys bs in
      let a = one_at_most m y b in let e = length-append (packed_if p n x m y b) (packed_methods p n x (suc m) ys bs) in omega (arith, h, a, e)
  few_packed m [] bs = omega arith
  few_packed m (y ∷ ys) [] = omega arith

-- ---- code numbers

-- Some for so many procedures.
abbrev pub some_codes : Codes
some_codes = record { code = λ q. q + 1; at_code = λ c. Some (c - 1) }

are_codes : (count : ℕ) → count ≤ 65535 → AreCodes count some_codes
are_codes count few =
    record {
      back = λ q lt. ap Some (back q);
      positive = λ q lt. omega arith;
      two_bytes = λ q lt. omega (arith, lt, few);
    }
  where
    back : (q : ℕ) → q + 1 - 1 ≡ q
    back q = omega arith

-- ---- the program

module _ (p : Program) (h : Heap) (s : LiveSet) (n : Numbers) (c : Columns) (f : FirmProgram) (from : IsPackedFrom p h s n c f) where
  pub few_procedures : length f.procedures ≤ length p.tables.methods
  few_procedures =
      let a = length-map f.procedures procedure_of in
      let b = ap length from.procedures in let d = few_packed p.tables n from.plan 0 p.tables.methods p.methods in omega (arith, a, b, d)

  module _ (given : IsGiven p h s n c) where
    pub small : AreAllSmall f.dispatches
    small =
        subst AreAllSmall (sym from.dispatches)
        (all_small p.tables given.chains (kinds_of h) (kept_in s) n given.numbers few_cells from.own from.are_own from.plan from.plan.asked)
      where
        few_cells : length (kinds_of h) ≤ 60000
        few_cells = let e = are_few h h.cells refl given.few_values in omega (arith, e)

    pub codes : AreCodes (length f.procedures) some_codes
    codes = are_codes (length f.procedures) (let a = few_procedures in let b = given.few_methods in omega (arith, a, b))

    module _ (ready : IsReady p h) where
      abbrev its_layout : Layout
      its_layout = planned h n from.plan

      laid : Laid p its_layout some_codes (program_of some_codes f)
      laid =
          is_laid p given.typed ready.plain h given.heap.0 given.heap.1 its_layout some_codes (program_of some_codes f)
          (is_of p h s n c f given ready from some_codes) (is_placed p h s n c f given ready from some_codes codes)

      pub main_there : f.main < length f.procedures
      main_there = let a = laid.procedures p.main f.main laid.main in let b = length-map f.procedures procedure_of in omega (arith, a, b)

      -- the procedure of an entry has no parameters
      pub entry_params : (m q : ℕ) → IsEntry p m → its_layout.numbering.procedure m ≡ Some q → HasNoParameters (map procedure_of f.procedures) q
      entry_params m q entry e =
          let b = given.typed.bodies (Run m) _ (ap method_signature entry.is) in
          let x = laid.bodies m q _ b.0 e (ap method_signature entry.is) b.1 in (_, x.procedure, ap length entry.params)
