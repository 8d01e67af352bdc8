-- The procedures of a packed program are methods.
use Rattle.std.proofs.Common.{◌≡◌, sym, subst, arith, ℕ, ◌<◌, length, map, Some, slice_get}
use Rattle.std.proofs.lemmas.List.{length-map}
use Rattle.vg_core.specs.declared.heap.Heap.{Heap}
use Rattle.vg_core.specs.Program.{Program}
use Rattle.vg_firm.specs.Held.{procedure_of}
use Rattle.vg_live.specs.Sets.{flat}
use Rattle.vg_live.specs.declared.live_set.LiveSet.{LiveSet}
use Rattle.vg_number.specs.declared.numbers.Numbers.{Numbers}
use Rattle.vg_packing.specs.Laid.{Laid}
use Rattle.vg_place.specs.declared.placing.Columns.{Columns}
use Rattle.vg_packed.specs.declared.program.FirmProgram.{FirmProgram}
use Rattle.vg_packed.specs.Given.{IsGiven}
use Rattle.vg_packed.specs.Packed.{IsPackedFrom}
use Rattle.vg_packed.specs.Plans.{planned}
use Rattle.vg_packed.specs.Programs.{program_of}
use Rattle.vg_packed.specs.Ready.{IsReady}
use Rattle.vg_packed.proofs.Live.{is_of}
use Rattle.vg_packed.proofs.Placed.{is_placed}
use Rattle.vg_packed.proofs.Whole.{is_laid}
use Rattle.vg_packed_small.proofs.Procedures.{some_codes, codes}
use Rattle.vg_packed_methods.specs.Methods.{AllCallBefore}
use Rattle.vg_packed_methods.proofs.Moved.{before_methods}

module _ (p : Program) (h : Heap) (s : LiveSet) (n : Numbers) (c : Columns) (f : FirmProgram) (given : IsGiven p h s n c) (ready : IsReady p h)
    (from : IsPackedFrom p h s n c f) where
  laid : Laid p (planned h n from.plan) some_codes (program_of some_codes f)
  laid =
      is_laid p given.typed ready.plain h given.heap.0 given.heap.1 (planned h n from.plan) some_codes (program_of some_codes f)
      (is_of p h s n c f given ready from some_codes) (is_placed p h s n c f given ready from some_codes (codes p h s n c f from given))

  there : (m q : ℕ) → flat (slice_get from.plan.procedures m) ≡ Some q → q < length f.procedures
  there m q e = let a = laid.procedures m q e in let b = length-map f.procedures procedure_of in omega (arith, a, b)

  some : 0 < length f.procedures
  some = let a = there p.main f.main laid.main in omega (arith, a)

  pub all_call_before : AllCallBefore (length f.procedures) (map procedure_of f.procedures)
  all_call_before =
      subst (AllCallBefore (length f.procedures)) (sym from.procedures)
      (before_methods (length f.procedures) some p.tables n from.plan there 0 p.tables.methods p.methods)
