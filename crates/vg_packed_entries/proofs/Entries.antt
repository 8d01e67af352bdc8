-- The procedures of entries.
use Rattle.std.specs.Prelude.{ℕ, Bool, true, false, ◌==◌, List, [], ◌∷◌, length, map, Option, Some, None, if◌then◌else◌}
use Rattle.std.proofs.Common.{◌≡◌, refl, ap, subst}
use Rattle.std.proofs.lemmas.Option.{same_Some, none-some}
use Rattle.vg_core.specs.declared.heap.Heap.{Heap}
use Rattle.vg_core.specs.declared.program.Handler.{Handler}
use Rattle.vg_core.specs.declared.program.Target.TheVariants.{Run}
use Rattle.vg_core.specs.Program.{Program, Signature, method_signature}
use Rattle.vg_core.specs.Session.{handler_of}
use Rattle.vg_core.specs.Typing.{IsEntry, AreEntries}
use Rattle.vg_firm.specs.Held.{procedure_of}
use Rattle.vg_live.specs.declared.live_set.LiveSet.{LiveSet}
use Rattle.vg_number.specs.declared.numbers.Numbers.{Numbers}
use Rattle.vg_packing.specs.Laid.{SameEntry}
use Rattle.vg_place.specs.declared.placing.Columns.{Columns}
use Rattle.vg_packed.specs.declared.program.FirmProgram.{FirmProgram}
use Rattle.vg_packed.specs.Given.{IsGiven}
use Rattle.vg_packed.specs.Packed.{IsPackedFrom}
use Rattle.vg_packed.specs.Plans.{planned}
use Rattle.vg_packed.specs.IsPlaced.{IsPlaced}
use Rattle.vg_packed.specs.Programs.{handler_in, program_of}
use Rattle.vg_packed.specs.Ready.{IsReady}
use Rattle.vg_packed.proofs.Placed.{is_placed}
use Rattle.vg_packed_small.proofs.Procedures.{some_codes, codes}
use Rattle.vg_packed_entries.specs.Entries.{TakesNothing}
use Rattle.vg_packed_entries.proofs.Components.{component_spares}

-- a handler that is found is an entry
found_entry : (p : Program) (hs : List Handler) (v m : ℕ) → AreEntries p hs → handler_of hs v ≡ Some m → IsEntry p m
found_entry p [] v m es e = absurd (none-some m e)
found_entry p (h ∷ hs) v m (entry, es) e = by (h.vector == v) e (found_entry p hs v m es)
  where
    by : (b : Bool) → (if b then Some h.method else handler_of hs v) ≡ Some m → (handler_of hs v ≡ Some m → IsEntry p m) → IsEntry p m
    by true found later = subst (IsEntry p) (same_Some h.method m found) entry
    by false found later = later found

module _ (p : Program) (h : Heap) (s : LiveSet) (n : Numbers) (c : Columns) (f : FirmProgram) (from : IsPackedFrom p h s n c f) (given : IsGiven p h s n c)
    (ready : IsReady p h) where
  placed : IsPlaced p (planned h n from.plan) some_codes (program_of some_codes f)
  placed = is_placed p h s n c f given ready from some_codes (codes p h s n c f from given)

  pub entry_takes : (m q : ℕ) → IsEntry p m → (planned h n from.plan).numbering.procedure m ≡ Some q → TakesNothing (map procedure_of f.procedures) q
  entry_takes m q entry e =
      let g : Signature = record { owner = entry.method.owner; params = entry.method.params; result = entry.method.result } in
      let b = given.typed.bodies (Run m) g (ap method_signature entry.is) in
      let x = placed.procedures m q g b.0 e (ap method_signature entry.is) b.1 in
      (_, x, ap length entry.params, component_spares p.tables (planned h n from.plan) some_codes m entry.component g b.0 entry.owner b.2)

  pub handler_takes : (v q : ℕ) → handler_in f.handlers v ≡ Some q → TakesNothing (map procedure_of f.procedures) q
  handler_takes v q e = by (handler_of p.handlers v) refl (subst (SameEntry (planned h n from.plan) (handler_of p.handlers v)) e (from.handlers v))
    where
      by : (o : Option ℕ) → handler_of p.handlers v ≡ o → SameEntry (planned h n from.plan) o (Some q) → TakesNothing (map procedure_of f.procedures) q
      by (Some m) found same = entry_takes m q (found_entry p p.handlers v m given.typed.handlers found) same
      by None found same = absurd same
