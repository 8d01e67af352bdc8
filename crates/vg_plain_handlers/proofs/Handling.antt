-- The handlers of a plain linear program.
use Rattle.std.specs.Prelude.{ℕ, List, [], ◌∷◌, map, Some, slice_get, option_map}
use Rattle.std.proofs.Common.{◌≡◌, sym, ap, ◌∙◌, subst}
use Rattle.std.proofs.lemmas.Option.{slice_get-map}
use Rattle.vg_core.specs.declared.heap.Heap.{Heap}
use Rattle.vg_core.specs.Program.{Program}
use Rattle.vg_live.specs.declared.live_set.LiveSet.{LiveSet}
use Rattle.vg_number.specs.declared.numbers.Numbers.{Numbers}
use Rattle.vg_place.specs.declared.placing.Columns.{Columns}
use Rattle.vg_placement.specs.declared.column.Column.{Column}
use Rattle.vg_finding.specs.Finders.{finder, with_finders}
use Rattle.vg_templates.specs.Framed.{framed}
use Rattle.vg_followed.specs.Stands.{ReceivesNothing}
use Rattle.vg_flatten.specs.Flattened.{start_of, IsFlat}
use Rattle.vg_packed.specs.declared.program.FirmProgram.{FirmProgram}
use Rattle.vg_packed.specs.Given.{IsGiven}
use Rattle.vg_packed.specs.Packed.{IsPackedFrom}
use Rattle.vg_packed.specs.Programs.{handler_in}
use Rattle.vg_packed.specs.Ready.{IsReady}
use Rattle.vg_packed_entries.specs.Entries.{TakesNothing}
use Rattle.vg_packed_entries.proofs.Entries.{handler_takes}
use Rattle.vg_unreceived.proofs.Receiving.{nothing_found}
use Rattle.vg_linear.specs.declared.whole.Linear.{Linear}
use Rattle.vg_linear.specs.Expanded.{IsExpandedTo}
use Rattle.vg_linear.specs.Routines.{four_for}
use Rattle.vg_linear.specs.Whole.{IsPlain, first_routine, packed_of}
use Rattle.vg_linear.proofs.Lists.{get_left, zip_at}
use Rattle.vg_link.specs.Linking.{CanHandle}

-- The procedure of linear code that a procedure becomes which takes nothing receives nothing. The finders stand behind it, and the calls of them name nothing
-- else than the look-ups did.
pub plain_handles : (cs : List Column) (f : FirmProgram) (l : Linear) → IsPlain cs f l → (q : ℕ) → TakesNothing (packed_of f) q → CanHandle l.procedures q
plain_handles cs f l plain q (m, em, alone, unnamed) =
    let t = zip_at (IsFlat l.layout) (packed_of f) plain.flats plain.are_flat q m em in
    let begun : slice_get plain.begun q ≡ Some t.0 =
    ap (λ z. slice_get z q) plain.with_start.behind ∙ get_left plain.flats (start_of f.main plain.with_start.main.receives ∷ []) q t.0 t.1
    in
    let x = zip_at (IsExpandedTo (first_routine f)) plain.begun plain.expanded plain.are_expanded q t.0 begun in
    let routined : slice_get plain.routined q ≡ Some x.0 =
    ap (λ z. slice_get z q) plain.routines ∙ get_left plain.expanded (four_for (first_routine f) plain.expanded) q x.0 x.1
    in (
      with_finders plain.found.numbers x.0,
      ap (λ z. slice_get z q) plain.found.procedures
          ∙ get_left (map (with_finders plain.found.numbers) plain.routined) (map finder plain.found.finders) q (with_finders plain.found.numbers x.0)
          (slice_get-map (with_finders plain.found.numbers) plain.routined q ∙ ap (option_map (with_finders plain.found.numbers)) routined),
      subst (λ p. ReceivesNothing (framed (with_finders plain.found.numbers p))) (sym x.2.exactly)
          (nothing_found l.layout (first_routine f) m t.0 t.2 unnamed plain.found.numbers alone),
    )

module _ (p : Program) (h : Heap) (s : LiveSet) (n : Numbers) (c : Columns) (f : FirmProgram) (from : IsPackedFrom p h s n c f) (given : IsGiven p h s n c)
    (ready : IsReady p h) (l : Linear) (plain : IsPlain c.list f l) where
  pub can_handle : (v q : ℕ) → handler_in f.handlers v ≡ Some q → CanHandle l.procedures q
  can_handle v q e = plain_handles c.list f l plain q (handler_takes p h s n c f from given ready v q e)
