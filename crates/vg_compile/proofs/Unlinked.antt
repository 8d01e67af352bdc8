-- What is linked of a packed program and its linear one.
use Rattle.std.proofs.Common.{◌≡◌, refl, ap, ◌∙◌, ℕ, ◌==◌, List, [], ◌∷◌, map, Some, if◌then◌else◌}
use Rattle.vg_codes.specs.declared.case.Case.{Case}
use Rattle.vg_lin.specs.Program.{Procedure}
use Rattle.vg_packed.specs.declared.program.Entrance.{Entrance}
use Rattle.vg_packed.specs.Programs as packed
use Rattle.vg_link.specs.declared.unlinked.Handler.{Handler}
use Rattle.vg_link.specs.Linking as linking
use Rattle.vg_place.specs.declared.placing.Columns.{Columns}
use Rattle.vg_placement.specs.declared.column.Column.{Column}
use Rattle.vg_table_bytes.specs.Bytes.{ram_widths, table_bytes_of}
use Rattle.vg_tables.specs.declared.datum.Datum.{Datum}
use Rattle.vg_packed.specs.declared.program.FirmProgram.{FirmProgram}
use Rattle.vg_linear.specs.declared.whole.Linear.{Linear}
use Rattle.vg_compile.specs.Unlinked.{IsUnlinked}
use Rattle.vg_compile.specs.Compile.{handler_of}

-- the first handler of a vector is the same where it is packed and where it is linked
pub same_handler : (es : List Entrance) (v : ℕ) → linking.handler_in (map handler_of es) v ≡ packed.handler_in es v
same_handler [] v = refl
same_handler (e ∷ es) v = ap (λ z. if e.vector == v then Some e.procedure else z) (same_handler es v)

pub same_handlers : (hs : List Handler) (es : List Entrance) → hs ≡ map handler_of es → (v : ℕ) → linking.handler_in hs v ≡ packed.handler_in es v
same_handlers hs es e v = ap (λ z. linking.handler_in z v) e ∙ same_handler es v

pub is_unlinked : (c : Columns) (f : FirmProgram) (l : Linear) (cs : List Column) (es : List Entrance) (ms : List Procedure) (ds : List (List Case))
    (tables : List Datum) (handlers : List Handler) → cs ≡ c.list → es ≡ f.handlers → ms ≡ l.procedures → ds ≡ l.dispatches
    → tables ≡ table_bytes_of (ram_widths cs) f.columns f.tables → handlers ≡ map handler_of es
    → IsUnlinked c f l (record {
      procedures = ms;
      start = l.start;
      dispatches = ds;
      tables = tables;
      static_bytes = c.static_bytes;
      handlers = handlers;
    })
is_unlinked c f l cs es ms ds tables handlers ec ee em ed et eh = record {
  procedures = em;
  start = refl;
  dispatches = ed;
  tables = et ∙ ap (λ z. table_bytes_of (ram_widths z) f.columns f.tables) ec;
  static_bytes = refl;
  handlers = same_handlers handlers f.handlers (eh ∙ ap (λ z. map handler_of z) ee);
}
