-- What bytes hold stands in them.
use Rattle.std.proofs.Common.{◌≡◌, refl, sym, ap, ◌∙◌, ℕ, List, length, map, option_map, Option, Some, None, slice_get}
use Rattle.std.proofs.lemmas.Option.{none-some, slice_get-map}
use Rattle.vg_codes.specs.Codes.{Codes}
use Rattle.vg_firm.specs.declared.step.ArrayPlace.{ArrayPlace}
use Rattle.vg_flatten.specs.Columns.{RamStands, TableStands}
use Rattle.vg_flatten_shapes.specs.declared.layout.Place.{Place}
use Rattle.vg_packed.specs.declared.program.FirmProgram.{FirmProgram}
use Rattle.vg_packed.specs.Packed.{count_of, ram_columns}
use Rattle.vg_packed.specs.Programs.{program_of}
use Rattle.vg_placement.specs.declared.column.Column.{Column}
use Rattle.vg_started_bytes.specs.Started.{address_of, place_of, ram_places, table_addresses, HoldsColumns, HoldsTable}
use Rattle.vg_table_bytes.specs.Rows.{tables_in}

pub columns_stand : (bytes : List ℕ) (places : List Place) (columns : List (List ℕ)) → HoldsColumns bytes 0x0100 places columns
    → ((c : ℕ) → slice_get places c ≡ None → slice_get columns c ≡ None) → RamStands places columns bytes
columns_stand bytes places columns h known =
    record {
      stands = λ c place vs e1 e2. record {
        counted = (h.each c place vs e1 e2).counted;
        behind = (h.each c place vs e1 e2).behind;
        short = (h.each c place vs e1 e2).short;
        held = (h.each c place vs e1 e2).held;
      };
      apart = h.apart;
      known = known;
    }

pub table_stands : (bytes : List ℕ) (address : ℕ) (arrays : List ArrayPlace) → HoldsTable bytes 0x008C address arrays → TableStands bytes address arrays
table_stands bytes address arrays h = record { behind = h.behind; short = h.short; addresses = h.addresses; lengths = h.lengths }

-- What is made of nothing is nothing.
of_nothing : {A B : Type 0} (g : A → B) (o : Option A) → option_map g o ≡ None → o ≡ None
of_nothing g None e = refl
of_nothing g (Some x) e = absurd (none-some (g x) (sym e))

-- Two lists of which the same is made end at the same place.
ends_with : {A B C : Type 0} (g : A → C) (h : B → C) (xs : List A) (ys : List B) → map g xs ≡ map h ys → (i : ℕ) → slice_get ys i ≡ None
    → slice_get xs i ≡ None
ends_with g h xs ys same i e =
    of_nothing g (slice_get xs i)
    (sym (slice_get-map g xs i) ∙ (ap (λ z. slice_get z i) same ∙ (slice_get-map h ys i ∙ ap (option_map h) e)))

pub tables_known : (list : List Column) (tables : List (List ArrayPlace)) → map length tables ≡ map count_of (tables_in list)
    → (t : ℕ) → slice_get (table_addresses list) t ≡ None → slice_get tables t ≡ None
tables_known list tables same t e =
    ends_with length count_of tables (tables_in list) same t
    (of_nothing address_of (slice_get (tables_in list) t) (sym (slice_get-map address_of (tables_in list) t) ∙ e))

-- A column of the program is one of those that are placed.
pub columns_known : (k : Codes) (list : List Column) (f : FirmProgram) → map length f.columns ≡ map count_of (ram_columns list)
    → (c : ℕ) → slice_get (ram_places list) c ≡ None → slice_get (program_of k f).ram c ≡ None
columns_known k list f same c e =
    slice_get-map _ f.columns c
    ∙ ap (option_map _) (ends_with length count_of f.columns (ram_columns list) same c
    (of_nothing place_of (slice_get (ram_columns list) c) (sym (slice_get-map place_of (ram_columns list) c) ∙ e)))
