-- The bytes of a placed program.
use Rattle.std.proofs.Common.{◌≡◌, refl, sym, ap, subst, ◌∙◌, arith, ℕ, ◌+◌, ◌*◌, ◌≤◌}
use Rattle.std.proofs.Common.{List, [], ◌∷◌, ◌++◌, length, map, Some, slice_get}
use Rattle.std.proofs.lemmas.List.{append-nil}
use Rattle.std.specs.List.{AllByRecursion}
use Rattle.vg_codes.specs.Codes.{Codes}
use Rattle.vg_core.specs.declared.program.Tables.{Tables}
use Rattle.vg_core.specs.Heap.{Kind}
use Rattle.vg_firm.specs.declared.step.ArrayPlace.{ArrayPlace}
use Rattle.vg_firm.specs.declared.step.Home.TheVariants.{Ram, Flash}
use Rattle.vg_packed.specs.declared.program.FirmProgram.{FirmProgram}
use Rattle.vg_packed.specs.Packed.{count_of, ram_columns}
use Rattle.vg_packed.specs.Programs.{program_of}
use Rattle.vg_place.specs.declared.placing.Columns.{Columns}
use Rattle.vg_place.specs.Placing.{ArePlaced}
use Rattle.vg_placement.specs.declared.column.Column.{Column}
use Rattle.vg_placement.specs.Columns.{all_columns, array_types, columns, home_bytes, Needs}
use Rattle.vg_table_bytes.specs.Bytes.{columns_bytes, ram_widths, rows_bytes, table_bytes_of}
use Rattle.vg_started_bytes.specs.Started.{address_of, bytes_in, place_of, ram_places, table_addresses, HoldsColumns, HoldsTable}
use Rattle.vg_table_bytes.specs.Rows.{tables_in, HasRows, RowsFit}
use Rattle.vg_started_bytes.proofs.Placed.{ram_placed, ram_sum, ram_total, flash_sum, stacked, tables_of, tables_placed, total, total_is, values_are, width_in_column, widths_are}
use Rattle.vg_started_bytes.proofs.Whole.{body, body_length, columns_apart, columns_are, columns_between, columns_counted, columns_held, tables_held, HeldAt}

module _ (k : Codes) (p : Tables) (n : Needs) (κ : List Kind) (c : Columns) (f : FirmProgram) (placed_so : ArePlaced (all_columns p n κ) c)
    (rows : HasRows k c.list f) where
  abbrev pub cs : List Column
  cs = columns p n κ

  abbrev pub us : List ℕ
  us = array_types n.kept [] 0 κ

  abbrev pub copy : ℕ
  copy = home_bytes Ram cs

  columns_in_ram : ram_columns c.list ≡ stacked 0x0100 cs
  columns_in_ram = ap ram_columns placed_so.list ∙ ram_placed n.kept κ 0x0100 (0x008C + 1 * copy) cs us (values_are p n κ)

  tables_there : tables_in c.list ≡ stacked (0x008C + 1 * copy) (tables_of n.kept κ us)
  tables_there = ap tables_in placed_so.list ∙ tables_placed n.kept κ 0x0100 (0x008C + 1 * copy) cs us (values_are p n κ)

  lengths : map length f.columns ≡ map count_of (stacked 0x0100 cs)
  lengths = rows.lengths ∙ ap (map count_of) columns_in_ram

  fit : RowsFit k (stacked 0x0100 cs) f.columns
  fit = subst (λ z. RowsFit k z f.columns) columns_in_ram rows.entries

  copied : columns_bytes (ram_widths c.list) 0 f.columns ≡ body (stacked 0x0100 cs) f.columns
  copied =
      ap (λ z. columns_bytes z 0 f.columns) (widths_are c.list ∙ ap (map width_in_column) columns_in_ram) ∙ columns_are (stacked 0x0100 cs) f.columns lengths []

  pub copy_length : length (columns_bytes (ram_widths c.list) 0 f.columns) ≡ c.static_bytes
  copy_length =
      ap length copied
      ∙ (body_length k 0x0100 cs f.columns lengths fit
      ∙ (sym (ram_total n.kept κ cs us (values_are p n κ)) ∙ none c.static_bytes (home_bytes Ram (cs ++ tables_of n.kept κ us)) placed_so.static_is))
    where
      none : (x y : ℕ) → x ≡ 0 + y → y ≡ x
      none x y e = omega (arith, e)

  small : 0x0100 + total cs ≤ 65536
  small = less (total cs) (home_bytes Ram (cs ++ tables_of n.kept κ us)) (ram_sum n.kept κ cs us (values_are p n κ)) placed_so.fits
    where
      less : (x y : ℕ) → x ≤ y → 0 + y ≤ 4096 → 0x0100 + x ≤ 65536
      less x y le few = omega (arith, le, few)

  tables_small : 0x008C + 1 * copy + total (tables_of n.kept κ us) ≤ 65536
  tables_small = less (total (tables_of n.kept κ us)) (1 * copy) (home_bytes Flash (cs ++ tables_of n.kept κ us)) (flash_sum n.kept κ cs us) placed_so.tables_fit
    where
      less : (x m y : ℕ) → x ≤ y → m + y ≤ 60000 → 0x008C + m + x ≤ 65536
      less x m y le few = omega (arith, le, few)

  pub columns_stand : HoldsColumns (bytes_in k (columns_bytes (ram_widths c.list) 0 f.columns)) 0x0100 (ram_places c.list) (program_of k f).ram
  columns_stand =
      subst (λ z. HoldsColumns (bytes_in k z) 0x0100 (ram_places c.list) (program_of k f).ram) (sym copied)
      (subst (λ z. HoldsColumns (bytes_in k (body (stacked 0x0100 cs) f.columns)) 0x0100 (map place_of z) (program_of k f).ram) (sym columns_in_ram) stand)
    where
      stand : HoldsColumns (bytes_in k (body (stacked 0x0100 cs) f.columns)) 0x0100 (map place_of (stacked 0x0100 cs)) (program_of k f).ram
      stand =
          record {
            each = λ i place vs e1 e2. record {
              counted = columns_counted k (stacked 0x0100 cs) f.columns lengths i place vs e1 e2;
              behind = (columns_between k 0x0100 cs f.columns lengths i place vs e1 e2).0;
              short = less (place.address + place.width * length vs) (total cs) (columns_between k 0x0100 cs f.columns lengths i place vs e1 e2).1 small;
              held = subst (λ z. HeldAt k z 0x0100 place vs) (append-nil (body (stacked 0x0100 cs) f.columns))
                  (columns_held k 0x0100 0x0100 cs f.columns lengths fit [] [] refl i place vs e1 e2);
            };
            apart = λ i j one two vs xs ne e1 e2 e3 e4. columns_apart k 0x0100 cs f.columns lengths i j one two vs xs ne e1 e2 e3 e4;
          }
        where
          less : (x y : ℕ) → x ≤ 0x0100 + y → 0x0100 + y ≤ 65536 → x ≤ 65536
          less x y le few = omega (arith, le, few)

  four : (vs : List ℕ) → AllByRecursion (λ d. d.width ≡ 4) (tables_of n.kept κ vs)
  four [] = tt {0}
  four (v ∷ vs) = (refl, four vs)

  pub tables_stand : (t address : ℕ) (arrays : List ArrayPlace) → slice_get (table_addresses c.list) t ≡ Some address
      → slice_get f.tables t ≡ Some arrays
      → HoldsTable (bytes_in k (table_bytes_of (ram_widths c.list) f.columns f.tables)) 0x008C address arrays
  tables_stand t address arrays e1 e2 =
      subst (λ z. HoldsTable (bytes_in k (z ++ rows_bytes f.tables)) 0x008C address arrays) (sym copied)
      (tables_held k 0x008C (0x008C + 1 * copy) (tables_of n.kept κ us) f.tables (four us) (rows.rows ∙ ap (map count_of) tables_there) rows.arrays
      (body (stacked 0x0100 cs) f.columns) begin tables_small t address arrays
      (subst (λ z. slice_get (map address_of z) t ≡ Some address) tables_there e1) e2)
    where
      begin : 0x008C + length (body (stacked 0x0100 cs) f.columns) ≡ 0x008C + 1 * copy
      begin = ap (λ z. 0x008C + z) (body_length k 0x0100 cs f.columns lengths fit ∙ (sym (total_is cs (values_are p n κ)) ∙ one copy))
        where
          one : (x : ℕ) → x ≡ 1 * x
          one x = omega arith
