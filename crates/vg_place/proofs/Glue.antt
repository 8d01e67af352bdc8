-- What was made is what the definitions say.
use Rattle.std.proofs.Common.{◌≡◌, refl, sym, ap, subst, ◌∙◌, arith, ℕ, zero, suc, ◌+◌, ◌<◌, ◌≤◌, ◌&&◌, not, Bool, true, false, List, [], ◌∷◌, ◌++◌}
use Rattle.std.proofs.Common.{drop, length, map, sum, get_or}
use Rattle.std.proofs.Common.{Option, Some, slice_get, if◌then◌else◌}
use Rattle.std.proofs.lemmas.Option.{same_Some, none-some}
use Rattle.std.proofs.lemmas.List.{drop_all, drop_more, length-map}
use Rattle.std.proofs.lemmas.List.Sums.{sum_by-cons}
use Rattle.vg_core.specs.declared.heap.Cell.{Cell}
use Rattle.vg_core.specs.declared.heap.Cell.TheVariants.{Object, Array}
use Rattle.vg_core.specs.declared.heap.Heap.{Heap}
use Rattle.vg_core.specs.declared.program.Field.{Field}
use Rattle.vg_core.specs.declared.program.Owner.{Owner}
use Rattle.vg_core.specs.declared.program.Owner.TheVariants.{InClass, InComponent}
use Rattle.vg_core.specs.declared.program.Tables.{Tables}
use Rattle.vg_core.specs.Heap.{Kind, ObjectOf, ArrayOf, kind_of, size_of, stored_values}
use Rattle.vg_core.specs.Program.{Program}
use Rattle.vg_core.specs.Tables.{is_in}
use Rattle.vg_firm.specs.declared.step.Home.{Home}
use Rattle.vg_firm.specs.declared.step.Home.TheVariants.{Ram, Flash}
use Rattle.vg_live.specs.declared.live_set.LiveSet.{LiveSet}
use Rattle.vg_live.specs.declared.live_set.Reason.{Reason}
use Rattle.vg_numbers.specs.Numbers.{arrays_before, count}
use Rattle.vg_number.specs.declared.numbers.Numbers.{Numbers}
use Rattle.vg_number.specs.declared.numbers.Span.{Span}
use Rattle.vg_number.specs.Numbering.{has_reason, kept_in, kinds_of, AreListed, IsNumbering}
use Rattle.vg_placement.specs.declared.column.Column.{Column}
use Rattle.vg_placement.specs.Columns.{Needs, bytes_of, bytes_where, home_bytes, unless_empty, field_column, field_columns, item_columns, items_count}
use Rattle.vg_placement.specs.Columns.{array_types, table_of}
use Rattle.vg_placement.specs.Columns.{columns, with_tables, all_columns, owner_count, placed, ram_behind, flash_behind}
use Rattle.vg_placement.specs.Needs.{needs}
use Rattle.vg_place.specs.Arrays.{Arrays}
use Rattle.vg_place.specs.Counting.{count_of, count_in, needs_by, HasNoted, elements_in, item_by, item_columns_by, table_by, placed_one}
use Rattle.vg_place.proofs.Rows.{step_rows}
use Rattle.vg_place.specs.Placing.{IsOwned, AreOwned}

-- ---- sums

home_both : (h : Home) (cs ts : List Column) → home_bytes h (cs ++ ts) ≡ home_bytes h cs + home_bytes h ts
home_both h [] ts = omega arith
home_both h (c ∷ cs) ts = let r = home_both h cs ts in omega (arith, r)

pub ram_of_all : (cs ts : List Column) → home_bytes Ram ts ≡ 0 → home_bytes Ram (with_tables cs ts) ≡ home_bytes Ram cs
ram_of_all cs ts e = let b = home_both Ram cs ts in omega (arith, b, e)

pub flash_alone : (counts order : List ℕ) → home_bytes Ram (map (table_by counts) order) ≡ 0
flash_alone counts [] = refl
flash_alone counts (t ∷ ts) = let h = flash_alone counts ts in omega (arith, h)

-- ---- fields

module _ (p : Tables) (n m : Needs) (live : (f : ℕ) → n.live f ≡ m.live f) (counts : (c : ℕ) → c < length p.classes → n.count c ≡ m.count c) where
  same_count : (o : Owner) → IsOwned p o → owner_count n.count o ≡ owner_count m.count o
  same_count (InClass c) lt = counts c lt
  same_count (InComponent k) lt = refl

  same_fields : (f : ℕ) (ys : List Field) → ((i : ℕ) (y : Field) → slice_get ys i ≡ Some y → IsOwned p y.owner) → field_columns n f ys ≡ field_columns m f ys
  same_fields f [] owned = refl
  same_fields f (y ∷ ys) owned =
      ap (λ z. (if z then unless_empty (field_column n f y) else []) ++ field_columns n (suc f) ys) (live f)
      ∙ (ap (λ z. (if m.live f then unless_empty (record {
        what = (field_column n f y).what;
        home = Ram;
        at = 0;
        width = (field_column n f y).width;
        count = z;
      }) else []) ++ field_columns n (suc f) ys) (same_count y.owner (owned 0 y refl))
      ∙ ap (λ z. (if m.live f then unless_empty (field_column m f y) else []) ++ z) (same_fields (suc f) ys (λ i w e. owned (suc i) w e)))

-- ---- elements and tables

-- the types of arrays are listed
types_listed : (kept : ℕ → Bool) (types : ℕ) (seen : List ℕ) (at : ℕ) (κ : List Kind)
    → ((j t size : ℕ) → slice_get κ j ≡ Some (ArrayOf t size) → t < types) → (i t : ℕ) → slice_get (array_types kept seen at κ) i ≡ Some t → t < types
types_listed kept types seen at [] listed i t e = absurd (none-some t e)
types_listed kept types seen at (ObjectOf c ∷ κ) listed i t e =
    types_listed kept types seen (suc at) κ (λ j u s g. listed (suc j) u s g) i t e
types_listed kept types seen at (ArrayOf u size ∷ κ) listed i t e =
    step (kept at && not (is_in seen u)) i e (types_listed kept types (u ∷ seen) (suc at) κ (λ j v s g. listed (suc j) v s g))
    (types_listed kept types seen (suc at) κ (λ j v s g. listed (suc j) v s g))
  where
    step : (b : Bool) (i1 : ℕ) → slice_get (if b then u ∷ array_types kept (u ∷ seen) (suc at) κ else array_types kept seen (suc at) κ) i1 ≡ Some t
        → ((k v : ℕ) → slice_get (array_types kept (u ∷ seen) (suc at) κ) k ≡ Some v → v < types)
        → ((k v : ℕ) → slice_get (array_types kept seen (suc at) κ) k ≡ Some v → v < types) → t < types
    step true zero g more same = subst (λ z. z < types) (same_Some u t g) (listed 0 u size refl)
    step true (suc k) g more same = more k t g
    step false k g more same = same k t g

module _ (p : Tables) (n : Needs) (κ : List Kind) (sizes counts : List ℕ)
    (sizes_are : (t : ℕ) → t < length p.types → get_or sizes t 0 ≡ items_count n.kept t κ)
    (counts_are : (t : ℕ) → t < length p.types → get_or counts t 0 ≡ arrays_before t n.kept 0 κ (length κ)) where
  same_items : (ts : List ℕ) → ((i t : ℕ) → slice_get ts i ≡ Some t → t < length p.types) → item_columns_by p.types sizes ts ≡ item_columns p n κ ts
  same_items [] listed = refl
  same_items (t ∷ ts) listed =
      ap (λ z. unless_empty (record { what = (item_by p.types sizes t).what; home = Ram; at = 0; width = (item_by p.types sizes t).width; count = z })
      ++ item_columns_by p.types sizes ts) (sizes_are t (listed 0 t refl))
      ∙ ap (λ z. unless_empty (record {
        what = (item_by p.types sizes t).what;
        home = Ram;
        at = 0;
        width = (item_by p.types sizes t).width;
        count = items_count n.kept t κ;
      }) ++ z) (same_items ts (λ i u e. listed (suc i) u e))

  same_tables : (ts : List ℕ) → ((i t : ℕ) → slice_get ts i ≡ Some t → t < length p.types) → map (table_by counts) ts ≡ map (table_of n.kept κ) ts
  same_tables [] listed = refl
  same_tables (t ∷ ts) listed =
      ap (λ z. record { what = (table_by counts t).what; home = Flash; at = 0; width = 4; count = z } ∷ map (table_by counts) ts) (counts_are t (listed
      0 t refl))
      ∙ ap (λ z. table_of n.kept κ t ∷ z) (same_tables ts (λ i u e. listed (suc i) u e))

-- ---- the whole list

pub same_all : (prog : Program) (κ : List Kind) (s : LiveSet) (nums : Numbers) (a : Arrays) → AreOwned prog.tables → AreListed prog.tables κ
    → IsNumbering prog.tables κ (kept_in s) nums → HasNoted (length prog.tables.types) κ (kept_in s) (length κ) a
    → with_tables (field_columns (needs_by s.fields nums.spans) 0 prog.tables.fields ++ item_columns_by prog.tables.types a.sizes a.order)
    (map (table_by a.counts) a.order) ≡ all_columns prog.tables (needs prog κ s) κ
same_all prog κ s nums a owned listed numbering noted =
    ap (λ z. with_tables (z ++ item_columns_by prog.tables.types a.sizes a.order) (map (table_by a.counts) a.order))
    (same_fields prog.tables (needs_by s.fields nums.spans) (needs prog κ s) (λ f. refl) counts 0 prog.tables.fields owned)
    ∙ (ap (λ z. with_tables (field_columns (needs prog κ s) 0 prog.tables.fields ++ item_columns_by prog.tables.types a.sizes z) (map (table_by
    a.counts) z)) order
    ∙ (ap (λ z. with_tables (field_columns (needs prog κ s) 0 prog.tables.fields ++ z) (map (table_by a.counts) (array_types (kept_in s) [] 0 κ)))
    (same_items prog.tables (needs prog κ s) κ a.sizes a.counts noted.sizes noted.counts (array_types (kept_in s) [] 0 κ) all_listed)
    ∙ ap (with_tables (columns prog.tables (needs prog κ s) κ))
    (same_tables prog.tables (needs prog κ s) κ a.sizes a.counts noted.sizes noted.counts (array_types (kept_in s) [] 0 κ) all_listed)))
  where
    counts : (c : ℕ) → c < length prog.tables.classes → count_in nums.spans c ≡ count prog.tables κ (kept_in s) c
    counts c lt = ap count_of (numbering.spans c lt)

    nothing_more : (xs : List ℕ) → xs ++ [] ≡ xs
    nothing_more [] = refl
    nothing_more (x ∷ xs) = ap (λ z. x ∷ z) (nothing_more xs)

    order : a.order ≡ array_types (kept_in s) [] 0 κ
    order =
        sym (nothing_more a.order)
        ∙ (ap (λ z. a.order ++ array_types (kept_in s) noted.seen (length κ) z) (sym (drop_all (length κ) κ (omega arith))) ∙ noted.order)

    all_listed : (i t : ℕ) → slice_get (array_types (kept_in s) [] 0 κ) i ≡ Some t → t < length prog.tables.types
    all_listed = types_listed (kept_in s) (length prog.tables.types) [] 0 κ (λ j t size e. listed j (ArrayOf t size) e)

-- ---- stored values

pub stored_cells : (cells : List Cell) → length cells + elements_in (map kind_of cells) ≤ sum (map size_of cells)
stored_cells [] = omega arith
stored_cells (Object c vs ∷ cs) =
    let h = stored_cells cs in let s = sum_by-cons (λ x. x) (size_of (Object c vs)) (map size_of cs) in omega (arith, h, s)
stored_cells (Array t vs ∷ cs) =
    let h = stored_cells cs in let s = sum_by-cons (λ x. x) (size_of (Array t vs)) (map size_of cs) in omega (arith, h, s)

-- ---- addresses

behind_ram : (h : Home) (ram bytes : ℕ) → ram_behind h ram bytes ≡ ram + bytes_where Ram h bytes
behind_ram Ram ram bytes = refl
behind_ram Flash ram bytes = omega arith

behind_flash : (h : Home) (flash bytes : ℕ) → flash_behind h flash bytes ≡ flash + bytes_where Flash h bytes
behind_flash Ram flash bytes = omega arith
behind_flash Flash flash bytes = refl

module _ (rows : List Column) (i : ℕ) (x : Column) (lt : i < length rows) (is : x ≡ get_or rows i x) where
  next : drop i rows ≡ x ∷ drop (i + 1) rows
  next = drop_more rows i x lt ∙ ap (λ z. z ∷ drop (i + 1) rows) (sym is)

  sum_next : (h : Home) → home_bytes h (drop i rows) ≡ bytes_where h x.home (bytes_of x) + home_bytes h (drop (i + 1) rows)
  sum_next h = ap (home_bytes h) next

  -- the bytes of the next column fit
  pub room_next : (h : Home) (at most : ℕ) → at + home_bytes h (drop i rows) ≤ most → at + bytes_where h x.home (bytes_of x) ≤ most
  room_next h at most le = let s = sum_next h in omega (arith, s, le)

  pub placed_more : (list new whole : List Column) (ram flash ram1 flash1 : ℕ)
      → (list ++ placed ram flash (drop i rows) ≡ whole) × (ram + home_bytes Ram (drop i rows) ≤ 4352) × (flash + home_bytes Flash (drop i rows) ≤ 60140)
      → new ≡ list ++ placed_one ram flash x ∷ [] → ram1 ≡ ram + bytes_where Ram x.home (bytes_of x) → flash1 ≡ flash + bytes_where Flash x.home (bytes_of x)
      → (new ++ placed ram1 flash1 (drop (i + 1) rows) ≡ whole) × (ram1 + home_bytes Ram (drop (i + 1) rows) ≤ 4352)
      × (flash1 + home_bytes Flash (drop (i + 1) rows) ≤ 60140)
  placed_more list new whole ram flash ram1 flash1 (h, r, f) e er ef = (
    step_rows list new (placed_one ram flash x ∷ []) (placed ram1 flash1 (drop (i + 1) rows)) whole
        (ap (λ z. list ++ (placed_one ram flash x ∷ placed z flash1 (drop (i + 1) rows))) (er ∙ sym (behind_ram x.home ram (bytes_of x)))
        ∙ (ap (λ z. list ++ (placed_one ram flash x ∷ placed (ram_behind x.home ram (bytes_of x)) z (drop (i + 1) rows))) (ef
        ∙ sym (behind_flash x.home flash (bytes_of x)))
        ∙ (ap (λ z. list ++ placed ram flash z) (sym next) ∙ h))) e,
    (let s = sum_next Ram in omega (arith, s, r, er)),
    (let s = sum_next Flash in omega (arith, s, f, ef)),
  )

-- ---- what placement is called with

few_cells : (h : Heap) (cells : List Cell) → cells ≡ h.cells → stored_values h ≤ 60000 → length cells + elements_in (map kind_of cells) ≤ 60000
few_cells h cells e le =
    let s = stored_cells h.cells in let l = ap (λ z. length z + elements_in (map kind_of z)) e in omega (arith, s, l, le)

pub are_few : (h : Heap) (cells : List Cell) → cells ≡ h.cells → stored_values h ≤ 60000 → length (map kind_of cells) ≤ 60000
are_few h cells e le = let f = few_cells h cells e le in let l = length-map cells kind_of in omega (arith, f, l)

pub are_small : (h : Heap) (cells : List Cell) → cells ≡ h.cells → stored_values h ≤ 60000 → elements_in (map kind_of cells) ≤ 60000
are_small h cells e le = let f = few_cells h cells e le in omega (arith, f)

pub few_rows : (h : Heap) (cells : List Cell) (values values1 rows rows1 : List Column) (counts order order1 : List ℕ) (fields : ℕ) → cells ≡ h.cells
    → stored_values h ≤ 60000 → fields < 4294967296 → length values ≤ fields + length order → length order ≤ length cells → order1 ≡ order
    → rows ≡ map (table_by counts) order1 → values1 ≡ values → rows1 ≡ rows → length values1 + length rows1 + 1 < 8589934592
few_rows h cells values values1 rows rows1 counts order order1 fields ec le lf lv lo eo er ev1 er1 =
    let f = few_cells h cells ec le in let o = ap length eo in let r = ap length er in let m = length-map order1 (table_by counts) in
    let v1 = ap length ev1 in let r1 = ap length er1 in omega (arith, f, lf, lv, lo, o, r, m, v1, r1)

pub flash_rows : (rows rows1 : List Column) (counts order : List ℕ) → rows ≡ map (table_by counts) order → rows1 ≡ rows → home_bytes Ram rows1 ≡ 0
flash_rows rows rows1 counts order e e1 = ap (home_bytes Ram) (e1 ∙ e) ∙ flash_alone counts order

pub whole : (prog : Program) (h : Heap) (s : LiveSet) (nums : Numbers) (a : Arrays) (cells1 : List Cell) (kept1 fields1 : List (Option Reason))
    (spans1 : List Span) (values values1 rows rows1 : List Column) (counts1 order1 : List ℕ) → cells1 ≡ h.cells → kept1 ≡ s.cells → fields1 ≡ s.fields
    → spans1 ≡ nums.spans → AreOwned prog.tables → AreListed prog.tables (kinds_of h) → IsNumbering prog.tables (kinds_of h) (kept_in s) nums
    → HasNoted (length prog.tables.types) (map kind_of cells1) (has_reason kept1) (length cells1) a → counts1 ≡ a.counts → order1 ≡ a.order
    → values ≡ field_columns (needs_by fields1 spans1) 0 prog.tables.fields ++ item_columns_by prog.tables.types a.sizes a.order
    → rows ≡ map (table_by counts1) order1 → values1 ≡ values → rows1 ≡ rows
    → with_tables values1 rows1 ≡ all_columns prog.tables (needs prog (kinds_of h) s) (kinds_of h)
whole prog h s nums a cells1 kept1 fields1 spans1 values values1 rows rows1 counts1 order1 ec ek ef es owned listed numbering noted en eo ev er ev1 er1 =
    ap (λ z. with_tables z rows1) (ev1 ∙ (ev
    ∙ (ap (λ z. field_columns (needs_by z spans1) 0 prog.tables.fields ++ item_columns_by prog.tables.types a.sizes a.order) ef
    ∙ ap (λ z. field_columns (needs_by s.fields z) 0 prog.tables.fields ++ item_columns_by prog.tables.types a.sizes a.order) es)))
    ∙ (ap (with_tables (field_columns (needs_by s.fields nums.spans) 0 prog.tables.fields ++ item_columns_by prog.tables.types a.sizes a.order))
    (er1 ∙ (er ∙ (ap (λ z. map (table_by z) order1) en ∙ ap (map (table_by a.counts)) eo)))
    ∙ same_all prog (kinds_of h) s nums a owned listed numbering
    (subst (λ n. HasNoted (length prog.tables.types) (kinds_of h) (kept_in s) n a) (sym (length-map h.cells kind_of))
    (subst (λ z. HasNoted (length prog.tables.types) (kinds_of h) (has_reason z) (length h.cells) a) ek
    (subst (λ z. HasNoted (length prog.tables.types) (map kind_of z) (has_reason kept1) (length z) a) ec noted))))
