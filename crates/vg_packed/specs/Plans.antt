-- What is planned is what the live set, the numbers and the columns say.
use Rattle.std.specs.Prelude.{◌≡◌, ℕ, ◌<◌, true, [], length, Some, slice_get}
use Rattle.vg_core.specs.declared.heap.Heap.{Heap}
use Rattle.vg_core.specs.declared.types.CoreType.{CoreType}
use Rattle.vg_core.specs.Program.{Program}
use Rattle.vg_firm.specs.Session.{is_among}
use Rattle.vg_live.specs.declared.live_set.LiveSet.{LiveSet}
use Rattle.vg_number.specs.declared.numbers.Numbers.{Numbers}
use Rattle.vg_number.specs.Numbering.{kept_in, kinds_of}
use Rattle.vg_packing.specs.Layout.{Column, Layout}
use Rattle.vg_placement.specs.declared.column.Column as placement
use Rattle.vg_placement.specs.declared.column.Held.TheVariants.{Field as TheField}
use Rattle.vg_placement.specs.Columns.{column_width, home_of}
use Rattle.vg_placement.specs.Needs.{needs}
use Rattle.vg_place.specs.declared.placing.Columns.{Columns}
use Rattle.vg_packed.specs.Apart.{HasColumns}
use Rattle.vg_packed.specs.Uses.{HasDelegates, Calls}
use Rattle.vg_pack_code.specs.declared.plan.Plan.{Plan}
use Rattle.vg_pack_code.specs.Plans.{layout_by}
use Rattle.vg_pack_calls.specs.Procedures.{procedures_from}
use Rattle.vg_pack_calls.specs.Receivers.{receivers_from}
use Rattle.vg_pack_calls.specs.Asked.{asked_from, steps_from}

-- The layout of a plan for a heap.
abbrev pub planned : Heap → Numbers → Plan → Layout
planned h n x = layout_by (kinds_of h) n x

pub record IsPlan (p : Program) (h : Heap) (s : LiveSet) (n : Numbers) (c : Columns) (x : Plan) : Type 0 where
  -- the live methods have procedures, in order of the text
  pub procedures : x.procedures ≡ procedures_from 0 s.methods
  -- a method may be the value of a delegate exactly where a live method or a live place makes it one
  pub bindable : (m : ℕ) → HasDelegates p h m → (planned h n x).numbering.bindable m ≡ true
  pub only_bindable : (m : ℕ) → (planned h n x).numbering.bindable m ≡ true → HasDelegates p h m
  pub receives : x.receives ≡ receivers_from x.bindable 0 p.tables.methods
  -- fields and elements have the columns that hold them, and arrays stand in order of their cells
  pub has_columns : HasColumns (planned h n x) (kept_in s) c.list
  pub field_columns : (f i : ℕ) (a : placement.Column) → f < length p.tables.fields → slice_get c.list i ≡ Some a → a.what ≡ TheField f
      → (b : Column) × ((planned h n x).column f ≡ Some b)
  pub field_homes : (f : ℕ) (b : Column) → (planned h n x).column f ≡ Some b → b.home ≡ home_of ((needs p (kinds_of h) s).written f)
  pub item_homes : (t : ℕ) → ((planned h n x).items t).home ≡ home_of ((needs p (kinds_of h) s).items_written t)
  pub item_widths : (t : ℕ) (e : CoreType) → slice_get p.tables.types t ≡ Some e → ((planned h n x).items t).width ≡ column_width e
  -- what live methods ask for by dispatch, each once
  pub asked : x.asked ≡ asked_from [] (steps_from p 0 s.methods)
  -- a procedure names those that its method may call, and no others
  pub edges : (m k q : ℕ) → Calls p h m k → (planned h n x).numbering.procedure k ≡ Some q → is_among ((planned h n x).edges m) q ≡ true
  pub only_edges : (m q : ℕ) → is_among ((planned h n x).edges m) q ≡ true
      → (k : ℕ) × Calls p h m k × ((planned h n x).numbering.procedure k ≡ Some q)
