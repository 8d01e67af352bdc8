-- What is known where a program is packed.
use Rattle.std.specs.Prelude.{◌≡◌, ℕ, ◌<◌, ◌≤◌, ◌^◌, List, length, Some, slice_get}
use Rattle.vg_core.specs.declared.heap.Heap.{Heap}
use Rattle.vg_core.specs.declared.program.Tables.{Tables}
use Rattle.vg_core.specs.declared.types.CoreType.{CoreType}
use Rattle.vg_core.specs.Heap.{Kind, ArrayOf, stored_values}
use Rattle.vg_core.specs.Program.{Program}
use Rattle.vg_core.specs.Typing.{WellTyped}
use Rattle.vg_sound.specs.Good.{HasTypedHeap}
use Rattle.vg_live.specs.declared.live_set.LiveSet.{LiveSet}
use Rattle.vg_live.specs.Sets.{IsLiveSet}
use Rattle.vg_numbers.specs.Numbers.{AreChains}
use Rattle.vg_number.specs.declared.numbers.Numbers.{Numbers}
use Rattle.vg_number.specs.Numbering.{kept_in, kinds_of, IsNumbering}
use Rattle.vg_placement.specs.Columns.{all_columns, column_width}
use Rattle.vg_placement.specs.Needs.{needs}
use Rattle.vg_place.specs.declared.placing.Columns.{Columns}
use Rattle.vg_place.specs.Placing.{ArePlaced}
use Rattle.vg_pack_bodies.specs.Procedures.{HaveFewParameters}

-- The elements of arrays take at least one byte.
abbrev pub HaveWidth : Tables → List Kind → Type 0
HaveWidth p κ = (j t size : ℕ) (e : CoreType) → slice_get κ j ≡ Some (ArrayOf t size) → slice_get p.types t ≡ Some e → 0 < column_width e

-- A well typed program, the heap that its constructors left, what is live in them, the numbers of the live cells and the columns at their
-- addresses. What is counted in the packed program has two bytes.
pub record IsGiven (p : Program) (h : Heap) (s : LiveSet) (n : Numbers) (c : Columns) : Type 0 where
  pub typed : WellTyped p
  pub heap : HasTypedHeap p.tables h
  pub chains : AreChains p.tables
  pub live : IsLiveSet p h s
  pub few_values : stored_values h ≤ 60000
  pub numbers : IsNumbering p.tables (kinds_of h) (kept_in s) n
  pub columns : ArePlaced (all_columns p.tables (needs p (kinds_of h) s) (kinds_of h)) c
  pub wide : HaveWidth p.tables (kinds_of h)
  pub few_fields : length p.tables.fields < 2 ^ 32
  pub few_classes : length p.tables.classes < 65536
  pub few_methods : length p.tables.methods < 65536
  pub few_parameters : HaveFewParameters p.tables.methods
