-- A hierarchy of four classes one below the other, a second class below the topmost, and a class of its own, with objects of all but the last;
-- arrays of chars, one of them empty, an empty array of objects, and an array of ints.
--
--   class A { field v: int; field d: int; }          class D extends C { field x: char; }
--   class B extends A { field flag: bool; }          class E { field y: int; }
--   class C extends B { }                            class F extends A { field z: raw.12; }
--   component Main { field list: A; }
use Rattle.std.specs.Prelude.{ℕ, ◌==◌, not, Bool, false, List, [], ◌∷◌}
use Rattle.vg_core.specs.declared.program.Class.{Class}
use Rattle.vg_core.specs.declared.program.Field.{Field}
use Rattle.vg_core.specs.declared.program.Owner.{Owner}
use Rattle.vg_core.specs.declared.program.Owner.TheVariants.{InClass, InComponent}
use Rattle.vg_core.specs.declared.program.Tables.{Tables}
use Rattle.vg_core.specs.declared.types.CoreType.{CoreType}
use Rattle.vg_core.specs.declared.types.CoreType.TheVariants.{IntType, BoolType, CharType, RawType, ClassType}
use Rattle.vg_core.specs.Heap.{Kind, ObjectOf, ArrayOf}
use Rattle.vg_firm.specs.declared.step.Home.TheVariants.{Ram, Flash}
use Rattle.vg_numbers.specs.Numbers.{count}
use Rattle.vg_placement.specs.declared.column.Column.{Column}
use Rattle.vg_placement.specs.declared.column.Held.{Held}
use Rattle.vg_placement.specs.declared.column.Held.TheVariants.{Initial, Field as TheField, Elements as TheItems, Table as TheTable}
use Rattle.vg_placement.specs.Columns.{Needs}

abbrev class : (above fields : List ℕ) → Class
class above fields = record { name = 0; above = above; fields = fields; methods = []; params = [] }

abbrev field : Owner → CoreType → (slot : ℕ) → Field
field owner t slot = record { name = 0; owner = owner; type_ = t; slot = slot }

abbrev pub tables : Tables
tables = record {
  classes = class (0 ∷ []) (0 ∷ 1 ∷ [])
      ∷ class (1 ∷ 0 ∷ []) (0 ∷ 1 ∷ 2 ∷ [])
      ∷ class (2 ∷ 1 ∷ 0 ∷ []) (0 ∷ 1 ∷ 2 ∷ [])
      ∷ class (3 ∷ 2 ∷ 1 ∷ 0 ∷ []) (0 ∷ 1 ∷ 2 ∷ 3 ∷ [])
      ∷ class (4 ∷ []) (4 ∷ [])
      ∷ class (5 ∷ 0 ∷ []) (0 ∷ 1 ∷ 5 ∷ [])
      ∷ [];
  components = 0 ∷ [];
  fields = field (InClass 0) IntType 0
      ∷ field (InClass 0) IntType 1
      ∷ field (InClass 1) BoolType 2
      ∷ field (InClass 3) CharType 3
      ∷ field (InClass 4) IntType 0
      ∷ field (InClass 5) (RawType 12) 2
      ∷ field (InComponent 0) (ClassType 0) 0
      ∷ [];
  globals = 6 ∷ [];
  methods = [];
  targets = [];
  types = IntType ∷ CharType ∷ ClassType 0 ∷ [];
  literals = [];
  char_type = 1;
}

-- The cells: an array "on", objects of D, A, B, C, C, F and A, an empty array of chars, an empty array of objects, and three ints.
abbrev pub kinds : List Kind
kinds =
    ArrayOf 1 2 ∷ ObjectOf 3 ∷ ObjectOf 0 ∷ ObjectOf 1 ∷ ObjectOf 2 ∷ ObjectOf 2 ∷ ObjectOf 5 ∷ ObjectOf 0 ∷ ArrayOf 1 0 ∷ ArrayOf 2 0 ∷ ArrayOf 0 3 ∷ []

-- All are live but the first object of C; the field `d` is dead.
abbrev pub kept : ℕ → Bool
kept j = not (j == 4)

abbrev pub made_of : Needs
made_of =
    record { live = λ f. not (f == 1); written = λ f. false; items_written = λ t. false; kept = kept; count = count tables kinds kept }

abbrev column : Held → (at width count : ℕ) → Column
column what at width count = record { what = what; home = Ram; at = at; width = width; count = count }

abbrev table : Held → (at width count : ℕ) → Column
table what at width count = record { what = what; home = Flash; at = at; width = width; count = count }

-- Worked by hand: `v` of six objects, `flag` of B, C and D, `x` of the D, `z` of the F, the component's `list`; E has no object, so `y` is
-- dropped. Then two chars and three ints; the elements of the array of objects are dropped.
abbrev pub worked : List Column
worked =
    table Initial 0x008C 1 46
    ∷ column (TheField 0) 256 4 6
    ∷ column (TheField 2) 280 1 3
    ∷ column (TheField 3) 283 1 1
    ∷ column (TheField 5) 284 2 1
    ∷ column (TheField 6) 286 2 1
    ∷ column (TheItems 1) 288 1 2
    ∷ column (TheItems 0) 290 4 3
    ∷ table (TheTable 1) 186 4 2
    ∷ table (TheTable 2) 194 4 1
    ∷ table (TheTable 0) 198 4 1
    ∷ []
