-- The layout that a plan says, and code numbers for where no delegate is a constant.
use Rattle.std.specs.Prelude.{ℕ, ◌+◌, ◌==◌, ◌&&◌, Bool, false, List, [], ◌∷◌, get_or, min, Option, Some, None, slice_get, if◌then◌else◌}
use Rattle.vg_meaning.specs.Code.{Code, Nothing, Do}
use Rattle.vg_codes.specs.Codes.{Codes}
use Rattle.vg_core.specs.declared.program.Tables.{Tables}
use Rattle.vg_core.specs.Heap.{Kind}
use Rattle.vg_core.specs.declared.step.Step as core
use Rattle.vg_core.specs.declared.step.Step.TheVariants as core_steps
use Rattle.vg_firm.specs.declared.step.Home.TheVariants.{Ram}
use Rattle.vg_firm.specs.declared.step.Elements.{Elements}
use Rattle.vg_firm.specs.declared.step.Step.{Step}
use Rattle.vg_live.specs.Sets.{flat}
use Rattle.vg_number.specs.declared.numbers.Span.{Span}
use Rattle.vg_number.specs.declared.numbers.Numbers.{Numbers}
use Rattle.vg_packing.specs.Layout.{Column, Layout}
use Rattle.vg_packing.specs.Pass.{move}
use Rattle.vg_placement.specs.Columns.{column_width}
use Rattle.vg_pack_code.specs.declared.plan.Asked.{Asked}
use Rattle.vg_pack_code.specs.declared.plan.ColumnPlace.{ColumnPlace}
use Rattle.vg_pack_code.specs.declared.plan.Plan.{Plan}

-- The first number of a class. A class that is not there has no number from 1 on.
abbrev pub first_in : Option Span → ℕ
first_in (Some s) = s.first
first_in None = 1

abbrev pub first_by : List Span → ℕ → ℕ
first_by spans c = first_in (slice_get spans c)

abbrev pub count_of : Option Span → ℕ
count_of (Some s) = s.count
count_of None = 0

abbrev pub count_in : List Span → ℕ → ℕ
count_in spans c = count_of (slice_get spans c)

-- The column of a field, where it has one.
abbrev pub column_of : Option ColumnPlace → Option Column
column_of (Some c) = Some (record { home = c.home; column = c.column })
column_of None = None

-- No table has this number: that of a type of which no array is kept.
abbrev pub no_table : ℕ
no_table = 65535

-- No column has this number: that of the elements of a type whose kept arrays have no elements, or of which no array is kept.
abbrev pub no_column : ℕ
no_column = 65535

-- The elements of a type: those of no type stand nowhere.
abbrev pub items_in : Option Elements → Elements
items_in (Some e) = e
items_in None = record { home = Ram; column = no_column; address = 0; table = no_table; width = 0 }

abbrev pub holds : Option Bool → Bool
holds (Some b) = b
holds None = false

-- The place of the first that asks for a selector on a class; how many there are, where none does.
abbrev pub place_of : List Asked → (class selector : ℕ) → ℕ
place_of [] c s = 0
place_of (a ∷ rest) c s = if (a.class == c) && (a.selector == s) then 0 else 1 + place_of rest c s

abbrev pub row_in : Option (List ℕ) → List ℕ
row_in (Some ns) = ns
row_in None = []

-- The layout of cells of these kinds with these numbers, where the rest is planned.
abbrev pub layout_by : List Kind → Numbers → Plan → Layout
layout_by κ n x = record {
  numbering = record {
    number = λ j. get_or n.of_cell j 0;
    procedure = λ m. flat (slice_get x.procedures m);
    bindable = λ m. holds (slice_get x.bindable m);
  };
  kinds = κ;
  first = first_by n.spans;
  count = count_in n.spans;
  column = λ f. column_of (flat (slice_get x.columns f));
  width = column_width;
  items = λ t. items_in (slice_get x.items t);
  start = λ j. get_or x.starts j 0;
  dispatch = place_of x.asked;
  receives = λ m. holds (slice_get x.receives m);
  edges = λ m. row_in (slice_get x.edges m);
}

-- Code numbers where they are no matter: no constant of a body is a delegate.
abbrev pub no_codes : Codes
no_codes = record { code = λ q. 0; at_code = λ c. None }

-- What stands for a step: a step, or nothing.
abbrev pub done : Option Step → Code Step
done (Some s) = Do s
done None = Nothing

-- A call of a method with at most 255 arguments: what passes them is cut.
abbrev pub few_step : core.Step → core.Step
few_step (core_steps.CallMethod at c s count) = core_steps.CallMethod at c s (min count 255)
few_step (core_steps.CallComponent m count) = core_steps.CallComponent m (min count 255)
few_step s = s

-- The number of arguments of a call of a delegate.
abbrev pub delegate_arguments : core.Step → Option ℕ
delegate_arguments (core_steps.CallValue at count t) = Some count
delegate_arguments s = None

-- What stands for a step in a body.
abbrev pub moved : Tables → Numbers → Plan → core.Step → Code Step
moved p n x s = move p (layout_by [] n x) no_codes (few_step s)
