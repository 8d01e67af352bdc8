-- What the columns of a program are made of, by its live set.
use Rattle.std.specs.Prelude.{ℕ, suc, ◌==◌, ◌&&◌, ◌||◌, Bool, false, List, [], ◌∷◌, Option}
use Rattle.vg_core.specs.declared.step.Step.{Step}
use Rattle.vg_core.specs.declared.step.Step.TheVariants.{SetComponentField, SetField, SetItem}
use Rattle.vg_core.specs.declared.program.Tables.{Tables}
use Rattle.vg_core.specs.Heap.{Kind}
use Rattle.vg_core.specs.Program.{Body, Program}
use Rattle.vg_live.specs.declared.live_set.LiveSet.{LiveSet}
use Rattle.vg_live.specs.declared.live_set.Reason.{Reason}
use Rattle.vg_live.specs.Uses.{uses}
use Rattle.vg_numbers.specs.Numbers.{count}
use Rattle.vg_number.specs.Numbering.{has_reason}
use Rattle.vg_placement.specs.Columns.{Needs}

-- A step stores to the field f, or to elements of the type t.
abbrev pub sets_field : (f : ℕ) → Step → Bool
sets_field f (SetComponentField g) = g == f
sets_field f (SetField at g) = g == f
sets_field f _ = false

abbrev pub sets_items : (t : ℕ) → Step → Bool
sets_items t (SetItem at u) = u == t
sets_items t _ = false

abbrev pub any_step : (Step → Bool) → List Step → Bool
any_step test [] = false
any_step test (s ∷ ss) = test s || any_step test ss

-- A step for which this holds stands in a live method, of the methods from m on.
abbrev pub any_live : (Step → Bool) → List (Option Reason) → (m : ℕ) → List Body → Bool
any_live test live m [] = false
any_live test live m (b ∷ bs) = (has_reason live m && any_step test (uses b.code)) || any_live test live (suc m) bs

abbrev pub needs : Program → List Kind → LiveSet → Needs
needs p κ s =
    record {
      live = has_reason s.fields;
      written = λ f. any_live (sets_field f) s.methods 0 p.methods;
      items_written = λ t. any_live (sets_items t) s.methods 0 p.methods;
      kept = has_reason s.cells;
      count = count p.tables κ (has_reason s.cells);
    }
