-- What is planned, step by step of the code. (A mirror: `IsPlan` of vg_packed says what it means.)
use Rattle.std.specs.Prelude.{◌≡◌, ℕ, List, [], None, length, map, replicate}
use Rattle.vg_core.specs.declared.heap.Heap.{Heap}
use Rattle.vg_core.specs.declared.program.Tables.{Tables}
use Rattle.vg_core.specs.declared.step.Step.{Step}
use Rattle.vg_core.specs.Heap.{Kind}
use Rattle.vg_core.specs.Program.{Program}
use Rattle.vg_live.specs.declared.live_set.LiveSet.{LiveSet}
use Rattle.vg_number.specs.declared.numbers.Numbers.{Numbers}
use Rattle.vg_number.specs.Counting.{AreOwn}
use Rattle.vg_number.specs.Numbering.{kept_in, kinds_of}
use Rattle.vg_pack_calls.specs.Asked.{asked_from, steps_from}
use Rattle.vg_pack_calls.specs.Cases.{cases_of}
use Rattle.vg_pack_calls.specs.Procedures.{procedures_from}
use Rattle.vg_pack_calls.specs.Receivers.{receivers_from}
use Rattle.vg_pack_code.specs.declared.plan.Plan.{Plan}
use Rattle.vg_placement.specs.declared.column.Column.{Column}
use Rattle.vg_plan_columns.specs.Fields.{fields_from}
use Rattle.vg_plan_columns.specs.Items.{items_from, no_items}
use Rattle.vg_plan_columns.specs.Starts.{HasStarts}
use Rattle.vg_plan_uses.specs.Binding.{bound_by, is_bound}
use Rattle.vg_plan_uses.specs.Calling.{edges_from}
use Rattle.vg_plan.specs.declared.planning.Planned.{Planned}

-- Procedures, columns and what is asked for.
pub record HasTables (p : Tables) (κ : List Kind) (s : LiveSet) (cs : List Column) (steps : List Step) (x : Plan) : Type 0 where
  pub procedures : x.procedures ≡ procedures_from 0 s.methods
  pub columns : x.columns ≡ fields_from 0 0 cs (replicate (length p.fields) None)
  pub items : x.items ≡ items_from 0 0 0 cs (map no_items p.types)
  pub starts : HasStarts κ (kept_in s) (length κ) x.starts
  pub asked : x.asked ≡ asked_from [] steps

-- A plan without what delegates and calls need, and one without calls alone.
abbrev pub tables_alone : Plan → Plan
tables_alone x = record {
  procedures = x.procedures;
  bindable = [];
  receives = [];
  columns = x.columns;
  items = x.items;
  starts = x.starts;
  asked = x.asked;
  edges = [];
}

abbrev pub calls_alone : Plan → Plan
calls_alone x = record {
  procedures = x.procedures;
  bindable = x.bindable;
  receives = x.receives;
  columns = x.columns;
  items = x.items;
  starts = x.starts;
  asked = x.asked;
  edges = [];
}

-- The whole plan and its dispatches, where each class has so many kept objects of its own.
pub record Plans (p : Program) (h : Heap) (s : LiveSet) (n : Numbers) (cs : List Column) (x : Planned) : Type 0 where
  pub tables : HasTables p.tables (kinds_of h) s cs (steps_from p 0 s.methods) x.plan
  pub own : List ℕ
  pub are_own : AreOwn (kinds_of h) (kept_in s) (length p.tables.classes) own
  pub dispatches : x.dispatches ≡ map (cases_of p.tables n (tables_alone x.plan) own) x.plan.asked
  pub bindable : x.plan.bindable
      ≡ map (is_bound (length p.tables.methods) (bound_by p.tables h s (tables_alone x.plan) x.dispatches (length p.tables.methods)
      (steps_from p 0 s.methods))) x.plan.procedures
  pub receives : x.plan.receives ≡ receivers_from x.plan.bindable 0 p.tables.methods
  pub edges : x.plan.edges ≡ edges_from p (calls_alone x.plan) x.dispatches (length p.tables.methods) s.methods 0 p.tables.methods
