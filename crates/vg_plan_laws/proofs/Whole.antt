-- What the code plans is a plan.
use Rattle.std.proofs.Common.{◌≡◌, refl, ap, ◌∙◌, ℕ, suc, ◌==◌, ◌||◌, not, true, List, [], ◌∷◌, ◌++◌, length, map, get_or}
use Rattle.std.proofs.Common.{Option, Some, None, if◌then◌else◌}
use Rattle.vg_codes.specs.declared.case.Case.{Case}
use Rattle.vg_core.specs.declared.heap.Heap.{Heap}
use Rattle.vg_core.specs.declared.program.Class.{Class}
use Rattle.vg_core.specs.declared.program.Tables.{Tables}
use Rattle.vg_core.specs.Program.{Program}
use Rattle.vg_core.specs.Tables.{is_below, dispatch}
use Rattle.vg_firm.specs.Session.{is_among}
use Rattle.vg_live.specs.declared.live_set.LiveSet.{LiveSet}
use Rattle.vg_number.specs.declared.numbers.Numbers.{Numbers}
use Rattle.vg_pack_calls.specs.Asked.{steps_from}
use Rattle.vg_pack_calls.specs.Cases.{procedure_of, case_with, case_of, cases_from, cases_of}
use Rattle.vg_pack_code.specs.declared.plan.Asked.{Asked}
use Rattle.vg_pack_code.specs.declared.plan.Plan.{Plan}
use Rattle.vg_pack_code.specs.Plans.{first_by}
use Rattle.vg_packed.specs.Given.{IsGiven}
use Rattle.vg_packed.specs.Plans.{planned, IsPlan}
use Rattle.vg_place.specs.declared.placing.Columns.{Columns}
use Rattle.vg_placement.specs.declared.column.Column.{Column}
use Rattle.vg_plan.specs.declared.planning.Planned.{Planned}
use Rattle.vg_plan.specs.Planned.{Plans, tables_alone, calls_alone}
use Rattle.vg_plan_laws.proofs.Bounded.{has_delegates, has_calls}
use Rattle.vg_plan_laws.specs.Stands.{StandsIn}
use Rattle.vg_plan_uses.specs.Binding.{bound_by, is_bound}
use Rattle.vg_plan_uses.specs.Calling.{edges_from}
use Rattle.vg_packed.specs.Uses.{Calls, HasDelegates}
use Rattle.vg_plan_laws.proofs.All.{all_bindable, all_edges}

-- ---- dispatches go by procedures alone

module _ (p : Tables) (n : Numbers) (x : Plan) (own : List ℕ) (a : Asked) where
  procedure_same : (o : Option ℕ) → procedure_of (tables_alone x) o ≡ procedure_of x o
  procedure_same None = refl
  procedure_same (Some m) = refl

  case_same : (c : ℕ) → case_of p n (tables_alone x) own a c ≡ case_of p n x own a c
  case_same c =
      ap (λ o. if (get_or own c 0 == 0) || not (is_below p c a.class) then [] else case_with (first_by n.spans c) (get_or own c 0) o)
      (procedure_same (dispatch p c a.selector))

  cases_same : (c : ℕ) (ks : List Class) → cases_from p n (tables_alone x) own a c ks ≡ cases_from p n x own a c ks
  cases_same c [] = refl
  cases_same c (k ∷ ks) =
      ap (λ z. z ++ cases_from p n (tables_alone x) own a (suc c) ks) (case_same c) ∙ ap (λ z. case_of p n x own a c ++ z) (cases_same (suc c) ks)

all_same : (p : Tables) (n : Numbers) (x : Plan) (own : List ℕ) (asked : List Asked)
    → map (cases_of p n (tables_alone x) own) asked ≡ map (cases_of p n x own) asked
all_same p n x own [] = refl
all_same p n x own (a ∷ asked) =
    ap (λ z. z ∷ map (cases_of p n (tables_alone x) own) asked) (cases_same p n x own a 0 p.classes)
    ∙ ap (λ z. cases_of p n x own a ∷ z) (all_same p n x own asked)

pub dispatches_planned : (p : Program) (h : Heap) (s : LiveSet) (n : Numbers) (cs : List Column) (x : Planned) → (plans : Plans p h s n cs x)
    → x.dispatches ≡ map (cases_of p.tables n x.plan plans.own) x.plan.asked
dispatches_planned p h s n cs x plans = plans.dispatches ∙ all_same p.tables n x.plan plans.own x.plan.asked

-- ---- the plan

module _ (p : Program) (h : Heap) (s : LiveSet) (n : Numbers) (c : Columns) (x : Planned) (given : IsGiven p h s n c) (plans : Plans p h s n c.list x) where
  abbrev ds : List (List Case)
  ds = map (cases_of p.tables n (tables_alone x.plan) plans.own) x.plan.asked

  bound : x.plan.bindable
      ≡ map (is_bound (length p.tables.methods) (bound_by p.tables h s (tables_alone x.plan) ds (length p.tables.methods) (steps_from p 0 s.methods)))
      x.plan.procedures
  bound =
      plans.bindable
      ∙ ap (λ z. map (is_bound (length p.tables.methods) (bound_by p.tables h s (tables_alone x.plan) z (length p.tables.methods) (steps_from p 0 s.methods)))
      x.plan.procedures) plans.dispatches

  pub names_delegates : (m : ℕ) → HasDelegates p h m → (planned h n x.plan).numbering.bindable m ≡ true
  names_delegates m d =
      all_bindable p h s n (tables_alone x.plan) plans.own given.typed given.heap given.live plans.tables.procedures plans.tables.asked plans.are_own m
      x.plan.bindable bound d

  pub names_calls : (m k q : ℕ) → Calls p h m k → (planned h n x.plan).numbering.procedure k ≡ Some q → is_among ((planned h n x.plan).edges m) q ≡ true
  names_calls m k q a e =
      all_edges p h s n (tables_alone x.plan) plans.own given.typed given.heap given.live plans.tables.procedures plans.tables.asked plans.are_own
      x.plan.bindable bound (calls_alone x.plan) refl refl refl x.plan.edges
      (plans.edges ∙ ap (λ z. edges_from p (calls_alone x.plan) z (length p.tables.methods) s.methods 0 p.tables.methods) plans.dispatches) m k q a e

  pub is_plan : StandsIn p h s n c x.plan → IsPlan p h s n c x.plan
  is_plan stands =
      record {
        procedures = plans.tables.procedures;
        bindable = names_delegates;
        only_bindable = has_delegates p h s n c.list x given.live plans;
        receives = plans.receives;
        has_columns = stands.has_columns;
        field_columns = stands.field_columns;
        field_homes = stands.field_homes;
        item_homes = stands.item_homes;
        item_widths = stands.item_widths;
        asked = plans.tables.asked;
        edges = names_calls;
        only_edges = has_calls p h s n c.list x given.live plans;
      }
