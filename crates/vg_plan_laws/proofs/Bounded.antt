-- What a plan names has its reason.
use Rattle.std.proofs.Common.{◌≡◌, refl, ap, ◌∙◌, ℕ, true, List, Some, length, map}
use Rattle.vg_core.specs.declared.heap.Heap.{Heap}
use Rattle.vg_core.specs.Program.{Program}
use Rattle.vg_firm.specs.Session.{is_among}
use Rattle.vg_live.specs.declared.live_set.LiveSet.{LiveSet}
use Rattle.vg_live.specs.Sets.{IsLiveSet}
use Rattle.vg_number.specs.declared.numbers.Numbers.{Numbers}
use Rattle.vg_pack_calls.specs.Asked.{steps_from}
use Rattle.vg_packed.specs.Plans.{planned}
use Rattle.vg_placement.specs.declared.column.Column.{Column}
use Rattle.vg_plan.specs.declared.planning.Planned.{Planned}
use Rattle.vg_plan.specs.Planned.{Plans, tables_alone, calls_alone}
use Rattle.vg_plan_uses.specs.Binding.{bound_by, is_bound}
use Rattle.vg_plan_uses.specs.Calling.{edges_from}
use Rattle.vg_packed.specs.Uses.{Calls, HasDelegates}
use Rattle.vg_plan_laws.proofs.Only.{ds, only_bindable, only_edges}

module _ (p : Program) (h : Heap) (s : LiveSet) (n : Numbers) (cs : List Column) (x : Planned) (live : IsLiveSet p h s) (plans : Plans p h s n cs x) where
  bound : x.plan.bindable
      ≡ map (is_bound (length p.tables.methods) (bound_by p.tables h s (tables_alone x.plan)
      (ds p h s n (tables_alone x.plan) plans.own live plans.tables.procedures plans.tables.asked plans.are_own) (length p.tables.methods) (steps_from p 0 s.methods)))
      x.plan.procedures
  bound =
      plans.bindable
      ∙ ap (λ z. map (is_bound (length p.tables.methods) (bound_by p.tables h s (tables_alone x.plan) z (length p.tables.methods) (steps_from p 0 s.methods)))
      x.plan.procedures) plans.dispatches

  pub has_delegates : (m : ℕ) → (planned h n x.plan).numbering.bindable m ≡ true → HasDelegates p h m
  has_delegates m e =
      only_bindable p h s n (tables_alone x.plan) plans.own live plans.tables.procedures plans.tables.asked plans.are_own (length p.tables.methods) m
      x.plan.bindable bound e

  pub has_calls : (m q : ℕ) → is_among ((planned h n x.plan).edges m) q ≡ true
      → (k : ℕ) × Calls p h m k × ((planned h n x.plan).numbering.procedure k ≡ Some q)
  has_calls m q e =
      only_edges p h s n (tables_alone x.plan) plans.own live plans.tables.procedures plans.tables.asked plans.are_own x.plan.bindable (length p.tables.methods)
      bound (calls_alone x.plan) refl refl refl x.plan.edges
      (plans.edges ∙ ap (λ z. edges_from p (calls_alone x.plan) z (length p.tables.methods) s.methods 0 p.tables.methods) plans.dispatches) m q e
