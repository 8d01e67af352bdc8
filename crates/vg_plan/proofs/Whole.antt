-- The parts of a plan make the plan.
use Rattle.std.proofs.Common.{◌≡◌, ap, subst, ◌∙◌, ℕ, Bool, List, [], Option, length, map}
use Rattle.vg_codes.specs.declared.case.Case.{Case}
use Rattle.vg_core.specs.declared.heap.Cell.{Cell}
use Rattle.vg_core.specs.declared.heap.Heap.{Heap}
use Rattle.vg_core.specs.declared.program.Method.{Method}
use Rattle.vg_core.specs.declared.step.Step.{Step}
use Rattle.vg_core.specs.Heap.{kind_of}
use Rattle.vg_core.specs.Program.{Program}
use Rattle.vg_live.specs.declared.live_set.LiveSet.{LiveSet}
use Rattle.vg_live.specs.declared.live_set.Reason.{Reason}
use Rattle.vg_number.specs.declared.numbers.Numbers.{Numbers}
use Rattle.vg_number.specs.Counting.{AreOwn}
use Rattle.vg_number.specs.Numbering.{has_reason, kinds_of}
use Rattle.vg_pack_calls.specs.Asked.{steps_from}
use Rattle.vg_pack_calls.specs.Cases.{cases_of}
use Rattle.vg_pack_calls.specs.Receivers.{receivers_from}
use Rattle.vg_pack_code.specs.declared.plan.Plan.{Plan}
use Rattle.vg_placement.specs.declared.column.Column.{Column}
use Rattle.vg_plan_uses.specs.Binding.{bound_by, is_bound}
use Rattle.vg_plan_uses.specs.Calling.{edges_from}
use Rattle.vg_plan.specs.Planned.{HasTables, Plans, tables_alone}

-- a plan with what delegates and calls need
abbrev pub with_uses : Plan → (bound receives : List Bool) → (edges : List (List ℕ)) → Plan
with_uses w bound receives edges = record {
  procedures = w.procedures;
  bindable = bound;
  receives = receives;
  columns = w.columns;
  items = w.items;
  starts = w.starts;
  asked = w.asked;
  edges = edges;
}

module _ (p : Program) (h : Heap) (s : LiveSet) (n : Numbers) (cs : List Column) (w : Plan) where
  pub whole : (own own1 : List ℕ) (cells cells1 : List Cell) (live : List (Option Reason)) (methods : List (Option Reason)) (steps steps1 steps2 : List Step)
      (ds ds1 : List (List Case)) (room : ℕ) (bound bound1 receives : List Bool) (ms : List Method) (edges : List (List ℕ))
      → cells ≡ h.cells → live ≡ s.cells → AreOwn (map kind_of cells) (has_reason live) (length p.tables.classes) own
      → methods ≡ s.methods → steps ≡ steps_from p 0 methods → steps1 ≡ steps → cells1 ≡ h.cells
      → HasTables p.tables (map kind_of cells1) s cs steps1 w → w ≡ tables_alone w → own1 ≡ own → ds ≡ map (cases_of p.tables n w own1) w.asked
      → room ≡ length p.tables.methods → ds1 ≡ ds → steps2 ≡ steps → bound ≡ map (is_bound room (bound_by p.tables h s w ds1 room steps2)) w.procedures
      → ms ≡ p.tables.methods → bound1 ≡ bound → receives ≡ receivers_from bound1 0 ms
      → edges ≡ edges_from p (with_uses w bound receives w.edges) ds1 room methods 0 p.tables.methods
      → Plans p h s n cs (record { plan = with_uses w bound receives edges; dispatches = ds })
  whole own own1 cells cells1 live methods steps steps1 steps2 ds ds1 room bound bound1 receives ms edges ec el ao em es es1 ec1 ht alone eo ed er ed1 es2 eb ems eb1 erc ee =
      record {
        tables = record { procedures = t.procedures; columns = t.columns; items = t.items; starts = t.starts; asked = t.asked };
        own = own;
        are_own = subst (λ z. AreOwn (map kind_of z) (has_reason s.cells) (length p.tables.classes) own) ec
            (subst (λ z. AreOwn (map kind_of cells) (has_reason z) (length p.tables.classes) own) el ao);
        dispatches = ed ∙ (ap (λ z. map (cases_of p.tables n w z) w.asked) eo ∙ ap (λ z. map (cases_of p.tables n z own) w.asked) alone);
        bindable = eb ∙ (ap (λ z. map (is_bound z (bound_by p.tables h s w ds1 z steps2)) w.procedures) er
            ∙ (ap (λ z. map (is_bound (length p.tables.methods) (bound_by p.tables h s w z (length p.tables.methods) steps2)) w.procedures) ed1
            ∙ (ap (λ z. map (is_bound (length p.tables.methods) (bound_by p.tables h s w ds (length p.tables.methods) z)) w.procedures) (es2 ∙ all_steps)
            ∙ ap (λ z. map (is_bound (length p.tables.methods) (bound_by p.tables h s z ds (length p.tables.methods) (steps_from p 0 s.methods))) w.procedures)
            alone)));
        receives = erc ∙ (ap (λ z. receivers_from z 0 ms) eb1 ∙ ap (receivers_from bound 0) ems);
        edges = ee ∙ (ap (λ z. edges_from p (with_uses w bound receives z) ds1 room methods 0 p.tables.methods) (ap (λ z. z.edges) alone)
            ∙ (ap (λ z. edges_from p (with_uses w bound receives []) z room methods 0 p.tables.methods) ed1
            ∙ (ap (λ z. edges_from p (with_uses w bound receives []) ds z methods 0 p.tables.methods) er
            ∙ ap (λ z. edges_from p (with_uses w bound receives []) ds (length p.tables.methods) z 0 p.tables.methods) em)));
      }
    where
      all_steps : steps ≡ steps_from p 0 s.methods
      all_steps = es ∙ ap (steps_from p 0) em

      t : HasTables p.tables (kinds_of h) s cs (steps_from p 0 s.methods) w
      t =
          subst (λ z. HasTables p.tables (map kind_of z) s cs (steps_from p 0 s.methods) w) ec1
          (subst (λ z. HasTables p.tables (map kind_of cells1) s cs z w) (es1 ∙ all_steps) ht)
