-- What is packed of a text has the costs of its methods.
use Rattle.std.specs.Prelude.{ℕ, zero, suc, ◌+◌, ◌*◌, ◌<◌, ◌≤◌, ◌^◌, List, [], ◌∷◌, length, map, Some, slice_get}
use Rattle.std.specs.List.{AllByRecursion}
use Rattle.std.proofs.Common.{◌≡◌, sym, ap, subst, ◌∙◌, arith}
use Rattle.vg_source.specs.Peak.{cost_of}
use Rattle.vg_method_sizes.specs.Sizes.{Size, cost}
use Rattle.vg_core.specs.declared.program.Method.{Method}
use Rattle.vg_core.specs.Program.{Body, Program}
use Rattle.vg_costs.specs.Small.{AreSmall}
use Rattle.vg_firm.specs.declared.procedure.Procedure.{Procedure as HeldProcedure}
use Rattle.vg_firm.specs.Held.{procedure_of}
use Rattle.vg_flatten_shapes.specs.declared.layout.Layout.{Layout}
use Rattle.vg_lin.specs.Sound.{IsWidth}
use Rattle.vg_linear.specs.Widths.{AllHaveWidths}
use Rattle.vg_packed_methods.specs.Methods.{AllCallBefore}
use Rattle.vg_packed_suits.specs.Bodies.{IsTypedOf}
use Rattle.vg_plain_paid.specs.Paid.{CostsByNodes}
use Rattle.vg_plain_paid.proofs.Rows.{within}
use Rattle.vg_text_linear.proofs.Light.{IsLight}
use Rattle.vg_text_paid.proofs.Few.{HasFewNodes}

-- each method costs 32 and more
pub least : (ss : List Size) (m : ℕ) → m < length (map cost ss) → 32 ≤ cost_of (map cost ss) m
least [] m less = absurd (omega (arith, less))
least (s ∷ ss) zero less = omega arith
least (s ∷ ss) (suc m) less = least ss m (omega (arith, less))

pub all_small : (cs : List ℕ) → AreSmall cs → (m : ℕ) → cost_of cs m < 2 ^ 31
all_small [] h m = omega arith
all_small (c ∷ cs) h zero = h.0
all_small (c ∷ cs) h (suc m) = all_small cs h.1 m

narrow : (ws : List ℕ) → AllByRecursion IsWidth ws → (i w : ℕ) → slice_get ws i ≡ Some w → w ≤ 4
narrow [] h i w e = cc
narrow (x ∷ ws) h zero w e = subst (λ z. z ≤ 4) (let same : x ≡ w = cc in same) h.0.1
narrow (x ∷ ws) h (suc i) w e = narrow ws h.1 i w e

-- costs are those of the typed program's methods
pub record AreCostsOf (p : Program) (costs : List ℕ) : Type 0 where
  pub many : length costs ≡ length p.tables.methods
  pub each : (m : ℕ) (y : Method) (b : Body) → slice_get p.tables.methods m ≡ Some y → slice_get p.methods m ≡ Some b
      → cost_of costs m ≡ 32 + 4 * (length y.params + length b.others + y.nodes)

module _ (p : Program) (lay : Layout) (start : ℕ) (costs : List ℕ) (are : AreCostsOf p costs) where
  pub all_cost : (ms : List HeldProcedure) → AllByRecursion (IsTypedOf p lay) (map procedure_of ms) → AllByRecursion (HasFewNodes p) (map procedure_of ms)
      → AllByRecursion IsLight (map procedure_of ms) → AllHaveWidths ms → AllCallBefore start (map procedure_of ms)
      → AllByRecursion (CostsByNodes p lay start costs) (map procedure_of ms)
  all_cost [] t n l w b = tt
  all_cost (m ∷ ms) (t, ts) (n, ns) (l, ls) (w, ws) (b, bs) = (
    record {
      typed = t;
      waiting = let within = t.within in let nodes = n t.method t.there in omega (arith, within, nodes);
      light = let few = t.typed.few in omega (arith, few, l);
      narrow = narrow m.widths w.widths;
      calls = b;
      known = subst (λ k. m.method < k) (sym are.many) (within p.tables.methods m.method t.method t.there);
      cost =
          are.each m.method t.method t.body t.there t.has_body
          ∙ ap (λ k. 32 + 4 * (k + t.method.nodes)) (sym t.locals);
    },
    all_cost ms ts ns ls ws bs,
  )
