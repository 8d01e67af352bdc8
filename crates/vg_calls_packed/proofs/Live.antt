-- What a live method may call is live.
use Rattle.std.proofs.Common.{refl, ℕ, List, Option, Some, None}
use Rattle.vg_core.specs.declared.heap.Heap.{Heap}
use Rattle.vg_core.specs.declared.member.Member.{Member}
use Rattle.vg_core.specs.declared.member.Member.TheVariants.{Method, Cell}
use Rattle.vg_core.specs.declared.value.CoreValue.TheVariants.{Bound}
use Rattle.vg_core.specs.Heap.{Kind}
use Rattle.vg_core.specs.Program.{Program}
use Rattle.vg_core.specs.Typing.{WellTyped}
use Rattle.vg_sound.specs.Good.{TypedHeap}
use Rattle.vg_live.specs.Rules.{Rule, Live, holder, owner}
use Rattle.vg_live.specs.Rules as rules
use Rattle.vg_live_named.proofs.There.{there}
use Rattle.vg_packed.specs.Uses.{Has, Finds, HasDelegates, Calls}
use Rattle.vg_packed.specs.Uses as uses

module _ (p : Program) (h : Heap) (good : WellTyped p) (κ : List Kind) (typed : TypedHeap p.tables κ h) where
  pub concluded : (y : Member) (k : ℕ) (from also : Option Member) → Rule p h y k from also → Live p h from → Live p h also → Live p h (Some y)
  concluded y k from also rule a b = rules.by rule (there p h good κ typed y k from also rule a b) a b

  pub delegate_live : (m : ℕ) → HasDelegates p h m → Live p h (Some (Method m))
  delegate_live n (uses.of_component m has) =
      concluded (Method n) 3 (Some (Method m)) None (rules.of_component has.place _ has.stands refl) has.live rules.none
  delegate_live n (uses.of_object m at c s has finds) =
      concluded (Method n) 4 (Some (Method m)) (Some (Cell finds.cell))
      (rules.of_object has.place _ _ finds.class has.stands refl finds.is finds.below finds.finds) has.live finds.live
  delegate_live n (uses.held x receiver a b e) =
      concluded (Method n) 8 (holder x) (owner x) (rules.in_delegate x (Bound receiver n) e rules.method) a b

  pub callee_live : (m n : ℕ) → Calls p h m n → Live p h (Some (Method n))
  callee_live m n (uses.of_component count has) =
      concluded (Method n) 3 (Some (Method m)) None (rules.of_component has.place _ has.stands refl) has.live rules.none
  callee_live m n (uses.of_object at c s count has finds) =
      concluded (Method n) 4 (Some (Method m)) (Some (Cell finds.cell))
      (rules.of_object has.place _ _ finds.class has.stands refl finds.is finds.below finds.finds) has.live finds.live
  callee_live m n (uses.by_delegate at count y has e delegates) = delegate_live n delegates
