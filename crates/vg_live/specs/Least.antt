-- What is live is in each set that the rules close: by the derivations.
use Rattle.std.specs.Prelude.{ℕ, Option}
use Rattle.vg_core.specs.declared.member.Member.{Member}
use Rattle.vg_core.specs.declared.heap.Heap.{Heap}
use Rattle.vg_core.specs.Program.{Program}
use Rattle.vg_live.specs.Rules.{Closed, InSet, Live, none, by}

pub least : (p : Program) (h : Heap) (S : Member → Type 0) → Closed p h S → (y : Option Member) → Live p h y → InSet S y
least p h S c _ none = tt
least p h S c _ (by {y} {n} {from} {also} rule there a b) = c y n from also rule there (least p h S c from a) (least p h S c also b)
