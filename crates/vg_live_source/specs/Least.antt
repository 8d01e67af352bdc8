-- What is live is in each set that the rules close: by the derivations.
use Rattle.std.specs.Prelude.{Option}
use Rattle.vg_source.specs.Values.{Heap}
use Rattle.vg_source.specs.Steps.{Source}
use Rattle.vg_live_source.specs.Members.{Member}
use Rattle.vg_live_source.specs.Rules.{Closed, InSet, Live, none, by}

pub least : (p : Source) (h : Heap) (S : Member → Type 0) → Closed p h S → (y : Option Member) → Live p h y → InSet S y
least p h S c _ none = tt
least p h S c _ (by {y} {n} {from} {also} rule a b) = c y n from also rule (least p h S c from a) (least p h S c also b)
