-- What makes nothing under names makes nothing under numbers.
use Rattle.std.proofs.Common.{◌≡◌, ℕ, List, Some, None, sym, ◌∙◌}
use Rattle.vg_core.specs.declared.heap.Heap.{Heap}
use Rattle.vg_core.specs.declared.member.Member.TheVariants.{Method}
use Rattle.vg_core.specs.Heap.{Kind}
use Rattle.vg_core.specs.Naming.{Naming, named_heap, named}
use Rattle.vg_core.specs.Program.{Program}
use Rattle.vg_core.specs.Typing.{WellTyped}
use Rattle.vg_sound.specs.Good.{TypedHeap}
use Rattle.vg_renamed.specs.NamesTell.{NamesTell}
use Rattle.vg_live.specs.Rules.{Live}
use Rattle.vg_live_source.specs.Making.{MakesNothing}
use Rattle.vg_live_named.proofs.There.{live_method}
use Rattle.vg_live_named.proofs.Forth.{forth}
use Rattle.vg_reach.specs.Reaches.{made_in}
use Rattle.vg_reach_named.proofs.Making.{made_named}

pub nothing_back : (n : Naming) (p : Program) → NamesTell n p → WellTyped p → (h : Heap) (κ : List Kind) → TypedHeap p.tables κ h
    → MakesNothing (named n p) (named_heap n p.tables h) → (m : ℕ) → Live p h (Some (Method m)) → made_in p m ≡ None
nothing_back n p tell good h κ typed none m l =
    let y = live_method p h good κ typed m l in
    sym (made_named n p tell good m y.0 y.1)
    ∙ none (n.method m).owner (n.method m).name (forth n p tell good h κ typed (Some (Method m)) l)
