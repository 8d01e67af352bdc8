-- The first that makes something is the first live one.
use Rattle.std.specs.Prelude.{Some}
use Rattle.vg_core.specs.declared.member.Member.TheVariants.{Method}
use Rattle.vg_core.specs.declared.heap.Heap.{Heap}
use Rattle.vg_core.specs.Program.{Program}
use Rattle.vg_live.specs.declared.live_set.LiveSet.{LiveSet}
use Rattle.vg_live.specs.Sets.{IsLiveSet}
use Rattle.vg_reach.specs.declared.making.Allocates.{Allocates}
use Rattle.vg_reach.specs.Reaches.{IsFirstMaker, FirstMade}

pub first_is : (p : Program) (h : Heap) (s : LiveSet) (a : Allocates) → IsLiveSet p h s → FirstMade p s (Some a) → IsFirstMaker p h a
first_is p h s a l (i, m, f) = record { live = l.live (Method a.method) i; makes = m; first = λ k lt live. f k lt (l.all (Method k) live) }
