-- The ways of code to other code that kept ones stand for.
use Rattle.vg_templates.specs.Calls.{Way as CallWay, Far as CallFar, Near as CallNear, ByZ as CallByZ}
use Rattle.vg_templates.specs.Flow.{Hop as JumpHop, Near as HopNear, Far as HopFar, Turn as BranchTurn, Direct as TurnDirect, Past as TurnPast}
use Rattle.vg_put_flow.specs.declared.ways.Hop.{Hop}
use Rattle.vg_put_flow.specs.declared.ways.Hop.TheVariants.{Near, Far}
use Rattle.vg_put_flow.specs.declared.ways.Turn.{Turn}
use Rattle.vg_put_flow.specs.declared.ways.Turn.TheVariants.{Direct, Past}
use Rattle.vg_put_flow.specs.declared.ways.Way.{Way}
use Rattle.vg_put_flow.specs.declared.ways.Way.TheVariants.{Near as Nearby, Far as FarOff, ByZ}

abbrev pub hop_of : Hop → JumpHop
hop_of (Near k) = HopNear k
hop_of (Far to) = HopFar to

abbrev pub turn_of : Turn → BranchTurn
turn_of (Direct k) = TurnDirect k
turn_of (Past h) = TurnPast (hop_of h)

abbrev pub call_of : Way → CallWay
call_of (Nearby k) = CallNear k
call_of (FarOff entry) = CallFar entry
call_of ByZ = CallByZ
