use Rattle.vg_meaning.specs.Code.{Do}
use Rattle.vg_flatten_control.specs.Flat.{flat}
use Rattle.vg_flatten_pushed.proofs.Parting.{above_lays}
use Rattle.vg_flatten_pushed.proofs.pushed.above.Goals as goal

pub returns : goal.returns
returns c =
    above_lays c.onto.result c.flat-made.result c.args.at (flat c.args.layout.now c.args.room (Do c.args.step)) c.args.most c.args.homes
    c.in_ok-parts.parts.above c.in_ok-parts.parts.below c.in_ok-parts.ensures.above c.in_ok-parts.ensures.below c.onto.ensures c.flat-made.ensures
