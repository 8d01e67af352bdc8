-- Where an instruction leads, as the code that is made holds it.
use Rattle.vg_put_flow.specs.Ways.{hop_of, turn_of, call_of}
use Rattle.vg_select.specs.declared.leading.Leading.{Leading as Held}
use Rattle.vg_select.specs.Selected.{Leading}

abbrev pub leading : Held → Leading
leading x = record { jump = hop_of x.jump; branch = turn_of x.branch; call = call_of x.call; idle = x.idle }
