-- Active calls: how one is opened and closed, and what the end of a body is to its caller.
use Rattle.vg_meaning.specs.History.{Active, Recorder}
use Rattle.vg_meaning.specs.Answer.{Breaks, Continues, Returns, Over, OutOfDepth, Wrong, Answer, Gives, Ends, Piece, over, and_then, unless, passes}
use Rattle.vg_meaning.specs.Clock.{tick_at}

-- The newest call is closed.
abbrev pub closed : {S H : Type 0} → Recorder H → Piece S H
closed r s w = Gives s (record w { history = r.close_call w.history })

-- The body, and then its call is closed.
abbrev pub closing : {S H : Type 0} → Recorder H → Piece S H → Piece S H
closing r go s w = and_then (go s w) (closed r)

-- The piece is reached unless more calls are active than the limit allows.
abbrev pub unless_deep : {S H : Type 0} → Recorder H → Piece S H → Piece S H
unless_deep r go s w = unless (passes w.deepest (r.depth w.history)) OutOfDepth go s w

-- The history behind the tick of a call, which sees the call among the active ones.
abbrev pub note_call : {H : Type 0} → Recorder H → Active → H → H
note_call r call h = r.tick (r.open_call call h)

-- One active call: a tick, then the look at the depth, then the body.
abbrev pub opened : {S H : Type 0} → Recorder H → Active → Piece S H → Piece S H
opened r call go s w = tick_at (note_call r call) w.clock (unless_deep r (closing r go)) s w

-- What the end of a body is to its caller: where it comes without a return, `missing` gives the value.
abbrev pub returned : {S H : Type 0} → Answer S H → Piece S H → Answer S H
returned (Gives s w) missing = missing s w
returned (Ends Returns s w) missing = Gives s w
returned (Ends (Over why) s w) missing = over why s w
returned (Ends Breaks s w) missing = over Wrong s w
returned (Ends Continues s w) missing = over Wrong s w
