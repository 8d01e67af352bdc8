-- Ticks: what a run does is counted, and a run whose clock is spent goes no further.
use Rattle.std.specs.Prelude.{ℕ, zero, suc}
use Rattle.vg_meaning.specs.History.{Recorder}
use Rattle.vg_meaning.specs.Answer.{OutOfClock, Piece, over}

-- A tick that is due with so many left: it takes one, and the history becomes what `note` makes of it.
abbrev pub tick_at : {S H : Type 0} → (H → H) → ℕ → Piece S H → Piece S H
tick_at note zero go s w = over OutOfClock s w
tick_at note (suc n) go s w = go s (record w { clock = n; history = note w.history })

-- One tick, and then the piece.
abbrev pub ticked : {S H : Type 0} → Recorder H → Piece S H → Piece S H
ticked r go s w = tick_at r.tick w.clock go s w
