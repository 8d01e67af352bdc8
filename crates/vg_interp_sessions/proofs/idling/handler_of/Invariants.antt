use Rattle.std.proofs.Common.{◌≡◌, drop}
use Rattle.vg_core.specs.Session.{handler_of}
use Rattle.vg_interp_sessions.proofs.idling.handler_of.Given as goal

abbrev pub invariant-loop-handler : goal.invariant-loop-handler
invariant-loop-handler l = handler_of (drop l.handler-index l.handlers) l.vector ≡ handler_of l.handlers l.vector
