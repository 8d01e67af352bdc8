use Rattle.std.proofs.Common.{◌≡◌, drop}
use Rattle.vg_link.specs.Linking.{with_handlers, stubs_of}
use Rattle.vg_link.proofs.stubs.stubs_of.Given as goal

abbrev pub invariant-loop-handler : goal.invariant-loop-handler
invariant-loop-handler l = with_handlers l.list (drop l.handler-index l.handlers) ≡ stubs_of l.handlers
