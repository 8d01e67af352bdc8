use Rattle.std.proofs.Common.{drop, map}
use Rattle.vg_compile.specs.Compile.{handler_of}
use Rattle.vg_compile.specs.Handlers.{AllCanAnswer, AllCanHandle}
use Rattle.vg_compile.proofs.handlers.all_can_handle.Given as goal

abbrev pub invariant-loop-handler : goal.invariant-loop-handler
invariant-loop-handler l =
    (AllCanAnswer l.procedures (map handler_of l.handlers) (map handler_of (drop l.handler-index l.handlers))
    → AllCanHandle l.procedures (map handler_of l.handlers))
    × (AllCanHandle l.procedures (map handler_of l.handlers)
    → AllCanAnswer l.procedures (map handler_of l.handlers) (map handler_of (drop l.handler-index l.handlers)))
