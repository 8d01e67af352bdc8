use Rattle.std.specs.Prelude.{◌≡◌, ◌∷◌, ◌++◌, drop}
use Rattle.vg_call_need.specs.Graph.{handlers_of}
use Rattle.vg_call_need.proofs.entries.entries_of.Given as goal

abbrev pub invariant-loop-handler : goal.invariant-loop-handler
invariant-loop-handler l =
    l.row ++ handlers_of l.handlers (drop l.handler-index l.handlers) ≡ l.firm.main ∷ handlers_of l.handlers l.handlers
