use Rattle.std.proofs.Common.{◌≡◌, ◌++◌, drop, map}
use Rattle.vg_compile.specs.Compile.{handler_of}
use Rattle.vg_compile.proofs.unlinking.handlers_of.Given as goal

abbrev pub invariant-loop-entrance : goal.invariant-loop-entrance
invariant-loop-entrance l = l.handlers ++ map handler_of (drop l.entrance-index l.entrances) ≡ map handler_of l.entrances
