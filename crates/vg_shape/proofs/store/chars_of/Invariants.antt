use Rattle.std.proofs.Common.{◌≡◌, ◌++◌, drop, map}
use Rattle.vg_core.specs.declared.value.CoreValue.TheVariants.{Char}
use Rattle.vg_shape.proofs.store.chars_of.Given as goal

abbrev pub invariant-loop-byte : goal.invariant-loop-byte
invariant-loop-byte l = l.values.items ++ map Char (drop l.byte-index l.bytes) ≡ map Char l.bytes
