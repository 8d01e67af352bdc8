use Rattle.std.proofs.Common.{◌≡◌, ◌++◌, take}
use Rattle.vg_image.proofs.emitting.put_bytes.Given as goal

abbrev pub invariant-loop-byte : goal.invariant-loop-byte
invariant-loop-byte l = l.flash.items ≡ l.fn.flash.items ++ take l.byte-index l.bytes
