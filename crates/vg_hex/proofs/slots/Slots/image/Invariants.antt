use Rattle.std.proofs.Common.{◌≡◌, take, length}
use Rattle.vg_hex.specs.Walk.{bytes_in}
use Rattle.vg_hex.proofs.slots.Slots.image.Given as goal

-- the bytes so far
abbrev pub invariant-loop-slot : goal.invariant-loop-slot
invariant-loop-slot l = (l.bytes.items ≡ bytes_in (take l.slot-index l.slot-items)) × (length l.bytes.items ≡ l.slot-index)
