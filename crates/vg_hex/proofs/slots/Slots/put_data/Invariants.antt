use Rattle.std.proofs.Common.{◌≡◌, ◌<◌, ◌^◌, drop}
use Rattle.vg_hex.specs.HexImage.{data_address, bytes_named}
use Rattle.vg_hex.specs.Walk.{fault_behind, slots_behind}
use Rattle.vg_hex.proofs.slots.Slots.put_data.Given as goal

-- what is still to be put
abbrev pub invariant-loop-b : goal.invariant-loop-b
invariant-loop-b l =
    (l.index ≡ l.b-index)
    × (data_address l.base l.at l.index < 2 ^ 32)
    × (fault_behind l.self (bytes_named l.base l.at l.index (drop l.b-index l.bytes)) ≡ fault_behind l.fn.self (bytes_named l.base l.at 0 l.bytes))
    × (slots_behind l.self (bytes_named l.base l.at l.index (drop l.b-index l.bytes)) ≡ slots_behind l.fn.self (bytes_named l.base l.at 0 l.bytes))
