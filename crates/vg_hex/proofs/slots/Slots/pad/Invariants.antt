use Rattle.std.proofs.Common.{◌≡◌, ◌≤◌, ◌+◌, ◌-◌, length}
use Rattle.vg_hex.specs.Walk.{padded}
use Rattle.vg_hex.proofs.slots.Slots.pad.Given as goal

-- what is still to be padded, and that it stays within the flash
abbrev pub invariant-loop-self : goal.invariant-loop-self
invariant-loop-self l =
    (padded l.self-inside.slots.items (l.at + 1) ≡ padded l.fn.self (l.at + 1)) × (length l.self-inside.slots.items ≤ 131072)

abbrev pub decreases-loop-self : goal.decreases-loop-self
decreases-loop-self l = l.at + 1 - length l.self-inside.slots.items
