use Rattle.std.proofs.Common.{◌≡◌, ◌++◌, drop}
use Rattle.vg_outlet.specs.Lines.{lines}
use Rattle.vg_outlet.proofs.lines.lines_of.Given as goal

-- the lines so far, and those of the events that are left
abbrev pub invariant-loop-event : goal.invariant-loop-event
invariant-loop-event l = lines l.events ≡ l.buffer.bytes.items ++ lines (drop l.event-index l.events)
