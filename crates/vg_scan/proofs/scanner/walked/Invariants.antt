use Rattle.std.proofs.Common.{◌≡◌, ◌+◌, ◌-◌, ◌<◌, ◌^◌, drop, length}
use Rattle.vg_scan.specs.Walk.{walked}
use Rattle.vg_scan.proofs.scanner.walked.Given as goal

abbrev pub invariant-loop-b : goal.invariant-loop-b
invariant-loop-b l =
    (walked l.place (drop l.b-index l.bytes) ≡ walked l.fn.place l.bytes)
    × (l.place.line + (length l.bytes - l.b-index) < 2 ^ 32)
    × (l.place.col + (length l.bytes - l.b-index) < 2 ^ 32)
