use Rattle.std.proofs.Common.{◌≡◌, ◌-◌, ◌≤◌, take, length}
use Rattle.vg_syntax.specs.Places.{place_behind}
use Rattle.vg_scan.proofs.Reading.{Reading}
use Rattle.vg_scan.proofs.scanner.scan.Given as goal

abbrev pub invariant-loop-place : goal.invariant-loop-place
invariant-loop-place l = record {
  reading : Reading l.bytes l.tokens.items l.end;
  place : l.place ≡ place_behind (take l.end l.bytes);
  within : l.end ≤ length l.bytes;
}

abbrev pub decreases-loop-place : goal.decreases-loop-place
decreases-loop-place l = length l.bytes - l.end
