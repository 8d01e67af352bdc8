use Rattle.std.proofs.Common.{◌≡◌, ◌++◌, drop}
use Rattle.vg_table_bytes.specs.Bytes.{arrays_bytes}
use Rattle.vg_table_bytes.proofs.bytes.put_arrays.Given as goal

abbrev pub invariant-loop-place : goal.invariant-loop-place
invariant-loop-place l = l.bytes ++ arrays_bytes (drop l.place-index l.places) ≡ l.fn.bytes ++ arrays_bytes l.places
