use Rattle.std.proofs.Common.{◌≡◌, ◌++◌, drop}
use Rattle.vg_table_bytes.specs.Bytes.{entries_bytes}
use Rattle.vg_table_bytes.proofs.bytes.put_entries.Given as goal

abbrev pub invariant-loop-entry : goal.invariant-loop-entry
invariant-loop-entry l = l.bytes ++ entries_bytes l.width (drop l.entry-index l.entries) ≡ l.fn.bytes ++ entries_bytes l.width l.entries
