use Rattle.std.proofs.Common.{◌≡◌, ◌++◌, drop, map}
use Rattle.vg_tables.specs.Bytes.{byte_of}
use Rattle.vg_laid.specs.Laid.{codes_by}
use Rattle.vg_link.proofs.tables.table_bytes.Given as goal

abbrev pub invariant-loop-datum : goal.invariant-loop-datum
invariant-loop-datum l =
    l.bytes ++ map (byte_of (codes_by l.codes)) (drop l.datum-index l.tables) ≡ map (byte_of (codes_by l.codes)) l.tables
