use Rattle.std.proofs.Common.{◌≡◌, map, drop}
use Rattle.vg_syntax.specs.Spellings.{kind_spelled}
use Rattle.vg_scan.specs.Tables.{spelling}
use Rattle.vg_scan.proofs.spelling.kind_spelled.Given as goal

abbrev pub invariant-loop-entry : goal.invariant-loop-entry
invariant-loop-entry l = kind_spelled l.text (map spelling (drop l.entry-index l.table)) ≡ kind_spelled l.text (map spelling l.table)
