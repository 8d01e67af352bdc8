-- Mirrors: functions that follow the code's own tables.
use Rattle.vg_scan.specs.declared.spelling.Spelled.{Spelled}
use Rattle.vg_syntax.specs.Spellings.{Spelling}

-- an entry of a table of the code, as contracts see it
abbrev pub spelling : Spelled → Spelling
spelling s = record { text = s.text.now; kind = s.kind }
