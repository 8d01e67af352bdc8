-- Each turn so far took at least one byte, and what is gone from the reader stands in `bytes`.
use Rattle.std.proofs.Common.{◌≤◌, length}
use Rattle.std.specs.Io.KnownBytes.{Consumes}
use Rattle.vg_files.proofs.file_shelf.read_front.Given as goal

abbrev pub invariant-turns : goal.invariant-turns
invariant-turns g l =
    (l._turn ≤ length l.bytes.items) × (length l.bytes.items ≤ l.most) × Consumes (g.F.Read.remaining l.initial.file) (g.F.Read.remaining l.file) l.bytes.items
