-- What is gone from `rest` was appended.
use Rattle.std.proofs.Common.{◌≡◌, ℕ, List, ◌++◌}
use Rattle.std.specs.Io.KnownBytes.{Appends}
use Rattle.vg_files.proofs.stream_sink.is_written.Given as goal

abbrev pub invariant-turns : goal.invariant-turns
invariant-turns g l =
    (done : List ℕ) × (l.initial.rest ≡ done ++ l.rest) × Appends (g.W.Write.contents l.initial.stream) (g.W.Write.contents l.stream) done
