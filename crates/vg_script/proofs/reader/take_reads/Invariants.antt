use Rattle.std.proofs.Common.{◌≡◌, length}
use Rattle.vg_script.specs.Script.{reads_in}
use Rattle.vg_script.specs.Walk.{behind}
use Rattle.vg_script.proofs.reader.take_reads.Given as goal

-- the items so far, and those of the rest, are those of all
abbrev pub invariant-loop-rest : goal.invariant-loop-rest
invariant-loop-rest l = behind l.reads.items (reads_in l.rest) ≡ behind l.fn.reads.items (reads_in l.items)

abbrev pub decreases-loop-rest : goal.decreases-loop-rest
decreases-loop-rest l = length l.rest
