use Rattle.std.proofs.Common.{◌≡◌, drop}
use Rattle.vg_lin_states.specs.Programs.{found_from}
use Rattle.vg_lin_states.proofs.program.found_in.Given as goal

abbrev pub invariant-loop-place : goal.invariant-loop-place
invariant-loop-place l = found_from l.place (drop l.place l.codes) l.code ≡ found_from 0 l.codes l.code
