use Rattle.std.proofs.Common.{◌≡◌, ◌∷◌, ◌++◌, drop, reverse}
use Rattle.vg_meaning.specs.History.{Calling}
use Rattle.vg_lin.specs.Steps.{open_below}
use Rattle.vg_lin.specs.Meaning.{language}
use Rattle.vg_lin_states.specs.Programs.{program_of}
use Rattle.vg_lin_machine.proofs.opening.open_calls.Given as goal

abbrev pub invariant-loop-place : goal.invariant-loop-place
invariant-loop-place l =
    let below = open_below (language (program_of l.program)) in
    l.opening ++ below (drop l.place (reverse l.frames)) ≡ Calling l.method ∷ below (reverse l.frames)
