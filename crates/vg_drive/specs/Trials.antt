-- What `try` builds, runs and puts.
use Rattle.std.specs.Prelude.{ℕ, List, [], ◌++◌, None}
use Rattle.avr_isa.specs.Machine.{State}
use Rattle.avr_sim.specs.Run.{simulated}
use Rattle.vg_faults.specs.Starting.{init_steps}
use Rattle.vg_gen.specs.Generated.{generated}
use Rattle.vg_gen.specs.Summary.{summary}
use Rattle.vg_build.specs.Image.{IsBuiltOf}
use Rattle.vg_build.specs.declared.building.Built.{Built}
use Rattle.vg_sim.specs.Shown.{lines_of}

-- the instructions that a trial may take
unfoldable pub try_steps : ℕ
try_steps = 10000000

-- the machine on this image behind at most so many instructions, to which no read and no interrupt comes
abbrev pub trial_of : (image : List ℕ) → State
trial_of image = simulated image [] [] try_steps

-- what is put to the first sink: the summary of the program of n objects, and the lines of the machine's trace and of its ending
abbrev pub try_lines : (n : ℕ) → Built → List ℕ
try_lines n built = summary n built.objects built.methods built.layout.static_bytes ++ lines_of (trial_of built.image)

-- P holds of what is built of the generated text of n objects, with the defaults of `build`
abbrev pub ForTry : (n : ℕ) → (P : Built → Type 0) → Type 0
ForTry n P = (built : Built) × IsBuiltOf (generated n) None init_steps built × P built
