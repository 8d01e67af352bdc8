use Rattle.vg_sound.proofs.Steps.{safe_step}
use Rattle.vg_sound.proofs.soundness.right_steps.Goals as goal

pub returns : goal.returns
returns g c = λ p formed call calls κ0 ts o st x y h. safe_step p formed κ0 ts o call calls st x y h
