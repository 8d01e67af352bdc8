use Rattle.vg_packed.proofs.Whole.{is_laid}
use Rattle.vg_packed.proofs.start_laws.live_layouts_are_laid.Goals as goal

pub returns : goal.returns
returns c = λ p good plain h typed l k f is at. is_laid p good plain h typed.0 typed.1 l k f is at
