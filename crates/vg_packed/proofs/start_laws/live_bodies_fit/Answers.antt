use Rattle.vg_packed.proofs.Whole.{live_fits}
use Rattle.vg_packed.proofs.start_laws.live_bodies_fit.Goals as goal

pub returns : goal.returns
returns c = λ p good plain h typed l k f is m g b live eg eb. live_fits p good plain h typed.0 typed.1 l k f is m g b live eg eb
