use Rattle.vg_packed.proofs.Whole as whole
use Rattle.vg_packed.proofs.start_laws.same_sessions.Goals as goal

pub returns : goal.returns
returns g c = λ r p good plain h typed ranged l k f is at history deepest reads interrupts clock bytes.
    whole.same_sessions p good plain h typed ranged l k f is at r history deepest reads interrupts clock bytes
