use Rattle.vg_packed.proofs.Starting.{holds_first}
use Rattle.vg_packed.proofs.start_laws.columns_hold_the_heap.Goals as goal

pub returns : goal.returns
returns c = λ p good h typed ranged l k f is. holds_first p good.tables h ranged typed.0 typed.1 l k f is
