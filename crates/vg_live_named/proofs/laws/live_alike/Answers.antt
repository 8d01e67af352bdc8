use Rattle.std.specs.Prelude.{Some}
use Rattle.vg_live_named.proofs.Forth.{forth}
use Rattle.vg_live_named.proofs.Whole.{live_alike}
use Rattle.vg_live_named.proofs.laws.live_alike.Goals as goal

pub returns : goal.returns
returns c = λ n p tell good h typed y there.
    (λ a. live_alike n p tell good h typed.0 typed.1 y there a, λ a. forth n p tell good h typed.0 typed.1 (Some y) a)
