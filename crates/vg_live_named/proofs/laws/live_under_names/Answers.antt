use Rattle.std.specs.Prelude.{Some}
use Rattle.vg_live_named.proofs.Forth.{forth}
use Rattle.vg_live_named.proofs.laws.live_under_names.Goals as goal

pub returns : goal.returns
returns c = λ n p tell good h typed y a. forth n p tell good h typed.0 typed.1 (Some y) a
