use Rattle.std.proofs.Common.{◌≡◌, Some, subst}
use Rattle.std.specs.Prelude.{OnOk}
use Rattle.avr_isa.specs.Machine.{performed}
use Rattle.avr_isa.proofs.PlainSteps.{performs}
use Rattle.avr_isa.proofs.plain.PlainMachine.perform.Goals as goal

pub returns : goal.returns
returns c =
    let effect = c.step-effect.ensures in
    subst (λ s. OnOk c.finish.result (c.finish.new.self ≡ performed c.args.flash.now (Some c.args.instr) c.args.word s)) c.self.view_is
    (subst (λ t. OnOk c.finish.result (c.finish.new.self ≡ t))
    (performs c.args.flash.now c.args.instr c.args.word _ _ _ _ _ _ effect.cpu effect.effect c.stack_use-stack.ensures c.sp.ensures
    c.lowest_by-self-inside.ensures)
    c.finish.ensures)
