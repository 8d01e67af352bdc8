use Rattle.std.proofs.Common.{Some, None, sym, ap, ◌∙◌}
use Rattle.avr_isa.specs.declared.ending.MachineEnd.TheVariants.{Bad}
use Rattle.avr_isa.specs.Machine.{State}
use Rattle.avr_isa.proofs.PlainSteps.{next-is, none_none}
use Rattle.avr_sim.specs.Walk.{unstacked}
use Rattle.avr_sim.proofs.running.Running.step.Goals as goal

pub returns-in-Some : goal.returns-in-Some
returns-in-Some c =
    let going = sym (ap (λ s. s.ended) c.self.view_is) ∙ none_none c.self.inside.ended (sym c.is_some.ensures ∙ c.if-is_some.false) in
    let pc = c.pc-pc.ensures ∙ ap (λ s. s.cpu.pc) c.self.view_is in
    c.perform.ensures
    ∙ ap unstacked (next-is c.args.flash.now c.args.self.now (Some c.in-Some.instr) c.pc-pc.result c.word-word.result c.word.result going pc
    c.word-word.ensures c.word.ensures (sym c.in-Some.is ∙ c.decode.ensures.decoded))

pub returns-in-None : goal.returns-in-None
returns-in-None c =
    let going = sym (ap (λ s. s.ended) c.self.view_is) ∙ none_none c.self.inside.ended (sym c.is_some.ensures ∙ c.if-is_some.false) in
    let pc = c.pc-pc.ensures ∙ ap (λ s. s.cpu.pc) c.self.view_is in
    ap (λ s. let t : State = record s { ended = Some (Bad c.pc-pc.result c.word-word.result) } in unstacked t) c.self.view_is
    ∙ ap (λ p. let t : State = record c.args.self.now { ended = Some (Bad p c.word-word.result) } in unstacked t) pc
    ∙ ap unstacked (next-is c.args.flash.now c.args.self.now None c.pc-pc.result c.word-word.result c.word.result going pc c.word-word.ensures
    c.word.ensures (sym c.in-None.is ∙ c.decode.ensures.decoded))
