use Rattle.std.proofs.Common.{Some, ap, ◌∙◌}
use Rattle.vg_source.specs.Session.{running_world}
use Rattle.vg_interp_run.specs.Run.{state, world}
use Rattle.vg_session.proofs.Ending.{played_can_end, played_ends, played_leaves}
use Rattle.vg_session.proofs.session.Session.run.Goals as goal

pub finish-requires : goal.finish-requires
finish-requires g c =
    let script = c.args.script.now in
    let reads = c.in-Ok.ensures ∙ c.reads.ensures.value in
    let interrupts = c.in-Ok-copied.ensures ∙ c.interrupts.ensures.value in
    let begins = ap state c.new-play.ensures.run ∙ c.new-run.ensures.state in
    let around = ap world c.new-play.ensures.run ∙ c.new-run.ensures.world ∙ c.running-around.ensures
    ∙ ap (λ x. running_world 0 (Some 400) x c.in-Ok-copied.interrupts.items c.args.budget) reads
    ∙ ap (λ x. running_world 0 (Some 400) script.reads x c.args.budget) interrupts in
    played_can_end c.args.self.program.now c.requires.typed c.args.self.heap c.requires.heap script c.args.budget c.new-play.result.run begins around
    c.go-ended.result c.go-ended.new.play.run c.go-ended.ensures.answers

pub returns-clause-ended : goal.returns-clause-ended
returns-clause-ended g c =
    let script = c.args.script.now in
    let reads = c.in-Ok.ensures ∙ c.reads.ensures.value in
    let interrupts = c.in-Ok-copied.ensures ∙ c.interrupts.ensures.value in
    let begins = ap state c.new-play.ensures.run ∙ c.new-run.ensures.state in
    let around = ap world c.new-play.ensures.run ∙ c.new-run.ensures.world ∙ c.running-around.ensures
    ∙ ap (λ x. running_world 0 (Some 400) x c.in-Ok-copied.interrupts.items c.args.budget) reads
    ∙ ap (λ x. running_world 0 (Some 400) script.reads x c.args.budget) interrupts in
    played_ends c.args.self.program.now c.requires.typed c.args.self.heap c.requires.heap script c.args.budget c.new-play.result.run begins around
    c.go-ended.result c.go-ended.new.play.run c.go-ended.ensures.answers c.finish.result c.finish.ensures.ended

pub returns-clause-lines : goal.returns-clause-lines
returns-clause-lines g c =
    let script = c.args.script.now in
    let reads = c.in-Ok.ensures ∙ c.reads.ensures.value in
    let interrupts = c.in-Ok-copied.ensures ∙ c.interrupts.ensures.value in
    let begins = ap state c.new-play.ensures.run ∙ c.new-run.ensures.state in
    let around = ap world c.new-play.ensures.run ∙ c.new-run.ensures.world ∙ c.running-around.ensures
    ∙ ap (λ x. running_world 0 (Some 400) x c.in-Ok-copied.interrupts.items c.args.budget) reads
    ∙ ap (λ x. running_world 0 (Some 400) script.reads x c.args.budget) interrupts in
    (played_leaves c.args.self.program.now c.requires.typed c.args.self.heap c.requires.heap script c.args.budget c.new-play.result.run begins around
    c.go-ended.result c.go-ended.new.play.run c.go-ended.ensures.answers _ _ _ _ _ _ _ c.finish.result c.new-play.ensures.put c.new-play.ensures.failed
    c.go-ended.ensures.puts c.finish.ensures.lines).0

pub returns-clause-cause : goal.returns-clause-cause
returns-clause-cause g c =
    let script = c.args.script.now in
    let reads = c.in-Ok.ensures ∙ c.reads.ensures.value in
    let interrupts = c.in-Ok-copied.ensures ∙ c.interrupts.ensures.value in
    let begins = ap state c.new-play.ensures.run ∙ c.new-run.ensures.state in
    let around = ap world c.new-play.ensures.run ∙ c.new-run.ensures.world ∙ c.running-around.ensures
    ∙ ap (λ x. running_world 0 (Some 400) x c.in-Ok-copied.interrupts.items c.args.budget) reads
    ∙ ap (λ x. running_world 0 (Some 400) script.reads x c.args.budget) interrupts in
    (played_leaves c.args.self.program.now c.requires.typed c.args.self.heap c.requires.heap script c.args.budget c.new-play.result.run begins around
    c.go-ended.result c.go-ended.new.play.run c.go-ended.ensures.answers _ _ _ _ _ _ _ c.finish.result c.new-play.ensures.put c.new-play.ensures.failed
    c.go-ended.ensures.puts c.finish.ensures.lines).1

pub returns-clause-later : goal.returns-clause-later
returns-clause-later g c =
    let script = c.args.script.now in
    let reads = c.in-Ok.ensures ∙ c.reads.ensures.value in
    let interrupts = c.in-Ok-copied.ensures ∙ c.interrupts.ensures.value in
    let begins = ap state c.new-play.ensures.run ∙ c.new-run.ensures.state in
    let around = ap world c.new-play.ensures.run ∙ c.new-run.ensures.world ∙ c.running-around.ensures
    ∙ ap (λ x. running_world 0 (Some 400) x c.in-Ok-copied.interrupts.items c.args.budget) reads
    ∙ ap (λ x. running_world 0 (Some 400) script.reads x c.args.budget) interrupts in
    (played_leaves c.args.self.program.now c.requires.typed c.args.self.heap c.requires.heap script c.args.budget c.new-play.result.run begins around
    c.go-ended.result c.go-ended.new.play.run c.go-ended.ensures.answers _ _ _ _ _ _ _ c.finish.result c.new-play.ensures.put c.new-play.ensures.failed
    c.go-ended.ensures.puts c.finish.ensures.lines).2
