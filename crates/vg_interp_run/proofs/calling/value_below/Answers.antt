use Rattle.std.proofs.Common.{ℕ, sym, ap, subst, ◌∙◌}
use Rattle.vg_meaning.specs.Answer.{Piece}
use Rattle.vg_core.specs.declared.value.CoreValue.{CoreValue}
use Rattle.vg_core.specs.State.{State}
use Rattle.vg_core.specs.Meaning.{call_bound}
use Rattle.vg_interp_run.specs.Run.{state, world}
use Rattle.vg_interp_run.specs.Calling.{Calls}
use Rattle.vg_interp_run.proofs.calling.value_below.Goals as goal

pub returns-in-Bound-clause-calls : goal.returns-in-Bound-clause-calls
returns-in-Bound-clause-calls c = λ call.
    let go : CoreValue → Piece State ℕ = call_bound c.args.tables.now call c.args.at c.args.count c.args.type_ in
    let s = state c.take_below.new.self in
    let w = world c.take_below.new.self in
    subst (Calls c.bound_call.result call s w) (sym (c.in_ok-receiver.ensures.takes go ∙ ap (λ v. go v s w) c.in-Bound.is)) (c.bound_call.ensures call)
