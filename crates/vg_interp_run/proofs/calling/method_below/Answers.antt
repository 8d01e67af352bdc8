use Rattle.std.proofs.Common.{ℕ, sym, ap, subst, ◌∙◌}
use Rattle.vg_meaning.specs.Answer.{Piece}
use Rattle.vg_core.specs.declared.value.CoreValue.{CoreValue}
use Rattle.vg_core.specs.declared.value.CoreValue.TheVariants.{Obj}
use Rattle.vg_core.specs.declared.program.Target.TheVariants as targets
use Rattle.vg_core.specs.Tables.{dispatch}
use Rattle.vg_core.specs.State.{State}
use Rattle.vg_core.specs.Meaning.{with_found, with_object_of}
use Rattle.vg_interp_run.specs.Run.{state, world}
use Rattle.vg_interp_run.specs.Calling.{Calls}
use Rattle.vg_interp_run.proofs.calling.method_below.Goals as goal

pub returns-in-Obj-clause-calls : goal.returns-in-Obj-clause-calls
returns-in-Obj-clause-calls c = λ call.
    let p = c.args.tables.now in
    let go : CoreValue → Piece State ℕ =
    with_object_of p c.args.at c.args.class (λ k d. with_found (dispatch p d c.args.selector) (λ m. call (targets.Run m) c.args.count (Obj k))) in
    let s = state c.take_below.new.self in
    let w = world c.take_below.new.self in
    subst (Calls c.method_of_object.result call s w) (sym (c.in_ok-k.ensures.takes go ∙ ap (λ v. go v s w) c.in-Obj.is)) (c.method_of_object.ensures call)
