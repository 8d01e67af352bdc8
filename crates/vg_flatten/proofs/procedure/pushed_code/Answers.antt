use Rattle.std.proofs.Common.{◌++◌, ◌+◌, ◌-◌, [], ◌∷◌, arith, subst, sym, ap, ◌∙◌}
use Rattle.vg_lin.specs.declared.instr.Operand.TheVariants.{Known}
use Rattle.vg_lin.specs.declared.instr.Instr.TheVariants.{Return}
use Rattle.vg_flatten_shapes.specs.declared.open.Open.TheVariants.{Set}
use Rattle.vg_firm.specs.Held.{code_of, procedure_of}
use Rattle.vg_flatten_shapes.specs.Shapes.{empty}
use Rattle.vg_flatten_pushed.specs.Stacked.{stacked}
use Rattle.vg_flatten.specs.Flattened.{zero_list, receivers}
use Rattle.vg_flatten_shapes.specs.Laying.{IsPiece}
use Rattle.vg_flatten.proofs.Finished.{whole_laid, late_lays, fails_lays}
use Rattle.vg_flatten.proofs.Whole.{own_long}
use Rattle.vg_flatten.proofs.procedure.pushed_code.Goals as goal

pub returns : goal.returns
returns c =
    let own = own_long c.args.procedure.now.receives c.args.procedure.now.widths in
    let receiver = c.requires.receiver in
    let locals = c.requires.locals in
    whole_laid (procedure_of c.args.procedure.now)
    (stacked c.args.layout.now c.args.room c.args.most (code_of c.args.procedure.now.body) empty) c.in_ok-body.body c.in_ok-first.first
    c.push.new.self c.in_ok-append.field-0 c.in_ok-at.at
    (c.in_ok-first.ensures
    ∙ ap (λ z. zero_list (c.args.room.locals - z) z) (ap (λ z. z + c.args.procedure.now.params) receiver)
    ∙ ap (λ z. zero_list z (receivers c.args.procedure.now.receives + c.args.procedure.now.params)) (omega (arith, own, receiver, locals)))
    (c.in_ok-at.ensures ∙ ap (λ z. 0 + z) c.len.ensures)
    (subst (λ z. IsPiece c.in_ok-body.body c.in_ok-at.at (stacked c.args.layout.now c.args.room c.args.most
    (code_of c.args.procedure.now.body) z)) c.new.ensures c.in_ok-body.ensures)
    (sym c.is_empty.ensures ∙ c.if-not-is_empty.false)
    (c.in_ok-push.ensures.ok ∙ ap (λ w. c.in_ok-body.body.code ++ Set (Return w (Known 0)) ∷ []) c.requires.given)
    (c.in_ok-append.ensures ∙ ap (λ z. c.in_ok-first.first ++ z) c.as_slice.ensures)

pub returns-in_err-at : goal.returns-in_err-at
returns-in_err-at c =
    let own = own_long c.args.procedure.now.receives c.args.procedure.now.widths in
    let receiver = c.requires.receiver in
    let locals = c.requires.locals in
    late_lays (procedure_of c.args.procedure.now)
    (stacked c.args.layout.now c.args.room c.args.most (code_of c.args.procedure.now.body) empty) c.in_ok-first.first
    c.from_residual-in_err-at.result _ c.len.result c.from_residual-in_err-at.ensures.1
    (c.in_ok-first.ensures
    ∙ ap (λ z. zero_list (c.args.room.locals - z) z) (ap (λ z. z + c.args.procedure.now.params) receiver)
    ∙ ap (λ z. zero_list z (receivers c.args.procedure.now.receives + c.args.procedure.now.params)) (omega (arith, own, receiver, locals)))
    c.len.ensures c.in_err-at.ensures

pub returns-in_err-body : goal.returns-in_err-body
returns-in_err-body c =
    let own = own_long c.args.procedure.now.receives c.args.procedure.now.widths in
    let receiver = c.requires.receiver in
    let locals = c.requires.locals in
    fails_lays (procedure_of c.args.procedure.now)
    (stacked c.args.layout.now c.args.room c.args.most (code_of c.args.procedure.now.body)) c.new.result c.in_ok-first.first
    c.in_ok-at.at c.from_residual-in_err-body.result _ c.from_residual-in_err-body.ensures.1 c.new.ensures
    (c.in_ok-first.ensures
    ∙ ap (λ z. zero_list (c.args.room.locals - z) z) (ap (λ z. z + c.args.procedure.now.params) receiver)
    ∙ ap (λ z. zero_list z (receivers c.args.procedure.now.receives + c.args.procedure.now.params)) (omega (arith, own, receiver, locals)))
    (c.in_ok-at.ensures ∙ ap (λ z. 0 + z) c.len.ensures) c.in_err-body.ensures
