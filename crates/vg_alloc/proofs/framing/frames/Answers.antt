use Rattle.std.proofs.lemmas.Result.{IfOk-weaker}
use Rattle.vg_alloc.proofs.Spotting.{all_fit, widths_few, layout_fits, params_fit, locations_are, widths_are}
use Rattle.vg_alloc.proofs.framing.frames.Goals as goal

pub located-requires-clause-params : goal.located-requires-clause-params
located-requires-clause-params c = params_fit c.args.procedure.now c.keeps.ensures _ _ _ c.code.ensures c.widths.ensures c.params.ensures

pub located-requires-clause-few : goal.located-requires-clause-few
located-requires-clause-few c = widths_few c.args.procedure.now c.keeps.ensures _ _ _ c.code.ensures c.widths.ensures c.params.ensures

pub located-requires-clause-all : goal.located-requires-clause-all
located-requires-clause-all c = all_fit c.args.procedure.now c.keeps.ensures _ _ _ c.code.ensures c.widths.ensures c.params.ensures

pub located-requires-clause-sound : goal.located-requires-clause-sound
located-requires-clause-sound c = layout_fits c.args.procedure.now c.keeps.ensures _ _ _ c.code.ensures c.widths.ensures c.params.ensures

pub returns-clause-layout : goal.returns-clause-layout
returns-clause-layout c =
    IfOk-weaker c.located.result _ _
    (locations_are c.args.procedure.now c.keeps.ensures _ _ _ c.code.ensures c.widths.ensures c.params.ensures) c.located.ensures

pub returns-clause-widths : goal.returns-clause-widths
returns-clause-widths c =
    IfOk-weaker c.located.result _ _
    (widths_are c.args.procedure.now c.keeps.ensures _ _ _ c.code.ensures c.widths.ensures c.params.ensures) c.located.ensures
