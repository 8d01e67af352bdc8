use Rattle.std.proofs.lemmas.Result.{IfOk-weaker}
use Rattle.vg_alloc.proofs.Spotting.{front_small, back_small, stack_fits, arrivals_fit, laid_fits, laid_is}
use Rattle.vg_alloc.proofs.framing.located.Goals as goal

pub arriving-requires-clause-small : goal.arriving-requires-clause-small
arriving-requires-clause-small c = front_small c.args.widths.now c.args.params c.requires.all

pub on_stack-pushed-requires-clause-small : goal.on_stack-pushed-requires-clause-small
on_stack-pushed-requires-clause-small c = front_small c.args.widths.now c.args.params c.requires.all

pub laid-requires-clause-params : goal.laid-requires-clause-params
laid-requires-clause-params c = stack_fits c.args.code.now c.args.widths.now c.args.params _ _ c.requires.params c.on_stack-pushed.ensures c.in_ok-arrives.ensures

pub laid-requires-clause-pushed : goal.laid-requires-clause-pushed
laid-requires-clause-pushed c = front_small c.args.widths.now c.on_stack-pushed.result c.requires.all

pub laid-requires-clause-others : goal.laid-requires-clause-others
laid-requires-clause-others c = back_small c.args.widths.now c.on_stack-pushed.result c.requires.all

pub laid-requires-clause-arriving : goal.laid-requires-clause-arriving
laid-requires-clause-arriving c =
    arrivals_fit c.args.code.now c.args.widths.now c.args.params _ _ c.requires.params c.on_stack-pushed.ensures c.in_ok-arrives.ensures

pub laid-requires-clause-sound : goal.laid-requires-clause-sound
laid-requires-clause-sound c =
    laid_fits c.args.code.now c.args.widths.now c.args.params _ _ c.requires.params c.on_stack-pushed.ensures c.in_ok-arrives.ensures c.requires.sound

pub returns : goal.returns
returns c =
    IfOk-weaker c.laid.result _ _
    (laid_is c.args.code.now c.args.widths.now c.args.params _ _ c.requires.params c.on_stack-pushed.ensures c.in_ok-arrives.ensures) c.laid.ensures
