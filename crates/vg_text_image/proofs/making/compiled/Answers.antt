use Rattle.std.proofs.Common.{◌∙◌}
use Rattle.vg_text_image.proofs.Texts.{bound_of, called_of, calls_of, compiled_of, does_of, few_of, lacks_of, unbuilt_of}
use Rattle.vg_text_image.proofs.making.compiled.Goals as goal

pub returns-in-Ok-clause-image : goal.returns-in-Ok-clause-image
returns-in-Ok-clause-image c =
    compiled_of c.args.fitted.now _ c.in-Ok.made.linked c.as_slice.result.now (λ texts. c.as_slice.ensures ∙ c.in_ok-costs.ensures.costs texts)
    (does_of c.args.fitted.now c.in-Ok.made.linked c.as_slice.result.now c.in-Ok.made.bound _ c.laid.ensures.bound c.in-Ok.ensures.does)
    (bound_of c.args.fitted.now c.in-Ok.made.linked c.in-Ok.made.bound _ c.laid.ensures.bound c.in-Ok.ensures.bound)
    (calls_of c.args.fitted.now c.as_slice.result.now c.in-Ok.made.bound _ c.laid.ensures.bound c.in-Ok.ensures.calls)
    c.laid.ensures.flash c.laid.ensures.bytes c.laid.ensures.static_is c.laid.ensures.idle

pub returns-in-Ok-clause-few : goal.returns-in-Ok-clause-few
returns-in-Ok-clause-few c = few_of c.args.stack c.in-Ok.made.bound _ c.laid.ensures.bound c.in-Ok.ensures.few

pub returns-in-Err-Fault-clause-calls : goal.returns-in-Err-Fault-clause-calls
returns-in-Err-Fault-clause-calls c =
    called_of c.args.fitted.now c.as_slice.result.now (λ texts. c.as_slice.ensures ∙ c.in_ok-costs.ensures.costs texts) c.in-Err-Fault.field-0
    c.in-Err-Fault.why c.unmade.result c.in-Err-Fault.field-0-is c.unmade.ensures.called c.in-Err-Fault.ensures.deep

pub returns-in-Err-Fault-clause-linear : goal.returns-in-Err-Fault-clause-linear
returns-in-Err-Fault-clause-linear c =
    lacks_of c.args.fitted.now c.in-Err-Fault.field-0 c.in-Err-Fault.why c.unmade.result c.in-Err-Fault.field-0-is c.unmade.ensures.called
    c.in-Err-Fault.ensures.linear

pub returns-in-Err-Fault-clause-built : goal.returns-in-Err-Fault-clause-built
returns-in-Err-Fault-clause-built c =
    unbuilt_of c.args.fitted.now c.as_slice.result.now (λ texts. c.as_slice.ensures ∙ c.in_ok-costs.ensures.costs texts) c.in-Err-Fault.field-0
    c.in-Err-Fault.why c.unmade.result c.in-Err-Fault.field-0-is c.unmade.ensures.called c.in-Err-Fault.ensures.frames c.in-Err-Fault.ensures.handlers
