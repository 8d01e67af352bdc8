use Rattle.vg_firm.specs.Held.{procedure_of}
use Rattle.vg_flatten.proofs.Typed.{is_taken}
use Rattle.vg_flatten.proofs.PushedSizes.{is_short}
use Rattle.vg_flatten.proofs.PushedCalls.{has_calls}
use Rattle.vg_flatten.proofs.procedure.flatten.Goals as goal

pub returns : goal.returns
returns c =
    record {
      flat = c.flattened.ensures.flat;
      onward = c.flattened.ensures.onward;
      few = c.flattened.ensures.few;
      refusal = c.flattened.ensures.refusal;
      short = is_short c.args.layout.now (procedure_of c.args.procedure.now) c.flattened.result c.flattened.ensures.flat;
      calls = has_calls c.args.layout.now (procedure_of c.args.procedure.now) c.flattened.result c.flattened.ensures.flat;
      typed = λ t. is_taken c.args.layout.now (procedure_of c.args.procedure.now) t c.flattened.result c.flattened.ensures.refusal;
    }
