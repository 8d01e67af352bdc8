use Rattle.std.proofs.Common.{[], ◌∷◌, ◌++◌, ap, ◌∙◌}
use Rattle.vg_types_routines.proofs.members.one_method.Goals as goal

pub returns : goal.returns
returns c = (
  c.in-Ok.ensures.0,
  record {
    code = c.nothing.result;
    inits = c.in_ok-with_init.ensures.inits ∙ ap (λ z. z ++ c.nothing.result ∷ []) c.in_ok-walked.ensures.inits;
    nothing = c.nothing.ensures;
    body = c.in-Ok.body;
    methods = c.in_ok-with_init.ensures.methods ∙ c.in_ok-walked.ensures.methods;
    is = c.in-Ok.ensures.1;
    made = c.in_ok-with_init.ensures.made ∙ c.in_ok-walked.ensures.made;
  },
)
