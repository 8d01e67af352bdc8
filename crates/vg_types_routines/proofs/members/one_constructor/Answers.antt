use Rattle.std.proofs.Common.{[], ◌∷◌, ◌++◌, sym, ap, ◌∙◌}
use Rattle.vg_types_routines.proofs.Making.{none_of}
use Rattle.vg_types_routines.proofs.members.one_constructor.Goals as goal

pub returns : goal.returns
returns c = (
  c.in-Ok.ensures.0,
  record {
    code = c.nothing.result;
    inits = c.in_ok-with_init.ensures.inits ∙ ap (λ z. z ++ c.nothing.result ∷ []) c.with_made.ensures.inits;
    nothing = c.nothing.ensures;
    methods = c.in_ok-with_init.ensures.methods ∙ c.with_made.ensures.methods;
    first = none_of c.args.so_far.made (sym c.is_some.ensures ∙ c.if-is_some.false);
    constructed = c.in-Ok.made;
    made = c.in_ok-with_init.ensures.made ∙ c.with_made.ensures.made;
    is = c.in-Ok.ensures.1;
  },
)
