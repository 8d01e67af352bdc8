use Rattle.std.proofs.Common.{◌≡◌, Some, subst, sym}
use Rattle.vg_core.specs.declared.program.Owner.TheVariants.{InClass}
use Rattle.vg_core.specs.Typing.{t_this}
use Rattle.vg_types_tables.specs.Promises.{Sees}
use Rattle.vg_types_leaves.proofs.literal.this_object.Goals as goal

pub leaf-requires-clause-typed : goal.leaf-requires-clause-typed
leaf-requires-clause-typed c =
    let e : c.args.body.owner ≡ Some (InClass c.in-Some.class) = c.in-Some.ensures.some in
    λ o x s. t_this (sym (subst (λ z. Sees z o) e s))
