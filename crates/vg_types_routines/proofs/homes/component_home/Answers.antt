use Rattle.std.proofs.Common.{refl}
use Rattle.vg_syntax.specs.Numbering.{numbered}
use Rattle.vg_tree.specs.Held.{node_at}
use Rattle.vg_source.specs.Program.{constructor_in}
use Rattle.vg_types_routines.proofs.Constructing.{component_done}
use Rattle.vg_types_routines.proofs.homes.component_home.Goals as goal

pub returns : goal.returns
returns c = (
  c.in-Ok.ensures.0,
  component_done c.args.names.now c.args.root.now c.args.declared.now c.args.component
      (numbered c.args.first (node_at c.args.names.now c.args.members.now)) c.args.methods.items c.in-Ok.walked c.in_ok-constructed.constructed
      (record { methods = c.in-Ok.walked.methods; body = c.in_ok-body.body }) c.in-Ok.ensures.1
      (c.in_ok-constructed.ensures (constructor_in (numbered c.args.first (node_at c.args.names.now c.args.members.now))) c.in-Ok.ensures.1.made)
      (record { others = c.in_ok-body.ensures.others; code = c.in_ok-body.ensures.code }) refl,
)
