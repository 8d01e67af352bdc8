use Rattle.vg_types_members.proofs.Makings.{on_ok}
use Rattle.vg_types_homes.specs.Homes.{homes_view}
use Rattle.vg_types_homes.proofs.Passing.{with_other}
use Rattle.vg_types_homes.proofs.pass.add_declaration.Goals as goal

pub returns-in_default : goal.returns-in_default
returns-in_default c = record {
  view = on_ok c.passed.result
      (with_other c.args.names.now c.args.declaration.now (homes_view c.args.names.now c.args.types.now c.args.homes.now) c.passed.ensures);
  sound = on_ok c.passed.result c.requires.sound;
}
