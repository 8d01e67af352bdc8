use Rattle.std.proofs.Common.{ap, ◌∙◌}
use Rattle.vg_rules.specs.Fits.{same_type}
use Rattle.vg_types_tables.specs.Views.{type_view}
use Rattle.vg_types_tables.proofs.Found.{equal_decides}
use Rattle.vg_types_tables.proofs.Fitting.{same_agrees}
use Rattle.vg_types_inherited.proofs.same.same.Goals as goal

pub returns-in-Some : goal.returns-in-Some
returns-in-Some c =
    same_agrees c.args.names.now c.args.root.now c.args.declared.now c.requires.declares c.in-Some.type_ c.args.other c.in-Some.ensures.1 c.requires.known
    c.eq.result (equal_decides c.in-Some.type_ c.args.other c.eq.result c.eq.ensures)
    ∙ ap (λ t. same_type t (type_view c.args.names.now c.args.declared.now c.args.other)) c.in-Some.ensures.0
