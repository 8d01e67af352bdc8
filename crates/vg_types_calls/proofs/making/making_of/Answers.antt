use Rattle.std.proofs.Common.{sym, ◌∙◌}
use Rattle.vg_types_calls.proofs.Calling.{making_is}
use Rattle.vg_types_calls.proofs.making.making_of.Goals as goal

pub returns-in-Some-clause-making : goal.returns-in-Some-clause-making
returns-in-Some-clause-making c =
    making_is c.args.names.now c.args.root.now c.args.declared.now c.requires.declares c.args.name.now c.in-Some.class c.args.count c.args.id
    (sym c.class_of.ensures ∙ c.in-Some.is)
