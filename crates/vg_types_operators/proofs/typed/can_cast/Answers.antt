use Rattle.std.proofs.Common.{sym, ◌∙◌}
use Rattle.vg_types_tables.proofs.Found.{equal_decides}
use Rattle.vg_types_operators.proofs.Casting.{casts_agree, casts}
use Rattle.vg_types_operators.proofs.typed.can_cast.Goals as goal

pub returns-clause-exact : goal.returns-clause-exact
returns-clause-exact c =
    c.casts_where.ensures
    ∙ casts_agree c.args.names.now c.args.root.now c.args.declared.now c.requires.declares c.args.type_ c.args.wanted c.requires.known c.requires.wanted
    c.eq.result (equal_decides c.args.type_ c.args.wanted c.eq.result c.eq.ensures)

pub returns-clause-typed : goal.returns-clause-typed
returns-clause-typed c = λ h t.
    casts c.args.declared.now.tables c.requires.declares.formed c.args.type_ c.args.wanted c.requires.known c.eq.result
    (equal_decides c.args.type_ c.args.wanted c.eq.result c.eq.ensures).0 (sym c.casts_where.ensures ∙ h) t
