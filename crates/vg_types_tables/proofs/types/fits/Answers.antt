use Rattle.std.proofs.Common.{sym, ◌∙◌}
use Rattle.vg_types_tables.proofs.Found.{equal_decides}
use Rattle.vg_types_tables.proofs.Fitting.{fits_agrees, fits_sub}
use Rattle.vg_types_tables.proofs.types.fits.Goals as goal

pub returns-clause-exact : goal.returns-clause-exact
returns-clause-exact c =
    c.fits_where.ensures
    ∙ fits_agrees c.args.names.now c.args.root.now c.args.declared.now c.requires.declares c.args.type_ c.args.wanted c.requires.known c.requires.wanted
    c.eq.result (equal_decides c.args.type_ c.args.wanted c.eq.result c.eq.ensures)

pub returns-clause-sub : goal.returns-clause-sub
returns-clause-sub c = λ h.
    fits_sub c.args.declared.now.tables c.args.type_ c.args.wanted c.eq.result (equal_decides c.args.type_ c.args.wanted c.eq.result c.eq.ensures).0
    (sym c.fits_where.ensures ∙ h)
