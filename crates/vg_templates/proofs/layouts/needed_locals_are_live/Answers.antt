use Rattle.vg_templates.proofs.Living.{live_where_needed, lasts_where_wanted}
use Rattle.vg_templates.proofs.layouts.needed_locals_are_live.Goals as goal

pub returns-clause-live : goal.returns-clause-live
returns-clause-live c = λ m. live_where_needed m.code

pub returns-clause-lasting : goal.returns-clause-lasting
returns-clause-lasting c = λ m. lasts_where_wanted m.code
