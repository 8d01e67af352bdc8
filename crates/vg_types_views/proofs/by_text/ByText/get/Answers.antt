use Rattle.std.proofs.Common.{sym, ◌∙◌}
use Rattle.vg_types_views.proofs.Entries.{found_by}
use Rattle.vg_types_views.proofs.by_text.ByText.get.Goals as goal

pub returns : goal.returns
returns g c = c.get.ensures.value ∙ found_by c.self.inside.entries c.args.text.now c.args.self.now (sym c.self.view_is)
