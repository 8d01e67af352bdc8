use Rattle.std.proofs.Common.{sym}
use Rattle.vg_types_views.proofs.Entries.{there, there_is, new_is, new_last}
use Rattle.vg_types_views.proofs.by_text.ByText.add.Goals as goal

pub returns-in-Some-clause-new : goal.returns-in-Some-clause-new
returns-in-Some-clause-new g c = there_is c.self.inside.entries c.args.text.now _ c.args.self.now (sym c.self.view_is) c.in-Some.ensures.value

pub returns-in-Some-clause-added : goal.returns-in-Some-clause-added
returns-in-Some-clause-added g c = there c.self.inside.entries c.args.text.now c.args.value _ c.args.self.now (sym c.self.view_is) c.in-Some.ensures.value

pub returns-in_ok-insert-in-None-clause-new : goal.returns-in_ok-insert-in-None-clause-new
returns-in_ok-insert-in-None-clause-new g c = new_is c.self.inside.entries c.args.text.now c.args.self.now (sym c.self.view_is) c.in-None.ensures.value

pub returns-in_ok-insert-in-None-clause-added : goal.returns-in_ok-insert-in-None-clause-added
returns-in_ok-insert-in-None-clause-added g c =
    new_last c.self.inside.entries c.args.text.now c.in_ok-from_str-in-None.field-0 c.args.value c.args.self.now c.insert.new.self.entries
    (sym c.self.view_is) c.in-None.ensures.value c.in_ok-from_str-in-None.ensures.ok c.in_ok-insert-in-None.ensures.entries
