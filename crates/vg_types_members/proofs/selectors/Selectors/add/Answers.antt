use Rattle.std.proofs.Common.{rules, subst, sym, ap, ◌∙◌}
use Rattle.vg_types_views.specs.ByText.{found}
use Rattle.vg_types_members.specs.Selectors.{Stay}
use Rattle.vg_types_members.proofs.Growing.{found_new, stay_added, numbering_more}
use Rattle.vg_types_members.proofs.selectors.Selectors.add.Goals as goal

pub returns-in_ok-add-in-Some-clause-number : goal.returns-in_ok-add-in-Some-clause-number
returns-in_ok-add-in-Some-clause-number c =
    ap (found c.args.text.now) c.in_ok-add-in-Some.ensures.added
    ∙ found_new c.args.self.now.numbers c.args.text.now c.args.self.now.count c.requires.new

pub returns-in_ok-add-in-Some-clause-stay : goal.returns-in_ok-add-in-Some-clause-stay
returns-in_ok-add-in-Some-clause-stay c =
    subst (Stay c.args.self.now.numbers) (sym c.in_ok-add-in-Some.ensures.added)
    (stay_added c.args.self.now.numbers c.args.text.now c.args.self.now.count)

pub returns-in_ok-add-in-Some-clause-sound : goal.returns-in_ok-add-in-Some-clause-sound
returns-in_ok-add-in-Some-clause-sound c =
    numbering_more c.args.self.now _ c.args.text.now c.requires.sound c.requires.new c.in_ok-add-in-Some.ensures.added (search rules)
