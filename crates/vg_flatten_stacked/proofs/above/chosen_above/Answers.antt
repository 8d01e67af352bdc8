use Rattle.std.proofs.Common.{sym, ◌∙◌, subst}
use Rattle.vg_meaning.specs.Code.{If}
use Rattle.vg_firm.specs.Held.{code_of}
use Rattle.vg_flatten_shapes.specs.Laying.{Lays}
use Rattle.vg_flatten_control.specs.Flat.{flat}
use Rattle.vg_flatten_pushed.proofs.Parting.{above_lays}
use Rattle.vg_flatten_stacked.proofs.CalmCode.{newer_calm}
use Rattle.vg_flatten_stacked.proofs.above.chosen_above.Goals as goal

pub returns-then-choice_is_calm : goal.returns-then-choice_is_calm
returns-then-choice_is_calm c =
    subst (Lays c.onto.result c.args.at)
    (sym (newer_calm c.args.layout.now c.args.room c.args.most (code_of c.args.first.now) (code_of c.args.rest.now) c.args.homes
    (sym c.choice_is_calm.ensures ∙ c.if-choice_is_calm.true)))
    (above_lays c.onto.result c.chosen-made.result c.args.at (flat c.args.layout.now c.args.room (If (code_of c.args.first.now) (code_of c.args.rest.now)))
    c.args.most c.args.homes c.in_ok-parts.parts.above c.in_ok-parts.parts.below c.in_ok-parts.ensures.above c.in_ok-parts.ensures.below
    c.onto.ensures c.chosen-made.ensures)
