use Rattle.std.proofs.Common.{true, drop, ◌+◌, if◌then◌else◌, sym, ap, ◌∙◌}
use Rattle.std.proofs.lemmas.List.{at_drop_all}
use Rattle.vg_tree_walks.proofs.Passing.{left_of}
use Rattle.vg_types_inherited.proofs.Made.{any_made, made_among}
use Rattle.vg_types_inherited.proofs.defaults.has_constructor.Goals as goal

pub returns-then-is_constructor : goal.returns-then-is_constructor
returns-then-is_constructor c texts first =
    sym (ap any_made (left_of c.args.members.now c.each.member-index c.member-item.result c.each-test.true (sym c.member-item.is))
    ∙ ap (λ b. if b then true else any_made (drop (c.each.member-index + 1) c.args.members.now)) (sym c.is_constructor.ensures ∙ c.if-is_constructor.true))
    ∙ c.each.invariant ∙ made_among texts first c.args.members.now

pub returns : goal.returns
returns c texts first =
    sym (at_drop_all any_made c.args.members.now c.each.member-index c.each-test.false) ∙ c.each.invariant ∙ made_among texts first c.args.members.now
