use Rattle.std.proofs.Common.{◌≡◌, ◌+◌, drop, map, IfOk, sym, subst, ap, ◌∙◌}
use Rattle.vg_tree.specs.Held.{row_at}
use Rattle.vg_tree_walks.proofs.Passing.{left_of}
use Rattle.vg_source.specs.Program.{constructor_in}
use Rattle.vg_types_members.specs.Members.{view_of, written_params}
use Rattle.vg_types_members.proofs.Makings.{params_written, no_constructor}
use Rattle.vg_types_members.proofs.home.class_params.Goals as goal

pub returns-in-Some-clause-views : goal.returns-in-Some-clause-views
returns-in-Some-clause-views c =
    let texts = c.args.names.now in
    let i = c.members.member-index in
    subst (λ z. IfOk c.written_params.result (λ row. map (view_of texts c.args.types.now) row ≡ z))
    (params_written texts c.in-Some.params.now
    ∙ ap written_params
    (sym (c.in-Some.ensures.params texts (row_at texts (drop (i + 1) c.args.members.now)))
    ∙ ap (λ r. (constructor_in (row_at texts r)).params) (sym (left_of c.args.members.now i c.member-item.result c.members-test.true (sym c.member-item.is)))
    ∙ ap (λ k. k.params) c.members.invariant))
    c.written_params.ensures.views

pub members-preserved : goal.members-preserved
members-preserved c =
    let texts = c.args.names.now in
    let i = c.members.member-index in
    sym (no_constructor texts c.member-item.result (row_at texts (drop (i + 1) c.args.members.now)) (sym c.in_default.ensures.some))
    ∙ ap (λ r. constructor_in (row_at texts r)) (sym (left_of c.args.members.now i c.member-item.result c.members-test.true (sym c.member-item.is)))
    ∙ c.members.invariant
