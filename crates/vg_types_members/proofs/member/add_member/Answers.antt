use Rattle.std.proofs.Common.{◌≡◌, map, OnOk, sym, subst, ap, ◌∙◌}
use Rattle.vg_syntax.specs.Numbering.{count_nodes}
use Rattle.vg_tree.specs.Held.{text_at, type_at, param_at, node_at}
use Rattle.vg_source.specs.Declared.{written_type}
use Rattle.vg_types_interned.specs.Types.{param_type}
use Rattle.vg_types_members.specs.Members.{home_view, view_of, with_method, with_member, written_params}
use Rattle.vg_types_members.proofs.Makings.{on_ok, params_written, with_other}
use Rattle.vg_types_members.proofs.member.add_member.Goals as goal

pub returns-in_ok-signature-in-MethodDecl-clause-view : goal.returns-in_ok-signature-in-MethodDecl-clause-view
returns-in_ok-signature-in-MethodDecl-clause-view c =
    let texts = c.args.names.now in
    let m = c.in-MethodDecl in
    let s = c.in_ok-signature-in-MethodDecl in
    let v = home_view texts c.args.types.now c.args.making.now c.args.own.now in
    subst (λ z. OnOk c.add_method.result (home_view texts c.args.types.now c.add_method.new.making c.add_method.new.own ≡ z))
    (ap (λ p. with_method c.args.home (text_at texts m.name) p (view_of texts c.args.types.now s.signature.value) c.count_nodes.result v)
    (s.ensures.params ∙ ap (map (param_type texts)) c.as_slice.ensures.value ∙ params_written texts m.params.items)
    ∙ ap (λ t. with_method c.args.home (text_at texts m.name) (written_params (map (param_at texts) m.params.items)) t c.count_nodes.result v)
    s.ensures.value
    ∙ ap (λ k. with_method c.args.home (text_at texts m.name) (written_params (map (param_at texts) m.params.items))
    (written_type (type_at texts m.value)) k v)
    (c.count_nodes.ensures texts ∙ ap (λ b. count_nodes (node_at texts b)) c.deref.ensures)
    ∙ ap (λ n. with_member c.args.home (node_at texts n) v) (sym m.is))
    c.add_method.ensures.view

pub returns-in_default-clause-view : goal.returns-in_default-clause-view
returns-in_default-clause-view c =
    on_ok c.passed.result
    (with_other c.args.home c.args.names.now c.args.member.now (home_view c.args.names.now c.args.types.now c.args.making.now c.args.own.now)
    c.passed.ensures)
