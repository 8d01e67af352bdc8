use Rattle.std.proofs.Common.{◌≡◌, true, refl, ap, ◌∙◌}
use Rattle.std.proofs.lemmas.Result.{IfOk-weaker}
use Rattle.vg_tree.specs.Held.{node_at}
use Rattle.vg_types_tables.specs.Views.{declarations_at}
use Rattle.vg_types_named.specs.Left.{Left}
use Rattle.vg_types_declared.specs.Apart.{have_members}
use Rattle.vg_types_declared.proofs.Parting.{have_same}
use Rattle.vg_types_declare.proofs.pass.declare_shaped.Goals as goal

pub returns-then-have_members-clause-members : goal.returns-then-have_members-clause-members
returns-then-have_members-clause-members c =
    IfOk-weaker c.declare_row.result (Left c.args.names.now (declarations_at c.args.names.now c.args.root.now))
    (λ d. have_members (declarations_at c.args.names.now c.args.root.now) ≡ true)
    (λ d h. have_same 1 (node_at c.args.names.now c.args.root.now) ∙ ap have_members (c.requires.row c.args.names.now)
    ∙ c.if-have_members.ensures refl c.args.names.now)
    c.declare_row.ensures.left
