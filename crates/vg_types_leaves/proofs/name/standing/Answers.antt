use Rattle.std.proofs.Common.{subst, ap, ◌∙◌, ◌+◌}
use Rattle.vg_meaning.specs.Code.{Then, Do}
use Rattle.vg_core.specs.declared.step.Step.TheVariants.{This}
use Rattle.vg_core.specs.HeldProgram.{code_of}
use Rattle.vg_types_tables.specs.Promises.{Leads}
use Rattle.vg_types_leaves.specs.Named.{FrontFor}
use Rattle.vg_types_leaves.proofs.Reading.{leads_reached, leads_this}
use Rattle.vg_types_leaves.proofs.name.standing.Goals as goal

pub returns-in_ok-code-clause-typed : goal.returns-in_ok-code-clause-typed
returns-in_ok-code-clause-typed c =
    let f = subst (λ b. FrontFor c.args.body b c.args.named.reached) c.if-named.true c.requires.front in
    leads_this c.args.names.now c.args.declared.now c.args.locals.now c.args.body c.args.id f.0 c.args.named.reached
    (record { head = c.head-head.result; code = c.in_ok-code.code; next = c.args.id + 1 }) c.requires.reached f.1 f.2 c.head-head.ensures.head
    (c.in_ok-code.ensures ∙ ap (Then (Do This)) c.code-read.ensures)

pub returns-else-named-clause-typed : goal.returns-else-named-clause-typed
returns-else-named-clause-typed c =
    let f = subst (λ b. FrontFor c.args.body b c.args.named.reached) c.if-named.false c.requires.front in
    subst (λ h. Leads c.args.declared.now.tables c.args.body c.args.locals.now h (code_of c.code-read.result) c.head-head.result) f
    (leads_reached c.args.names.now c.args.declared.now c.args.locals.now c.args.body c.args.id c.args.named.reached
    (record { head = c.head-head.result; code = c.code-read.result; next = c.args.id + 1 }) c.requires.reached c.head-head.ensures.head c.code-read.ensures)
