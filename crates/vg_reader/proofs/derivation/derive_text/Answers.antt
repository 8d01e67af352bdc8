use Rattle.std.proofs.Common.{Err, subst}
use Rattle.vg_syntax.specs.Parses.{Shallow}
use Rattle.vg_grammar.specs.Derivation.{AreSteps, Derived}
use Rattle.vg_reader.proofs.Runs.{derived, refused, sentence}
use Rattle.vg_reader.proofs.derivation.derive_text.Goals as goal

pub returns-in-Ok-clause-tree : goal.returns-in-Ok-clause-tree
returns-in-Ok-clause-tree c =
    derived c.args.bytes.now c.in_ok-tokens.tokens.items c.in-Ok.steps.items c.in_ok-tokens.ensures
    (subst (λ l. AreSteps l c.in-Ok.steps.items × Shallow l) c.deref.ensures.value c.in-Ok.ensures)

pub returns-in-Ok-clause-tokens : goal.returns-in-Ok-clause-tokens
returns-in-Ok-clause-tokens c = (
  c.in_ok-tokens.ensures,
  sentence c.in_ok-tokens.tokens.items c.in-Ok.steps.items
      (subst (λ l. AreSteps l c.in-Ok.steps.items × Shallow l) c.deref.ensures.value c.in-Ok.ensures),
)

pub returns-in-Err-Fault-clause-tree : goal.returns-in-Err-Fault-clause-tree
returns-in-Err-Fault-clause-tree c =
    refused c.args.bytes.now c.in_ok-tokens.tokens.items _ _ c.in-Err-Fault.stop c.fault_at.result c.in_ok-tokens.ensures c.deref.ensures.value
    c.deref-in-Err-Fault.ensures.value
    (subst (λ r. Derived c.deref.result.now (Err r)) c.in-Err-Fault.field-0-is c.in-Err-Fault.ensures) c.fault_at.ensures
