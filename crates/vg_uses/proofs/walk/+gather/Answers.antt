use Rattle.std.proofs.Common.{◌≡◌, ◌++◌, ◌∙◌, List, OnOk, arith, sym, ap, subst, refl, append_assoc}
use Rattle.vg_core.specs.declared.step.Step.{Step}
use Rattle.vg_core.specs.HeldProgram.{code_of}
use Rattle.vg_live.specs.Uses.{uses}
use Rattle.vg_uses.specs.Walks.{all_uses}
use Rattle.vg_uses.proofs.Rows.{row_same, chain_same, arms_same, row_deep, chain_deep, arms_deep, part_deep}
use Rattle.vg_uses.proofs.walk.+gather.Goals as goal

pub gather-gather_all-requires : goal.gather-gather_all-requires
gather-gather_all-requires t c =
    let e = row_deep c.args.code.now c.in-Row.codes c.as_slice.result.now c.in-Row.is c.as_slice.ensures.value in (omega (arith, e, c.decreases), c.requires)

pub gather-gather_all-requires-in-Chain : goal.gather-gather_all-requires-in-Chain
gather-gather_all-requires-in-Chain t c =
    let e = chain_deep c.args.code.now c.in-Chain.codes c.as_slice-in-Chain.result.now c.in-Chain.is c.as_slice-in-Chain.ensures.value in
    (omega (arith, e, c.decreases), c.requires)

pub gather-gather_all-requires-in-Arms : goal.gather-gather_all-requires-in-Arms
gather-gather_all-requires-in-Arms t c =
    let e = arms_deep c.args.code.now c.in-Arms.all c.in-Arms.last c.as_slice-in-Arms.result.now c.in-Arms.last.value c.in-Arms.is
    c.as_slice-in-Arms.ensures.value refl in
    (omega (arith, e, c.decreases), c.requires)

pub gather-returns-in-Row : goal.gather-returns-in-Row
gather-returns-in-Row t c =
    subst (λ z. OnOk c.gather_all.result (c.gather_all.new.steps.items ≡ c.args.steps.now.items ++ z))
    (sym (row_same c.args.code.now c.in-Row.codes c.as_slice.result.now c.in-Row.is c.as_slice.ensures.value)) c.gather_all.ensures

pub gather-returns-in-Chain : goal.gather-returns-in-Chain
gather-returns-in-Chain t c =
    subst (λ z. OnOk c.gather_all-in-Chain.result (c.gather_all-in-Chain.new.steps.items ≡ c.args.steps.now.items ++ z))
    (sym (chain_same c.args.code.now c.in-Chain.codes c.as_slice-in-Chain.result.now c.in-Chain.is c.as_slice-in-Chain.ensures.value)) c.gather_all-in-Chain.ensures

pub gather-returns-in_ok-gather_all-in-Arms : goal.gather-returns-in_ok-gather_all-in-Arms
gather-returns-in_ok-gather_all-in-Arms t c =
    let e = arms_same c.args.code.now c.in-Arms.all c.in-Arms.last c.as_slice-in-Arms.result.now c.deref-in-Arms.result.now c.in-Arms.is
    c.as_slice-in-Arms.ensures.value c.deref-in-Arms.ensures in
    subst (λ z. OnOk c.gather.result (c.gather.new.steps.items ≡ z))
    (ap (λ z. z ++ uses (code_of c.deref-in-Arms.result.now)) c.in_ok-gather_all-in-Arms.ensures
    ∙ (append_assoc c.args.steps.now.items _ _ ∙ ap (λ z. c.args.steps.now.items ++ z) (sym e))) c.gather.ensures

pub gather_all-gather-requires : goal.gather_all-gather-requires
gather_all-gather-requires t c =
    let e = part_deep c.args.codes.now c.loop-code.code-index c.code-item.result c.loop-code-test.true c.code-item.is in (omega (arith, e, c.decreases), c.requires)
