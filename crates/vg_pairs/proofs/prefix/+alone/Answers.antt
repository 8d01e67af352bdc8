use Rattle.std.proofs.Common.{◌≡◌, refl, sym, ap, ◌∙◌}
use Rattle.vg_core.specs.HeldProgram.{code_of}
use Rattle.vg_pairs.specs.Pairs.{prefix_in}
use Rattle.vg_pairs.proofs.RowLists.{row_same, chain_same, arms_same}
use Rattle.vg_pairs.proofs.Pairing.{no_prefix_chain, no_prefix_row, no_prefix_arms, first_prefix}
use Rattle.vg_pairs.proofs.prefix.+alone.Goals as goal

pub prefix_alone-returns-else-codes-eq1 : goal.prefix_alone-returns-else-codes-eq1
prefix_alone-returns-else-codes-eq1 t c = sym (no_prefix_chain c.args.codes.now c.if-codes-eq1.false)

pub prefix_of-returns-in-Chain : goal.prefix_of-returns-in-Chain
prefix_of-returns-in-Chain t c =
    c.prefix_alone.ensures
    ∙ sym (ap prefix_in (chain_same c.args.code.now c.in-Chain.codes c.as_slice.result.now c.in-Chain.is c.as_slice.ensures.value))

pub prefix_of-returns-in-Row : goal.prefix_of-returns-in-Row
prefix_of-returns-in-Row t c =
    sym (ap prefix_in (row_same c.args.code.now c.in-Row.field-0 c.in-Row.field-0.items c.in-Row.is refl) ∙ no_prefix_row c.in-Row.field-0.items)

pub prefix_of-returns-then-as_slice-eq0 : goal.prefix_of-returns-then-as_slice-eq0
prefix_of-returns-then-as_slice-eq0 t c =
    c.prefix_of.ensures
    ∙ sym (ap prefix_in (arms_same c.args.code.now c.in-Arms.all c.in-Arms.last c.as_slice-in-Arms.result.now c.deref.result.now c.in-Arms.is
    c.as_slice-in-Arms.ensures.value c.deref.ensures)
    ∙ first_prefix c.as_slice-in-Arms.result.now (code_of c.deref.result.now) c.if-as_slice-eq0.true)

pub prefix_of-returns-else-as_slice-eq0 : goal.prefix_of-returns-else-as_slice-eq0
prefix_of-returns-else-as_slice-eq0 t c =
    sym (ap prefix_in (arms_same c.args.code.now c.in-Arms.all c.in-Arms.last c.as_slice-in-Arms.result.now c.in-Arms.last.value c.in-Arms.is
    c.as_slice-in-Arms.ensures.value refl)
    ∙ no_prefix_arms c.as_slice-in-Arms.result.now (code_of c.in-Arms.last.value) c.if-as_slice-eq0.false)
