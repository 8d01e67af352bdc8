use Rattle.std.proofs.Common.{◌≡◌, IfOk, arith, sym, subst, ◌∙◌}
use Rattle.vg_meaning.specs.Code.{replaced}
use Rattle.vg_core.specs.HeldProgram.{code_chain, code_row}
use Rattle.vg_firm.specs.Held as firm
use Rattle.vg_pack_code.specs.Plans.{moved}
use Rattle.vg_pack_code.proofs.RowsOfCode.{row_same, chain_same, arms_whole, row_step, arms_step, chain_step}
use Rattle.vg_pack_code.proofs.code.+packing.Goals as goal

pub packed_code-returns-in-Row-clause-code : goal.packed_code-returns-in-Row-clause-code
packed_code-returns-in-Row-clause-code t c =
    subst (λ z. IfOk c.row.result (λ r. firm.code_of r ≡ replaced (moved c.args.tables.now c.args.numbers.now c.args.plan.now) z))
    (sym (row_same c.args.code.now c.in-Row.codes c.as_slice.result.now c.in-Row.is c.as_slice.ensures.value)) c.row.ensures.code

pub packed_code-returns-in-Chain-clause-code : goal.packed_code-returns-in-Chain-clause-code
packed_code-returns-in-Chain-clause-code t c =
    subst (λ z. IfOk c.chain.result (λ r. firm.code_of r ≡ replaced (moved c.args.tables.now c.args.numbers.now c.args.plan.now) z))
    (sym (chain_same c.args.code.now c.in-Chain.codes c.as_slice-in-Chain.result.now c.in-Chain.is c.as_slice-in-Chain.ensures.value)) c.chain.ensures.code

pub row-loop-code-preserved : goal.row-loop-code-preserved
row-loop-code-preserved t c =
    row_step (moved c.args.tables.now c.args.numbers.now c.args.plan.now) c.loop-code.rows.items c.push.new.self.items c.in_ok-packed.packed
    c.in_ok-push.ensures.items c.args.codes.now c.loop-code.code-index c.code-item.result c.code-item.is
    (replaced (moved c.args.tables.now c.args.numbers.now c.args.plan.now) (code_row c.args.codes.now)) c.loop-code-test.true
    c.in_ok-packed.ensures.code c.loop-code.invariant

pub arms-loop-code-preserved : goal.arms-loop-code-preserved
arms-loop-code-preserved t c =
    arms_step (moved c.args.tables.now c.args.numbers.now c.args.plan.now) c.loop-code.rows.items c.push.new.self.items c.in_ok-packed.packed
    c.in_ok-push.ensures.items c.args.codes.now c.loop-code.code-index c.code-item.result c.code-item.is c.loop-code-test.true c.in_ok-packed.ensures
    c.loop-code.invariant

pub chain-loop-index-preserved : goal.chain-loop-index-preserved
chain-loop-index-preserved t c =
    let lt = c.loop-index-test.true in
    chain_step (moved c.args.tables.now c.args.numbers.now c.args.plan.now) c.loop-index.rows.items c.push.new.self.items c.in_ok-packed.packed
    c.in_ok-push.ensures.items c.args.codes.now c.loop-index.index c.index-codes-index.result c.index-codes-index.is
    (replaced (moved c.args.tables.now c.args.numbers.now c.args.plan.now) (code_chain c.args.codes.now)) (omega (arith, lt))
    c.in_ok-packed.ensures.code c.in_ok-packed.ensures.arm c.loop-index.invariant

pub packed_code-returns-in_ok-end-in-Arms-clause-code : goal.packed_code-returns-in_ok-end-in-Arms-clause-code
packed_code-returns-in_ok-end-in-Arms-clause-code t c =
    c.arms_of.ensures.code
    ∙ arms_whole (moved c.args.tables.now c.args.numbers.now c.args.plan.now) c.args.code.now c.in-Arms.all c.in-Arms.last c.as_slice-in-Arms.result.now
    c.deref-in-Arms.result.now c.in_ok-rows-in-Arms.rows.items c.in_ok-end-in-Arms.end.value c.in-Arms.is c.as_slice-in-Arms.ensures.value
    c.deref-in-Arms.ensures c.in_ok-rows-in-Arms.ensures c.in_ok-end-in-Arms.ensures
