use Rattle.std.proofs.Common.{◌≡◌, IfOk, arith, sym, ap, subst, ◌∙◌, ◌-◌, length}
use Rattle.vg_core.specs.HeldProgram.{code_of, code_chain}
use Rattle.vg_pairs.specs.Pairs.{unpaired}
use Rattle.vg_pairs.specs.Lists.{arms_list}
use Rattle.vg_pairs.proofs.RowLists.{row_same, chain_same, arms_same}
use Rattle.vg_pairs.proofs.Pairing.{chain_whole}
use Rattle.vg_pairs.proofs.pairs.+pairing.Goals as goal

pub chain-returns-clause-code : goal.chain-returns-clause-code
chain-returns-clause-code t c =
    let test = c.loop-index-test.false in
    let most = c.loop-index.auto.index-end in
    let some = c.if-codes-eq0.false in
    c.chain_of.ensures.code
    ∙ chain_whole c.args.codes.now c.index-codes-end.result (length c.args.codes.now - 1) c.loop-index.index c.index-codes-end.is (grind (arith, some))
    (grind (arith, test, most)) c.loop-index.rows.items c.push-2.new.self.items c.in_ok-last.last c.loop-index.left
    (unpaired c.args.waiting (code_chain c.args.codes.now)) c.in_ok-push.ensures.items c.in_ok-last.ensures.code c.loop-index.invariant

pub unpaired-returns-in-Row-clause-code : goal.unpaired-returns-in-Row-clause-code
unpaired-returns-in-Row-clause-code t c =
    subst (λ z. IfOk c.row.result (λ r. code_of r ≡ unpaired c.args.waiting z))
    (sym (row_same c.args.code.now c.in-Row.codes c.as_slice.result.now c.in-Row.is c.as_slice.ensures.value)) c.row.ensures.code

pub unpaired-returns-in-Chain-clause-code : goal.unpaired-returns-in-Chain-clause-code
unpaired-returns-in-Chain-clause-code t c =
    subst (λ z. IfOk c.chain.result (λ r. code_of r ≡ unpaired c.args.waiting z))
    (sym (chain_same c.args.code.now c.in-Chain.codes c.as_slice-in-Chain.result.now c.in-Chain.is c.as_slice-in-Chain.ensures.value)) c.chain.ensures.code

pub unpaired-returns-in_ok-end-in-Arms-clause-code : goal.unpaired-returns-in_ok-end-in-Arms-clause-code
unpaired-returns-in_ok-end-in-Arms-clause-code t c =
    c.arms_of.ensures.code ∙ ap (arms_list c.in_ok-rows-in-Arms.rows.items) c.in_ok-end-in-Arms.ensures
    ∙ c.in_ok-rows-in-Arms.ensures (code_of c.deref.result.now)
    ∙ sym (ap (unpaired c.args.waiting) (arms_same c.args.code.now c.in-Arms.all c.in-Arms.last c.as_slice-in-Arms.result.now c.deref.result.now c.in-Arms.is
    c.as_slice-in-Arms.ensures.value c.deref.ensures))
