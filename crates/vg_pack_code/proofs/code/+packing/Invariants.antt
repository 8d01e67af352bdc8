use Rattle.std.proofs.Common.{◌≡◌, drop}
use Rattle.vg_meaning.specs.Code.{Code, replaced}
use Rattle.vg_core.specs.HeldProgram.{code_row, code_chain}
use Rattle.vg_core.specs.declared.step.Step.{Step}
use Rattle.vg_pack_code.specs.Lists.{arms_list, packed_arms, packed_row}
use Rattle.vg_pack_code.specs.Plans.{moved}
use Rattle.vg_pack_code.proofs.code.+packing.Given as goal

-- what is packed so far, and then the rest
abbrev pub invariant-row-loop-code : goal.invariant-row-loop-code
invariant-row-loop-code l =
    packed_row l.rows.items (replaced (moved l.tables l.numbers l.plan) (code_row (drop l.code-index l.codes)))
    ≡ replaced (moved l.tables l.numbers l.plan) (code_row l.codes)

abbrev pub invariant-chain-loop-index : goal.invariant-chain-loop-index
invariant-chain-loop-index l =
    packed_arms l.rows.items (replaced (moved l.tables l.numbers l.plan) (code_chain (drop l.index l.codes)))
    ≡ replaced (moved l.tables l.numbers l.plan) (code_chain l.codes)

abbrev pub invariant-arms-loop-code : goal.invariant-arms-loop-code
invariant-arms-loop-code l =
    (rest : Code Step) → packed_arms l.rows.items (replaced (moved l.tables l.numbers l.plan) (arms_list (drop l.code-index l.codes) rest))
    ≡ replaced (moved l.tables l.numbers l.plan) (arms_list l.codes rest)
