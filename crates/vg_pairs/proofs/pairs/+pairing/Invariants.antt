use Rattle.std.proofs.Common.{◌≡◌, drop}
use Rattle.vg_meaning.specs.Code.{Code}
use Rattle.vg_core.specs.HeldProgram.{code_row, code_chain}
use Rattle.vg_core.specs.declared.step.Step.{Step}
use Rattle.vg_pairs.specs.Pairs.{unpaired}
use Rattle.vg_pairs.specs.Lists.{arms_list, codes_list}
use Rattle.vg_pairs.proofs.pairs.+pairing.Given as goal

-- what is done so far, and then the rest, behind what waits
abbrev pub invariant-row-loop-code : goal.invariant-row-loop-code
invariant-row-loop-code l =
    codes_list l.rows.items (unpaired l.left (code_row (drop l.code-index l.codes))) ≡ unpaired l.fn.waiting (code_row l.codes)

abbrev pub invariant-chain-loop-index : goal.invariant-chain-loop-index
invariant-chain-loop-index l =
    codes_list l.rows.items (unpaired l.left (code_chain (drop l.index l.codes))) ≡ unpaired l.fn.waiting (code_chain l.codes)

abbrev pub invariant-arms-loop-code : goal.invariant-arms-loop-code
invariant-arms-loop-code l =
    (rest : Code Step) → arms_list l.rows.items (unpaired l.left (arms_list (drop l.code-index l.codes) rest)) ≡ unpaired l.fn.waiting (arms_list l.codes rest)
