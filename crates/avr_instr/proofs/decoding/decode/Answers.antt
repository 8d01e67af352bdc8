use Rattle.std.proofs.Common.{◌≡◌, Option, Some, sym, ◌∙◌, subst, arith}
use Rattle.std.specs.Prelude.{IfSome, IsNone}
use Rattle.avr_instr.specs.declared.instr.Instr.{Instr}
use Rattle.avr_instr.specs.Spelled.{Spelled}
use Rattle.avr_instr.proofs.BothWays.{at_9, only_9, decoded_each}
use Rattle.avr_instr.proofs.decoding.decode.Goals as goal

not_none : (o : Option Instr) (i : Instr) → o ≡ Some i → IsNone o → ⊥
not_none o i e none = grind arith

pub returns-in-36864-to-40959-clause-spelled : goal.returns-in-36864-to-40959-clause-spelled
returns-in-36864-to-40959-clause-spelled c =
    subst (λ o. IfSome o (Spelled c.args.word c.args.next)) (sym c.in_nibble_9.ensures) (only_9 c.args.word c.args.next (omega arith) (omega arith))

pub returns-in-36864-to-40959-clause-none : goal.returns-in-36864-to-40959-clause-none
returns-in-36864-to-40959-clause-none c = λ none i s.
    not_none c.in_nibble_9.result i (c.in_nibble_9.ensures ∙ sym (at_9 c.args.word c.args.next (omega arith) (omega arith))
    ∙ decoded_each c.args.word c.args.next i s) none
