use Rattle.avr_view.proofs.Dividing.{stack_top, stack_lowered, stack_raised}
use Rattle.avr_view.proofs.composing.sram_is_divided.Goals as goal

pub returns-clause-top : goal.returns-clause-top
returns-clause-top c = λ static stack sram sp p. stack_top static stack sram sp p

pub returns-clause-lowered : goal.returns-clause-lowered
returns-clause-lowered c = λ static stack sram sp n p h. stack_lowered static stack sram sp p n h

pub returns-clause-raised : goal.returns-clause-raised
returns-clause-raised c = stack_raised
