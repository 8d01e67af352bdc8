use Rattle.avr_view.proofs.MemorySteps.{goes_ldd, goes_lds, goes_ldx, goes_ldx_after, goes_ldx_before}
use Rattle.avr_view.proofs.memory.loads.Goals as goal

pub returns-clause-ldd : goal.returns-clause-ldd
returns-clause-ldd c = λ e. goes_ldd e ⊥

pub returns-clause-lds : goal.returns-clause-lds
returns-clause-lds c = λ e. goes_lds e ⊥

pub returns-clause-ldx : goal.returns-clause-ldx
returns-clause-ldx c = λ e. goes_ldx e ⊥

pub returns-clause-after : goal.returns-clause-after
returns-clause-after c = λ e. goes_ldx_after e ⊥

pub returns-clause-before : goal.returns-clause-before
returns-clause-before c = λ e. goes_ldx_before e ⊥
