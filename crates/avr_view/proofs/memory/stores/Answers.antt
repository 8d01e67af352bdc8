use Rattle.avr_view.proofs.MemorySteps.{goes_std, goes_sts, goes_stx, goes_stx_after, goes_stx_before}
use Rattle.avr_view.proofs.memory.stores.Goals as goal

pub returns-clause-std : goal.returns-clause-std
returns-clause-std c = λ e. goes_std e ⊥

pub returns-clause-sts : goal.returns-clause-sts
returns-clause-sts c = λ e. goes_sts e ⊥

pub returns-clause-stx : goal.returns-clause-stx
returns-clause-stx c = λ e. goes_stx e ⊥

pub returns-clause-after : goal.returns-clause-after
returns-clause-after c = λ e. goes_stx_after e ⊥

pub returns-clause-before : goal.returns-clause-before
returns-clause-before c = λ e. goes_stx_before e ⊥
