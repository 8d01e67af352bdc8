use Rattle.vg_templates.proofs.Storing.{takes_copies, takes_pushes_value, takes_writes_device}
use Rattle.vg_templates.proofs.values.values_move.Goals as goal

pub returns-clause-copy : goal.returns-clause-copy
returns-clause-copy c = λ e i ok m frames. takes_copies i ok m frames e ⊥

pub returns-clause-push : goal.returns-clause-push
returns-clause-push c = λ e i ok m frames live behind s w a x v ready kept small got k.
    takes_pushes_value i ok m frames e _ live behind s w a x v ready kept small got (λ full. full) k

pub returns-clause-write : goal.returns-clause-write
returns-clause-write c = λ e i ok m frames. takes_writes_device i ok m frames e ⊥
