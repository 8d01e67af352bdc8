use Rattle.vg_packed_small.proofs.Procedures.{few_procedures, small, main_there, entry_params}
use Rattle.vg_packed_small.proofs.laws.packed_numbers_are_small.Goals as goal

pub returns-clause-dispatches : goal.returns-clause-dispatches
returns-clause-dispatches c = λ p h s n c f given from. small p h s n c f from given

pub returns-clause-few : goal.returns-clause-few
returns-clause-few c = λ p h s n c f from. few_procedures p h s n c f from

pub returns-clause-main : goal.returns-clause-main
returns-clause-main c = λ p h s n c f given ready from. main_there p h s n c f from given ready

pub returns-clause-entries : goal.returns-clause-entries
returns-clause-entries c = λ p h s n c f given ready from m q entry e. entry_params p h s n c f from given ready m q entry e
