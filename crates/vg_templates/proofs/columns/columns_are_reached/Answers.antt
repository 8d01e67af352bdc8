use Rattle.vg_templates.proofs.Pointing.{takes_loads_column, takes_stores_column}
use Rattle.vg_templates.proofs.columns.columns_are_reached.Goals as goal

pub returns-clause-load : goal.returns-clause-load
returns-clause-load c = λ e i ok m frames. takes_loads_column i ok m frames e ⊥

pub returns-clause-store : goal.returns-clause-store
returns-clause-store c = λ e i ok m frames. takes_stores_column i ok m frames e ⊥
