use Rattle.vg_followed.proofs.Reading.{takes_loads_table}
use Rattle.vg_followed.proofs.tables.tables_are_read.Goals as goal

pub returns : goal.returns
returns c = λ e i ok m frames. takes_loads_table i ok m frames e ⊥
