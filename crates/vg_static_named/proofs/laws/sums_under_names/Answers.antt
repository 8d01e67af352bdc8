use Rattle.vg_static_named.proofs.Sums.{static_named, tables_named}
use Rattle.vg_static_named.proofs.laws.sums_under_names.Goals as goal

pub returns-clause-static_bytes : goal.returns-clause-static_bytes
returns-clause-static_bytes c =
    λ texts text p is good tell written h typed s set. static_named texts p tell good text written is h typed.0 typed.1 s set

pub returns-clause-table_bytes : goal.returns-clause-table_bytes
returns-clause-table_bytes c =
    λ texts text p is good tell written h typed s set. tables_named texts p tell good text written is h typed.0 typed.1 s set
