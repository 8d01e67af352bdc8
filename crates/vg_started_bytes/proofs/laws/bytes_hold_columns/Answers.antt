use Rattle.vg_started_bytes.proofs.Ends.{columns_stand, copy_length, tables_stand}
use Rattle.vg_started_bytes.proofs.laws.bytes_hold_columns.Goals as goal

pub returns-clause-columns : goal.returns-clause-columns
returns-clause-columns c = λ k p n κ cs f placed rows. columns_stand k p n κ cs f placed rows

pub returns-clause-copy : goal.returns-clause-copy
returns-clause-copy c = λ k p n κ cs f placed rows. copy_length k p n κ cs f placed rows

pub returns-clause-tables : goal.returns-clause-tables
returns-clause-tables c = λ k p n κ cs f placed rows t address arrays e1 e2. tables_stand k p n κ cs f placed rows t address arrays e1 e2
