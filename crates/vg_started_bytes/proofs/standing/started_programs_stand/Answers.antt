use Rattle.vg_packed.specs.Programs.{program_of}
use Rattle.vg_table_bytes.specs.Bytes.{columns_bytes, ram_widths, table_bytes_of}
use Rattle.vg_started_bytes.specs.Started.{bytes_in, ram_places}
use Rattle.vg_started_bytes.proofs.Ends as ends
use Rattle.vg_started_bytes.proofs.Stands.{columns_stand, table_stands, columns_known, tables_known}
use Rattle.vg_started_bytes.proofs.standing.started_programs_stand.Goals as goal

pub returns-clause-ram : goal.returns-clause-ram
returns-clause-ram c = λ k p n κ cs f placed rows.
    columns_stand (bytes_in k (columns_bytes (ram_widths cs.list) 0 f.columns)) (ram_places cs.list) (program_of k f).ram
    (ends.columns_stand k p n κ cs f placed rows) (columns_known k cs.list f rows.lengths)

pub returns-clause-flash : goal.returns-clause-flash
returns-clause-flash c = λ k p n κ cs f placed rows t address arrays e1 e2.
    table_stands (bytes_in k (table_bytes_of (ram_widths cs.list) f.columns f.tables)) address arrays
    (ends.tables_stand k p n κ cs f placed rows t address arrays e1 e2)

pub returns-clause-known : goal.returns-clause-known
returns-clause-known c = λ k list f rows t e. tables_known list f.tables rows.rows t e
