use Rattle.vg_static_source.proofs.Tests.{one_static, one_tables}
use Rattle.vg_static_source.proofs.laws.sums_are_one.Goals as goal

pub returns-clause-static_bytes : goal.returns-clause-static_bytes
returns-clause-static_bytes c = λ text h m n a b. one_static text h m n a b

pub returns-clause-table_bytes : goal.returns-clause-table_bytes
returns-clause-table_bytes c = λ text h m n a b. one_tables text h m n a b
