use Rattle.std.proofs.Common.{refl}
use Rattle.vg_column_examples.proofs.hierarchy.a_hierarchy_is_placed.Goals as goal

pub returns-clause-numbers : goal.returns-clause-numbers
returns-clause-numbers c = refl

pub returns-clause-firsts : goal.returns-clause-firsts
returns-clause-firsts c = refl

pub returns-clause-counts : goal.returns-clause-counts
returns-clause-counts c = refl

pub returns-clause-columns : goal.returns-clause-columns
returns-clause-columns c = refl

pub returns-clause-static_bytes : goal.returns-clause-static_bytes
returns-clause-static_bytes c = refl

pub returns-clause-table_bytes : goal.returns-clause-table_bytes
returns-clause-table_bytes c = refl
