use Rattle.vg_types_tables.proofs.Rowing.{in_front_all, in_front_more, in_front_chain}
use Rattle.vg_types_tables.proofs.code_laws.rows_made.Goals as goal

pub returns-clause-more : goal.returns-clause-more
returns-clause-more c = in_front_more

pub returns-clause-row : goal.returns-clause-row
returns-clause-row c = in_front_all

pub returns-clause-chain : goal.returns-clause-chain
returns-clause-chain c = in_front_chain
