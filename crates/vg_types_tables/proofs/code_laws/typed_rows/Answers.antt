use Rattle.vg_core.specs.Typing.{known}
use Rattle.vg_types_tables.proofs.Typed.{row_one_more, chain_one_more}
use Rattle.vg_types_tables.proofs.code_laws.typed_rows.Goals as goal

pub returns-clause-row : goal.returns-clause-row
returns-clause-row c = λ p ts o r looped cs code x y z h g. row_one_more (known p ts o r) looped cs code x y z h g

pub returns-clause-chain : goal.returns-clause-chain
returns-clause-chain c = λ p ts o r looped cs code x y z h g. chain_one_more (known p ts o r) looped cs code x y z h g
