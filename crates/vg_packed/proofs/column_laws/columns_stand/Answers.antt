use Rattle.vg_packed.proofs.Standing.{behind, within}
use Rattle.vg_packed.proofs.column_laws.columns_stand.Goals as goal

pub returns-clause-behind : goal.returns-clause-behind
returns-clause-behind c = λ ram flash cs i j a b lt ea eb h. behind ram flash cs i j a b lt ea eb h

pub returns-clause-within : goal.returns-clause-within
returns-clause-within c = λ ram flash cs i a e. within ram flash cs i a e
