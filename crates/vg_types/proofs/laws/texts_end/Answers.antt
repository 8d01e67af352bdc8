use Rattle.vg_types.proofs.Alike.{text_ends, text_is_not_deep}
use Rattle.vg_types.proofs.laws.texts_end.Goals as goal

pub returns-clause-ends : goal.returns-clause-ends
returns-clause-ends c = text_ends

pub returns-clause-not_deep : goal.returns-clause-not_deep
returns-clause-not_deep c = text_is_not_deep
