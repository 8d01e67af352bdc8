use Rattle.vg_first_text.proofs.First.{one_list}
use Rattle.vg_first_text.proofs.first_text.one_list_of_writes.Goals as goal

pub returns : goal.returns
returns c = one_list
