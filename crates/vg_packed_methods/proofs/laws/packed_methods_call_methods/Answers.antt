use Rattle.vg_packed_methods.proofs.Procedures.{all_call_before}
use Rattle.vg_packed_methods.proofs.laws.packed_methods_call_methods.Goals as goal

pub returns : goal.returns
returns c = all_call_before
