use Rattle.vg_packed_entries.proofs.Components.{component_spares}
use Rattle.vg_packed_entries.proofs.laws.components_name_no_receiver.Goals as goal

pub returns : goal.returns
returns c = component_spares
