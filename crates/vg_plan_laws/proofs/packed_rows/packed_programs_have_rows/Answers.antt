use Rattle.vg_plan_laws.proofs.WholeRows.{has_rows}
use Rattle.vg_plan_laws.proofs.packed_rows.packed_programs_have_rows.Goals as goal

pub returns : goal.returns
returns c p h s n cs f given ready from made k are = has_rows p h s n cs f given ready from made k are
