use Rattle.std.proofs.Common.{sym, ap, ◌∙◌}
use Rattle.vg_meaning.specs.Code.{Nothing}
use Rattle.vg_pack_code.specs.Lists.{packed_row}
use Rattle.vg_pack_code.specs.Plans.{done}
use Rattle.vg_pack_code.proofs.RowsOfCode.{code_of_row}
use Rattle.vg_pack_code.proofs.rows.single.Goals as goal

pub returns-in-None-clause-code : goal.returns-in-None-clause-code
returns-in-None-clause-code c = code_of_row c.new.result ∙ ap (λ z. packed_row z Nothing) c.new.ensures.items ∙ sym (ap done c.in-None.is)
