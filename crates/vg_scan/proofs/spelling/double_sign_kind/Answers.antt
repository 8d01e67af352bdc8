use Rattle.vg_syntax.specs.Spellings.{double_signs}
use Rattle.vg_scan.proofs.spelling.double_sign_kind.Goals as goal

pub returns : goal.returns
unfolding double_signs
returns c = c.kind_spelled.ensures
