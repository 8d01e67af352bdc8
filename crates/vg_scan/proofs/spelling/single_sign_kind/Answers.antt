use Rattle.vg_syntax.specs.Spellings.{single_signs}
use Rattle.vg_scan.proofs.spelling.single_sign_kind.Goals as goal

pub returns : goal.returns
unfolding single_signs
returns c = c.kind_spelled.ensures
