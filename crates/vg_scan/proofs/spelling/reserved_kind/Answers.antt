use Rattle.vg_syntax.specs.Spellings.{reserved_words}
use Rattle.vg_scan.proofs.spelling.reserved_kind.Goals as goal

pub returns : goal.returns
unfolding reserved_words
returns c = c.kind_spelled.ensures
