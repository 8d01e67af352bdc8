use Rattle.vg_grammar.proofs.Ends.{no_text}
use Rattle.vg_grammar.proofs.laws.no_text.Goals as goal

pub returns : goal.returns
returns c = no_text
