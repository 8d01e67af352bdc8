use Rattle.vg_text_chip.proofs.Named.{names_chip}
use Rattle.vg_text_chip.proofs.laws.legal_texts_name_the_chip.Goals as goal

pub returns : goal.returns
returns c = λ bytes tree n p reads legal is told called. names_chip n p bytes tree reads legal is told called
