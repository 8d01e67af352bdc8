use Rattle.vg_text_ranges.proofs.Named.{have_ranges, declarations_only}
use Rattle.vg_text_ranges.proofs.laws.text_programs_have_ranges.Goals as goal

pub returns : goal.returns
returns c = λ n p at ds most is told legal have spelled short beside. have_ranges n p at ds most is told legal (declarations_only ds have) spelled short beside
