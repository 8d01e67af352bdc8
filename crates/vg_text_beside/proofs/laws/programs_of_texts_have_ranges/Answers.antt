use Rattle.vg_text_beside.proofs.Beside.{few_arguments, ranges}
use Rattle.vg_text_beside.proofs.laws.programs_of_texts_have_ranges.Goals as goal

pub returns : goal.returns
returns c = λ bytes texts tree p is reads legal short. ranges texts tree p is legal bytes reads short (few_arguments texts tree p is legal)
