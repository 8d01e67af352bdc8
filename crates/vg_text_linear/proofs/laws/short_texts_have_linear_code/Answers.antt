use Rattle.vg_packed_widths.proofs.Procedures.{have_widths}
use Rattle.vg_text_linear.proofs.Whole.{more_words}
use Rattle.vg_text_linear.proofs.Widths.{all_have_widths, text_takes_bytes}
use Rattle.vg_text_linear.proofs.laws.short_texts_have_linear_code.Goals as goal

pub returns : goal.returns
returns c = λ bytes texts tree p is reads legal short locals h s n cs given ready f from typed why cause words bound.
    let ranges = c.programs_of_texts_have_ranges.ensures bytes texts tree p is reads legal short in
    let take = text_takes_bytes bytes texts tree p is reads legal ranges locals in
    more_words texts tree p is legal (c.packed_texts_are_light.ensures bytes texts tree p is reads)
    (c.methods_of_texts_take_in_order.ensures bytes texts tree p is reads legal) ranges.fields
    h s n cs given ready f from typed (all_have_widths f.procedures (have_widths p n from.plan f.procedures take from.procedures)) why cause words bound
