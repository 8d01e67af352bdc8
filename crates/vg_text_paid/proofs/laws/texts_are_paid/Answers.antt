use Rattle.vg_packed_widths.proofs.Procedures.{have_widths}
use Rattle.vg_text_linear.proofs.Widths.{all_have_widths, text_takes_bytes}
use Rattle.vg_text_paid.proofs.Whole.{text_paid}
use Rattle.vg_text_paid.proofs.laws.texts_are_paid.Goals as goal

pub returns : goal.returns
returns c = λ bytes texts tree p is reads legal short locals small h s n cs given ready f from typed l plain words bound few.
    let ranges = c.programs_of_texts_have_ranges.ensures bytes texts tree p is reads legal short in
    let take = text_takes_bytes bytes texts tree p is reads legal ranges locals in
    text_paid c.plain_programs_are_paid.ensures texts tree p is (c.packed_texts_are_light.ensures bytes texts tree p is reads)
    (c.methods_of_texts_take_in_order.ensures bytes texts tree p is reads legal) ranges.fields
    (record { many = c.methods_of_texts_cost.ensures.many texts tree p is; each = c.methods_of_texts_cost.ensures.each bytes texts tree p is reads })
    (c.costs_by_size.ensures tree) small h s n cs given ready f from typed
    (all_have_widths f.procedures (have_widths p n from.plan f.procedures take from.procedures))
    (c.packed_methods_call_methods.ensures p h s n cs f given ready from) l plain words bound few
