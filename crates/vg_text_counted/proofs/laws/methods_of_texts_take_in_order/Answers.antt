use Rattle.vg_text_counted.proofs.laws.methods_of_texts_take_in_order.Goals as goal

pub returns : goal.returns
returns c = λ bytes texts tree p is reads legal.
    c.methods_take_in_order.ensures texts tree p legal is.named is.told is.nodes (c.locals_among_statements.ensures bytes tree reads)
    (c.texts_are_formed.ensures bytes tree reads)
