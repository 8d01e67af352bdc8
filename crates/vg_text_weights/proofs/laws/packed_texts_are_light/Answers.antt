use Rattle.vg_text_weights.proofs.laws.packed_texts_are_light.Goals as goal

pub returns : goal.returns
returns c = λ bytes texts tree p is reads.
    c.procedures_weigh_by_nodes.ensures texts tree p is.named is.told is.nodes (c.arms_have_blocks.ensures bytes tree reads)
    (c.arguments_are_nodes.ensures bytes tree reads)
