use Rattle.vg_text_sizes.proofs.laws.packed_texts_are_small.Goals as goal

pub returns : goal.returns
returns c = λ bytes texts tree p is reads. c.procedures_within_nodes.ensures texts tree p is.named is.told is.nodes (c.arms_have_blocks.ensures bytes tree reads)
