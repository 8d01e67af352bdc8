use Rattle.vg_block_arms.proofs.Texts.{reads_so}
use Rattle.vg_block_arms.proofs.laws.arms_have_blocks.Goals as goal

pub returns : goal.returns
returns c = reads_so
