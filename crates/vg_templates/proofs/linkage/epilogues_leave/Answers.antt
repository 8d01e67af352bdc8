use Rattle.vg_templates.proofs.Linking.{goes_epilogue}
use Rattle.vg_templates.proofs.linkage.epilogues_leave.Goals as goal

pub returns : goal.returns
returns c = λ e. goes_epilogue e ⊥
