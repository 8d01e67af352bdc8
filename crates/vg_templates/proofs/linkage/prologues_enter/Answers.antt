use Rattle.vg_templates.proofs.Linking.{goes_saves}
use Rattle.vg_templates.proofs.linkage.prologues_enter.Goals as goal

pub returns : goal.returns
returns c = λ e l pc v s none small stand room a. goes_saves e _ l pc v s none small stand room (λ full. full) a
