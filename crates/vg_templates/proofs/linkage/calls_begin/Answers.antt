use Rattle.vg_templates.proofs.Calling.{goes_begin}
use Rattle.vg_templates.proofs.linkage.calls_begin.Goals as goal

pub returns : goal.returns
returns c = λ e i ok q pc entry f frames args wait own under v s call room back code low cut points waits fits more a.
    goes_begin e _ i ok q pc entry f frames args wait own under v s call room back code low cut points waits fits more (λ full. full) a
