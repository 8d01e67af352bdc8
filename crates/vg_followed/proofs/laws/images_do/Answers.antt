use Rattle.vg_followed.proofs.Running.{ends, goes_on}
use Rattle.vg_followed.proofs.laws.images_do.Goals as goal

pub returns-clause-ends : goal.returns-clause-ends
returns-clause-ends c = λ e x p st b n memory reads interrupts powered r is w why h. ends e x p st b n memory reads interrupts powered r is w why h

pub returns-clause-goes_on : goal.returns-clause-goes_on
returns-clause-goes_on c = λ e x p st b n memory reads interrupts powered r is w h. goes_on e x p st b n memory reads interrupts powered r is w h
