use Rattle.vg_live_texts.proofs.Order.{in_order}
use Rattle.vg_live_texts.proofs.numbers.numbers_in_order.Goals as goal

pub returns : goal.returns
returns c = λ n all i j r s a m d x l e f t u. in_order n all i j r s a m d x l e f t u
