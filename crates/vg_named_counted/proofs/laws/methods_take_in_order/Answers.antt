use Rattle.vg_named_counted.proofs.Methods.{is_counted}
use Rattle.vg_named_counted.proofs.laws.methods_take_in_order.Goals as goal

pub returns : goal.returns
returns c = λ texts tree p legal is told nodes among formed m y b ey eb.
    is_counted c.numbers_are_places.ensures.numbers c.numbers_are_places.ensures.params c.locals_are_counted.ensures texts tree p is told nodes among
    m y b ey eb legal formed c.methods_are_counted.ensures
