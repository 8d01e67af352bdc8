use Rattle.vg_named_counted.proofs.Methods.{has_size}
use Rattle.vg_named_counted.proofs.laws.methods_have_sizes.Goals as goal

pub returns : goal.returns
returns c = λ texts tree p is told nodes among m y b ey eb.
    has_size c.numbers_are_places.ensures.numbers c.numbers_are_places.ensures.params c.locals_are_counted.ensures texts tree p is told nodes among
    m y b ey eb
