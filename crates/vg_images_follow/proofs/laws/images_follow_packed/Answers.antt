use Rattle.vg_images_follow.proofs.Joining.{joined}
use Rattle.vg_images_follow.proofs.laws.images_follow_packed.Goals as goal

pub returns : goal.returns
returns c = λ k lay f p new flat as' e x st b memory powered clock deepest reads interrupts t v why r is legal ends whole.
    joined k lay f p new flat as' e x st b memory powered clock deepest reads interrupts t v why r is legal ends whole
