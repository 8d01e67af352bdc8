use Rattle.vg_peaks.proofs.Joining.{within_peak}
use Rattle.vg_peaks.proofs.laws.images_within_peak.Goals as goal

pub returns : goal.returns
returns c = λ k lay f p new flat as' e x st b extra cs has memory powered clock deepest reads interrupts t v why r is legal ends whole.
    within_peak k lay f p new flat as' e x st b extra cs has memory powered clock deepest reads interrupts t v why r is legal ends whole
