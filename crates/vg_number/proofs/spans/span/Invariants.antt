use Rattle.std.proofs.Common.{◌≡◌, get_or}
use Rattle.vg_number.specs.Counting.{summed, is_before, is_within, stand}
use Rattle.vg_number.proofs.spans.span.Given as goal

abbrev pub invariant-loop-other : goal.invariant-loop-other
invariant-loop-other l =
    (l.earlier ≡ summed (λ d. is_before (stand l.tables l.class d)) (λ d. get_or l.own d 0) l.other)
    × (l.inside ≡ summed (λ d. is_within (stand l.tables l.class d)) (λ d. get_or l.own d 0) l.other)
