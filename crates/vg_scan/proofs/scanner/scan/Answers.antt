use Rattle.std.proofs.Common.{◌≡◌, ◌+◌, length, drop, ap, sym, ◌∙◌}
use Rattle.vg_syntax.specs.declared.gap.Mode.TheVariants.{Code}
use Rattle.vg_syntax.specs.Tokens.{gap}
use Rattle.vg_scan.proofs.Reading.{ends, nothing_left}
use Rattle.vg_scan.proofs.scanner.scan.Goals as goal

pub returns-then-start-bytes : goal.returns-then-start-bytes
returns-then-start-bytes c =
    let all : c.loop-place.end + gap Code (drop c.loop-place.end c.args.bytes.now) ≡ length c.args.bytes.now =
    ap (λ r. c.loop-place.end + gap Code r) (sym c.split_at.ensures.back) ∙ ap (λ n. c.loop-place.end + n) (sym c.gap_length.ensures.value)
    ∙ c.if-start-bytes.true in
    ends _ _ _ c.loop-place.invariant.reading (nothing_left _ _ all)
