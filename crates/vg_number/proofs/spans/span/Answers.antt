use Rattle.std.proofs.Common.{rules, ◌≡◌, true}
use Rattle.vg_number.specs.Counting.{is_before, is_within, stand}
use Rattle.vg_number.proofs.Sums.{sum_fits}
use Rattle.vg_number.proofs.spans.span.Goals as goal

pub overflow_add-earlier : goal.overflow_add-earlier
overflow_add-earlier c =
    let h : is_before (stand c.args.tables.now c.args.class c.loop-other.other) ≡ true = search rules in
    let f = sum_fits c.args.own.now c.requires.small (λ d. is_before (stand c.args.tables.now c.args.class d)) c.loop-other.other c.loop-other.earlier
    c.loop-other-test.true h c.loop-other.invariant.0 in
    search (rules, f)

pub overflow_add-inside : goal.overflow_add-inside
overflow_add-inside c =
    let h : is_within (stand c.args.tables.now c.args.class c.loop-other.other) ≡ true = search rules in
    let f = sum_fits c.args.own.now c.requires.small (λ d. is_within (stand c.args.tables.now c.args.class d)) c.loop-other.other c.loop-other.inside
    c.loop-other-test.true h c.loop-other.invariant.1 in
    search (rules, f)
