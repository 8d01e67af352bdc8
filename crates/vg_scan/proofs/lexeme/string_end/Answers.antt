use Rattle.std.proofs.Common.{◌+◌, sym, ap, ◌∙◌, arith}
use Rattle.vg_syntax.specs.Lexemes.{string_end}
use Rattle.vg_scan.proofs.Lengths.{goes_on}
use Rattle.vg_scan.proofs.lexeme.string_end.Goals as goal

pub loop-first-preserved : goal.loop-first-preserved
loop-first-preserved c =
    let n = c.element_length-element.result in
    let behind = c.split_at.ensures.back in
    let on = goes_on c.loop-first.passed n _ c.loop-first.rest.now c.in-Some.ensures.value c.if-first-eq34.false c.element_length-element.ensures.value
    c.if-element-eq0.false in
    (ap (string_end 0 (c.loop-first.passed + n)) behind ∙ sym on ∙ c.loop-first.invariant.0, omega arith)
