use Rattle.std.proofs.Common.{◌+◌, ◌++◌, length, drop, refl, sym, ap, ◌∙◌, subst, arith}
use Rattle.vg_flatten_shapes.specs.Blocks.{loop_code}
use Rattle.vg_firm.specs.Held.{code_of, list_of}
use Rattle.vg_flatten_control.proofs.Along.{Along, along_on, left_of, part_weighs}
use Rattle.vg_flatten_shapes.specs.Shapes.{empty}
use Rattle.vg_meaning.specs.Code.{Nothing, If}
use Rattle.vg_flatten_shapes.specs.Made.{tested}
use Rattle.vg_flatten_control.specs.Flat.{repeated_body}
use Rattle.vg_flatten_control.specs.Weights.{arms_list}
use Rattle.vg_flatten_control.proofs.Failing.{
  lays_err,
  first_fails,
  place_lays,
  rest_lays,
  early_loop,
  body_fails,
  late_loop,
  next_fails,
  code_fails,
  from_empty,
}
use Rattle.vg_flatten_control.proofs.LoopPieces.{loop_laid}
use Rattle.vg_flatten_shapes.specs.Laying.{Lays, IsPiece}
use Rattle.vg_flatten_control.proofs.Rows.{row_same, row_weighs, arms_same, arms_weigh}
use Rattle.vg_flatten_pushed.specs.Pushed.{with_newest, level, raised}
use Rattle.vg_flatten_pushed.specs.Stacked.{levelled, stacked}
use Rattle.vg_flatten_pushed.proofs.Parting.{behind_laid}
use Rattle.vg_flatten_stacked.proofs.Ways.{either_way, raised_to, choice, place_way, rest_way, joined_ways}
use Rattle.vg_flatten_stacked.proofs.stack.+stacked.Goals as goal

pub stacked-row-requires : goal.stacked-row-requires
stacked-row-requires t c =
    let e = row_weighs c.args.code.now c.in-Row.codes c.as_slice.result.now c.in-Row.is c.as_slice.ensures.value in (omega (arith, e), c.requires)

pub stacked-arms-requires : goal.stacked-arms-requires
stacked-arms-requires t c =
    let e = arms_weigh c.args.code.now c.in-Arms.all c.in-Arms.last c.as_slice-in-Arms.result.now c.deref-in-Arms.result.now c.in-Arms.is
    c.as_slice-in-Arms.ensures.value c.deref-in-Arms.ensures in
    (omega (arith, e), c.requires)

pub stacked-returns-in-Row : goal.stacked-returns-in-Row
stacked-returns-in-Row t c =
    subst (λ z. Lays c.row.result c.args.at (stacked c.args.layout.now c.args.room c.args.most z c.args.homes))
    (sym (row_same c.args.code.now c.in-Row.codes c.as_slice.result.now c.in-Row.is c.as_slice.ensures.value)) c.row.ensures

pub stacked-returns-in-Arms : goal.stacked-returns-in-Arms
stacked-returns-in-Arms t c =
    subst (λ z. Lays c.arms.result c.args.at (stacked c.args.layout.now c.args.room c.args.most z c.args.homes))
    (sym (arms_same c.args.code.now c.in-Arms.all c.in-Arms.last c.as_slice-in-Arms.result.now c.deref-in-Arms.result.now c.in-Arms.is
    c.as_slice-in-Arms.ensures.value c.deref-in-Arms.ensures)) c.arms.ensures

pub repeated_parts-returns : goal.repeated_parts-returns
repeated_parts-returns t c =
    λ b e. let e1 = c.in_ok-test_at.ensures in
    let e2 = c.in_ok-body_at.ensures in
    let e3 = c.in_ok-next_at.ensures in
    let n = c.len.ensures in
    let n2 = c.len-2.ensures in
    loop_laid c.args.at b c.args.truth c.args.before e (stacked c.args.layout.now c.args.room c.args.most (code_of c.args.body.now) empty)
    (stacked c.args.layout.now c.args.room c.args.most (code_of c.args.next.now) empty)
    c.in_ok-body.body c.in_ok-next.next c.in_ok-code.code c.new-3.result c.in_ok-body_at.body_at c.in_ok-next_at.next_at
    c.is_empty.result c.is_empty-2.result (omega (arith, e1, e2, n)) (omega (arith, e3, n2)) (subst
    (λ z. IsPiece c.in_ok-body.body c.in_ok-body_at.body_at (stacked c.args.layout.now c.args.room c.args.most
    (code_of c.args.body.now) z)) c.new.ensures c.in_ok-body.ensures) c.is_empty.ensures
    c.if-not-is_empty.false (subst (λ z. IsPiece c.in_ok-next.next c.in_ok-next_at.next_at (stacked c.args.layout.now c.args.room c.args.most
    (code_of c.args.next.now) z)) c.new-2.ensures c.in_ok-next.ensures) c.is_empty-2.ensures c.if-not-is_empty-2.false
    (c.in_ok-code.ensures ∙ ap (λ z. loop_code c.args.truth c.args.at c.args.before z c.as_slice-2.result.now) c.as_slice.ensures
    ∙ ap (λ z. loop_code c.args.truth c.args.at c.args.before c.in_ok-body.body.code z) c.as_slice-2.ensures) c.new-3.ensures

pub row-stacked-requires : goal.row-stacked-requires
row-stacked-requires t c =
    let e = part_weighs c.args.codes.now c.parts.part-index c.part-item.result c.parts-test.true (sym c.part-item.is) in (omega (arith, e), c.requires)

pub row-parts-preserved : goal.row-parts-preserved
row-parts-preserved t c =
    along_on c.args.at c.in_ok-part_at.part_at (stacked c.args.layout.now c.args.room c.args.most (list_of c.args.codes.now) c.args.homes)
    (stacked c.args.layout.now c.args.room c.args.most (code_of c.part-item.result) c.parts.homes) (stacked c.args.layout.now c.args.room c.args.most
    (list_of (drop (c.parts.part-index + 1) c.args.codes.now)))
    c.parts.code c.in_ok-code.code c.in_ok-piece.piece
    (subst (λ z. Along c.args.at (stacked c.args.layout.now c.args.room c.args.most (list_of c.args.codes.now) c.args.homes)
    (stacked c.args.layout.now c.args.room c.args.most (list_of z) c.parts.homes) c.parts.code)
    (left_of c.args.codes.now c.parts.part-index c.part-item.result c.parts-test.true (sym c.part-item.is)) c.parts.invariant)
    (c.in_ok-part_at.ensures ∙ ap (λ z. c.args.at + z) c.len.ensures) c.in_ok-piece.ensures
    (c.in_ok-code.ensures ∙ ap (λ z. c.parts.code ++ z) c.as_slice.ensures)

pub repeated_parts-returns-in_err-test_at : goal.repeated_parts-returns-in_err-test_at
repeated_parts-returns-in_err-test_at t c =
    λ b e. lays_err c.from_residual.result _ c.args.at (repeated_body b c.args.truth
    (stacked c.args.layout.now c.args.room c.args.most (code_of c.args.body.now) empty)
    (stacked c.args.layout.now c.args.room c.args.most (code_of c.args.next.now) empty)) c.from_residual.ensures.1
    (early_loop c.args.at b c.args.truth c.args.before e (stacked c.args.layout.now c.args.room c.args.most (code_of c.args.body.now) empty)
    (stacked c.args.layout.now c.args.room c.args.most (code_of c.args.next.now) empty) _ (c.args.at + length c.args.before + 1) refl
    (c.in_err-test_at.ensures.0, let far = c.in_err-test_at.ensures.1 in let n = c.len.ensures in omega (arith, far, n)))

pub repeated_parts-returns-in_err-body_at : goal.repeated_parts-returns-in_err-body_at
repeated_parts-returns-in_err-body_at t c =
    λ b e. lays_err c.from_residual-in_err-body_at.result _ c.args.at
    (repeated_body b c.args.truth (stacked c.args.layout.now c.args.room c.args.most (code_of c.args.body.now) empty)
    (stacked c.args.layout.now c.args.room c.args.most (code_of c.args.next.now) empty)) c.from_residual-in_err-body_at.ensures.1
    (early_loop c.args.at b c.args.truth c.args.before e (stacked c.args.layout.now c.args.room c.args.most (code_of c.args.body.now) empty)
    (stacked c.args.layout.now c.args.room c.args.most (code_of c.args.next.now) empty) _ (c.args.at + length c.args.before + 1) refl (
      c.in_err-body_at.ensures.0,
      let far = c.in_err-body_at.ensures.1 in let e1 = c.in_ok-test_at.ensures in let n = c.len.ensures in omega (arith, far, e1, n),
    ))

pub repeated_parts-returns-in_err-body : goal.repeated_parts-returns-in_err-body
repeated_parts-returns-in_err-body t c =
    λ b e. lays_err c.from_residual-in_err-body.result _ c.args.at
    (repeated_body b c.args.truth (stacked c.args.layout.now c.args.room c.args.most (code_of c.args.body.now) empty)
    (stacked c.args.layout.now c.args.room c.args.most (code_of c.args.next.now) empty)) c.from_residual-in_err-body.ensures.1
    (body_fails c.args.at b c.args.truth c.args.before e (stacked c.args.layout.now c.args.room c.args.most (code_of c.args.body.now) empty)
    (stacked c.args.layout.now c.args.room c.args.most (code_of c.args.next.now) empty) _ c.in_ok-body_at.body_at
    (let e1 = c.in_ok-test_at.ensures in let e2 = c.in_ok-body_at.ensures in let n = c.len.ensures in omega (arith, e1, e2, n))
    (from_empty _ c.in_ok-body_at.body_at (stacked c.args.layout.now c.args.room c.args.most (code_of c.args.body.now)) c.new.result c.new.ensures
    c.in_err-body.ensures))

pub repeated_parts-returns-in_err-next_at : goal.repeated_parts-returns-in_err-next_at
repeated_parts-returns-in_err-next_at t c =
    λ b e. lays_err c.from_residual-in_err-next_at.result _ c.args.at
    (repeated_body b c.args.truth (stacked c.args.layout.now c.args.room c.args.most (code_of c.args.body.now) empty)
    (stacked c.args.layout.now c.args.room c.args.most (code_of c.args.next.now) empty)) c.from_residual-in_err-next_at.ensures.1
    (late_loop c.args.at b c.args.truth c.args.before e (stacked c.args.layout.now c.args.room c.args.most (code_of c.args.body.now) empty)
    (stacked c.args.layout.now c.args.room c.args.most (code_of c.args.next.now) empty) _ c.in_ok-body_at.body_at (c.in_ok-body_at.body_at + c.len-2.result)
    c.in_ok-body.body (let e1 = c.in_ok-test_at.ensures in let e2 = c.in_ok-body_at.ensures in let n = c.len.ensures in omega (arith, e1, e2, n))
    (subst (λ z. IsPiece c.in_ok-body.body c.in_ok-body_at.body_at
    (stacked c.args.layout.now c.args.room c.args.most (code_of c.args.body.now) z)) c.new.ensures c.in_ok-body.ensures)
    (ap (λ n. c.in_ok-body_at.body_at + n) c.len-2.ensures) c.in_err-next_at.ensures)

pub repeated_parts-returns-in_err-next : goal.repeated_parts-returns-in_err-next
repeated_parts-returns-in_err-next t c =
    λ b e. lays_err c.from_residual-in_err-next.result _ c.args.at
    (repeated_body b c.args.truth (stacked c.args.layout.now c.args.room c.args.most (code_of c.args.body.now) empty)
    (stacked c.args.layout.now c.args.room c.args.most (code_of c.args.next.now) empty)) c.from_residual-in_err-next.ensures.1
    (next_fails c.args.at b c.args.truth c.args.before e (stacked c.args.layout.now c.args.room c.args.most (code_of c.args.body.now) empty)
    (stacked c.args.layout.now c.args.room c.args.most (code_of c.args.next.now) empty) _ c.in_ok-body_at.body_at c.in_ok-next_at.next_at c.in_ok-body.body
    c.is_empty.result (let e1 = c.in_ok-test_at.ensures in let e2 = c.in_ok-body_at.ensures in let n = c.len.ensures in omega (arith, e1, e2, n))
    (subst (λ z. IsPiece c.in_ok-body.body c.in_ok-body_at.body_at
    (stacked c.args.layout.now c.args.room c.args.most (code_of c.args.body.now) z)) c.new.ensures c.in_ok-body.ensures)
    (let e3 = c.in_ok-next_at.ensures in let n2 = c.len-2.ensures in omega (arith, e3, n2)) c.is_empty.ensures c.if-not-is_empty.false
    (from_empty _ c.in_ok-next_at.next_at (stacked c.args.layout.now c.args.room c.args.most (code_of c.args.next.now)) c.new-2.result c.new-2.ensures
    c.in_err-next.ensures))

pub repeated_parts-returns-in_err-code : goal.repeated_parts-returns-in_err-code
repeated_parts-returns-in_err-code t c =
    λ b e. lays_err c.from_residual-in_err-code.result _ c.args.at
    (repeated_body b c.args.truth (stacked c.args.layout.now c.args.room c.args.most (code_of c.args.body.now) empty)
    (stacked c.args.layout.now c.args.room c.args.most (code_of c.args.next.now) empty)) c.from_residual-in_err-code.ensures.1
    (code_fails c.args.at b c.args.truth c.args.before e (stacked c.args.layout.now c.args.room c.args.most (code_of c.args.body.now) empty)
    (stacked c.args.layout.now c.args.room c.args.most (code_of c.args.next.now) empty) _ c.in_ok-body_at.body_at c.in_ok-next_at.next_at c.in_ok-body.body
    c.in_ok-next.next c.as_slice.result.now c.as_slice-2.result.now
    (subst (λ z. IsPiece c.in_ok-body.body c.in_ok-body_at.body_at
    (stacked c.args.layout.now c.args.room c.args.most (code_of c.args.body.now) z)) c.new.ensures c.in_ok-body.ensures)
    (subst (λ z. IsPiece c.in_ok-next.next c.in_ok-next_at.next_at
    (stacked c.args.layout.now c.args.room c.args.most (code_of c.args.next.now) z)) c.new-2.ensures c.in_ok-next.ensures)
    c.as_slice.ensures c.as_slice-2.ensures c.in_err-code.ensures)

pub arm-returns-in_err-rest_at : goal.arm-returns-in_err-rest_at
arm-returns-in_err-rest_at t c =
    place_lays c.args.at (stacked c.args.layout.now c.args.room c.args.most (code_of c.args.condition.now) c.args.homes)
    (stacked c.args.layout.now c.args.room c.args.most (If (code_of c.args.block.now) Nothing)) c.in_ok-first.first c.from_residual-in_err-rest_at.result _
    c.len.result
    c.from_residual-in_err-rest_at.ensures.1 c.in_ok-first.ensures c.len.ensures c.in_err-rest_at.ensures

pub arm-returns-in_err-rest : goal.arm-returns-in_err-rest
arm-returns-in_err-rest t c =
    rest_lays c.args.at c.in_ok-rest_at.rest_at (stacked c.args.layout.now c.args.room c.args.most (code_of c.args.condition.now) c.args.homes)
    (stacked c.args.layout.now c.args.room c.args.most (If (code_of c.args.block.now) Nothing)) c.in_ok-first.first c.from_residual-in_err-rest.result _
    c.len.result
    c.from_residual-in_err-rest.ensures.1 c.in_ok-first.ensures c.len.ensures c.in_ok-rest_at.ensures c.in_err-rest.ensures

pub arm_more-returns-in_err-rest_at : goal.arm_more-returns-in_err-rest_at
arm_more-returns-in_err-rest_at t c =
    place_lays c.args.at (stacked c.args.layout.now c.args.room c.args.most (code_of c.args.condition.now) c.args.homes)
    (stacked c.args.layout.now c.args.room c.args.most (If (code_of c.args.block.now) (arms_list c.args.more.now (code_of c.args.last.now))))
    c.in_ok-first.first
    c.from_residual-in_err-rest_at.result _ c.len.result
    c.from_residual-in_err-rest_at.ensures.1 c.in_ok-first.ensures c.len.ensures c.in_err-rest_at.ensures

pub arm_more-returns-in_err-rest : goal.arm_more-returns-in_err-rest
arm_more-returns-in_err-rest t c =
    rest_lays c.args.at c.in_ok-rest_at.rest_at (stacked c.args.layout.now c.args.room c.args.most (code_of c.args.condition.now) c.args.homes)
    (stacked c.args.layout.now c.args.room c.args.most (If (code_of c.args.block.now) (arms_list c.args.more.now (code_of c.args.last.now))))
    c.in_ok-first.first
    c.from_residual-in_err-rest.result _ c.len.result
    c.from_residual-in_err-rest.ensures.1 c.in_ok-first.ensures c.len.ensures c.in_ok-rest_at.ensures c.in_err-rest.ensures

pub code_and_arms-returns-in_err-rest_at : goal.code_and_arms-returns-in_err-rest_at
code_and_arms-returns-in_err-rest_at t c =
    place_lays c.args.at (stacked c.args.layout.now c.args.room c.args.most (code_of c.args.code.now) c.args.homes)
    (stacked c.args.layout.now c.args.room c.args.most (arms_list c.args.more.now (code_of c.args.last.now))) c.in_ok-first.first
    c.from_residual-in_err-rest_at.result
    _ c.len.result
    c.from_residual-in_err-rest_at.ensures.1 c.in_ok-first.ensures c.len.ensures c.in_err-rest_at.ensures

pub code_and_arms-returns-in_err-rest : goal.code_and_arms-returns-in_err-rest
code_and_arms-returns-in_err-rest t c =
    rest_lays c.args.at c.in_ok-rest_at.rest_at (stacked c.args.layout.now c.args.room c.args.most (code_of c.args.code.now) c.args.homes)
    (stacked c.args.layout.now c.args.room c.args.most (arms_list c.args.more.now (code_of c.args.last.now))) c.in_ok-first.first
    c.from_residual-in_err-rest.result _
    c.len.result
    c.from_residual-in_err-rest.ensures.1 c.in_ok-first.ensures c.len.ensures c.in_ok-rest_at.ensures c.in_err-rest.ensures

pub by_way-returns-in_err-rest_at-in-Some : goal.by_way-returns-in_err-rest_at-in-Some
by_way-returns-in_err-rest_at-in-Some t c =
    lays_err c.from_residual-in_err-rest_at-in-Some.result _ c.args.at _ c.from_residual-in_err-rest_at-in-Some.ensures.1
    (place_way c.args.at c.args.room c.args.most (tested c.args.homes) c.in-Some.truth c.take_truth.new.homes c.len-below.result c.len-below.ensures
    (stacked c.args.layout.now c.args.room c.args.most (code_of c.args.first.now))
    (stacked c.args.layout.now c.args.room c.args.most (code_of c.args.rest.now)) c.in-Some.ensures
    c.in_ok-first_at-in-Some.first_at c.in_ok-first-in-Some.first _ c.len.result c.in_ok-first_at-in-Some.ensures
    (subst (λ z. IsPiece c.in_ok-first-in-Some.first c.in_ok-first_at-in-Some.first_at
    (levelled c.args.room c.args.most c.len-below.result (stacked c.args.layout.now c.args.room c.args.most (code_of c.args.first.now) z)))
    c.in_ok-copy-in-Some.ensures c.in_ok-first-in-Some.ensures)
    c.len.ensures c.in_err-rest_at-in-Some.ensures)

pub by_way-returns-in_err-rest-in-Some : goal.by_way-returns-in_err-rest-in-Some
by_way-returns-in_err-rest-in-Some t c =
    lays_err c.from_residual-in_err-rest-in-Some.result _ c.args.at _ c.from_residual-in_err-rest-in-Some.ensures.1
    (rest_way c.args.at c.args.room c.args.most (tested c.args.homes) c.in-Some.truth c.take_truth.new.homes c.len-below.result c.len-below.ensures
    (stacked c.args.layout.now c.args.room c.args.most (code_of c.args.first.now))
    (stacked c.args.layout.now c.args.room c.args.most (code_of c.args.rest.now)) c.in-Some.ensures
    c.in_ok-first_at-in-Some.first_at c.in_ok-rest_at-in-Some.rest_at c.in_ok-first-in-Some.first _
    (subst (λ z. IsPiece c.in_ok-first-in-Some.first c.in_ok-first_at-in-Some.first_at
    (levelled c.args.room c.args.most c.len-below.result (stacked c.args.layout.now c.args.room c.args.most (code_of c.args.first.now) z)))
    c.in_ok-copy-in-Some.ensures c.in_ok-first-in-Some.ensures)
    (c.in_ok-rest_at-in-Some.ensures ∙ ap (λ n. c.args.at + 1 + n + 1) c.len.ensures) c.in_err-rest-in-Some.ensures)

pub by_way-returns-in_ok-rest-in-Some : goal.by_way-returns-in_ok-rest-in-Some
by_way-returns-in_ok-rest-in-Some t c =
    joined_ways c.args.at c.args.room c.args.most (tested c.args.homes) c.in-Some.truth c.take_truth.new.homes c.len-below.result c.len-below.ensures
    (stacked c.args.layout.now c.args.room c.args.most (code_of c.args.first.now))
    (stacked c.args.layout.now c.args.room c.args.most (code_of c.args.rest.now)) c.in-Some.ensures
    c.in_ok-first_at-in-Some.first_at c.in_ok-rest_at-in-Some.rest_at c.in_ok-first-in-Some.first c.in_ok-rest-in-Some.rest c.join.result
    c.in_ok-first_at-in-Some.ensures
    (c.in_ok-rest_at-in-Some.ensures ∙ ap (λ n. c.args.at + 1 + n + 1) c.len.ensures)
    (subst (λ z. IsPiece c.in_ok-first-in-Some.first c.in_ok-first_at-in-Some.first_at
    (levelled c.args.room c.args.most c.len-below.result (stacked c.args.layout.now c.args.room c.args.most (code_of c.args.first.now) z)))
    c.in_ok-copy-in-Some.ensures c.in_ok-first-in-Some.ensures)
    c.in_ok-rest-in-Some.ensures c.join.ensures

pub arm_by_way-returns-in_err-rest_at-in-Some : goal.arm_by_way-returns-in_err-rest_at-in-Some
arm_by_way-returns-in_err-rest_at-in-Some t c =
    lays_err c.from_residual-in_err-rest_at-in-Some.result _ c.args.at _ c.from_residual-in_err-rest_at-in-Some.ensures.1
    (place_way c.args.at c.args.room c.args.most (tested c.args.homes) c.in-Some.truth c.take_truth.new.homes c.len-below.result c.len-below.ensures
    (stacked c.args.layout.now c.args.room c.args.most (code_of c.args.block.now))
    (stacked c.args.layout.now c.args.room c.args.most (arms_list c.args.more.now (code_of c.args.last.now))) c.in-Some.ensures
    c.in_ok-first_at-in-Some.first_at c.in_ok-first-in-Some.first _ c.len.result c.in_ok-first_at-in-Some.ensures
    (subst (λ z. IsPiece c.in_ok-first-in-Some.first c.in_ok-first_at-in-Some.first_at
    (levelled c.args.room c.args.most c.len-below.result (stacked c.args.layout.now c.args.room c.args.most (code_of c.args.block.now) z)))
    c.in_ok-copy-in-Some.ensures c.in_ok-first-in-Some.ensures)
    c.len.ensures c.in_err-rest_at-in-Some.ensures)

pub arm_by_way-returns-in_err-rest-in-Some : goal.arm_by_way-returns-in_err-rest-in-Some
arm_by_way-returns-in_err-rest-in-Some t c =
    lays_err c.from_residual-in_err-rest-in-Some.result _ c.args.at _ c.from_residual-in_err-rest-in-Some.ensures.1
    (rest_way c.args.at c.args.room c.args.most (tested c.args.homes) c.in-Some.truth c.take_truth.new.homes c.len-below.result c.len-below.ensures
    (stacked c.args.layout.now c.args.room c.args.most (code_of c.args.block.now))
    (stacked c.args.layout.now c.args.room c.args.most (arms_list c.args.more.now (code_of c.args.last.now))) c.in-Some.ensures
    c.in_ok-first_at-in-Some.first_at c.in_ok-rest_at-in-Some.rest_at c.in_ok-first-in-Some.first _
    (subst (λ z. IsPiece c.in_ok-first-in-Some.first c.in_ok-first_at-in-Some.first_at
    (levelled c.args.room c.args.most c.len-below.result (stacked c.args.layout.now c.args.room c.args.most (code_of c.args.block.now) z)))
    c.in_ok-copy-in-Some.ensures c.in_ok-first-in-Some.ensures)
    (c.in_ok-rest_at-in-Some.ensures ∙ ap (λ n. c.args.at + 1 + n + 1) c.len.ensures) c.in_err-rest-in-Some.ensures)

pub arm_by_way-returns-in_ok-rest-in-Some : goal.arm_by_way-returns-in_ok-rest-in-Some
arm_by_way-returns-in_ok-rest-in-Some t c =
    joined_ways c.args.at c.args.room c.args.most (tested c.args.homes) c.in-Some.truth c.take_truth.new.homes c.len-below.result c.len-below.ensures
    (stacked c.args.layout.now c.args.room c.args.most (code_of c.args.block.now))
    (stacked c.args.layout.now c.args.room c.args.most (arms_list c.args.more.now (code_of c.args.last.now))) c.in-Some.ensures
    c.in_ok-first_at-in-Some.first_at c.in_ok-rest_at-in-Some.rest_at c.in_ok-first-in-Some.first c.in_ok-rest-in-Some.rest c.join.result
    c.in_ok-first_at-in-Some.ensures
    (c.in_ok-rest_at-in-Some.ensures ∙ ap (λ n. c.args.at + 1 + n + 1) c.len.ensures)
    (subst (λ z. IsPiece c.in_ok-first-in-Some.first c.in_ok-first_at-in-Some.first_at
    (levelled c.args.room c.args.most c.len-below.result (stacked c.args.layout.now c.args.room c.args.most (code_of c.args.block.now) z)))
    c.in_ok-copy-in-Some.ensures c.in_ok-first-in-Some.ensures)
    c.in_ok-rest-in-Some.ensures c.join.ensures

pub nothing_by_way-returns-in_err-rest_at-in-Some : goal.nothing_by_way-returns-in_err-rest_at-in-Some
nothing_by_way-returns-in_err-rest_at-in-Some t c =
    lays_err c.from_residual-in_err-rest_at-in-Some.result _ c.args.at _ c.from_residual-in_err-rest_at-in-Some.ensures.1
    (place_way c.args.at c.args.room c.args.most (tested c.args.homes) c.in-Some.truth c.take_truth.new.homes c.len-below.result c.len-below.ensures
    (stacked c.args.layout.now c.args.room c.args.most (code_of c.args.block.now)) (stacked c.args.layout.now c.args.room c.args.most Nothing) c.in-Some.ensures
    c.in_ok-first_at-in-Some.first_at c.in_ok-first-in-Some.first _ c.len.result c.in_ok-first_at-in-Some.ensures
    (subst (λ z. IsPiece c.in_ok-first-in-Some.first c.in_ok-first_at-in-Some.first_at
    (levelled c.args.room c.args.most c.len-below.result (stacked c.args.layout.now c.args.room c.args.most (code_of c.args.block.now) z)))
    c.in_ok-copy-in-Some.ensures c.in_ok-first-in-Some.ensures)
    c.len.ensures c.in_err-rest_at-in-Some.ensures)

pub nothing_by_way-returns-in_err-rest-in-Some : goal.nothing_by_way-returns-in_err-rest-in-Some
nothing_by_way-returns-in_err-rest-in-Some t c =
    lays_err c.from_residual-in_err-rest-in-Some.result _ c.args.at _ c.from_residual-in_err-rest-in-Some.ensures.1
    (rest_way c.args.at c.args.room c.args.most (tested c.args.homes) c.in-Some.truth c.take_truth.new.homes c.len-below.result c.len-below.ensures
    (stacked c.args.layout.now c.args.room c.args.most (code_of c.args.block.now)) (stacked c.args.layout.now c.args.room c.args.most Nothing) c.in-Some.ensures
    c.in_ok-first_at-in-Some.first_at c.in_ok-rest_at-in-Some.rest_at c.in_ok-first-in-Some.first _
    (subst (λ z. IsPiece c.in_ok-first-in-Some.first c.in_ok-first_at-in-Some.first_at
    (levelled c.args.room c.args.most c.len-below.result (stacked c.args.layout.now c.args.room c.args.most (code_of c.args.block.now) z)))
    c.in_ok-copy-in-Some.ensures c.in_ok-first-in-Some.ensures)
    (c.in_ok-rest_at-in-Some.ensures ∙ ap (λ n. c.args.at + 1 + n + 1) c.len.ensures) c.in_err-rest-in-Some.ensures)

pub nothing_by_way-returns-in_ok-rest-in-Some : goal.nothing_by_way-returns-in_ok-rest-in-Some
nothing_by_way-returns-in_ok-rest-in-Some t c =
    joined_ways c.args.at c.args.room c.args.most (tested c.args.homes) c.in-Some.truth c.take_truth.new.homes c.len-below.result c.len-below.ensures
    (stacked c.args.layout.now c.args.room c.args.most (code_of c.args.block.now)) (stacked c.args.layout.now c.args.room c.args.most Nothing) c.in-Some.ensures
    c.in_ok-first_at-in-Some.first_at c.in_ok-rest_at-in-Some.rest_at c.in_ok-first-in-Some.first c.in_ok-rest-in-Some.rest c.join.result
    c.in_ok-first_at-in-Some.ensures
    (c.in_ok-rest_at-in-Some.ensures ∙ ap (λ n. c.args.at + 1 + n + 1) c.len.ensures)
    (subst (λ z. IsPiece c.in_ok-first-in-Some.first c.in_ok-first_at-in-Some.first_at
    (levelled c.args.room c.args.most c.len-below.result (stacked c.args.layout.now c.args.room c.args.most (code_of c.args.block.now) z)))
    c.in_ok-copy-in-Some.ensures c.in_ok-first-in-Some.ensures)
    c.in_ok-rest-in-Some.ensures c.join.ensures

pub chosen_pushed-returns-in_err-ways_at : goal.chosen_pushed-returns-in_err-ways_at
chosen_pushed-returns-in_err-ways_at t c =
    place_lays c.args.at (with_newest c.args.room c.args.most c.args.homes)
    (choice c.args.layout.now c.args.room c.args.most (code_of c.args.first.now) (code_of c.args.rest.now))
    c.in_ok-top.top c.from_residual-in_err-ways_at.result _ c.len.result
    c.from_residual-in_err-ways_at.ensures.1 c.in_ok-top.ensures c.len.ensures c.in_err-ways_at.ensures

pub chosen_pushed-returns-in_err-ways : goal.chosen_pushed-returns-in_err-ways
chosen_pushed-returns-in_err-ways t c =
    rest_lays c.args.at c.in_ok-ways_at.ways_at (with_newest c.args.room c.args.most c.args.homes)
    (choice c.args.layout.now c.args.room c.args.most (code_of c.args.first.now) (code_of c.args.rest.now)) c.in_ok-top.top c.from_residual-in_err-ways.result _
    c.len.result
    c.from_residual-in_err-ways.ensures.1 c.in_ok-top.ensures c.len.ensures c.in_ok-ways_at.ensures c.in_err-ways.ensures

pub raised_way-returns-in_err-push_at : goal.raised_way-returns-in_err-push_at
raised_way-returns-in_err-push_at t c =
    subst (λ n. Lays c.from_residual-in_err-push_at.result c.args.at
    (raised_to c.args.layout.now c.args.room c.args.most (code_of c.args.first.now) (code_of c.args.rest.now) c.args.homes n)) c.len-before.ensures (
    place_lays c.args.at (either_way c.args.layout.now c.args.room c.args.most (code_of c.args.first.now) (code_of c.args.rest.now) c.args.homes)
    (raised c.len-before.result) c.in_ok-ways.ways c.from_residual-in_err-push_at.result _ c.len.result
    c.from_residual-in_err-push_at.ensures.1 c.in_ok-ways.ensures c.len.ensures c.in_err-push_at.ensures)

pub raised_way-returns-in_err-push : goal.raised_way-returns-in_err-push
raised_way-returns-in_err-push t c =
    subst (λ n. Lays c.from_residual-in_err-push.result c.args.at
    (raised_to c.args.layout.now c.args.room c.args.most (code_of c.args.first.now) (code_of c.args.rest.now) c.args.homes n)) c.len-before.ensures (
    rest_lays c.args.at c.in_ok-push_at.push_at (either_way c.args.layout.now c.args.room c.args.most (code_of c.args.first.now) (code_of c.args.rest.now)
    c.args.homes)
    (raised c.len-before.result) c.in_ok-ways.ways c.from_residual-in_err-push.result _ c.len.result
    c.from_residual-in_err-push.ensures.1 c.in_ok-ways.ensures c.len.ensures c.in_ok-push_at.ensures c.in_err-push.ensures)

pub arm_or_pushed-returns-in_err-rest_at : goal.arm_or_pushed-returns-in_err-rest_at
arm_or_pushed-returns-in_err-rest_at t c =
    place_lays c.args.at (with_newest c.args.room c.args.most c.args.homes)
    (choice c.args.layout.now c.args.room c.args.most (code_of c.args.block.now) (arms_list c.args.more.now (code_of c.args.last.now))) c.in_ok-first.first
    c.from_residual-in_err-rest_at.result _ c.len.result
    c.from_residual-in_err-rest_at.ensures.1 c.in_ok-first.ensures c.len.ensures c.in_err-rest_at.ensures

pub arm_or_pushed-returns-in_err-rest : goal.arm_or_pushed-returns-in_err-rest
arm_or_pushed-returns-in_err-rest t c =
    rest_lays c.args.at c.in_ok-rest_at.rest_at (with_newest c.args.room c.args.most c.args.homes)
    (choice c.args.layout.now c.args.room c.args.most (code_of c.args.block.now) (arms_list c.args.more.now (code_of c.args.last.now))) c.in_ok-first.first
    c.from_residual-in_err-rest.result _ c.len.result
    c.from_residual-in_err-rest.ensures.1 c.in_ok-first.ensures c.len.ensures c.in_ok-rest_at.ensures c.in_err-rest.ensures

pub arm_raised_way-returns-in_err-rest_at : goal.arm_raised_way-returns-in_err-rest_at
arm_raised_way-returns-in_err-rest_at t c =
    subst (λ n. Lays c.from_residual-in_err-rest_at.result c.args.at
    (raised_to c.args.layout.now c.args.room c.args.most (code_of c.args.block.now) (arms_list c.args.more.now (code_of c.args.last.now)) c.args.homes n))
    c.len-before.ensures (
    place_lays c.args.at
    (either_way c.args.layout.now c.args.room c.args.most (code_of c.args.block.now) (arms_list c.args.more.now (code_of c.args.last.now)) c.args.homes)
    (raised c.len-before.result) c.in_ok-first.first c.from_residual-in_err-rest_at.result _ c.len.result
    c.from_residual-in_err-rest_at.ensures.1 c.in_ok-first.ensures c.len.ensures c.in_err-rest_at.ensures)

pub arm_raised_way-returns-in_err-rest : goal.arm_raised_way-returns-in_err-rest
arm_raised_way-returns-in_err-rest t c =
    subst (λ n. Lays c.from_residual-in_err-rest.result c.args.at
    (raised_to c.args.layout.now c.args.room c.args.most (code_of c.args.block.now) (arms_list c.args.more.now (code_of c.args.last.now)) c.args.homes n))
    c.len-before.ensures (
    rest_lays c.args.at c.in_ok-rest_at.rest_at
    (either_way c.args.layout.now c.args.room c.args.most (code_of c.args.block.now) (arms_list c.args.more.now (code_of c.args.last.now)) c.args.homes)
    (raised c.len-before.result) c.in_ok-first.first c.from_residual-in_err-rest.result _ c.len.result
    c.from_residual-in_err-rest.ensures.1 c.in_ok-first.ensures c.len.ensures c.in_ok-rest_at.ensures c.in_err-rest.ensures)

pub arm_or_nothing_pushed-returns-in_err-rest_at : goal.arm_or_nothing_pushed-returns-in_err-rest_at
arm_or_nothing_pushed-returns-in_err-rest_at t c =
    place_lays c.args.at (with_newest c.args.room c.args.most c.args.homes)
    (choice c.args.layout.now c.args.room c.args.most (code_of c.args.block.now) Nothing)
    c.in_ok-first.first c.from_residual-in_err-rest_at.result _ c.len.result
    c.from_residual-in_err-rest_at.ensures.1 c.in_ok-first.ensures c.len.ensures c.in_err-rest_at.ensures

pub arm_or_nothing_pushed-returns-in_err-rest : goal.arm_or_nothing_pushed-returns-in_err-rest
arm_or_nothing_pushed-returns-in_err-rest t c =
    rest_lays c.args.at c.in_ok-rest_at.rest_at (with_newest c.args.room c.args.most c.args.homes)
    (choice c.args.layout.now c.args.room c.args.most (code_of c.args.block.now) Nothing) c.in_ok-first.first c.from_residual-in_err-rest.result _ c.len.result
    c.from_residual-in_err-rest.ensures.1 c.in_ok-first.ensures c.len.ensures c.in_ok-rest_at.ensures c.in_err-rest.ensures

pub nothing_raised_way-returns-in_err-rest_at : goal.nothing_raised_way-returns-in_err-rest_at
nothing_raised_way-returns-in_err-rest_at t c =
    subst (λ n. Lays c.from_residual-in_err-rest_at.result c.args.at
    (raised_to c.args.layout.now c.args.room c.args.most (code_of c.args.block.now) Nothing c.args.homes n)) c.len-before.ensures (
    place_lays c.args.at (either_way c.args.layout.now c.args.room c.args.most (code_of c.args.block.now) Nothing c.args.homes) (raised c.len-before.result)
    c.in_ok-first.first c.from_residual-in_err-rest_at.result _ c.len.result
    c.from_residual-in_err-rest_at.ensures.1 c.in_ok-first.ensures c.len.ensures c.in_err-rest_at.ensures)

pub nothing_raised_way-returns-in_err-rest : goal.nothing_raised_way-returns-in_err-rest
nothing_raised_way-returns-in_err-rest t c =
    subst (λ n. Lays c.from_residual-in_err-rest.result c.args.at
    (raised_to c.args.layout.now c.args.room c.args.most (code_of c.args.block.now) Nothing c.args.homes n)) c.len-before.ensures (
    rest_lays c.args.at c.in_ok-rest_at.rest_at (either_way c.args.layout.now c.args.room c.args.most (code_of c.args.block.now) Nothing c.args.homes)
    (raised c.len-before.result) c.in_ok-first.first c.from_residual-in_err-rest.result _ c.len.result
    c.from_residual-in_err-rest.ensures.1 c.in_ok-first.ensures c.len.ensures c.in_ok-rest_at.ensures c.in_err-rest.ensures)

pub levelled-returns-in_err-rest_at : goal.levelled-returns-in_err-rest_at
levelled-returns-in_err-rest_at t c =
    place_lays c.args.at (stacked c.args.layout.now c.args.room c.args.most (code_of c.args.code.now) c.args.homes)
    (level c.args.room c.args.most c.args.below) c.in_ok-first.first
    c.from_residual-in_err-rest_at.result _ c.len.result
    c.from_residual-in_err-rest_at.ensures.1 c.in_ok-first.ensures c.len.ensures c.in_err-rest_at.ensures

pub levelled-returns-in_err-rest : goal.levelled-returns-in_err-rest
levelled-returns-in_err-rest t c =
    rest_lays c.args.at c.in_ok-rest_at.rest_at (stacked c.args.layout.now c.args.room c.args.most (code_of c.args.code.now) c.args.homes)
    (level c.args.room c.args.most c.args.below) c.in_ok-first.first c.from_residual-in_err-rest.result _ c.len.result
    c.from_residual-in_err-rest.ensures.1 c.in_ok-first.ensures c.len.ensures c.in_ok-rest_at.ensures c.in_err-rest.ensures

pub levelled_arms-returns-in_err-rest_at : goal.levelled_arms-returns-in_err-rest_at
levelled_arms-returns-in_err-rest_at t c =
    place_lays c.args.at (stacked c.args.layout.now c.args.room c.args.most (arms_list c.args.all.now (code_of c.args.last.now)) c.args.homes)
    (level c.args.room c.args.most c.args.below) c.in_ok-first.first c.from_residual-in_err-rest_at.result _ c.len.result
    c.from_residual-in_err-rest_at.ensures.1 c.in_ok-first.ensures c.len.ensures c.in_err-rest_at.ensures

pub levelled_arms-returns-in_err-rest : goal.levelled_arms-returns-in_err-rest
levelled_arms-returns-in_err-rest t c =
    rest_lays c.args.at c.in_ok-rest_at.rest_at (stacked c.args.layout.now c.args.room c.args.most (arms_list c.args.all.now (code_of c.args.last.now))
    c.args.homes)
    (level c.args.room c.args.most c.args.below) c.in_ok-first.first c.from_residual-in_err-rest.result _ c.len.result
    c.from_residual-in_err-rest.ensures.1 c.in_ok-first.ensures c.len.ensures c.in_ok-rest_at.ensures c.in_err-rest.ensures

pub condition_of-returns-in_err-rest_at : goal.condition_of-returns-in_err-rest_at
condition_of-returns-in_err-rest_at t c =
    place_lays c.args.at (stacked c.args.layout.now c.args.room c.args.most (code_of c.args.code.now) empty) (with_newest c.args.room c.args.most)
    c.in_ok-first.first
    c.from_residual-in_err-rest_at.result _ c.len.result c.from_residual-in_err-rest_at.ensures.1
    (subst (λ z. IsPiece c.in_ok-first.first c.args.at (stacked c.args.layout.now c.args.room c.args.most (code_of c.args.code.now) z)) c.new.ensures
    c.in_ok-first.ensures)
    c.len.ensures c.in_err-rest_at.ensures

pub condition_of-returns-in_err-rest : goal.condition_of-returns-in_err-rest
condition_of-returns-in_err-rest t c =
    rest_lays c.args.at c.in_ok-rest_at.rest_at (stacked c.args.layout.now c.args.room c.args.most (code_of c.args.code.now) empty)
    (with_newest c.args.room c.args.most)
    c.in_ok-first.first c.from_residual-in_err-rest.result _ c.len.result c.from_residual-in_err-rest.ensures.1
    (subst (λ z. IsPiece c.in_ok-first.first c.args.at (stacked c.args.layout.now c.args.room c.args.most (code_of c.args.code.now) z)) c.new.ensures
    c.in_ok-first.ensures)
    c.len.ensures c.in_ok-rest_at.ensures c.in_err-rest.ensures

pub arm-returns-in_err-first : goal.arm-returns-in_err-first
arm-returns-in_err-first t c =
    lays_err c.from_residual.result _ c.args.at _ c.from_residual.ensures.1
    (first_fails c.args.at (stacked c.args.layout.now c.args.room c.args.most (code_of c.args.condition.now) c.args.homes)
    (stacked c.args.layout.now c.args.room c.args.most (If (code_of c.args.block.now) Nothing)) _ c.in_err-first.ensures)

pub arm-returns : goal.arm-returns
arm-returns t c =
    behind_laid c.args.at c.in_ok-rest_at.rest_at (stacked c.args.layout.now c.args.room c.args.most (code_of c.args.condition.now) c.args.homes)
    (stacked c.args.layout.now c.args.room c.args.most (If (code_of c.args.block.now) Nothing)) c.in_ok-first.first c.in_ok-rest.rest c.in_ok-behind.field-0
    c.in_ok-first.ensures (c.in_ok-rest_at.ensures ∙ ap (λ n. c.args.at + n) c.len.ensures) c.in_ok-rest.ensures
    c.in_ok-behind.ensures.0 c.in_ok-behind.ensures.1

pub arm_more-returns-in_err-first : goal.arm_more-returns-in_err-first
arm_more-returns-in_err-first t c =
    lays_err c.from_residual.result _ c.args.at _ c.from_residual.ensures.1
    (first_fails c.args.at (stacked c.args.layout.now c.args.room c.args.most (code_of c.args.condition.now) c.args.homes)
    (stacked c.args.layout.now c.args.room c.args.most (If (code_of c.args.block.now) (arms_list c.args.more.now (code_of c.args.last.now)))) _
    c.in_err-first.ensures)

pub arm_more-returns : goal.arm_more-returns
arm_more-returns t c =
    behind_laid c.args.at c.in_ok-rest_at.rest_at (stacked c.args.layout.now c.args.room c.args.most (code_of c.args.condition.now) c.args.homes)
    (stacked c.args.layout.now c.args.room c.args.most (If (code_of c.args.block.now) (arms_list c.args.more.now (code_of c.args.last.now))))
    c.in_ok-first.first c.in_ok-rest.rest c.in_ok-behind.field-0
    c.in_ok-first.ensures (c.in_ok-rest_at.ensures ∙ ap (λ n. c.args.at + n) c.len.ensures) c.in_ok-rest.ensures
    c.in_ok-behind.ensures.0 c.in_ok-behind.ensures.1

pub levelled-returns : goal.levelled-returns
levelled-returns t c =
    behind_laid c.args.at c.in_ok-rest_at.rest_at (stacked c.args.layout.now c.args.room c.args.most (code_of c.args.code.now) c.args.homes)
    (level c.args.room c.args.most c.args.below) c.in_ok-first.first c.in_ok-rest.rest c.in_ok-behind.field-0
    c.in_ok-first.ensures (c.in_ok-rest_at.ensures ∙ ap (λ n. c.args.at + n) c.len.ensures) c.in_ok-rest.ensures
    c.in_ok-behind.ensures.0 c.in_ok-behind.ensures.1

pub levelled_arms-returns : goal.levelled_arms-returns
levelled_arms-returns t c =
    behind_laid c.args.at c.in_ok-rest_at.rest_at (stacked c.args.layout.now c.args.room c.args.most (arms_list c.args.all.now (code_of c.args.last.now))
    c.args.homes)
    (level c.args.room c.args.most c.args.below) c.in_ok-first.first c.in_ok-rest.rest c.in_ok-behind.field-0
    c.in_ok-first.ensures (c.in_ok-rest_at.ensures ∙ ap (λ n. c.args.at + n) c.len.ensures) c.in_ok-rest.ensures
    c.in_ok-behind.ensures.0 c.in_ok-behind.ensures.1
