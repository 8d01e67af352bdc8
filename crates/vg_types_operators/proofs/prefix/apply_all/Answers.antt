use Rattle.std.proofs.Common.{◌≡◌, ◌<◌, ◌-◌, suc, length, get_or, refl, sym, ap, subst, arith}
use Rattle.vg_syntax.specs.Reads.{spot}
use Rattle.vg_syntax.specs.Numbering.{with_id}
use Rattle.vg_syntax.specs.declared.kind.Kind.TheVariants.{Name}
use Rattle.vg_rules.specs.Breach.{asks}
use Rattle.vg_types_tables.specs.Views.{type_view}
use Rattle.vg_types_operators.specs.Prefixes.{IsPrefix, Applying}
use Rattle.vg_types_operators.proofs.Prefixing.{goes_on, one_fails, all_kept, all_stand}
use Rattle.vg_types_operators.proofs.prefix.apply_all.Goals as goal

pub loop-count-preserved : goal.loop-count-preserved
loop-count-preserved c =
    let i = c.loop-count.count - 1 in
    let test = c.loop-count-test.true in
    let down : c.loop-count.count ≡ suc i = omega (arith, test) in
    let sign = get_or c.args.operators.now i Name in
    let is = subst (IsPrefix c.args.names.now c.args.declared.now sign c.args.type_) c.in-Some.is
    (c.in_ok-found.ensures c.args.names.now c.args.declared.now) in
    subst (Applying c.args.names.now c.args.declared.now c.args.body c.args.locals.now c.args.operators.now c.args.type_ i)
    (sym c.in_ok-push-in-Some.ensures.items)
    (goes_on c.args.names.now c.args.declared.now c.args.body c.args.locals.now c.args.operators.now c.args.type_ c.loop-count.count i sign Name c.in-Some.found
    c.loop-count.codes.items down refl is c.loop-count.invariant)

pub returns-in-None-clause-judged : goal.returns-in-None-clause-judged
returns-in-None-clause-judged c =
    let i = c.loop-count.count - 1 in
    let test = c.loop-count-test.true in
    let within = c.loop-count.invariant.within in
    let inside : i < length c.args.operators.now = omega (arith, test, within) in
    let sign = get_or c.args.operators.now i Name in
    let not = subst (IsPrefix c.args.names.now c.args.declared.now sign c.args.type_) c.in-None.is
    (c.in_ok-found.ensures c.args.names.now c.args.declared.now) in
    ap (λ b. asks b 18 (with_id c.args.id (spot c.args.place)))
    (one_fails c.args.operators.now i sign Name (type_view c.args.names.now c.args.declared.now c.args.type_) inside refl not)

pub returns-clause-judged : goal.returns-clause-judged
returns-clause-judged c =
    let test = c.loop-count-test.false in
    let none : c.loop-count.count ≡ 0 = omega (arith, test) in
    let end = subst (λ n. Applying c.args.names.now c.args.declared.now c.args.body c.args.locals.now c.args.operators.now c.args.type_ n
    c.loop-count.codes.items) none c.loop-count.invariant in (
      ap (λ b. asks b 18 (with_id c.args.id (spot c.args.place)))
          (all_kept c.args.names.now c.args.declared.now c.args.body c.args.locals.now c.args.operators.now c.args.type_ c.loop-count.codes.items end),
      all_stand c.args.names.now c.args.declared.now c.args.body c.args.locals.now c.args.operators.now c.args.type_ c.loop-count.codes.items c.row.result end
          c.row.ensures,
    )
