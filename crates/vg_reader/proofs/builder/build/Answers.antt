use Rattle.std.proofs.Common.{rules, ◌≡◌, ◌++◌, ◌∷◌, [], Some, None, slice_get, refl, ap, length, arith}
use Rattle.std.proofs.lemmas.Option.{slice_get_read, slice_get_past}
use Rattle.vg_grammar.specs.declared.derivation.Step.TheVariants.{Take, Make}
use Rattle.vg_reader.proofs.Named.{grown_twice}
use Rattle.vg_reader.proofs.Building.{begins, arrived, items_same, left_same, made_one, taken_one, taken_none, next_step, ended}
use Rattle.vg_reader.proofs.builder.build.Goals.{in-Make+in_ok-reduce-in-Make, in-Take+in-Some+in_ok-value-in-Take+in_ok-push-in-Take, in-Take+in_default}
use Rattle.vg_reader.proofs.builder.build.Goals as goal

pub loop-step-init : goal.loop-step-init
loop-step-init c = begins _ _ _ _ _ c.new-values.ensures.items

pub leaf_of-requires-clause-room : goal.leaf_of-requires-clause-room
leaf_of-requires-clause-room c =
    let room = c.loop-step.invariant.room in
    let within = c.loop-step.invariant.within in
    let same : length c.as_slice-tokens.result.now ≡ length c.args.derivation.now.tokens.items = ap length c.as_slice-tokens.ensures.value in
    omega (arith, room, within, same, c.requires.room)

pub loop-step-preserved : goal.loop-step-preserved
loop-step-preserved c = elim c.match-step.branch [
  | in-Make+in_ok-reduce-in-Make w ↦
      arrived _ _ _ _ _ _ _ _ _ _ _ w.at-is (items_same _ _ w.values-is) w.names-is
      (made_one _ _ _ _ _ _ _ _ _ w.in-Make.part w.in-Make.count
      (left_same _ _ _ _ _ _ _ _ _ (next_step c.as_slice-step-items.result.now c.loop-step.step-index Take
      (Make w.in-Make.part w.in-Make.count) c.loop-step-test.true w.in-Make.is) c.loop-step.invariant) (λ texts g. w.in_ok-reduce-in-Make.ensures texts
      (c.requires.nameless texts (grown_twice _ _ _ c.loop-step.invariant.grown g))))
  | in-Take+in-Some+in_ok-value-in-Take+in_ok-push-in-Take w ↦
      let found : slice_get c.as_slice-tokens.result.now c.loop-step.at
      ≡ Some w.in-Some.token.now = slice_get_read c.as_slice-tokens.result.now _ c.loop-step.at w.in-Some.token.now refl w.in-Some.ensures.lookup.3.0
      w.in-Some.ensures.lookup.1 in
      let items : w.push.new.self.items ≡ c.loop-step.values.items ++ w.in_ok-value-in-Take.value ∷ [] = search rules in
      arrived _ _ _ _ _ _ _ _ _ _ _ w.at-is (items_same _ _ w.values-is) w.names-is
      (taken_one _ _ _ _ _ _ _ _ _ _ _ _
      (left_same _ _ _ _ _ _ _ _ _ (next_step c.as_slice-step-items.result.now c.loop-step.step-index Take Take c.loop-step-test.true w.in-Take.is)
      c.loop-step.invariant) found w.in_ok-value-in-Take.ensures.value items w.leaf_of.ensures.names w.leaf_of.ensures.one)
  | in-Take+in_default w ↦
      let found : slice_get c.as_slice-tokens.result.now c.loop-step.at
      ≡ None = slice_get_past c.as_slice-tokens.result.now c.loop-step.at w.in_default.ensures.lookup.3 in
      arrived _ _ _ _ _ _ _ _ _ _ _ w.at-is (items_same _ _ w.values-is) w.names-is
      (taken_none _ _ _ _ _ _ _ _
      (left_same _ _ _ _ _ _ _ _ _ (next_step c.as_slice-step-items.result.now c.loop-step.step-index Take Take c.loop-step-test.true w.in-Take.is)
      c.loop-step.invariant) found)
]

pub returns-clause-values : goal.returns-clause-values
returns-clause-values c texts g =
    ended c.args.bytes.now _ _ _ _ _ _ _ _ _ texts c.as_slice-step-items.ensures.value c.as_slice-tokens.ensures.value c.loop-step-test.false
    c.loop-step.invariant g
