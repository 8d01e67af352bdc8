-- That what weighs little is not too long.
use Rattle.std.specs.Prelude.{◌+◌, ◌-◌, ◌≤◌, length}
use Rattle.std.proofs.Common.{◌≡◌, inl, inr, refl, arith}
use Rattle.vg_base.specs.declared.refusal.Refusal.{Refusal}
use Rattle.vg_base.specs.declared.refusal.Refusal.TheVariants.{Fault as Faulty, NoMemory as OutOfMemory}
use Rattle.vg_meaning.specs.Code.{Code, Nothing, Then, Do, If, Loop, Break, Continue, Return}
use Rattle.vg_firm.specs.declared.step.Step.{Step}
use Rattle.vg_firm.specs.declared.step.Step.TheVariants as step
use Rattle.vg_firm.specs.Program.{Procedure}
use Rattle.vg_flatten_shapes.specs.declared.fault.Fault.{Fault}
use Rattle.vg_flatten_shapes.specs.declared.fault.Fault.TheVariants.{NotTaken, TooHigh, TooLong}
use Rattle.vg_flatten_shapes.specs.declared.layout.Layout.{Layout}
use Rattle.vg_flatten_shapes.specs.Shapes.{Shape, empty}
use Rattle.vg_flatten_shapes.specs.Blocks.{Block, block_size}
use Rattle.vg_flatten_shapes.specs.Made.{Made, Gives, Refused}
use Rattle.vg_firm_typed_any.specs.TypedFor.{IsTypedFor}
use Rattle.vg_flatten.specs.Flattened.{own_widths, temps_for}
use Rattle.vg_flatten.specs.Refusals.{room_for, made_of, stacked_of, IsCause}
use Rattle.vg_flatten.specs.Taking.{IsMadeTooLong}
use Rattle.vg_flat_sizes.specs.Weights.{step_weight, flat_weight}
use Rattle.vg_flat_weights.proofs.Whole.{code_short, whole_short}
use Rattle.vg_flat_taken.specs.Taken.{IsLeftFor, step_count}
use Rattle.vg_flat_taken.proofs.Whole.{is_left, few_wait}

-- each step weighs something
weighs : (p : Step) → 1 ≤ step_weight p
weighs (step.Number a) = omega arith
weighs step.This = omega arith
weighs (step.Local a) = omega arith
weighs (step.SetLocal a) = omega arith
weighs step.Forget = omega arith
weighs (step.Operate a) = omega arith
weighs (step.Apply a) = omega arith
weighs (step.ReadDevice a) = omega arith
weighs (step.WriteDevice a) = omega arith
weighs (step.Load a b) = omega arith
weighs (step.Store a b) = omega arith
weighs (step.LoadAt a b c) = omega arith
weighs (step.StoreAt a b c) = omega arith
weighs step.LoadNothing = omega arith
weighs step.StoreNothing = omega arith
weighs (step.LoadItem a) = omega arith
weighs (step.StoreItem a) = omega arith
weighs (step.Length a) = omega arith
weighs (step.IsWithin a b) = omega arith
weighs (step.StopUnlessWithin a b) = omega arith
weighs (step.Bind a) = omega arith
weighs (step.BindFor a) = omega arith
weighs (step.Call a b) = omega arith
weighs (step.CallFor a b) = omega arith
weighs (step.CallValue a) = omega arith
weighs step.Idle = omega arith

-- so code has no more steps than it weighs
few_steps : (c : Code Step) → step_count c ≤ flat_weight c
few_steps Nothing = omega arith
few_steps (Then a b) = let x = few_steps a in let y = few_steps b in omega (arith, x, y)
few_steps (Do p) = weighs p
few_steps (If a b) = let x = few_steps a in let y = few_steps b in omega (arith, x, y)
few_steps (Loop c body next) = let x = few_steps c in let y = few_steps body in let z = few_steps next in omega (arith, x, y, z)
few_steps Break = omega arith
few_steps Continue = omega arith
few_steps Return = omega arith

module _ (lay : Layout) (m : Procedure) (room : length m.widths - m.params + flat_weight m.body + 1 ≤ 65519) where
  not_long : (made : Made) → ((b : Block) (s : Shape) → made ≡ Gives b s → block_size b ≤ flat_weight m.body) → IsMadeTooLong m made → ⊥
  not_long (Refused why) short h = h
  not_long (Gives b s) short h = let w = whole_short m b (short b s refl) in omega (arith, w, room, h)

  memory_by : (e : Refusal Fault) → IsLeftFor e lay m → e ≡ OutOfMemory
  memory_by OutOfMemory h = refl
  memory_by (Faulty TooLong) (inl h) =
      absurd (not_long (made_of lay m) (λ b s e. code_short lay (room_for m) 0 m.body empty s b (inl e)) h)
  memory_by (Faulty TooLong) (inr h) =
      absurd (not_long (stacked_of lay m) (λ b s e. code_short lay (room_for m) 65535 m.body empty s b (inr e)) h.1)
  memory_by (Faulty TooHigh) h = absurd h
  memory_by (Faulty NotTaken) h = absurd h

  pub only_memory : (e : Refusal Fault) → IsTypedFor lay m → IsCause e lay m → e ≡ OutOfMemory
  only_memory e typed h = by_few (few_wait lay m typed (let steps = few_steps m.body in omega (arith, steps, room)))
    where
      by_few : (t : IsTypedFor lay m) × (t.most ≤ 65535 + temps_for (length (own_widths m))) → e ≡ OutOfMemory
      by_few (t, within) = memory_by e (is_left lay m t within e h)
