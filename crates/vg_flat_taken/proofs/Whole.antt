-- That whole typed procedures are flattened, though more values wait than there are temporaries.
use Rattle.std.specs.Prelude.{ℕ, ◌+◌, ◌-◌, ◌<◌, ◌≤◌, Bool, true, false, ◌==◌, List, [], length}
use Rattle.std.proofs.Common.{◌≡◌, ◌⊎◌, inl, inr, refl, sym, ap, ◌∙◌, subst, arith}
use Rattle.vg_base.specs.declared.refusal.Refusal.{Refusal}
use Rattle.vg_base.specs.declared.refusal.Refusal.TheVariants.{Fault as Faulty, NoMemory as OutOfMemory}
use Rattle.vg_firm.specs.Program.{Procedure}
use Rattle.vg_flatten_shapes.specs.declared.fault.Fault.{Fault}
use Rattle.vg_flatten_shapes.specs.declared.fault.Fault.TheVariants.{NotTaken, TooHigh, TooLong}
use Rattle.vg_flatten_shapes.specs.declared.layout.Layout.{Layout}
use Rattle.vg_flatten_shapes.specs.Shapes.{empty, is_empty}
use Rattle.vg_flatten_shapes.specs.Blocks.{Block, open_code}
use Rattle.vg_flatten_shapes.specs.Made.{Made, Gives, Refused}
use Rattle.vg_flatten_control.specs.Flat.{flat}
use Rattle.vg_flatten_pushed.specs.Stacked.{stacked}
use Rattle.vg_firm_typed.specs.Typed.{Known as Knows, Typed}
use Rattle.vg_firm_typed_any.specs.TypedFor.{IsTypedFor, TakesFew}
use Rattle.vg_code_counts.specs.Each.{EachStep}
use Rattle.vg_flatten.specs.Closing.{AllSet}
use Rattle.vg_flatten.specs.Flattened.{receivers, with_receiver_width, own_widths, own_params, whole, temps_for}
use Rattle.vg_flatten.specs.Refusals.{room_for, made_of, stacked_of, IsNotTakenAs, IsTooHigh, IsTooLong, IsCauseIn, IsCause}
use Rattle.vg_flatten.specs.Taking.{IsMadeTooLong}
use Rattle.vg_flatten.proofs.Typed.{Stays, Fine, Lands, fine_flat, nothing, empty_is, not_true, stays_set, stays_zeroes}
use Rattle.vg_flat_taken.specs.Taken.{IsClosed, IsMade, IsLeftFor, step_count}
use Rattle.vg_flat_taken.proofs.Fewer.{Near, with_temps}
use Rattle.vg_flat_taken.proofs.FewerCode.{near_flat}
use Rattle.vg_flat_taken.proofs.Above.{low_held, stands_low}
use Rattle.vg_flat_taken.proofs.Pushed.{pushed_code}
use Rattle.vg_flat_taken.proofs.Lowered.{lowered}

-- ---- what is closed

closed_code : (m : Procedure) (b : Block) → Stays false b → AllSet (open_code (whole m b) 0)
closed_code m b h = stays_set (whole m b) 0 (stays_zeroes (length m.widths - m.params) (own_params m), (h, tt))

pub closed_fine : (m : Procedure) (made : Made) → Fine false [] 0 made → IsClosed m made
closed_fine m (Refused why) h = absurd h
closed_fine m (Gives b s) h = (empty_is s h.1, closed_code m b h.0)

closed_lands : (m : Procedure) (made : Made) → Lands false [] made → IsClosed m made
closed_lands m (Refused why) h = absurd h
closed_lands m (Gives b s) h = (ap is_empty h.1, closed_code m b h.0)

-- ---- the causes of a refusal

not_taken : (m : Procedure) (made : Made) → IsClosed m made → IsNotTakenAs m made → ⊥
not_taken m (Refused why) h g = h
not_taken m (Gives b s) h (inl e) = not_true (sym e ∙ h.0)
not_taken m (Gives b s) h (inr g) = g h.1

not_refused : (m : Procedure) (made : Made) (why : Fault) → IsClosed m made → made ≡ Refused why → ⊥
not_refused m made why h e = subst (IsClosed m) e h

long_in : (m : Procedure) (made : Made) → IsClosed m made → IsTooLong m made → IsMadeTooLong m made
long_in m (Refused why) h g = h
long_in m (Gives b s) h g = g

abbrev IsHigh : Fault → Type 0
IsHigh TooHigh = Unit {0}
IsHigh TooLong = ⊥
IsHigh NotTaken = ⊥

-- what is refused as too high is not refused as anything else
not_other : (m : Procedure) (made : Made) → made ≡ Refused TooHigh → IsNotTakenAs m made → ⊥
not_other m made e h = subst IsHigh (subst (IsNotTakenAs m) e h) tt

-- what is refused all the same is too long
refused_long : (m : Procedure) (made : Made) (why : Fault) → IsClosed m made → IsCauseIn (Faulty why) m made → IsMadeTooLong m made
refused_long m made TooLong h g = long_in m made h g
refused_long m made TooHigh h g = absurd (not_refused m made TooHigh h g)
refused_long m made NotTaken h g = absurd (not_taken m made h g)

-- ---- whole procedures

pub receiver_few : (b : Bool) (ws : List ℕ) → length (with_receiver_width b ws) ≡ receivers b + length ws
receiver_few true ws = omega arith
receiver_few false ws = omega arith

-- with a receiver there is one local more
pub own_few : (m : Procedure) → length m.widths ≤ 60 → length (own_widths m) ≤ 61
own_few m le = let l = receiver_few m.receives m.widths in let o = one m.receives in omega (arith, l, o, le)
  where
    one : (b : Bool) → receivers b ≤ 1
    one true = omega arith
    one false = omega arith

pub itself : (b : Bool) (ws : List ℕ) → ((receivers b == 0) ≡ true) ⊎ (0 < length (with_receiver_width b ws))
itself true ws = inr (omega arith)
itself false ws = inl refl

module _ (lay : Layout) (m : Procedure) (few : length m.widths ≤ 60) where
  own_less : length (own_widths m) ≤ 61
  own_less = own_few m few

  temps : 191 ≤ temps_for (length (own_widths m))
  temps = let le = own_less in omega (arith, le)

  abbrev known : ℕ → Knows
  known most = record { layout = lay; locals = length m.widths; most = most }

  inside : (i : ℕ) → i < length m.widths → receivers m.receives + i < length (own_widths m)
  inside i lt = let l = receiver_few m.receives m.widths in omega (arith, l, lt)

  -- where so many are pushed that the temporaries are enough for the newer ones
  pub pushed_closed : (most pushes : ℕ) → Typed (known most) false 0 m.body 0 0 → EachStep (TakesFew 189) m.body → 1 ≤ pushes
      → most ≤ pushes + temps_for (length (own_widths m)) → IsClosed m (stacked lay (room_for m) pushes m.body empty)
  pushed_closed most pushes code few_taken one le =
      closed_lands m _ (stands_low false pushes 0 _ (omega arith)
      (pushed_code lay (room_for m) (known most) refl inside (itself m.receives m.widths) 189 (omega (arith, temps)) pushes one le m.body false 0 0 0 empty code
      few_taken (low_held pushes 0 (omega arith))))

  -- with temporaries that are never too few
  ample_fine : (most : ℕ) → Typed (known most) false 0 m.body 0 0
      → Fine false [] 0 (flat lay (with_temps (room_for m) (temps_for (length (own_widths m)) + most)) m.body empty)
  ample_fine most code =
      fine_flat lay (with_temps (room_for m) (temps_for (length (own_widths m)) + most)) (known most) refl inside (itself m.receives m.widths) (omega arith)
      (omega (arith, temps)) m.body false [] empty 0 0 code (nothing [] 0 refl)

module _ (lay : Layout) (m : Procedure) (typed : IsTypedFor lay m) (short : typed.most ≤ 65535 + temps_for (length (own_widths m))) where
  abbrev many : ℕ
  many = temps_for (length (own_widths m)) + typed.most

  pub is_made : IsMade lay m
  is_made = by_near (near_flat lay (room_for m) many (omega arith) m.body empty)
    where
      by_near : Near (made_of lay m) (flat lay (with_temps (room_for m) many) m.body empty) → IsMade lay m
      by_near (inl e) = inl (closed_fine m (made_of lay m) (subst (Fine false [] 0) (sym e) (ample_fine lay m typed.few typed.most typed.code)))
      by_near (inr e) = inr (e, pushed_closed lay m typed.few typed.most 65535 typed.code typed.takes (omega arith) short)

  not_high : IsMade lay m → IsTooHigh lay m → ⊥
  not_high made (inl lt) = let f = own_few m typed.few in omega (arith, lt, f)
  not_high (inl h) (inr e) = not_refused m (made_of lay m) TooHigh h e.0
  not_high (inr h) (inr e) = not_refused m (stacked_of lay m) TooHigh h.1 e.1

  left_by : IsMade lay m → (e : Refusal Fault) → IsCause e lay m → IsLeftFor e lay m
  left_by made OutOfMemory g = tt
  left_by made (Faulty TooHigh) g = not_high made g
  left_by (inl h) (Faulty TooLong) (inl g) = inl (long_in m (made_of lay m) h g.0)
  left_by (inl h) (Faulty TooLong) (inr g) = absurd (not_refused m (made_of lay m) TooHigh h g.0)
  left_by (inr h) (Faulty TooLong) (inl g) = inr (h.0, refused_long m (stacked_of lay m) g.1.0 h.1 g.1.1)
  left_by (inr h) (Faulty TooLong) (inr g) = inr (h.0, long_in m (stacked_of lay m) h.1 g.1)
  left_by (inl h) (Faulty NotTaken) (inl g) = not_taken m (made_of lay m) h g
  left_by (inl h) (Faulty NotTaken) (inr g) = not_refused m (made_of lay m) TooHigh h g.0
  left_by (inr h) (Faulty NotTaken) (inl g) = not_other m (made_of lay m) h.0 g
  left_by (inr h) (Faulty NotTaken) (inr g) = not_taken m (stacked_of lay m) h.1 g.1

  pub is_left : (e : Refusal Fault) → IsCause e lay m → IsLeftFor e lay m
  is_left = left_by is_made

-- ---- how many may wait

module _ (lay : Layout) (m : Procedure) (typed : IsTypedFor lay m) where
  pub as_steps : (t : IsTypedFor lay m) × (t.most ≡ step_count m.body + 2)
  as_steps = (
    record {
      few = typed.few;
      most = step_count m.body + 2;
      code =
          lowered (record { layout = lay; locals = length m.widths; most = typed.most }) m.body false 0 0 0 (step_count m.body + 2) typed.code (omega arith);
      takes = typed.takes;
    },
    refl,
  )

  -- so few steps leave few enough
  pub few_wait : step_count m.body ≤ 65535 → (t : IsTypedFor lay m) × (t.most ≤ 65535 + temps_for (length (own_widths m)))
  few_wait le = (as_steps.0, let e = as_steps.1 in let more = temps lay m typed.few in omega (arith, e, le, more))
