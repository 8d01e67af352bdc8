-- That typed code is flattened with as many temporaries as values may wait.
use Rattle.std.specs.Prelude.{ℕ, zero, suc, ◌+◌, ◌-◌, ◌<◌, ◌≤◌, Bool, false, [], length}
use Rattle.std.proofs.Common.{◌≡◌, inl, refl, sym, subst, arith}
use Rattle.vg_meaning.specs.Code.{Code, Nothing, Then, Do, If, Loop, Break, Continue, Return}
use Rattle.vg_firm.specs.declared.step.Step.{Step}
use Rattle.vg_firm.specs.Program.{Procedure}
use Rattle.vg_flatten_shapes.specs.declared.layout.Layout.{Layout}
use Rattle.vg_flatten_shapes.specs.declared.room.Room.{Room}
use Rattle.vg_flatten_shapes.specs.Shapes.{Shape, empty, is_empty}
use Rattle.vg_flatten_shapes.specs.Blocks.{Block, block_size}
use Rattle.vg_flatten_shapes.specs.Made.{Made, Gives, Refused, after}
use Rattle.vg_flatten_control.specs.Flat.{flat}
use Rattle.vg_firm_typed.specs.Typed.{Known as Knows, Typed}
use Rattle.vg_flatten.specs.Flattened.{receivers, own_widths, temps_for, room_with, IsShortAs, IsFlatFrom}
use Rattle.vg_flatten.proofs.Typed.{Waits, Fine, fine_behind, fine_flat, nothing, nothing_waits, by_if}
use Rattle.vg_flat_sizes.specs.Weights.{flat_weight}
use Rattle.vg_flat_weights.proofs.Whole.{code_short, whole_short}
use Rattle.vg_flat_taken.specs.Taken.{IsClosed}
use Rattle.vg_flat_taken.proofs.Whole.{closed_fine, receiver_few, itself}

-- ---- where no value may wait

module _ (k : Knows) (none : k.most ≡ 0) where
  -- then none ever waits
  never : (c : Code Step) (looped : Bool) (below x y : ℕ) → Typed k looped below c x y → below + x ≡ 0 → y ≡ 0
  never Nothing looped below x y h e = omega (arith, h, e)
  never (Then a b) looped below x y h e =
      let first = never a looped below x h.0 h.1 e in never b looped below h.0 y h.2 (omega (arith, first, e))
  never (Do p) looped below x y h e = let room = h.room in absurd (omega (arith, room, none))
  never (If a b) looped below x y (z, ex, room, ways) e = absurd (omega (arith, room, none))
  never (Loop c body next) looped below x y (before, behind, hc, hb, hn) e = behind
  never Break looped below x y (l, before, behind) e = behind
  never Continue looped below x y (l, before, behind) e = behind
  never Return looped below x y (before, one, behind) e = behind

  -- so no temporary is needed
  module _ (lay : Layout) (r : Room) where
    idle_flat : (c : Code Step) (looped : Bool) (s : Shape) (y : ℕ) → Typed k looped 0 c 0 y → Waits [] 0 s → Fine looped [] y (flat lay r c s)
    idle_flat Nothing looped s y h w = (tt, subst (λ z. Waits [] z s) h w)
    idle_flat (Then a b) looped s y h w =
        behind_first (flat lay r a s) (idle_flat a looped s h.0 h.1 w) (λ s1 w1.
        idle_flat b looped s1 y (subst (λ z. Typed k looped 0 b z y) still h.2) (subst (λ z. Waits [] z s1) still w1))
      where
        still : h.0 ≡ 0
        still = never a looped 0 0 h.0 h.1 refl

        behind_first : (made : Made) → Fine looped [] h.0 made → ((s1 : Shape) → Waits [] h.0 s1 → Fine looped [] y (flat lay r b s1))
            → Fine looped [] y (after made (flat lay r b))
        behind_first (Gives block s1) g go = fine_behind looped [] y block (flat lay r b s1) g.0 (go s1 g.1)
        behind_first (Refused why) g go = absurd g
    idle_flat (Do p) looped s y h w = let room = h.room in absurd (omega (arith, room, none))
    idle_flat (If a b) looped s y (z, ex, room, ways) w = absurd (omega (arith, room, none))
    idle_flat (Loop c body next) looped s y (before, behind, hc, hb, hn) w =
        let one = never c looped 0 0 1 hc refl in absurd (omega (arith, one))
    idle_flat Break looped s y (l, before, behind) w =
        by_if (Fine looped [] y) (is_empty s) _ _ (nothing_waits [] 0 s w refl) (l, subst (λ z. Waits [] z empty) (sym behind) (nothing [] 0 refl))
    idle_flat Continue looped s y (l, before, behind) w =
        by_if (Fine looped [] y) (is_empty s) _ _ (nothing_waits [] 0 s w refl) (l, subst (λ z. Waits [] z empty) (sym behind) (nothing [] 0 refl))
    idle_flat Return looped s y (before, one, behind) w = absurd (omega (arith, one))

-- ---- whole procedures

pub short_as : (m : Procedure) (made : Made) → length m.widths - m.params + flat_weight m.body + 1 ≤ 65519 → IsClosed m made
    → ((b : Block) (s : Shape) → made ≡ Gives b s → block_size b ≤ flat_weight m.body) → IsShortAs m made
short_as m (Refused why) room h short = absurd h
short_as m (Gives b s) room h short = let w = whole_short m b (short b s refl) in (h.0, h.1, omega (arith, w, room))

module _ (lay : Layout) (m : Procedure) (most : ℕ) (few : length m.widths ≤ 60)
    (typed : Typed (record { layout = lay; locals = length m.widths; most = most }) false 0 m.body 0 0) where
  abbrev known : Knows
  known = record { layout = lay; locals = length m.widths; most = most }

  inside : (i : ℕ) → i < length m.widths → receivers m.receives + i < length (own_widths m)
  inside i lt = let l = receiver_few m.receives m.widths in omega (arith, l, lt)

  fine_with : (temps : ℕ) → most ≤ temps → Fine false [] 0 (flat lay (room_with temps m) m.body empty)
  fine_with zero le = idle_flat known (omega (arith, le)) lay (room_with zero m) m.body false empty 0 typed (nothing [] 0 refl)
  fine_with (suc n) le =
      fine_flat lay (room_with (suc n) m) known refl inside (itself m.receives m.widths) le (omega arith) m.body false [] empty 0 0 typed
      (nothing [] 0 refl)

  module _ (within : most ≤ temps_for (length (own_widths m))) (room : length m.widths - m.params + flat_weight m.body + 1 ≤ 65519) where
    pub flat_from : IsFlatFrom lay m most
    flat_from =
        record {
          few = within;
          each = λ temps least there.
              short_as m (flat lay (room_with temps m) m.body empty) room (closed_fine m _ (fine_with temps least))
              (λ b s e. code_short lay (room_with temps m) 0 m.body empty s b (inl e));
        }
