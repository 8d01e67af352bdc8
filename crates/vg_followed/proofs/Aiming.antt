-- Values come into Z.
use Rattle.std.proofs.Common.{◌≡◌, ◌≢◌, ℕ, ◌+◌, ◌%◌, ◌<◌, ◌≤◌, ◌⊎◌, inl, inr, Bool, List, [], ◌∷◌, ◌++◌}
use Rattle.std.proofs.Common.{Some, refl, sym, ap, ◌∙◌, subst, arith}
use Rattle.avr_instr.specs.declared.instr.Instr.TheVariants.{Movw}
use Rattle.vg_lin.specs.declared.instr.Operand.{Operand}
use Rattle.vg_lin.specs.declared.instr.Operand.TheVariants.{Local, Known}
use Rattle.vg_lin.specs.Steps.{Frame}
use Rattle.vg_lin.specs.State.{State, value}
use Rattle.avr_view.specs.Registers.{pair, put, does_all}
use Rattle.avr_view.specs.Run.{Run}
use Rattle.avr_view.specs.View.{View}
use Rattle.vg_templates.specs.Spots.{Spot, InFrame, InRegisters, number, put_number, value_at}
use Rattle.vg_templates.specs.Layouts.{IsLayout, IsOwned, width_of}
use Rattle.vg_templates.specs.Frames.{Places}
use Rattle.vg_templates.specs.Pieces.{Takes}
use Rattle.vg_templates.specs.Transfers.{known, moves, fetch}
use Rattle.vg_templates.specs.Transferred.{IsUsable, Fetched}
use Rattle.vg_templates.specs.Held.{Held, IsReady}
use Rattle.vg_templates.specs.Pointers.{fetch_z, brings_z}
use Rattle.vg_templates.proofs.Numbers.{put_other, put_number-beside, number-put}
use Rattle.vg_templates.proofs.Moving.{moves-plain, moves-put}
use Rattle.vg_templates.proofs.Composing.{takes_then, takes_wider, takes_bytes, takes_plain}
use Rattle.vg_templates.proofs.Spotting.{takes_known, takes_fetch}
use Rattle.vg_templates.proofs.Holding.{held_scratch, usable}

-- Z holds the low bytes of a value, and of all other registers X alone may have changed
pub record InZ (value : ℕ) (old new : View) : Type 0 where
  pub others : (x : ℕ) → x < 30 → (x < 26) ⊎ (28 ≤ x) → new.regs.of x ≡ old.regs.of x
  pub pointer : pair new.regs 30 ≡ value % 65536
  pub same : new ≡ record old { regs = new.regs }

-- and the procedure lies as before
pub record BroughtZ (i : Places) (m : ℕ) (live : ℕ → Bool) (s : State) (frames : List (Frame State)) (value : ℕ) (old new : View) : Type 0 where
  pub held : Held i m live s frames new
  pub inside : InZ value old new

put_in_z : (v u : View) (x : ℕ) → u ≡ record v { regs = put_number v.regs 30 2 x } → InZ x v u
put_in_z v u x k =
    subst (InZ x v) (sym k)
    (let holds = number-put v.regs 30 2 x in
    record { others = λ y low beside. put_number-beside v.regs 30 2 x y (inl low); pointer = omega (arith, holds); same = refl })

module _ (e : Run) (deep : Type 0) where
  -- what is in X goes to Z
  by_x : (x : ℕ) (v u : View) → Fetched 26 2 x v u → Takes e deep u (Movw 30 26 ∷ []) (InZ x v)
  by_x x v u f =
      takes_wider e deep u (Movw 30 26 ∷ []) (λ t. t ≡ record u { regs = does_all e.flash (Movw 30 26 ∷ []) u.regs }) (InZ x v)
      (λ t k. subst (InZ x v) (sym k) moved) (takes_plain e deep u (Movw 30 26 ∷ []) (tt, tt))
    where
      past : (y : ℕ) → y < 30 → (y < 26) ⊎ (26 + 2 ≤ y) → (does_all e.flash (Movw 30 26 ∷ []) u.regs).of y ≡ v.regs.of y
      past y low beside =
          put_other (put u.regs 30 _) 31 _ y (let ne : y ≢ 31 = omega arith in ne)
          ∙ put_other u.regs 30 _ y (let ne : y ≢ 30 = omega arith in ne)
          ∙ f.others y low beside

      moved : InZ x v (record u { regs = does_all e.flash (Movw 30 26 ∷ []) u.regs })
      moved =
          let holds = f.holds in
          record {
            others = past;
            pointer = omega (arith, holds);
            same = ap (λ (y : View). record y { regs = does_all e.flash (Movw 30 26 ∷ []) u.regs }) f.same;
          }

  takes_fetch_z : (s : Spot) (w : ℕ) (v : View) (wait own under : List ℕ) → v.stack ≡ wait ++ (own ++ under) → IsUsable s w own under v → w ≤ 4
      → v.regs.of 1 ≡ 0 → Takes e deep v (fetch_z s w) (InZ (value_at s w own v.regs) v)
  takes_fetch_z (InFrame at) w v wait own under cut can small zero' =
      let x = value_at (InFrame at) w own v.regs in
      takes_then e deep v (fetch (InFrame at) w 26 2) (Movw 30 26 ∷ []) (Fetched 26 2 x v) (InZ x v)
      (takes_fetch e deep (InFrame at) w 26 2 v wait own under cut can small (omega arith) (omega arith) zero') (λ u f. by_x x v u f)
  takes_fetch_z (InRegisters r) w v wait own under cut can small zero' =
      let is = moves r 30 w 2 in
      let x = number v.regs r w in
      let top = can.1 in
      takes_bytes e deep v is (InZ x v)
      (λ bytes. takes_wider e deep v is (λ u. u ≡ record v { regs = does_all e.flash is v.regs }) (InZ x v)
      (λ u k. put_in_z v u x (k ∙ ap (λ g. record v { regs = g })
      (moves-put e.flash r 30 w 2 v.regs zero' (omega arith) (inl (omega (arith, top))) (λ y lo hi. bytes y (omega (arith, hi, top))))))
      (takes_plain e deep v is (moves-plain r 30 w 2)))

module _ (i : Places) (ok : (m : ℕ) → IsLayout (i.layouts m)) (m : ℕ) (frames : List (Frame State)) (e : Run) (deep : Type 0) where
  in_z-held : (live : ℕ → Bool) (s : State) (x : ℕ) (v u : View) → Held i m live s frames v → InZ x v u → BroughtZ i m live s frames x v u
  in_z-held live s x v u k z =
      record { held = held_scratch i ok m frames live s v u z.same agree (z.others 1 (omega arith) (inl (omega arith))) k; inside = z }
    where
      agree : (r : ℕ) → IsOwned r → u.regs.of r ≡ v.regs.of r
      agree r (inl h) = let up = h.1 in z.others r (omega arith) (inl (omega arith))
      agree r (inr h) = z.others r h.1 (inr h.0)

  -- an operand is read into Z
  pub takes_brings_z : (live : ℕ → Bool) (s : State) (a : Operand) (x : ℕ) (v : View) → IsReady (i.layouts m) live a → value a s ≡ Some x
      → Held i m live s frames v → Takes e deep v (brings_z (i.layouts m) a) (BroughtZ i m live s frames x v)
  takes_brings_z live s (Known y) x v ready got k =
      let same : y ≡ x = some_same y x got in
      takes_then e deep v (known 26 2 y) (Movw 30 26 ∷ []) (Fetched 26 2 y v) (BroughtZ i m live s frames x v) (takes_known e deep 26 2 y v)
      (λ u f. takes_wider e deep u (Movw 30 26 ∷ []) (InZ x v) (BroughtZ i m live s frames x v) (λ t z. in_z-held live s x v t k z)
      (by_x e deep x v u (subst (λ z. Fetched 26 2 z v u) same f)))
    where
      some_same : (a b : ℕ) → Some a ≡ Some b → a ≡ b
      some_same a b e1 = cc
  takes_brings_z live s (Local j) x v ready got k =
      let l = i.layouts m in
      let t = k.stacked in
      let w = width_of l j in
      let value_is : value_at (l.spots j) w t.own v.regs ≡ x = t.fits.each j x ready.0 ready.1 got in
      takes_wider e deep v (fetch_z (l.spots j) w) (InZ (value_at (l.spots j) w t.own v.regs) v) (BroughtZ i m live s frames x v)
      (λ u z. in_z-held live s x v u k (subst (λ y. InZ y v u) value_is z))
      (takes_fetch_z e deep (l.spots j) w v t.wait t.own t.under t.cut
      (usable l (l.spots j) w t.own t.under v ((ok m).spot j ready.0) t.points t.fits.long) ((ok m).narrow j ready.0) k.r1)
