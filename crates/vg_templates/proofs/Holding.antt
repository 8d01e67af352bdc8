-- Operands are read and locals are set where a procedure lies in what the code sees.
use Rattle.std.proofs.Common.{◌≡◌, ℕ, ◌+◌, ◌<◌, ◌≤◌, inl, inr, Bool, List, ◌++◌, length, Some, refl, sym, ap, ◌∙◌, subst, arith}
use Rattle.vg_lin.specs.declared.instr.Operand.{Operand}
use Rattle.vg_lin.specs.declared.instr.Operand.TheVariants.{Local, Known}
use Rattle.vg_lin.specs.Steps.{Frame}
use Rattle.vg_lin.specs.State.{State, value, sets}
use Rattle.avr_view.specs.Registers.{Regs}
use Rattle.avr_view.specs.Run.{Run}
use Rattle.avr_view.specs.View.{View}
use Rattle.vg_templates.specs.Spots.{Spot, InFrame, InRegisters, number, value_at, frame_with, registers_with}
use Rattle.vg_templates.specs.Layouts.{Layout, IsLayout, IsSpot, IsOwned, Agree, frame_size, width_of}
use Rattle.vg_templates.specs.Frames.{Places, Points, Stacked}
use Rattle.vg_templates.proofs.Saving.{owned, fits_agree, points_outlive, callers_still, saved_long}
use Rattle.vg_templates.proofs.Settings.{fits_set, callers_set, points_set}
use Rattle.vg_templates.proofs.Numbers.{put_number-beside}
use Rattle.vg_templates.specs.Pieces.{Takes}
use Rattle.vg_templates.specs.Transfers.{known, known_number, fetch, keep}
use Rattle.vg_templates.specs.Transferred.{IsUsable, Fetched, Kept}
use Rattle.vg_templates.specs.Held.{Held, IsReady, IsSet, brings, gives, Brought, Given}
use Rattle.vg_templates.proofs.Composing.{takes_wider}
use Rattle.vg_templates.proofs.Spotting.{takes_known, takes_known_number, takes_fetch, takes_keep, takes_keep_frame}

-- a spot of a layout can be used where its frame lies
pub usable : (l : Layout) (s : Spot) (w : ℕ) (own under : List ℕ) (v : View) → IsSpot l s w → Points l own under v.regs → length own ≡ frame_size l
    → IsUsable s w own under v
usable l (InFrame at) w own under v ok points long = let inside = ok.1 in (points ok.0, omega arith)
usable l (InRegisters r) w own under v ok points long = (ok.0, ok.1)

module _ (i : Places) (ok : (m : ℕ) → IsLayout (i.layouts m)) (m : ℕ) (frames : List (Frame State)) where
  pub stacked_agree : (live : ℕ → Bool) (s : State) (stack : List ℕ) (old new : Regs) → Agree old new → Stacked i m live s frames stack old
      → Stacked i m live s frames stack new
  stacked_agree live s stack old new h k =
      record {
        wait = k.wait;
        own = k.own;
        under = k.under;
        cut = k.cut;
        points = points_outlive (i.layouts m) k.own k.under old new (λ d r. h d (owned d r)) k.points;
        waits = k.waits;
        fits = fits_agree (i.layouts m) live s.locals k.own old new (ok m) h k.fits;
        callers = callers_still i ok frames m k.own k.under old new (saved_long (i.layouts m) k.own k.fits.long) (λ d r. inr (h d (owned d r))) k.callers;
      }

  -- scratch registers change
  pub held_scratch : (live : ℕ → Bool) (s : State) (v u : View) → u ≡ record v { regs = u.regs } → Agree v.regs u.regs → u.regs.of 1 ≡ v.regs.of 1
      → Held i m live s frames v → Held i m live s frames u
  held_scratch live s v u same agree one k =
      record {
        stacked = subst (λ l. Stacked i m live s frames l u.regs) (sym (ap (λ (t : View). t.stack) same)) (stacked_agree live s v.stack v.regs u.regs agree k.stacked);
        r1 = one ∙ k.r1;
        ram = ap (λ (t : View). t.static) same ∙ k.ram;
      }

  fetched-held : (live : ℕ → Bool) (s : State) (d n x : ℕ) (v u : View) → 18 ≤ d → d + n ≤ 28 → Fetched d n x v u → Held i m live s frames v
      → Brought i m live s frames d n x v u
  fetched-held live s d n x v u low top f k =
      record {
        held = held_scratch live s v u f.same (λ r reliable. agree r reliable) (f.others 1 (omega arith) (inl (omega arith))) k;
        fetched = f;
      }
    where
      agree : (r : ℕ) → IsOwned r → u.regs.of r ≡ v.regs.of r
      agree r (inl h) = let top' = h.1 in f.others r (omega arith) (inl (omega arith))
      agree r (inr h) = let low' = h.0 in let top' = h.1 in f.others r (omega arith) (inr (omega arith))

  -- a local has got a value at its spot
  pub held_set : (live behind : ℕ → Bool) (s : State) (to x : ℕ) (v u : View) → IsSet (i.layouts m) live behind to → (k : Held i m live s frames v)
      → Agree (registers_with ((i.layouts m).spots to) (width_of (i.layouts m) to) v.regs x) u.regs → u.regs.of 1 ≡ 0 → u.static ≡ v.static
      → u.stack ≡ k.stacked.wait ++ (frame_with ((i.layouts m).spots to) (width_of (i.layouts m) to) k.stacked.own x ++ k.stacked.under)
      → Held i m behind (sets to x s) frames u
  held_set live behind s to x v u can k agree one static here =
      let l = i.layouts m in
      let t = k.stacked in
      let w = width_of l to in
      let spot = (ok m).spot to can.there in
      let own' = frame_with (l.spots to) w t.own x in
      let put = registers_with (l.spots to) w v.regs x in
      let set : Stacked i m behind (sets to x s) frames (t.wait ++ (own' ++ t.under)) put =
      record {
        wait = t.wait;
        own = own';
        under = t.under;
        cut = refl;
        points = points_set l t.own t.under v.regs (l.spots to) w x spot t.points;
        waits = t.waits;
        fits = fits_set l live behind s.locals t.own v.regs to x (ok m) can.there can.others t.fits;
        callers = callers_set i ok frames m t.own t.under v.regs (l.spots to) w x spot t.fits.long t.callers;
      } in
      record {
        stacked =
            subst (λ y. Stacked i m behind (sets to x s) frames y u.regs) (sym here)
            (stacked_agree behind (sets to x s) (t.wait ++ (own' ++ t.under)) put u.regs agree set);
        r1 = one;
        ram = static ∙ k.ram;
      }

  -- a number went to a local
  given_by : (live behind : ℕ → Bool) (s : State) (to x : ℕ) (v u : View) → IsSet (i.layouts m) live behind to → (k : Held i m live s frames v)
      → Kept ((i.layouts m).spots to) (width_of (i.layouts m) to) x k.stacked.wait k.stacked.own k.stacked.under v u
      → Given i m behind (sets to x s) frames v u
  given_by live behind s to x v u can k kept =
      let l = i.layouts m in
      let w = width_of l to in
      let spot = (ok m).spot to can.there in
      record {
        held =
            held_set live behind s to x v u can k (λ d reliable. kept.registers d (below d reliable))
            (kept.registers 1 (omega arith) ∙ one (l.spots to) w x spot ∙ k.r1) (ap (λ (y : View). y.static) kept.same)
            (ap (λ (y : View). y.stack) kept.same);
        scratch = λ d from below'. kept.registers d (omega arith) ∙ past (l.spots to) w x spot d from;
        out = ap (λ (y : View). y.out) kept.same;
      }
    where
      below : (d : ℕ) → IsOwned d → d < 30
      below d (inl h) = let top' = h.1 in omega arith
      below d (inr h) = h.1

      past : (p : Spot) (w x : ℕ) → IsSpot (i.layouts m) p w → (d : ℕ) → 18 ≤ d → (registers_with p w v.regs x).of d ≡ v.regs.of d
      past (InFrame at) w x h d from = refl
      past (InRegisters f) w x h d from = let top' = h.1 in put_number-beside v.regs f w x d (inr (omega arith))

      one : (p : Spot) (w x : ℕ) → IsSpot (i.layouts m) p w → (registers_with p w v.regs x).of 1 ≡ v.regs.of 1
      one (InFrame at) w x h = refl
      one (InRegisters f) w x h = let up = h.0 in put_number-beside v.regs f w x 1 (inl (omega arith))

  module _ (e : Run) (deep : Type 0) where
    -- a known number comes, byte by byte
    pub takes_brings_known : (live : ℕ → Bool) (s : State) (d n x : ℕ) (v : View) → 18 ≤ d → d + n ≤ 28 → Held i m live s frames v
        → Takes e deep v (known d n x) (Brought i m live s frames d n x v)
    takes_brings_known live s d n x v low top k =
        takes_wider e deep v (known d n x) (Fetched d n x v) (Brought i m live s frames d n x v)
        (λ u f. fetched-held live s d n x v u low top f k) (takes_known e deep d n x v)

    -- an operand is read
    pub takes_brings : (live : ℕ → Bool) (s : State) (a : Operand) (d n x : ℕ) (v : View) → IsReady (i.layouts m) live a → value a s ≡ Some x
        → 18 ≤ d → d + n ≤ 28 → Held i m live s frames v → Takes e deep v (brings (i.layouts m) a d n) (Brought i m live s frames d n x v)
    takes_brings live s (Known y) d n x v ready got low top k =
        let same : y ≡ x = (let e1 : Some y ≡ Some x = got in some_same y x e1) in
        takes_wider e deep v (known_number d n y) (Fetched d n y v) (Brought i m live s frames d n x v)
        (λ u f. fetched-held live s d n x v u low top (subst (λ z. Fetched d n z v u) same f) k) (takes_known_number e deep d n y v)
      where
        some_same : (a b : ℕ) → Some a ≡ Some b → a ≡ b
        some_same a b e1 = cc
    takes_brings live s (Local j) d n x v ready got low top k =
        let l = i.layouts m in
        let t = k.stacked in
        let is = fetch (l.spots j) (width_of l j) d n in
        let spot = (ok m).spot j ready.0 in
        let value_is : value_at (l.spots j) (width_of l j) t.own v.regs ≡ x = t.fits.each j x ready.0 ready.1 got in
        takes_wider e deep v is (Fetched d n (value_at (l.spots j) (width_of l j) t.own v.regs) v) (Brought i m live s frames d n x v)
        (λ u f. fetched-held live s d n x v u low top (subst (λ z. Fetched d n z v u) value_is f) k)
        (takes_fetch e deep (l.spots j) (width_of l j) d n v t.wait t.own t.under t.cut
        (usable l (l.spots j) (width_of l j) t.own t.under v spot t.points t.fits.long) ((ok m).narrow j ready.0) low top k.r1)

    -- a local is set
    pub takes_gives : (live behind : ℕ → Bool) (s : State) (to r n : ℕ) (v : View) → IsSet (i.layouts m) live behind to → 18 ≤ r → r + n ≤ 28
        → Held i m live s frames v
        → Takes e deep v (gives (i.layouts m) to r n) (Given i m behind (sets to (number v.regs r n) s) frames v)
    takes_gives live behind s to r n v can low top k =
        let l = i.layouts m in
        let t = k.stacked in
        let spot = (ok m).spot to can.there in
        let x = number v.regs r n in
        takes_wider e deep v (keep (l.spots to) (width_of l to) r n) (Kept (l.spots to) (width_of l to) x t.wait t.own t.under v)
        (Given i m behind (sets to x s) frames v)
        (λ u kept. given_by live behind s to x v u can k kept)
        (takes_keep e deep (l.spots to) (width_of l to) r n v t.wait t.own t.under t.cut
        (usable l (l.spots to) (width_of l to) t.own t.under v spot t.points t.fits.long) ((ok m).narrow to can.there) low top k.r1)

    -- a local in the frame is set from any registers below Z
    pub takes_gives_frame : (live behind : ℕ → Bool) (s : State) (to at r n : ℕ) (v : View) → IsSet (i.layouts m) live behind to
        → (i.layouts m).spots to ≡ InFrame at → r + n ≤ 30 → Held i m live s frames v
        → Takes e deep v (gives (i.layouts m) to r n) (Given i m behind (sets to (number v.regs r n) s) frames v)
    takes_gives_frame live behind s to at r n v can is top k =
        let l = i.layouts m in
        let t = k.stacked in
        let w = width_of l to in
        let spot = (ok m).spot to can.there in
        let x = number v.regs r n in
        takes_wider e deep v (keep (l.spots to) w r n) (Kept (l.spots to) w x t.wait t.own t.under v) (Given i m behind (sets to x s) frames v)
        (λ u kept. given_by live behind s to x v u can k kept)
        (subst (λ p. Takes e deep v (keep p w r n) (Kept p w x t.wait t.own t.under v)) (sym is)
        (takes_keep_frame e deep at w r n v t.wait t.own t.under t.cut
        (subst (λ p. IsUsable p w t.own t.under v) is (usable l (l.spots to) w t.own t.under v spot t.points t.fits.long)) ((ok m).narrow to can.there) top k.r1))
