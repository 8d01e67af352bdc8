-- Saved registers, and what a procedure that waits sees of the registers.
use Rattle.std.proofs.Common.{◌≡◌, ◌≢◌, ℕ, zero, suc, ◌+◌, ◌≤◌, ◌⊎◌, inl, inr, Bool, true, false, ◌&&◌, ◌==◌, if◌then◌else◌, List, [], ◌∷◌, length}
use Rattle.std.proofs.Common.{refl, ap, ◌∙◌, arith}
use Rattle.std.proofs.Common.{length-take, length-drop}
use Rattle.std.specs.Prelude.{map, drop}
use Rattle.vg_lin.specs.Steps.{Awaits, Frame}
use Rattle.vg_lin.specs.State.{LocalState, State}
use Rattle.avr_view.specs.Registers.{Regs, put}
use Rattle.vg_templates.specs.Spots.{Spot, InFrame, InRegisters, number, value_at}
use Rattle.vg_templates.specs.Layouts.{Layout, frame_size, width_of, outlives, IsLayout, IsOwned, IsReliable, IsIn, IsSpot, Agree, Outlive}
use Rattle.vg_templates.specs.Frames.{Fits, restored, saved_bytes, found, Places, wanted, needed, Points, Callers}

-- a register that is saved, or the same, is the same once the saved ones have their bytes again
pub restored_still : (ds bs : List ℕ) (old new : Regs) (d : ℕ) → length bs ≡ length ds → IsIn d ds ⊎ (new.of d ≡ old.of d)
    → (restored ds bs new).of d ≡ (restored ds bs old).of d
restored_still [] bs old new d h (inl none) = absurd none
restored_still [] bs old new d h (inr same) = same
restored_still (x ∷ xs) [] old new d h k = absurd (let none : 0 ≡ suc (length xs) = h in omega arith)
restored_still (x ∷ xs) (b ∷ bs) old new d h k =
    let fewer : length bs ≡ length xs = omega (arith, h) in restored_still xs bs (put old x b) (put new x b) d fewer (at (d == x) refl k)
  where
    at : (q : Bool) → (d == x) ≡ q → IsIn d (x ∷ xs) ⊎ (new.of d ≡ old.of d) → IsIn d xs ⊎ ((if q then b else new.of d) ≡ (if q then b else old.of d))
    at true e k = inr refl
    at false e (inl (inl here)) = absurd (let ne : d ≢ x = grind arith in ne here)
    at false e (inl (inr there)) = inl there
    at false e (inr same) = inr same

-- what was saved comes back
pub restored_back : (ds : List ℕ) (g h : Regs) (d : ℕ) → IsIn d ds ⊎ (h.of d ≡ g.of d) → (restored ds (map g.of ds) h).of d ≡ g.of d
restored_back [] g h d (inl none) = absurd none
restored_back [] g h d (inr same) = same
restored_back (x ∷ xs) g h d k = restored_back xs g (put h x (g.of x)) d (at (d == x) refl k)
  where
    at : (q : Bool) → (d == x) ≡ q → IsIn d (x ∷ xs) ⊎ (h.of d ≡ g.of d) → IsIn d xs ⊎ ((if q then g.of x else h.of d) ≡ g.of d)
    at true e k = let same : x ≡ d = grind arith in inr (ap g.of same)
    at false e (inl (inl here)) = absurd (let ne : d ≢ x = grind arith in ne here)
    at false e (inl (inr there)) = inl there
    at false e (inr same) = inr same

-- what outlives a call is a procedure's own
pub owned : (d : ℕ) → IsReliable d → IsOwned d
owned d (inl h) = inl (h.0, (let top = h.1 in omega arith))
owned d (inr h) = inr h

-- where registers agree, so do values, and what lies in frames and registers
number_agrees : (old new : Regs) (r w : ℕ) → Agree old new → 2 ≤ r → r + w ≤ 18 → number new r w ≡ number old r w
number_agrees old new r zero h lo hi = refl
number_agrees old new r (suc w) h lo hi =
    let one = h r (inl (lo, omega arith)) in let rest = number_agrees old new (suc r) w h (omega arith) (omega arith) in omega (arith, one, rest)

value_agrees : (l : Layout) (old new : Regs) (s : Spot) (w : ℕ) (own : List ℕ) → Agree old new → IsSpot l s w → value_at s w own new ≡ value_at s w own old
value_agrees l old new (InFrame at) w own h k = refl
value_agrees l old new (InRegisters r) w own h k = number_agrees old new r w h k.0 k.1

pub fits_agree : (l : Layout) (live : ℕ → Bool) (locals : List LocalState) (own : List ℕ) (old new : Regs) → IsLayout l → Agree old new
    → Fits l live locals own old → Fits l live locals own new
fits_agree l live locals own old new ok h f =
    record {
      each = λ k x low alive got. value_agrees l old new (l.spots k) _ own h (ok.spot k low) ∙ f.each k x low alive got;
      widths = f.widths;
      long = f.long;
    }

-- the same of registers that outlive a call, and of locals in them
number_outlives : (old new : Regs) (r w : ℕ) → Outlive old new → 2 ≤ r → r + w ≤ 8 → number new r w ≡ number old r w
number_outlives old new r zero h lo hi = refl
number_outlives old new r (suc w) h lo hi =
    let one = h r (inl (lo, omega arith)) in
    let rest = number_outlives old new (suc r) w h (omega arith) (omega arith) in omega (arith, one, rest)

value_outlives : (l : Layout) (old new : Regs) (s : Spot) (w : ℕ) (own : List ℕ) → Outlive old new → IsSpot l s w → outlives s w ≡ true
    → value_at s w own new ≡ value_at s w own old
value_outlives l old new (InFrame at) w own h k o = refl
value_outlives l old new (InRegisters r) w own h k o = number_outlives old new r w h k.0 (let low : r + w ≤ 8 = grind (arith, o) in low)

pub fits_outlive : (l : Layout) (live : ℕ → Bool) (locals : List LocalState) (own : List ℕ) (old new : Regs) → IsLayout l → Outlive old new
    → ((k : ℕ) → live k ≡ true → outlives (l.spots k) (width_of l k) ≡ true) → Fits l live locals own old → Fits l live locals own new
fits_outlive l live locals own old new ok h all f =
    record {
      each = λ k x low alive got. value_outlives l old new (l.spots k) (width_of l k) own h (ok.spot k low) (all k alive) ∙ f.each k x low alive got;
      widths = f.widths;
      long = f.long;
    }

both_true : (a b : Bool) → (a && b) ≡ true → b ≡ true
both_true true b e = e
both_true false b e = absurd (let clash : false ≡ true = e in cc)

pub needed_outlives : (i : Places) (m pc : ℕ) (a : Awaits) (k : ℕ) → needed i m a pc k ≡ true
    → outlives ((i.layouts m).spots k) (width_of (i.layouts m) k) ≡ true
needed_outlives i m pc a k h = both_true (wanted (i.live m) a pc k) _ h

-- fewer locals are needed
pub fits_fewer : (l : Layout) (live fewer : ℕ → Bool) (locals : List LocalState) (own : List ℕ) (g : Regs) → ((k : ℕ) → fewer k ≡ true → live k ≡ true)
    → Fits l live locals own g → Fits l fewer locals own g
fits_fewer l live fewer locals own g h f =
    record { each = λ k x low alive got. f.each k x low (h k alive) got; widths = f.widths; long = f.long }

pub points_outlive : (l : Layout) (own under : List ℕ) (old new : Regs) → Outlive old new → Points l own under old → Points l own under new
points_outlive l own under old new h p pointed =
    let low = h 28 (inr (omega arith, omega arith)) in
    let high = h 29 (inr (omega arith, omega arith)) in
    let base = p pointed in
    omega (arith, low, high, base)

-- a whole frame has all its saved bytes
pub saved_long : (l : Layout) (own : List ℕ) → length own ≡ frame_size l → length (saved_bytes l own) ≡ length l.saved
saved_long l own h = omega (arith, length-take (length l.saved) (drop l.slots own), length-drop l.slots own)

-- what a procedure does with scratch registers, and with registers that it has saved, its callers do not see
pub callers_still : (i : Places) → ((m : ℕ) → IsLayout (i.layouts m)) → (fs : List (Frame State)) (m : ℕ) (own under : List ℕ) (old new : Regs)
    → length (saved_bytes (i.layouts m) own) ≡ length (i.layouts m).saved
    → ((d : ℕ) → IsReliable d → IsIn d (i.layouts m).saved ⊎ (new.of d ≡ old.of d)) → Callers i fs m own under old → Callers i fs m own under new
callers_still i ok [] m own under old new long h k = k
callers_still i ok (f ∷ fs) m own under old new long h (c, more) =
    let l = i.layouts m in
    let before = found l own old in
    let after = found l own new in
    let agree : Outlive before after = λ d r. restored_still l.saved (saved_bytes l own) old new d long (h d r) in (
      record {
        wait = c.wait;
        own = c.own;
        under = c.under;
        cut = c.cut;
        link = c.link;
        points = points_outlive (i.layouts f.proc) c.own c.under before after agree c.points;
        waits = c.waits;
        fits =
            fits_outlive (i.layouts f.proc) (needed i f.proc f.awaits f.pc) f.kept.locals c.own before after (ok f.proc) agree
            (needed_outlives i f.proc f.pc f.awaits) c.fits;
      },
      callers_still i ok fs f.proc c.own c.under before after (saved_long (i.layouts f.proc) c.own c.fits.long) (λ d r. inr (agree d r)) more,
    )
