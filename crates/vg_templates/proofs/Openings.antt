-- A procedure begins above its caller, and goes back to it.
use Rattle.std.proofs.Common.{◌≡◌, ℕ, zero, suc, ◌⊎◌, inr, List, [], ◌∷◌, ◌++◌, length}
use Rattle.std.proofs.Common.{refl, ap, ◌∙◌, arith}
use Rattle.std.specs.Prelude.{map, take, drop}
use Rattle.vg_lin.specs.Steps.{Awaits, Frame}
use Rattle.vg_lin.specs.State.{State}
use Rattle.avr_view.specs.Registers.{Regs}
use Rattle.vg_templates.specs.Layouts.{Layout, IsLayout, IsReliable, IsIn, Outlive}
use Rattle.vg_templates.specs.Frames.{Fits, Waits, restored, saved_bytes, found, Places, word_bytes, between, back_to, needed, Points, Caller, Callers, Stacked}
use Rattle.vg_templates.proofs.Saving.{restored_back, fits_outlive, needed_outlives, points_outlive, callers_still, saved_long}

-- cuts of a list by the length of its front
drop_front : {A : Type 0} (xs ys : List A) (n : ℕ) → length xs ≡ n → drop n (xs ++ ys) ≡ ys
drop_front [] ys zero h = refl
drop_front [] ys (suc n) h = absurd (let none : 0 ≡ suc n = h in omega arith)
drop_front (x ∷ xs) ys zero h = absurd (let none : suc (length xs) ≡ 0 = h in omega arith)
drop_front (x ∷ xs) ys (suc n) h = drop_front xs ys n (let e : length xs ≡ n = omega (arith, h) in e)

take_front : {A : Type 0} (xs ys : List A) (n : ℕ) → length xs ≡ n → take n (xs ++ ys) ≡ xs
take_front [] ys zero h = refl
take_front [] ys (suc n) h = absurd (let none : 0 ≡ suc n = h in omega arith)
take_front (x ∷ xs) ys zero h = absurd (let none : suc (length xs) ≡ 0 = h in omega arith)
take_front (x ∷ xs) ys (suc n) h = ap (λ l. x ∷ l) (take_front xs ys n (let e : length xs ≡ n = omega (arith, h) in e))

pub saved-length : (g : Regs) (ds : List ℕ) → length (map g.of ds) ≡ length ds
saved-length g [] = refl
saved-length g (d ∷ ds) = ap suc (saved-length g ds)

-- the frame of a procedure that begins
abbrev pub opened : (slots : List ℕ) (g : Regs) (saved : List ℕ) (back : ℕ) (args : List ℕ) → List ℕ
opened slots g saved back args = slots ++ (map g.of saved ++ (word_bytes back ++ args))

module _ (l : Layout) (slots : List ℕ) (g : Regs) (back : ℕ) (args : List ℕ) (enough : length slots ≡ l.slots) where
  pub opened-saved : saved_bytes l (opened slots g l.saved back args) ≡ map g.of l.saved
  opened-saved =
      ap (take (length l.saved)) (drop_front slots (map g.of l.saved ++ (word_bytes back ++ args)) l.slots enough)
      ∙ take_front (map g.of l.saved) (word_bytes back ++ args) (length l.saved) (saved-length g l.saved)

  pub opened-link : take 2 (drop (length l.saved) (drop l.slots (opened slots g l.saved back args))) ≡ word_bytes back
  opened-link =
      ap (λ m. take 2 (drop (length l.saved) m)) (drop_front slots (map g.of l.saved ++ (word_bytes back ++ args)) l.slots enough)
      ∙ ap (take 2) (drop_front (map g.of l.saved) (word_bytes back ++ args) (length l.saved) (saved-length g l.saved))

module _ (i : Places) (ok : (m : ℕ) → IsLayout (i.layouts m)) where
  -- the procedure q is entered from m, which waits for it: its frame lies above what waits in m
  pub callers_begin : (q m pc : ℕ) (a : Awaits) (kept : State) (frames : List (Frame State)) (slots args wait own under : List ℕ) (old new : Regs)
      → length slots ≡ (i.layouts q).slots
      → ((d : ℕ) → IsReliable d → IsIn d (i.layouts q).saved ⊎ (new.of d ≡ old.of d))
      → Points (i.layouts m) own under old → Waits kept.waiting wait → Fits (i.layouts m) (needed i m a pc) kept.locals own old
      → Callers i frames m own under old
      → Callers i (record { proc = m; pc = pc; kept = kept; awaits = a } ∷ frames) q (opened slots old (i.layouts q).saved (back_to i a q m pc) args)
      (between i a m pc ++ (wait ++ (own ++ under))) new
  callers_begin q m pc a kept frames slots args wait own under old new enough still points waits fits more =
      let l = i.layouts q in
      let back = back_to i a q m pc in
      let frame = opened slots old l.saved back args in
      let agree : Outlive old (found l frame new) =
      λ d r. ap (λ bs. (restored l.saved bs new).of d) (opened-saved l slots old back args enough) ∙ restored_back l.saved old new d (still d r) in
      let caller : Caller i (record { proc = m; pc = pc; kept = kept; awaits = a }) q frame (between i a m pc ++ (wait ++ (own ++ under))) (found l frame new) =
      record {
        wait = wait;
        own = own;
        under = under;
        cut = refl;
        link = opened-link l slots old back args enough;
        points = points_outlive (i.layouts m) own under old (found l frame new) agree points;
        waits = waits;
        fits =
            fits_outlive (i.layouts m) (needed i m a pc) kept.locals own old (found l frame new) (ok m) agree (needed_outlives i m pc a) fits;
      } in (
        caller,
        callers_still i ok frames m own under old (found l frame new) (saved_long (i.layouts m) own fits.long) (λ d r. inr (agree d r)) more,
      )

  -- the procedure q goes back to the newest frame, which finds its registers, what waits and its locals again
  pub callers_resume : (q : ℕ) (f : Frame State) (frames : List (Frame State)) (own under : List ℕ) (old new : Regs)
      → Outlive (found (i.layouts q) own old) new → (k : Callers i (f ∷ frames) q own under old)
      → Stacked i f.proc (needed i f.proc f.awaits f.pc) f.kept frames (k.0.wait ++ (k.0.own ++ k.0.under)) new
  callers_resume q f frames own under old new agree (c, more) =
      let back = found (i.layouts q) own old in
      record {
        wait = c.wait;
        own = c.own;
        under = c.under;
        cut = refl;
        points = points_outlive (i.layouts f.proc) c.own c.under back new agree c.points;
        waits = c.waits;
        fits =
            fits_outlive (i.layouts f.proc) (needed i f.proc f.awaits f.pc) f.kept.locals c.own back new (ok f.proc) agree
            (needed_outlives i f.proc f.pc f.awaits) c.fits;
        callers = callers_still i ok frames f.proc c.own c.under back new (saved_long (i.layouts f.proc) c.own c.fits.long) (λ d r. inr (agree d r)) more;
      }
