-- A local gets a value that was made in registers of its own, or in scratch ones.
use Rattle.std.proofs.Common.{◌≡◌, ℕ, zero, suc, ◌+◌, ◌-◌, ◌*◌, ◌/◌, ◌%◌, ◌<◌, ◌≤◌, ◌⊎◌, inl, inr, Bool, true, false, nat_le, if◌then◌else◌}
use Rattle.std.proofs.Common.{List, ◌++◌, length, Option, Some, None, refl, sym, ap, ◌∙◌, subst, arith}
use Rattle.vg_lin.specs.Steps.{Frame}
use Rattle.vg_lin.specs.State.{State, sets}
use Rattle.avr_view.specs.Registers.{Regs, put, does_all}
use Rattle.avr_view.specs.Run.{Run}
use Rattle.avr_view.specs.View.{View}
use Rattle.avr_view.proofs.Going.{below_or_not}
use Rattle.vg_templates.specs.Spots.{Spot, InFrame, InRegisters, number, put_number, frame_with, registers_with}
use Rattle.vg_templates.specs.Layouts.{Layout, IsLayout, IsSpot, IsOwned, Agree, width_of}
use Rattle.vg_templates.specs.Frames.{Places, Stacked}
use Rattle.vg_templates.proofs.Settings.{below_or}
use Rattle.vg_templates.proofs.Numbers.{put_same, put_number-beside}
use Rattle.vg_templates.proofs.Moving.{clears-plain, clears-put}
use Rattle.vg_templates.specs.Pieces.{Takes}
use Rattle.vg_templates.specs.Transfers.{clears}
use Rattle.vg_templates.specs.Held.{Held, IsSet, gives, Given}
use Rattle.vg_templates.specs.Homes.{home, home_of, made_in, settles, IsHome, is_clear, clear_home}
use Rattle.vg_templates.specs.Outcomes.{Lies}
use Rattle.vg_templates.proofs.Composing.{takes_wider, takes_bytes, takes_plain}
use Rattle.vg_templates.proofs.Spotting.{IsClear}
use Rattle.vg_templates.proofs.Holding.{stacked_agree, held_set, takes_gives}

-- ---- numbers

zeros-number : (g : Regs) (r k : ℕ) → number (put_number g r k 0) r k ≡ 0
zeros-number g r zero = refl
zeros-number g r (suc k) =
    let one : (put_number (put g r 0) (suc r) k 0).of r ≡ 0 = put_number-beside (put g r 0) (suc r) k 0 r (inl (omega arith)) ∙ put_same g r 0 in
    let rest = zeros-number (put g r 0) (suc r) k in
    omega (arith, one, rest)

-- a number with zeros behind it
cleared-number : (g : Regs) (r n k : ℕ) → number (put_number g (r + n) k 0) r (n + k) ≡ number g r n
cleared-number g r zero k =
    let e : r + 0 ≡ r = omega arith in
    let f : 0 + k ≡ k = omega arith in
    ap (λ y. number (put_number g y k 0) r (0 + k)) e ∙ ap (number (put_number g r k 0) r) f ∙ zeros-number g r k
cleared-number g r (suc n) k =
    let there : r + suc n ≡ suc r + n = omega arith in
    let wide : suc n + k ≡ suc (n + k) = omega arith in
    let one : (put_number g (suc r + n) k 0).of r ≡ g.of r = put_number-beside g (suc r + n) k 0 r (inl (omega arith)) in
    let rest = cleared-number g (suc r) n k in
    ap (λ y. number (put_number g y k 0) r (suc n + k)) there ∙ ap (number (put_number g (suc r + n) k 0) r) wide
    ∙ ap (λ y. y + 256 * number (put_number g (suc r + n) k 0) (suc r) (n + k)) one ∙ ap (λ y. g.of r + 256 * y) rest

put_byte : (g : Regs) (r b x : ℕ) → b < 256 → g.of x < 256 → (put g r b).of x < 256
put_byte g r b x h k = grind (arith, h, k)

put_number-byte : (g : Regs) (r w z x : ℕ) → g.of x < 256 → (put_number g r w z).of x < 256
put_number-byte g r zero z x h = h
put_number-byte g r (suc w) z x h = put_number-byte (put g r (z % 256)) (suc r) w (z / 256) x (put_byte g r (z % 256) x (omega arith) h)

-- registers that hold a number are as if it was put there
pub digits_same : (g h : Regs) (r w z x : ℕ) → number g r w ≡ z → ((y : ℕ) → r ≤ y → y < r + w → g.of y < 256) → r ≤ x → x < r + w
    → g.of x ≡ (put_number h r w z).of x
digits_same g h r zero z x is bytes from below = absurd (omega arith)
digits_same g h r (suc w) z x is bytes from below =
    let byte = bytes r (omega arith) (omega arith) in
    let low : z % 256 ≡ g.of r = omega (arith, is, byte) in
    let high : number g (suc r) w ≡ z / 256 = omega (arith, is, byte) in
    elim (below_or_not r x) [
      | inl later ↦ digits_same g (put h r (z % 256)) (suc r) w (z / 256) x high (λ y lo hi. bytes y (omega arith) (omega arith)) later (omega arith)
      | inr here ↦
          let same : x ≡ r = omega arith in
          ap g.of same ∙ sym low ∙ sym (put_same h r (z % 256)) ∙ sym (put_number-beside (put h r (z % 256)) (suc r) w (z / 256) r (inl (omega arith)))
          ∙ ap (put_number h r (suc w) z).of (sym same)
    ]

-- ---- homes

pub home_is : (l : Layout) (to n : ℕ) → IsHome l to n (home_of l to n)
home_is l to n = at (l.spots to) refl
  where
    by_test : (f : ℕ) → l.spots to ≡ InRegisters f → (b : Bool) → nat_le n (width_of l to) ≡ b → IsHome l to n (if b then Some f else None)
    by_test f e true q = (e, grind (arith, q))
    by_test f e false q = tt

    at : (s : Spot) → l.spots to ≡ s → IsHome l to n (home s (width_of l to) n)
    at (InFrame p) e = tt
    at (InRegisters f) e = by_test f e (nat_le n (width_of l to)) refl

pub clear_is : (l : Layout) (to n : ℕ) (s : Spot) (w k : ℕ) (h : Option ℕ) → IsHome l to n h → IsHome l to n (clear_home s w k h)
clear_is l to n s w k None is = tt
clear_is l to n s w k (Some r) is = by_test (is_clear s w r k)
  where
    by_test : (b : Bool) → IsHome l to n (if b then Some r else None)
    by_test true = is
    by_test false = tt

-- a value is made below X
pub made_low : (l : Layout) → IsLayout l → (to n : ℕ) (h : Option ℕ) → to < length l.widths → n ≤ 4 → IsHome l to n h → made_in h + n ≤ 26
made_low l ok to n None there few is = omega arith
made_low l ok to n (Some r) there few is =
    let inside = (subst (λ p. IsSpot l p (width_of l to)) is.0 (ok.spot to there)).1 in let less = is.1 in omega arith

pub made_above : (l : Layout) → IsLayout l → (to n : ℕ) (h : Option ℕ) → to < length l.widths → IsHome l to n h → 2 ≤ made_in h
made_above l ok to n None there is = omega arith
made_above l ok to n (Some r) there is = (subst (λ p. IsSpot l p (width_of l to)) is.0 (ok.spot to there)).0

-- where this is tested, a spot has no byte there; nor has it any among scratch registers
pub tested_clear : (s : Spot) (w r n : ℕ) → is_clear s w r n ≡ true → IsClear s w r n
tested_clear (InFrame at) w r n e = tt
tested_clear (InRegisters f) w r n e = by_test (nat_le (f + w) r) refl
  where
    by_test : (b : Bool) → nat_le (f + w) r ≡ b → (f + w ≤ r) ⊎ (r + n ≤ f)
    by_test true q = inl (grind (arith, q))
    by_test false q = inr (grind (arith, q, e))

pub home_clear : (l : Layout) (s : Spot) (w n : ℕ) (h : Option ℕ) → IsSpot l s w → IsClear s w (made_in (clear_home s w n h)) n
home_clear l s w n None spot = scratch s spot
  where
    scratch : (s : Spot) → IsSpot l s w → IsClear s w 22 n
    scratch (InFrame at) spot = tt
    scratch (InRegisters f) spot = let inside = spot.1 in inl (omega arith)
home_clear l s w n (Some r) spot = by_test (is_clear s w r n) refl
  where
    scratch : (s : Spot) → IsSpot l s w → IsClear s w 22 n
    scratch (InFrame at) spot = tt
    scratch (InRegisters f) spot = let inside = spot.1 in inl (omega arith)

    by_test : (b : Bool) → is_clear s w r n ≡ b → IsClear s w (made_in (if b then Some r else None)) n
    by_test true e = tested_clear s w r n e
    by_test false e = scratch s spot

-- code has made a number in registers from d on: of those that outlive calls no others have changed, nor has r1
pub record Made (d n z : ℕ) (old new : View) : Type 0 where
  pub others : (x : ℕ) → (x ≡ 1) ⊎ IsOwned x → (x < d) ⊎ (d + n ≤ x) → new.regs.of x ≡ old.regs.of x
  pub holds : number new.regs d n ≡ z
  pub stack : new.stack ≡ old.stack
  pub static : new.static ≡ old.static

module _ (i : Places) (ok : (m : ℕ) → IsLayout (i.layouts m)) (m : ℕ) (frames : List (Frame State)) where
  -- registers of a local alone have changed, of those that outlive calls: it has what is in them
  pub held_own : (live behind : ℕ → Bool) (s : State) (to r : ℕ) (v u : View) → IsSet (i.layouts m) live behind to
      → (i.layouts m).spots to ≡ InRegisters r → Held i m live s frames v → ((y : ℕ) → y < 32 → u.regs.of y < 256)
      → ((y : ℕ) → (y ≡ 1) ⊎ IsOwned y → (y < r) ⊎ (r + width_of (i.layouts m) to ≤ y) → u.regs.of y ≡ v.regs.of y)
      → u ≡ record v { regs = u.regs } → Held i m behind (sets to (number u.regs r (width_of (i.layouts m) to)) s) frames u
  held_own live behind s to r v u can is k bytes others same =
      let l = i.layouts m in
      let w = width_of l to in
      let z = number u.regs r w in
      let spot = subst (λ p. IsSpot l p w) is ((ok m).spot to can.there) in
      let up = spot.0 in
      let inside = spot.1 in
      held_set i ok m frames live behind s to z v u can k
      (subst (λ p. Agree (registers_with p w v.regs z) u.regs) (sym is) (agree w (omega arith) others))
      (others 1 (inl refl) (inl (omega arith)) ∙ k.r1) (ap (λ (y : View). y.static) same)
      (ap (λ (y : View). y.stack) same ∙ k.stacked.cut ∙ ap (λ p. k.stacked.wait ++ (frame_with p w k.stacked.own z ++ k.stacked.under)) (sym is))
    where
      agree : (w : ℕ) → r + w ≤ 18 → ((y : ℕ) → (y ≡ 1) ⊎ IsOwned y → (y < r) ⊎ (r + w ≤ y) → u.regs.of y ≡ v.regs.of y)
          → Agree (put_number v.regs r w (number u.regs r w)) u.regs
      agree w low beyond x reliable =
          elim (below_or x r w) [
            | inl inside ↦ digits_same u.regs v.regs r w (number u.regs r w) x refl (λ y lo hi. bytes y (omega arith)) inside.0 inside.1
            | inr beside ↦ beyond x (inr reliable) beside ∙ sym (put_number-beside v.regs r w (number u.regs r w) x beside)
          ]

module _ (i : Places) (ok : (m : ℕ) → IsLayout (i.layouts m)) (m : ℕ) (frames : List (Frame State)) (e : Run) (deep : Type 0) where
  -- the local has got it then
  pub takes_settles : (live behind : ℕ → Bool) (s : State) (to n z : ℕ) (h : Option ℕ) (v u : View) → IsSet (i.layouts m) live behind to
      → IsHome (i.layouts m) to n h → n ≤ 4 → Held i m live s frames v → Made (made_in h) n z v u
      → Takes e deep u (settles (i.layouts m) to h n) (Lies i m behind (sets to z s) frames u.out)
  takes_settles live behind s to n z None v u can is few k made =
      let l = i.layouts m in
      let held : Held i m live s frames u =
      record {
        stacked = subst (λ y. Stacked i m live s frames y u.regs) (sym made.stack) (stacked_agree i ok m frames live s v.stack v.regs u.regs agree k.stacked);
        r1 = made.others 1 (inl refl) (inl (omega arith)) ∙ k.r1;
        ram = made.static ∙ k.ram;
      } in
      takes_wider e deep u (gives l to 22 n) (Given i m behind (sets to (number u.regs 22 n) s) frames u) (Lies i m behind (sets to z s) frames u.out)
      (λ t g. record { held = subst (λ y. Held i m behind (sets to y s) frames t) made.holds g.held; out = g.out })
      (takes_gives i ok m frames e deep live behind s to 22 n u can (omega arith) (omega arith) held)
    where
      agree : Agree v.regs u.regs
      agree r (inl k') = let up = k'.1 in made.others r (inr (inl k')) (inl (omega arith))
      agree r (inr k') = let low = k'.0 in made.others r (inr (inr k')) (inr (omega arith))
  takes_settles live behind s to n z (Some r) v u can is few k made =
      let l = i.layouts m in
      let w = width_of l to in
      let code = clears (r + n) (w - n) in
      let goal = Lies i m behind (sets to z s) frames u.out in
      let spot = subst (λ p. IsSpot l p w) is.0 ((ok m).spot to can.there) in
      let up = spot.0 in
      let inside = spot.1 in
      let zero' : u.regs.of 1 ≡ 0 = made.others 1 (inl refl) (inl (omega arith)) ∙ k.r1 in
      takes_bytes e deep u code goal
      (λ bytes. takes_wider e deep u code (λ t. t ≡ record u { regs = does_all e.flash code u.regs }) goal
      (λ t put.
      let last : View = record u { regs = put_number u.regs (r + n) (w - n) 0 } in
      let there : t ≡ last = put ∙ ap (λ g. record u { regs = g }) (clears-put e.flash (r + n) (w - n) u.regs zero' (omega arith)) in
      let whole : n + (w - n) ≡ w = let few' = is.1 in omega arith in
      let number_is : number last.regs r w ≡ z =
      ap (number last.regs r) (sym whole) ∙ cleared-number u.regs r n (w - n) ∙ made.holds in
      let still : u.stack ≡ k.stacked.wait ++ (frame_with (l.spots to) w k.stacked.own z ++ k.stacked.under) =
      made.stack ∙ k.stacked.cut
      ∙ ap (λ p. k.stacked.wait ++ (frame_with p w k.stacked.own z ++ k.stacked.under)) (sym is.0) in
      let agree : Agree (registers_with (l.spots to) w v.regs z) last.regs =
      subst (λ p. Agree (registers_with p w v.regs z) last.regs) (sym is.0)
      (settled w is.1 number_is
      (λ y lo hi. put_number-byte u.regs (r + n) (w - n) 0 y (bytes y (omega arith)))) in
      record {
        held =
            subst (Held i m behind (sets to z s) frames) (sym there)
            (held_set i ok m frames live behind s to z v last can k agree (put_number-beside u.regs (r + n) (w - n) 0 1 (inl (omega arith)) ∙ zero')
            made.static still);
        out = ap (λ (y : View). y.out) there;
      })
      (takes_plain e deep u code (clears-plain (r + n) (w - n))))
    where
      settled : (w : ℕ) → n ≤ w → number (put_number u.regs (r + n) (w - n) 0) r w ≡ z
          → ((y : ℕ) → r ≤ y → y < r + w → (put_number u.regs (r + n) (w - n) 0).of y < 256)
          → Agree (put_number v.regs r w z) (put_number u.regs (r + n) (w - n) 0)
      settled w few' number_is bytes x reliable =
          elim (below_or x r w) [
            | inl inside ↦ digits_same (put_number u.regs (r + n) (w - n) 0) v.regs r w z x number_is bytes inside.0 inside.1
            | inr beside ↦
                put_number-beside u.regs (r + n) (w - n) 0 x (further x w few' beside) ∙ made.others x (inr reliable) (nearer x w few' beside)
                ∙ sym (put_number-beside v.regs r w z x beside)
          ]
        where
          further : (x w : ℕ) → n ≤ w → (x < r) ⊎ (r + w ≤ x) → (x < r + n) ⊎ (r + n + (w - n) ≤ x)
          further x w few' (inl h) = inl (omega arith)
          further x w few' (inr h) = inr (omega arith)

          nearer : (x w : ℕ) → n ≤ w → (x < r) ⊎ (r + w ≤ x) → (x < r) ⊎ (r + n ≤ x)
          nearer x w few' (inl h) = inl h
          nearer x w few' (inr h) = inr (omega arith)
