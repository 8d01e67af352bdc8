-- A local gets a value at its spot.
use Rattle.std.proofs.Common.{◌≡◌, ◌≢◌, ℕ, zero, suc, ◌+◌, ◌%◌, ◌^◌, ◌<◌, ◌≤◌, ◌⊎◌, inl, inr, Bool, true, false, ◌==◌, List, [], ◌∷◌}
use Rattle.std.proofs.Common.{length, Some, None, refl, sym, ap, ◌∙◌, subst, arith, slice_index, slice_get, take, drop, length-append}
use Rattle.std.specs.Prelude.{map}
use Rattle.vg_lin.specs.Steps.{Frame}
use Rattle.vg_lin.specs.State.{LocalState, State, value_in, with_local}
use Rattle.avr_view.specs.Registers.{Regs, pair}
use Rattle.vg_templates.specs.Spots.{Spot, InFrame, InRegisters, Apart, value_at, frame_with, registers_with}
use Rattle.vg_templates.specs.Layouts.{Layout, IsLayout, IsSpot, IsReliable, IsIn, frame_size, width_of}
use Rattle.vg_templates.specs.Frames.{Fits, saved_bytes, found, restored, Places, Points, Caller, Callers}
use Rattle.vg_templates.proofs.Numbers.{written-length, piece-written, put_number-beside, InBytes, value-put, value-beside}
use Rattle.avr_view.proofs.Going.{below_or_not}
use Rattle.vg_templates.proofs.Saving.{callers_still, saved_long}

-- ---- the list of locals

with_local-widths : (ls : List LocalState) (to v : ℕ) → map (λ (s : LocalState). s.width) (with_local ls to v) ≡ map (λ (s : LocalState). s.width) ls
with_local-widths [] to v = refl
with_local-widths (l ∷ ls) zero v = refl
with_local-widths (l ∷ ls) (suc to) v = ap (λ ws. l.width ∷ ws) (with_local-widths ls to v)

pub with_local-beside : (ls : List LocalState) (to v k : ℕ) → k ≢ to → value_in (slice_get (with_local ls to v) k) ≡ value_in (slice_get ls k)
with_local-beside [] to v k h = refl
with_local-beside (l ∷ ls) zero v zero h = absurd (h refl)
with_local-beside (l ∷ ls) zero v (suc k) h = refl
with_local-beside (l ∷ ls) (suc to) v zero h = refl
with_local-beside (l ∷ ls) (suc to) v (suc k) h = with_local-beside ls to v k (λ e. h (ap suc e))

some_same : (x y : ℕ) → Some x ≡ Some y → x ≡ y
some_same x y e = cc

with_local-there : (ls : List LocalState) (to v x : ℕ) → value_in (slice_get (with_local ls to v) to) ≡ Some x
    → x ≡ v % 256 ^ slice_index (map (λ (s : LocalState). s.width) ls) to
with_local-there [] to v x e = absurd (let clash : None ≡ Some x = e in cc)
with_local-there (l ∷ ls) zero v x e = sym (some_same _ x e)
with_local-there (l ∷ ls) (suc to) v x e = with_local-there ls to v x e

-- ---- the spot

spot_in : (l : Layout) (s : Spot) (w : ℕ) (own : List ℕ) → IsSpot l s w → length own ≡ frame_size l → InBytes s w own
spot_in l (InFrame at) w own ok long = let inside = ok.1 in omega arith
spot_in l (InRegisters r) w own ok long = tt

pub frame_with-length : (s : Spot) (w v : ℕ) (own : List ℕ) → length (frame_with s w own v) ≡ length own
frame_with-length (InFrame at) w v own = written-length own at w v
frame_with-length (InRegisters r) w v own = refl

-- what is saved and the return address lie beside each spot
pub saved_with : (l : Layout) (s : Spot) (w v : ℕ) (own : List ℕ) → IsSpot l s w → saved_bytes l (frame_with s w own v) ≡ saved_bytes l own
saved_with l (InFrame at) w v own ok = elim ok.2 [
  | inl behind ↦ piece-written own at w v l.slots (length l.saved) (inr (omega arith))
  | inr before ↦ piece-written own at w v l.slots (length l.saved) (inl before)
]
saved_with l (InRegisters r) w v own ok = refl

drop-drop : (l : List ℕ) (n m : ℕ) → drop m (drop n l) ≡ drop (n + m) l
drop-drop l zero m = let e : m ≡ 0 + m = omega arith in ap (λ k. drop k l) e
drop-drop [] (suc n) m = drop-none m ∙ sym (drop-none (suc n + m))
  where
    drop-none : (k : ℕ) → drop {A = ℕ} k [] ≡ []
    drop-none zero = refl
    drop-none (suc k) = refl
drop-drop (x ∷ xs) (suc n) m = drop-drop xs n m ∙ (let e : suc (n + m) ≡ suc n + m = omega arith in ap (λ k. drop k (x ∷ xs)) e)

pub link_with : (l : Layout) (s : Spot) (w v : ℕ) (own : List ℕ) → IsSpot l s w
    → take 2 (drop (length l.saved) (drop l.slots (frame_with s w own v))) ≡ take 2 (drop (length l.saved) (drop l.slots own))
link_with l (InFrame at) w v own ok =
    ap (take 2) (drop-drop (frame_with (InFrame at) w own v) l.slots (length l.saved))
    ∙ elim ok.2 [
      | inl behind ↦ piece-written own at w v (l.slots + length l.saved) 2 (inr (omega arith))
      | inr before ↦ piece-written own at w v (l.slots + length l.saved) 2 (inl (omega arith))
    ]
    ∙ sym (ap (take 2) (drop-drop own l.slots (length l.saved)))
link_with l (InRegisters r) w v own ok = refl

pub below_or : (d r w : ℕ) → ((r ≤ d) × (d < r + w)) ⊎ ((d < r) ⊎ (r + w ≤ d))
below_or d r w =
    elim (below_or_not d r) [
      | inl low ↦ inr (inl low)
      | inr high ↦ elim (below_or_not d (r + w)) [ inl inside ↦ inl (high, inside) | inr above ↦ inr (inr above) ]
    ]

-- registers of a spot are saved, and others stay
pub registers_with-still : (l : Layout) (s : Spot) (w v : ℕ) (g : Regs) → IsSpot l s w
    → (d : ℕ) → IsReliable d → IsIn d l.saved ⊎ ((registers_with s w g v).of d ≡ g.of d)
registers_with-still l (InFrame at) w v g ok d r = inr refl
registers_with-still l (InRegisters f) w v g ok d r =
    elim (below_or d f w) [ inl inside ↦ inl (ok.2 d inside.0 inside.1 r) | inr beside ↦ inr (put_number-beside g f w v d beside) ]

-- Y is no local
registers_with-y : (l : Layout) (s : Spot) (w v : ℕ) (g : Regs) → IsSpot l s w → pair (registers_with s w g v) 28 ≡ pair g 28
registers_with-y l (InFrame at) w v g ok = refl
registers_with-y l (InRegisters f) w v g ok =
    let inside = ok.1 in
    let low = put_number-beside g f w v 28 (inr (omega arith)) in
    let high = put_number-beside g f w v 29 (inr (omega arith)) in
    omega (arith, low, high)

-- ---- the relation

-- a local gets a value: it lies at its spot, and so do those that are needed then and share no byte with it
pub fits_set : (l : Layout) (live behind : ℕ → Bool) (locals : List LocalState) (own : List ℕ) (g : Regs) (to v : ℕ) → IsLayout l
    → to < length l.widths
    → ((k : ℕ) → behind k ≡ true → k ≢ to → (live k ≡ true) × Apart (l.spots to) (width_of l to) (l.spots k) (width_of l k))
    → Fits l live locals own g
    → Fits l behind (with_local locals to v) (frame_with (l.spots to) (width_of l to) own v) (registers_with (l.spots to) (width_of l to) g v)
fits_set l live behind locals own g to v ok low apart f =
    record {
      each = λ k x inside alive got. at k x inside alive (k == to) refl got;
      widths = with_local-widths locals to v ∙ f.widths;
      long = frame_with-length (l.spots to) (width_of l to) v own ∙ f.long;
    }
  where
    s : Spot
    s = l.spots to

    w : ℕ
    w = width_of l to

    at : (k x : ℕ) → k < length l.widths → behind k ≡ true → (b : Bool) → (k == to) ≡ b → value_in (slice_get (with_local locals to v) k) ≡ Some x
        → value_at (l.spots k) (width_of l k) (frame_with (l.spots to) (width_of l to) own v) (registers_with (l.spots to) (width_of l to) g v) ≡ x
    at k x inside alive true e got =
        let same : k ≡ to = grind arith in
        let value = with_local-there locals to v x (subst (λ n. value_in (slice_get (with_local locals to v) n) ≡ Some x) same got) in
        let cut_to : v % 256 ^ width_of l to ≡ x = ap (λ ws. v % 256 ^ slice_index ws to) (sym f.widths) ∙ sym value in
        ap (λ n. value_at (l.spots n) (width_of l n) (frame_with (l.spots to) (width_of l to) own v) (registers_with (l.spots to) (width_of l to) g v)) same
        ∙ value-put (l.spots to) (width_of l to) v own g (spot_in l (l.spots to) (width_of l to) own (ok.spot to low) f.long)
        ∙ cut_to
    at k x inside alive false e got =
        let other : k ≢ to = grind arith in
        let (before, beside) = apart k alive other in
        value-beside (l.spots to) (l.spots k) (width_of l to) (width_of l k) v own g beside
        ∙ f.each k x inside before (sym (with_local-beside locals to v k other) ∙ got)

-- and its callers do not see it
pub callers_set : (i : Places) → ((m : ℕ) → IsLayout (i.layouts m)) → (frames : List (Frame State)) (m : ℕ) (own under : List ℕ) (g : Regs) (s : Spot)
    (w v : ℕ) → IsSpot (i.layouts m) s w → length own ≡ frame_size (i.layouts m) → Callers i frames m own under g
    → Callers i frames m (frame_with s w own v) under (registers_with s w g v)
callers_set i ok [] m own under g s w v inside long k = k
callers_set i ok (f ∷ fs) m own under g s w v inside long k =
    let l = i.layouts m in
    let (c, more) = callers_still i ok (f ∷ fs) m own under g (registers_with s w g v) (saved_long l own long) (registers_with-still l s w v g inside) k in
    let same : found l own (registers_with s w g v) ≡ found l (frame_with s w own v) (registers_with s w g v) =
    ap (λ bs. restored l.saved bs (registers_with s w g v)) (sym (saved_with l s w v own inside)) in
    let c' : Caller i f m (frame_with s w own v) under (found l own (registers_with s w g v)) =
    record {
      wait = c.wait;
      own = c.own;
      under = c.under;
      cut = c.cut;
      link = link_with l s w v own inside ∙ c.link;
      points = c.points;
      waits = c.waits;
      fits = c.fits;
    } in
    subst (λ h. (d : Caller i f m (frame_with s w own v) under h) × Callers i fs f.proc d.own d.under h) same (c', more)

pub points_set : (l : Layout) (own under : List ℕ) (g : Regs) (s : Spot) (w v : ℕ) → IsSpot l s w → Points l own under g
    → Points l (frame_with s w own v) under (registers_with s w g v)
points_set l own under g s w v inside p pointed =
    let same = registers_with-y l s w v g inside in
    let long = frame_with-length s w v own in
    let base = p pointed in
    omega (arith, same, long, base, length-append own under, length-append (frame_with s w own v) under)
