-- Operands are found in registers.
use Rattle.std.proofs.Common.{◌≡◌, ◌≢◌, ℕ, zero, suc, ◌+◌, ◌/◌, ◌%◌, ◌^◌, ◌<◌, ◌≤◌, ◌⊎◌, inl, inr, Bool, true, false, ◌==◌, if◌then◌else◌}
use Rattle.std.proofs.Common.{List, [], ◌∷◌, ◌++◌, length, Some, refl, sym, ap, ◌∙◌, subst, arith, slice_index, length-append}
use Rattle.avr_instr.specs.declared.instr.Instr.{Instr}
use Rattle.avr_instr.specs.declared.instr.Instr.TheVariants.{Ldi}
use Rattle.vg_lin.specs.declared.instr.Operand.{Operand}
use Rattle.vg_lin.specs.declared.instr.Operand.TheVariants.{Local, Known}
use Rattle.vg_lin.specs.Steps.{Frame}
use Rattle.vg_lin.specs.State.{State, value}
use Rattle.avr_view.specs.Registers.{Regs, put, does_all, ArePlain}
use Rattle.avr_view.specs.Run.{Run}
use Rattle.avr_view.specs.View.{View}
use Rattle.vg_templates.specs.Spots.{Spot, InFrame, InRegisters, number, read, value_at}
use Rattle.vg_templates.specs.Layouts.{Layout, IsLayout, IsSpot, Agree, frame_size, width_of}
use Rattle.vg_templates.specs.Frames.{Places}
use Rattle.vg_templates.proofs.Numbers.{cut, put_other, put_same}
use Rattle.vg_templates.specs.Pieces.{Takes}
use Rattle.vg_templates.specs.Transfers.{fetch}
use Rattle.vg_templates.specs.Transferred.{Fetched}
use Rattle.vg_templates.specs.Held.{Held, IsReady}
use Rattle.vg_templates.proofs.Composing.{takes_none, takes_wider, takes_bytes, takes_plain}
use Rattle.vg_templates.proofs.Accessing.{read_within}
use Rattle.vg_templates.proofs.Spotting.{takes_fetch}
use Rattle.vg_templates.proofs.Holding.{usable, held_scratch}
use Rattle.vg_templates.specs.Numbers.{number_in, AreBeside, AreRegisters}
use Rattle.vg_templates.specs.Operands.{least, padded, known_bytes, known_registers, finds_spot, spot_found, finds, found_in}
use Rattle.vg_templates.specs.Outcomes.{Found}
use Rattle.vg_templates.proofs.Bytes.{takes_cells, read_small, number_small, number_low, least_is, least_cut, padded-number, padded-length}

-- registers beside a range are registers
pub beside_registers : (low high : ℕ) (rs : List ℕ) → AreBeside low high rs → AreRegisters rs
beside_registers low high [] k = tt
beside_registers low high (r ∷ rs) (here, more) = (here.1, beside_registers low high rs more)

-- ---- known numbers

byte_plain : (b : Bool) (d x : ℕ) (is : List Instr) → ArePlain is → ArePlain ((if b then [] else Ldi d x ∷ []) ++ is)
byte_plain true d x is p = p
byte_plain false d x is p = (tt, p)

known_bytes-plain : (d n v : ℕ) → ArePlain (known_bytes d n v)
known_bytes-plain d zero v = tt
known_bytes-plain d (suc n) v = byte_plain (v % 256 == 0) d (v % 256) (known_bytes (suc d) n (v / 256)) (known_bytes-plain (suc d) n (v / 256))

-- what the code for known bytes makes of the registers
record KnownFound (d n v : ℕ) (rs : List ℕ) (g h : Regs) : Type 0 where
  pub holds : number_in h rs ≡ v % 256 ^ n
  pub others : (r : ℕ) → (r < d) ⊎ (d + n ≤ r) → h.of r ≡ g.of r

module _ (flash : List ℕ) where
  known_found : (d n v : ℕ) (g : Regs) → g.of 1 ≡ 0 → 2 ≤ d → KnownFound d n v (known_registers d n v) g (does_all flash (known_bytes d n v) g)
  known_found d zero v g h low = record { holds = omega arith; others = λ r k. refl }
  known_found d (suc n) v g h low = by_byte (λ g1 h1. known_found (suc d) n (v / 256) g1 h1 (omega arith)) (v % 256 == 0) refl
    where
      by_byte : ((g1 : Regs) → g1.of 1 ≡ 0
          → KnownFound (suc d) n (v / 256) (known_registers (suc d) n (v / 256)) g1 (does_all flash (known_bytes (suc d) n (v / 256)) g1))
          → (b : Bool) → (v % 256 == 0) ≡ b
          → KnownFound d (suc n) v ((if b then 1 else d) ∷ known_registers (suc d) n (v / 256)) g
          (does_all flash ((if b then [] else Ldi d (v % 256) ∷ []) ++ known_bytes (suc d) n (v / 256)) g)
      by_byte behind true e =
          let rest = behind g h in
          let none : v % 256 ≡ 0 = grind (arith, e) in
          let first : (does_all flash (known_bytes (suc d) n (v / 256)) g).of 1 ≡ v % 256 = rest.others 1 (inl (omega arith)) ∙ h ∙ sym none in
          record {
            holds = cut v n _ _ first rest.holds;
            others = λ r k. elim k [ inl lo ↦ rest.others r (inl (omega arith)) | inr hi ↦ rest.others r (inr (omega arith)) ];
          }
      by_byte behind false e =
          let g1 = put g d (v % 256) in
          let rest = behind g1 (put_other g d (v % 256) 1 (omega arith) ∙ h) in
          let first : (does_all flash (known_bytes (suc d) n (v / 256)) g1).of d ≡ v % 256 = rest.others d (inl (omega arith)) ∙ put_same g d (v % 256) in
          record { holds = cut v n _ _ first rest.holds; others = λ r k. beyond r k rest.others }
        where
          beyond : (r : ℕ) → (r < d) ⊎ (d + suc n ≤ r)
              → ((x : ℕ) → (x < suc d) ⊎ (suc d + n ≤ x) → (does_all flash (known_bytes (suc d) n (v / 256)) (put g d (v % 256))).of x ≡ (put g d (v % 256)).of x)
              → (does_all flash (known_bytes (suc d) n (v / 256)) (put g d (v % 256))).of r ≡ g.of r
          beyond r (inl lo) k = k r (inl (omega arith)) ∙ put_other g d (v % 256) r (let ne : r ≢ d = omega arith in ne)
          beyond r (inr hi) k = k r (inr (omega arith)) ∙ put_other g d (v % 256) r (let ne : r ≢ d = omega arith in ne)

-- ---- which registers an operand is found in

pub padded-beside : (low high r w n : ℕ) → 1 < low → (r + n ≤ low) ⊎ ((r + w ≤ low) ⊎ (high ≤ r)) → r + least w n ≤ 32 → AreBeside low high (padded r w n)
padded-beside low high r zero zero one k top = tt
padded-beside low high r (suc w) zero one k top = tt
padded-beside low high r zero (suc n) one k top = ((inl one, omega arith), padded-beside low high r zero n one (inr (inl' k)) (omega arith))
  where
    inl' : (r + suc n ≤ low) ⊎ ((r + 0 ≤ low) ⊎ (high ≤ r)) → (r + 0 ≤ low) ⊎ (high ≤ r)
    inl' (inl h) = inl (omega arith)
    inl' (inr h) = h
padded-beside low high r (suc w) (suc n) one (inl h) top =
    ((inl (omega arith), omega arith), padded-beside low high (suc r) w n one (inl (omega arith)) (omega arith))
padded-beside low high r (suc w) (suc n) one (inr (inl h)) top =
    ((inl (omega arith), omega arith), padded-beside low high (suc r) w n one (inr (inl (omega arith))) (omega arith))
padded-beside low high r (suc w) (suc n) one (inr (inr h)) top =
    ((inr h, omega arith), padded-beside low high (suc r) w n one (inr (inr (omega arith))) (omega arith))

known-beside : (low high d n v : ℕ) → 1 < low → d + n ≤ low → low ≤ 32 → AreBeside low high (known_registers d n v)
known-beside low high d zero v one k top = tt
known-beside low high d (suc n) v one k top = (by_byte (v % 256 == 0), known-beside low high (suc d) n (v / 256) one (omega arith) top)
  where
    by_byte : (b : Bool) → (((if b then 1 else d) < low) ⊎ (high ≤ (if b then 1 else d))) × ((if b then 1 else d) < 32)
    by_byte true = (inl one, omega arith)
    by_byte false = (inl (omega arith), omega arith)

known-length : (d n v : ℕ) → length (known_registers d n v) ≡ n
known-length d zero v = refl
known-length d (suc n) v = ap suc (known-length (suc d) n (v / 256))

pub found-length : (l : Layout) (a : Operand) (d n : ℕ) → length (found_in l a d n) ≡ n
found-length l (Known x) d n = known-length d n x
found-length l (Local k) d n = at (l.spots k) (width_of l k)
  where
    at : (s : Spot) (w : ℕ) → length (spot_found s w d n) ≡ n
    at (InFrame p) w = padded-length d w n
    at (InRegisters r) w = padded-length r w n

pub least_less : (w n : ℕ) → (least w n ≤ w) × (least w n ≤ n)
least_less w n = elim (least_is w n) [ inl k ↦ (omega (arith, k.0), omega (arith, k.0, k.1)) | inr k ↦ (omega (arith, k.0, k.1), omega (arith, k.0)) ]

-- the registers of an operand lie below a block that begins behind the scratch ones into which it came
pub found-beside : (l : Layout) → IsLayout l → (live : ℕ → Bool) (a : Operand) (d n low high : ℕ) → IsReady l live a → 18 ≤ d → d + n ≤ low → low ≤ 32
    → AreBeside low high (found_in l a d n)
found-beside l ok live (Known x) d n low high ready up below top = known-beside low high d n x (omega arith) below top
found-beside l ok live (Local k) d n low high ready up below top = at (l.spots k) (width_of l k) (ok.spot k ready.0)
  where
    at : (s : Spot) (w : ℕ) → IsSpot l s w → AreBeside low high (spot_found s w d n)
    at (InFrame p) w spot = let less = (least_less w n).1 in padded-beside low high d w n (omega arith) (inl below) (omega arith)
    at (InRegisters r) w spot =
        let inside = spot.1 in let less = (least_less w n).0 in padded-beside low high r w n (omega arith) (inr (inl (omega arith))) (omega arith)

-- ---- the code that finds them

module _ (i : Places) (ok : (m : ℕ) → IsLayout (i.layouts m)) (m : ℕ) (frames : List (Frame State)) (e : Run) (deep : Type 0) where
  scratch_agrees : (d n : ℕ) (v u : View) → 18 ≤ d → d + n ≤ 28 → ((x : ℕ) → x < 30 → (x < d) ⊎ (d + n ≤ x) → u.regs.of x ≡ v.regs.of x)
      → Agree v.regs u.regs
  scratch_agrees d n v u low top h r (inl k) = let up = k.1 in h r (omega arith) (inl (omega arith))
  scratch_agrees d n v u low top h r (inr k) = let lo = k.0 in let hi = k.1 in h r (omega arith) (inr (omega arith))

  pub found_scratch : (live : ℕ → Bool) (s : State) (d n x : ℕ) (rs : List ℕ) (v u : View) → 18 ≤ d → d + n ≤ 28
      → ((y : ℕ) → y < 30 → (y < d) ⊎ (d + n ≤ y) → u.regs.of y ≡ v.regs.of y) → number_in u.regs rs ≡ x % 256 ^ n → u ≡ record v { regs = u.regs }
      → Held i m live s frames v → Found i m live s frames d n x rs v u
  found_scratch live s d n x rs v u low top others holds same k =
      record {
        held = held_scratch i ok m frames live s v u same (scratch_agrees d n v u low top others) (others 1 (omega arith) (inl (omega arith))) k;
        others = others;
        holds = holds;
        same = same;
      }

  pub takes_finds : (live : ℕ → Bool) (s : State) (a : Operand) (d n x : ℕ) (v : View) → IsReady (i.layouts m) live a → value a s ≡ Some x
      → 18 ≤ d → d + n ≤ 28 → Held i m live s frames v
      → Takes e deep v (finds (i.layouts m) a d n) (Found i m live s frames d n x (found_in (i.layouts m) a d n) v)
  takes_finds live s (Known y) d n x v ready got low top k =
      let is = known_bytes d n y in
      let same : y ≡ x = some_same y x got in
      takes_wider e deep v is (λ u. u ≡ record v { regs = does_all e.flash is v.regs }) (Found i m live s frames d n x (known_registers d n y) v)
      (λ u put. subst (Found i m live s frames d n x (known_registers d n y) v) (sym put) (known_is same))
      (takes_plain e deep v is (known_bytes-plain d n y))
    where
      some_same : (a b : ℕ) → Some a ≡ Some b → a ≡ b
      some_same a b e1 = cc

      known_is : y ≡ x → Found i m live s frames d n x (known_registers d n y) v (record v { regs = does_all e.flash (known_bytes d n y) v.regs })
      known_is same =
          let f = known_found e.flash d n y v.regs k.r1 (omega arith) in
          found_scratch live s d n x (known_registers d n y) v (record v { regs = does_all e.flash (known_bytes d n y) v.regs }) low top
          (λ r small beside. f.others r beside) (f.holds ∙ ap (λ z. z % 256 ^ n) same) refl k
  takes_finds live s (Local j) d n x v ready got low top k =
      let l = i.layouts m in
      at (l.spots j) (width_of l j) ((ok m).spot j ready.0) ((ok m).narrow j ready.0) (k.stacked.fits.each j x ready.0 ready.1 got)
    where
      at : (p : Spot) (w : ℕ) → IsSpot (i.layouts m) p w → w ≤ 4 → value_at p w k.stacked.own v.regs ≡ x
          → Takes e deep v (finds_spot p w d n) (Found i m live s frames d n x (spot_found p w d n) v)
      at (InRegisters r) w spot small value_is =
          let inside = spot.1 in
          let rs = padded r w n in
          takes_bytes e deep v [] (Found i m live s frames d n x rs v)
          (λ bytes.
          let b : (z : ℕ) → r ≤ z → z < r + w → v.regs.of z < 256 = λ z lo hi. bytes z (omega arith) in
          let holds : number_in v.regs rs ≡ x % 256 ^ n =
          padded-number v.regs r w n k.r1 ∙ number_low v.regs r w n b ∙ least_cut (number v.regs r w) w n (number_small v.regs r w b)
          ∙ ap (λ z. z % 256 ^ n) value_is in
          takes_none e deep v (Found i m live s frames d n x rs v) (found_scratch live s d n x rs v v low top (λ y lo hi. refl) holds refl k))
      at (InFrame p) w spot small value_is =
          let t = k.stacked in
          let rs = padded d w n in
          let count = least w n in
          let less = (least_less w n).1 in
          let is = fetch (InFrame p) w d count in
          let inside = spot.1 in
          let long = t.fits.long in
          takes_cells e deep v is (Found i m live s frames d n x rs v)
          (λ cells. takes_wider e deep v is (Fetched d count (read t.own p w) v) (Found i m live s frames d n x rs v)
          (λ u f.
          let same_stack : v.stack ≡ t.wait ++ (t.own ++ t.under) = t.cut in
          let x_small : x < 256 ^ w = subst (λ z. z < 256 ^ w) (whole cells ∙ value_is) (read_small v.stack (length t.wait + p) w cells (room p w inside)) in
          let holds : number_in u.regs rs ≡ x % 256 ^ n =
          padded-number u.regs d w n (f.others 1 (omega arith) (inl (omega arith)) ∙ k.r1) ∙ f.holds ∙ ap (λ z. z % 256 ^ count) value_is ∙ least_cut x w n x_small in
          found_scratch live s d n x rs v u low top (λ y lo beside. f.others y lo (nearer y beside)) holds f.same k)
          (takes_fetch e deep (InFrame p) w d count v t.wait t.own t.under t.cut
          (usable (i.layouts m) (InFrame p) w t.own t.under v spot t.points t.fits.long) small low (omega arith) k.r1))
        where
          nearer : (y : ℕ) → (y < d) ⊎ (d + n ≤ y) → (y < d) ⊎ (d + least w n ≤ y)
          nearer y (inl h) = inl h
          nearer y (inr h) = let less = (least_less w n).1 in inr (omega arith)

          sizes : length v.stack ≡ length k.stacked.wait + (length k.stacked.own + length k.stacked.under)
          sizes = ap length k.stacked.cut ∙ length-append k.stacked.wait (k.stacked.own ++ k.stacked.under)
              ∙ ap (λ z. length k.stacked.wait + z) (length-append k.stacked.own k.stacked.under)

          room : (p w : ℕ) → p + w ≤ frame_size (i.layouts m) → length k.stacked.wait + p + w ≤ length v.stack
          room p w h = let long = k.stacked.fits.long in let all = sizes in omega arith

          whole : ((j : ℕ) → j < length v.stack → slice_index v.stack j < 256) → read v.stack (length k.stacked.wait + p) w ≡ read k.stacked.own p w
          whole cells =
              let inside = spot.1 in
              let long = k.stacked.fits.long in
              ap (λ l. read l (length k.stacked.wait + p) w) k.stacked.cut ∙ read_within k.stacked.wait k.stacked.own k.stacked.under p w (omega arith)
