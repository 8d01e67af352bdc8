-- Templates of values that go to locals, wait for calls, or go to devices.
use Rattle.std.proofs.Common.{◌≡◌, ℕ, zero, suc, ◌+◌, ◌-◌, ◌*◌, ◌%◌, ◌^◌, ◌<◌, ◌≤◌, ◌⊎◌, inl, inr, Bool, true, false, ◌&&◌, List, [], ◌∷◌, ◌++◌}
use Rattle.std.proofs.Common.{length, Some, refl, sym, ap, ◌∙◌, subst, arith, nat_le, nat_lt, if◌then◌else◌, slice_index, append_assoc, length-append}
use Rattle.std.specs.Prelude.{map}
use Rattle.vg_meaning.specs.declared.event.Event.TheVariants.{Write}
use Rattle.vg_meaning.specs.Device.{IsDeviceAddress}
use Rattle.vg_meaning.specs.Outside.{Outside, with_event}
use Rattle.avr_instr.specs.declared.instr.Instr.{Instr}
use Rattle.avr_instr.specs.declared.instr.Instr.TheVariants.{Out, Push, Sts}
use Rattle.avr_isa.specs.Standing.{widths}
use Rattle.vg_lin.specs.declared.instr.Operand.{Operand}
use Rattle.vg_lin.specs.declared.instr.Operand.TheVariants.{Local, Known}
use Rattle.vg_lin.specs.Steps.{Frame}
use Rattle.vg_lin.specs.State.{LocalState, State, value, sets, with_local}
use Rattle.vg_lin.specs.Values.{low}
use Rattle.avr_view.specs.Registers.{Regs}
use Rattle.avr_view.specs.Run.{Run, Goes, Front}
use Rattle.avr_view.specs.View.{View, At}
use Rattle.avr_view.proofs.DeviceSteps.{goes_sts_device, goes_out_device}
use Rattle.avr_view.proofs.Going.{goes_wider}
use Rattle.vg_templates.specs.Spots.{Spot, InFrame, InRegisters, number, read, value_at}
use Rattle.vg_templates.specs.Layouts.{Layout, IsLayout, IsSpot, IsOwned, width_of}
use Rattle.vg_templates.specs.Linkage.{pushes}
use Rattle.vg_templates.specs.Frames.{Places}
use Rattle.vg_templates.proofs.Saving.{fits_fewer}
use Rattle.vg_templates.proofs.Linking.{goes_pushes, widths-pushes}
use Rattle.vg_templates.specs.Pieces.{Sees, Takes}
use Rattle.vg_templates.specs.Held.{Held, IsReady, IsSet, brings, gives, Brought, Given}
use Rattle.vg_templates.proofs.Composing.{takes_none, takes_then, takes_next, takes_wider}
use Rattle.vg_templates.proofs.Holding.{usable, takes_brings_known, takes_brings, takes_gives, takes_gives_frame}
use Rattle.vg_templates.specs.Numbers.{number_in}
use Rattle.vg_templates.specs.Operands.{finds, found_in}
use Rattle.vg_templates.specs.Homes.{home_of, made_in, settles, clear_home}
use Rattle.vg_templates.specs.Transfers.{known, fetch}
use Rattle.vg_templates.specs.Transferred.{Fetched}
use Rattle.vg_templates.proofs.Spotting.{takes_fetch_clear}
use Rattle.vg_templates.proofs.Settling.{home_is, clear_is, home_clear, made_low, made_above, takes_settles}
use Rattle.vg_templates.specs.Outcomes.{Found, Lies, IsKept}
use Rattle.vg_templates.specs.Plain.{copies_low, copies_whole, bytes_in, copies_through, copies_local, copies, pushes_value, first_of, writes_register, writes_device}
use Rattle.vg_templates.proofs.Bytes.{cut_twice, bytes_in_few, bytes_in_tell}
use Rattle.vg_templates.proofs.Finding.{found-length, takes_finds}

-- ---- states that are the same

-- a local gets the same from numbers with the same low bytes
with_local-same : (ls : List LocalState) (to a b : ℕ)
    → a % 256 ^ slice_index (map (λ (s : LocalState). s.width) ls) to ≡ b % 256 ^ slice_index (map (λ (s : LocalState). s.width) ls) to
    → with_local ls to a ≡ with_local ls to b
with_local-same [] to a b h = refl
with_local-same (l ∷ ls) zero a b h = ap (λ x. record l { value = Some x } ∷ ls) h
with_local-same (l ∷ ls) (suc to) a b h = ap (λ k. l ∷ k) (with_local-same ls to a b h)

pub sets-same : (l : Layout) (s : State) (to a b : ℕ) → map (λ (x : LocalState). x.width) s.locals ≡ l.widths
    → a % 256 ^ width_of l to ≡ b % 256 ^ width_of l to → sets to a s ≡ sets to b s
sets-same l s to a b widths_are h =
    ap (λ k. record s { locals = k })
    (with_local-same s.locals to a b (subst (λ ws. a % 256 ^ slice_index ws to ≡ b % 256 ^ slice_index ws to) (sym widths_are) h))

-- fewer locals are needed
pub held_fewer : (i : Places) (m : ℕ) (live behind : ℕ → Bool) (s : State) (frames : List (Frame State)) (v : View) → IsKept live behind
    → Held i m live s frames v → Held i m behind s frames v
held_fewer i m live behind s frames v h k =
    let t = k.stacked in
    record {
      stacked =
          record {
            wait = t.wait;
            own = t.own;
            under = t.under;
            cut = t.cut;
            points = t.points;
            waits = t.waits;
            fits = fits_fewer (i.layouts m) live behind s.locals t.own v.regs h t.fits;
            callers = t.callers;
          };
      r1 = k.r1;
      ram = k.ram;
    }

-- the outside changes alone
pub held_out : (i : Places) (m : ℕ) (live : ℕ → Bool) (s : State) (frames : List (Frame State)) (v : View) (o : Outside)
    → Held i m live s frames v → Held i m live s frames (record v { out = o })
held_out i m live s frames v o k = record { stacked = k.stacked; r1 = k.r1; ram = k.ram }

read_cons : (x : ℕ) (xs : List ℕ) (at w : ℕ) → read (x ∷ xs) (suc at) w ≡ read xs at w
read_cons x xs at zero = refl
read_cons x xs at (suc w) = ap (λ z. slice_index xs at + 256 * z) (read_cons x xs (suc at) w)

-- the registers of a list as bytes
read_map : (g : Regs) (rs : List ℕ) → read (map g.of rs) 0 (length rs) ≡ number_in g rs
read_map g [] = refl
read_map g (r ∷ rs) = ap (λ z. g.of r + 256 * z) (read_cons (g.of r) (map g.of rs) 0 (length rs) ∙ read_map g rs)

map-length : (f : ℕ → ℕ) (xs : List ℕ) → length (map f xs) ≡ length xs
map-length f [] = refl
map-length f (x ∷ xs) = ap suc (map-length f xs)

pushes-length : (ds : List ℕ) → length (pushes ds) ≡ length ds
pushes-length [] = refl
pushes-length (d ∷ ds) = let rest = pushes-length ds in let last = length-append (pushes ds) (Push d ∷ []) in omega (arith, rest, last)

one_register : (g : Regs) (rs : List ℕ) → length rs ≡ 1 → number_in g rs ≡ g.of (first_of rs)
one_register g [] h = absurd (let none : 0 ≡ 1 = h in omega arith)
one_register g (r ∷ []) h = omega arith
one_register g (r ∷ (s ∷ rs)) h = absurd (let none : suc (suc (length rs)) ≡ 1 = h in omega arith)

module _ (i : Places) (ok : (m : ℕ) → IsLayout (i.layouts m)) (m : ℕ) (frames : List (Frame State)) (e : Run) (deep : Type 0) where
  -- code by which the low bytes of a value come into r22 and behind it, where they tell what a local gets of it, and they go to the local
  takes_copies_by : (live behind : ℕ → Bool) (s : State) (to n x : ℕ) (is : List Instr) (v : View) → IsSet (i.layouts m) live behind to → n ≤ 4
      → x % 256 ^ n % 256 ^ width_of (i.layouts m) to ≡ x % 256 ^ width_of (i.layouts m) to → Held i m live s frames v
      → Takes e deep v is (Brought i m live s frames 22 n x v)
      → Takes e deep v (is ++ gives (i.layouts m) to 22 n) (Lies i m behind (sets to x s) frames v.out)
  takes_copies_by live behind s to n x is v can few tell k comes =
      let l = i.layouts m in
      let w = width_of l to in
      let goal = Lies i m behind (sets to x s) frames v.out in
      takes_then e deep v is (gives l to 22 n) (Brought i m live s frames 22 n x v) goal comes
      (λ u b. takes_wider e deep u (gives l to 22 n) (Given i m behind (sets to (number u.regs 22 n) s) frames u) goal
      (λ t g.
      let same : sets to (number u.regs 22 n) s ≡ sets to x s =
      sets-same l s to (number u.regs 22 n) x k.stacked.fits.widths (ap (λ z. z % 256 ^ w) b.fetched.holds ∙ tell) in
      record {
        held = subst (λ z. Held i m behind z frames t) same g.held;
        out = g.out ∙ ap (λ (y : View). y.out) b.fetched.same;
      })
      (takes_gives i ok m frames e deep live behind s to 22 n u can (omega arith) (omega arith) b.held))

  -- so many low bytes of a value, which tell what a local gets of it, go to the local
  takes_copies_low : (live behind : ℕ → Bool) (s : State) (to : ℕ) (a : Operand) (n x : ℕ) (v : View) → IsReady (i.layouts m) live a
      → IsSet (i.layouts m) live behind to → n ≤ 4 → x % 256 ^ n % 256 ^ width_of (i.layouts m) to ≡ x % 256 ^ width_of (i.layouts m) to
      → value a s ≡ Some x → Held i m live s frames v
      → Takes e deep v (copies_low (i.layouts m) to a n) (Lies i m behind (sets to x s) frames v.out)
  takes_copies_low live behind s to a n x v ready can few tell got k =
      takes_copies_by live behind s to n x (brings (i.layouts m) a 22 n) v can few tell k
      (takes_brings i ok m frames e deep live s a 22 n x v ready got (omega arith) (omega arith) k)

  -- a known number goes to a local
  pub takes_copies_whole : (live behind : ℕ → Bool) (s : State) (to x : ℕ) (v : View) → IsSet (i.layouts m) live behind to → Held i m live s frames v
      → Takes e deep v (copies_whole (i.layouts m) to x) (Lies i m behind (sets to x s) frames v.out)
  takes_copies_whole live behind s to x v can k =
      let w = width_of (i.layouts m) to in
      let narrow = (ok m).narrow to can.there in
      takes_copies_by live behind s to w x (known 22 w x) v can narrow (cut_twice x w w (omega arith)) k
      (takes_brings_known i ok m frames e deep live s 22 w x v (omega arith) (omega (arith, narrow)) k)

  -- the value of a local comes into the registers of another one, or through scratch ones
  takes_copies_through : (live behind : ℕ → Bool) (s : State) (to j x : ℕ) (v : View) → IsReady (i.layouts m) live (Local j)
      → IsSet (i.layouts m) live behind to → value (Local j) s ≡ Some x → Held i m live s frames v
      → Takes e deep v (copies_through (i.layouts m) to j) (Lies i m behind (sets to x s) frames v.out)
  takes_copies_through live behind s to j x v ready can got k =
      let l = i.layouts m in
      let w = width_of l to in
      let p = l.spots j in
      let wide = width_of l j in
      let h = clear_home p wide w (home_of l to w) in
      let is = clear_is l to w p wide w (home_of l to w) (home_is l to w) in
      let small = (ok m).narrow to can.there in
      let spot = (ok m).spot j ready.0 in
      let t = k.stacked in
      let value_is : value_at p wide t.own v.regs ≡ x = t.fits.each j x ready.0 ready.1 got in
      let goal = Lies i m behind (sets to x s) frames v.out in
      takes_then e deep v (fetch p wide (made_in h) w) (settles l to h w) (Fetched (made_in h) w (value_at p wide t.own v.regs) v) goal
      (takes_fetch_clear e deep p wide (made_in h) w v t.wait t.own t.under t.cut (usable l p wide t.own t.under v spot t.points t.fits.long)
      ((ok m).narrow j ready.0) (made_above l (ok m) to w h can.there is)
      (let low = made_low l (ok m) to w h can.there small is in omega (arith, low))
      (home_clear l p wide w (home_of l to w) spot) k.r1)
      (λ u f. takes_wider e deep u (settles l to h w) (Lies i m behind (sets to (x % 256 ^ w) s) frames u.out) goal
      (λ q g. record {
        held = subst (λ z. Held i m behind z frames q) (sets-same l s to (x % 256 ^ w) x t.fits.widths (cut_twice x w w (omega arith))) g.held;
        out = g.out ∙ ap (λ (y : View). y.out) f.same;
      })
      (takes_settles i ok m frames e deep live behind s to w (x % 256 ^ w) h v u can is small k
      (record {
        others = λ r kind beside. f.others r (below r kind) beside;
        holds = f.holds ∙ ap (λ z. z % 256 ^ w) value_is;
        stack = ap (λ (y : View). y.stack) f.same;
        static = ap (λ (y : View). y.static) f.same;
      })))
    where
      below : (r : ℕ) → (r ≡ 1) ⊎ IsOwned r → r < 30
      below r (inl one) = omega arith
      below r (inr (inl k')) = let up = k'.1 in omega arith
      below r (inr (inr k')) = k'.1

  -- from registers it goes to the frame at once
  takes_copies_local : (live behind : ℕ → Bool) (s : State) (to j x : ℕ) (target source : Spot) (v : View) → IsReady (i.layouts m) live (Local j)
      → IsSet (i.layouts m) live behind to → (i.layouts m).spots to ≡ target → (i.layouts m).spots j ≡ source → value (Local j) s ≡ Some x
      → Held i m live s frames v
      → Takes e deep v (copies_local target source (i.layouts m) to j) (Lies i m behind (sets to x s) frames v.out)
  takes_copies_local live behind s to j x (InRegisters r) source v ready can is is' got k = takes_copies_through live behind s to j x v ready can got k
  takes_copies_local live behind s to j x (InFrame at) (InFrame p) v ready can is is' got k = takes_copies_through live behind s to j x v ready can got k
  takes_copies_local live behind s to j x (InFrame at) (InRegisters f) v ready can is is' got k =
      let l = i.layouts m in
      let t = k.stacked in
      let wide = width_of l j in
      let inside = (subst (λ p. IsSpot l p wide) is' ((ok m).spot j ready.0)).1 in
      let value_is : number v.regs f wide ≡ x =
      ap (λ p. value_at p wide t.own v.regs) (sym is') ∙ t.fits.each j x ready.0 ready.1 got in
      takes_wider e deep v (gives l to f wide) (Given i m behind (sets to (number v.regs f wide) s) frames v) (Lies i m behind (sets to x s) frames v.out)
      (λ q g. record { held = subst (λ y. Held i m behind (sets to y s) frames q) value_is g.held; out = g.out })
      (takes_gives_frame i ok m frames e deep live behind s to at f wide v can is (omega arith) k)

  pub takes_copies : (live behind : ℕ → Bool) (s : State) (to : ℕ) (a : Operand) (x : ℕ) (v : View) → IsReady (i.layouts m) live a
      → IsSet (i.layouts m) live behind to → value a s ≡ Some x → Held i m live s frames v
      → Takes e deep v (copies (i.layouts m) to a) (Lies i m behind (sets to x s) frames v.out)
  takes_copies live behind s to (Local j) x v ready can got k =
      takes_copies_local live behind s to j x ((i.layouts m).spots to) ((i.layouts m).spots j) v ready can refl refl got k
  takes_copies live behind s to (Known y) x v ready can got k =
      let w = width_of (i.layouts m) to in
      let small = (ok m).narrow to can.there in
      let few = bytes_in_few w y in
      takes_copies_low live behind s to (Known y) (bytes_in w y) x v ready can (omega (arith, few, small))
      (subst (λ z. z % 256 ^ bytes_in w y % 256 ^ w ≡ z % 256 ^ w) (some_same y x got) (bytes_in_tell w y)) got k
    where
      some_same : (a b : ℕ) → Some a ≡ Some b → a ≡ b
      some_same a b e1 = cc

  -- registers go on the stack
  takes_pushes : (ds : List ℕ) (v : View) → (0x1100 < e.floor + length v.stack + length ds → deep)
      → Takes e deep v (pushes ds) (λ u. u ≡ record v { stack = map v.regs.of ds ++ v.stack })
  takes_pushes ds v full pc s stand room a =
      let wide = widths-pushes ds in
      let u : View = record v { stack = map v.regs.of ds ++ v.stack } in
      let goal = Sees e (λ x. x ≡ u) (pc + widths (pushes ds)) in
      let to : pc + length ds ≡ pc + widths (pushes ds) = omega (arith, wide) in
      goes_wider e deep (length (pushes ds)) s (At e (pc + widths (pushes ds)) u) goal (λ t b. record { view = u; kind = refl; at = b })
      (subst (λ n. Goes e deep n s (At e (pc + widths (pushes ds)) u)) (sym (pushes-length ds))
      (subst (λ n. Goes e deep (length ds) s (At e n u)) to (goes_pushes e deep ds pc v s stand (omega (arith, room, wide)) full a)))

  -- a value waits for a call
  pub takes_pushes_value : (live behind : ℕ → Bool) (s : State) (w : ℕ) (a : Operand) (x : ℕ) (v : View) → IsReady (i.layouts m) live a
      → IsKept live behind → w ≤ 4 → value a s ≡ Some x → (0x1100 < e.floor + length v.stack + w → deep) → Held i m live s frames v
      → Takes e deep v (pushes_value (i.layouts m) w a)
      (Lies i m behind (record s { waiting = record { width = w; value = low w x } ∷ s.waiting }) frames v.out)
  takes_pushes_value live behind s w a x v ready kept small got full k =
      let l = i.layouts m in
      let rs = found_in l a 22 w in
      let long = found-length l a 22 w in
      let after : State = record s { waiting = record { width = w; value = low w x } ∷ s.waiting } in
      let goal = Lies i m behind after frames v.out in
      takes_then e deep v (finds l a 22 w) (pushes rs) (Found i m live s frames 22 w x rs v) goal
      (takes_finds i ok m frames e deep live s a 22 w x v ready got (omega arith) (omega arith) k)
      (λ u f.
      let same_stack : u.stack ≡ v.stack = ap (λ (y : View). y.stack) f.same in
      let deeper : 0x1100 < e.floor + length u.stack + length rs → deep =
      λ h. full (let stacks = ap length same_stack in omega (arith, h, long, stacks)) in
      let t = f.held.stacked in
      takes_wider e deep u (pushes rs) (λ y. y ≡ record u { stack = map u.regs.of rs ++ u.stack }) goal
      (λ y put.
      let pushed : Held i m live after frames (record u { stack = map u.regs.of rs ++ u.stack }) =
      record {
        stacked =
            record {
              wait = map u.regs.of rs ++ t.wait;
              own = t.own;
              under = t.under;
              cut = ap (λ z. map u.regs.of rs ++ z) t.cut ∙ sym (append_assoc (map u.regs.of rs) t.wait (t.own ++ t.under));
              points = t.points;
              waits = (
                map u.regs.of rs,
                t.wait,
                refl,
                map-length u.regs.of rs ∙ long,
                subst (λ n. read (map u.regs.of rs) 0 n ≡ low w x) long (read_map u.regs rs ∙ f.holds),
                t.waits,
              );
              fits = t.fits;
              callers = t.callers;
            };
        r1 = f.held.r1;
        ram = f.held.ram;
      } in
      record {
        held = subst (Held i m behind after frames) (sym put) (held_fewer i m live behind after frames (record u { stack = map u.regs.of rs ++ u.stack }) kept pushed);
        out = ap (λ (z : View). z.out) put ∙ ap (λ (z : View). z.out) f.same;
      })
      (takes_pushes rs u deeper))

  -- ---- devices

  takes_writes : (near : Bool) (address r : ℕ) (v : View) → (near ≡ true → (0x20 ≤ address) × (address < 0x60)) → IsDeviceAddress address
      → Front e (with_event v.out (Write address (v.regs.of r)))
      → Takes e deep v (if near then Out (address - 0x20) r ∷ [] else Sts address r ∷ [])
      (λ u. u ≡ record v { out = with_event v.out (Write address (v.regs.of r)) })
  takes_writes false address r v h device front =
      let u : View = record v { out = with_event v.out (Write address (v.regs.of r)) } in
      takes_next e deep v u (Sts address r) [] (λ y. y ≡ u) (λ pc s stand room a. goes_sts_device e deep pc v s a address r stand device room front)
      (takes_none e deep u (λ y. y ≡ u) refl)
  takes_writes true address r v h device front =
      let u : View = record v { out = with_event v.out (Write address (v.regs.of r)) } in
      let back : address - 0x20 + 0x20 ≡ address = let low' = (h refl).0 in omega arith in
      takes_next e deep v u (Out (address - 0x20) r) [] (λ y. y ≡ u)
      (λ pc s stand room a. subst (λ n. Goes e deep 1 s (At e (pc + 1) (record v { out = with_event v.out (Write n (v.regs.of r)) }))) back
      (goes_out_device e deep pc v s a (address - 0x20) r stand (subst IsDeviceAddress (sym back) device) room
      (subst (λ n. Front e (with_event v.out (Write n (v.regs.of r)))) (sym back) front)))
      (takes_none e deep u (λ y. y ≡ u) refl)

  near_is : (address : ℕ) → (nat_le 0x20 address && nat_lt address 0x60) ≡ true → (0x20 ≤ address) × (address < 0x60)
  near_is address h = (grind (arith, h), grind (arith, h))

  -- a device register is written
  pub takes_writes_device : (live behind : ℕ → Bool) (s : State) (address : ℕ) (a : Operand) (x : ℕ) (v : View) → IsReady (i.layouts m) live a
      → IsKept live behind → IsDeviceAddress address → value a s ≡ Some x → Front e (with_event v.out (Write address (low 1 x))) → Held i m live s frames v
      → Takes e deep v (writes_device (i.layouts m) address a) (Lies i m behind s frames (with_event v.out (Write address (low 1 x))))
  takes_writes_device live behind s address a x v ready kept device got front k =
      let l = i.layouts m in
      let rs = found_in l a 22 1 in
      let r = first_of rs in
      let o = with_event v.out (Write address (low 1 x)) in
      let goal = Lies i m behind s frames o in
      takes_then e deep v (finds l a 22 1) (writes_register address r) (Found i m live s frames 22 1 x rs v) goal
      (takes_finds i ok m frames e deep live s a 22 1 x v ready got (omega arith) (omega arith) k)
      (λ u f.
      let byte : u.regs.of r ≡ low 1 x = sym (one_register u.regs rs (found-length l a 22 1)) ∙ f.holds in
      let same_out : u.out ≡ v.out = ap (λ (y : View). y.out) f.same in
      let event : with_event u.out (Write address (u.regs.of r)) ≡ o =
      ap (λ y. with_event y (Write address (u.regs.of r))) same_out ∙ ap (λ b. with_event v.out (Write address b)) byte in
      takes_wider e deep u (writes_register address r) (λ y. y ≡ record u { out = with_event u.out (Write address (u.regs.of r)) }) goal
      (λ y put.
      let there = put ∙ ap (λ z. record u { out = z }) event in
      record {
        held = held_fewer i m live behind s frames y kept (subst (Held i m live s frames) (sym there) (held_out i m live s frames u o f.held));
        out = ap (λ (z : View). z.out) there;
      })
      (takes_writes (nat_le 0x20 address && nat_lt address 0x60) address r u (near_is address) device (subst (Front e) (sym event) front)))
