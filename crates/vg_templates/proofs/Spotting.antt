-- Values come from spots, and go to spots.
use Rattle.std.proofs.Common.{◌≡◌, ℕ, zero, suc, ◌+◌, ◌<◌, ◌≤◌, ◌⊎◌, inl, inr, false, List, ◌++◌, length}
use Rattle.std.proofs.Common.{refl, sym, ap, ◌∙◌, subst, arith, nat_lt, length-append}
use Rattle.avr_instr.specs.declared.instr.Instr.{Instr}
use Rattle.avr_view.specs.Registers.{Regs, does_all, ArePlain}
use Rattle.avr_view.specs.Run.{Run}
use Rattle.avr_view.specs.View.{View}
use Rattle.vg_templates.specs.Spots.{Spot, InFrame, InRegisters, number, put_number, read, written, value_at}
use Rattle.vg_templates.proofs.Numbers.{number-put, put_number-beside}
use Rattle.vg_templates.specs.Pieces.{Takes}
use Rattle.vg_templates.specs.Transfers.{known, known_number, moves, reach, loads, stores, fetch, keep}
use Rattle.vg_templates.specs.Transferred.{IsUsable, Fetched, Kept}
use Rattle.vg_templates.proofs.Composing.{takes_then, takes_wider, takes_bytes, takes_plain}
use Rattle.vg_templates.proofs.Moving.{known-plain, known-put, known_number-plain, known_number-put, moves-plain, moves-put}
use Rattle.vg_templates.proofs.Accessing.{Reached, takes_reach, takes_loads, takes_stores, read_within, written_within}

pub middle_far : (at w : ℕ) → w ≤ 4 → nat_lt (at + w) 64 ≡ false → 60 ≤ suc at
middle_far at w h e = let far : 64 ≤ at + w = grind arith in omega arith

number_reached : (old new : Regs) (r n : ℕ) → ((x : ℕ) → x < 30 → new.of x ≡ old.of x) → r + n ≤ 30 → number new r n ≡ number old r n
number_reached old new r zero h low = refl
number_reached old new r (suc n) h low =
    let one = h r (omega arith) in let rest = number_reached old new (suc r) n h (omega arith) in omega (arith, one, rest)

-- registers that were put are fetched
pub fetched_put : (v u : View) (d n x : ℕ) → u ≡ record v { regs = put_number v.regs d n x } → Fetched d n x v u
fetched_put v u d n x k =
    subst (Fetched d n x v) (sym k) (record { others = λ y low beside. put_number-beside v.regs d n x y beside; holds = number-put v.regs d n x; same = refl })

-- a spot has no byte among so many registers
abbrev pub IsClear : Spot → (width first count : ℕ) → Type 0
IsClear (InFrame at) w d n = Unit {0}
IsClear (InRegisters r) w d n = (r + w ≤ d) ⊎ (d + n ≤ r)

scratch_clear : (s : Spot) (w d n : ℕ) (own under : List ℕ) (v : View) → 18 ≤ d → IsUsable s w own under v → IsClear s w d n
scratch_clear (InFrame at) w d n own under v low can = tt
scratch_clear (InRegisters r) w d n own under v low can = let inside = can.1 in inl (omega arith)

module _ (e : Run) (deep : Type 0) where
  -- code that puts a number
  takes_put : (is : List Instr) (d n x : ℕ) (v : View) → ArePlain is → does_all e.flash is v.regs ≡ put_number v.regs d n x
      → Takes e deep v is (Fetched d n x v)
  takes_put is d n x v plain puts =
      takes_wider e deep v is (λ u. u ≡ record v { regs = does_all e.flash is v.regs }) (Fetched d n x v)
      (λ u k. fetched_put v u d n x (k ∙ ap (λ g. record v { regs = g }) puts)) (takes_plain e deep v is plain)

  -- a known number, byte by byte, and in as few instructions
  pub takes_known : (d n x : ℕ) (v : View) → Takes e deep v (known d n x) (Fetched d n x v)
  takes_known d n x v = takes_put (known d n x) d n x v (known-plain d n x) (known-put e.flash d n x v.regs)

  pub takes_known_number : (d n x : ℕ) (v : View) → Takes e deep v (known_number d n x) (Fetched d n x v)
  takes_known_number d n x v = takes_put (known_number d n x) d n x v (known_number-plain d n x) (known_number-put e.flash d n x v.regs)

  -- a value at a spot, which has no byte where it comes
  pub takes_fetch_clear : (s : Spot) (w d n : ℕ) (v : View) (wait own under : List ℕ) → v.stack ≡ wait ++ (own ++ under) → IsUsable s w own under v → w ≤ 4
      → 2 ≤ d → d + n ≤ 28 → IsClear s w d n → v.regs.of 1 ≡ 0 → Takes e deep v (fetch s w d n) (Fetched d n (value_at s w own v.regs) v)
  takes_fetch_clear (InRegisters r) w d n v wait own under cut can small low top clear zero' =
      let is = moves r d w n in
      let inside = can.1 in
      takes_bytes e deep v is (Fetched d n (number v.regs r w) v)
      (λ bytes. takes_wider e deep v is (λ u. u ≡ record v { regs = does_all e.flash is v.regs }) (Fetched d n (number v.regs r w) v)
      (λ u k. fetched_put v u d n (number v.regs r w) (k ∙ ap (λ g. record v { regs = g })
      (moves-put e.flash r d w n v.regs zero' low clear (λ x lo hi. bytes x (omega arith)))))
      (takes_plain e deep v is (moves-plain r d w n)))
  takes_fetch_clear (InFrame at) w d n v wait own under cut can small low top clear zero' =
      let (base, inside) = can in
      let r = reach at w in
      let value = read own at w in
      let sizes = length-append own under in
      let goal = Fetched d n value v in
      takes_then e deep v r.code (loads r.base r.displacement d w n) (Reached r.base r.displacement at v) goal
      (takes_reach e deep (nat_lt (at + w) 64) (nat_lt (at + w) 124) at v (λ far middle. middle_far at w small far) (omega (arith, base, sizes)))
      (λ u k.
      let same_stack : u.stack ≡ wait ++ (own ++ under) = ap (λ (t : View). t.stack) k.same ∙ cut in
      let long : length u.stack ≡ length wait + length (own ++ under) = ap length same_stack ∙ length-append wait (own ++ under) in
      let pointer = k.pointer in
      takes_wider e deep u (loads r.base r.displacement d w n)
      (λ t. t ≡ record u { regs = put_number u.regs d n (read u.stack (length wait + at) w) }) goal
      (λ t is_put.
      let read_is : read u.stack (length wait + at) w ≡ value = ap (λ l. read l (length wait + at) w) same_stack ∙ read_within wait own under at w inside in
      let f = fetched_put u t d n value (is_put ∙ ap (λ x. record u { regs = put_number u.regs d n x }) read_is) in
      record { others = λ x low' beside. f.others x low' beside ∙ k.others x low'; holds = f.holds; same = f.same ∙ ap (λ (y : View). record y { regs = t.regs }) k.same })
      (takes_loads e deep r.base r.displacement d w n (length wait + at) u low top (k.others 1 (omega arith) ∙ zero') (omega (arith, pointer, long, base))
      (omega (arith, long, sizes, inside))))

  -- into scratch registers
  pub takes_fetch : (s : Spot) (w d n : ℕ) (v : View) (wait own under : List ℕ) → v.stack ≡ wait ++ (own ++ under) → IsUsable s w own under v → w ≤ 4
      → 18 ≤ d → d + n ≤ 28 → v.regs.of 1 ≡ 0 → Takes e deep v (fetch s w d n) (Fetched d n (value_at s w own v.regs) v)
  takes_fetch s w d n v wait own under cut can small low top zero' =
      takes_fetch_clear s w d n v wait own under cut can small (omega arith) top (scratch_clear s w d n own under v low can) zero'

  -- a number goes to the frame, from any registers below Z
  pub takes_keep_frame : (at w r n : ℕ) (v : View) (wait own under : List ℕ) → v.stack ≡ wait ++ (own ++ under) → IsUsable (InFrame at) w own under v
      → w ≤ 4 → r + n ≤ 30 → v.regs.of 1 ≡ 0 → Takes e deep v (keep (InFrame at) w r n) (Kept (InFrame at) w (number v.regs r n) wait own under v)
  takes_keep_frame at w r n v wait own under cut can small top zero' =
      let (base, inside) = can in
      let p = reach at w in
      let value = number v.regs r n in
      let sizes = length-append own under in
      let goal = Kept (InFrame at) w value wait own under v in
      takes_then e deep v p.code (stores p.base p.displacement r w n) (Reached p.base p.displacement at v) goal
      (takes_reach e deep (nat_lt (at + w) 64) (nat_lt (at + w) 124) at v (λ far middle. middle_far at w small far) (omega (arith, base, sizes)))
      (λ u k.
      let same_stack : u.stack ≡ wait ++ (own ++ under) = ap (λ (t : View). t.stack) k.same ∙ cut in
      let long : length u.stack ≡ length wait + length (own ++ under) = ap length same_stack ∙ length-append wait (own ++ under) in
      let pointer = k.pointer in
      let same_value : number u.regs r n ≡ value = number_reached v.regs u.regs r n k.others (omega arith) in
      takes_wider e deep u (stores p.base p.displacement r w n)
      (λ t. t ≡ record u { stack = written u.stack (length wait + at) w (number u.regs r n) }) goal
      (λ t is_put.
      let stack_is : written u.stack (length wait + at) w (number u.regs r n) ≡ wait ++ (written own at w value ++ under) =
      ap (λ x. written u.stack (length wait + at) w x) same_value ∙ ap (λ l. written l (length wait + at) w value) same_stack
      ∙ written_within wait own under at w value inside in
      let regs_are : t.regs ≡ u.regs = ap (λ (y : View). y.regs) is_put in
      record {
        registers = λ x low'. ap (λ (g : Regs). g.of x) regs_are ∙ k.others x low';
        same = is_put ∙ ap (λ l. record u { stack = l }) stack_is
            ∙ ap (λ (y : View). record y { stack = wait ++ (written own at w value ++ under) }) k.same
            ∙ ap (λ g. record v { regs = g; stack = wait ++ (written own at w value ++ under) }) (sym regs_are);
      })
      (takes_stores e deep p.base p.displacement r w n (length wait + at) u (omega arith) (k.others 1 (omega arith) ∙ zero') (omega (arith, pointer, long, base))
      (omega (arith, long, sizes, inside))))

  -- a number goes to a spot
  pub takes_keep : (s : Spot) (w r n : ℕ) (v : View) (wait own under : List ℕ) → v.stack ≡ wait ++ (own ++ under) → IsUsable s w own under v → w ≤ 4
      → 18 ≤ r → r + n ≤ 28 → v.regs.of 1 ≡ 0 → Takes e deep v (keep s w r n) (Kept s w (number v.regs r n) wait own under v)
  takes_keep (InRegisters d) w r n v wait own under cut can small low top zero' =
      let is = moves r d n w in
      let (up, inside) = can in
      let value = number v.regs r n in
      let goal = Kept (InRegisters d) w value wait own under v in
      takes_bytes e deep v is goal
      (λ bytes. takes_wider e deep v is (λ u. u ≡ record v { regs = does_all e.flash is v.regs }) goal
      (λ u k.
      let put = k ∙ ap (λ g. record v { regs = g })
      (moves-put e.flash r d n w v.regs zero' up (inr (omega arith)) (λ x lo hi. bytes x (omega arith))) in
      record {
        registers = λ x low'. ap (λ (t : View). t.regs.of x) put;
        same = put ∙ ap (λ l. record v { regs = put_number v.regs d w value; stack = l }) cut
            ∙ ap (λ (t : View). record v { regs = t.regs; stack = wait ++ (own ++ under) }) (sym put);
      })
      (takes_plain e deep v is (moves-plain r d n w)))
  takes_keep (InFrame at) w r n v wait own under cut can small low top zero' =
      takes_keep_frame at w r n v wait own under cut can small (omega arith) zero'
