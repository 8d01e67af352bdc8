-- A copy from flash to the static area, and the way from reset to behind it.
use Rattle.std.proofs.Common.{◌≡◌, ◌≢◌, ℕ, zero, suc, ◌+◌, ◌*◌, ◌/◌, ◌%◌, ◌<◌, ◌≤◌, true, false, not, ◌&&◌, ◌==◌, if◌then◌else◌, Bool}
use Rattle.std.proofs.Common.{List, [], ◌∷◌, ◌++◌, length, take, refl, ap, ◌∙◌, subst, arith, append_assoc, length-append, slice_set}
use Rattle.std.proofs.lemmas.List.{append-nil}
use Rattle.vg_meaning.specs.Outside.{Outside, before, AreReads, AreVectors}
use Rattle.avr_instr.specs.declared.instr.Instr.{Instr}
use Rattle.avr_instr.specs.declared.instr.Instr.TheVariants.{Brbc, Cpc, Cpi, Jmp, Ldi, LpmZPlus, Sub}
use Rattle.avr_isa.specs.Cpu.{PowerOn, IsPowerOn, flash_byte}
use Rattle.avr_isa.specs.Flags.{difference_of, flags_of_difference, number}
use Rattle.avr_isa.specs.Flow.{near_from}
use Rattle.avr_isa.specs.Machine.{State, started}
use Rattle.avr_isa.specs.Standing.{widths, StandsAt, AllStandAt}
use Rattle.avr_view.specs.Memory.{InStatic}
use Rattle.avr_view.specs.Registers.{Regs, does, does_all, pair, put_next}
use Rattle.avr_view.specs.Run.{Run, Goes}
use Rattle.avr_view.specs.View.{View, At, with_byte}
use Rattle.avr_view.specs.Start.{start_code, Started}
use Rattle.avr_view.proofs.Going.{goes_here, goes_then, goes_fewer, goes_wider}
use Rattle.avr_view.proofs.Steps.{goes_does, goes_plain}
use Rattle.avr_view.proofs.MemorySteps.{goes_stx_after}
use Rattle.avr_view.proofs.JumpSteps.{goes_brne}
use Rattle.avr_view.proofs.StartSteps.{goes_started}
use Rattle.vg_templates.specs.Startup.{bytes_from, copy_turn, copies, startup, Begun}

-- ---- numbers

same_difference : (x y : ℕ) → x ≡ y → difference_of x y 0 ≡ 0
same_difference x y e = omega (arith, e)

other_difference : (x y : ℕ) → x < 256 → y < 256 → x ≢ y → (difference_of x y 0 == 0) ≡ false
other_difference x y h k e = grind (arith, h, k, e)

-- Z behind CPI and CPC tells whether two numbers of two bytes are the same
abbrev zero_of : (x y low high : ℕ) → Bool
zero_of x y low high =
    (flags_of_difference y high (number (flags_of_difference x low 0).carry)).zero && (flags_of_difference x low 0).zero

same_bytes : (x y : ℕ) → zero_of x y x y ≡ true
same_bytes x y = grind (arith, same_difference x x refl, same_difference y y refl)

at_end : (x y end : ℕ) → x < 256 → y < 256 → x + 256 * y ≡ end → zero_of x y (end % 256) (end / 256) ≡ true
at_end x y end h k e =
    let low : x ≡ end % 256 = omega (arith, h, e) in
    let high : y ≡ end / 256 = omega (arith, h, e) in
    subst (λ z. zero_of x y z (end / 256) ≡ true) low (subst (λ z. zero_of x y x z ≡ true) high (same_bytes x y))

-- a number below another has another byte
apart : (x y low high : ℕ) → x < 256 → y < 256 → low < 256 → high < 256 → x + 256 * y < low + 256 * high → zero_of x y low high ≡ false
apart x y low high h k l m e = by (x == low) refl
  where
    by : (b : Bool) → (x == low) ≡ b → zero_of x y low high ≡ false
    by true is = grind (arith, h, k, l, m, e, is)
    by false is = grind (arith, h, k, l, m, e, is)

before_end : (x y end : ℕ) → x < 256 → y < 256 → end < 65536 → x + 256 * y < end → zero_of x y (end % 256) (end / 256) ≡ false
before_end x y end h k small e = apart x y (end % 256) (end / 256) h k (omega arith) (omega (arith, small)) (omega (arith, e))

-- the byte behind a list changes
change_at : (front : List ℕ) (y : ℕ) (rest : List ℕ) (x : ℕ) → slice_set (front ++ y ∷ rest) (length front) x ≡ (front ++ x ∷ []) ++ rest
change_at [] y rest x = refl
change_at (z ∷ front) y rest x = ap (λ l. z ∷ l) (change_at front y rest x)

none : (l : List ℕ) → length l ≡ 0 → l ≡ []
none [] e = refl
none (x ∷ l) e = absurd (omega (arith, e))

inside : (front : List ℕ) (y : ℕ) (rest : List ℕ) (v : View) → v.static ≡ front ++ y ∷ rest → length front < length v.static
inside front y rest v e = let l = ap length e ∙ length-append front (y ∷ rest) in omega (arith, l)

pair_next : (r : Regs) (x : ℕ) → pair r 26 ≡ x → x < 65535 → pair (put_next r 26) 26 ≡ suc x
pair_next r x e h = omega (arith, e, h)

at_view : (e : Run) (n : ℕ) (t : State) (regs : Regs) (s1 s2 k1 k2 : List ℕ) (o1 o2 : Outside) → s1 ≡ s2 → k1 ≡ k2 → o1 ≡ o2
    → At e n (record { regs = regs; static = s1; stack = k1; out = o1 }) t → At e n (record { regs = regs; static = s2; stack = k2; out = o2 }) t
at_view e n t regs s1 s2 k1 k2 o1 o2 es ek eo a =
    subst (λ z. At e n (record { regs = regs; static = s2; stack = k2; out = z }) t) eo
    (subst (λ z. At e n (record { regs = regs; static = s2; stack = z; out = o1 }) t) ek
    (subst (λ z. At e n (record { regs = regs; static = z; stack = k1; out = o1 }) t) es a))

module _ (e : Run) (deep : Type 0) (pc end : ℕ) (o : Outside) (stand : AllStandAt e.flash pc (copy_turn end)) (room : pc + 5 < 65536)
    (small : end < 65536) where
  -- what a copy leaves
  abbrev Copied : List ℕ → State → Type 0
  Copied static t = (regs : Regs) × (regs.of 1 ≡ 0) × At e (pc + 5) (record { regs = regs; static = static; stack = []; out = o }) t

  -- what the code sees before a turn, the next byte being read from here
  record Copying (at : ℕ) (front rest : List ℕ) (v : View) : Type 0 where
    pub static : v.static ≡ front ++ rest
    pub x : pair v.regs 26 ≡ 0x100 + length front
    pub z : pair v.regs 30 ≡ at
    pub zero : v.regs.of 1 ≡ 0
    pub high : v.regs.of 16 ≡ end / 256
    pub stack : v.stack ≡ []
    pub out : v.out ≡ o

  abbrev read_one : View → View
  read_one v = record v { regs = does e.flash (LpmZPlus 0) v.regs }

  abbrev stored : View → (i : ℕ) → View
  stored v i = with_byte (record (read_one v) { regs = put_next (read_one v).regs 26 }) (InStatic i) ((read_one v).regs.of 0)

  abbrev tests : List Instr
  tests = Cpi 26 (end % 256) ∷ Cpc 27 16 ∷ []

  abbrev turned : View → (i : ℕ) → View
  turned v i = record (stored v i) { regs = does_all e.flash tests (stored v i).regs }

  -- one turn
  turn : (i : ℕ) (v : View) (s : State) → i < length v.static → pair v.regs 26 ≡ 0x100 + i → At e pc v s
      → Goes e deep 1 s (At e (if not (turned v i).regs.flags.zero then near_from (pc + 4) 0x7B else pc + 5) (turned v i))
  turn i v s inside x a =
      let last = At e (if not (turned v i).regs.flags.zero then near_from (pc + 4) 0x7B else pc + 5) (turned v i) in
      goes_then e deep 1 0 s (At e (pc + 1) (read_one v)) last (goes_does e deep (LpmZPlus 0) pc v s stand.0 tt (omega (arith, room)) a)
      (λ t b. goes_fewer e deep 1 0 t last (omega arith)
      (goes_then e deep 1 0 t (At e (pc + 2) (stored v i)) last
      (goes_wider e deep 1 t (At e (pc + 1 + 1) (stored v i)) (At e (pc + 2) (stored v i))
      (λ u c. let same : pc + 1 + 1 ≡ pc + 2 = omega arith in subst (λ n. At e n (stored v i) u) same c)
      (goes_stx_after e deep (pc + 1) (read_one v) t b 0 (InStatic i) stand.1.0 (omega (arith, room)) (inside, x)))
      (λ u c. goes_fewer e deep 2 0 u last (omega arith)
      (goes_then e deep 2 0 u (At e (pc + 2 + 2) (turned v i)) last
      (goes_plain e deep tests (pc + 2) (stored v i) u test_stands (tt, (tt, tt)) (omega (arith, room)) c)
      (λ w d. goes_fewer e deep 1 0 w last (omega arith) (branch w (let same : pc + 2 + 2 ≡ pc + 4 = omega arith in subst (λ n. At e n (turned v i) w) same d)))))))
    where
      test_stands : AllStandAt e.flash (pc + 2) tests
      test_stands =
          let here : pc + 1 + 1 ≡ pc + 2 = omega arith in (
            subst (λ n. StandsAt e.flash n (Cpi 26 (end % 256))) here stand.1.1.0,
            (subst (λ n. StandsAt e.flash (n + 1) (Cpc 27 16)) here stand.1.1.1.0, tt),
          )

      branch : (w : State) → At e (pc + 4) (turned v i) w
          → Goes e deep 1 w (At e (if not (turned v i).regs.flags.zero then near_from (pc + 4) 0x7B else pc + 5) (turned v i))
      branch w d =
          let there : pc + 1 + 1 + 1 + 1 ≡ pc + 4 = omega arith in
          let next : pc + 4 + 1 ≡ pc + 5 = omega arith in
          subst (λ n. Goes e deep 1 w (At e (if not (turned v i).regs.flags.zero then near_from (pc + 4) 0x7B else n) (turned v i))) next
          (goes_brne e deep (pc + 4) (turned v i) w d 0x7B (subst (λ n. StandsAt e.flash n (Brbc 1 0x7B)) there stand.1.1.1.1.0) (omega (arith, room)))

  -- what a turn leaves
  copying_on : (at y : ℕ) (front rest : List ℕ) (v : View) → at < 65535 → length front < 0x1000 → Copying at front (y ∷ rest) v
      → Copying (suc at) (front ++ flash_byte e.flash at ∷ []) rest (turned v (length front))
  copying_on at y front rest v small_at small_front c =
      let b = flash_byte e.flash (pair v.regs 30) in
      let longer : length (front ++ flash_byte e.flash at ∷ []) ≡ length front + 1 = length-append front (flash_byte e.flash at ∷ []) in
      let x = pair_next (read_one v).regs (0x100 + length front) c.x (omega (arith, small_front)) in
      record {
        static =
            ap (λ l. slice_set l (length front) b) c.static
            ∙ (change_at front y rest b ∙ ap (λ n. (front ++ flash_byte e.flash n ∷ []) ++ rest) c.z);
        x = omega (arith, x, longer);
        z = let z = c.z in omega (arith, z, small_at);
        zero = c.zero;
        high = c.high;
        stack = c.stack;
        out = c.out;
      }

  -- Z tells whether the copy is at its end
  flag_is : (at y : ℕ) (front rest : List ℕ) (v : View) → Copying at front (y ∷ rest) v
      → (turned v (length front)).regs.flags.zero
      ≡ zero_of ((pair v.regs 26 + 1) % 65536 % 256) ((pair v.regs 26 + 1) % 65536 / 256) (end % 256) (end / 256)
  flag_is at y front rest v c =
      ap (λ h. zero_with ((pair v.regs 26 + 1) % 65536 % 256) ((pair v.regs 26 + 1) % 65536 / 256) (end % 256) h) c.high
    where
      zero_with : (x y low high : ℕ) → Bool
      zero_with x y low high =
          (flags_of_difference y high (number (flags_of_difference x low 0).carry)).zero && (flags_of_difference x low 0).zero

  turns : (k at : ℕ) (front rest : List ℕ) (v : View) (s : State) → length rest ≡ suc k → 0x100 + length front + suc k ≡ end → end ≤ 0x1100
      → at + suc k < 65536 → Copying at front rest v → At e pc v s → Goes e deep 1 s (Copied (front ++ bytes_from e.flash at (suc k)))
  turns k at front [] v s long ends low room_at c a = absurd (omega (arith, long))
  turns zero at front (y ∷ rest) v s long ends low room_at c a =
      let w = turned v (length front) in
      let next = copying_on at y front rest v (omega (arith, room_at)) (omega (arith, ends, low)) c in
      let goal = Copied (front ++ bytes_from e.flash at 1) in
      let x = c.x in
      let on : w.regs.flags.zero ≡ true =
      flag_is at y front rest v c
      ∙ at_end ((pair v.regs 26 + 1) % 65536 % 256) ((pair v.regs 26 + 1) % 65536 / 256) end (omega arith) (omega arith) (omega (arith, x, ends, low)) in
      let static : w.static ≡ front ++ bytes_from e.flash at 1 =
      next.static ∙ (ap (λ l. (front ++ flash_byte e.flash at ∷ []) ++ l) (none rest (omega (arith, long))) ∙ append-nil (front ++ flash_byte e.flash at ∷ [])) in
      goes_then e deep 1 0 s (At e (if not w.regs.flags.zero then near_from (pc + 4) 0x7B else pc + 5) w) goal
      (turn (length front) v s (inside front y rest v c.static) c.x a)
      (λ t d. goes_here e deep t goal (
        w.regs,
        next.zero,
        at_view e (pc + 5) t w.regs w.static (front ++ bytes_from e.flash at 1) w.stack [] w.out o static next.stack next.out
            (subst (λ f. At e (if not f then near_from (pc + 4) 0x7B else pc + 5) w t) on d),
      ))
  turns (suc k) at front (y ∷ rest) v s long ends low room_at c a =
      let w = turned v (length front) in
      let b = flash_byte e.flash at in
      let next = copying_on at y front rest v (omega (arith, room_at)) (omega (arith, ends, low)) c in
      let goal = Copied (front ++ bytes_from e.flash at (suc (suc k))) in
      let x = c.x in
      let off : w.regs.flags.zero ≡ false =
      flag_is at y front rest v c
      ∙ before_end ((pair v.regs 26 + 1) % 65536 % 256) ((pair v.regs 26 + 1) % 65536 / 256) end (omega arith) (omega arith) small
      (omega (arith, x, ends, low)) in
      let longer : length (front ++ b ∷ []) ≡ length front + 1 = length-append front (b ∷ []) in
      let back : near_from (pc + 4) 0x7B ≡ pc = omega (arith, room) in
      let same : (front ++ b ∷ []) ++ bytes_from e.flash (suc at) (suc k) ≡ front ++ bytes_from e.flash at (suc (suc k)) =
      append_assoc front (b ∷ []) (bytes_from e.flash (suc at) (suc k)) in
      goes_then e deep 1 0 s (At e (if not w.regs.flags.zero then near_from (pc + 4) 0x7B else pc + 5) w) goal
      (turn (length front) v s (inside front y rest v c.static) c.x a)
      (λ t d. goes_fewer e deep 1 0 t goal (omega arith)
      (subst (λ l. Goes e deep 1 t (Copied l)) same
      (turns k (suc at) (front ++ b ∷ []) rest w t (omega (arith, long)) (omega (arith, ends, longer)) low (omega (arith, room_at)) next
      (subst (λ n. At e n w t) back (subst (λ f. At e (if not f then near_from (pc + 4) 0x7B else pc + 5) w t) off d)))))

-- ---- from reset

module _ (e : Run) (deep : Type 0) where
  copied : (count from pc : ℕ) (o : Outside) (v : View) (s : State) → count ≡ e.static → AllStandAt e.flash pc (copies count from)
      → pc + widths (copies count from) < 65536 → from + count < 65536 → v.regs.of 1 ≡ 0 → v.stack ≡ [] → v.out ≡ o → At e pc v s
      → Goes e deep 0 s (Begun e from o (pc + widths (copies count from)))
  copied zero from pc o v s same stand room_code room_at one stack out a =
      let goal = Begun e from o (pc + 0) in
      let long = a.static in
      let static : v.static ≡ bytes_from e.flash from e.static =
      none v.static (omega (arith, long, same)) ∙ ap (bytes_from e.flash from) same in
      let here : pc ≡ pc + 0 = omega arith in
      goes_here e deep s goal
      (record {
        regs = v.regs;
        zero = one;
        at =
            subst (λ n. At e n (record { regs = v.regs; static = bytes_from e.flash from e.static; stack = []; out = o }) s) here
            (at_view e pc s v.regs v.static (bytes_from e.flash from e.static) v.stack [] v.out o static stack out a);
      })
  copied (suc n) from pc o v s same stand room_code room_at one stack out a =
      let end = 0x100 + suc n in
      let size = a.memory.size in
      let long = a.static in
      let pointers = Ldi 26 0 ∷ Ldi 27 1 ∷ Ldi 30 (from % 256) ∷ Ldi 31 (from / 256) ∷ Ldi 16 (end / 256) ∷ [] in
      let w : View = record v { regs = does_all e.flash pointers v.regs } in
      let goal = Begun e from o (pc + widths (copies (suc n) from)) in
      let there : pc + 1 + 1 + 1 + 1 + 1 ≡ pc + 5 = omega arith in
      let loop : AllStandAt e.flash (pc + 5) (copy_turn end) =
      subst (λ m. AllStandAt e.flash m (copy_turn end)) there stand.1.1.1.1.1 in
      let behind : pc + 5 + 5 ≡ pc + widths (copies (suc n) from) = omega arith in
      let first : Copying e deep (pc + 5) end o loop (omega (arith, room_code)) (omega (arith, size, long, same)) from [] v.static w =
      record {
        static = refl;
        x = refl;
        z = omega arith;
        zero = one;
        high = refl;
        stack = stack;
        out = out;
      } in
      goes_fewer e deep (5 + 1) 0 s goal (omega arith)
      (goes_then e deep 5 1 s (At e (pc + 5) w) goal
      (goes_plain e deep pointers pc v s (stand.0, (stand.1.0, (stand.1.1.0, (stand.1.1.1.0, (stand.1.1.1.1.0, tt))))) (tt, (tt, (tt, (tt, (tt, tt)))))
      (omega (arith, room_code)) a)
      (λ t b. goes_wider e deep 1 t (Copied e deep (pc + 5) end o loop (omega (arith, room_code)) (omega (arith, size, long, same)) (bytes_from e.flash from (suc n)))
      goal
      (λ u c. record {
        regs = c.0;
        zero = c.1;
        at =
            subst (λ m. At e m (record { regs = c.0; static = bytes_from e.flash from e.static; stack = []; out = o }) u) behind
            (subst (λ k. At e (pc + 5 + 5) (record { regs = c.0; static = bytes_from e.flash from k; stack = []; out = o }) u) same c.2);
      })
      (turns e deep (pc + 5) end o loop (omega (arith, room_code)) (omega (arith, size, long, same)) n from [] v.static w t (omega (arith, long, same))
      (omega arith) (omega (arith, size, long, same)) room_at first b)))

  pub starts : (start from : ℕ) (memory : PowerOn) (reads interrupts : List ℕ) → IsPowerOn memory → AreReads reads → AreVectors interrupts
      → StandsAt e.flash 0 (Jmp start) → start ≢ 0 → AllStandAt e.flash start (startup e.static from) → start + widths (startup e.static from) < 65536
      → from + e.static < 65536 → e.floor ≤ 0x1100
      → Goes e deep 5 (started memory reads interrupts) (Begun e from (before reads interrupts) (start + widths (startup e.static from)))
  starts start from memory reads interrupts powered r is jump away stand room_code room_at floor =
      let o = before reads interrupts in
      let goal = Begun e from o (start + widths (startup e.static from)) in
      let sets : AllStandAt e.flash start (start_code 16) = (stand.0, (stand.1.0, (stand.1.1.0, (stand.1.1.1.0, tt)))) in
      let here : start + 1 + 1 + 1 + 1 ≡ start + 4 = omega arith in
      let next : start + 1 + 1 + 1 + 1 + 1 ≡ start + 4 + 1 = omega arith in
      let behind : start + 4 + 1 + widths (copies e.static from) ≡ start + widths (startup e.static from) = omega arith in
      goes_then e deep 5 0 (started memory reads interrupts) (Started e memory o (start + 4)) goal
      (goes_started e deep start 16 memory reads interrupts powered r is jump away sets (omega (arith, room_code)) floor)
      (λ t b.
      let v : View = record { regs = b.regs; static = take e.static memory.sram; stack = []; out = o } in
      let w : View = record v { regs = does e.flash (Sub 1 1) v.regs } in
      goes_fewer e deep 1 0 t goal (omega arith)
      (goes_then e deep 1 0 t (At e (start + 4 + 1) w) goal
      (goes_does e deep (Sub 1 1) (start + 4) v t (subst (λ n. StandsAt e.flash n (Sub 1 1)) here stand.1.1.1.1.0) tt (omega (arith, room_code)) b.at)
      (λ u c. subst (λ n. Goes e deep 0 u (Begun e from o n)) behind
      (copied e.static from (start + 4 + 1) o w u refl (subst (λ n. AllStandAt e.flash n (copies e.static from)) next stand.1.1.1.1.1) (omega (arith, room_code))
      room_at (omega arith) refl refl c))))
