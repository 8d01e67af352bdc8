-- What the entry of a procedure and its exit do to the stack and to the registers.
use Rattle.std.proofs.Common.{◌≡◌, ℕ, zero, suc, ◌+◌, ◌-◌, ◌*◌, ◌/◌, ◌%◌, ◌<◌, ◌≤◌, ◌⊎◌, inl, inr, Bool, true, false, if◌then◌else◌}
use Rattle.std.proofs.Common.{List, [], ◌∷◌, ◌++◌, length, refl, sym, ap, ◌∙◌, subst, arith, nat_lt, length-append}
use Rattle.std.specs.Prelude.{map}
use Rattle.avr_instr.specs.declared.instr.Instr.TheVariants.{Adiw, Push, Ret, Sbci, Sbiw, Subi}
use Rattle.avr_isa.specs.Flags.{difference_of, number as number_of}
use Rattle.avr_isa.specs.Machine.{State}
use Rattle.avr_isa.specs.Standing.{widths, StandsAt, AllStandAt}
use Rattle.avr_isa.proofs.Standing.{front_stands, back_stands, widths-append}
use Rattle.avr_view.specs.Registers.{Regs, pair, put, does_all, ArePlain}
use Rattle.avr_view.specs.Run.{Run, Goes}
use Rattle.avr_view.specs.View.{View, At}
use Rattle.avr_view.proofs.Going.{goes_here, goes_then, goes_fewer, goes_wider}
use Rattle.avr_view.proofs.Steps.{goes_plain, register_below}
use Rattle.avr_view.proofs.StackSteps.{goes_push, goes_pop, goes_in_spl, goes_in_sph, goes_lower, goes_raise}
use Rattle.avr_view.proofs.CallSteps.{goes_ret}
use Rattle.vg_templates.specs.Layouts.{Layout}
use Rattle.vg_templates.specs.Linkage.{pushes, pops, y_less, y_more, sp_is_y, takes_slots, drops_slots, frame_pointer, saves, epilogue}
use Rattle.vg_templates.specs.Linkage.{AreOthers, Entered, Left}
use Rattle.vg_templates.specs.Frames.{restored, word_bytes}
use Rattle.vg_templates.proofs.Numbers.{put_other}

pub widths-pushes : (ds : List ℕ) → widths (pushes ds) ≡ length ds
widths-pushes [] = refl
widths-pushes (d ∷ ds) =
    let rest = widths-pushes ds in
    let e : widths (pushes ds) + 1 ≡ suc (length ds) = omega (arith, rest) in
    widths-append (pushes ds) (Push d ∷ []) ∙ e

pub widths-pops : (ds : List ℕ) → widths (pops ds) ≡ length ds
widths-pops [] = refl
widths-pops (d ∷ ds) = let rest = widths-pops ds in let e : 1 + widths (pops ds) ≡ suc (length ds) = omega (arith, rest) in e

map_long : (f : ℕ → ℕ) (xs : List ℕ) → length (map f xs) ≡ length xs
map_long f [] = refl
map_long f (x ∷ xs) = ap suc (map_long f xs)

both_other : (g : Regs) (x y d : ℕ) → (d < 28) ⊎ (30 ≤ d) → (put (put g 28 x) 29 y).of d ≡ g.of d
both_other g x y d (inl h) = put_other (put g 28 x) 29 y d (omega arith) ∙ put_other g 28 x d (omega arith)
both_other g x y d (inr h) = put_other (put g 28 x) 29 y d (omega arith) ∙ put_other g 28 x d (omega arith)

-- a difference of two bytes with the borrow between them
pub borrowed : (a b k : ℕ) → a < 256 → b < 256 → k < 65536
    → difference_of b (k / 256) (number_of (nat_lt a (k % 256 + 0))) * 256 + difference_of a (k % 256) 0 ≡ (a + 256 * b + 65536 - k) % 65536
borrowed a b k p q h = test (nat_lt a (k % 256 + 0)) refl
  where
    test : (c : Bool) → nat_lt a (k % 256 + 0) ≡ c
        → difference_of b (k / 256) (number_of c) * 256 + difference_of a (k % 256) 0 ≡ (a + 256 * b + 65536 - k) % 65536
    test true e = let less : a < k % 256 = grind arith in omega arith
    test false e = let enough : k % 256 ≤ a = grind arith in omega arith

module _ (e : Run) (deep : Type 0) where
  -- registers are saved
  pub goes_pushes : (ds : List ℕ) (pc : ℕ) (v : View) (s : State) → AllStandAt e.flash pc (pushes ds) → pc + length ds < 65536
      → (0x1100 < e.floor + length v.stack + length ds → deep) → At e pc v s
      → Goes e deep (length ds) s (At e (pc + length ds) (record v { stack = map v.regs.of ds ++ v.stack }))
  goes_pushes [] pc v s stand room full a = let same : pc ≡ pc + 0 = omega arith in goes_here e deep s (At e (pc + 0) v) (subst (λ n. At e n v s) same a)
  goes_pushes (d ∷ ds) pc v s stand room full a =
      let n = length ds in
      let v1 : View = record v { stack = map v.regs.of ds ++ v.stack } in
      let goal = At e (pc + suc n) (record v { stack = v.regs.of d ∷ (map v.regs.of ds ++ v.stack) }) in
      let last : StandsAt e.flash (pc + n) (Push d) =
      subst (λ m. StandsAt e.flash (pc + m) (Push d)) (widths-pushes ds) (back_stands e.flash pc (pushes ds) (Push d ∷ []) stand).0 in
      let first = goes_pushes ds pc v s (front_stands e.flash pc (pushes ds) (Push d ∷ []) stand) (omega arith) (λ h. full (omega arith)) a in
      let size : length (map v.regs.of ds ++ v.stack) ≡ n + length v.stack =
      length-append (map v.regs.of ds) v.stack ∙ ap (λ m. m + length v.stack) (map_long v.regs.of ds) in
      let same : pc + n + 1 ≡ pc + suc n = omega arith in
      goes_fewer e deep (n + 1) (suc n) s goal (omega arith)
      (goes_then e deep n 1 s (At e (pc + n) v1) goal first
      (λ t b. subst (λ m. Goes e deep 1 t (At e m (record v { stack = v.regs.of d ∷ (map v.regs.of ds ++ v.stack) }))) same
      (goes_push e deep (pc + n) v1 t b d last (omega arith) (λ h. full (omega (arith, h, size))))))

  -- and come back
  pub goes_pops : (ds bytes below : List ℕ) (pc : ℕ) (v : View) (s : State) → AllStandAt e.flash pc (pops ds) → pc + length ds < 65536
      → v.stack ≡ bytes ++ below → length bytes ≡ length ds → At e pc v s
      → Goes e deep (length ds) s (At e (pc + length ds) (record v { regs = restored ds bytes v.regs; stack = below }))
  goes_pops [] [] below pc v s stand room cut long a =
      let same : pc ≡ pc + 0 = omega arith in
      goes_here e deep s (At e (pc + 0) (record v { stack = below }))
      (subst (λ n. At e n (record v { stack = below }) s) same (subst (λ l. At e pc (record v { stack = l }) s) cut a))
  goes_pops [] (x ∷ bytes) below pc v s stand room cut long a = absurd (let none : suc (length bytes) ≡ 0 = long in omega arith)
  goes_pops (d ∷ ds) [] below pc v s stand room cut long a = absurd (let none : 0 ≡ suc (length ds) = long in omega arith)
  goes_pops (d ∷ ds) (x ∷ bytes) below pc v s stand room cut long a =
      let n = length ds in
      let v1 : View = record v { regs = put v.regs d x; stack = bytes ++ below } in
      let after : View = record v { regs = restored ds bytes (put v.regs d x); stack = below } in
      let goal = At e (pc + suc n) after in
      let fewer : length bytes ≡ n = omega (arith, long) in
      let same : pc + 1 + n ≡ pc + suc n = omega arith in
      goes_fewer e deep (1 + n) (suc n) s goal (omega arith)
      (goes_then e deep 1 n s (At e (pc + 1) v1) goal (goes_pop e deep pc v s a d x (bytes ++ below) cut stand.0 (omega arith))
      (λ t b. subst (λ m. Goes e deep n t (At e m after)) same (goes_pops ds bytes below (pc + 1) v1 t stand.1 (omega arith) refl fewer b)))

  -- Y less a number of slots, and with it added
  y_lower : (n : ℕ) (g : Regs) → g.of 28 < 256 → g.of 29 < 256 → n < 0x1000
      → (let h = does_all e.flash (y_less n) g in
      (h.of 29 * 256 + h.of 28 ≡ (pair g 28 + 65536 - n) % 65536) × AreOthers g h)
  y_lower n g low high small = by_size (nat_lt n 64)
    where
      by_size : (b : Bool) → (let h = does_all e.flash (if b then Sbiw 28 n ∷ [] else Subi 28 (n % 256) ∷ Sbci 29 (n / 256) ∷ []) g in
          (h.of 29 * 256 + h.of 28 ≡ (pair g 28 + 65536 - n) % 65536) × AreOthers g h)
      by_size true = (omega arith, λ d h. both_other g _ _ d h)
      by_size false = (borrowed (g.of 28) (g.of 29) n low high (omega arith), λ d h. both_other g _ _ d h)

  y_higher : (n : ℕ) (g : Regs) → g.of 28 < 256 → g.of 29 < 256 → n < 0x1000
      → (let h = does_all e.flash (y_more n) g in
      (h.of 29 * 256 + h.of 28 ≡ (pair g 28 + n) % 65536) × AreOthers g h)
  y_higher n g low high small = by_size (nat_lt n 64) refl
    where
      by_size : (b : Bool) → nat_lt n 64 ≡ b
          → (let h = does_all e.flash (if b then Adiw 28 n ∷ [] else Subi 28 ((65536 - n) % 256) ∷ Sbci 29 ((65536 - n) / 256) ∷ []) g in
          (h.of 29 * 256 + h.of 28 ≡ (pair g 28 + n) % 65536) × AreOthers g h)
      by_size true e1 = (omega arith, λ d h. both_other g _ _ d h)
      by_size false e1 =
          let large : 64 ≤ n = grind arith in
          let sum : (pair g 28 + 65536 - (65536 - n)) % 65536 ≡ (pair g 28 + n) % 65536 = omega arith in
          (borrowed (g.of 28) (g.of 29) (65536 - n) low high (omega arith) ∙ sum, λ d h. both_other g _ _ d h)

  y_less_plain : (n : ℕ) → ArePlain (y_less n)
  y_less_plain n = by_size (nat_lt n 64)
    where
      by_size : (b : Bool) → ArePlain (if b then Sbiw 28 n ∷ [] else Subi 28 (n % 256) ∷ Sbci 29 (n / 256) ∷ [])
      by_size true = (tt, tt)
      by_size false = (tt, (tt, tt))

  y_more_plain : (n : ℕ) → ArePlain (y_more n)
  y_more_plain n = by_size (nat_lt n 64)
    where
      by_size : (b : Bool) → ArePlain (if b then Adiw 28 n ∷ [] else Subi 28 ((65536 - n) % 256) ∷ Sbci 29 ((65536 - n) / 256) ∷ [])
      by_size true = (tt, tt)
      by_size false = (tt, (tt, tt))

  -- with its frame pointer, where it has one, a procedure has taken its slots, which hold what they held
  record Pointed (b : Bool) (n pc : ℕ) (old : View) (s : State) : Type 0 where
    slots : List ℕ
    regs : Regs
    enough : length slots ≡ n
    others : AreOthers old.regs regs
    all : b ≡ false → (d : ℕ) → regs.of d ≡ old.regs.of d
    points : b ≡ true → pair regs 28 + 1 + length (slots ++ old.stack) ≡ 0x1100
    at : At e pc (record old { regs = regs; stack = slots ++ old.stack }) s

  -- the registers once Y is SP
  abbrev pointing : View → Regs
  pointing v = put (put v.regs 28 ((0x10FF - length v.stack) % 256)) 29 ((0x10FF - length v.stack) / 256)

  -- SP and Y go below the slots
  goes_slots : (n pc : ℕ) (v : View) (s : State) → AllStandAt e.flash (pc + 1 + 1) (takes_slots n) → n < 0x1000
      → pc + widths (frame_pointer true n) < 65536 → (0x1100 < e.floor + length v.stack + n → deep)
      → At e (pc + 1 + 1) (record v { regs = pointing v }) s → Goes e deep 0 s (Pointed true n (pc + widths (frame_pointer true n)) v)
  goes_slots zero pc v s stand small room full a =
      let fit = a.room in
      let apart = e.apart in
      let same : pc + 1 + 1 ≡ pc + 2 = omega arith in
      goes_here e deep s (Pointed true 0 (pc + 2) v)
      (record {
        slots = [];
        regs = pointing v;
        enough = refl;
        others = λ d h. both_other v.regs _ _ d h;
        all = λ clash. absurd (let no_way : true ≡ false = clash in cc);
        points = λ h. omega arith;
        at = subst (λ m. At e m (record v { regs = pointing v }) s) same a;
      })
  goes_slots (suc m) pc v s stand small room full a =
      let fit = a.room in
      let apart = e.apart in
      let n = suc m in
      let sp = 0x10FF - length v.stack in
      let v2 : View = record v { regs = pointing v } in
      let goal = Pointed true n (pc + widths (frame_pointer true n)) v in
      let k = widths (y_less n) in
      let low = register_below e (pc + 1 + 1) v2 s a 28 (omega arith) in
      let high = register_below e (pc + 1 + 1) v2 s a 29 (omega arith) in
      let r3 = does_all e.flash (y_less n) (pointing v) in
      let v3 : View = record v { regs = r3 } in
      let whole = widths-append (y_less n) sp_is_y in
      let y = y_lower n (pointing v) low high small in
      let first = goes_plain e deep (y_less n) (pc + 1 + 1) v2 s (front_stands e.flash (pc + 1 + 1) (y_less n) sp_is_y stand) (y_less_plain n)
      (omega (arith, whole)) a in
      let outs = back_stands e.flash (pc + 1 + 1) (y_less n) sp_is_y stand in
      let pointer : sp % 256 + 256 * (sp / 256) ≡ sp = omega arith in
      let set : r3.of 29 * 256 + r3.of 28 ≡ (0x10FF - length v.stack + 65536 - n) % 65536 = y.0 ∙ ap (λ x. (x + 65536 - n) % 65536) pointer in
      let to : pc + 1 + 1 + k + 2 ≡ pc + widths (frame_pointer true n) = omega (arith, whole) in
      goes_fewer e deep (length (y_less n) + 2) 0 s goal (omega arith)
      (goes_then e deep (length (y_less n)) 2 s (At e (pc + 1 + 1 + k) v3) goal first
      (λ w a3. goes_wider e deep 2 w _ goal
      (λ x b.
      let long = b.1 in
      let at = b.2 in
      let fits = at.room in
      let both = length-append b.0 v.stack in
      record {
        slots = b.0;
        regs = r3;
        enough = b.1;
        others = λ d h. y.1 d h ∙ both_other v.regs _ _ d h;
        all = λ clash. absurd (let no_way : true ≡ false = clash in cc);
        points = λ h. omega (arith, set, long, fits, both);
        at = subst (λ p. At e p (record v { regs = r3; stack = b.0 ++ v.stack }) x) to at;
      })
      (goes_lower e deep (pc + 1 + 1 + k) v3 w a3 29 28 n outs.0 outs.1.0 (omega (arith, whole)) set (omega arith) (λ h. full (omega arith)))))

  goes_frame_pointer : (b : Bool) (n pc : ℕ) (v : View) (s : State) → AllStandAt e.flash pc (frame_pointer b n) → (b ≡ false → n ≡ 0) → n < 0x1000
      → pc + widths (frame_pointer b n) < 65536 → (0x1100 < e.floor + length v.stack + n → deep) → At e pc v s
      → Goes e deep 0 s (Pointed b n (pc + widths (frame_pointer b n)) v)
  goes_frame_pointer false n pc v s stand none small room full a =
      let same : pc ≡ pc + 0 = omega arith in
      goes_here e deep s (Pointed false n (pc + 0) v)
      (record {
        slots = [];
        regs = v.regs;
        enough = sym (none refl);
        others = λ d h. refl;
        all = λ h d. refl;
        points = λ clash. absurd (let no_way : false ≡ true = clash in cc);
        at = subst (λ m. At e m v s) same a;
      })
  goes_frame_pointer true n pc v s stand none small room full a =
      let v1 : View = record v { regs = put v.regs 28 ((0x10FF - length v.stack) % 256) } in
      let v2 : View = record v { regs = pointing v } in
      let goal = Pointed true n (pc + widths (frame_pointer true n)) v in
      goes_fewer e deep (1 + (1 + 0)) 0 s goal (omega arith)
      (goes_then e deep 1 (1 + 0) s (At e (pc + 1) v1) goal (goes_in_spl e deep pc v s a 28 stand.0 (omega arith))
      (λ t a1. goes_then e deep 1 0 t (At e (pc + 1 + 1) v2) goal (goes_in_sph e deep (pc + 1) v1 t a1 29 stand.1.0 (omega arith))
      (λ u a2. goes_slots n pc v u stand.1.1 small room full a2)))

  -- the entry of a procedure
  pub goes_saves : (l : Layout) (pc : ℕ) (v : View) (s : State) → (l.pointed ≡ false → l.slots ≡ 0) → l.slots < 0x1000
      → AllStandAt e.flash pc (saves l) → pc + widths (saves l) < 65536
      → (0x1100 < e.floor + length v.stack + length l.saved + l.slots → deep) → At e pc v s → Goes e deep 0 s (Entered e l (pc + widths (saves l)) v)
  goes_saves l pc v s none small stand room full a =
      let n = length l.saved in
      let v1 : View = record v { stack = map v.regs.of l.saved ++ v.stack } in
      let goal = Entered e l (pc + widths (saves l)) v in
      let one = widths-pushes l.saved in
      let whole = widths-append (pushes l.saved) (frame_pointer l.pointed l.slots) in
      let behind = back_stands e.flash pc (pushes l.saved) (frame_pointer l.pointed l.slots) stand in
      let there : AllStandAt e.flash (pc + n) (frame_pointer l.pointed l.slots) =
      subst (λ m. AllStandAt e.flash (pc + m) (frame_pointer l.pointed l.slots)) one behind in
      let to : pc + n + widths (frame_pointer l.pointed l.slots) ≡ pc + widths (saves l) = omega (arith, one, whole) in
      let size = length-append (map v.regs.of l.saved) v.stack in
      let long = map_long v.regs.of l.saved in
      goes_fewer e deep (n + 0) 0 s goal (omega arith)
      (goes_then e deep n 0 s (At e (pc + n) v1) goal
      (goes_pushes l.saved pc v s (front_stands e.flash pc (pushes l.saved) (frame_pointer l.pointed l.slots) stand) (omega (arith, to))
      (λ h. full (omega arith)) a)
      (λ t b. goes_wider e deep 0 t _ goal
      (λ u p. record {
        slots = p.slots;
        regs = p.regs;
        enough = p.enough;
        others = p.others;
        all = p.all;
        points = p.points;
        at = subst (λ m. At e m (record v { regs = p.regs; stack = p.slots ++ (map v.regs.of l.saved ++ v.stack) }) u) to p.at;
      })
      (goes_frame_pointer l.pointed l.slots (pc + n) v1 t there none small (omega (arith, to)) (λ h. full (omega (arith, size, long))) b)))

  -- the slots are free again
  goes_drops : (n pc : ℕ) (slots below : List ℕ) (v : View) (s : State) → AllStandAt e.flash pc (drops_slots n) → pc + widths (drops_slots n) < 65536
      → n < 0x1000 → v.stack ≡ slots ++ below → length slots ≡ n → (0 < n → pair v.regs 28 + 1 + length v.stack ≡ 0x1100) → At e pc v s
      → Goes e deep 0 s (λ t. (g : Regs) × AreOthers v.regs g × (n ≡ 0 → (d : ℕ) → g.of d ≡ v.regs.of d)
      × At e (pc + widths (drops_slots n)) (record v { regs = g; stack = below }) t)
  goes_drops zero pc [] below v s stand room small cut long points a =
      let same : pc ≡ pc + 0 = omega arith in
      goes_here e deep s _
      (v.regs, (λ d h. refl), (λ h d. refl), subst (λ m. At e m (record v { stack = below }) s) same (subst (λ l. At e pc (record v { stack = l }) s) cut a))
  goes_drops zero pc (x ∷ slots) below v s stand room small cut long points a = absurd (let none : suc (length slots) ≡ 0 = long in omega arith)
  goes_drops (suc m) pc slots below v s stand room small cut long points a =
      let n = suc m in
      let k = widths (y_more n) in
      let fit = a.room in
      let apart = e.apart in
      let base = points (omega arith) in
      let low = register_below e pc v s a 28 (omega arith) in
      let high = register_below e pc v s a 29 (omega arith) in
      let r1 = does_all e.flash (y_more n) v.regs in
      let v1 : View = record v { regs = r1 } in
      let whole = widths-append (y_more n) sp_is_y in
      let y = y_higher n v.regs low high small in
      let both : length v.stack ≡ length slots + length below = ap length cut ∙ length-append slots below in
      let set : r1.of 29 * 256 + r1.of 28 ≡ 0x10FF - length below = y.0 ∙ (let e1 : (pair v.regs 28 + n) % 65536 ≡ 0x10FF - length below = omega arith in e1) in
      let outs = back_stands e.flash pc (y_more n) sp_is_y stand in
      let to : pc + k + 2 ≡ pc + widths (drops_slots n) = omega (arith, whole) in
      let goal : State → Type 0 = λ t. (g : Regs) × AreOthers v.regs g × (n ≡ 0 → (d : ℕ) → g.of d ≡ v.regs.of d)
      × At e (pc + widths (drops_slots n)) (record v { regs = g; stack = below }) t in
      goes_fewer e deep (length (y_more n) + 2) 0 s goal (omega arith)
      (goes_then e deep (length (y_more n)) 2 s (At e (pc + k) v1) goal
      (goes_plain e deep (y_more n) pc v s (front_stands e.flash pc (y_more n) sp_is_y stand) (y_more_plain n) (omega (arith, whole)) a)
      (λ t b. goes_wider e deep 2 t _ goal
      (λ u c. (r1, y.1, (λ clash d. absurd (let none : suc m ≡ 0 = clash in omega arith)), subst (λ p. At e p (record v { regs = r1; stack = below }) u) to c))
      (goes_raise e deep (pc + k) v1 t b 29 28 slots below cut outs.0 outs.1.0 (omega (arith, whole)) set)))

  -- the exit of a procedure
  pub goes_epilogue : (l : Layout) (pc back : ℕ) (slots bytes below : List ℕ) (v : View) (s : State) → l.slots < 0x1000
      → AllStandAt e.flash pc (epilogue l) → pc + widths (epilogue l) < 65536 → v.stack ≡ slots ++ (bytes ++ (word_bytes back ++ below))
      → length slots ≡ l.slots → length bytes ≡ length l.saved → (0 < l.slots → pair v.regs 28 + 1 + length v.stack ≡ 0x1100) → At e pc v s
      → Goes e deep 1 s (Left e l bytes back below v)
  goes_epilogue l pc back slots bytes below v s small stand room cut enough long points a =
      let n = length l.saved in
      let k = widths (drops_slots l.slots) in
      let code = pops l.saved ++ Ret ∷ [] in
      let rest = bytes ++ (word_bytes back ++ below) in
      let whole = widths-append (drops_slots l.slots) code in
      let inner = widths-append (pops l.saved) (Ret ∷ []) in
      let count = widths-pops l.saved in
      let behind = back_stands e.flash pc (drops_slots l.slots) code stand in
      let goal = Left e l bytes back below v in
      let ret : StandsAt e.flash (pc + k + n) Ret =
      subst (λ m. StandsAt e.flash (pc + k + m) Ret) count (back_stands e.flash (pc + k) (pops l.saved) (Ret ∷ []) behind).0 in
      goes_fewer e deep (0 + (n + 1)) 1 s goal (omega arith)
      (goes_then e deep 0 (n + 1) s _ goal
      (goes_drops l.slots pc slots rest v s (front_stands e.flash pc (drops_slots l.slots) code stand) (omega (arith, whole)) small cut enough points a)
      (λ t d.
      let g = d.0 in
      let v1 : View = record v { regs = g; stack = rest } in
      let v2 : View = record v { regs = restored l.saved bytes g; stack = word_bytes back ++ below } in
      goes_then e deep n 1 t (At e (pc + k + n) v2) goal
      (goes_pops l.saved bytes (word_bytes back ++ below) (pc + k) v1 t (front_stands e.flash (pc + k) (pops l.saved) (Ret ∷ []) behind)
      (omega (arith, whole, inner, count)) refl long d.3)
      (λ u b. goes_wider e deep 1 u (At e back (record v { regs = restored l.saved bytes g; stack = below })) goal
      (λ w c. record { regs = g; others = d.1; all = d.2; at = c })
      (goes_ret e deep (pc + k + n) v2 u b back below refl ret))))
