-- Loads by Z from tables in flash.
use Rattle.std.proofs.Common.{◌≡◌, ◌≢◌, ℕ, zero, suc, ◌+◌, ◌-◌, ◌*◌, ◌/◌, ◌%◌, ◌<◌, ◌≤◌, ◌⊎◌, inl, inr, List, [], ◌∷◌, ◌++◌}
use Rattle.std.proofs.Common.{Bool, true, false, ◌==◌, if◌then◌else◌}
use Rattle.std.proofs.Common.{length, Some, refl, sym, ap, ◌∙◌, subst, arith, slice_index}
use Rattle.avr_instr.specs.declared.instr.Instr.TheVariants.{Sbci, Subi}
use Rattle.avr_isa.specs.Cpu.{flash_byte}
use Rattle.vg_lin.specs.declared.instr.Memory.TheVariants.{Flash}
use Rattle.vg_lin.specs.declared.instr.Operand.{Operand}
use Rattle.vg_lin.specs.declared.instr.Operand.TheVariants.{Local, Known}
use Rattle.vg_lin.specs.Steps.{Frame}
use Rattle.vg_lin.specs.State.{State, value, sets, number_at, first_address}
use Rattle.avr_view.specs.Registers.{Regs, pair, put, put_next, does_all, ArePlain}
use Rattle.avr_view.specs.Run.{Run}
use Rattle.avr_view.specs.View.{View}
use Rattle.vg_templates.specs.Spots.{number, read}
use Rattle.vg_templates.specs.Layouts.{IsLayout, IsOwned}
use Rattle.vg_templates.specs.Frames.{Places}
use Rattle.vg_templates.proofs.Linking.{borrowed}
use Rattle.vg_templates.proofs.Numbers.{put_other, put_same}
use Rattle.vg_templates.specs.Pieces.{Takes}
use Rattle.vg_templates.specs.Transfers.{known}
use Rattle.vg_templates.specs.Transferred.{Fetched}
use Rattle.vg_templates.specs.Held.{Held, IsReady, IsSet}
use Rattle.vg_templates.specs.Pointers.{brings_z}
use Rattle.vg_templates.specs.Homes.{home_of, made_in, settles}
use Rattle.vg_templates.proofs.Composing.{takes_none, takes_then, takes_wider, takes_bytes, takes_plain}
use Rattle.vg_templates.proofs.Holding.{held_scratch}
use Rattle.vg_templates.proofs.Settling.{Made, home_is, made_low, takes_settles}
use Rattle.vg_templates.proofs.Spotting.{takes_known}
use Rattle.vg_templates.specs.Outcomes.{Lies}
use Rattle.vg_templates.specs.Accesses.{plus_base}
use Rattle.vg_templates.proofs.Pointing.{some_there}
use Rattle.vg_templates.specs.Lookups.{points_z, loads_z, loads_table}
use Rattle.vg_followed.specs.Tables.{HoldsTables}
use Rattle.vg_followed.proofs.Aiming.{BroughtZ, takes_brings_z}

-- ---- the bytes

record Loaded (d n value : ℕ) (old new : Regs) : Type 0 where
  pub others : (x : ℕ) → x < 30 → (x < d) ⊎ (d + n ≤ x) → new.of x ≡ old.of x
  pub holds : number new d n ≡ value

next_other : (g : Regs) (d b x : ℕ) → x < 30 → x ≢ d → (put_next (put g d b) 30).of x ≡ g.of x
next_other g d b x low ne =
    put_other (put (put g d b) 30 _) 31 _ x (let ne' : x ≢ 31 = omega arith in ne')
    ∙ put_other (put g d b) 30 _ x (let ne' : x ≢ 30 = omega arith in ne')
    ∙ put_other g d b x ne

next_here : (g : Regs) (d b : ℕ) → d < 30 → (put_next (put g d b) 30).of d ≡ b
next_here g d b low =
    put_other (put (put g d b) 30 _) 31 _ d (let ne : d ≢ 31 = omega arith in ne)
    ∙ put_other (put g d b) 30 _ d (let ne : d ≢ 30 = omega arith in ne)
    ∙ put_same g d b

next_pointer : (g : Regs) (d b p : ℕ) → d < 30 → pair g 30 ≡ p → p + 1 < 65536 → pair (put_next (put g d b) 30) 30 ≡ p + 1
next_pointer g d b p low at room =
    let one = put_other g d b 30 (let ne : 30 ≢ d = omega arith in ne) in
    let two = put_other g d b 31 (let ne : 31 ≢ d = omega arith in ne) in
    let same : pair (put g d b) 30 ≡ p = omega (arith, one, two, at) in
    let value : (pair (put g d b) 30 + 1) % 65536 ≡ p + 1 = omega (arith, same, room) in
    let parts : (p + 1) % 256 + 256 * ((p + 1) / 256) ≡ p + 1 = omega arith in
    ap (λ v. v % 256 + 256 * (v / 256)) value ∙ parts

loads_z-plain : (d n : ℕ) → ArePlain (loads_z d n)
loads_z-plain d zero = tt
loads_z-plain d (suc n) = (tt, loads_z-plain (suc d) n)

module _ (flash tables : List ℕ) (there : HoldsTables flash tables) where
  loads_z-load : (d n j : ℕ) (g : Regs) → d + n ≤ 30 → (0 < n → pair g 30 ≡ first_address Flash + j) → j + n ≤ length tables
      → Loaded d n (read tables j n) g (does_all flash (loads_z d n) g)
  loads_z-load d zero j g top at inside = record { others = λ x low k. refl; holds = refl }
  loads_z-load d (suc n) j g top at inside =
      let b = flash_byte flash (pair g 30) in
      let g1 = put_next (put g d b) 30 in
      let low = there.inside in
      let here : pair g 30 ≡ first_address Flash + j = at (omega arith) in
      let byte : b ≡ slice_index tables j = ap (flash_byte flash) here ∙ there.each j (omega arith) in
      let count : first_address Flash + j + 1 ≡ first_address Flash + suc j = omega arith in
      let rest =
      loads_z-load (suc d) n (suc j) g1 (omega arith) (λ more. next_pointer g d b (first_address Flash + j) (omega arith) here (omega (arith, low, inside, more)) ∙ count)
      (omega arith) in
      let first : (does_all flash (loads_z (suc d) n) g1).of d ≡ b = rest.others d (omega arith) (inl (omega arith)) ∙ next_here g d b (omega arith) in
      record {
        others = λ x small k. rest.others x small (wider x k) ∙ next_other g d b x small (not_d x k);
        holds = ap (λ z. z + 256 * number (does_all flash (loads_z (suc d) n) g1) (suc d) n) (first ∙ byte) ∙ ap (λ z. slice_index tables j + 256 * z) rest.holds;
      }
    where
      wider : (x : ℕ) → (x < d) ⊎ (d + suc n ≤ x) → (x < suc d) ⊎ (suc d + n ≤ x)
      wider x (inl h) = inl (omega arith)
      wider x (inr h) = inr (omega arith)

      not_d : (x : ℕ) → (x < d) ⊎ (d + suc n ≤ x) → x ≢ d
      not_d x (inl h) = omega arith
      not_d x (inr h) = omega arith

-- ---- the pointer

record Pointed (i : Places) (m : ℕ) (live : ℕ → Bool) (s : State) (frames : List (Frame State)) (address : ℕ) (old new : View) : Type 0 where
  pub held : Held i m live s frames new
  pub pointer : pair new.regs 30 ≡ address
  pub out : new.out ≡ old.out

module _ (i : Places) (ok : (m : ℕ) → IsLayout (i.layouts m)) (m : ℕ) (frames : List (Frame State)) (e : Run) (deep : Type 0) where
  by_scratch : (live : ℕ → Bool) (s : State) (v u : View) → ((x : ℕ) → x < 30 → (x < 18) ⊎ (28 ≤ x) → u.regs.of x ≡ v.regs.of x)
      → u ≡ record v { regs = u.regs } → Held i m live s frames v → Held i m live s frames u
  by_scratch live s v u others same k = held_scratch i ok m frames live s v u same agree (others 1 (omega arith) (inl (omega arith))) k
    where
      agree : (r : ℕ) → IsOwned r → u.regs.of r ≡ v.regs.of r
      agree r (inl h) = let up = h.1 in others r (omega arith) (inl up)
      agree r (inr h) = others r h.1 (inr h.0)

  takes_some : (live : ℕ → Bool) (s : State) (base x : ℕ) (v : View) → 0 < base → base + x < 65536 → pair v.regs 30 ≡ x → Held i m live s frames v
      → Takes e deep v (Subi 30 ((65536 - base) % 256) ∷ Sbci 31 ((65536 - base) / 256) ∷ []) (Pointed i m live s frames (base + x) v)
  takes_some live s base x v some room at k =
      let is = Subi 30 ((65536 - base) % 256) ∷ Sbci 31 ((65536 - base) / 256) ∷ [] in
      let u : View = record v { regs = does_all e.flash is v.regs } in
      let goal = Pointed i m live s frames (base + x) v in
      takes_bytes e deep v is goal
      (λ bytes. takes_wider e deep v is (λ t. t ≡ u) goal (λ t put. subst goal (sym put) (pointed (bytes 30 (omega arith)) (bytes 31 (omega arith))))
      (takes_plain e deep v is (tt, (tt, tt))))
    where
      pointed : v.regs.of 30 < 256 → v.regs.of 31 < 256
          → Pointed i m live s frames (base + x) v
          (record v { regs = does_all e.flash (Subi 30 ((65536 - base) % 256) ∷ Sbci 31 ((65536 - base) / 256) ∷ []) v.regs })
      pointed a b =
          let sum = borrowed (v.regs.of 30) (v.regs.of 31) (65536 - base) a b (omega arith) in
          record {
            held =
                by_scratch live s v
                (record v { regs = does_all e.flash (Subi 30 ((65536 - base) % 256) ∷ Sbci 31 ((65536 - base) / 256) ∷ []) v.regs })
                (λ r low beside. put_other (put v.regs 30 _) 31 _ r (omega arith) ∙ put_other v.regs 30 _ r (omega arith)) refl k;
            pointer = omega (arith, sum, at);
            out = refl;
          }

  -- the base 0 is not added
  takes_base : (live : ℕ → Bool) (s : State) (base x : ℕ) (v : View) → base + x < 65536 → pair v.regs 30 ≡ x → Held i m live s frames v
      → Takes e deep v (plus_base 30 base) (Pointed i m live s frames (base + x) v)
  takes_base live s base x v room at k = by_test (base == 0) refl
    where
      by_test : (b : Bool) → (base == 0) ≡ b
          → Takes e deep v (if b then [] else Subi 30 ((65536 - base) % 256) ∷ Sbci 31 ((65536 - base) / 256) ∷ []) (Pointed i m live s frames (base + x) v)
      by_test true q =
          let none : base ≡ 0 = grind (arith, q) in
          takes_none e deep v (Pointed i m live s frames (base + x) v) (record { held = k; pointer = omega (arith, at, none); out = refl })
      by_test false q = let some : 0 < base = grind (arith, q) in takes_some live s base x v some room at k

  takes_points : (live : ℕ → Bool) (s : State) (base x : ℕ) (a : Operand) (v : View) → base + x < 65536 → IsReady (i.layouts m) live a
      → value a s ≡ Some x → Held i m live s frames v → Takes e deep v (points_z (i.layouts m) base a) (Pointed i m live s frames (base + x) v)
  takes_points live s base x (Known y) v room ready got k =
      let same : y ≡ x = some_same y x got in
      takes_wider e deep v (known 30 2 (base + y)) (Fetched 30 2 (base + y) v) (Pointed i m live s frames (base + x) v)
      (λ u f.
      let holds = f.holds in
      record {
        held = by_scratch live s v u (λ r low beside. f.others r low (inl low)) f.same k;
        pointer = omega (arith, holds, same);
        out = ap (λ (q : View). q.out) f.same;
      })
      (takes_known e deep 30 2 (base + y) v)
    where
      some_same : (y x : ℕ) → Some y ≡ Some x → y ≡ x
      some_same y x e1 = cc
  takes_points live s base x (Local j) v room ready got k =
      let l = i.layouts m in
      let js = plus_base 30 base in
      let goal = Pointed i m live s frames (base + x) v in
      takes_then e deep v (brings_z l (Local j)) js (BroughtZ i m live s frames x v) goal
      (takes_brings_z i ok m frames e deep live s (Local j) x v ready got k)
      (λ u b.
      let pointer = b.inside.pointer in
      takes_wider e deep u js (Pointed i m live s frames (base + x) u) goal
      (λ t p. record { held = p.held; pointer = p.pointer; out = p.out ∙ ap (λ (q : View). q.out) b.inside.same })
      (takes_base live s base x u room (omega (arith, pointer, room)) b.held))

  pub takes_loads_table : (tables : List ℕ) (live behind : ℕ → Bool) (s : State) (w to base : ℕ) (index : Operand) (x z : ℕ) (v : View)
      → HoldsTables e.flash tables → 0 < w → w ≤ 4 → first_address Flash ≤ base + x → IsReady (i.layouts m) live index
      → IsSet (i.layouts m) live behind to → value index s ≡ Some x → number_at tables w (base + x - first_address Flash) ≡ Some z
      → Held i m live s frames v
      → Takes e deep v (loads_table (i.layouts m) w to base index) (Lies i m behind (sets to z s) frames v.out)
  takes_loads_table tables live behind s w to base index x z v holds_them wide small high ready can got loaded k =
      let l = i.layouts m in
      let at = base + x - first_address Flash in
      let there = some_there tables w at z wide loaded in
      let inside = there.inside in
      let room = holds_them.inside in
      let h = home_of l to w in
      let d = made_in h in
      let is = loads_z d w in
      let low = made_low l (ok m) to w h can.there small (home_is l to w) in
      let last = settles l to h w in
      let goal = Lies i m behind (sets to z s) frames v.out in
      takes_then e deep v (points_z l base index) (is ++ last) (Pointed i m live s frames (base + x) v) goal
      (takes_points live s base x index v (omega (arith, room, inside, wide)) ready got k)
      (λ u p.
      let pointer = p.pointer in
      let f = loads_z-load e.flash tables holds_them d w at u.regs (omega (arith, low)) (λ more. omega (arith, pointer, high)) inside in
      let y : View = record u { regs = does_all e.flash is u.regs } in
      takes_then e deep u is last (λ t. t ≡ y) goal (takes_plain e deep u is (loads_z-plain d w))
      (λ t put. subst (λ q. Takes e deep q last goal) (sym put)
      (takes_wider e deep y last (Lies i m behind (sets to z s) frames u.out) goal (λ q g. record { held = g.held; out = g.out ∙ p.out })
      (takes_settles i ok m frames e deep live behind s to w z h u y can (home_is l to w) small p.held
      (record {
        others = λ r kind beside. f.others r (below r kind) beside;
        holds = f.holds ∙ there.value;
        stack = refl;
        static = refl;
      })))))
    where
      below : (r : ℕ) → (r ≡ 1) ⊎ IsOwned r → r < 30
      below r (inl one) = omega arith
      below r (inr (inl k')) = let up = k'.1 in omega arith
      below r (inr (inr k')) = k'.1
