-- The template of products of two bytes.
use Rattle.std.proofs.Common.{◌≡◌, ◌≢◌, ℕ, suc, ◌+◌, ◌*◌, ◌/◌, ◌%◌, ◌<◌, ◌≤◌, ◌⊎◌, inl, inr, Bool, List, [], ◌∷◌, ◌++◌, length}
use Rattle.std.proofs.Common.{Some, refl, sym, ap, ◌∙◌, subst, arith}
use Rattle.std.specs.Prelude.{bit_xor}
use Rattle.std.specs.Int.Bits.{xor_self}
use Rattle.avr_instr.specs.declared.instr.Instr.TheVariants.{Eor, Movw, Mul}
use Rattle.vg_lin.specs.declared.instr.Operand.{Operand}
use Rattle.vg_lin.specs.Steps.{Frame}
use Rattle.vg_lin.specs.State.{State, value, sets}
use Rattle.vg_lin.specs.Values.{low}
use Rattle.avr_view.specs.Registers.{Regs, put, does_all}
use Rattle.avr_view.specs.Run.{Run}
use Rattle.avr_view.specs.View.{View}
use Rattle.vg_templates.specs.Spots.{number}
use Rattle.vg_templates.specs.Layouts.{IsLayout, IsOwned}
use Rattle.vg_templates.specs.Frames.{Places}
use Rattle.vg_templates.proofs.Numbers.{put_other, put_same}
use Rattle.vg_templates.specs.Pieces.{Takes}
use Rattle.vg_templates.specs.Held.{Held, IsReady, IsSet, gives, Given}
use Rattle.vg_templates.proofs.Composing.{takes_then, takes_wider, takes_plain}
use Rattle.vg_templates.proofs.Holding.{held_scratch, takes_gives}
use Rattle.vg_templates.specs.Numbers.{number_in, AreBeside}
use Rattle.vg_templates.specs.Operands.{finds, found_in}
use Rattle.vg_templates.specs.Outcomes.{Found, Lies}
use Rattle.vg_templates.specs.Plain.{first_of}
use Rattle.vg_templates.proofs.Finding.{found-length, found-beside, takes_finds}
use Rattle.vg_templates.specs.Products.{multiplies}

one_register : (g : Regs) (rs : List ℕ) → length rs ≡ 1 → number_in g rs ≡ g.of (first_of rs)
one_register g [] h = absurd (let none : 0 ≡ 1 = h in omega arith)
one_register g (r ∷ []) h = omega arith
one_register g (r ∷ (s ∷ rs)) h = absurd (let none : suc (suc (length rs)) ≡ 1 = h in omega arith)

-- registers below one keep their numbers
in_kept : (bound : ℕ) (rs : List ℕ) (old new : Regs) → AreBeside bound 32 rs → ((r : ℕ) → r < bound → new.of r ≡ old.of r) → number_in new rs ≡ number_in old rs
in_kept bound [] old new k h = refl
in_kept bound (r ∷ rs) old new (here, more) h =
    let one = h r (below here) in let rest = in_kept bound rs old new more h in omega (arith, one, rest)
  where
    below : ((r < bound) ⊎ (32 ≤ r)) × (r < 32) → r < bound
    below (inl k, top) = k
    below (inr k, top) = absurd (omega arith)

-- what the block makes of the registers
record Made (z : ℕ) (old new : Regs) : Type 0 where
  pub holds : number new 22 2 ≡ z
  pub one : new.of 1 ≡ 0
  pub others : (r : ℕ) → 2 ≤ r → (r < 22) ⊎ (24 ≤ r) → new.of r ≡ old.of r

made : (flash : List ℕ) (a b : ℕ) (g : Regs) → Made (g.of a * g.of b) g (does_all flash (Mul a b ∷ Movw 22 0 ∷ Eor 1 1 ∷ []) g)
made flash a b g =
    let p = g.of a * g.of b in
    let g1 = put (put g 0 (p % 256)) 1 (p / 256) in
    let g2 = put (put g1 22 (g1.of 0)) 23 (g1.of 1) in
    let low' : g1.of 0 ≡ p % 256 = put_other (put g 0 (p % 256)) 1 (p / 256) 0 (omega arith) ∙ put_same g 0 (p % 256) in
    let high' : g1.of 1 ≡ p / 256 = put_same (put g 0 (p % 256)) 1 (p / 256) in
    let first : (put g2 1 (bit_xor (g2.of 1) (g2.of 1))).of 22 ≡ g1.of 0 =
    put_other g2 1 (bit_xor (g2.of 1) (g2.of 1)) 22 (omega arith) ∙ put_other (put g1 22 (g1.of 0)) 23 (g1.of 1) 22 (omega arith) ∙ put_same g1 22 (g1.of 0) in
    let second : (put g2 1 (bit_xor (g2.of 1) (g2.of 1))).of 23 ≡ g1.of 1 = put_other g2 1 (bit_xor (g2.of 1) (g2.of 1)) 23 (omega arith) ∙ put_same (put g1 22 (g1.of 0)) 23 (g1.of 1) in
    let parts : p % 256 + 256 * (p / 256 + 256 * 0) ≡ p = omega arith in
    record {
      holds = ap (λ z. z + 256 * ((put g2 1 (bit_xor (g2.of 1) (g2.of 1))).of 23 + 256 * 0)) (first ∙ low') ∙ ap (λ z. p % 256 + 256 * (z + 256 * 0)) (second ∙ high') ∙ parts;
      one = put_same g2 1 (bit_xor (g2.of 1) (g2.of 1)) ∙ xor_self (g2.of 1);
      others = λ r up beside. other r up beside;
    }
  where
    away : (r k : ℕ) → (r < k) ⊎ (k < r) → r ≢ k
    away r k (inl h) = omega arith
    away r k (inr h) = omega arith

    other : (r : ℕ) → 2 ≤ r → (r < 22) ⊎ (24 ≤ r) → (does_all flash (Mul a b ∷ Movw 22 0 ∷ Eor 1 1 ∷ []) g).of r ≡ g.of r
    other r up (inl h) =
        put_other (put (put (put (put g 0 _) 1 _) 22 _) 23 _) 1 _ r (away r 1 (inr (omega arith)))
        ∙ put_other (put (put (put g 0 _) 1 _) 22 _) 23 _ r (away r 23 (inl (omega arith)))
        ∙ put_other (put (put g 0 _) 1 _) 22 _ r (away r 22 (inl (omega arith)))
        ∙ put_other (put g 0 _) 1 _ r (away r 1 (inr (omega arith)))
        ∙ put_other g 0 _ r (away r 0 (inr (omega arith)))
    other r up (inr h) =
        put_other (put (put (put (put g 0 _) 1 _) 22 _) 23 _) 1 _ r (away r 1 (inr (omega arith)))
        ∙ put_other (put (put (put g 0 _) 1 _) 22 _) 23 _ r (away r 23 (inr (omega arith)))
        ∙ put_other (put (put g 0 _) 1 _) 22 _ r (away r 22 (inr (omega arith)))
        ∙ put_other (put g 0 _) 1 _ r (away r 1 (inr (omega arith)))
        ∙ put_other g 0 _ r (away r 0 (inr (omega arith)))

module _ (i : Places) (ok : (m : ℕ) → IsLayout (i.layouts m)) (m : ℕ) (frames : List (Frame State)) (e : Run) (deep : Type 0) where
  pub takes_multiplies : (live behind : ℕ → Bool) (s : State) (to : ℕ) (a b : Operand) (x y : ℕ) (v : View) → IsReady (i.layouts m) live a
      → IsReady (i.layouts m) live b → IsSet (i.layouts m) live behind to → value a s ≡ Some x → value b s ≡ Some y → Held i m live s frames v
      → Takes e deep v (multiplies (i.layouts m) to a b) (Lies i m behind (sets to (low 1 x * low 1 y) s) frames v.out)
  takes_multiplies live behind s to a b x y v ready_left ready_right can got_left got_right k =
      let l = i.layouts m in
      let left = found_in l a 18 1 in
      let right = found_in l b 22 1 in
      let p = first_of left in
      let q = first_of right in
      let block = Mul p q ∷ Movw 22 0 ∷ Eor 1 1 ∷ [] in
      let last = gives l to 22 2 in
      let goal = Lies i m behind (sets to (low 1 x * low 1 y) s) frames v.out in
      takes_then e deep v (finds l a 18 1) (finds l b 22 1 ++ (block ++ last)) (Found i m live s frames 18 1 x left v) goal
      (takes_finds i ok m frames e deep live s a 18 1 x v ready_left got_left (omega arith) (omega arith) k)
      (λ u f. takes_then e deep u (finds l b 22 1) (block ++ last) (Found i m live s frames 22 1 y right u) goal
      (takes_finds i ok m frames e deep live s b 22 1 y u ready_right got_right (omega arith) (omega arith) f.held)
      (λ t g.
      let beside = found-beside l (ok m) live a 18 1 19 32 ready_left (omega arith) (omega arith) (omega arith) in
      let kept : number_in t.regs left ≡ number_in u.regs left =
      in_kept 19 left u.regs t.regs beside (λ r h. g.others r (omega arith) (inl (omega arith))) in
      let first : t.regs.of p ≡ low 1 x = sym (one_register t.regs left (found-length l a 18 1)) ∙ kept ∙ f.holds in
      let second : t.regs.of q ≡ low 1 y = sym (one_register t.regs right (found-length l b 22 1)) ∙ g.holds in
      let d = made e.flash p q t.regs in
      let w : View = record t { regs = does_all e.flash block t.regs } in
      let held_w : Held i m live s frames w = held_scratch i ok m frames live s t w refl (agree t p q d) (d.one ∙ sym g.held.r1) g.held in
      let value_is : number w.regs 22 2 ≡ low 1 x * low 1 y = d.holds ∙ ap (λ z. z * t.regs.of q) first ∙ ap (λ z. low 1 x * z) second in
      takes_then e deep t block last (λ z. z ≡ w) goal (takes_plain e deep t block (tt, (tt, (tt, tt))))
      (λ z put. subst (λ c. Takes e deep c last goal) (sym put)
      (takes_wider e deep w last (Given i m behind (sets to (number w.regs 22 2) s) frames w) goal
      (λ c given. record {
        held = subst (λ n. Held i m behind (sets to n s) frames c) value_is given.held;
        out = given.out ∙ ap (λ (n : View). n.out) g.same ∙ ap (λ (n : View). n.out) f.same;
      })
      (takes_gives i ok m frames e deep live behind s to 22 2 w can (omega arith) (omega arith) held_w)))))
    where
      agree : (t : View) (p q : ℕ) → Made (t.regs.of p * t.regs.of q) t.regs (does_all e.flash (Mul p q ∷ Movw 22 0 ∷ Eor 1 1 ∷ []) t.regs)
          → (r : ℕ) → IsOwned r → (does_all e.flash (Mul p q ∷ Movw 22 0 ∷ Eor 1 1 ∷ []) t.regs).of r ≡ t.regs.of r
      agree t p q d r (inl h) = let up = h.1 in d.others r h.0 (inl (omega arith))
      agree t p q d r (inr h) = let low' = h.0 in d.others r (omega arith) (inr (omega arith))
