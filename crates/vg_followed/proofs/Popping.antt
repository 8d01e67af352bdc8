-- The template that takes back a value.
use Rattle.std.proofs.Common.{◌≡◌, ◌≢◌, ℕ, suc, ◌+◌, ◌*◌, ◌<◌, ◌≤◌, ◌⊎◌, inl, inr, Bool, List, [], ◌∷◌, ◌++◌, length}
use Rattle.std.proofs.Common.{refl, sym, ap, ◌∙◌, subst, arith, append_assoc}
use Rattle.avr_instr.specs.declared.instr.Instr.TheVariants.{Pop}
use Rattle.vg_lin.specs.Steps.{Frame}
use Rattle.vg_lin.specs.State.{State, Waiting, sets}
use Rattle.avr_view.specs.Registers.{put}
use Rattle.avr_view.specs.Run.{Run}
use Rattle.avr_view.specs.View.{View}
use Rattle.avr_view.proofs.StackSteps.{goes_pop}
use Rattle.vg_templates.specs.Spots.{number, read}
use Rattle.vg_templates.specs.Layouts.{IsLayout, IsOwned}
use Rattle.vg_templates.specs.Frames.{Waits, Places, Stacked}
use Rattle.vg_templates.proofs.Arguments.{read-back}
use Rattle.vg_templates.proofs.Numbers.{put_other, put_same}
use Rattle.vg_templates.specs.Pieces.{Takes}
use Rattle.vg_templates.specs.Held.{Held, IsSet, gives, Given}
use Rattle.vg_templates.proofs.Composing.{takes_none, takes_then, takes_next, takes_wider}
use Rattle.vg_templates.proofs.Holding.{stacked_agree, takes_gives}
use Rattle.vg_templates.specs.Outcomes.{Lies}
use Rattle.vg_templates.specs.Plains.{pops_from, pops_value}

-- so many registers from d on hold these bytes, which are gone from the stack
record Popped (d : ℕ) (bytes below : List ℕ) (old new : View) : Type 0 where
  pub holds : number new.regs d (length bytes) ≡ read bytes 0 (length bytes)
  pub others : (r : ℕ) → (r < d) ⊎ (d + length bytes ≤ r) → new.regs.of r ≡ old.regs.of r
  pub same : new ≡ record old { regs = new.regs; stack = below }

module _ (e : Run) (deep : Type 0) where
  takes_pops_from : (d : ℕ) (bytes below : List ℕ) (v : View) → v.stack ≡ bytes ++ below → Takes e deep v (pops_from d (length bytes)) (Popped d bytes below v)
  takes_pops_from d [] below v cut =
      takes_none e deep v (Popped d [] below v) (record { holds = refl; others = λ r h. refl; same = ap (λ l. record v { stack = l }) cut })
  takes_pops_from d (b ∷ bs) below v cut =
      let u : View = record v { regs = put v.regs d b; stack = bs ++ below } in
      let n = length bs in
      takes_next e deep v u (Pop d) (pops_from (suc d) n) (Popped d (b ∷ bs) below v)
      (λ pc s stand room a. goes_pop e deep pc v s a d b (bs ++ below) cut stand room)
      (takes_wider e deep u (pops_from (suc d) n) (Popped (suc d) bs below u) (Popped d (b ∷ bs) below v)
      (λ t k.
      let first : t.regs.of d ≡ b = k.others d (inl (omega arith)) ∙ put_same v.regs d b in
      record {
        holds =
            ap (λ z. z + 256 * number t.regs (suc d) n) first
            ∙ ap (λ z. b + 256 * z) (k.holds ∙ sym (read-back (b ∷ []) bs 1 0 n refl));
        others = λ r h. k.others r (wider r h) ∙ put_other v.regs d b r (not_d r h);
        same = k.same;
      })
      (takes_pops_from (suc d) bs below u refl))
    where
      wider : (r : ℕ) → (r < d) ⊎ (d + suc (length bs) ≤ r) → (r < suc d) ⊎ (suc d + length bs ≤ r)
      wider r (inl h) = inl (omega arith)
      wider r (inr h) = inr (omega arith)

      not_d : (r : ℕ) → (r < d) ⊎ (d + suc (length bs) ≤ r) → r ≢ d
      not_d r (inl h) = omega arith
      not_d r (inr h) = omega arith

-- the value that waits, and what waits behind it
record First (x : Waiting) (xs : List Waiting) (bytes : List ℕ) : Type 0 where
  pub front : List ℕ
  pub back : List ℕ
  pub cut : bytes ≡ front ++ back
  pub long : length front ≡ x.width
  pub value : read front 0 x.width ≡ x.value
  pub rest : Waits xs back

first_of : (x : Waiting) (xs : List Waiting) (bytes : List ℕ) → Waits (x ∷ xs) bytes → First x xs bytes
first_of x xs bytes (front, back, cut, long, value, rest) = record { front = front; back = back; cut = cut; long = long; value = value; rest = rest }

module _ (i : Places) (ok : (m : ℕ) → IsLayout (i.layouts m)) (m : ℕ) (frames : List (Frame State)) (e : Run) (deep : Type 0) where
  pub takes_pops_value : (live behind : ℕ → Bool) (s : State) (x : Waiting) (xs : List Waiting) (to : ℕ) (v : View) → s.waiting ≡ x ∷ xs → x.width ≤ 4
      → IsSet (i.layouts m) live behind to → Held i m live s frames v
      → Takes e deep v (pops_value (i.layouts m) x.width to) (Lies i m behind (sets to x.value (record s { waiting = xs })) frames v.out)
  takes_pops_value live behind s x xs to v some small can k =
      let l = i.layouts m in
      let t = k.stacked in
      let w = x.width in
      let f = first_of x xs t.wait (subst (λ ws. Waits ws t.wait) some t.waits) in
      let s1 : State = record s { waiting = xs } in
      let rest = f.back ++ (t.own ++ t.under) in
      let cut : v.stack ≡ f.front ++ rest = t.cut ∙ ap (λ z. z ++ (t.own ++ t.under)) f.cut ∙ append_assoc f.front f.back (t.own ++ t.under) in
      let long = f.long in
      let goal = Lies i m behind (sets to x.value s1) frames v.out in
      let now : Stacked i m live s1 frames rest v.regs =
      record {
        wait = f.back;
        own = t.own;
        under = t.under;
        cut = refl;
        points = t.points;
        waits = f.rest;
        fits = record { each = t.fits.each; widths = t.fits.widths; long = t.fits.long };
        callers = t.callers;
      } in
      takes_then e deep v (pops_from 22 w) (gives l to 22 w) (Popped 22 f.front rest v) goal
      (subst (λ n. Takes e deep v (pops_from 22 n) (Popped 22 f.front rest v)) long (takes_pops_from e deep 22 f.front rest v cut))
      (λ u p.
      let held : Held i m live s1 frames u =
      record {
        stacked =
            subst (λ z. Stacked i m live s1 frames z u.regs) (sym (ap (λ (y : View). y.stack) p.same))
            (stacked_agree i ok m frames live s1 rest v.regs u.regs (λ r reliable. p.others r (apart f.front r (omega (arith, long, small)) reliable)) now);
        r1 = p.others 1 (inl (omega arith)) ∙ k.r1;
        ram = ap (λ (y : View). y.static) p.same ∙ k.ram;
      } in
      let value_is : number u.regs 22 w ≡ x.value =
      ap (number u.regs 22) (sym long) ∙ p.holds ∙ ap (read f.front 0) long ∙ f.value in
      takes_wider e deep u (gives l to 22 w) (Given i m behind (sets to (number u.regs 22 w) s1) frames u) goal
      (λ q g. record {
        held = subst (λ z. Held i m behind (sets to z s1) frames q) value_is g.held;
        out = g.out ∙ ap (λ (y : View). y.out) p.same;
      })
      (takes_gives i ok m frames e deep live behind s1 to 22 w u can (omega arith) (omega (arith, small)) held))
    where
      apart : (bytes : List ℕ) (r : ℕ) → length bytes ≤ 4 → IsOwned r → (r < 22) ⊎ (22 + length bytes ≤ r)
      apart bytes r h (inl k) = let up = k.1 in inl (omega arith)
      apart bytes r h (inr k) = let low = k.0 in inr (omega arith)
