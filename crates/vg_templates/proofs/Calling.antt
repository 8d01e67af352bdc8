-- A call of a procedure with its entry, and its exit with the return.
use Rattle.std.proofs.Common.{◌≡◌, ◌≢◌, ℕ, ◌+◌, ◌<◌, ◌≤◌, ◌⊎◌, inl, inr, Bool, true, false, List, [], ◌∷◌, ◌++◌, length}
use Rattle.std.proofs.Common.{refl, sym, ap, ◌∙◌, subst, arith, append_assoc, length-take, length-drop, ◌==◌, if◌then◌else◌}
use Rattle.std.proofs.lemmas.List.{take-append-drop}
use Rattle.std.specs.Prelude.{map, take, drop}
use Rattle.vg_lin.specs.Steps.{Frame}
use Rattle.vg_lin.specs.State.{State as LinState}
use Rattle.avr_instr.specs.declared.instr.Instr.TheVariants.{Call}
use Rattle.avr_isa.specs.Machine.{State}
use Rattle.avr_isa.specs.Standing.{widths, StandsAt, AllStandAt}
use Rattle.avr_view.specs.Registers.{Regs, pair, put}
use Rattle.avr_view.specs.Run.{Run, Goes}
use Rattle.avr_view.specs.View.{View, At}
use Rattle.avr_view.proofs.Going.{below_or_not, goes_then, goes_fewer, goes_wider}
use Rattle.avr_view.proofs.CallSteps.{goes_call}
use Rattle.vg_templates.specs.Layouts.{Layout, IsLayout, IsReliable, IsIn, Outlive}
use Rattle.vg_templates.specs.Linkage.{saves, epilogue, AreOthers, Entered, Left}
use Rattle.vg_templates.specs.Frames.{Fits, Waits, restored, saved_bytes, found, Places, word_bytes, between, back_to, needed, Points, Callers, Stacked}
use Rattle.vg_templates.specs.CallOutcomes.{Begun, Resumed}
use Rattle.vg_templates.proofs.Saving.{restored_still, saved_long}
use Rattle.vg_templates.proofs.Openings.{opened, callers_begin, callers_resume}
use Rattle.vg_templates.proofs.Linking.{goes_saves, goes_epilogue}

-- what the saved registers leave alone
restored_other : (ds bs : List ℕ) (g : Regs) (d : ℕ) → (IsIn d ds → ⊥) → (restored ds bs g).of d ≡ g.of d
restored_other [] bs g d no_one = refl
restored_other (x ∷ xs) [] g d no_one = refl
restored_other (x ∷ xs) (b ∷ bs) g d no_one = restored_other xs bs (put g x b) d (λ k. no_one (inr k)) ∙ at (d == x) refl
  where
    at : (q : Bool) → (d == x) ≡ q → (if q then b else g.of d) ≡ g.of d
    at true e = absurd (no_one (inl (let same : d ≡ x = grind arith in same)))
    at false e = refl

-- Y is saved where it is the frame pointer, and else it is as it was
reliable_still : (l : Layout) (old new : Regs) → IsLayout l → AreOthers old new → (l.pointed ≡ false → (d : ℕ) → new.of d ≡ old.of d)
    → (d : ℕ) → IsReliable d → IsIn d l.saved ⊎ (new.of d ≡ old.of d)
reliable_still l old new ok others all d (inl r) = let low = r.1 in inr (others d (inl (omega arith)))
reliable_still l old new ok others all d (inr r) = by_pointer l.pointed refl
  where
    either : (d ≡ 28) ⊎ (d ≡ 29)
    either = test (d == 28) refl
      where
        test : (b : Bool) → (d == 28) ≡ b → (d ≡ 28) ⊎ (d ≡ 29)
        test true e = inl (grind arith)
        test false e = let ne : d ≢ 28 = grind arith in let low = r.0 in let high = r.1 in inr (omega arith)

    by_pointer : (b : Bool) → l.pointed ≡ b → IsIn d l.saved ⊎ (new.of d ≡ old.of d)
    by_pointer true e =
        inl
        (elim either [
          | inl same ↦ subst (λ n. IsIn n l.saved) (sym same) (ok.pointer e).0
          | inr same ↦ subst (λ n. IsIn n l.saved) (sym same) (ok.pointer e).1
        ])
    by_pointer false e = inr (all e d)

module _ (e : Run) (deep : Type 0) (i : Places) (ok : (m : ℕ) → IsLayout (i.layouts m)) where
  -- from where a step has put the return address on the stack and led to the entry of q, for which f waits; with these of the bytes that wait as its
  -- arguments
  pub goes_begin_from : (q entry : ℕ) (f : Frame LinState) (frames : List (Frame LinState)) (args wait own under : List ℕ) (v : View) (s : State)
      → Goes e deep 1 s (At e entry (record v { stack = word_bytes (back_to i f.awaits q f.proc f.pc) ++ v.stack }))
      → AllStandAt e.flash entry (saves (i.layouts q)) → entry + widths (saves (i.layouts q)) < 65536
      → v.stack ≡ args ++ (between i f.awaits f.proc f.pc ++ (wait ++ (own ++ under))) → Points (i.layouts f.proc) own under v.regs
      → Waits f.kept.waiting wait
      → Fits (i.layouts f.proc) (needed i f.proc f.awaits f.pc) f.kept.locals own v.regs → Callers i frames f.proc own under v.regs
      → (0x1100 < e.floor + length v.stack + 2 + length (i.layouts q).saved + (i.layouts q).slots → deep)
      → Goes e deep 1 s (Begun e i q f frames args (entry + widths (saves (i.layouts q))) v)
  goes_begin_from q entry f frames args wait own under v s first code low cut points waits fits more full =
      let l = i.layouts q in
      let to = back_to i f.awaits q f.proc f.pc in
      let v1 : View = record v { stack = word_bytes to ++ v.stack } in
      let goal = Begun e i q f frames args (entry + widths (saves l)) v in
      goes_fewer e deep (1 + 0) 1 s goal (omega arith)
      (goes_then e deep 1 0 s (At e entry v1) goal first
      (λ t b. goes_wider e deep 0 t (Entered e l (entry + widths (saves l)) v1) goal
      (λ u n.
      let behind = between i f.awaits f.proc f.pc ++ (wait ++ (own ++ under)) in
      let frame = opened n.slots v.regs l.saved to args in
      let stack_is : n.slots ++ (map v.regs.of l.saved ++ (word_bytes to ++ v.stack)) ≡ frame ++ behind =
      ap (λ k. n.slots ++ (map v.regs.of l.saved ++ (word_bytes to ++ k))) cut
      ∙ sym (append_assoc n.slots (map v.regs.of l.saved ++ (word_bytes to ++ args)) behind
      ∙ ap (λ k. n.slots ++ k) (append_assoc (map v.regs.of l.saved) (word_bytes to ++ args) behind)) in
      let callers = callers_begin i ok q f.proc f.pc f.awaits f.kept frames n.slots args wait own under v.regs n.regs n.enough
      (reliable_still l v.regs n.regs (ok q) n.others n.all) points waits fits more in
      record {
        slots = n.slots;
        under = behind;
        regs = n.regs;
        enough = n.enough;
        others = n.others;
        points = λ h. ap (λ k. pair n.regs 28 + 1 + length k) (sym stack_is) ∙ n.points h;
        callers = callers;
        at = subst (λ k. At e (entry + widths (saves l)) (record v { regs = n.regs; stack = k }) u) stack_is n.at;
      })
      (goes_saves e deep l entry v1 t (ok q).no_pointer (ok q).small code low (λ h. full (omega arith)) b)))

  -- a call of q, for which f waits, or at an interrupt the call in the stub of its handler
  pub goes_begin : (q pc entry : ℕ) (f : Frame LinState) (frames : List (Frame LinState)) (args wait own under : List ℕ) (v : View) (s : State)
      → StandsAt e.flash pc (Call entry) → pc + 2 < 65536 → back_to i f.awaits q f.proc f.pc ≡ pc + 2
      → AllStandAt e.flash entry (saves (i.layouts q)) → entry + widths (saves (i.layouts q)) < 65536
      → v.stack ≡ args ++ (between i f.awaits f.proc f.pc ++ (wait ++ (own ++ under))) → Points (i.layouts f.proc) own under v.regs
      → Waits f.kept.waiting wait
      → Fits (i.layouts f.proc) (needed i f.proc f.awaits f.pc) f.kept.locals own v.regs → Callers i frames f.proc own under v.regs
      → (0x1100 < e.floor + length v.stack + 2 + length (i.layouts q).saved + (i.layouts q).slots → deep) → At e pc v s
      → Goes e deep 1 s (Begun e i q f frames args (entry + widths (saves (i.layouts q))) v)
  goes_begin q pc entry f frames args wait own under v s call room back code low cut points waits fits more full a =
      goes_begin_from q entry f frames args wait own under v s
      (subst (λ n. Goes e deep 1 s (At e entry (record v { stack = word_bytes n ++ v.stack }))) (sym back)
      (goes_call e deep pc v s a entry call room (λ h. full (omega arith)))) code low cut points waits fits more full

  -- the exit of q, for which f waits
  pub goes_resume : (q pc : ℕ) (live : ℕ → Bool) (now : LinState) (f : Frame LinState) (frames : List (Frame LinState)) (v : View) (s : State)
      → AllStandAt e.flash pc (epilogue (i.layouts q)) → pc + widths (epilogue (i.layouts q)) < 65536 → now.waiting ≡ []
      → Stacked i q live now (f ∷ frames) v.stack v.regs → At e pc v s → Goes e deep 1 s (Resumed e i q f frames v)
  goes_resume q pc live now f frames v s code room empty k a =
      let l = i.layouts q in
      let to = back_to i f.awaits q f.proc f.pc in
      let c = k.callers.0 in
      let own = k.own in
      let slots = take l.slots own in
      let bytes = saved_bytes l own in
      let x = drop (length l.saved) (drop l.slots own) in
      let args = drop 2 x in
      let rest = c.wait ++ (c.own ++ c.under) in
      let middle = between i f.awaits f.proc f.pc in
      let nothing : k.wait ≡ [] = subst (λ ws. Waits ws k.wait) empty k.waits in
      let link : x ≡ word_bytes to ++ args = sym (take-append-drop 2 x) ∙ ap (λ y. y ++ args) c.link in
      let inner : drop l.slots own ≡ bytes ++ (word_bytes to ++ args) =
      sym (take-append-drop (length l.saved) (drop l.slots own)) ∙ ap (λ y. bytes ++ y) link in
      let frame : own ≡ slots ++ (bytes ++ (word_bytes to ++ args)) = sym (take-append-drop l.slots own) ∙ ap (λ y. slots ++ y) inner in
      let stack_is : v.stack ≡ slots ++ (bytes ++ (word_bytes to ++ (args ++ (middle ++ rest)))) =
      k.cut
      ∙ ap (λ y. y ++ (own ++ k.under)) nothing
      ∙ ap (λ y. own ++ y) c.cut
      ∙ ap (λ y. y ++ (middle ++ rest)) frame
      ∙ append_assoc slots (bytes ++ (word_bytes to ++ args)) (middle ++ rest)
      ∙ ap (λ y. slots ++ y) (append_assoc bytes (word_bytes to ++ args) (middle ++ rest)) in
      let size = k.fits.long in
      let enough : length slots ≡ l.slots = omega (arith, size, length-take l.slots own) in
      let saved = saved_long l own size in
      let count : length args ≡ l.pushed =
      omega (arith, size, length-drop 2 x, length-drop (length l.saved) (drop l.slots own), length-drop l.slots own) in
      let straight : v.stack ≡ own ++ k.under = k.cut ∙ ap (λ y. y ++ (own ++ k.under)) nothing in
      let points : 0 < l.slots → pair v.regs 28 + 1 + length v.stack ≡ 0x1100 =
      λ h. ap (λ y. pair v.regs 28 + 1 + length y) straight ∙ k.points (is_pointed l (ok q) h) in
      goes_wider e deep 1 s (Left e l bytes to (args ++ (middle ++ rest)) v) (Resumed e i q f frames v)
      (λ t n.
      let new = restored l.saved bytes n.regs in
      let still = reliable_still_back l v.regs n.regs (ok q) n.others n.all in
      let agree : Outlive (found l own v.regs) new = λ d r. restored_still l.saved bytes v.regs n.regs d saved (still d r) in
      record {
        args = args;
        rest = rest;
        regs = new;
        long = count;
        scratch = λ d r. restored_other l.saved bytes n.regs d (λ k. r ((ok q).reliable d k)) ∙ scratch_other l v.regs n.regs n.others d r;
        stacked = callers_resume i ok q f frames own k.under v.regs new agree k.callers;
        at = n.at;
      })
      (goes_epilogue e deep l pc to slots bytes (args ++ (middle ++ rest)) v s (ok q).small code room stack_is enough saved points a)
    where
      is_pointed : (l : Layout) → IsLayout l → 0 < l.slots → l.pointed ≡ true
      is_pointed l fine h = by_pointer l.pointed refl
        where
          by_pointer : (b : Bool) → l.pointed ≡ b → b ≡ true
          by_pointer true e1 = refl
          by_pointer false e1 = let none = fine.no_pointer e1 in absurd (let clash : 0 < 0 = omega arith in omega arith)

      reliable_still_back : (l : Layout) (old new : Regs) → IsLayout l → AreOthers old new → (l.slots ≡ 0 → (d : ℕ) → new.of d ≡ old.of d)
          → (d : ℕ) → IsReliable d → IsIn d l.saved ⊎ (new.of d ≡ old.of d)
      reliable_still_back l old new fine others all = reliable_still l old new fine others (λ h. all (fine.no_pointer h))

      scratch_other : (l : Layout) (old new : Regs) → AreOthers old new → (d : ℕ) → (IsReliable d → ⊥) → new.of d ≡ old.of d
      scratch_other l old new others d r = others d (beside d r)
        where
          beside : (d : ℕ) → (IsReliable d → ⊥) → (d < 28) ⊎ (30 ≤ d)
          beside d r =
              elim (below_or_not d 28) [
                | inl low ↦ inl low
                | inr high ↦ elim (below_or_not d 30) [ inl less ↦ absurd (r (inr (high, less))) | inr far ↦ inr far ]
              ]
