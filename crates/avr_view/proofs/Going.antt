-- Runs that go on: one behind another, and one instruction at a time.
use Rattle.std.proofs.Common.{◌≡◌, ℕ, zero, suc, ◌+◌, ◌-◌, ◌<◌, ◌≤◌, ◌⊎◌, inl, inr, Bool, true, false, ◌++◌}
use Rattle.std.proofs.Common.{Some, refl, sym, ap, ◌∙◌, subst, arith, nat_lt}
use Rattle.vg_meaning.specs.Outside.{Outside}
use Rattle.avr_instr.specs.declared.instr.Instr.{Instr}
use Rattle.avr_instr.specs.Spelled.{InRange}
use Rattle.avr_isa.specs.Cpu.{CpuState}
use Rattle.avr_isa.specs.Machine.{State, performed, word_here, run_from}
use Rattle.avr_isa.specs.Stack.{stack_use}
use Rattle.avr_isa.specs.Standing.{StandsAt}
use Rattle.avr_isa.proofs.Runs.{going_on, run-longer}
use Rattle.avr_bytes.specs.Bytes.{HoldsBytes}
use Rattle.avr_bytes.proofs.Runs.{stands-in_range, performed-bytes}
use Rattle.avr_view.specs.Run.{Run, StoresWithin, IsQuiet, Tidy, Sinks, Goes, Front}

same_instr : (i j : Instr) → Some i ≡ Some j → i ≡ j
same_instr i j e = cc

pub below_or_not : (n m : ℕ) → (n < m) ⊎ (m ≤ n)
below_or_not n m = test (nat_lt n m) refl
  where
    test : (b : Bool) → nat_lt n m ≡ b → (n < m) ⊎ (m ≤ n)
    test true h = inl (grind arith)
    test false h = inr (grind arith)

module _ (e : Run) where
  -- what is tidy so far, and then what is tidy from there
  tidy_on : (s : State) (j k : ℕ) → ((i : ℕ) → i < j → Tidy e (run_from e.flash i s)) → ((i : ℕ) → i < k → Tidy e (run_from e.flash i (run_from e.flash j s)))
      → (i : ℕ) → i < j + k → Tidy e (run_from e.flash i s)
  tidy_on s j k before behind i h =
      elim (below_or_not i j) [
        | inl low ↦ before i low
        | inr high ↦ subst (Tidy e) (sym (run-longer e.flash j (i - j) i s (omega arith))) (behind (i - j) (omega arith))
      ]

  sinks_later : (s : State) (j : ℕ) → ((i : ℕ) → i < j → Tidy e (run_from e.flash i s)) → Sinks e (run_from e.flash j s) → Sinks e s
  sinks_later s j before k =
      let r = k.reaches in
      let at : (i : ℕ) → run_from e.flash (j + i) s ≡ run_from e.flash i (run_from e.flash j s) = λ i. run-longer e.flash j i (j + i) s refl in
      let next : suc (j + r.k) ≡ j + suc r.k = omega arith in
      record {
        reaches =
            record {
              k = j + r.k;
              above = subst (λ u. e.floor ≤ u.lowest) (sym (at r.k)) r.above;
              reached =
                  subst (λ n. (run_from e.flash n s).lowest < e.floor) (sym next)
                  (subst (λ u. u.lowest < e.floor) (sym (at (suc r.k))) r.reached);
              more = r.more;
              front = subst (λ u. e.whole ≡ u.outside.trace ++ r.more) (sym (at r.k)) r.front;
            };
        tidy = tidy_on s j r.k before k.tidy;
      }

  module _ (deep : Type 0) where
    -- nothing is done
    pub goes_here : (s : State) (P : State → Type 0) → P s → Goes e deep 0 s P
    goes_here s P p = inl (record { after = 0; least = omega arith; tidy = λ i h. absurd (let none : i < 0 = h in omega arith); there = p })

    -- one part of the run, and then another from each state to which the first comes
    pub goes_then : (n m : ℕ) (s : State) (P Q : State → Type 0) → Goes e deep n s P → ((t : State) → P t → Goes e deep m t Q) → Goes e deep (n + m) s Q
    goes_then n m s P Q (inr k) go = inr k
    goes_then n m s P Q (inl c) go = on (go (run_from e.flash c.after s) c.there)
      where
        on : Goes e deep m (run_from e.flash c.after s) Q → Goes e deep (n + m) s Q
        on (inl d) =
            let least = c.least in
            let further = d.least in
            inl
            (record {
              after = c.after + d.after;
              least = omega (arith, least, further);
              tidy = tidy_on s c.after d.after c.tidy d.tidy;
              there = subst Q (sym (run-longer e.flash c.after d.after (c.after + d.after) s refl)) d.there;
            })
        on (inr (d, k)) = inr (d, sinks_later s c.after c.tidy k)

    pub goes_fewer : (n m : ℕ) (s : State) (P : State → Type 0) → m ≤ n → Goes e deep n s P → Goes e deep m s P
    goes_fewer n m s P h (inl c) = let least = c.least in inl (record { after = c.after; least = omega (arith, least, h); tidy = c.tidy; there = c.there })
    goes_fewer n m s P h (inr k) = inr k

    -- to states of a wider kind
    pub goes_wider : (n : ℕ) (s : State) (P Q : State → Type 0) → ((t : State) → P t → Q t) → Goes e deep n s P → Goes e deep n s Q
    goes_wider n s P Q h (inl c) = inl (record { after = c.after; least = c.least; tidy = c.tidy; there = h _ c.there })
    goes_wider n s P Q h (inr k) = inr k

    here_tidy : (cpu : CpuState) (o : Outside) (l : ℕ) (i : Instr) → StandsAt e.flash cpu.pc i → StoresWithin e cpu.sp (stack_use i cpu)
        → IsQuiet e (going_on cpu o l) → Tidy e (going_on cpu o l)
    here_tidy cpu o l i at within quiet =
        record { stores = λ j here. subst (λ x. StoresWithin e cpu.sp (stack_use x cpu)) (same_instr i j (sym at ∙ here)) within; quiet = quiet }

    -- one instruction
    pub goes_one : (cpu : CpuState) (o : Outside) (l : ℕ) (i : Instr) (t : State) (P : State → Type 0) → StandsAt e.flash cpu.pc i
        → StoresWithin e cpu.sp (stack_use i cpu) → IsQuiet e (going_on cpu o l)
        → performed e.flash (Some i) (word_here e.flash cpu) (going_on cpu o l) ≡ t → P t → Goes e deep 1 (going_on cpu o l) P
    goes_one cpu o l i t P at within quiet made p =
        inl
        (record {
          after = 1;
          least = omega arith;
          tidy = λ k h. first k h;
          there = subst P (sym (ap (λ d. performed e.flash d (word_here e.flash cpu) (going_on cpu o l)) at ∙ made)) p;
        })
      where
        first : (k : ℕ) → k < 1 → Tidy e (run_from e.flash k (going_on cpu o l))
        first zero h = here_tidy cpu o l i at within quiet
        first (suc k) h = absurd (let none : suc k < 1 = h in omega arith)

    -- one that reaches below the floor
    pub sinks_one : (cpu : CpuState) (o : Outside) (l : ℕ) (i : Instr) (P : State → Type 0) → StandsAt e.flash cpu.pc i → deep → e.floor ≤ l
        → (performed e.flash (Some i) (word_here e.flash cpu) (going_on cpu o l)).lowest < e.floor → Front e o → Goes e deep 1 (going_on cpu o l) P
    sinks_one cpu o l i P at d above below front =
        inr (
          d,
          record {
            reaches =
                record {
                  k = 0;
                  above = above;
                  reached =
                      subst (λ u. u.lowest < e.floor)
                      (sym (ap (λ x. performed e.flash x (word_here e.flash cpu) (going_on cpu o l)) at)) below;
                  more = front.more;
                  front = front.front;
                };
            tidy = λ i h. absurd (let none : i < 0 = h in omega arith);
          },
        )

  -- one instruction keeps bytes
  pub one_keeps_bytes : (cpu : CpuState) (o : Outside) (l : ℕ) (i : Instr) (t : State) → StandsAt e.flash cpu.pc i → HoldsBytes (going_on cpu o l)
      → performed e.flash (Some i) (word_here e.flash cpu) (going_on cpu o l) ≡ t → HoldsBytes t
  one_keeps_bytes cpu o l i t at b made =
      subst HoldsBytes made
      (performed-bytes e.flash e.is_flash (Some i) (word_here e.flash cpu) (going_on cpu o l)
      (λ j same. subst InRange (same_instr i j same) (stands-in_range e.flash e.is_flash cpu.pc i at)) b)
