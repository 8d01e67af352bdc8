-- Runs of the machine: one behind another, one instruction at a time, and what they leave as it is.
use Rattle.std.proofs.Common.{◌≡◌, ℕ, zero, suc, ◌+◌, ◌-◌, ◌≤◌, ◌⊎◌, inl, inr, Bool, true, false, List, [], ◌∷◌, Option, Some, None, refl, ap, ◌∙◌}
use Rattle.std.proofs.Common.{arith, min, if◌then◌else◌, ◌==◌, nat_le}
use Rattle.vg_meaning.specs.Outside.{Outside}
use Rattle.avr_instr.specs.declared.instr.Instr.{Instr}
use Rattle.avr_isa.specs.declared.stack.StackUse.{StackUse}
use Rattle.avr_isa.specs.declared.stack.StackUse.TheVariants.{Nothing, PushesByte, PushesWord, Stores}
use Rattle.avr_isa.specs.declared.effect.Effect.{Effect}
use Rattle.avr_isa.specs.declared.effect.Effect.TheVariants.{Next, ReadDevice, WriteDevice, Sleep, Halt, Outside as Forbidden}
use Rattle.avr_isa.specs.declared.ending.MachineEnd.{MachineEnd}
use Rattle.avr_isa.specs.Cpu.{CpuState}
use Rattle.avr_isa.specs.Access.{can_push_two}
use Rattle.avr_isa.specs.Effect.{change}
use Rattle.avr_isa.specs.Machine.{State, answered, woken, done, performed, word_here, instr_here, next_by, next_state, run_from}
use Rattle.avr_isa.specs.Stack.{stack_use, lowest_by, lowest_by_push_two, lowest_by_store, lowest_behind}
use Rattle.avr_isa.specs.Leads.{Leads}
use Rattle.avr_isa.specs.Standing.{StandsAt}

-- a machine that has not ended
abbrev pub going_on : CpuState → Outside → ℕ → State
going_on cpu outside lowest = record { cpu = cpu; outside = outside; lowest = lowest; ended = None }

pub leads_same : (flash : List ℕ) (s t : State) → s ≡ t → Leads flash s t
leads_same flash s t e = record { by = λ k. (k, omega arith, ap (run_from flash k) e) }

pub leads_on : (flash : List ℕ) (s t u : State) → Leads flash s t → Leads flash t u → Leads flash s u
leads_on flash s t u first second =
    record { by = λ k. let b = second.by k in let a = first.by b.0 in (a.0, omega (arith, a.1, b.1), a.2 ∙ b.2) }

-- one instruction
pub one_leads : (flash : List ℕ) (cpu : CpuState) (o : Outside) (l : ℕ) (i : Instr) (t : State) → StandsAt flash cpu.pc i
    → performed flash (Some i) (word_here flash cpu) (going_on cpu o l) ≡ t → Leads flash (going_on cpu o l) t
one_leads flash cpu o l i t at e =
    record {
      by = λ k. (
        suc k,
        omega arith,
        ap (λ d. run_from flash k (performed flash d (word_here flash cpu) (going_on cpu o l))) at
            ∙ ap (run_from flash k) e,
      );
    }

-- the history of the stack never rises
push_below : (sp lowest : ℕ) → lowest_by_push_two sp lowest ≤ lowest
push_below sp lowest = omega arith

store_below : (address sp lowest : ℕ) → lowest_by_store address sp lowest ≤ lowest
store_below address sp lowest = of_spl (address == 0x5D)
  where
    of_spl : (b : Bool) → (if b then min lowest (if nat_le sp 0x10FF then sp + 1 else 0) else lowest) ≤ lowest
    of_spl true = omega arith
    of_spl false = omega arith

by_below : (u : StackUse) (sp lowest : ℕ) → lowest_by u sp lowest ≤ lowest
by_below Nothing sp lowest = omega arith
by_below (PushesByte address) sp lowest = omega arith
by_below (PushesWord address) sp lowest = push_below address lowest
by_below (Stores address) sp lowest = store_below address sp lowest

behind_below : (i : Instr) (old new : CpuState) (lowest : ℕ) → lowest_behind i old new lowest ≤ lowest
behind_below i old new lowest = by_below (stack_use i old) new.sp lowest

answered_below : (reads : List ℕ) (address register : ℕ) (s : State) (l : ℕ) → s.lowest ≤ l → (answered reads address register s).lowest ≤ l
answered_below [] address register s l h = h
answered_below (value ∷ values) address register s l h = h

either_below : (b : Bool) (t u : State) (l : ℕ) → t.lowest ≤ l → u.lowest ≤ l → (if b then t else u).lowest ≤ l
either_below true t u l h k = h
either_below false t u l h k = k

woken_below : (interrupts : List ℕ) (word : ℕ) (s : State) → (woken interrupts word s).lowest ≤ s.lowest
woken_below [] word s = omega arith
woken_below (v ∷ vs) word s = either_below (can_push_two s.cpu.sp) _ _ s.lowest (push_below s.cpu.sp s.lowest) (push_below s.cpu.sp s.lowest)

done_below : (e : Effect) (word : ℕ) (s : State) (l : ℕ) → s.lowest ≤ l → (done e word s).lowest ≤ l
done_below Next word s l h = h
done_below (ReadDevice address register) word s l h = answered_below s.outside.reads address register s l h
done_below (WriteDevice address value) word s l h = h
done_below Sleep word s l h = omega (arith, woken_below s.outside.interrupts word s)
done_below Halt word s l h = h
done_below Forbidden word s l h = h

performed_below : (flash : List ℕ) (o : Option Instr) (word : ℕ) (s : State) → (performed flash o word s).lowest ≤ s.lowest
performed_below flash None word s = omega arith
performed_below flash (Some i) word s =
    let made = change flash i s.cpu in
    done_below made.effect word (record s { cpu = made.cpu; lowest = lowest_behind i s.cpu made.cpu s.lowest }) s.lowest
    (behind_below i s.cpu made.cpu s.lowest)

next_below : (o : Option MachineEnd) (flash : List ℕ) (s : State) → (next_by o flash s).lowest ≤ s.lowest
next_below (Some e) flash s = omega arith
next_below None flash s = performed_below flash (instr_here flash s.cpu) (word_here flash s.cpu) s

pub lowest-falls : (flash : List ℕ) (n : ℕ) (s : State) → (run_from flash n s).lowest ≤ s.lowest
lowest-falls flash zero s = omega arith
lowest-falls flash (suc n) s = omega (arith, lowest-falls flash n (next_state flash s), next_below s.ended flash s)

-- a longer run is a run from where the shorter one stands
pub run-longer : (flash : List ℕ) (a b c : ℕ) (s : State) → c ≡ a + b → run_from flash c s ≡ run_from flash b (run_from flash a s)
run-longer flash zero b c s e = let same : c ≡ b = omega (arith, e) in ap (λ n. run_from flash n s) same
run-longer flash (suc a) b c s e =
    let same : c ≡ suc (a + b) = omega (arith, e) in
    ap (λ n. run_from flash n s) same ∙ run-longer flash a b (a + b) (next_state flash s) refl

-- a machine that has ended stays as it is
pub stays : (flash : List ℕ) (n : ℕ) (s : State) (e : MachineEnd) → s.ended ≡ Some e → run_from flash n s ≡ s
stays flash zero s e h = refl
stays flash (suc n) s e h =
    let here : next_state flash s ≡ s = ap (λ o. next_by o flash s) h in
    ap (run_from flash n) here ∙ stays flash n s e h

one_way : (j k : ℕ) → (k ≤ j) ⊎ (j ≤ k)
one_way j zero = inl (omega arith)
one_way zero (suc k) = inr (omega arith)
one_way (suc j) (suc k) = elim (one_way j k) [ inl h ↦ inl (omega arith) | inr h ↦ inr (omega arith) ]

-- of a run that ends without reaching the floor, no state has reached it
pub never_lower : (flash : List ℕ) (s : State) (j floor : ℕ) (e : MachineEnd) → (run_from flash j s).ended ≡ Some e → floor ≤ (run_from flash j s).lowest
    → (k : ℕ) → floor ≤ (run_from flash k s).lowest
never_lower flash s j floor e h low k =
    elim (one_way j k) [
      | inl before ↦
          let whole = run-longer flash k (j - k) j s (omega arith) in
          omega (arith, lowest-falls flash (j - k) (run_from flash k s), ap (λ t. t.lowest) whole)
      | inr behind ↦
          let whole = run-longer flash j (k - j) k s (omega arith) ∙ stays flash (k - j) (run_from flash j s) e h in
          omega (arith, ap (λ t. t.lowest) whole)
    ]
