-- Rows of values that are pushed, and of the temporaries into which a step's own are popped; and what each step leaves.
use Rattle.std.specs.Prelude.{ℕ, zero, suc, ◌+◌, ◌≤◌, Bool, List, [], ◌∷◌, ◌++◌, length, drop}
use Rattle.std.proofs.Common.{◌≡◌, refl, sym, ap, ◌∙◌, arith}
use Rattle.std.proofs.Math.Seq.{drop-append_seam}
use Rattle.vg_firm.specs.declared.step.Step.{Step}
use Rattle.vg_firm.specs.declared.step.Step.TheVariants.{Number, This, Local as GetLocal, SetLocal, Forget, Operate, Apply, ReadDevice, WriteDevice}
use Rattle.vg_firm.specs.declared.step.Step.TheVariants.{Load, Store}
use Rattle.vg_firm.specs.declared.step.Step.TheVariants.{LoadAt, StoreAt, LoadNothing, StoreNothing, LoadItem, StoreItem, Length, IsWithin}
use Rattle.vg_firm.specs.declared.step.Step.TheVariants.{StopUnlessWithin, Bind, BindFor, Call, CallFor, CallValue, Idle}
use Rattle.vg_lin.specs.declared.instr.Operand.{Operand}
use Rattle.vg_lin.specs.declared.instr.Operand.TheVariants.{Known}
use Rattle.vg_flatten_pushed.specs.Pushed.{pops, popped, lifts}
use Rattle.vg_firm_typed.specs.Steps.{takes, leaves}
use Rattle.vg_firm_typed.specs.Typed.{IsAlone}
use Rattle.vg_flatten.proofs.Typed.{Stays}

-- The homes of so many values that are pushed.
abbrev pub row : ℕ → List Operand
row zero = []
row (suc n) = Known 0 ∷ row n

pub length_row : (n : ℕ) → length (row n) ≡ n
length_row zero = refl
length_row (suc n) = let h = length_row n in omega (arith, h)

row_both : (c k : ℕ) → row (c + k) ≡ row c ++ row k
row_both zero k = ap row (let e : zero + k ≡ k = omega arith in e)
row_both (suc c) k = ap row (let e : suc c + k ≡ suc (c + k) = omega arith in e) ∙ ap (λ z. Known 0 ∷ z) (row_both c k)

-- behind so many of a row the rest of it waits
pub drop_row : (c k : ℕ) → drop c (row (c + k)) ≡ row k
drop_row c k = ap (drop c) (row_both c k) ∙ ap (λ z. drop z (row c ++ row k)) (sym (length_row c)) ∙ drop-append_seam (row c) (row k)

pub length_popped : (first n : ℕ) → length (popped first n) ≡ n
length_popped first zero = refl
length_popped first (suc n) = let h = length_popped first n in omega (arith, h)

pub stays_pops : (looped : Bool) (first n : ℕ) → Stays looped (pops first n)
stays_pops looped first zero = tt
stays_pops looped first (suc n) = (tt, stays_pops looped first n)

pub stays_lifts : (looped : Bool) (first : ℕ) (hs : List Operand) → Stays looped (lifts first hs)
stays_lifts looped first [] = tt
stays_lifts looped first (h ∷ hs) = (tt, stays_lifts looped first hs)

-- a step leaves one value at most
pub leaves_one : (p : Step) → leaves p ≤ 1
leaves_one (Number v) = omega arith
leaves_one This = omega arith
leaves_one (GetLocal i) = omega arith
leaves_one (SetLocal i) = omega arith
leaves_one Forget = omega arith
leaves_one (Operate op) = omega arith
leaves_one (Apply op) = omega arith
leaves_one (ReadDevice address) = omega arith
leaves_one (WriteDevice address) = omega arith
leaves_one (Load home c) = omega arith
leaves_one (Store c width) = omega arith
leaves_one (LoadAt home c first) = omega arith
leaves_one (StoreAt c first width) = omega arith
leaves_one LoadNothing = omega arith
leaves_one StoreNothing = omega arith
leaves_one (LoadItem e) = omega arith
leaves_one (StoreItem e) = omega arith
leaves_one (Length t) = omega arith
leaves_one (IsWithin first count) = omega arith
leaves_one (StopUnlessWithin first count) = omega arith
leaves_one (Bind q) = omega arith
leaves_one (BindFor d) = omega arith
leaves_one (Call q count) = omega arith
leaves_one (CallFor d count) = omega arith
leaves_one (CallValue count) = omega arith
leaves_one Idle = omega arith

-- its own values wait alone where all others are pushed
pub own_alone : (p : Step) → IsAlone p (takes p)
own_alone (Number v) = tt
own_alone This = tt
own_alone (GetLocal i) = tt
own_alone (SetLocal i) = refl
own_alone Forget = tt
own_alone (Operate op) = tt
own_alone (Apply op) = tt
own_alone (ReadDevice address) = tt
own_alone (WriteDevice address) = tt
own_alone (Load home c) = tt
own_alone (Store c width) = tt
own_alone (LoadAt home c first) = tt
own_alone (StoreAt c first width) = tt
own_alone LoadNothing = tt
own_alone StoreNothing = tt
own_alone (LoadItem e) = tt
own_alone (StoreItem e) = tt
own_alone (Length t) = tt
own_alone (IsWithin first count) = tt
own_alone (StopUnlessWithin first count) = tt
own_alone (Bind q) = tt
own_alone (BindFor d) = tt
own_alone (Call q count) = tt
own_alone (CallFor d count) = tt
own_alone (CallValue count) = tt
own_alone Idle = tt

-- above pushed values no local is set
pub alone_above : (p : Step) (n m : ℕ) → takes p + 1 ≤ n → IsAlone p n → IsAlone p m
alone_above (Number v) n m le alone = tt
alone_above This n m le alone = tt
alone_above (GetLocal i) n m le alone = tt
alone_above (SetLocal i) n m le alone = absurd (omega (arith, le, alone))
alone_above Forget n m le alone = tt
alone_above (Operate op) n m le alone = tt
alone_above (Apply op) n m le alone = tt
alone_above (ReadDevice address) n m le alone = tt
alone_above (WriteDevice address) n m le alone = tt
alone_above (Load home c) n m le alone = tt
alone_above (Store c width) n m le alone = tt
alone_above (LoadAt home c first) n m le alone = tt
alone_above (StoreAt c first width) n m le alone = tt
alone_above LoadNothing n m le alone = tt
alone_above StoreNothing n m le alone = tt
alone_above (LoadItem e) n m le alone = tt
alone_above (StoreItem e) n m le alone = tt
alone_above (Length t) n m le alone = tt
alone_above (IsWithin first count) n m le alone = tt
alone_above (StopUnlessWithin first count) n m le alone = tt
alone_above (Bind q) n m le alone = tt
alone_above (BindFor d) n m le alone = tt
alone_above (Call q count) n m le alone = tt
alone_above (CallFor d count) n m le alone = tt
alone_above (CallValue count) n m le alone = tt
alone_above Idle n m le alone = tt
