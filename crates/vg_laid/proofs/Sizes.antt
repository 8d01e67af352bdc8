-- How many words the code of an instruction takes depends on how far off it leads, and not on code numbers, nor on where it leads; and it takes most where that is
-- far off.
use Rattle.std.specs.Prelude.{ℕ, zero, suc, ◌+◌, ◌/◌, ◌<◌, ◌≤◌, Bool, true, false, List, [], ◌∷◌, ◌++◌, Option, Some, None, slice_get}
use Rattle.std.proofs.Common.{◌≡◌, refl, sym, ap, ap₂, ◌∙◌, subst, arith}
use Rattle.avr_instr.specs.declared.instr.Instr.{Instr as Avr}
use Rattle.avr_isa.specs.Standing.{width, widths}
use Rattle.avr_isa.proofs.Standing.{widths-append}
use Rattle.vg_codes.specs.declared.case.Case.{Case}
use Rattle.vg_codes.specs.Dispatch.{cases_of}
use Rattle.vg_lin.specs.declared.instr.Callee.{Callee}
use Rattle.vg_lin.specs.declared.instr.Callee.TheVariants.{Procedure as ByNumber, Code as ByCode}
use Rattle.vg_lin.specs.declared.instr.Memory.TheVariants.{Ram, Flash}
use Rattle.vg_lin.specs.declared.instr.Operand.{Operand}
use Rattle.vg_lin.specs.declared.instr.Plain.{Plain as PlainInstr}
use Rattle.vg_lin.specs.declared.instr.Plain.TheVariants.{Copy, Compute, Product, DivideSteps, Load, Store, ReadDevice, WriteDevice, Push, Pop, Find, CodeOf, Stop}
use Rattle.vg_lin.specs.declared.instr.Instr.{Instr}
use Rattle.vg_lin.specs.declared.instr.Instr.TheVariants.{Plain, When, Unless, Jump, Call, Return, Idle}
use Rattle.vg_lin.specs.Program.{Program}
use Rattle.vg_lin.specs.Sound.{waits_in}
use Rattle.vg_templates.specs.Layouts.{Layout, width_of}
use Rattle.vg_templates.specs.Transfers.{known}
use Rattle.vg_templates.specs.Held.{brings, gives}
use Rattle.vg_templates.specs.Branches.{tests, told_by}
use Rattle.vg_templates.specs.Calls.{call_code}
use Rattle.vg_templates.specs.Plain.{copies_whole}
use Rattle.vg_templates.specs.Choices.{usual, unusual}
use Rattle.vg_templates.specs.Lookups.{tries_case, tries_cases, finds_procedure}
use Rattle.vg_templates.specs.Flow.{jump_code, branch_code, way_of}
use Rattle.vg_templates.specs.Plains.{plain_template}
use Rattle.vg_templates.specs.Whole.{call_front, call_back}
use Rattle.vg_select.specs.Selected.{Leading, selected}
use Rattle.vg_put_procedures.specs.Emitted.{code_of, code_at, code_upto}
use Rattle.vg_put_programs.specs.declared.reach.Reach.{Reach}
use Rattle.vg_put_programs.specs.declared.reach.Reach.TheVariants.{Short as Within7, Near as Within12, Far as Beyond}
use Rattle.vg_laid.specs.Laid.{hop_by, turn_by, way_by, lead_by}

-- Two pieces of code take as many words as two others, of which each takes as many.
pub both_same : (a b c d : List Avr) → widths a ≡ widths c → widths b ≡ widths d → widths (a ++ b) ≡ widths (c ++ d)
both_same a b c d h k = let e = widths-append a b in let f = widths-append c d in omega (arith, h, k, e, f)

pub both_less : (a b c d : List Avr) → widths a ≤ widths c → widths b ≤ widths d → widths (a ++ b) ≤ widths (c ++ d)
both_less a b c d h k = let e = widths-append a b in let f = widths-append c d in omega (arith, h, k, e, f)

no_less : (a b : ℕ) → a ≡ b → a ≤ b
no_less a b h = omega (arith, h)

-- Where each step of one row is as long at most as that of another one, so is each way along it.
pub apart_less : (near far : ℕ → ℕ) (n : ℕ) → ((k : ℕ) → k < n → near (suc k) + far k ≤ far (suc k) + near k) → (a d : ℕ) → a + d ≤ n
    → near (a + d) + far a ≤ far (a + d) + near a
apart_less near far n h a zero low =
    let z : a + 0 ≡ a = omega arith in subst (λ b. near b + far a ≤ far b + near a) (sym z) (omega arith)
apart_less near far n h a (suc d) low =
    let z : a + suc d ≡ suc (a + d) = omega arith in
    subst (λ b. near b + far a ≤ far b + near a) (sym z)
    (let rest = apart_less near far n h a d (omega (arith, low)) in let step = h (a + d) (omega (arith, low)) in omega (arith, rest, step))

known_size : (d n x y : ℕ) → widths (known d n x) ≡ widths (known d n y)
known_size d zero x y = refl
known_size d (suc n) x y = let rest = known_size (suc d) n (x / 256) (y / 256) in ap (λ k. 1 + k) rest

copies_size : (l : Layout) (to x y : ℕ) → widths (copies_whole l to x) ≡ widths (copies_whole l to y)
copies_size l to x y =
    let w = width_of l to in both_same (known 22 w x) (gives l to 22 w) (known 22 w y) (gives l to 22 w) (known_size 22 w x y) refl

tries_size : (f g : ℕ → ℕ) (p : ℕ) (cs : List Case) → widths (tries_cases f p cs) ≡ widths (tries_cases g p cs)
tries_size f g p [] = known_size 22 2 (f p) (g p)
tries_size f g p (c ∷ cs) = both_same (tries_cases f p cs) (tries_case f c) (tries_cases g p cs) (tries_case g c) (tries_size f g p cs) refl

finds_size : (l : Layout) (f g : ℕ → ℕ) (cs es : List Case) (to : ℕ) (a : Operand) → cs ≡ es
    → widths (finds_procedure l f cs to a) ≡ widths (finds_procedure l g es to a)
finds_size l f g cs es to a e =
    let is = tries_cases f (usual cs) (unusual (usual cs) cs) in
    let js = tries_cases g (usual es) (unusual (usual es) es) in
    both_same (brings l a 24 2) (is ++ gives l to 22 2) (brings l a 24 2) (js ++ gives l to 22 2) refl
    (both_same is (gives l to 22 2) js (gives l to 22 2)
    (tries_size f g (usual cs) (unusual (usual cs) cs) ∙ ap (λ z. widths (tries_cases g (usual z) (unusual (usual z) z))) e) refl)

hop_size : (r : Reach) (b a b' a' : ℕ) → widths (jump_code (hop_by r b a)) ≡ widths (jump_code (hop_by r b' a'))
hop_size Within7 b a b' a' = refl
hop_size Within12 b a b' a' = refl
hop_size Beyond b a b' a' = refl

hop_less : (r : Reach) (b a b' a' : ℕ) → widths (jump_code (hop_by r b a)) ≤ widths (jump_code (hop_by Beyond b' a'))
hop_less Within7 b a b' a' = omega arith
hop_less Within12 b a b' a' = omega arith
hop_less Beyond b a b' a' = omega arith

abbrev pub turn_words : Reach → ℕ
turn_words Within7 = 1
turn_words Within12 = 2
turn_words Beyond = 3

pub turn_takes : (bit : ℕ) (wanted : Bool) (r : Reach) (b a : ℕ) → widths (branch_code bit wanted (turn_by r b a)) ≡ turn_words r
turn_takes bit true Within7 b a = refl
turn_takes bit false Within7 b a = refl
turn_takes bit true Within12 b a = refl
turn_takes bit false Within12 b a = refl
turn_takes bit true Beyond b a = refl
turn_takes bit false Beyond b a = refl

turn_size : (bit : ℕ) (wanted : Bool) (r : Reach) (b a b' a' : ℕ)
    → widths (branch_code bit wanted (turn_by r b a)) ≡ widths (branch_code bit wanted (turn_by r b' a'))
turn_size bit wanted r b a b' a' = turn_takes bit wanted r b a ∙ sym (turn_takes bit wanted r b' a')

turn_less : (bit : ℕ) (wanted : Bool) (r : Reach) (b a b' a' : ℕ)
    → widths (branch_code bit wanted (turn_by r b a)) ≤ widths (branch_code bit wanted (turn_by Beyond b' a'))
turn_less bit wanted r b a b' a' =
    let x = turn_takes bit wanted r b a in let y = turn_takes bit wanted Beyond b' a' in let few = at_most r in omega (arith, x, y, few)
  where
    at_most : (k : Reach) → turn_words k ≤ 3
    at_most Within7 = omega arith
    at_most Within12 = omega arith
    at_most Beyond = omega arith

call_size : (c : Callee) (r : Reach) (b a b' a' : ℕ) → width (call_code (way_of c (way_by r b a))) ≡ width (call_code (way_of c (way_by r b' a')))
call_size (ByNumber q) Within7 b a b' a' = refl
call_size (ByNumber q) Within12 b a b' a' = refl
call_size (ByNumber q) Beyond b a b' a' = refl
call_size (ByCode x) r b a b' a' = refl

call_less : (c : Callee) (r : Reach) (b a b' a' : ℕ) → width (call_code (way_of c (way_by r b a))) ≤ width (call_code (way_of c (way_by Beyond b' a')))
call_less (ByNumber q) Within7 b a b' a' = omega arith
call_less (ByNumber q) Within12 b a b' a' = omega arith
call_less (ByNumber q) Beyond b a b' a' = omega arith
call_less (ByCode x) r b a b' a' = omega arith

-- Where an instruction leads, so far off.
pub record LeadsBy (r : Reach) (to : Leading) : Type 0 where
  pub behind : ℕ
  pub aim : ℕ
  pub idle : ℕ
  pub is : to ≡ lead_by r behind aim idle

module _ (l : Layout) (p q : Program) (same : p.dispatches ≡ q.dispatches) where
  plain_size : (i : PlainInstr) → widths (plain_template l p i) ≡ widths (plain_template l q i)
  plain_size (Copy to a) = refl
  plain_size (Compute c) = refl
  plain_size (Product to a b) = refl
  plain_size (DivideSteps r d a) = refl
  plain_size (Load Ram w to a) = refl
  plain_size (Load Flash w to a) = refl
  plain_size (Store w a from) = refl
  plain_size (ReadDevice to address) = refl
  plain_size (WriteDevice address a) = refl
  plain_size (Push w a) = refl
  plain_size (Pop w to) = refl
  plain_size (Find place to a) =
      finds_size l p.codes.code q.codes.code (cases_of (slice_get p.dispatches place)) (cases_of (slice_get q.dispatches place)) to a
      (ap (λ ds. cases_of (slice_get ds place)) same)
  plain_size (CodeOf m to) = copies_size l to (p.codes.code m) (q.codes.code m)
  plain_size (Stop code) = refl

  pub selected_size : (ws : List ℕ) (r : Reach) (b a d b' a' d' : ℕ) (i : Instr)
      → widths (selected l p ws (lead_by r b a d) i) ≡ widths (selected l q ws (lead_by r b' a' d') i)
  selected_size ws r b a d b' a' d' (Plain i) = plain_size i
  selected_size ws r b a d b' a' d' (When k at) =
      both_same (tests l k) (branch_code (told_by k.comparison) true (turn_by r b a)) (tests l k) (branch_code (told_by k.comparison) true (turn_by r b' a'))
      refl (turn_size (told_by k.comparison) true r b a b' a')
  selected_size ws r b a d b' a' d' (Unless k at) =
      both_same (tests l k) (branch_code (told_by k.comparison) false (turn_by r b a)) (tests l k) (branch_code (told_by k.comparison) false (turn_by r b' a'))
      refl (turn_size (told_by k.comparison) false r b a b' a')
  selected_size ws r b a d b' a' d' (Jump at) = hop_size r b a b' a'
  selected_size ws r b a d b' a' d' (Call k) =
      let back = call_back l ws k in let w = call_size k.callee r b a b' a' in
      both_same (call_front l k) (call_code (way_of k.callee (way_by r b a)) ∷ back) (call_front l k) (call_code (way_of k.callee (way_by r b' a')) ∷ back) refl
      (ap (λ n. n + widths back) w)
  selected_size ws r b a d b' a' d' (Return w v) = refl
  selected_size ws r b a d b' a' d' Idle = refl

  selected_less : (ws : List ℕ) (r : Reach) (b a d b' a' d' : ℕ) (i : Instr)
      → widths (selected l p ws (lead_by r b a d) i) ≤ widths (selected l q ws (lead_by Beyond b' a' d') i)
  selected_less ws r b a d b' a' d' (Plain i) = no_less _ _ (plain_size i)
  selected_less ws r b a d b' a' d' (When k at) =
      both_less (tests l k) (branch_code (told_by k.comparison) true (turn_by r b a)) (tests l k)
      (branch_code (told_by k.comparison) true (turn_by Beyond b' a')) (omega arith) (turn_less (told_by k.comparison) true r b a b' a')
  selected_less ws r b a d b' a' d' (Unless k at) =
      both_less (tests l k) (branch_code (told_by k.comparison) false (turn_by r b a)) (tests l k)
      (branch_code (told_by k.comparison) false (turn_by Beyond b' a')) (omega arith) (turn_less (told_by k.comparison) false r b a b' a')
  selected_less ws r b a d b' a' d' (Jump at) = hop_less r b a b' a'
  selected_less ws r b a d b' a' d' (Call k) =
      let back = call_back l ws k in let w = call_less k.callee r b a b' a' in
      both_less (call_front l k) (call_code (way_of k.callee (way_by r b a)) ∷ back) (call_front l k)
      (call_code (way_of k.callee (way_by Beyond b' a')) ∷ back) (omega arith) (omega (arith, w))
  selected_less ws r b a d b' a' d' (Return w v) = omega arith
  selected_less ws r b a d b' a' d' Idle = omega arith

  -- the code of the first instructions, so many, where each leads as far off
  pub upto_size : (f g : ℕ → Leading) (is : List Instr) (n : ℕ) → ((pc : ℕ) → pc < n → (r : Reach) × LeadsBy r (f pc) × LeadsBy r (g pc))
      → widths (code_upto l p f is n) ≡ widths (code_upto l q g is n)
  upto_size f g is zero h = refl
  upto_size f g is (suc n) h =
      both_same (code_upto l p f is n) (code_at l p f is n) (code_upto l q g is n) (code_at l q g is n)
      (upto_size f g is n (λ pc low. h pc (omega (arith, low)))) (let t = h n (omega arith) in each (slice_get is n) t.0 t.1 t.2)
    where
      each : (o : Option Instr) (r : Reach) → LeadsBy r (f n) → LeadsBy r (g n)
          → widths (code_of l p (waits_in [] is n) (f n) o) ≡ widths (code_of l q (waits_in [] is n) (g n) o)
      each None r x y = refl
      each (Some i) r x y =
          ap (λ to. widths (selected l p (waits_in [] is n) to i)) x.is
          ∙ selected_size (waits_in [] is n) r x.behind x.aim x.idle y.behind y.aim y.idle i
          ∙ ap (λ to. widths (selected l q (waits_in [] is n) to i)) (sym y.is)

  -- an instruction takes as many words at most as where it leads far off
  step_less : (f g : ℕ → Leading) (is : List Instr) (pc : ℕ) (r : Reach) → LeadsBy r (f pc) → LeadsBy Beyond (g pc)
      → widths (code_at l p f is pc) ≤ widths (code_at l q g is pc)
  step_less f g is pc r x y = each (slice_get is pc)
    where
      each : (o : Option Instr) → widths (code_of l p (waits_in [] is pc) (f pc) o) ≤ widths (code_of l q (waits_in [] is pc) (g pc) o)
      each None = omega arith
      each (Some i) =
          subst (λ to. widths (selected l p (waits_in [] is pc) to i) ≤ widths (selected l q (waits_in [] is pc) (g pc) i)) (sym x.is)
          (subst (λ to. widths (selected l p (waits_in [] is pc) (lead_by r x.behind x.aim x.idle) i) ≤ widths (selected l q (waits_in [] is pc) to i))
          (sym y.is) (selected_less (waits_in [] is pc) r x.behind x.aim x.idle y.behind y.aim y.idle i))

  pub upto_less : (f g : ℕ → Leading) (is : List Instr) (n : ℕ) → ((pc : ℕ) → pc < n → (r : Reach) × LeadsBy r (f pc) × LeadsBy Beyond (g pc))
      → widths (code_upto l p f is n) ≤ widths (code_upto l q g is n)
  upto_less f g is zero h = omega arith
  upto_less f g is (suc n) h =
      both_less (code_upto l p f is n) (code_at l p f is n) (code_upto l q g is n) (code_at l q g is n)
      (upto_less f g is n (λ pc low. h pc (omega (arith, low)))) (let t = h n (omega arith) in step_less f g is n t.0 t.1 t.2)

  -- and so do instructions that stand one behind the other
  pub between_less : (f g : ℕ → Leading) (is : List Instr) (n : ℕ)
      → ((pc : ℕ) → pc < n → (r : Reach) × LeadsBy r (f pc) × LeadsBy Beyond (g pc)) → (a d : ℕ) → a + d ≤ n
      → widths (code_upto l p f is (a + d)) + widths (code_upto l q g is a) ≤ widths (code_upto l q g is (a + d)) + widths (code_upto l p f is a)
  between_less f g is n h =
      apart_less (λ k. widths (code_upto l p f is k)) (λ k. widths (code_upto l q g is k)) n (λ k low.
      let t = h k low in let step = step_less f g is k t.0 t.1 t.2 in
      let u = widths-append (code_upto l p f is k) (code_at l p f is k) in
      let v = widths-append (code_upto l q g is k) (code_at l q g is k) in omega (arith, step, u, v))

-- ---- the same code, where the code numbers are the same as well

module _ (l : Layout) (p q : Program) (codes : p.codes.code ≡ q.codes.code) (same : p.dispatches ≡ q.dispatches) where
  plain_same : (i : PlainInstr) → plain_template l p i ≡ plain_template l q i
  plain_same (Copy to a) = refl
  plain_same (Compute c) = refl
  plain_same (Product to a b) = refl
  plain_same (DivideSteps r d a) = refl
  plain_same (Load Ram w to a) = refl
  plain_same (Load Flash w to a) = refl
  plain_same (Store w a from) = refl
  plain_same (ReadDevice to address) = refl
  plain_same (WriteDevice address a) = refl
  plain_same (Push w a) = refl
  plain_same (Pop w to) = refl
  plain_same (Find place to a) =
      ap (λ f. finds_procedure l f (cases_of (slice_get p.dispatches place)) to a) codes
      ∙ ap (λ ds. finds_procedure l q.codes.code (cases_of (slice_get ds place)) to a) same
  plain_same (CodeOf m to) = ap (λ (f : ℕ → ℕ). copies_whole l to (f m)) codes
  plain_same (Stop code) = refl

  pub selected_same : (ws : List ℕ) (to : Leading) (i : Instr) → selected l p ws to i ≡ selected l q ws to i
  selected_same ws to (Plain i) = plain_same i
  selected_same ws to (When t at) = refl
  selected_same ws to (Unless t at) = refl
  selected_same ws to (Jump at) = refl
  selected_same ws to (Call k) = refl
  selected_same ws to (Return w v) = refl
  selected_same ws to Idle = refl

  pub upto_same : (f g : ℕ → Leading) (is : List Instr) (n : ℕ) → ((pc : ℕ) → pc < n → f pc ≡ g pc) → code_upto l p f is n ≡ code_upto l q g is n
  upto_same f g is zero h = refl
  upto_same f g is (suc n) h =
      ap₂ (λ a b. a ++ b) (upto_same f g is n (λ pc low. h pc (omega (arith, low))))
      (ap (λ to. code_of l p (waits_in [] is n) to (slice_get is n)) (h n (omega arith)) ∙ each (slice_get is n))
    where
      each : (o : Option Instr) → code_of l p (waits_in [] is n) (g n) o ≡ code_of l q (waits_in [] is n) (g n) o
      each None = refl
      each (Some i) = selected_same (waits_in [] is n) (g n) i
