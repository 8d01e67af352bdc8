-- That a procedure of such a block, from where nothing waits to where nothing does, keeps what every procedure of linear code keeps.
use Rattle.std.specs.Prelude.{ℕ, zero, suc, ◌+◌, ◌-◌, ◌<◌, ◌≤◌, Bool, true, false, List, [], ◌∷◌, ◌++◌, length, drop, map, replicate, Option, Some, None, slice_get, if◌then◌else◌}
use Rattle.std.specs.List.{AllByRecursion}
use Rattle.std.proofs.Common.{◌≡◌, ◌⊎◌, inl, inr, refl, sym, ap, ◌∙◌, subst, arith}
use Rattle.std.proofs.lemmas.List.{length-append, length-map, length-replicate, append_assoc}
use Rattle.vg_firm.specs.Program.{Procedure as FirmProcedure}
use Rattle.vg_lin.specs.declared.instr.Operand.{Operand}
use Rattle.vg_lin.specs.declared.instr.Operand.TheVariants.{Local, Known}
use Rattle.vg_lin.specs.declared.instr.Test.{Test}
use Rattle.vg_lin.specs.declared.instr.Plain.{Plain as PlainInstr}
use Rattle.vg_lin.specs.declared.instr.Plain.TheVariants.{Copy, Compute, Product, DivideSteps, Load, Store, ReadDevice, WriteDevice, Push, Pop, Find, CodeOf, Stop}
use Rattle.vg_lin.specs.declared.instr.Passed.{Passed}
use Rattle.vg_lin.specs.declared.instr.Target.{Target}
use Rattle.vg_lin.specs.declared.instr.Call.{Call as Calling}
use Rattle.vg_lin.specs.declared.instr.Callee.{Callee}
use Rattle.vg_lin.specs.declared.instr.Callee.TheVariants.{Procedure as ByNumber, Code as ByCode}
use Rattle.vg_lin.specs.declared.instr.Instr.{Instr}
use Rattle.vg_lin.specs.declared.instr.Instr.TheVariants.{Plain, When, Unless, Jump, Call, Return, Idle}
use Rattle.vg_lin.specs.Meaning.{operands}
use Rattle.vg_lin.specs.Program.{Procedure}
use Rattle.vg_lin.specs.Sound.{IsWidth, IsOperand, IsPassed, IsTest, IsTo, IsCallee, IsPlain, AreOperands, behind_plain, behind, waits_in, PlainWaits, Waits, IsSound}
use Rattle.vg_lin.proofs.Scanned.{waits_marked}
use Rattle.vg_flatten_shapes.specs.declared.open.Truth.{Truth}
use Rattle.vg_flatten_shapes.specs.declared.open.Truth.TheVariants.{Holds, Fails}
use Rattle.vg_flatten_shapes.specs.declared.open.Open.{Open}
use Rattle.vg_flatten_shapes.specs.declared.open.Open.TheVariants.{Set, Break, Continue}
use Rattle.vg_flatten_shapes.proofs.Choices.{choice_cases}
use Rattle.vg_flatten_shapes.proofs.Temps.{some_is, none_is_not}
use Rattle.vg_flatten_shapes.specs.Blocks.{Block, Skip, One, CallTo, TakeInterrupt, GiveBack, BreakOut, GoOn, Both, Choice, Repeat, branch, closed, call_code, open_code, set_in}
use Rattle.vg_flatten.specs.Closing.{AllSet}
use Rattle.vg_flatten.specs.Flattened.{zeroes, receivers, with_receiver_width, own_widths, own_params, widened, wide_params, all_widths, result_width, whole}
use Rattle.vg_flatten.proofs.Sound.{IsIn, ArePassedIn, IsTestIn, IsTruthIn, IsPlainIn, IsToIn, IsCalleeIn}
use Rattle.vg_flatten.proofs.Whole.{own_long, all_long}
use Rattle.vg_flatten.proofs.PushedBlocks.{PlainOn, BlockOn}
use Rattle.vg_flatten.proofs.PushedWaits.{Marks, PlainHas, Has, AllHave, marks_front, have_both, ends, have}

-- ---- operands

abbrev pub AnyPlainIn : (size : ℕ) → PlainInstr → Type 0
AnyPlainIn size (Push w a) = (1 ≤ w) × (w ≤ 4) × IsIn size a
AnyPlainIn size (Pop w to) = (1 ≤ w) × (w ≤ 4) × (to < size)
AnyPlainIn size p = IsPlainIn size p

abbrev pub InstrIn : (given size : ℕ) → Open → Type 0
InstrIn given size (Set (Plain p)) = AnyPlainIn size p
InstrIn given size (Set (When t to)) = IsTestIn size t
InstrIn given size (Set (Unless t to)) = IsTestIn size t
InstrIn given size (Set (Call c)) = IsCalleeIn size c.callee × ArePassedIn size (operands c.registers) × IsToIn size c.to
InstrIn given size (Set (Return w a)) = (w ≡ given) × IsIn size a
InstrIn given size _ = Unit {0}

abbrev pub AllIn : (given size : ℕ) → List Open → Type 0
AllIn given size [] = Unit {0}
AllIn given size (o ∷ os) = InstrIn given size o × AllIn given size os

module _ (L : Type 0) (given size : ℕ) where
  in_both : (os qs : List Open) → AllIn given size os → AllIn given size qs → AllIn given size (os ++ qs)
  in_both [] qs h g = g
  in_both (o ∷ os) qs h g = (h.0, in_both os qs h.1 g)

  in_closed : (u v : ℕ) (os : List Open) → AllIn given size os → AllIn given size (map (closed u v) os)
  in_closed u v [] h = tt
  in_closed u v (Set i ∷ os) h = (h.0, in_closed u v os h.1)
  in_closed u v (Break ∷ os) h = (tt, in_closed u v os h.1)
  in_closed u v (Continue ∷ os) h = (tt, in_closed u v os h.1)

  in_branch : (t : Truth) (to : ℕ) → IsTruthIn size t → InstrIn given size (Set (branch t to))
  in_branch (Holds t) to h = h
  in_branch (Fails t) to h = h

  in_plain : (n m : ℕ) (p : PlainInstr) → PlainOn size n m p → AnyPlainIn size p
  in_plain n m (Copy to a) h = h.0
  in_plain n m (Compute c) h = h.0
  in_plain n m (Product to a b) h = h.0
  in_plain n m (DivideSteps a b c) h = h.0
  in_plain n m (Load x w to a) h = h.0
  in_plain n m (Store w a from) h = h.0
  in_plain n m (ReadDevice to a) h = h.0
  in_plain n m (WriteDevice a b) h = h.0
  in_plain n m (Push w a) h = let e = h.0 in (omega (arith, e), omega (arith, e), h.1)
  in_plain n m (Pop w to) h = let e = h.0 in (omega (arith, e), omega (arith, e), h.1)
  in_plain n m (Find d to a) h = h.0
  in_plain n m (CodeOf q to) h = h.0
  in_plain n m (Stop c) h = h.0

  in_call : (pushed : List Passed) (c : Calling) → ArePassedIn size pushed → IsCalleeIn size c.callee → ArePassedIn size (operands c.registers)
      → IsToIn size c.to → AllIn given size (call_code pushed c)
  in_call [] c h hc hr ht = ((hc, hr, ht), tt)
  in_call (a ∷ more) c h hc hr ht = (h.0, in_call more c h.1 hc hr ht)

  pub in_code : (b : Block) (n m at : ℕ) → BlockOn L given size n m b → AllIn given size (open_code b at)
  in_code Skip n m at h = tt
  in_code (One p) n m at h = (in_plain n m p h, tt)
  in_code (CallTo pushed c) n m at h = in_call pushed c h.2 h.3 h.4 h.5
  in_code TakeInterrupt n m at h = (tt, tt)
  in_code (GiveBack w a) n m at h = ((h.2, h.3), tt)
  in_code BreakOut n m at h = (tt, tt)
  in_code GoOn n m at h = (tt, tt)
  in_code (Both a b) n m at h = in_both (open_code a at) _ (in_code a n h.0 at h.1) (in_code b h.0 m _ h.2)
  in_code (Choice t a b) n m at h =
      choice_cases (AllIn given size) t at (open_code a (at + 1)) (open_code b (at + 1 + length (open_code a (at + 1)) + 1))
      (λ e. (in_branch t _ h.0, in_code a n n (at + 1) h.2))
      (in_branch t _ h.0, in_both (open_code a (at + 1)) _ (in_code a n n (at + 1) h.2) (tt, in_code b n n _ h.3))
  in_code (Repeat p t body next) n m at h =
      in_both xs behind_test (in_code p 0 0 at h.2) (
        in_branch t e h.0,
        in_both (map (closed e c) ys) behind_body (in_closed e c ys (in_code body 0 0 u h.3))
            (in_both zs (Set (Jump at) ∷ []) (in_code next 0 0 c h.4) (tt, tt)),
      )
    where
      xs : List Open
      xs = open_code p at

      u : ℕ
      u = at + length xs + 1

      ys : List Open
      ys = open_code body u

      c : ℕ
      c = u + length ys

      zs : List Open
      zs = open_code next c

      e : ℕ
      e = c + length zs + 1

      behind_body : List Open
      behind_body = zs ++ (Set (Jump at) ∷ [])

      behind_test : List Open
      behind_test = Set (branch t e) ∷ (map (closed e c) ys ++ behind_body)

pub on_zeroes : (L : Type 0) (given size c i : ℕ) → i + c ≤ size → BlockOn L given size 0 0 (zeroes c i)
on_zeroes L given size zero i h = refl
on_zeroes L given size (suc c) i h = (0, ((omega (arith, h), tt), refl), on_zeroes L given size c (suc i) (omega (arith, h)))

-- ---- by place

in_at : (given size : ℕ) (os : List Open) (j : ℕ) (o : Open) → AllIn given size os → slice_get os j ≡ Some o → InstrIn given size o
in_at given size [] j o h e = none_is_not o e
in_at given size (q ∷ os) zero o h e = subst (λ z. InstrIn given size z) (some_is q o e) h.0
in_at given size (q ∷ os) (suc j) o h e = in_at given size os j o h.1 e

has_at : (w : ℕ → List ℕ) (high : ℕ) (os : List Open) (at j : ℕ) (o : Open) → AllHave w high os at → slice_get os j ≡ Some o → Has w high (at + j) o
has_at w high [] at j o h e = none_is_not o e
has_at w high (q ∷ os) at zero o h e = subst (λ z. Has w high z o) (omega arith) (subst (λ z. Has w high at z) (some_is q o e) h.0)
has_at w high (q ∷ os) at (suc j) o h e = subst (λ z. Has w high z o) (omega arith) (has_at w high os (suc at) j o h.1 e)

set_at : (x y : ℕ) (os : List Open) (j : ℕ) (i : Instr) → AllSet os → slice_get (map (set_in x y) os) j ≡ Some i → slice_get os j ≡ Some (Set i)
set_at x y [] j i h e = none_is_not i e
set_at x y (Set q ∷ os) zero i h e = ap (λ z. Some (Set z)) (some_is q i e)
set_at x y (Break ∷ os) zero i h e = absurd h.0
set_at x y (Continue ∷ os) zero i h e = absurd h.0
set_at x y (q ∷ os) (suc j) i h e = set_at x y os j i h.1 e

-- the scan of the instructions is right behind each of them
marks_of : (w : ℕ → List ℕ) (os : List Open) (at : ℕ) → AllSet os
    → ((j : ℕ) (i : Instr) → slice_get (map (set_in 0 0) os) j ≡ Some i → w (suc (at + j)) ≡ behind i (w (at + j))) → Marks w os at
marks_of w [] at h k = tt
marks_of w (Break ∷ os) at h k = absurd h.0
marks_of w (Continue ∷ os) at h k = absurd h.0
marks_of w (Set i ∷ os) at h k = (
  subst (λ z. w (suc z) ≡ behind i (w z)) (omega arith) (k 0 i refl),
  marks_of w os (suc at) h.1 (λ j x e. subst (λ z. w (suc z) ≡ behind x (w z)) (omega arith) (k (suc j) x e)),
)

before_last : (os : List Open) (q o : Open) (j : ℕ) → slice_get (os ++ q ∷ []) j ≡ Some o → (j < length os) ⊎ (q ≡ o)
before_last [] q o zero e = inr (some_is q o e)
before_last [] q o (suc j) e = none_is_not o e
before_last (p ∷ os) q o zero e = inl (omega arith)
before_last (p ∷ os) q o (suc j) e = onward (before_last os q o j e)
  where
    onward : (j < length os) ⊎ (q ≡ o) → (suc j < length (p ∷ os)) ⊎ (q ≡ o)
    onward (inl lt) = inl (omega (arith, lt))
    onward (inr e1) = inr e1

-- ---- the procedure

with_temps : (widths : List ℕ) (n : ℕ) → AllByRecursion IsWidth widths → AllByRecursion IsWidth (widths ++ replicate n 4)
with_temps [] zero h = tt
with_temps [] (suc n) h = ((omega arith, omega arith), with_temps [] n tt)
with_temps (w ∷ ws) n h = (h.0, with_temps ws n h.1)

widened_widths : (n : ℕ) (widths : List ℕ) → AllByRecursion IsWidth widths → AllByRecursion IsWidth (widened n widths)
widened_widths zero ws h = h
widened_widths (suc n) [] h = tt
widened_widths (suc n) (w ∷ ws) h = ((omega arith, omega arith), widened_widths n ws h.1)

receiver_widths : (b : Bool) (widths : List ℕ) → AllByRecursion IsWidth widths → AllByRecursion IsWidth (with_receiver_width b widths)
receiver_widths true ws h = ((omega arith, omega arith), h)
receiver_widths false ws h = h

module _ (p : Procedure) where
  operand_in : (h : Operand) → IsIn (length p.widths) h → IsOperand p h
  operand_in (Local i) h = h
  operand_in (Known v) h = tt

  passed_in : (xs : List Passed) → ArePassedIn (length p.widths) xs → AllByRecursion (IsPassed p) xs
  passed_in [] h = tt
  passed_in (a ∷ xs) h = (((h.0.0, h.0.1), operand_in a.value h.0.2), passed_in xs h.1)

  test_in : (t : Test) → IsTestIn (length p.widths) t → IsTest p t
  test_in t h = ((h.0, h.1), operand_in t.left h.2, operand_in t.right h.3)

  to_in : (o : Option Target) → IsToIn (length p.widths) o → IsTo p o
  to_in (Some to) h = h
  to_in None h = tt

  callee_in : (q : Callee) → IsCalleeIn (length p.widths) q → IsCallee p q
  callee_in (ByNumber q) h = tt
  callee_in (ByCode a) h = operand_in a h

  plain_in : (i : PlainInstr) → AnyPlainIn (length p.widths) i → IsPlain p i
  plain_in (Copy to a) h = (h.0, operand_in a h.1)
  plain_in (Compute c) h = ((h.0, h.1), h.2, operand_in c.left h.3, operand_in c.right h.4)
  plain_in (ReadDevice to address) h = h
  plain_in (WriteDevice address a) h = operand_in a h
  plain_in (Product to a b) h = absurd h
  plain_in (DivideSteps a b c) h = absurd h
  plain_in (Load m w to a) h = ((h.0, h.1), h.2, operand_in a.index h.3)
  plain_in (Store w a from) h = ((h.0, h.1), operand_in a.index h.2, operand_in from h.3)
  plain_in (Push w a) h = ((h.0, h.1), operand_in a h.2)
  plain_in (Pop w to) h = ((h.0, h.1), h.2)
  plain_in (Find d to a) h = (h.0, operand_in a h.1)
  plain_in (CodeOf q to) h = h
  plain_in (Stop code) h = tt

  instr_in : (i : Instr) → InstrIn p.result (length p.widths) (Set i) → AreOperands p i
  instr_in (Plain i) h = plain_in i h
  instr_in (When t to) h = test_in t h
  instr_in (Unless t to) h = test_in t h
  instr_in (Jump to) h = tt
  instr_in (Call c) h = (callee_in c.callee h.0, passed_in (operands c.registers) h.1, to_in c.to h.2)
  instr_in (Return w a) h = (h.0, operand_in a h.1)
  instr_in Idle h = tt

  abbrev IsReturn : Instr → Type 0
  IsReturn (Return w a) = Unit {0}
  IsReturn i = ⊥

  next : (i : Instr) (at : ℕ) → (IsReturn i → ⊥) → (suc at < length p.code) ⊎ (Return p.result (Known 0) ≡ i) → suc at < length p.code
  next i at no' (inl lt) = lt
  next i at no' (inr e) = absurd (no' (subst IsReturn e tt))

  -- where the next instruction is, and what waits there
  plain_waits : (w : ℕ → List ℕ) (i : PlainInstr) (at : ℕ) → PlainHas w at i → w (suc at) ≡ behind_plain i (w at)
      → (suc at < length p.code) ⊎ (Return p.result (Known 0) ≡ Plain i) → PlainWaits p w at i
  plain_waits w (Copy to a) at f k n = (next (Plain (Copy to a)) at (λ e. e) n, k)
  plain_waits w (Compute c) at f k n = (next (Plain (Compute c)) at (λ e. e) n, k)
  plain_waits w (ReadDevice to address) at f k n = (next (Plain (ReadDevice to address)) at (λ e. e) n, k)
  plain_waits w (WriteDevice address a) at f k n = (next (Plain (WriteDevice address a)) at (λ e. e) n, k)
  plain_waits w (Product to a b) at f k n = (next (Plain (Product to a b)) at (λ e. e) n, k)
  plain_waits w (DivideSteps a b c) at f k n = (next (Plain (DivideSteps a b c)) at (λ e. e) n, k)
  plain_waits w (Load m v to a) at f k n = (next (Plain (Load m v to a)) at (λ e. e) n, k)
  plain_waits w (Store v a from) at f k n = (next (Plain (Store v a from)) at (λ e. e) n, k)
  plain_waits w (Push v a) at f k n = (next (Plain (Push v a)) at (λ e. e) n, k)
  plain_waits w (Pop v to) at f k n = (f.0, f.1, (next (Plain (Pop v to)) at (λ e. e) n, k ∙ ap (drop 1) f.1))
  plain_waits w (Find d to a) at f k n = (next (Plain (Find d to a)) at (λ e. e) n, k)
  plain_waits w (CodeOf q to) at f k n = (next (Plain (CodeOf q to)) at (λ e. e) n, k)
  plain_waits w (Stop code) at f k n = tt

  waits_for : (w : ℕ → List ℕ) (i : Instr) (at high : ℕ) → high < length p.code → Has w high at (Set i) → w (suc at) ≡ behind i (w at)
      → (suc at < length p.code) ⊎ (Return p.result (Known 0) ≡ i) → Waits p w at i
  waits_for w (Plain i) at high hl f k n = plain_waits w i at f k n
  waits_for w (When t to) at high hl f k n = let le = f.1 in ((f.0, (omega (arith, le, hl), f.2)), (next (When t to) at (λ e. e) n, k))
  waits_for w (Unless t to) at high hl f k n = let le = f.1 in ((f.0, (omega (arith, le, hl), f.2)), (next (Unless t to) at (λ e. e) n, k))
  waits_for w (Jump to) at high hl f k n = let le = f.1 in (f.0, (omega (arith, le, hl), f.2))
  waits_for w (Call c) at high hl f k n = (f, (next (Call c) at (λ e. e) n, k))
  waits_for w (Return r a) at high hl f k n = f
  waits_for w Idle at high hl f k n = (next Idle at (λ e. e) n, k)

-- A procedure of a block from where nothing waits to where nothing does.
pub whole_sound : (m : FirmProcedure) (b : Block) (temps : ℕ) (method : Option ℕ) (code : List Instr) → m.params ≤ length m.widths
    → AllByRecursion IsWidth m.widths → m.result ≤ 4 → length (own_widths m) + temps ≤ 252
    → BlockOn (Unit {0}) (result_width m) (length (own_widths m) + temps) 0 0 b
    → AllSet (open_code (whole m b) 0) → code ≡ map (set_in 0 0) (open_code (whole m b) 0)
    → IsSound (record { method = method; params = own_params m; result = result_width m; widths = all_widths m ++ replicate temps 4; code = code })
whole_sound m b temps method code hp hw hr few hb set is =
    record {
      few = omega (arith, few, size_is);
      params = omega (arith, hp, size_is, own);
      result = small m.receives;
      widths = with_temps (all_widths m) temps (receiver_widths m.receives (widened (wide_params m) m.widths) (widened_widths (wide_params m) m.widths hw));
      operands = λ at i e. instr_in p i (instr_at at i e);
      begins = (omega (arith, code_is), refl);
      goes_on = λ at i e. waits_for p w i at (length front) (omega (arith, code_is)) (has_it at i e) (waits_marked [] code at i e)
          (behind_it at i (before_last front last (Set i) at (place at i e)));
    }
  where
    p : Procedure
    p = record { method = method; params = own_params m; result = result_width m; widths = all_widths m ++ replicate temps 4; code = code }

    w : ℕ → List ℕ
    w = waits_in [] code

    size : ℕ
    size = length (own_widths m) + temps

    small : (b : Bool) → (if b then 4 else m.result) ≤ 4
    small true = omega arith
    small false = hr

    own : length (own_widths m) ≡ receivers m.receives + length m.widths
    own = own_long m.receives m.widths

    size_is : length (all_widths m ++ replicate temps 4) ≡ length (own_widths m) + temps
    size_is =
        length-append (all_widths m) (replicate temps 4) ∙ ap (λ z. length (all_widths m) + z) (length-replicate temps 4)
        ∙ ap (λ z. z + temps) (all_long m)

    body : Block
    body = Both (zeroes (length m.widths - m.params) (own_params m)) b

    front : List Open
    front = open_code body 0

    last : Open
    last = Set (Return (result_width m) (Known 0))

    os : List Open
    os = front ++ last ∷ []

    shape : open_code (whole m b) 0 ≡ os
    shape = sym (append_assoc (open_code (zeroes (length m.widths - m.params) (own_params m)) 0)
        (open_code b (0 + length (open_code (zeroes (length m.widths - m.params) (own_params m)) 0))) (last ∷ []))

    all_set : AllSet os
    all_set = subst AllSet shape set

    code_of : code ≡ map (set_in 0 0) os
    code_of = is ∙ ap (map (set_in 0 0)) shape

    code_is : length code ≡ length front + 1
    code_is = ap length code_of ∙ length-map os (set_in 0 0) ∙ length-append front (last ∷ [])

    body_on : BlockOn (Unit {0}) (result_width m) size 0 0 body
    body_on = (0, on_zeroes (Unit {0}) (result_width m) size (length m.widths - m.params) (own_params m) (omega (arith, hp, own)), hb)

    marks : Marks w os 0
    marks = marks_of w os 0 all_set (λ j i e. subst (λ z. w (suc z) ≡ behind i (w z)) (omega arith) (waits_marked [] code j i (ap (λ z. slice_get z j) code_of ∙ e)))

    front_marks : Marks w front 0
    front_marks = marks_front (Unit {0}) (result_width m) size w (length front) front (last ∷ []) 0 marks

    none_last : w (0 + length front) ≡ []
    none_last = ends (Unit {0}) (result_width m) size w (length front) body 0 0 0 body_on refl front_marks

    all_have : AllHave w (length front) os 0
    all_have =
        have_both (Unit {0}) (result_width m) size w (length front) front (last ∷ []) 0
        (have (Unit {0}) (result_width m) size w (length front) body 0 0 0 body_on refl front_marks (omega arith)) (none_last, tt)

    place : (at : ℕ) (i : Instr) → slice_get code at ≡ Some i → slice_get os at ≡ Some (Set i)
    place at i e = set_at 0 0 os at i all_set (sym (ap (λ z. slice_get z at) code_of) ∙ e)

    all_in : AllIn (result_width m) size os
    all_in =
        in_both (Unit {0}) (result_width m) size front (last ∷ []) (in_code (Unit {0}) (result_width m) size body 0 0 0 body_on) ((refl, tt), tt)

    instr_at : (at : ℕ) (i : Instr) → slice_get code at ≡ Some i → InstrIn (result_width m) (length p.widths) (Set i)
    instr_at at i e = subst (λ z. InstrIn (result_width m) z (Set i)) (sym size_is) (in_at (result_width m) size os at (Set i) all_in (place at i e))

    has_it : (at : ℕ) (i : Instr) → slice_get code at ≡ Some i → Has w (length front) at (Set i)
    has_it at i e = subst (λ z. Has w (length front) z (Set i)) (omega arith) (has_at w (length front) os 0 at (Set i) all_have (place at i e))

    behind_it : (at : ℕ) (i : Instr) → (at < length front) ⊎ (last ≡ Set i) → (suc at < length code) ⊎ (Return (result_width m) (Known 0) ≡ i)
    behind_it at i (inl lt) = inl (omega (arith, lt, code_is))
    behind_it at i (inr e) = inr (ap (set_in 0 0) e)
