-- How many bytes are kept at the instructions of code at most: those of the values of four bytes that blocks push, so many of them at most. What a call takes
-- is not counted: its arguments are pushed in a row before it.
use Rattle.std.specs.Prelude.{ℕ, zero, suc, ◌+◌, ◌-◌, ◌*◌, ◌≤◌, List, [], ◌∷◌, ◌++◌, length, map, drop, replicate}
use Rattle.std.specs.List.{AllByRecursion}
use Rattle.std.proofs.Common.{◌≡◌, refl, sym, ap, ◌∙◌, subst, arith}
use Rattle.vg_lin.specs.declared.instr.Passed.{Passed}
use Rattle.vg_lin.specs.declared.instr.Call.{Call as Calling}
use Rattle.vg_lin.specs.declared.instr.Plain.{Plain as PlainInstr}
use Rattle.vg_lin.specs.declared.instr.Plain.TheVariants.{Copy, Compute, Product, DivideSteps, Load, Store, ReadDevice, WriteDevice}
use Rattle.vg_lin.specs.declared.instr.Plain.TheVariants.{Push, Pop, Find, CodeOf, Stop}
use Rattle.vg_lin.specs.declared.instr.Instr.{Instr}
use Rattle.vg_lin.specs.declared.instr.Instr.TheVariants.{Plain, When, Unless, Jump, Call, Return, Idle}
use Rattle.vg_lin.specs.Sound.{behind}
use Rattle.vg_expand.specs.Code.{Base, computing, expanded_at, expanded_code}
use Rattle.vg_flatten_shapes.specs.declared.open.Open.{Open}
use Rattle.vg_flatten_shapes.specs.declared.open.Open.TheVariants.{Set, Break as Breaking, Continue as Continuing}
use Rattle.vg_flatten_shapes.specs.declared.open.Truth.{Truth}
use Rattle.vg_flatten_shapes.specs.declared.open.Truth.TheVariants.{Holds, Fails}
use Rattle.vg_flatten_shapes.specs.Blocks.{Block, Skip, One, CallTo, TakeInterrupt, GiveBack, BreakOut, GoOn, Both, Choice, Repeat}
use Rattle.vg_flatten_shapes.specs.Blocks.{branch, closed, call_code, open_code, set_in}
use Rattle.vg_flatten_shapes.proofs.Choices.{choice_cases}
use Rattle.vg_firm.specs.Program.{Procedure as FirmProcedure}
use Rattle.vg_flatten.specs.Flattened.{zeroes, own_params, whole}
use Rattle.vg_flatten.proofs.Sound.{IsPlainIn, BlockIn}
use Rattle.vg_frame_costs.specs.Bytes.{bytes_of, kept_at, most_kept}
use Rattle.vg_flat_frames.proofs.Expanding.{HoldsOfArithmetic, each_computing}
use Rattle.vg_flat_frames.proofs.Widths.{fours}

-- ---- instructions

-- At most so many bytes are kept at each of them, where values of these widths wait before the first.
abbrev pub KeepsFew : (most : ℕ) (waits : List ℕ) → List Instr → Type 0
KeepsFew k ws [] = Unit {0}
KeepsFew k ws (i ∷ is) = (kept_at ws i ≤ k) × KeepsFew k (behind i ws) is

pub few_is_most : (k : ℕ) (ws : List ℕ) (is : List Instr) → KeepsFew k ws is → most_kept ws is ≤ k
few_is_most k ws [] h = omega arith
few_is_most k ws (i ∷ is) (e, h) = let rest = few_is_most k (behind i ws) is h in omega (arith, e, rest)

-- What waits before it waits on behind it: it pushes nothing and takes nothing.
abbrev IsStill : Instr → Type 0
IsStill (Plain (Push w a)) = ⊥
IsStill (Plain (Pop w to)) = ⊥
IsStill (Call c) = c.pushed ≡ 0
IsStill i = Unit {0}

still : (Q : List ℕ → Type 0) (ws : List ℕ) (i : Instr) → IsStill i → Q ws → Q (behind i ws)
still Q ws (Plain (Copy to a)) s h = h
still Q ws (Plain (Compute c)) s h = h
still Q ws (Plain (Product to a b)) s h = h
still Q ws (Plain (DivideSteps r d a)) s h = h
still Q ws (Plain (Load m w to a)) s h = h
still Q ws (Plain (Store w a from)) s h = h
still Q ws (Plain (ReadDevice to address)) s h = h
still Q ws (Plain (WriteDevice address a)) s h = h
still Q ws (Plain (Push w a)) s h = absurd s
still Q ws (Plain (Pop w to)) s h = absurd s
still Q ws (Plain (Find d to a)) s h = h
still Q ws (Plain (CodeOf q to)) s h = h
still Q ws (Plain (Stop code)) s h = h
still Q ws (When t to) s h = h
still Q ws (Unless t to) s h = h
still Q ws (Jump to) s h = h
still Q ws (Call c) s h = subst (λ n. Q (drop n ws)) (sym s) h
still Q ws (Return w a) s h = h
still Q ws Idle s h = h

still_kept : (ws : List ℕ) (i : Instr) → IsStill i → kept_at ws i ≡ bytes_of ws
still_kept ws (Plain (Copy to a)) s = refl
still_kept ws (Plain (Compute c)) s = refl
still_kept ws (Plain (Product to a b)) s = refl
still_kept ws (Plain (DivideSteps r d a)) s = refl
still_kept ws (Plain (Load m w to a)) s = refl
still_kept ws (Plain (Store w a from)) s = refl
still_kept ws (Plain (ReadDevice to address)) s = refl
still_kept ws (Plain (WriteDevice address a)) s = refl
still_kept ws (Plain (Push w a)) s = absurd s
still_kept ws (Plain (Pop w to)) s = absurd s
still_kept ws (Plain (Find d to a)) s = refl
still_kept ws (Plain (CodeOf q to)) s = refl
still_kept ws (Plain (Stop code)) s = refl
still_kept ws (When t to) s = refl
still_kept ws (Unless t to) s = refl
still_kept ws (Jump to) s = refl
still_kept ws (Call c) s = ap (λ n. bytes_of (drop n ws)) s
still_kept ws (Return w a) s = refl
still_kept ws Idle s = refl

still_arithmetic : (first : ℕ) → HoldsOfArithmetic IsStill first
still_arithmetic first =
    record { copies = λ to a. tt; computes = λ c. tt; products = λ to a b. tt; routines = λ q rs to le. refl }

-- ---- expanded code

module _ (k : ℕ) where
  still_then : (is js : List Instr) (ws : List ℕ) → bytes_of ws ≤ k → AllByRecursion IsStill is → KeepsFew k ws js → KeepsFew k ws (is ++ js)
  still_then [] js ws e h g = g
  still_then (i ∷ is) js ws e (s, h) g = (
    (let same = still_kept ws i s in omega (arith, same, e)),
    still (λ vs. KeepsFew k vs (is ++ js)) ws i s (still_then is js ws e h g),
  )

module _ (k : ℕ) (base : Base) (place : ℕ → ℕ) where
  plain_few : (ws : List ℕ) (p : PlainInstr) (js : List Instr) → kept_at ws (Plain p) ≤ k → KeepsFew k (behind (Plain p) ws) js
      → KeepsFew k ws (expanded_at base place (Plain p) ++ js)
  plain_few ws (Compute c) js e h =
      still_then k (computing base c c.operator) js ws e (each_computing IsStill base (still_arithmetic base.first) c c.operator) h
  plain_few ws (Copy to a) js e h = (e, h)
  plain_few ws (Product to a b) js e h = (e, h)
  plain_few ws (DivideSteps r d a) js e h = (e, h)
  plain_few ws (Load m w to a) js e h = (e, h)
  plain_few ws (Store w a from) js e h = (e, h)
  plain_few ws (ReadDevice to address) js e h = (e, h)
  plain_few ws (WriteDevice address a) js e h = (e, h)
  plain_few ws (Push w a) js e h = (e, h)
  plain_few ws (Pop w to) js e h = (e, h)
  plain_few ws (Find d to a) js e h = (e, h)
  plain_few ws (CodeOf q to) js e h = (e, h)
  plain_few ws (Stop code) js e h = (e, h)

  instr_few : (ws : List ℕ) (i : Instr) (js : List Instr) → kept_at ws i ≤ k → KeepsFew k (behind i ws) js → KeepsFew k ws (expanded_at base place i ++ js)
  instr_few ws (Plain p) js e h = plain_few ws p js e h
  instr_few ws (When t to) js e h = (e, h)
  instr_few ws (Unless t to) js e h = (e, h)
  instr_few ws (Jump to) js e h = (e, h)
  instr_few ws (Call c) js e h = (e, h)
  instr_few ws (Return w a) js e h = (e, h)
  instr_few ws Idle js e h = (e, h)

  -- where few are kept at each instruction, few are where arithmetic is expanded
  pub expanded_few : (ws : List ℕ) (is : List Instr) → KeepsFew k ws is → KeepsFew k ws (expanded_code base place is)
  expanded_few ws [] h = h
  expanded_few ws (i ∷ is) (e, h) = instr_few ws i (expanded_code base place is) e (expanded_few (behind i ws) is h)

-- ---- instructions whose places may still be open

module _ (k : ℕ) where
  -- The same of them; and values of the other widths wait behind the last.
  abbrev pub OpenFew : (waits : List ℕ) → List Open → (behind : List ℕ) → Type 0
  OpenFew ws [] vs = ws ≡ vs
  OpenFew ws (Set i ∷ os) vs = (kept_at ws i ≤ k) × OpenFew (behind i ws) os vs
  OpenFew ws (Breaking ∷ os) vs = (bytes_of ws ≤ k) × OpenFew ws os vs
  OpenFew ws (Continuing ∷ os) vs = (bytes_of ws ≤ k) × OpenFew ws os vs

  both : (ws us vs : List ℕ) (os qs : List Open) → OpenFew ws os us → OpenFew us qs vs → OpenFew ws (os ++ qs) vs
  both ws us vs [] qs e g = subst (λ z. OpenFew z qs vs) (sym e) g
  both ws us vs (Set i ∷ os) qs (e, h) g = (e, both (behind i ws) us vs os qs h g)
  both ws us vs (Breaking ∷ os) qs (e, h) g = (e, both ws us vs os qs h g)
  both ws us vs (Continuing ∷ os) qs (e, h) g = (e, both ws us vs os qs h g)

  close : (u v : ℕ) (ws vs : List ℕ) (os : List Open) → OpenFew ws os vs → OpenFew ws (map (closed u v) os) vs
  close u v ws vs [] e = e
  close u v ws vs (Set i ∷ os) (e, h) = (e, close u v (behind i ws) vs os h)
  close u v ws vs (Breaking ∷ os) (e, h) = (e, close u v ws vs os h)
  close u v ws vs (Continuing ∷ os) (e, h) = (e, close u v ws vs os h)

  pub set_few : (u v : ℕ) (ws vs : List ℕ) (os : List Open) → OpenFew ws os vs → KeepsFew k ws (map (set_in u v) os)
  set_few u v ws vs [] e = tt
  set_few u v ws vs (Set i ∷ os) (e, h) = (e, set_few u v (behind i ws) vs os h)
  set_few u v ws vs (Breaking ∷ os) (e, h) = (e, set_few u v ws vs os h)
  set_few u v ws vs (Continuing ∷ os) (e, h) = (e, set_few u v ws vs os h)

  branched : (t : Truth) (to : ℕ) (ws vs : List ℕ) (os : List Open) → bytes_of ws ≤ k → OpenFew ws os vs → OpenFew ws (Set (branch t to) ∷ os) vs
  branched (Holds t) to ws vs os e h = (e, h)
  branched (Fails t) to ws vs os e h = (e, h)

  -- the values of the row wait above the others, and the call takes them all
  calling : (pushed : List Passed) (c : Calling) (j : ℕ) (ws vs : List ℕ) → j + length pushed ≡ c.pushed → drop j ws ≡ vs → bytes_of vs ≤ k
      → OpenFew ws (call_code pushed c) vs
  calling [] c j ws vs n e le =
      let same : drop c.pushed ws ≡ vs = let all : c.pushed ≡ j = omega (arith, n) in ap (λ z. drop z ws) all ∙ e in
      ((let bytes = ap bytes_of same in omega (arith, bytes, le)), same)
  calling (a ∷ more) c j ws vs n e le = (omega arith, calling more c (suc j) (a.width ∷ ws) vs (omega (arith, n)) e le)

-- ---- blocks

-- An instruction that pushes a value of four bytes, pops one, or does neither.
abbrev PlainPushes : (most before behind : ℕ) → PlainInstr → Type 0
PlainPushes most n m (Push w a) = (w ≡ 4) × (m ≡ suc n) × (m ≤ most)
PlainPushes most n m (Pop w to) = n ≡ suc m
PlainPushes most n m p = n ≡ m

-- So many values of four bytes are pushed before a block, and so many behind it, and at each push in it there are no more than the most. Behind each way of a
-- choice, and around a loop, there are as many as before.
abbrev pub Pushes : (most before behind : ℕ) → Block → Type 0
Pushes most n m (One p) = PlainPushes most n m p
Pushes most n m (CallTo pushed c) = (c.pushed ≡ length pushed) × (n ≡ m)
Pushes most n m (Both a b) = (l : ℕ) × Pushes most n l a × Pushes most l m b
Pushes most n m (Choice t a b) = (n ≡ m) × Pushes most n n a × Pushes most n n b
Pushes most n m (Repeat p t a b) = (n ≡ m) × Pushes most n n p × Pushes most n n a × Pushes most n n b
Pushes most n m b = n ≡ m

-- A block that pushes for its calls alone may stand above any number of values.
module _ (L : Type 0) (given size most n : ℕ) where
  plain_pushes : (p : PlainInstr) → IsPlainIn size p → PlainPushes most n n p
  plain_pushes (Copy to a) h = refl
  plain_pushes (Compute c) h = refl
  plain_pushes (Product to a b) h = refl
  plain_pushes (DivideSteps r d a) h = refl
  plain_pushes (Load m w to a) h = refl
  plain_pushes (Store w a from) h = refl
  plain_pushes (ReadDevice to address) h = refl
  plain_pushes (WriteDevice address a) h = refl
  plain_pushes (Push w a) h = absurd h
  plain_pushes (Pop w to) h = absurd h
  plain_pushes (Find d to a) h = refl
  plain_pushes (CodeOf q to) h = refl
  plain_pushes (Stop code) h = refl

  pub block_pushes : (b : Block) → BlockIn L given size b → Pushes most n n b
  block_pushes Skip h = refl
  block_pushes (One p) h = plain_pushes p h
  block_pushes (CallTo pushed c) h = (h.0, refl)
  block_pushes TakeInterrupt h = refl
  block_pushes (GiveBack w a) h = refl
  block_pushes BreakOut h = refl
  block_pushes GoOn h = refl
  block_pushes (Both a b) (h, g) = (n, block_pushes a h, block_pushes b g)
  block_pushes (Choice t a b) (ht, h, g) = (refl, block_pushes a h, block_pushes b g)
  block_pushes (Repeat p t body next) (ht, h, g, i, l) = (refl, block_pushes p h, block_pushes body g, block_pushes next i)

-- ---- what is kept in them

-- the widths of so many values of four bytes
abbrev held : ℕ → List ℕ
held n = replicate n 4

module _ (most : ℕ) where
  abbrev Few : (before : ℕ) → List Open → (behind : ℕ) → Type 0
  Few n os m = OpenFew (4 * most) (held n) os (held m)

  few : (n : ℕ) → n ≤ most → bytes_of (held n) ≤ 4 * most
  few n le = let bytes = fours n in omega (arith, bytes, le)

  as_many : (n m : ℕ) → n ≡ m → held n ≡ held m
  as_many n m e = ap held e

  one : (n m : ℕ) (p : PlainInstr) → n ≤ most → PlainPushes most n m p → Few n (Set (Plain p) ∷ []) m
  one n m (Copy to a) le h = (few n le, as_many n m h)
  one n m (Compute c) le h = (few n le, as_many n m h)
  one n m (Product to a b) le h = (few n le, as_many n m h)
  one n m (DivideSteps r d a) le h = (few n le, as_many n m h)
  one n m (Load x w to a) le h = (few n le, as_many n m h)
  one n m (Store w a from) le h = (few n le, as_many n m h)
  one n m (ReadDevice to address) le h = (few n le, as_many n m h)
  one n m (WriteDevice address a) le h = (few n le, as_many n m h)
  one n m (Push w a) le h = (omega arith, ap (λ z. z ∷ held n) h.0 ∙ as_many (suc n) m (sym h.1))
  one n m (Pop w to) le h = (few n le, ap (drop 1) (as_many n (suc m) h))
  one n m (Find d to a) le h = (few n le, as_many n m h)
  one n m (CodeOf q to) le h = (few n le, as_many n m h)
  one n m (Stop code) le h = (few n le, as_many n m h)

  -- the most is not passed behind a block either
  plain_stays : (n m : ℕ) (p : PlainInstr) → n ≤ most → PlainPushes most n m p → m ≤ most
  plain_stays n m (Copy to a) le h = omega (arith, le, h)
  plain_stays n m (Compute c) le h = omega (arith, le, h)
  plain_stays n m (Product to a b) le h = omega (arith, le, h)
  plain_stays n m (DivideSteps r d a) le h = omega (arith, le, h)
  plain_stays n m (Load x w to a) le h = omega (arith, le, h)
  plain_stays n m (Store w a from) le h = omega (arith, le, h)
  plain_stays n m (ReadDevice to address) le h = omega (arith, le, h)
  plain_stays n m (WriteDevice address a) le h = omega (arith, le, h)
  plain_stays n m (Push w a) le h = h.2
  plain_stays n m (Pop w to) le h = omega (arith, le, h)
  plain_stays n m (Find d to a) le h = omega (arith, le, h)
  plain_stays n m (CodeOf q to) le h = omega (arith, le, h)
  plain_stays n m (Stop code) le h = omega (arith, le, h)

  stays : (b : Block) (n m : ℕ) → n ≤ most → Pushes most n m b → m ≤ most
  stays Skip n m le h = omega (arith, le, h)
  stays (One p) n m le h = plain_stays n m p le h
  stays (CallTo pushed c) n m le h = let e = h.1 in omega (arith, le, e)
  stays TakeInterrupt n m le h = omega (arith, le, h)
  stays (GiveBack w a) n m le h = omega (arith, le, h)
  stays BreakOut n m le h = omega (arith, le, h)
  stays GoOn n m le h = omega (arith, le, h)
  stays (Both a b) n m le (l, h, g) = stays b l m (stays a n l le h) g
  stays (Choice t a b) n m le h = let e = h.0 in omega (arith, le, e)
  stays (Repeat p t body next) n m le h = let e = h.0 in omega (arith, le, e)

  block_few : (b : Block) (n m at : ℕ) → n ≤ most → Pushes most n m b → Few n (open_code b at) m
  block_few Skip n m at le h = as_many n m h
  block_few (One p) n m at le h = one n m p le h
  block_few (CallTo pushed c) n m at le h =
      calling (4 * most) pushed c 0 (held n) (held m) (let e = h.0 in omega (arith, e)) (as_many n m h.1)
      (few m (let e = h.1 in omega (arith, le, e)))
  block_few TakeInterrupt n m at le h = (few n le, as_many n m h)
  block_few (GiveBack w a) n m at le h = (few n le, as_many n m h)
  block_few BreakOut n m at le h = (few n le, as_many n m h)
  block_few GoOn n m at le h = (few n le, as_many n m h)
  block_few (Both a b) n m at le (l, h, g) =
      both (4 * most) (held n) (held l) (held m) (open_code a at) (open_code b (at + length (open_code a at))) (block_few a n l at le h)
      (block_few b l m (at + length (open_code a at)) (stays a n l le h) g)
  block_few (Choice t a b) n m at le (e, h, g) =
      choice_cases (λ z. Few n z m) t at xs ys
      (λ none. branched (4 * most) t (at + 1 + length xs) ws vs xs (few n le) (subst (Few n xs) e (block_few a n n (at + 1) le h)))
      (branched (4 * most) t (at + 1 + length xs + 1) ws vs (xs ++ behind_first) (few n le)
      (both (4 * most) ws ws vs xs behind_first (block_few a n n (at + 1) le h)
      (few n le, subst (Few n ys) e (block_few b n n (at + 1 + length xs + 1) le g))))
    where
      ws : List ℕ
      ws = held n

      vs : List ℕ
      vs = held m

      xs : List Open
      xs = open_code a (at + 1)

      ys : List Open
      ys = open_code b (at + 1 + length xs + 1)

      behind_first : List Open
      behind_first = Set (Jump (at + 1 + length xs + 1 + length ys)) ∷ ys
  block_few (Repeat p t body next) n m at le (same, h, g, i) =
      both (4 * most) ws ws vs xs (Set (branch t e) ∷ (map (closed e c) ys ++ (zs ++ (Set (Jump at) ∷ [])))) (block_few p n n at le h)
      (branched (4 * most) t e ws vs (map (closed e c) ys ++ (zs ++ (Set (Jump at) ∷ []))) (few n le)
      (both (4 * most) ws ws vs (map (closed e c) ys) (zs ++ (Set (Jump at) ∷ [])) (close (4 * most) e c ws ws ys (block_few body n n u le g))
      (both (4 * most) ws ws vs zs (Set (Jump at) ∷ []) (block_few next n n c le i) (few n le, as_many n m same))))
    where
      ws : List ℕ
      ws = held n

      vs : List ℕ
      vs = held m

      xs : List Open
      xs = open_code p at

      u : ℕ
      u = at + length xs + 1

      ys : List Open
      ys = open_code body u

      c : ℕ
      c = u + length ys

      zs : List Open
      zs = open_code next c

      e : ℕ
      e = c + length zs + 1

  zeroes_push : (c i : ℕ) → Pushes most 0 0 (zeroes c i)
  zeroes_push zero i = refl
  zeroes_push (suc c) i = (0, refl, zeroes_push c (suc i))

  -- locals that get the value 0, what was made of the body, and the result
  pub whole_few : (m : FirmProcedure) (b : Block) → Pushes most 0 0 b → Few 0 (open_code (whole m b) 0) 0
  whole_few m b h = block_few (whole m b) 0 0 0 (omega arith) (0, zeroes_push (length m.widths - m.params) (own_params m), (0, h, refl))
