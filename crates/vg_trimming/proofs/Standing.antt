-- What both procedures do where both are at a place, or the newer one is ahead: the same, or what leads to the same.
use Rattle.std.specs.Prelude.{ℕ, zero, suc, ◌<◌, Bool, true, false, ◌==◌, ◌&&◌, ◌||◌, not, List, [], ◌∷◌, length, drop}
use Rattle.std.specs.Prelude.{Option, Some, None, slice_get, if◌then◌else◌}
use Rattle.std.proofs.Common.{◌≡◌, refl, sym, ap, ◌∙◌, subst, arith, inl, inr, ◌⊎◌}
use Rattle.std.proofs.lemmas.Bool.{and_parts, or_cases, not-true, both_ways}
use Rattle.std.proofs.lemmas.Option.{none-some}
use Rattle.vg_meaning.specs.Outside.{Outside, AreReads}
use Rattle.vg_lin.specs.declared.instr.Operand.{Operand}
use Rattle.vg_lin.specs.declared.instr.Operand.TheVariants.{Known}
use Rattle.vg_lin.specs.declared.instr.Test.{Test}
use Rattle.vg_lin.specs.declared.instr.Plain.{Plain as PlainInstr}
use Rattle.vg_lin.specs.declared.instr.Plain.TheVariants.{Copy, Compute, Stop}
use Rattle.vg_lin.specs.declared.instr.Computation.{Computation}
use Rattle.vg_lin.specs.declared.instr.Target.{Target}
use Rattle.vg_lin.specs.declared.instr.Call.{Call as Calling}
use Rattle.vg_lin.specs.declared.instr.Instr.{Instr}
use Rattle.vg_lin.specs.declared.instr.Instr.TheVariants.{Plain, When, Unless, Jump, Call, Return, Idle}
use Rattle.vg_lin.specs.Program.{Procedure, Program}
use Rattle.vg_lin.specs.Sound.{AreOperands, IsPlain, IsTest}
use Rattle.vg_lin.specs.State.{Waiting, State, value, sets, plain, holds}
use Rattle.vg_lin.specs.Steps.{Went, Goes, Raises, Lacks, Fails}
use Rattle.vg_lin.specs.Turns.{counts_at}
use Rattle.vg_lin.specs.Meaning.{result_of, result, cut_to, with_result}
use Rattle.vg_expand.specs.Expansion.{Holds}
use Rattle.vg_expand.proofs.Holding.{sets_holds, Keeps, plain_keeps}
use Rattle.vg_trimming.specs.declared.facts.Facts.{Facts}
use Rattle.vg_trimming.specs.declared.facts.Change.{Change}
use Rattle.vg_trimming.specs.declared.facts.Learned.{Learned}
use Rattle.vg_trimming.specs.declared.facts.Met.{Met}
use Rattle.vg_trimming.specs.declared.facts.Sets.{Sets}
use Rattle.vg_trimming.specs.Facts.{is_it, stands_for, found_for, leads_at, no_change, most_computed}
use Rattle.vg_trimming.specs.Walking.{none_learned, learned_met, learned_unmet, decided, has_room, with_set, Walk, arrives, past, by_truth, further, walks}
use Rattle.vg_trimming.specs.Trimming.{same_plain, both_change, is_pure, left_out, is_stop, plain_stands, left_out_stands, same_test, never_holds}
use Rattle.vg_trimming.specs.Trimming.{always_holds}
use Rattle.vg_trimming.specs.Trimming.{narrower, narrower_stands, found_in, reused, reuses, reused_stands, shorter_stands, gives_same, stops_so}
use Rattle.vg_trimming.specs.Trimming.{call_change, same_call, Both, is_there, leads_on, plain_passed, work_passed, passed_over}
use Rattle.vg_trimming.specs.Trimming.{instr_stands, stands_by, stands_at}
use Rattle.vg_trimming.specs.Trimmed.{both_of, Trims, IsTrimmedTo}
use Rattle.vg_trimming.specs.Runs.{AreBytes}
use Rattle.vg_trimming.proofs.Homes.{no, same_number, Steady, Agree, stands, Changed}
use Rattle.vg_trimming.proofs.Values.{KeepsBytes, bytes_kept}
use Rattle.vg_trimming.proofs.Places.{SameWent, both_go, both_raise, both_lack, wrong, Alone, alone_goes, alone_fails, Spoils, spoils_none, spoils_one}
use Rattle.vg_trimming.proofs.Places.{none_changed, BothGo, plain_follows, left_follows, narrower_follows, reused_follows}
use Rattle.vg_trimming.proofs.Branches.{Learns, learns_none, test_follows, learns_met, learns_unmet, never, always}
use Rattle.vg_trimming.proofs.Calls.{AtPlace, same, trimmed, led, SameCall, calls_same}
use Rattle.vg_trimming.proofs.Walks.{OnWalk, walks_copy, walks_test, Ahead, there, on_way, ended, sets_out}

-- both go on behind their places
abbrev pub Onward : (old now : Procedure) (pc at : ℕ) → State → State → Outside → Type 0
Onward old now pc at s u o = AtPlace old now (suc pc) (suc at) s u × AreReads o.reads

-- both make a step
pub data Does (p : Program) (old now : Procedure) (pc at : ℕ) (s u : State) (o : Outside) : Instr → Instr → Type 0 where
  plainly : (i j : PlainInstr) → SameWent (Onward old now pc at) (plain p i s o) (plain p j u o) → Does p old now pc at s u o (Plain i) (Plain j)
  when_so : (t t' : Test) (to to' : ℕ) → ((b : Bool) → holds t s ≡ Some b → holds t' u ≡ Some b)
      → (holds t s ≡ Some true → Ahead old now (counts_at old.code pc) to to' s u)
      → (holds t s ≡ Some false → Ahead old now (counts_at old.code pc) (suc pc) (suc at) s u) → Does p old now pc at s u o (When t to) (When t' to')
  unless_so : (t t' : Test) (to to' : ℕ) → ((b : Bool) → holds t s ≡ Some b → holds t' u ≡ Some b)
      → (holds t s ≡ Some false → Ahead old now (counts_at old.code pc) to to' s u)
      → (holds t s ≡ Some true → Ahead old now (counts_at old.code pc) (suc pc) (suc at) s u) → Does p old now pc at s u o (Unless t to) (Unless t' to')
  when_turned : (t t' : Test) (to to' : ℕ) → ((b : Bool) → holds t s ≡ Some b → holds t' u ≡ Some b)
      → (holds t s ≡ Some true → Ahead old now (counts_at old.code pc) to (suc at) s u)
      → (holds t s ≡ Some false → Ahead old now (counts_at old.code pc) (suc pc) to' s u) → Does p old now pc at s u o (When t to) (Unless t' to')
  unless_turned : (t t' : Test) (to to' : ℕ) → ((b : Bool) → holds t s ≡ Some b → holds t' u ≡ Some b)
      → (holds t s ≡ Some false → Ahead old now (counts_at old.code pc) to (suc at) s u)
      → (holds t s ≡ Some true → Ahead old now (counts_at old.code pc) (suc pc) to' s u) → Does p old now pc at s u o (Unless t to) (When t' to')
  never_so : (t : Test) (to to' : ℕ) → ((b : Bool) → holds t s ≡ Some b → b ≡ false) → Ahead old now (counts_at old.code pc) to to' s u
      → Does p old now pc at s u o (Unless t to) (Jump to')
  always_so : (t : Test) (to to' : ℕ) → ((b : Bool) → holds t s ≡ Some b → b ≡ true) → Ahead old now (counts_at old.code pc) to to' s u
      → Does p old now pc at s u o (When t to) (Jump to')
  jumps : (to to' : ℕ) → Ahead old now false to to' s u → Does p old now pc at s u o (Jump to) (Jump to')
  calls_so : (c d : Calling) → SameCall p old now pc at c d s u → Does p old now pc at s u o (Call c) (Call d)
  returns_so : (w : ℕ) (b c : Operand) → ((v : ℕ) → result w b s ≡ Some v → result w c u ≡ Some v) → u.ram ≡ s.ram → AreBytes s.ram
      → Does p old now pc at s u o (Return w b) (Return w c)
  returns_there : (w : ℕ) (b c : Operand) (to : ℕ) → slice_get now.code to ≡ Some (Return w c)
      → ((v : ℕ) → result w b s ≡ Some v → result w c u ≡ Some v) → u.ram ≡ s.ram → AreBytes s.ram → Does p old now pc at s u o (Return w b) (Jump to)
  stops_there : (code to : ℕ) → slice_get now.code to ≡ Some (Plain (Stop code)) → Does p old now pc at s u o (Plain (Stop code)) (Jump to)
  idles : AtPlace old now (suc pc) (suc at) s u → Does p old now pc at s u o Idle Idle

-- the older code makes a step alone, which counts only where none of its way is spent
pub data Passes (p : Program) (old now : Procedure) (spent : Bool) (pc at : ℕ) (s u : State) (o : Outside) : Instr → Type 0 where
  step_passed : (i : PlainInstr) → Alone (λ s1. Ahead old now spent (suc pc) at s1 u) o (plain p i s o) → Passes p old now spent pc at s u o (Plain i)
  jump_passed : (to : ℕ) → Ahead old now spent to at s u → Passes p old now spent pc at s u o (Jump to)
  when_passed : (t : Test) (to : ℕ) (b : Bool) → ((r : Bool) → holds t s ≡ Some r → r ≡ b) → (spent && counts_at old.code pc) ≡ false
      → Ahead old now (spent || counts_at old.code pc) (if b then to else suc pc) at s u → Passes p old now spent pc at s u o (When t to)
  unless_passed : (t : Test) (to : ℕ) (b : Bool) → ((r : Bool) → holds t s ≡ Some r → r ≡ b) → (spent && counts_at old.code pc) ≡ false
      → Ahead old now (spent || counts_at old.code pc) (if b then suc pc else to) at s u → Passes p old now spent pc at s u o (Unless t to)

-- ---- a procedure that is as it was

same_went : (m : Procedure) (pc : ℕ) (z : Went State) → KeepsBytes z → SameWent (Onward m m pc pc) z z
same_went m pc (Goes s o) h = both_go s s o (same refl refl refl h.0, h.1)
same_went m pc (Raises code) h = both_raise code
same_went m pc (Lacks address) h = both_lack address
same_went m pc Fails h = wrong Fails

does_same : (p : Program) (m : Procedure) (pc : ℕ) (s : State) (o : Outside) → AreBytes s.ram → AreReads o.reads → (i : Instr) → Does p m m pc pc s s o i i
does_same p m pc s o h r (Plain i) = plainly i i (same_went m pc (plain p i s o) (bytes_kept p i s o h r))
does_same p m pc s o h r (When t to) = when_so t t to to (λ b e. e) (λ e. there (same refl refl refl h)) (λ e. there (same refl refl refl h))
does_same p m pc s o h r (Unless t to) = unless_so t t to to (λ b e. e) (λ e. there (same refl refl refl h)) (λ e. there (same refl refl refl h))
does_same p m pc s o h r (Jump to) = jumps to to (there (same refl refl refl h))
does_same p m pc s o h r (Call c) =
    calls_so c c
    (record {
      callee = λ q e. e;
      pushed = refl;
      registers = λ xs e. e;
      waiting = refl;
      ram = refl;
      bytes = h;
      gives = λ w e. e;
      onward = λ v t t' e k. same refl refl (ap {A = List ℕ} (λ r. with_result c.to v (record s { waiting = kept; ram = r })) e) (bytes c.to v t.ram k);
    })
  where
    kept : List Waiting
    kept = drop c.pushed s.waiting

    bytes : (x : Option Target) (v : ℕ) (r : List ℕ) → AreBytes r → AreBytes (with_result x v (record s { waiting = kept; ram = r })).ram
    bytes (Some t) v r k = k
    bytes None v r k = k
does_same p m pc s o h r (Return w b) = returns_so w b b (λ v e. e) refl h
does_same p m pc s o h r Idle = idles (same refl refl refl h)

-- ---- a procedure that is trimmed

pure_goes : (i : PlainInstr) → is_pure i ≡ true → is_stop i ≡ false
pure_goes (Stop c) e = no e
pure_goes _ e = refl

module _ (p : Program) (tables : AreBytes p.tables) (old now : Procedure) (is : IsTrimmedTo old now) (fs : List Facts) (ps : List ℕ)
    (trim : Trims fs ps old now) (pc at : ℕ) (a : Facts) (s u : State) (o : Outside) (reads : AreReads o.reads) (g : Agree old.widths now.widths a s u) where
  abbrev n : List ℕ
  n = now.widths

  abbrev codes : Both
  codes = both_of fs ps old now

  -- in the same states, at the end of a way
  way : (x : Learned) (spent : Bool) (to to' : ℕ) → Learns x s → leads_on codes a x spent to to' ≡ true → Ahead old now spent to to' s u
  way x spent to to' f e = sets_out old now fs ps trim a x spent to to' s u g f e

  way_so : (spent : Bool) (to to' : ℕ) → leads_on codes a none_learned spent to to' ≡ true → Ahead old now spent to to' s u
  way_so spent to to' e = way none_learned spent to to' (learns_none s) e

  abbrev met : Test → Learned
  met t = learned_met old.widths a.bounds t

  abbrev unmet : Test → Learned
  unmet t = learned_unmet old.widths a.bounds t

  way_met : (t : Test) (spent : Bool) (to to' : ℕ) → leads_on codes a (met t) spent to to' ≡ true → holds t s ≡ Some true
      → Ahead old now spent to to' s u
  way_met t spent to to' e f = way (met t) spent to to' (learns_met old now is.sound a s u g t f) e

  way_unmet : (t : Test) (spent : Bool) (to to' : ℕ) → leads_on codes a (unmet t) spent to to' ≡ true → holds t s ≡ Some false
      → Ahead old now spent to to' s u
  way_unmet t spent to to' e f = way (unmet t) spent to to' (learns_unmet old now is.sound a s u g t f) e

  onto : (C : State → State → Outside → Type 0) (z z' : Went State) → SameWent C z z' → Keeps old.widths z → Keeps now.widths z' → KeepsBytes z
      → ((s1 u1 : State) (o1 : Outside) → C s1 u1 o1 → Steady old.widths now.widths s1 u1 → AtPlace old now (suc pc) (suc at) s1 u1)
      → SameWent (Onward old now pc at) z z'
  onto C _ _ (both_go s1 u1 o1 c) k k' h f = both_go s1 u1 o1 (f s1 u1 o1 c (record { held = k; held_too = k'; bytes = h.0 }), h.1)
  onto C _ _ (both_raise code) k k' h f = both_raise code
  onto C _ _ (both_lack address) k k' h f = both_lack address
  onto C _ _ (wrong z) k k' h f = wrong z

  -- the older code alone goes on, or the newer one gives a local a value
  alone_onto : (u1 : State) (to : ℕ) (c : Change) (z : Went State) → Alone (λ s1. Changed n a c s u s1 u1) o z → Keeps old.widths z
      → Holds now.widths u1.locals → KeepsBytes z → is_it (slice_get ps (suc pc)) to ≡ true → leads_at n fs a c (suc pc) ≡ true
      → Alone (λ s1. AtPlace old now (suc pc) to s1 u1) o z
  alone_onto u1 to c _ (alone_goes s1 ch) k k' h at' e =
      alone_goes s1 (led fs ps old now trim a (suc pc) to s u s1 u1 c g ch (record { held = k; held_too = k'; bytes = h.0 }) at' e)
  alone_onto u1 to c _ alone_fails k k' h at' e = alone_fails

  beside : (u1 : State) (z : Went State) → Alone (λ s1. AtPlace old now (suc pc) (suc at) s1 u1) o z → SameWent (Onward old now pc at) z (Goes u1 o)
  beside u1 _ (alone_goes s1 h) = both_go s1 u1 o (h, reads)
  beside u1 _ alone_fails = wrong (Goes u1 o)

  passes : (z : Went State) → Alone (λ s1. AtPlace old now (suc pc) at s1 u) o z → Alone (λ s1. Ahead old now true (suc pc) at s1 u) o z
  passes _ (alone_goes s1 h) = alone_goes s1 (there h)
  passes _ alone_fails = alone_fails

  -- the next place, of both
  abbrev Next : Type 0
  Next = is_it (slice_get ps (suc pc)) (suc at) ≡ true

  plain_does : (i j : PlainInstr) → IsPlain now j → (is_stop i ≡ false → Next) → plain_stands old.widths n fs a pc i j ≡ true
      → Does p old now pc at s u o (Plain i) (Plain j)
  plain_does i j h next e =
      plainly i j
      (onto (BothGo p tables old now is.sound a s u g i j) (plain p i s o) (plain p j u o) (plain_follows p tables old now is.sound a s u g i j o reads h z.0)
      (plain_keeps p i old.widths s o g.steady.held) (plain_keeps p j now.widths u o g.steady.held_too) (bytes_kept p i s o g.steady.bytes reads)
      (λ s1 u1 o1 c st. led fs ps old now trim a (suc pc) (suc at) s u s1 u1 (both_change old.widths n a.bounds i j) g c.1 st (next c.0)
      (goes_on c.0 (or_cases (is_stop i) _ z.1))))
    where
      z : (same_plain a.twins i j ≡ true) × ((is_stop i || leads_at n fs a (both_change old.widths n a.bounds i j) (suc pc)) ≡ true)
      z = and_parts (same_plain a.twins i j) _ e

      goes_on : is_stop i ≡ false → (is_stop i ≡ true) ⊎ (leads_at n fs a (both_change old.widths n a.bounds i j) (suc pc) ≡ true)
          → leads_at n fs a (both_change old.widths n a.bounds i j) (suc pc) ≡ true
      goes_on f (inl t) = absurd (both_ways (is_stop i) f t)
      goes_on f (inr t) = t

  narrower_does : (i j : PlainInstr) → IsPlain now j → (is_stop i ≡ false → Next) → narrower_stands old.widths n fs a pc i j ≡ true
      → Does p old now pc at s u o (Plain i) (Plain j)
  narrower_does i j h next e =
      plainly i j
      (onto (BothGo p tables old now is.sound a s u g i j) (plain p i s o) (plain p j u o) (narrower_follows p tables old now is.sound a s u g i j o h z.0)
      (plain_keeps p i old.widths s o g.steady.held) (plain_keeps p j now.widths u o g.steady.held_too) (bytes_kept p i s o g.steady.bytes reads)
      (λ s1 u1 o1 c st. led fs ps old now trim a (suc pc) (suc at) s u s1 u1 (both_change old.widths n a.bounds i j) g c.1 st (next c.0) z.1))
    where
      z : (narrower old.widths n a i j ≡ true) × (leads_at n fs a (both_change old.widths n a.bounds i j) (suc pc) ≡ true)
      z = and_parts (narrower old.widths n a i j) _ e

  -- the older code goes on alone, and then the newer one is at this place
  left_alone : (i : PlainInstr) (new : Option ℕ) (u1 : State) (to : ℕ) → Spoils new u u1 → Holds now.widths u1.locals
      → is_it (slice_get ps (suc pc)) to ≡ true → is_pure i ≡ true → leads_at n fs a (left_out old.widths a.bounds i new) (suc pc) ≡ true
      → Alone (λ s1. AtPlace old now (suc pc) to s1 u1) o (plain p i s o)
  left_alone i new u1 to sp h there' pure e =
      alone_onto u1 to (left_out old.widths a.bounds i new) (plain p i s o) (left_follows p tables old now is.sound a s u g i new u1 o sp pure)
      (plain_keeps p i old.widths s o g.steady.held) h (bytes_kept p i s o g.steady.bytes reads) there' e

  reused_alone : (c : Computation) (new : Option ℕ) (u1 : State) (to : ℕ) → Spoils new u u1 → Holds now.widths u1.locals
      → is_it (slice_get ps (suc pc)) to ≡ true → reuses old.widths n fs a pc c new (found_in old.widths c new (found_for a.worked c)) ≡ true
      → Alone (λ s1. AtPlace old now (suc pc) to s1 u1) o (plain p (Compute c) s o)
  reused_alone c new u1 to sp h there' e = by_found (found_in old.widths c new (found_for a.worked c)) refl e
    where
      by_found : (k : Option ℕ) → found_in old.widths c new (found_for a.worked c) ≡ k → reuses old.widths n fs a pc c new k ≡ true
          → Alone (λ s1. AtPlace old now (suc pc) to s1 u1) o (plain p (Compute c) s o)
      by_found (Some home) f q =
          alone_onto u1 to (reused (most_computed old.widths a.bounds c) new c home) (plain p (Compute c) s o)
          (reused_follows p tables old now is.sound a s u g c new u1 home o sp f)
          (plain_keeps p (Compute c) old.widths s o g.steady.held) h (bytes_kept p (Compute c) s o g.steady.bytes reads) there' q
      by_found None f q = no q

  held_with : (z v : ℕ) → Holds now.widths (sets z v u).locals
  held_with z v = sets_holds now.widths u.locals z v g.steady.held_too

  left_does : (i j : PlainInstr) → (is_stop i ≡ false → Next) → left_out_stands old.widths n fs a pc i j ≡ true
      → Does p old now pc at s u o (Plain i) (Plain j)
  left_does i (Copy z (Known v)) next e =
      let k = and_parts (is_pure i) (leads_at n fs a (left_out old.widths a.bounds i (Some z)) (suc pc)) e in
      plainly i (Copy z (Known v))
      (beside (sets z v u) (plain p i s o)
      (left_alone i (Some z) (sets z v u) (suc at) (spoils_one z v u) (held_with z v) (next (pure_goes i k.0)) k.0 k.1))
  left_does i _ next e = no e

  reused_does : (i j : PlainInstr) → (is_stop i ≡ false → Next) → reused_stands old.widths n fs a pc i j ≡ true
      → Does p old now pc at s u o (Plain i) (Plain j)
  reused_does (Compute c) (Copy z (Known v)) next e =
      plainly (Compute c) (Copy z (Known v))
      (beside (sets z v u) (plain p (Compute c) s o)
      (reused_alone c (Some z) (sets z v u) (suc at) (spoils_one z v u) (held_with z v) (next refl) e))
  reused_does _ _ next e = no e

  out_does : (i j : PlainInstr) → (is_stop i ≡ false → Next)
      → (left_out_stands old.widths n fs a pc i j ≡ true) ⊎ (reused_stands old.widths n fs a pc i j ≡ true) → Does p old now pc at s u o (Plain i) (Plain j)
  out_does i j next (inl e) = left_does i j next e
  out_does i j next (inr e) = reused_does i j next e

  shorter_does : (i j : PlainInstr) → IsPlain now j → (is_stop i ≡ false → Next)
      → (narrower_stands old.widths n fs a pc i j ≡ true)
      ⊎ ((left_out_stands old.widths n fs a pc i j || reused_stands old.widths n fs a pc i j) ≡ true)
      → Does p old now pc at s u o (Plain i) (Plain j)
  shorter_does i j h next (inl e) = narrower_does i j h next e
  shorter_does i j h next (inr e) = out_does i j next (or_cases (left_out_stands old.widths n fs a pc i j) _ e)

  either_does : (i j : PlainInstr) → IsPlain now j → (is_stop i ≡ true) ⊎ Next
      → (plain_stands old.widths n fs a pc i j ≡ true)
      ⊎ ((narrower_stands old.widths n fs a pc i j || (left_out_stands old.widths n fs a pc i j || reused_stands old.widths n fs a pc i j)) ≡ true)
      → Does p old now pc at s u o (Plain i) (Plain j)
  either_does i j h k = by_way
    where
      next : (is_stop i ≡ true) ⊎ Next → is_stop i ≡ false → Next
      next (inl t) f = absurd (both_ways (is_stop i) f t)
      next (inr t) f = t

      by_way : (plain_stands old.widths n fs a pc i j ≡ true)
          ⊎ ((narrower_stands old.widths n fs a pc i j || (left_out_stands old.widths n fs a pc i j || reused_stands old.widths n fs a pc i j)) ≡ true)
          → Does p old now pc at s u o (Plain i) (Plain j)
      by_way (inl e) = plain_does i j h (next k) e
      by_way (inr e) = shorter_does i j h (next k) (or_cases (narrower_stands old.widths n fs a pc i j) _ e)

  when_does : (t t' : Test) (to to' : ℕ) → IsTest now t' → instr_stands codes a pc at (When t to) (When t' to') ≡ true
      → Does p old now pc at s u o (When t to) (When t' to')
  when_does t t' to to' h e =
      let counts = counts_at old.code pc in
      let z0 = and_parts (same_test old.widths n a t t' && leads_on codes a (met t) counts to to') (leads_on codes a (unmet t) counts (suc pc) (suc at)) e in
      let z1 = and_parts (same_test old.widths n a t t') (leads_on codes a (met t) counts to to') z0.0 in
      when_so t t' to to' (test_follows old now is.sound a s u g t t' h z1.0) (way_met t counts to to' z1.1)
      (way_unmet t counts (suc pc) (suc at) z0.1)

  unless_does : (t t' : Test) (to to' : ℕ) → IsTest now t' → instr_stands codes a pc at (Unless t to) (Unless t' to') ≡ true
      → Does p old now pc at s u o (Unless t to) (Unless t' to')
  unless_does t t' to to' h e =
      let counts = counts_at old.code pc in
      let z0 = and_parts (same_test old.widths n a t t' && leads_on codes a (unmet t) counts to to') (leads_on codes a (met t) counts (suc pc) (suc at)) e in
      let z1 = and_parts (same_test old.widths n a t t') (leads_on codes a (unmet t) counts to to') z0.0 in
      unless_so t t' to to' (test_follows old now is.sound a s u g t t' h z1.0)
      (way_unmet t counts to to' z1.1) (way_met t counts (suc pc) (suc at) z0.1)

  -- the other branch, with its places the other way round
  when_turns : (t t' : Test) (to to' : ℕ) → IsTest now t' → instr_stands codes a pc at (When t to) (Unless t' to') ≡ true
      → Does p old now pc at s u o (When t to) (Unless t' to')
  when_turns t t' to to' h e =
      let counts = counts_at old.code pc in
      let z0 = and_parts (same_test old.widths n a t t' && leads_on codes a (met t) counts to (suc at)) (leads_on codes a (unmet t) counts (suc pc) to') e in
      let z1 = and_parts (same_test old.widths n a t t') (leads_on codes a (met t) counts to (suc at)) z0.0 in
      when_turned t t' to to' (test_follows old now is.sound a s u g t t' h z1.0) (way_met t counts to (suc at) z1.1)
      (way_unmet t counts (suc pc) to' z0.1)

  unless_turns : (t t' : Test) (to to' : ℕ) → IsTest now t' → instr_stands codes a pc at (Unless t to) (When t' to') ≡ true
      → Does p old now pc at s u o (Unless t to) (When t' to')
  unless_turns t t' to to' h e =
      let counts = counts_at old.code pc in
      let z0 = and_parts (same_test old.widths n a t t' && leads_on codes a (unmet t) counts to (suc at)) (leads_on codes a (met t) counts (suc pc) to') e in
      let z1 = and_parts (same_test old.widths n a t t') (leads_on codes a (unmet t) counts to (suc at)) z0.0 in
      unless_turned t t' to to' (test_follows old now is.sound a s u g t t' h z1.0)
      (way_unmet t counts to (suc at) z1.1) (way_met t counts (suc pc) to' z0.1)

  gives : (w : ℕ) (b c : Operand) → stands_for a.twins b c ≡ true → (v : ℕ) → result w b s ≡ Some v → result w c u ≡ Some v
  gives w b c f v q = ap (result_of w c u) g.waiting ∙ by_waiting s.waiting v q
    where
      cut : (x y : Option ℕ) (v : ℕ) → ((v : ℕ) → x ≡ Some v → y ≡ Some v) → cut_to w x ≡ Some v → cut_to w y ≡ Some v
      cut (Some x) y v h q = ap (cut_to w) (h x refl) ∙ q
      cut None y v h q = absurd (none-some v q)

      by_waiting : (ws : List Waiting) (v : ℕ) → result_of w b s ws ≡ Some v → result_of w c u ws ≡ Some v
      by_waiting [] v q = cut (value b s) (value c u) v (λ v. stands a.twins s u g.twins b c v f) q
      by_waiting (x ∷ ws) v q = absurd (none-some v q)

  return_does : (w w' : ℕ) (b c : Operand) → (w == w') ≡ true → stands_for a.twins b c ≡ true → Does p old now pc at s u o (Return w b) (Return w' c)
  return_does w w' b c e f =
      subst (λ k. Does p old now pc at s u o (Return w b) (Return k c)) (same_number w w' e) (returns_so w b c (gives w b c f) g.ram g.steady.bytes)

  there_does : (w : ℕ) (b : Operand) (to : ℕ) (k : Option Instr) → slice_get now.code to ≡ k → gives_same a.twins w b k ≡ true
      → Does p old now pc at s u o (Return w b) (Jump to)
  there_does w b to (Some (Return w' c)) f e =
      let z = and_parts (w == w') (stands_for a.twins b c) e in
      returns_there w b c to (f ∙ ap (λ k. Some (Return k c)) (sym (same_number w w' z.0))) (gives w b c z.1) g.ram g.steady.bytes
  there_does w b to _ f e = no e

  stop_does : (i : PlainInstr) (to : ℕ) (k : Option Instr) → slice_get now.code to ≡ k → stops_so i k ≡ true → Does p old now pc at s u o (Plain i) (Jump to)
  stop_does (Stop c) to (Some (Plain (Stop d))) f e = stops_there c to (f ∙ ap (λ k. Some (Plain (Stop k))) (sym (same_number c d e)))
  stop_does i to _ f e = no e

  pub instr_does : (i j : Instr) → AreOperands now j → instr_stands codes a pc at i j ≡ true → Does p old now pc at s u o i j
  instr_does (Plain i) (Plain j) h e =
      let z = and_parts (is_stop i || is_there codes (suc pc) (suc at)) (plain_stands old.widths n fs a pc i j || shorter_stands old.widths n fs a pc i j) e in
      either_does i j h (or_cases (is_stop i) _ z.0) (or_cases (plain_stands old.widths n fs a pc i j) _ z.1)
  instr_does (Plain i) (Jump to) h e = stop_does i to (slice_get now.code to) refl e
  instr_does (When t to) (When t' to') h e = when_does t t' to to' h e
  instr_does (Unless t to) (Unless t' to') h e = unless_does t t' to to' h e
  instr_does (When t to) (Unless t' to') h e = when_turns t t' to to' h e
  instr_does (Unless t to) (When t' to') h e = unless_turns t t' to to' h e
  instr_does (Unless t to) (Jump to') h e =
      let z = and_parts (never_holds old.widths a t) (leads_on codes a none_learned (counts_at old.code pc) to to') e in
      never_so t to to' (never old now is.sound a s u g t z.0) (way_so (counts_at old.code pc) to to' z.1)
  instr_does (When t to) (Jump to') h e =
      let z = and_parts (always_holds old.widths a t) (leads_on codes a none_learned (counts_at old.code pc) to to') e in
      always_so t to to' (always old now is.sound a s u g t z.0) (way_so (counts_at old.code pc) to to' z.1)
  instr_does (Jump to) (Jump to') h e = jumps to to' (way_so false to to' e)
  instr_does (Call c) (Call d) h e =
      let z0 = and_parts (is_there codes (suc pc) (suc at) && same_call a.twins c d) (leads_at n fs a (call_change old.widths n c d) (suc pc)) e in
      let z1 = and_parts (is_there codes (suc pc) (suc at)) (same_call a.twins c d) z0.0 in
      calls_so c d (calls_same p tables old now is.sound a s u g fs ps trim pc at c d z1.1 h.2 z1.0 z0.1)
  instr_does (Return w b) (Return w' c) h e =
      let z = and_parts (w == w') (stands_for a.twins b c) e in return_does w w' b c z.0 z.1
  instr_does (Return w b) (Jump to) h e = there_does w b to (slice_get now.code to) refl e
  instr_does Idle Idle h e =
      let z = and_parts (is_there codes (suc pc) (suc at)) (leads_at n fs a no_change (suc pc)) e in
      idles (led fs ps old now trim a (suc pc) (suc at) s u s u no_change g
      (none_changed p tables old now is.sound a s u g s u refl refl g.waiting g.ram) g.steady z.0 z.1)
  instr_does _ _ h e = no e

  -- ---- the older code alone

  work_passes : (i : PlainInstr) → is_it (slice_get ps (suc pc)) at ≡ true → work_passed codes a pc i ≡ true
      → Alone (λ s1. AtPlace old now (suc pc) at s1 u) o (plain p i s o)
  work_passes (Compute c) next e = reused_alone c None u at (spoils_none u) g.steady.held_too next e
  work_passes _ next e = no e

  plain_passes : (i : PlainInstr) → is_it (slice_get ps (suc pc)) at ≡ true
      → (plain_passed codes a pc i ≡ true) ⊎ (work_passed codes a pc i ≡ true) → Alone (λ s1. AtPlace old now (suc pc) at s1 u) o (plain p i s o)
  plain_passes i next (inl e) =
      let z = and_parts (is_pure i) (leads_at n fs a (left_out old.widths a.bounds i None) (suc pc)) e in
      left_alone i None u at (spoils_none u) g.steady.held_too next z.0 z.1
  plain_passes i next (inr e) = work_passes i next e

  -- a test that comes out in one way
  abbrev Never : Test → ℕ → Bool
  Never t to = never_holds old.widths a t && leads_on codes a none_learned true to at

  abbrev Always : Test → ℕ → Bool
  Always t to = always_holds old.widths a t && leads_on codes a none_learned true to at

  when_passes : (t : Test) (to : ℕ) → counts_at old.code pc ≡ false → (Never t (suc pc) ≡ true) ⊎ (Always t to ≡ true)
      → Passes p old now true pc at s u o (When t to)
  when_passes t to f (inl e) =
      let z = and_parts (never_holds old.widths a t) (leads_on codes a none_learned true (suc pc) at) e in
      when_passed t to false (never old now is.sound a s u g t z.0) f (way_so true (suc pc) at z.1)
  when_passes t to f (inr e) =
      let z = and_parts (always_holds old.widths a t) (leads_on codes a none_learned true to at) e in
      when_passed t to true (always old now is.sound a s u g t z.0) f (way_so true to at z.1)

  unless_passes : (t : Test) (to : ℕ) → counts_at old.code pc ≡ false → (Never t to ≡ true) ⊎ (Always t (suc pc) ≡ true)
      → Passes p old now true pc at s u o (Unless t to)
  unless_passes t to f (inl e) =
      let z = and_parts (never_holds old.widths a t) (leads_on codes a none_learned true to at) e in
      unless_passed t to false (never old now is.sound a s u g t z.0) f (way_so true to at z.1)
  unless_passes t to f (inr e) =
      let z = and_parts (always_holds old.widths a t) (leads_on codes a none_learned true (suc pc) at) e in
      unless_passed t to true (always old now is.sound a s u g t z.0) f (way_so true (suc pc) at z.1)

  pub instr_passes : (i : Instr) → passed_over codes a pc at i ≡ true → Passes p old now true pc at s u o i
  instr_passes (Plain i) e =
      let z = and_parts (is_there codes (suc pc) at) (plain_passed codes a pc i || work_passed codes a pc i) e in
      step_passed i (passes (plain p i s o) (plain_passes i z.0 (or_cases (plain_passed codes a pc i) _ z.1)))
  instr_passes (When t to) e =
      let z = and_parts (not (counts_at old.code pc)) (Never t (suc pc) || Always t to) e in
      when_passes t to (not-true (counts_at old.code pc) z.0) (or_cases (Never t (suc pc)) (Always t to) z.1)
  instr_passes (Unless t to) e =
      let z = and_parts (not (counts_at old.code pc)) (Never t to || Always t (suc pc)) e in
      unless_passes t to (not-true (counts_at old.code pc) z.0) (or_cases (Never t to) (Always t (suc pc)) z.1)
  instr_passes (Jump to) e = jump_passed to (way_so true to at e)
  instr_passes _ e = no e

-- ---- both at a place

within : {A : Type 0} (xs : List A) (i : ℕ) (x : A) → slice_get xs i ≡ Some x → i < length xs
within [] i x e = absurd (none-some x e)
within (y ∷ xs) zero x e = omega arith
within (y ∷ xs) (suc i) x e = let h = within xs i x e in omega (arith, h)

-- both make a step, or the older code makes one alone
abbrev pub Moves : (p : Program) (old now : Procedure) (pc at : ℕ) (s u : State) (o : Outside) → Instr → Type 0
Moves p old now pc at s u o i = Passes p old now true pc at s u o i ⊎ ((j : Instr) × (slice_get now.code at ≡ Some j) × Does p old now pc at s u o i j)

pub moves_at : (p : Program) → AreBytes p.tables → (old now : Procedure) → IsTrimmedTo old now → (pc at : ℕ) (s u : State) (o : Outside) → AreReads o.reads
    → AtPlace old now pc at s u → (i : Instr) → slice_get old.code pc ≡ Some i → Moves p old now pc at s u o i
moves_at p tables old now is pc at s u o reads (same en ep eu h) i e =
    subst (λ k. Moves p old k pc at s u o i) (sym en)
    (subst (λ k. Moves p old old pc k s u o i) (sym ep)
    (subst (λ k. Moves p old old pc pc s k o i) (sym eu) (inr (i, e, does_same p old pc s o h reads i))))
moves_at p tables old now is pc at s u o reads (trimmed fs ps trim a f k g) i e =
    by_reached a.reached g.reached
    (subst (λ x. stands_at codes pc (Some a) (Some i) x ≡ true) k
    (subst (λ x. stands_at codes pc (Some a) x (slice_get ps pc) ≡ true) e
    (subst (λ x. stands_at codes pc x (slice_get old.code pc) (slice_get ps pc) ≡ true) f (trim.each pc (within old.code pc i e)))))
  where
    codes : Both
    codes = both_of fs ps old now

    by_newer : (j : Option Instr) → slice_get now.code at ≡ j → stands_by codes a pc at i j ≡ true → Moves p old now pc at s u o i
    by_newer (Some j) h q = inr (j, h, instr_does p tables old now is fs ps trim pc at a s u o reads g i j (is.sound_too.operands at j h) q)
    by_newer None h q = no q

    by_way : (passed_over codes a pc at i ≡ true) ⊎ (stands_by codes a pc at i (slice_get now.code at) ≡ true) → Moves p old now pc at s u o i
    by_way (inl q) = inl (instr_passes p tables old now is fs ps trim pc at a s u o reads g i q)
    by_way (inr q) = by_newer (slice_get now.code at) refl q

    by_reached : (b : Bool) → b ≡ true → (if b then passed_over codes a pc at i || stands_by codes a pc at i (slice_get now.code at) else true) ≡ true
        → Moves p old now pc at s u o i
    by_reached true h q = by_way (or_cases (passed_over codes a pc at i) _ q)
    by_reached false h q = no h

-- ---- on a way

module _ (p : Program) (old now : Procedure) (is : IsTrimmedTo old now) (fs : List Facts) (ps : List ℕ) (trim : Trims fs ps old now) (spent : Bool)
    (pc at : ℕ) (a : Facts) (f : Learned) (xs : Sets) (m : Option Met) (first s u : State) (o : Outside) (on : OnWalk old now a f xs m first s u) where
  abbrev k : Walk
  k = record { at = pc; spent = spent; sets = xs; met = m }

  abbrev counts : Bool
  counts = counts_at old.code pc

  -- a branch leads here
  leads_past : (most to : ℕ) → past (walks old.code fs ps a f at most) counts k to ≡ true
      → ((spent && counts) ≡ false) × Ahead old now (spent || counts) to at s u
  leads_past most to e =
      let z = and_parts (not (spent && counts)) (walks old.code fs ps a f at most (record { at = to; spent = spent || counts; sets = xs; met = m })) e in
      (not-true (spent && counts) z.0, on_way fs ps trim a f most xs m first z.1 on)

  when_walks : (most : ℕ) (t : Test) (to : ℕ) → IsTest old t → (d : Option Bool) → decided m t ≡ d
      → by_truth (walks old.code fs ps a f at most) counts k to (suc pc) d ≡ true → Passes p old now spent pc at s u o (When t to)
  when_walks most t to h (Some true) q e =
      let z = leads_past most to e in
      when_passed t to true (λ r. walks_test old now is.sound a f xs m first s u on t true r h q) z.0 z.1
  when_walks most t to h (Some false) q e =
      let z = leads_past most (suc pc) e in
      when_passed t to false (λ r. walks_test old now is.sound a f xs m first s u on t false r h q) z.0 z.1
  when_walks most t to h None q e = no e

  unless_walks : (most : ℕ) (t : Test) (to : ℕ) → IsTest old t → (d : Option Bool) → decided m t ≡ d
      → by_truth (walks old.code fs ps a f at most) counts k (suc pc) to d ≡ true → Passes p old now spent pc at s u o (Unless t to)
  unless_walks most t to h (Some true) q e =
      let z = leads_past most (suc pc) e in
      unless_passed t to true (λ r. walks_test old now is.sound a f xs m first s u on t true r h q) z.0 z.1
  unless_walks most t to h (Some false) q e =
      let z = leads_past most to e in
      unless_passed t to false (λ r. walks_test old now is.sound a f xs m first s u on t false r h q) z.0 z.1
  unless_walks most t to h None q e = no e

  instr_walks : (most : ℕ) (i : Instr) → AreOperands old i → further (walks old.code fs ps a f at most) counts k (Some i) ≡ true
      → Passes p old now spent pc at s u o i
  instr_walks most (Plain (Copy x (Known v))) h e =
      let z = and_parts (has_room xs x)
      (walks old.code fs ps a f at most (record { at = suc pc; spent = spent; sets = with_set xs x; met = Some (record { local = x; number = v }) })) e in
      step_passed (Copy x (Known v))
      (alone_goes (sets x v s)
      (on_way fs ps trim a f most (with_set xs x) (Some (record { local = x; number = v })) first z.1
      (walks_copy old now is.sound a f xs m first s u on x v z.0)))
  instr_walks most (Jump to) h e = jump_passed to (on_way fs ps trim a f most xs m first e on)
  instr_walks most (When t to) h e = when_walks most t to h (decided m t) refl e
  instr_walks most (Unless t to) h e = unless_walks most t to h (decided m t) refl e
  instr_walks most _ h e = no e

  -- the older code makes the next step of the walk
  abbrev Walks : Type 0
  Walks = (i : Instr) × (slice_get old.code pc ≡ Some i) × Passes p old now spent pc at s u o i

  pub walks_on : (most : ℕ) → walks old.code fs ps a f at most k ≡ true → AtPlace old now pc at s u ⊎ Walks
  walks_on zero e = inl (ended old now is.sound fs ps trim a f spent pc at xs m first s u on e)
  walks_on (suc most) e = by_way (or_cases (arrives fs ps a f at k) _ e)
    where
      by_instr : (i : Option Instr) → slice_get old.code pc ≡ i → further (walks old.code fs ps a f at most) counts k i ≡ true → Walks
      by_instr (Some i) h e = (i, h, instr_walks most i (is.sound.operands pc i h) e)
      by_instr None h e = no e

      by_way : (arrives fs ps a f at k ≡ true) ⊎ (further (walks old.code fs ps a f at most) counts k (slice_get old.code pc) ≡ true)
          → AtPlace old now pc at s u ⊎ Walks
      by_way (inl e) = inl (ended old now is.sound fs ps trim a f spent pc at xs m first s u on e)
      by_way (inr e) = inr (by_instr (slice_get old.code pc) refl e)

-- both are at a place, or the older code makes a step alone
pub ahead_moves : (p : Program) (old now : Procedure) → IsTrimmedTo old now → (spent : Bool) (pc at : ℕ) (s u : State) (o : Outside)
    → Ahead old now spent pc at s u
    → AtPlace old now pc at s u ⊎ ((i : Instr) × (slice_get old.code pc ≡ Some i) × Passes p old now spent pc at s u o i)
ahead_moves p old now is spent pc at s u o (there h) = inl h
ahead_moves p old now is spent pc at s u o (on_way fs ps trim a f most xs m first e on) =
    walks_on p old now is fs ps trim spent pc at a f xs m first s u o on most e
