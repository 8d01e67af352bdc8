-- What was put of the trace of a part was put of that of the whole, since what comes behind the part only adds to the trace.
use Rattle.std.proofs.Common.{◌≡◌, ℕ, suc, ◌+◌, ◌<◌, ◌==◌, Bool, true, false, List, [], length, take, drop, get_or, sym, ap, ◌∙◌, subst, rules}
use Rattle.std.proofs.lemmas.List.{at_drop_more}
use Rattle.vg_meaning.specs.History.{depth_alone}
use Rattle.vg_meaning.specs.World.{World}
use Rattle.vg_meaning.specs.Answer.{Answer, Gives, Piece, and_then, go_on}
use Rattle.vg_meaning.specs.Calls.{closed, opened, returned}
use Rattle.vg_meaning.specs.Clock.{ticked}
use Rattle.vg_meaning.specs.Code.{Code, If, Then}
use Rattle.vg_meaning_laws.specs.Grows.{trace_of, Grows}
use Rattle.vg_meaning.specs.Loops.{Tested, choose, turned, turns, where_holds}
use Rattle.vg_meaning_laws.proofs.Grows.{extends_itself, grows_choose, grows_next, grows_on, grows_opened, grows_returned, grows_then, grows_turn, grows_turned}
use Rattle.vg_meaning_laws.proofs.Grows.{grows_turns}
use Rattle.vg_core.specs.declared.code.Code.{Code as HeldCode}
use Rattle.vg_core.specs.declared.program.Target.{Target}
use Rattle.vg_core.specs.declared.program.Target.TheVariants.{Construct}
use Rattle.vg_core.specs.declared.step.Step.{Step}
use Rattle.vg_core.specs.declared.types.CoreType.{CoreType}
use Rattle.vg_core.specs.declared.value.CoreValue.{CoreValue}
use Rattle.vg_core.specs.declared.value.CoreValue.TheVariants.{Obj}
use Rattle.vg_core.specs.Heap.{default}
use Rattle.vg_core.specs.HeldProgram.{code_of, code_chain, code_row}
use Rattle.vg_core.specs.Meaning.{activity, back_in, checked, constructing, forgetting, put, taking, truth}
use Rattle.vg_core.specs.Program.{Body, Program}
use Rattle.vg_core.specs.State.{State, are_of, entered, onto}
use Rattle.vg_recorded.proofs.Runs.{grows_back, grows_code, grows_forgotten, grows_replaced}
use Rattle.vg_outlet.specs.Puts.{Moment, PutsOf}
use Rattle.vg_outlet.proofs.Puts.{puts_both, puts_longer}
use Rattle.vg_interp.specs.Running.{calling, does, opens, runs}
use Rattle.vg_interp.specs.Weights.{arm_then, arms_list}
use Rattle.vg_interp.proofs.Turns.{chain_on, turn_of}

-- ---- what grows

pub grows_does : (p : Program) (n : ℕ) (c : Code Step) → Grows (does p n c)
grows_does p n c = grows_code depth_alone p n c

grows_put : (v : CoreValue) → Grows {H = ℕ} (put v)
grows_put v s w = extends_itself w.outside.trace

grows_checked : (b : Bool) (go : Piece State ℕ) → Grows go → Grows (checked b go)
grows_checked true go g s w = g s w
grows_checked false go g s w = extends_itself w.outside.trace

grows_runs : (p : Program) (n : ℕ) (result : CoreType) (b : Body) (count : ℕ) (self : CoreValue) → Grows (runs p n result b count self)
grows_runs p n result b count self s w =
    grows_then w.outside.trace (returned (does p n b.code (entered b count self s) w) (put (default result))) (back_in p.tables result count s)
    (grows_returned w.outside.trace (does p n b.code (entered b count self s) w) (put (default result)) (grows_does p n b.code (entered b count self s) w)
    (grows_put (default result)))
    (grows_back p.tables result count s)

pub grows_opens : (p : Program) (n : ℕ) (t : Target) (params : List CoreType) (result : CoreType) (b : Body) (count : ℕ) (self : CoreValue)
    → Grows (opens p n t params result b count self)
grows_opens p n t params result b count self s w =
    let go : Piece State ℕ = opened depth_alone (activity t) (runs p n result b count self) in
    grows_checked (length params == count) (λ s1. checked (are_of p.tables s1.heap.cells (onto params []) (take count s1.values)) go s1)
    (λ s1 w1. grows_checked (are_of p.tables s1.heap.cells (onto params []) (take count s1.values)) go
    (grows_opened depth_alone (activity t) (runs p n result b count self) (grows_runs p n result b count self)) s1 w1) s w

-- the turns of a loop that are left, and one turn with them
module _ (p : Program) (n : ℕ) (condition body next : Code Step) where
  pub grows_rest : (k : ℕ) → Grows (turns depth_alone k (where_holds (does p n condition) truth) (does p n body) (does p n next))
  grows_rest k =
      grows_turns depth_alone truth (does p n condition) (does p n body) (does p n next) (grows_does p n condition) (grows_does p n body) (grows_does p n next) k

  pub grows_one : (rest : Piece State ℕ) → Grows rest → Grows (turn_of (does p n body) (does p n next) rest)
  grows_one rest g = grows_turn depth_alone (does p n body) (does p n next) rest (grows_does p n body) (grows_does p n next) g

-- ---- parts and wholes

module _ (m o : Moment) where
  pub of_first : (a : Answer State ℕ) (go : Piece State ℕ) → Grows go → PutsOf m o (trace_of a) → PutsOf m o (trace_of (and_then a go))
  of_first a go g h = puts_longer m o (trace_of a) (trace_of (and_then a go)) h (grows_then (trace_of a) a go (extends_itself (trace_of a)) g)

  pub of_returned : (a : Answer State ℕ) (v : CoreValue) → PutsOf m o (trace_of a) → PutsOf m o (trace_of (returned a (put v)))
  of_returned a v h =
      puts_longer m o (trace_of a) (trace_of (returned a (put v))) h (grows_returned (trace_of a) a (put v) (extends_itself (trace_of a)) (grows_put v))

  of_turned : (a : Answer State ℕ) (go : Piece State ℕ) → Grows go → PutsOf m o (trace_of a) → PutsOf m o (trace_of (turned a go))
  of_turned a go g h = puts_longer m o (trace_of a) (trace_of (turned a go)) h (grows_turned (trace_of a) a go (extends_itself (trace_of a)) g)

  -- what was put before a piece
  pub of_start : (go : Piece State ℕ) (s : State) (w : World ℕ) → Grows go → PutsOf m o w.outside.trace → PutsOf m o (trace_of (go s w))
  of_start go s w g h = puts_longer m o w.outside.trace (trace_of (go s w)) h (g s w)

  pub of_same : (a b : Answer State ℕ) → a ≡ b → PutsOf m o (trace_of b) → PutsOf m o (trace_of a)
  of_same a b e h = subst (λ x. PutsOf m o (trace_of x)) (sym e) h

  -- a condition, and what is done where it holds
  pub of_condition : (p : Program) (n : ℕ) (c : Code Step) (go : Piece State ℕ) (s : State) (w : World ℕ) → Grows go → PutsOf m o (trace_of (does p n c s w))
      → PutsOf m o (trace_of (where_holds (does p n c) truth go s w))
  of_condition p n c go s w g h =
      of_first (does p n c s w) (λ s1 w1. choose (truth s1) go go_on s1 w1) (λ s1 w1. grows_choose (truth s1) go go_on g grows_on s1 w1) h

  -- the first of two codes
  pub of_then : (p : Program) (n : ℕ) (c d : Code Step) (s : State) (w : World ℕ) → PutsOf m o (trace_of (does p n c s w))
      → PutsOf m o (trace_of (does p n (Then c d) s w))
  of_then p n c d s w h = of_first (does p n c s w) (does p n d) (grows_does p n d) h

  -- code, and its value where it ends without one
  pub of_value : (p : Program) (n : ℕ) (c : Code Step) (s : State) (w : World ℕ) (v : CoreValue) → PutsOf m o (trace_of (does p n c s w))
      → PutsOf m o (trace_of (returned (does p n c s w) (put v)))
  of_value p n c s w v h = of_returned (does p n c s w) v h

  -- a construction, and the object in place of its value
  pub of_constructing : (p : Program) (n c count k : ℕ) (s : State) (w : World ℕ) → PutsOf m o (trace_of (calling p n (Construct c) count (Obj k) s w))
      → PutsOf m o (trace_of (constructing (calling p n) c count k s w))
  of_constructing p n c count k s w h = of_first (calling p n (Construct c) count (Obj k) s w) (taking (λ v. put (Obj k))) (grows_replaced (Obj k)) h

  -- a call whose value is forgotten
  pub of_forgetting : (p : Program) (n : ℕ) (t : Target) (count : ℕ) (self : CoreValue) (s : State) (w : World ℕ)
      → PutsOf m o (trace_of (calling p n t count self s w)) → PutsOf m o (trace_of (forgetting (calling p n t count self) s w))
  of_forgetting p n t count self s w h = of_first (calling p n t count self s w) (taking (λ v. go_on)) grows_forgotten h

  -- the value of a body
  pub of_body : (p : Program) (n : ℕ) (result : CoreType) (b : Body) (count : ℕ) (self : CoreValue) (s t : State) (w v : World ℕ)
      → t ≡ entered b count self s → v ≡ w → PutsOf m o (trace_of (returned (does p n b.code t v) (put (default result))))
      → PutsOf m o (trace_of (runs p n result b count self s w))
  of_body p n result b count self s t w v e f h =
      let there = subst (λ x. PutsOf m o (trace_of (returned (does p n b.code x v) (put (default result))))) e h in
      let here = subst (λ x. PutsOf m o (trace_of (returned (does p n b.code (entered b count self s) x) (put (default result))))) f there in
      of_first (returned (does p n b.code (entered b count self s) w) (put (default result))) (back_in p.tables result count s)
      (grows_back p.tables result count s) here

-- the same behind what was put before
module _ (k m o : Moment) where
  pub then_same : (a b : Answer State ℕ) → a ≡ b → PutsOf k m (trace_of a) → PutsOf m o (trace_of b) → PutsOf k o (trace_of a)
  then_same a b e h i = puts_both k m o (trace_of a) h (of_same m o a b e i)

  pub then_first : (a b : Answer State ℕ) (go : Piece State ℕ) → a ≡ and_then b go → Grows go → PutsOf k m (trace_of a) → PutsOf m o (trace_of b)
      → PutsOf k o (trace_of a)
  then_first a b go e g h i = then_same a (and_then b go) e h (of_first m o b go g i)

  -- a call that was opened behind the look at what waits
  pub then_opened : (p : Program) (n : ℕ) (t : Target) (params : List CoreType) (result : CoreType) (b : Body) (count : ℕ) (self : CoreValue) (s : State)
      (w v : World ℕ) → opens p n t params result b count self s w ≡ and_then (runs p n result b count self s v) (closed depth_alone)
      → PutsOf k m w.outside.trace → PutsOf m o (trace_of (runs p n result b count self s v)) → PutsOf k o (trace_of (opens p n t params result b count self s w))
  then_opened p n t params result b count self s w v e h i =
      then_first (opens p n t params result b count self s w) (runs p n result b count self s v) (closed depth_alone) e (λ s1 w1. extends_itself w1.outside.trace)
      (of_start k m (opens p n t params result b count self) s w (grows_opens p n t params result b count self) h) i

-- ---- rows

module _ (p : Program) (n : ℕ) (codes : List HeldCode) (i : ℕ) (x : HeldCode) (lt : i < length codes) (is : x ≡ get_or codes i x) (s : State) (w : World ℕ) where
  pub row_at : does p n (code_row (drop i codes)) s w ≡ and_then (does p n (code_of x) s w) (does p n (code_row (drop (i + 1) codes)))
  row_at =
      at_drop_more (λ cs. does p n (code_row cs) s w) codes i x lt
      ∙ ap (λ y. and_then (does p n (code_of y) s w) (does p n (code_row (drop (i + 1) codes)))) (sym is)

  pub chain_at : does p n (code_chain (drop i codes)) s w ≡ and_then (does p n (code_of x) s w) (does p n (code_chain (drop (i + 1) codes)))
  chain_at =
      at_drop_more (λ cs. does p n (code_chain cs) s w) codes i x lt ∙ chain_on p n (get_or codes i x) (drop (i + 1) codes) s w
      ∙ ap (λ y. and_then (does p n (code_of y) s w) (does p n (code_chain (drop (i + 1) codes)))) (sym is)

  module _ (k m o : Moment) (a : Answer State ℕ) (h : PutsOf k m (trace_of a)) (part : PutsOf m o (trace_of (does p n (code_of x) s w))) where
    -- what was put of a row up to one of its codes, and of this
    pub then_in_row : a ≡ does p n (code_row (drop i codes)) s w → PutsOf k o (trace_of a)
    then_in_row e =
        then_first k m o a (does p n (code_of x) s w) (does p n (code_row (drop (i + 1) codes))) (e ∙ row_at) (grows_does p n (code_row (drop (i + 1) codes))) h part

    pub then_in_chain : a ≡ does p n (code_chain (drop i codes)) s w → PutsOf k o (trace_of a)
    then_in_chain e =
        then_first k m o a (does p n (code_of x) s w) (does p n (code_chain (drop (i + 1) codes))) (e ∙ chain_at) (grows_does p n (code_chain (drop (i + 1) codes))) h
        part

-- ---- arms

pub arms_at : (p : Program) (n : ℕ) (codes : List HeldCode) (last : Code Step) (i : ℕ) (x : HeldCode) → i < length codes → x ≡ get_or codes i x
    → (s : State) (w : World ℕ) → does p n (arms_list (drop i codes) last) s w ≡ does p n (arm_then x (arms_list (drop (i + 1) codes) last)) s w
arms_at p n codes last i x lt is s w =
    at_drop_more (λ cs. does p n (arms_list cs last) s w) codes i x lt ∙ ap (λ y. does p n (arm_then y (arms_list (drop (i + 1) codes) last)) s w) (sym is)

-- an arm whose condition holds, and one whose condition does not
module _ (p : Program) (n : ℕ) (c b rest : Code Step) (s t u : State) (w v z : World ℕ) (e : does p n c s w ≡ Gives t v) (same : z ≡ v) where
  tested : (f : Bool) → truth t ≡ Tested f u → does p n (Then c (If b rest)) s w ≡ choose (Tested f u) (does p n b) (does p n rest) t v
  tested f h = ap (λ a. and_then a (does p n (If b rest))) e ∙ ap (λ x. choose x (does p n b) (does p n rest) t v) h

  pub arm_goes : truth t ≡ Tested true u → does p n (Then c (If b rest)) s w ≡ does p n b u z
  arm_goes h = tested true h ∙ ap (does p n b u) (sym same)

  pub arm_skips : truth t ≡ Tested false u → does p n (Then c (If b rest)) s w ≡ does p n rest u z
  arm_skips h = tested false h ∙ ap (does p n rest u) (sym same)

-- ---- turns of loops

pub ticked_is : (go : Piece State ℕ) (s : State) (w v : World ℕ) → w.clock ≡ suc v.clock → v ≡ record w { clock = v.clock } → ticked depth_alone go s w ≡ go s v
ticked_is go s w v clock is = search (rules, clock, is)

module _ (p : Program) (n : ℕ) (body next : Code Step) (rest : Piece State ℕ) (g : Grows rest) (s : State) (w : World ℕ) where
  abbrev turn : Answer State ℕ
  turn = turn_of (does p n body) (does p n next) rest s w

  abbrev behind : Piece State ℕ
  behind t u = and_then (does p n next t u) rest

  -- nothing of the turn was done
  pub turn_before : (k m : Moment) → PutsOf k m w.outside.trace → PutsOf k m (trace_of turn)
  turn_before k m h = of_start k m (turn_of (does p n body) (does p n next) rest) s w (grows_one p n body body next rest g) h

  module _ (v : World ℕ) (k m o : Moment) (before : PutsOf k m w.outside.trace) (clock : w.clock ≡ suc v.clock) (is : v ≡ record w { clock = v.clock })
      (in_body : PutsOf m o (trace_of (does p n body s v))) where
    ticks : turn ≡ turned (does p n body s v) behind
    ticks = ticked_is (λ s1 w1. turned (does p n body s1 w1) behind) s w v clock is

    -- its body was done
    pub turn_in_body : PutsOf k o (trace_of turn)
    turn_in_body =
        then_same k m o turn (turned (does p n body s v) behind) ticks (turn_before k m before)
        (of_turned m o (does p n body s v) behind (grows_next (does p n next) rest (grows_does p n next) g) in_body)

    -- and what comes behind it
    pub turn_onward : (q : Moment) (t : State) (u : World ℕ) → turned (does p n body s v) behind ≡ behind t u → PutsOf o q (trace_of (behind t u))
        → PutsOf k q (trace_of turn)
    turn_onward q t u e h = then_same k o q turn (behind t u) (ticks ∙ e) turn_in_body h
