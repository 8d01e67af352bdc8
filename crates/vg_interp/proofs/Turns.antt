-- Turns of loops, opened calls, and chains.
use Rattle.std.proofs.Common.{◌≡◌, ◌≢◌, ℕ, zero, suc, ◌-◌, ◌+◌, ◌==◌, ◌&&◌, length, take, rules, Bool, true, false, List, [], ◌∷◌, refl, sym, ap, ◌∙◌, arith}
use Rattle.std.specs.Prelude.{Ok}
use Rattle.vg_meaning.specs.History.{Active, depth_alone}
use Rattle.vg_meaning.specs.World.{World}
use Rattle.vg_meaning.specs.Answer.{Answer, Gives, Ends, Piece, OutOfClock, over, and_then, passes}
use Rattle.vg_meaning.specs.Calls.{opened, closed}
use Rattle.vg_meaning.specs.Clock.{ticked}
use Rattle.vg_meaning.specs.Code.{Nothing}
use Rattle.vg_meaning.specs.Loops.{turned, turns}
use Rattle.vg_core.specs.declared.code.Code.{Code as HeldCode}
use Rattle.vg_core.specs.HeldProgram.{code_of, code_chain}
use Rattle.vg_core.specs.Program.{Program}
use Rattle.vg_core.specs.declared.value.CoreValue.{CoreValue}
use Rattle.vg_core.specs.declared.program.Target.{Target}
use Rattle.vg_core.specs.declared.types.CoreType.{CoreType}
use Rattle.vg_core.specs.Program.{Body}
use Rattle.vg_core.specs.State.{State, are_of, onto}
use Rattle.vg_core.specs.Meaning.{activity, checked}
use Rattle.vg_interp_run.specs.declared.signal.Signal.{Signal}
use Rattle.vg_interp_run.specs.declared.signal.Signal.TheVariants.{Break, Continue, Return, Stops, Wants, Touches, Done, OutOfClock as Spent, OutOfDepth, OutOfRoom, Wrong, NoMemory}
use Rattle.vg_interp_run.specs.declared.run.Run.{Run}
use Rattle.vg_interp_run.specs.declared.signal.Exit.{Exit}
use Rattle.vg_interp_run.specs.declared.signal.Exit.TheVariants as exit
use Rattle.vg_interp_run.specs.Exits.{Exits, told}
use Rattle.vg_interp_run.specs.Run.{state, world, Signals}
use Rattle.vg_interp.specs.Running.{calling, does, looks_up, opens, runs, Chooses}

-- What is done for a turn behind the condition.
abbrev pub turn_of : (body next rest : Piece State ℕ) → Piece State ℕ
turn_of body next rest s w = ticked depth_alone (λ s1 w1. turned (body s1 w1) (λ s2 w2. and_then (next s2 w2) rest)) s w

-- one turn and those behind it
pub turns_on : (n m : ℕ) (holds : Piece State ℕ → Piece State ℕ) (body next : Piece State ℕ) (s : State) (w : World ℕ) → n ≡ m + 1
    → turns depth_alone n holds body next s w ≡ holds (turn_of body next (turns depth_alone m holds body next)) s w
turns_on zero m holds body next s w e = absurd (omega (arith, e))
turns_on (suc n) m holds body next s w e =
    let same : n ≡ m = omega (arith, e) in
    ap (λ k. holds (turn_of body next (turns depth_alone k holds body next)) s w) same

-- no turn is left
pub turns_end : (n : ℕ) (holds : Piece State ℕ → Piece State ℕ) (body next : Piece State ℕ) (s : State) (w : World ℕ) → n ≡ 0
    → turns depth_alone n holds body next s w ≡ holds (over OutOfClock) s w
turns_end zero holds body next s w e = refl
turns_end (suc n) holds body next s w e = absurd (omega (arith, e))

-- a call that could be opened
pub opened_is : (a : Active) (go : Piece State ℕ) (s : State) (w v : World ℕ) → w.clock ≡ suc v.clock → v ≡ record w { clock = v.clock; history = suc w.history }
    → passes w.deepest (suc w.history) ≡ false → opened depth_alone a go s w ≡ and_then (go s v) (closed depth_alone)
opened_is a go s w v clock is shallow = search (rules, clock, is, shallow)

-- a call by what it looks up
pub call_is : (p : Program) (n : ℕ) (t : Target) (count : ℕ) (self : CoreValue) (s : State) (w : World ℕ) → n ≢ 0
    → calling p n t count self s w ≡ looks_up p (n - 1) t count self s w
call_is p zero t count self s w ne = absurd (ne refl)
call_is p (suc n) t count self s w ne = let e : n ≡ suc n - 1 = omega arith in ap (λ k. looks_up p k t count self s w) e

given : (a : Answer State ℕ) → and_then a (λ s w. Gives s w) ≡ a
given (Gives s w) = refl
given (Ends why s w) = refl

-- the first of a chain, and what is left of it
pub chain_on : (p : Program) (n : ℕ) (c : HeldCode) (cs : List HeldCode) (s : State) (w : World ℕ)
    → does p n (code_chain (c ∷ cs)) s w ≡ and_then (does p n (code_of c) s w) (does p n (code_chain cs))
chain_on p n c [] s w = sym (given (does p n (code_of c) s w))
chain_on p n c (d ∷ cs) s w = refl

-- the meaning goes on where the answer is yes, and ends well where it is no
pub chosen : (b : Bool) (go : Piece State ℕ) (r : Run) (a : Answer State ℕ) → b ≡ true → Chooses (Ok b) go r a → a ≡ go (state r) (world r)
chosen true go r a e h = h
chosen false go r a e h = cc

pub not_chosen : (b : Bool) (go : Piece State ℕ) (r : Run) (a : Answer State ℕ) → b ≡ false → Chooses (Ok b) go r a → a ≡ Gives (state r) (world r)
not_chosen true go r a e h = cc
not_chosen false go r a e h = h

-- where nothing comes behind, both answers are an end that is well
pub arm_over : (b : Bool) (p : Program) (n : ℕ) (r : Run) (a : Answer State ℕ) → Chooses (Ok b) (does p n Nothing) r a → a ≡ Gives (state r) (world r)
arm_over true p n r a h = h
arm_over false p n r a h = h

-- what has ended has ended before what would come behind it
pub signals_on : (why : Signal) (s : State) (w : World ℕ) (a : Answer State ℕ) (go : Piece State ℕ) → Signals why s w a → Signals why s w (and_then a go)
signals_on Break s w a go h = ap (λ x. and_then x go) h
signals_on Continue s w a go h = ap (λ x. and_then x go) h
signals_on Return s w a go h = ap (λ x. and_then x go) h
signals_on (Stops code at) s w a go h = ap (λ x. and_then x go) h
signals_on (Wants x) s w a go h = ap (λ x. and_then x go) h
signals_on (Touches x) s w a go h = ap (λ x. and_then x go) h
signals_on Done s w a go h = ap (λ x. and_then x go) h
signals_on Spent s w a go h = ap (λ x. and_then x go) h
signals_on OutOfDepth s w a go h = ap (λ x. and_then x go) h
signals_on OutOfRoom s w a go h = ap (λ x. and_then x go) h
signals_on Wrong s w (Gives t v) go h = absurd h
signals_on Wrong s w (Ends why t v) go h = h
signals_on NoMemory s w a go h = h

pub exits_on : (why : Exit) (r : Run) (a : Answer State ℕ) (go : Piece State ℕ) → Exits why r a → Exits why r (and_then a go)
exits_on exit.Break r a go h = ap (λ x. and_then x go) h
exits_on exit.Continue r a go h = ap (λ x. and_then x go) h
exits_on exit.Return r a go h = ap (λ x. and_then x go) h
exits_on exit.Stops r a go h = ap (λ x. and_then x go) h
exits_on exit.Wants r a go h = ap (λ x. and_then x go) h
exits_on exit.Touches r a go h = ap (λ x. and_then x go) h
exits_on exit.Done r a go h = ap (λ x. and_then x go) h
exits_on exit.OutOfClock r a go h = ap (λ x. and_then x go) h
exits_on exit.OutOfDepth r a go h = ap (λ x. and_then x go) h
exits_on exit.OutOfRoom r a go h = ap (λ x. and_then x go) h
exits_on exit.Wrong r (Gives t v) go h = absurd h
exits_on exit.Wrong r (Ends why t v) go h = h
exits_on exit.NoMemory r a go h = h

-- the signal of an exit
pub exits_told : (why : Exit) (r : Run) (a : Answer State ℕ) → Exits why r a → Signals (told why r.cause) (state r) (world r) a
exits_told exit.Break r a h = h
exits_told exit.Continue r a h = h
exits_told exit.Return r a h = h
exits_told exit.Stops r a h = h
exits_told exit.Wants r a h = h
exits_told exit.Touches r a h = h
exits_told exit.Done r a h = h
exits_told exit.OutOfClock r a h = h
exits_told exit.OutOfDepth r a h = h
exits_told exit.OutOfRoom r a h = h
exits_told exit.Wrong r a h = h
exits_told exit.NoMemory r a h = h

both_true : (a b : Bool) → (a && b) ≡ true → (a ≡ true) × (b ≡ true)
both_true true b e = (refl, e)
both_true false b e = cc

-- a call whose arguments fit, and that could be opened
pub open_is : (p : Program) (n : ℕ) (t : Target) (params : List CoreType) (result : CoreType) (b : Body) (count : ℕ) (self : CoreValue) (s : State) (w v : World ℕ)
    → ((length params == count) && are_of p.tables s.heap.cells (onto params []) (take count s.values)) ≡ true
    → w.clock ≡ suc v.clock → v ≡ record w { clock = v.clock; history = suc w.history } → passes w.deepest (suc w.history) ≡ false
    → opens p n t params result b count self s w ≡ and_then (runs p n result b count self s v) (closed depth_alone)
open_is p n t params result b count self s w v fit clock is shallow =
    let both = both_true (length params == count) (are_of p.tables s.heap.cells (onto params []) (take count s.values)) fit in
    let go : Piece State ℕ = opened depth_alone (activity t) (runs p n result b count self) in
    ap (λ x. checked x (λ s1. checked (are_of p.tables s1.heap.cells (onto params []) (take count s1.values)) go s1) s w) both.0
    ∙ ap (λ x. checked x go s w) both.1
    ∙ opened_is (activity t) (runs p n result b count self) s w v clock is shallow
