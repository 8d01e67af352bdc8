-- What a step becomes has no loop, and gives nothing back; nor has, nor does, what becomes of code that neither loops nor leaves.
use Rattle.std.specs.Prelude.{ℕ, ◌+◌, Bool, true, false, ◌&&◌, List, [], ◌∷◌, reverse, Option, Some, None, if◌then◌else◌}
use Rattle.std.proofs.Common.{◌≡◌, refl, subst, arith}
use Rattle.vg_firm.specs.declared.step.Step.{Step}
use Rattle.vg_firm.specs.declared.step.Step.TheVariants.{Number, This, Local as GetLocal, SetLocal, Forget, Operate, Apply, ReadDevice, WriteDevice, Load, Store}
use Rattle.vg_firm.specs.declared.step.Step.TheVariants.{LoadAt, StoreAt, LoadNothing, StoreNothing, LoadItem, StoreItem, Length, IsWithin}
use Rattle.vg_firm.specs.declared.step.Step.TheVariants.{StopUnlessWithin, Bind, BindFor, Call, CallFor, CallValue, Idle}
use Rattle.vg_lin.specs.declared.instr.Operand.{Operand}
use Rattle.vg_lin.specs.declared.instr.Passed.{Passed}
use Rattle.vg_lin.specs.declared.instr.Operand.TheVariants.{Local, Known}
use Rattle.vg_lin.specs.declared.instr.Plain.TheVariants.{Copy}
use Rattle.vg_meaning.specs.Code.{Code, Nothing, Then, Do, If, Loop, Break, Continue, Return}
use Rattle.vg_lin.specs.Structured.{Step as LinStep}
use Rattle.vg_lin_frames.specs.Frames.{IsStraight}
use Rattle.vg_flatten_shapes.specs.declared.fault.Fault.TheVariants.{NotTaken}
use Rattle.vg_flatten_shapes.specs.declared.layout.Layout.{Layout}
use Rattle.vg_flatten_shapes.specs.declared.open.Truth.{Truth}
use Rattle.vg_flatten_shapes.specs.declared.open.Truth.TheVariants.{Holds, Fails}
use Rattle.vg_flatten_shapes.specs.declared.room.Room.{Room}
use Rattle.vg_flatten_shapes.specs.Blocks.{Block, Skip, One, CallTo, TakeInterrupt, GiveBack, BreakOut, GoOn, Both, Choice, Repeat, structured, picked, pushing}
use Rattle.vg_flatten_shapes.specs.Shapes.{Shape, only, same_operand, same_homes, temp}
use Rattle.vg_flatten_shapes.specs.Made.{Made, Gives, Refused, behind, after, by_temp, settled, settled_as, Tested, tested}
use Rattle.vg_flatten_steps.specs.Steps.{stepped}
use Rattle.vg_flatten_control.specs.Flat.{landed_as, landed, joined, chosen, flat}
use Rattle.vg_flatten_pushed.specs.Stacked.{is_calm}
use Rattle.vg_flatten.proofs.Sound.{AreIn, BlockIn, ShapeIn, MadeIn, in_settled, in_stepped, in_tested, in_flat}

-- the same in a room whose results have other bytes
abbrev giving : ℕ → Room → Room
giving n r = record r { result = n }

same : (lay : Layout) (r : Room) (n : ℕ) (p : Step) (hs : List Operand) → stepped lay (giving n r) p hs ≡ stepped lay r p hs
same lay r n (Number v) hs = refl
same lay r n This hs = refl
same lay r n (GetLocal i) hs = refl
same lay r n (SetLocal i) [] = refl
same lay r n (SetLocal i) (h ∷ hs) = refl
same lay r n Forget hs = refl
same lay r n (Operate op) hs = refl
same lay r n (Apply op) hs = refl
same lay r n (ReadDevice a) hs = refl
same lay r n (WriteDevice a) hs = refl
same lay r n (Load h c) hs = refl
same lay r n (Store c w) hs = refl
same lay r n (LoadAt h c o) hs = refl
same lay r n (StoreAt c o w) hs = refl
same lay r n LoadNothing hs = refl
same lay r n StoreNothing hs = refl
same lay r n (LoadItem e) hs = refl
same lay r n (StoreItem e) hs = refl
same lay r n (Length t) hs = refl
same lay r n (IsWithin a b) hs = refl
same lay r n (StopUnlessWithin a b) hs = refl
same lay r n (Bind q) hs = refl
same lay r n (BindFor d) hs = refl
same lay r n (Call q c) hs = refl
same lay r n (CallFor d c) hs = refl
same lay r n (CallValue c) hs = refl
same lay r n Idle hs = refl

pushing_straight : (xs : List Passed) (c : Code LinStep) → IsStraight c → IsStraight (pushing xs c)
pushing_straight [] c h = h
pushing_straight (a ∷ xs) c h = (tt, pushing_straight xs c h)

picked_straight : (t : Truth) → IsStraight (picked t)
picked_straight (Holds t) = tt
picked_straight (Fails t) = (tt, tt)

-- a result cannot have both so many bytes and one more
block_straight : (size : ℕ) (b : Block) → BlockIn ⊥ 0 size b → BlockIn ⊥ 1 size b → IsStraight (structured b)
block_straight size Skip h g = tt
block_straight size (One p) h g = tt
block_straight size (CallTo pushed c) h g = pushing_straight pushed _ tt
block_straight size TakeInterrupt h g = tt
block_straight size (GiveBack w a) h g = absurd (let e = h.0 in let f = g.0 in omega (arith, e, f))
block_straight size BreakOut h g = tt
block_straight size GoOn h g = tt
block_straight size (Both a b) h g = (block_straight size a h.0 g.0, block_straight size b h.1 g.1)
block_straight size (Choice t a b) h g = (picked_straight t, (block_straight size a h.1 g.1, block_straight size b h.2 g.2))
block_straight size (Repeat p t body next) h g = absurd h.4

abbrev pub AreStraight : Made → Type 0
AreStraight (Gives b s) = IsStraight (structured b)
AreStraight (Refused why) = Unit {0}

made_straight : (size : ℕ) (made : Made) → MadeIn ⊥ 0 size made → MadeIn ⊥ 1 size made → AreStraight made
made_straight size (Gives b s) h g = block_straight size b h.0 g.0
made_straight size (Refused why) h g = tt

pub stepped_straight : (lay : Layout) (r : Room) (p : Step) (hs : List Operand) → AreIn (r.locals + r.temps) hs → AreStraight (stepped lay r p hs)
stepped_straight lay r p hs h =
    made_straight (r.locals + r.temps) (stepped lay r p hs)
    (subst (MadeIn ⊥ 0 (r.locals + r.temps)) (same lay r 0 p hs) (in_stepped ⊥ lay (giving 0 r) p hs h))
    (subst (MadeIn ⊥ 1 (r.locals + r.temps)) (same lay r 1 p hs) (in_stepped ⊥ lay (giving 1 r) p hs h))

-- ---- code that neither loops nor leaves

pub settled_straight : (r : Room) (s : Shape) → AreStraight (settled r s)
settled_straight r s = by_truth s.truth
  where
    by_form : (t : Truth) (to : ℕ) → IsStraight (structured (Choice t (One (Copy to (Known 1))) (One (Copy to (Known 0)))))
    by_form (Holds t) to = (tt, (tt, tt))
    by_form (Fails t) to = ((tt, tt), (tt, tt))

    by_room : (t : Truth) (o : Option ℕ)
        → AreStraight (by_temp o (λ to. Gives (Choice t (One (Copy to (Known 1))) (One (Copy to (Known 0)))) (only (Local to ∷ s.homes))))
    by_room t (Some to) = by_form t to
    by_room t None = tt

    by_truth : (o : Option Truth) → AreStraight (settled_as r o s.homes)
    by_truth None = tt
    by_truth (Some t) = by_room t (temp r s.homes)

straight_behind : (a : Block) (made : Made) → IsStraight (structured a) → AreStraight made → AreStraight (behind a made)
straight_behind a (Gives b s) ha hb = (ha, hb)
straight_behind a (Refused why) ha hb = tt

straight_after : (made : Made) (more : Shape → Made) → AreStraight made → ((s : Shape) → AreStraight (more s)) → AreStraight (after made more)
straight_after (Gives a s) more ha hm = straight_behind a (more s) ha (hm s)
straight_after (Refused why) more ha hm = tt

straight_after_in : (size given : ℕ) (made : Made) (more : Shape → Made) → MadeIn (Unit {0}) given size made → AreStraight made
    → ((s : Shape) → ShapeIn size s → AreStraight (more s)) → AreStraight (after made more)
straight_after_in size given (Gives a s) more hi ha hm = straight_behind a (more s) ha (hm s hi.1)
straight_after_in size given (Refused why) more hi ha hm = tt

landed_as_straight : (r : Room) (hs : List Operand) → AreStraight (landed_as r hs)
landed_as_straight r [] = tt
landed_as_straight r (h ∷ hs) = by_room (temp r hs)
  where
    by_same : (to : ℕ) (b : Bool) → AreStraight (if b then Gives Skip (only (h ∷ hs)) else Gives (One (Copy to h)) (only (Local to ∷ hs)))
    by_same to true = tt
    by_same to false = tt

    by_room : (o : Option ℕ)
        → AreStraight (by_temp o (λ to. if same_operand (Local to) h then Gives Skip (only (h ∷ hs)) else Gives (One (Copy to h)) (only (Local to ∷ hs))))
    by_room (Some to) = by_same to (same_operand (Local to) h)
    by_room None = tt

landed_straight : (r : Room) (made : Made) → AreStraight made → AreStraight (landed r made)
landed_straight r made h =
    straight_after made _ h (λ s. straight_after (settled r s) _ (settled_straight r s) (λ s1. landed_as_straight r s1.homes))

joined_straight : (t : Truth) (x y : Made) → AreStraight x → AreStraight y → AreStraight (joined t x y)
joined_straight t (Refused why) y hx hy = tt
joined_straight t (Gives a s) (Refused why) hx hy = tt
joined_straight t (Gives a s) (Gives b s1) hx hy = by_same (same_homes (reverse s.homes) (reverse s1.homes))
  where
    by_same : (c : Bool) → AreStraight (if c then Gives (Choice t a b) s else Refused NotTaken)
    by_same true = (picked_straight t, (hx, hy))
    by_same false = tt

chosen_straight : (r : Room) (o : Option Tested) (f g : Shape → Made)
    → ((t : Tested) → o ≡ Some t → AreStraight (f (only t.homes)) × AreStraight (g (only t.homes))) → AreStraight (chosen r o f g)
chosen_straight r None f g h = tt
chosen_straight r (Some t) f g h =
    let both = h t refl in
    joined_straight t.truth (landed r (f (only t.homes))) (landed r (g (only t.homes))) (landed_straight r (f (only t.homes)) both.0)
    (landed_straight r (g (only t.homes)) both.1)

pub both_of : (a b : Bool) → (a && b) ≡ true → (a ≡ true) × (b ≡ true)
both_of true true e = (refl, refl)
both_of true false e = absurd (grind arith)
both_of false b e = absurd (grind arith)

pub flat_straight : (lay : Layout) (r : Room) (c : Code Step) (s : Shape) → is_calm c ≡ true → ShapeIn (r.locals + r.temps) s → AreStraight (flat lay r c s)
flat_straight lay r Nothing s e h = tt
flat_straight lay r (Then a b) s e h =
    let both = both_of (is_calm a) (is_calm b) e in
    straight_after_in (r.locals + r.temps) r.result (flat lay r a s) (flat lay r b) (in_flat (Unit {0}) lay r a s (λ l. tt) h)
    (flat_straight lay r a s both.0 h) (λ s1 h1. flat_straight lay r b s1 both.1 h1)
flat_straight lay r (Do p) s e h =
    straight_after_in (r.locals + r.temps) r.result (settled r s) (λ s1. stepped lay r p s1.homes) (in_settled (Unit {0}) lay r s h) (settled_straight r s)
    (λ s1 h1. stepped_straight lay r p s1.homes h1.0)
flat_straight lay r (If a b) s e h =
    let both = both_of (is_calm a) (is_calm b) e in
    chosen_straight r (tested s) (flat lay r a) (flat lay r b) (λ t et.
    let below = (in_tested (Unit {0}) lay r s t h et).1 in
    (flat_straight lay r a (only t.homes) both.0 (below, tt), flat_straight lay r b (only t.homes) both.1 (below, tt)))
flat_straight lay r (Loop c body next) s e h = absurd (grind arith)
flat_straight lay r Break s e h = absurd (grind arith)
flat_straight lay r Continue s e h = absurd (grind arith)
flat_straight lay r Return s e h = absurd (grind arith)
