-- That no jump leads back in a block with pops and pushes where it has no loop.
use Rattle.std.specs.Prelude.{ℕ, suc, ◌+◌, ◌<◌, true, ◌&&◌, nat_lt, List, [], ◌∷◌, ◌++◌, length, map}
use Rattle.std.proofs.Common.{◌≡◌, refl, ap, ◌∙◌, subst, arith}
use Rattle.vg_lin.specs.declared.instr.Passed.{Passed}
use Rattle.vg_lin.specs.declared.instr.Call.{Call as Calling}
use Rattle.vg_lin.specs.declared.instr.Instr.TheVariants.{Jump}
use Rattle.vg_lin.specs.Onward.{leads_on, all_lead_on}
use Rattle.vg_flatten_shapes.specs.declared.open.Truth.{Truth}
use Rattle.vg_flatten_shapes.specs.declared.open.Truth.TheVariants.{Holds, Fails}
use Rattle.vg_flatten_shapes.specs.declared.open.Open.{Open}
use Rattle.vg_flatten_shapes.specs.declared.open.Open.TheVariants.{Set, Break, Continue}
use Rattle.vg_flatten_shapes.proofs.Choices.{alone, with_jump, choice_cases}
use Rattle.vg_flatten_shapes.specs.Blocks.{Block, Skip, One, CallTo, TakeInterrupt, GiveBack, BreakOut, GoOn, Both, Choice, Repeat, branch, set_in, call_code, open_code}
use Rattle.vg_flatten.specs.Closing.{AllSet}
use Rattle.vg_flatten.proofs.PushedBlocks.{BlockOn}

-- A jump at a place leads on; one out of a loop is not asked for.
abbrev GoesOn : (at : ℕ) → Open → Type 0
GoesOn at (Set i) = leads_on at i ≡ true
GoesOn at _ = Unit {0}

abbrev AllOn : List Open → (at : ℕ) → Type 0
AllOn [] at = Unit {0}
AllOn (o ∷ os) at = GoesOn at o × AllOn os (suc at)

lt_is : (a b : ℕ) → a < b → nat_lt a b ≡ true
lt_is a b h = grind arith

on_at : (os : List Open) (a b : ℕ) → a ≡ b → AllOn os a → AllOn os b
on_at os a b e h = subst (λ z. AllOn os z) e h

on_both : (os qs : List Open) (at : ℕ) → AllOn os at → AllOn qs (at + length os) → AllOn (os ++ qs) at
on_both [] qs at h g = on_at qs (at + 0) at (omega arith) g
on_both (o ∷ os) qs at h g = (h.0, on_both os qs (suc at) h.1 (on_at qs (at + suc (length os)) (suc at + length os) (omega arith) g))

on_branch : (t : Truth) (at to : ℕ) → at < to → leads_on at (branch t to) ≡ true
on_branch (Holds t) at to h = lt_is at to h
on_branch (Fails t) at to h = lt_is at to h

both_ways : (t : Truth) (at : ℕ) (as' bs : List Open) → AllOn as' (at + 1) → AllOn bs (at + 1 + length as' + 1) → AllOn (with_jump t at as' bs) at
both_ways t at as' bs ha hb = (
  on_branch t at v (omega arith),
  on_both as' (Set (Jump end) ∷ bs) (suc at) (on_at as' (at + 1) (suc at) (omega arith) ha)
      (lt_is (suc at + length as') end (omega arith), on_at bs v (suc (suc at + length as')) (omega arith) hb),
)
  where
    v : ℕ
    v = at + 1 + length as' + 1

    end : ℕ
    end = at + 1 + length as' + 1 + length bs

one_way : (t : Truth) (at : ℕ) (as' : List Open) → AllOn as' (at + 1) → AllOn (alone t at as') at
one_way t at as' ha = (on_branch t at (at + 1 + length as') (omega arith), on_at as' (at + 1) (suc at) (omega arith) ha)

on_call : (pushed : List Passed) (c : Calling) (at : ℕ) → AllOn (call_code pushed c) at
on_call [] c at = (refl, tt)
on_call (a ∷ more) c at = (refl, on_call more c (suc at))

on_block : (given size n m : ℕ) (b : Block) (at : ℕ) → BlockOn ⊥ given size n m b → AllOn (open_code b at) at
on_block given size n m Skip at h = tt
on_block given size n m (One p) at h = (refl, tt)
on_block given size n m (CallTo pushed c) at h = on_call pushed c at
on_block given size n m TakeInterrupt at h = (refl, tt)
on_block given size n m (GiveBack w a) at h = (refl, tt)
on_block given size n m BreakOut at h = (tt, tt)
on_block given size n m GoOn at h = (tt, tt)
on_block given size n m (Both a b) at h =
    on_both (open_code a at) (open_code b (at + length (open_code a at))) at (on_block given size n h.0 a at h.1)
    (on_block given size h.0 m b (at + length (open_code a at)) h.2)
on_block given size n m (Choice t a b) at h =
    choice_cases (λ z. AllOn z at) t at (open_code a (at + 1)) (open_code b (at + 1 + length (open_code a (at + 1)) + 1))
    (λ e. one_way t at (open_code a (at + 1)) (on_block given size n n a (at + 1) h.2))
    (both_ways t at (open_code a (at + 1)) (open_code b (at + 1 + length (open_code a (at + 1)) + 1)) (on_block given size n n a (at + 1) h.2)
    (on_block given size n n b (at + 1 + length (open_code a (at + 1)) + 1) h.3))
on_block given size n m (Repeat p t body next) at h = absurd h.5

on_list : (x y : ℕ) (os : List Open) (at : ℕ) → AllSet os → AllOn os at → all_lead_on at (map (set_in x y) os) ≡ true
on_list x y [] at s h = refl
on_list x y (Set i ∷ os) at s h = ap (λ z. z && all_lead_on (suc at) (map (set_in x y) os)) h.0 ∙ on_list x y os (suc at) s.1 h.1
on_list x y (Break ∷ os) at s h = absurd s.0
on_list x y (Continue ∷ os) at s h = absurd s.0

pub leads_onward : (given size n m : ℕ) (b : Block) → BlockOn ⊥ given size n m b → AllSet (open_code b 0) → all_lead_on 0 (map (set_in 0 0) (open_code b 0)) ≡ true
leads_onward given size n m b h s = on_list 0 0 (open_code b 0) 0 s (on_block given size n m b 0 h)
