-- What holds of each instruction of a block.
use Rattle.std.specs.Prelude.{ℕ, ◌+◌, List, [], ◌∷◌, ◌++◌, length, map}
use Rattle.std.specs.List.{AllByRecursion}
use Rattle.vg_lin.specs.declared.instr.Passed.{Passed}
use Rattle.vg_lin.specs.declared.instr.Call.{Call as Calling}
use Rattle.vg_lin.specs.declared.instr.Instr.{Instr}
use Rattle.vg_lin.specs.declared.instr.Instr.TheVariants.{Plain, Jump, Call, Idle}
use Rattle.vg_flatten_shapes.specs.declared.open.Open.{Open}
use Rattle.vg_flatten_shapes.specs.declared.open.Open.TheVariants.{Set, Break as Breaking, Continue as Continuing}
use Rattle.vg_flatten_shapes.specs.declared.open.Truth.{Truth}
use Rattle.vg_flatten_shapes.specs.declared.open.Truth.TheVariants.{Holds, Fails}
use Rattle.vg_flatten_shapes.specs.Blocks.{Block, Skip, One, CallTo, TakeInterrupt, GiveBack, BreakOut, GoOn, Both, Choice, Repeat}
use Rattle.vg_flatten_shapes.specs.Blocks.{branch, closed, call_code, open_code, set_in}
use Rattle.vg_flatten_shapes.proofs.Choices.{choice_cases}
use Rattle.vg_flat_each.specs.Each.{Carries}

-- Of its plain instructions, its calls and those that idle; all others have it anyway.
abbrev pub EachIn : (Instr → Type 0) → Block → Type 0
EachIn Has (One p) = Has (Plain p)
EachIn Has (CallTo pushed c) = Has (Call c)
EachIn Has TakeInterrupt = Has Idle
EachIn Has (Both a b) = EachIn Has a × EachIn Has b
EachIn Has (Choice t a b) = EachIn Has a × EachIn Has b
EachIn Has (Repeat p t body next) = EachIn Has p × EachIn Has body × EachIn Has next
EachIn Has b = Unit {0}

-- Of instructions whose places may still be open.
abbrev pub EachOpen : (Instr → Type 0) → List Open → Type 0
EachOpen Has [] = Unit {0}
EachOpen Has (Set i ∷ os) = Has i × EachOpen Has os
EachOpen Has (Breaking ∷ os) = EachOpen Has os
EachOpen Has (Continuing ∷ os) = EachOpen Has os

module _ (Has : Instr → Type 0) (k : Carries Has) where
  both : (os qs : List Open) → EachOpen Has os → EachOpen Has qs → EachOpen Has (os ++ qs)
  both [] qs h g = g
  both (Set i ∷ os) qs (h, hs) g = (h, both os qs hs g)
  both (Breaking ∷ os) qs h g = both os qs h g
  both (Continuing ∷ os) qs h g = both os qs h g

  close : (u v : ℕ) (os : List Open) → EachOpen Has os → EachOpen Has (map (closed u v) os)
  close u v [] h = tt
  close u v (Set i ∷ os) (h, hs) = (h, close u v os hs)
  close u v (Breaking ∷ os) h = (k.jumps u, close u v os h)
  close u v (Continuing ∷ os) h = (k.jumps v, close u v os h)

  pub all_set : (u v : ℕ) (os : List Open) → EachOpen Has os → AllByRecursion Has (map (set_in u v) os)
  all_set u v [] h = tt
  all_set u v (Set i ∷ os) (h, hs) = (h, all_set u v os hs)
  all_set u v (Breaking ∷ os) h = (k.jumps u, all_set u v os h)
  all_set u v (Continuing ∷ os) h = (k.jumps v, all_set u v os h)

  branches : (t : Truth) (to : ℕ) → Has (branch t to)
  branches (Holds t) to = k.unlesses t to
  branches (Fails t) to = k.whens t to

  calling : (pushed : List Passed) (c : Calling) → Has (Call c) → EachOpen Has (call_code pushed c)
  calling [] c h = (h, tt)
  calling (a ∷ more) c h = (k.pushes a.width a.value, calling more c h)

  pub in_block : (b : Block) (at : ℕ) → EachIn Has b → EachOpen Has (open_code b at)
  in_block Skip at h = tt
  in_block (One p) at h = (h, tt)
  in_block (CallTo pushed c) at h = calling pushed c h
  in_block TakeInterrupt at h = (h, tt)
  in_block (GiveBack w a) at h = (k.returns w a, tt)
  in_block BreakOut at h = tt
  in_block GoOn at h = tt
  in_block (Both a b) at (h, g) =
      both (open_code a at) (open_code b (at + length (open_code a at))) (in_block a at h) (in_block b (at + length (open_code a at)) g)
  in_block (Choice t a b) at (h, g) =
      choice_cases (EachOpen Has) t at xs ys (λ e. (branches t (at + 1 + length xs), in_block a (at + 1) h)) (
        branches t (at + 1 + length xs + 1),
        both xs (Set (Jump (at + 1 + length xs + 1 + length ys)) ∷ ys) (in_block a (at + 1) h)
            (k.jumps (at + 1 + length xs + 1 + length ys), in_block b (at + 1 + length xs + 1) g),
      )
    where
      xs : List Open
      xs = open_code a (at + 1)

      ys : List Open
      ys = open_code b (at + 1 + length xs + 1)
  in_block (Repeat p t body next) at (h, g, i) =
      both xs (Set (branch t e) ∷ (map (closed e n) ys ++ (zs ++ (Set (Jump at) ∷ [])))) (in_block p at h) (
        branches t e,
        both (map (closed e n) ys) (zs ++ (Set (Jump at) ∷ [])) (close e n ys (in_block body u g))
            (both zs (Set (Jump at) ∷ []) (in_block next n i) (k.jumps at, tt)),
      )
    where
      xs : List Open
      xs = open_code p at

      u : ℕ
      u = at + length xs + 1

      ys : List Open
      ys = open_code body u

      n : ℕ
      n = u + length ys

      zs : List Open
      zs = open_code next n

      e : ℕ
      e = n + length zs + 1
