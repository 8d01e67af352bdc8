-- What the instructions of a block name.
use Rattle.std.specs.Prelude.{ℕ, ◌+◌, List, [], ◌∷◌, ◌++◌, length, map}
use Rattle.std.specs.List.{AllByRecursion}
use Rattle.vg_lin.specs.declared.instr.Operand.{Operand}
use Rattle.vg_lin.specs.declared.instr.Passed.{Passed}
use Rattle.vg_lin.specs.declared.instr.Call.{Call as Calling}
use Rattle.vg_lin.specs.declared.instr.Instr.TheVariants.{Jump}
use Rattle.vg_flatten_shapes.specs.declared.open.Open.{Open}
use Rattle.vg_flatten_shapes.specs.declared.open.Open.TheVariants.{Set, Break as Breaking, Continue as Continuing}
use Rattle.vg_flatten_shapes.specs.declared.open.Truth.{Truth}
use Rattle.vg_flatten_shapes.specs.declared.open.Truth.TheVariants.{Holds, Fails}
use Rattle.vg_flatten_shapes.specs.Blocks.{Block, Skip, One, CallTo, TakeInterrupt, GiveBack, BreakOut, GoOn, Both, Choice, Repeat}
use Rattle.vg_flatten_shapes.specs.Blocks.{branch, closed, call_code, open_code, set_in}
use Rattle.vg_flatten_shapes.proofs.Choices.{choice_cases}
use Rattle.vg_flat_names.specs.Names.{PlainNames, TestNames, PassedNames, CallNames, Names}

-- Something holds of both sides of the test that a truth value is.
abbrev pub TruthNames : (Operand → Type 0) → Truth → Type 0
TruthNames Ok (Holds t) = TestNames Ok t
TruthNames Ok (Fails t) = TestNames Ok t

-- It holds of all that a block names.
abbrev pub BlockNames : (Operand → Type 0) → Block → Type 0
BlockNames Ok (One p) = PlainNames Ok p
BlockNames Ok (CallTo pushed c) = PassedNames Ok pushed × CallNames Ok c
BlockNames Ok (GiveBack width a) = Ok a
BlockNames Ok (Both a b) = BlockNames Ok a × BlockNames Ok b
BlockNames Ok (Choice t a b) = TruthNames Ok t × BlockNames Ok a × BlockNames Ok b
BlockNames Ok (Repeat p t body next) = BlockNames Ok p × TruthNames Ok t × BlockNames Ok body × BlockNames Ok next
BlockNames Ok b = Unit {0}

-- It holds of all that instructions name whose places may still be open.
abbrev pub OpenNames : (Operand → Type 0) → List Open → Type 0
OpenNames Ok [] = Unit {0}
OpenNames Ok (Set i ∷ os) = Names Ok i × OpenNames Ok os
OpenNames Ok (Breaking ∷ os) = OpenNames Ok os
OpenNames Ok (Continuing ∷ os) = OpenNames Ok os

module _ (Ok : Operand → Type 0) where
  both : (os qs : List Open) → OpenNames Ok os → OpenNames Ok qs → OpenNames Ok (os ++ qs)
  both [] qs h g = g
  both (Set i ∷ os) qs (h, hs) g = (h, both os qs hs g)
  both (Breaking ∷ os) qs h g = both os qs h g
  both (Continuing ∷ os) qs h g = both os qs h g

  close : (u v : ℕ) (os : List Open) → OpenNames Ok os → OpenNames Ok (map (closed u v) os)
  close u v [] h = tt
  close u v (Set i ∷ os) (h, hs) = (h, close u v os hs)
  close u v (Breaking ∷ os) h = (tt, close u v os h)
  close u v (Continuing ∷ os) h = (tt, close u v os h)

  pub all_set : (u v : ℕ) (os : List Open) → OpenNames Ok os → AllByRecursion (Names Ok) (map (set_in u v) os)
  all_set u v [] h = tt
  all_set u v (Set i ∷ os) (h, hs) = (h, all_set u v os hs)
  all_set u v (Breaking ∷ os) h = (tt, all_set u v os h)
  all_set u v (Continuing ∷ os) h = (tt, all_set u v os h)

  branches : (t : Truth) (to : ℕ) → TruthNames Ok t → Names Ok (branch t to)
  branches (Holds t) to h = h
  branches (Fails t) to h = h

  calling : (pushed : List Passed) (c : Calling) → PassedNames Ok pushed → CallNames Ok c → OpenNames Ok (call_code pushed c)
  calling [] c h g = (g, tt)
  calling (a ∷ more) c (h, hs) g = (h, calling more c hs g)

  pub in_block : (b : Block) (at : ℕ) → BlockNames Ok b → OpenNames Ok (open_code b at)
  in_block Skip at h = tt
  in_block (One p) at h = (h, tt)
  in_block (CallTo pushed c) at (h, g) = calling pushed c h g
  in_block TakeInterrupt at h = (tt, tt)
  in_block (GiveBack w a) at h = (h, tt)
  in_block BreakOut at h = tt
  in_block GoOn at h = tt
  in_block (Both a b) at (h, g) =
      both (open_code a at) (open_code b (at + length (open_code a at))) (in_block a at h) (in_block b (at + length (open_code a at)) g)
  in_block (Choice t a b) at (ht, h, g) =
      choice_cases (OpenNames Ok) t at xs ys (λ e. (branches t (at + 1 + length xs) ht, in_block a (at + 1) h)) (
        branches t (at + 1 + length xs + 1) ht,
        both xs (Set (Jump (at + 1 + length xs + 1 + length ys)) ∷ ys) (in_block a (at + 1) h) (tt, in_block b (at + 1 + length xs + 1) g),
      )
    where
      xs : List Open
      xs = open_code a (at + 1)

      ys : List Open
      ys = open_code b (at + 1 + length xs + 1)
  in_block (Repeat p t body next) at (h, ht, g, i) =
      both xs (Set (branch t e) ∷ (map (closed e n) ys ++ (zs ++ (Set (Jump at) ∷ [])))) (in_block p at h) (
        branches t e ht,
        both (map (closed e n) ys) (zs ++ (Set (Jump at) ∷ [])) (close e n ys (in_block body u g))
            (both zs (Set (Jump at) ∷ []) (in_block next n i) (tt, tt)),
      )
    where
      xs : List Open
      xs = open_code p at

      u : ℕ
      u = at + length xs + 1

      ys : List Open
      ys = open_code body u

      n : ℕ
      n = u + length ys

      zs : List Open
      zs = open_code next n

      e : ℕ
      e = n + length zs + 1
