-- That a block has at most as many instructions as its size says, and that what leads to the last places is long.
use Rattle.std.specs.Prelude.{ℕ, ◌+◌, ◌<◌, ◌≤◌, List, [], ◌∷◌, ◌++◌, length, map}
use Rattle.std.proofs.Common.{arith}
use Rattle.std.proofs.lemmas.List.{length-append, length-map}
use Rattle.vg_lin.specs.declared.instr.Passed.{Passed}
use Rattle.vg_lin.specs.declared.instr.Call.{Call as Calling}
use Rattle.vg_lin.specs.declared.instr.Instr.TheVariants.{Jump}
use Rattle.vg_flatten_shapes.specs.declared.open.Open.{Open}
use Rattle.vg_flatten_shapes.specs.declared.open.Open.TheVariants.{Set}
use Rattle.vg_flatten_shapes.specs.Blocks.{Block, Skip, One, CallTo, TakeInterrupt, GiveBack, BreakOut, GoOn, Both, Choice, Repeat}
use Rattle.vg_flatten_shapes.specs.Blocks.{branch, closed, call_code, open_code, block_size}
use Rattle.vg_flatten_shapes.specs.Made.{Made, Gives, Refused}
use Rattle.vg_flatten_shapes.specs.Laying.{IsLong}
use Rattle.vg_flatten_shapes.proofs.Choices.{choice_cases}

-- what begins at one of the last places
pub late : (at : ℕ) (m : Made) → 65519 < at → IsLong at m
late at (Gives b s) h = omega (arith, h)
late at (Refused why) h = tt

call_long : (pushed : List Passed) (c : Calling) → length (call_code pushed c) ≤ length pushed + 1
call_long [] c = omega arith
call_long (a ∷ more) c = let h = call_long more c in omega (arith, h)

pub block_long : (b : Block) (at : ℕ) → length (open_code b at) ≤ block_size b
block_long Skip at = omega arith
block_long (One p) at = omega arith
block_long (CallTo pushed c) at = call_long pushed c
block_long TakeInterrupt at = omega arith
block_long (GiveBack width a) at = omega arith
block_long BreakOut at = omega arith
block_long GoOn at = omega arith
block_long (Both a b) at =
    let l = length-append (open_code a at) (open_code b (at + length (open_code a at))) in
    let ha = block_long a at in
    let hb = block_long b (at + length (open_code a at)) in
    omega (arith, l, ha, hb)
block_long (Choice t a b) at =
    choice_cases (λ z. length z ≤ 2 + block_size a + block_size b) t at xs ys
    (λ e. let ha = block_long a (at + 1) in omega (arith, ha))
    (let l = length-append xs (Set (Jump (at + 1 + length xs + 1 + length ys)) ∷ ys) in
    let ha = block_long a (at + 1) in
    let hb = block_long b (at + 1 + length xs + 1) in
    omega (arith, l, ha, hb))
  where
    xs : List Open
    xs = open_code a (at + 1)

    ys : List Open
    ys = open_code b (at + 1 + length xs + 1)
block_long (Repeat p t body next) at =
    let l1 = length-append xs (Set (branch t e) ∷ (map (closed e n) ys ++ (zs ++ (Set (Jump at) ∷ [])))) in
    let l2 = length-append (map (closed e n) ys) (zs ++ (Set (Jump at) ∷ [])) in
    let l3 = length-append zs (Set (Jump at) ∷ []) in
    let l4 = length-map ys (closed e n) in
    let hp = block_long p at in
    let hb = block_long body u in
    let hn = block_long next n in
    omega (arith, l1, l2, l3, l4, hp, hb, hn)
  where
    xs : List Open
    xs = open_code p at

    u : ℕ
    u = at + length xs + 1

    ys : List Open
    ys = open_code body u

    n : ℕ
    n = u + length ys

    zs : List Open
    zs = open_code next n

    e : ℕ
    e = n + length zs + 1
