-- Blocks with pops and pushes: their operands are in range, and it is known how many values of four bytes wait before them and behind.
use Rattle.std.specs.Prelude.{ℕ, suc, ◌<◌, Bool, true, false, ◌&&◌, length}
use Rattle.std.proofs.Common.{◌≡◌, refl, arith}
use Rattle.vg_lin.specs.declared.instr.Plain.{Plain as PlainInstr}
use Rattle.vg_lin.specs.declared.instr.Plain.TheVariants.{Copy, Compute, Product, DivideSteps, Load, Store, ReadDevice, WriteDevice, Push, Pop, Find}
use Rattle.vg_lin.specs.declared.instr.Plain.TheVariants.{CodeOf, Stop}
use Rattle.vg_lin.specs.Meaning.{operands}
use Rattle.vg_flatten_shapes.specs.Blocks.{Block, Skip, One, CallTo, TakeInterrupt, GiveBack, BreakOut, GoOn, Both, Choice, Repeat}
use Rattle.vg_flatten_shapes.specs.Made.{Made, Gives, Refused}
use Rattle.vg_flatten_pushed.specs.Pushed.{newer, older}
use Rattle.vg_flatten.proofs.Sound.{IsIn, ArePassedIn, IsTruthIn, IsPlainIn, IsToIn, IsCalleeIn, BlockIn, ShapeIn}
use Rattle.vg_flatten.proofs.Steady.{steady}

abbrev pub PlainOn : (size n m : ℕ) → PlainInstr → Type 0
PlainOn size n m (Push w a) = (w ≡ 4) × IsIn size a × (m ≡ suc n)
PlainOn size n m (Pop w to) = (w ≡ 4) × (to < size) × (n ≡ suc m)
PlainOn size n m p = IsPlainIn size p × (n ≡ m)

-- L is what must hold where there is a loop. Behind each way of a choice as many wait as before it. Nothing waits where code leaves a loop or
-- the procedure, nor around a loop.
abbrev pub BlockOn : (L : Type 0) → (given size n m : ℕ) → Block → Type 0
BlockOn L given size n m Skip = n ≡ m
BlockOn L given size n m (One p) = PlainOn size n m p
BlockOn L given size n m (CallTo pushed c) =
    (n ≡ m) × (c.pushed ≡ length pushed) × ArePassedIn size pushed × IsCalleeIn size c.callee × ArePassedIn size (operands c.registers) × IsToIn size c.to
BlockOn L given size n m TakeInterrupt = n ≡ m
BlockOn L given size n m (GiveBack w a) = (n ≡ 0) × (m ≡ 0) × (w ≡ given) × IsIn size a
BlockOn L given size n m BreakOut = (n ≡ 0) × (m ≡ 0)
BlockOn L given size n m GoOn = (n ≡ 0) × (m ≡ 0)
BlockOn L given size n m (Both a b) = (l : ℕ) × BlockOn L given size n l a × BlockOn L given size l m b
BlockOn L given size n m (Choice t a b) = IsTruthIn size t × (n ≡ m) × BlockOn L given size n n a × BlockOn L given size n n b
BlockOn L given size n m (Repeat p t a b) =
    IsTruthIn size t × ((n ≡ 0) × (m ≡ 0)) × BlockOn L given size 0 0 p × BlockOn L given size 0 0 a × BlockOn L given size 0 0 b × L

-- As many wait behind what was made as are pushed of its shape, and what waits above these is in range.
abbrev pub MadeOn : (L : Type 0) → (given size most n : ℕ) → Made → Type 0
MadeOn L given size most n (Gives b s) = BlockOn L given size n (length (older most s)) b × ShapeIn size (newer most s)
MadeOn L given size most n (Refused why) = Unit {0}

-- A block that pops nothing, and pushes for its calls alone, may stand above any number of values.
plain_on : (size n : ℕ) (p : PlainInstr) → IsPlainIn size p → PlainOn size n n p
plain_on size n (Copy to a) h = (h, refl)
plain_on size n (Compute c) h = (h, refl)
plain_on size n (Product to a b) h = (h, refl)
plain_on size n (DivideSteps a b c) h = (h, refl)
plain_on size n (Load m w to a) h = (h, refl)
plain_on size n (Store w a from) h = (h, refl)
plain_on size n (ReadDevice to a) h = (h, refl)
plain_on size n (WriteDevice a b) h = (h, refl)
plain_on size n (Push w a) h = absurd h
plain_on size n (Pop w to) h = absurd h
plain_on size n (Find d to a) h = (h, refl)
plain_on size n (CodeOf q to) h = (h, refl)
plain_on size n (Stop c) h = (h, refl)

not_true : {B : Type 0} → false ≡ true → B
not_true e = absurd (grind arith)

both_steady : (a b : Bool) → (a && b) ≡ true → (a ≡ true) × (b ≡ true)
both_steady true true e = (refl, refl)
both_steady true false e = not_true e
both_steady false b e = not_true e

pub steady_on : (L : Type 0) (given size n : ℕ) (b : Block) → BlockIn L given size b → steady b ≡ true → BlockOn L given size n n b
steady_on L given size n Skip h e = refl
steady_on L given size n (One p) h e = plain_on size n p h
steady_on L given size n (CallTo pushed c) h e = (refl, h.0, h.1, h.2, h.3, h.4)
steady_on L given size n TakeInterrupt h e = refl
steady_on L given size n (GiveBack w a) h e = not_true e
steady_on L given size n BreakOut h e = not_true e
steady_on L given size n GoOn h e = not_true e
steady_on L given size n (Both a b) h e =
    let k = both_steady (steady a) (steady b) e in (n, steady_on L given size n a h.0 k.0, steady_on L given size n b h.1 k.1)
steady_on L given size n (Choice t a b) h e =
    let k = both_steady (steady a) (steady b) e in (h.0, refl, steady_on L given size n a h.1 k.0, steady_on L given size n b h.2 k.1)
steady_on L given size n (Repeat p t a b) h e = not_true e
