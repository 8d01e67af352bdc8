-- When an instruction of the newer code may stand for one of the older code, or one of the older code be left out, by what is known at places.
use Rattle.std.specs.Prelude.{ℕ, suc, Bool, true, false, ◌==◌, ◌&&◌, ◌||◌, not, nat_lt, nat_le, List}
use Rattle.std.specs.Prelude.{Option, Some, None, slice_get, get_or, if◌then◌else◌}
use Rattle.vg_lin.specs.declared.instr.Operand.{Operand}
use Rattle.vg_lin.specs.declared.instr.Operand.TheVariants.{Local, Known}
use Rattle.vg_lin.specs.declared.instr.Operator.{Operator}
use Rattle.vg_lin.specs.declared.instr.Operator.TheVariants.{Plus, Times, And, Or, Xor, ShiftRight}
use Rattle.vg_lin.specs.declared.instr.Computation.{Computation}
use Rattle.vg_lin.specs.declared.instr.Comparison.{Comparison}
use Rattle.vg_lin.specs.declared.instr.Comparison.TheVariants.{Below, Less, Same}
use Rattle.vg_lin.specs.declared.instr.Test.{Test}
use Rattle.vg_lin.specs.declared.instr.Memory.{Memory}
use Rattle.vg_lin.specs.declared.instr.Memory.TheVariants.{Ram, Flash}
use Rattle.vg_lin.specs.declared.instr.Plain.{Plain as PlainInstr}
use Rattle.vg_lin.specs.declared.instr.Plain.TheVariants.{Copy, Compute, Load, Store, ReadDevice, WriteDevice, Push, Pop, Find, CodeOf, Stop}
use Rattle.vg_lin.specs.declared.instr.Callee.{Callee}
use Rattle.vg_lin.specs.declared.instr.Callee.TheVariants.{Procedure as ByNumber, Code as ByCode}
use Rattle.vg_lin.specs.declared.instr.Passed.{Passed}
use Rattle.vg_lin.specs.declared.instr.Registers.{Registers}
use Rattle.vg_lin.specs.declared.instr.Registers.TheVariants.{Empty, One, Two, Three, Four}
use Rattle.vg_lin.specs.declared.instr.Target.{Target}
use Rattle.vg_lin.specs.declared.instr.Call.{Call as Calling}
use Rattle.vg_lin.specs.declared.instr.Instr.{Instr}
use Rattle.vg_lin.specs.declared.instr.Instr.TheVariants.{Plain, When, Unless, Jump, Call, Return, Idle}
use Rattle.vg_trimming.specs.declared.facts.Twin.{Twin}
use Rattle.vg_trimming.specs.declared.facts.Bound.{Bound}
use Rattle.vg_trimming.specs.declared.facts.Facts.{Facts}
use Rattle.vg_trimming.specs.declared.facts.Learned.{Learned}
use Rattle.vg_trimming.specs.declared.facts.Gain.{Gain}
use Rattle.vg_trimming.specs.declared.facts.Gain.TheVariants.{Nothing, In, Copied}
use Rattle.vg_trimming.specs.declared.facts.Change.{Change}
use Rattle.vg_trimming.specs.declared.facts.Worked.{Worked}
use Rattle.vg_lin.specs.Turns.{counts_at}
use Rattle.vg_trimming.specs.Facts.{same_operator, overwrites, stands_for, bytes_of, is_it, is_filled, found_for, leads_at, no_change}
use Rattle.vg_trimming.specs.Facts.{greatest, most_in, most_of, most_made, most_computed}
use Rattle.vg_trimming.specs.Walking.{checked, tells_less, none_learned, learned_met, learned_unmet, way_leads}

-- ---- plain instructions

abbrev pub same_memory : Memory → Memory → Bool
same_memory Ram Ram = true
same_memory Flash Flash = true
same_memory _ _ = false

-- Both do the same with the same values, but for the local that gets the result.
abbrev pub same_plain : List Twin → (old new : PlainInstr) → Bool
same_plain ts (Copy x a) (Copy y b) = stands_for ts a b
same_plain ts (Compute c) (Compute d) =
    same_operator c.operator d.operator && (c.width == d.width) && stands_for ts c.left d.left && stands_for ts c.right d.right
same_plain ts (Load m w x a) (Load n v y b) = same_memory m n && (w == v) && (a.base == b.base) && stands_for ts a.index b.index
same_plain ts (Store w a u) (Store v b z) = (w == v) && (a.base == b.base) && stands_for ts a.index b.index && stands_for ts u z
same_plain ts (ReadDevice x a) (ReadDevice y b) = a == b
same_plain ts (WriteDevice a u) (WriteDevice b z) = (a == b) && stands_for ts u z
same_plain ts (Push w u) (Push v z) = (w == v) && stands_for ts u z
same_plain ts (Pop w x) (Pop v y) = w == v
same_plain ts (Find d x u) (Find e y z) = (d == e) && stands_for ts u z
same_plain ts (CodeOf q x) (CodeOf r y) = q == r
same_plain ts (Stop c) (Stop d) = c == d
same_plain ts _ _ = false

-- The local that gets the result.
abbrev pub target_of : PlainInstr → Option ℕ
target_of (Copy x a) = Some x
target_of (Compute c) = Some c.to
target_of (Load m w x a) = Some x
target_of (ReadDevice x a) = Some x
target_of (Pop w x) = Some x
target_of (Find d x u) = Some x
target_of (CodeOf q x) = Some x
target_of _ = None

-- How many bytes hold the result, where that is told.
abbrev pub result_bytes : (widths : List ℕ) → PlainInstr → ℕ
result_bytes ws (Copy y b) = bytes_of ws b
result_bytes ws (Compute d) = d.width
result_bytes ws (Load m w y a) = w
result_bytes ws (ReadDevice y a) = 1
result_bytes ws _ = 5

-- The most that an instruction gives the local that gets its result.
abbrev pub most_given : (old : List ℕ) → List Bound → PlainInstr → ℕ
most_given o bs (Copy x a) = most_of o bs a
most_given o bs (Compute c) = most_computed o bs c
most_given o bs (Load m w x a) = most_in w
most_given o bs (ReadDevice x a) = 255
most_given o bs _ = greatest

-- The newer local has no more bytes than the older one, and as many as the value that the latter has.
abbrev pub has_bytes : (old new : List ℕ) → (x y most : ℕ) → Bool
has_bytes o n x y m = nat_le (get_or n y 0) (get_or o x 0) && nat_le m (most_in (get_or n y 0))

-- Both locals hold the same of a value of so many bytes, of which the older one has at most so much.
abbrev pub is_paired : (old new : List ℕ) → (x y bytes most : ℕ) → Bool
is_paired o n x y b m =
    (get_or o x 5 == get_or n y 6) || (nat_le b (get_or o x 0) && nat_le b (get_or n y 0) || has_bytes o n x y m)

abbrev pub gain_in : (old new : List ℕ) → (x y : Option ℕ) → (bytes most : ℕ) → Gain
gain_in o n (Some x) (Some y) b m = if is_paired o n x y b m then In y else Nothing
gain_in o n _ _ b m = Nothing

-- The result goes to none of the operands.
abbrev pub keeps_operands : Computation → Bool
keeps_operands c = not (overwrites (Some c.to) c.left) && not (overwrites (Some c.to) c.right)

-- Both compute the same, and the newer code keeps all of it, which is at most so much.
abbrev pub worked_in : (new : List ℕ) → (most : ℕ) → PlainInstr → PlainInstr → Option Worked
worked_in n m (Compute c) (Compute d) =
    if (nat_le d.width (get_or n d.to 0) || nat_le m (most_in (get_or n d.to 0))) && keeps_operands c
    then Some (record { operator = c.operator; width = c.width; left = c.left; right = c.right; home = d.to }) else None
worked_in n m _ _ = None

abbrev pub both_change : (old new : List ℕ) → List Bound → PlainInstr → PlainInstr → Change
both_change o n bs p q =
    record {
      old = target_of p;
      new = target_of q;
      gain = gain_in o n (target_of p) (target_of q) (result_bytes n q) (most_given o bs p);
      filled = None;
      worked = worked_in n (most_given o bs p) p q;
      most = most_given o bs p;
    }

-- An instruction that gives a local a value and does nothing else.
abbrev pub is_pure : PlainInstr → Bool
is_pure (Copy x a) = true
is_pure (Compute c) = true
is_pure (Load m w x a) = true
is_pure (Find d x u) = true
is_pure (CodeOf q x) = true
is_pure _ = false

abbrev pub copied : (old : List ℕ) → PlainInstr → Gain
copied o (Copy x a) = Copied a (get_or o x 0)
copied o _ = Nothing

-- It is left out; in its place a local of the newer code may get a value that nobody needs.
abbrev pub left_out : (old : List ℕ) → List Bound → PlainInstr → (new : Option ℕ) → Change
left_out o bs p new =
    record { old = target_of p; new = new; gain = copied o p; filled = None; worked = None; most = most_given o bs p }

abbrev pub is_stop : PlainInstr → Bool
is_stop (Stop c) = true
is_stop _ = false

abbrev pub plain_stands : (old new : List ℕ) → List Facts → Facts → (at : ℕ) → PlainInstr → PlainInstr → Bool
plain_stands o n fs a at p q = same_plain a.twins p q && (is_stop p || leads_at n fs a (both_change o n a.bounds p q) (suc at))

-- As many bytes of a result as the newer locals have of its operands are all of it.
abbrev pub fits_result : (new : List ℕ) → Operator → (width : ℕ) → (left right : Operand) → Bool
fits_result n And v l r = nat_le (bytes_of n l) v || nat_le (bytes_of n r) v
fits_result n Or v l r = nat_le (bytes_of n l) v && nat_le (bytes_of n r) v
fits_result n Xor v l r = nat_le (bytes_of n l) v && nat_le (bytes_of n r) v
fits_result n _ v l r = false

-- So many bytes are all of a result, of operands of at most so much; of what is shifted right, all of that.
abbrev pub fits_most : Operator → (width left right : ℕ) → Operand → Bool
fits_most Plus v a b r = nat_le (most_made Plus a b r) (most_in v)
fits_most Times v a b r = nat_le (most_made Times a b r) (most_in v)
fits_most And v a b r = nat_le (most_made And a b r) (most_in v)
fits_most Or v a b r = nat_le (most_made Or a b r) (most_in v)
fits_most Xor v a b r = nat_le (most_made Xor a b r) (most_in v)
fits_most ShiftRight v a b r = nat_le a (most_in v)
fits_most _ v a b r = false

abbrev pub fits_bounds : (old : List ℕ) → List Bound → Computation → (width : ℕ) → Bool
fits_bounds o bs c v = fits_most c.operator v (most_of o bs c.left) (most_of o bs c.right) c.right

abbrev pub narrower : (old new : List ℕ) → Facts → (old new : PlainInstr) → Bool
narrower o n a (Compute c) (Compute d) =
    same_operator c.operator d.operator && nat_le d.width c.width && stands_for a.twins c.left d.left && stands_for a.twins c.right d.right
    && (fits_result n d.operator d.width d.left d.right || fits_bounds o a.bounds c d.width)
narrower o n a _ _ = false

-- The same is computed, with fewer bytes.
abbrev pub narrower_stands : (old new : List ℕ) → List Facts → Facts → (at : ℕ) → PlainInstr → PlainInstr → Bool
narrower_stands o n fs a at p q = narrower o n a p q && leads_at n fs a (both_change o n a.bounds p q) (suc at)

abbrev pub left_out_stands : (old new : List ℕ) → List Facts → Facts → (at : ℕ) → PlainInstr → PlainInstr → Bool
left_out_stands o n fs a at p (Copy z (Known v)) = is_pure p && leads_at n fs a (left_out o a.bounds p (Some z)) (suc at)
left_out_stands o n fs a at p _ = false

-- The local in which the newer code has the result of a computation, where the older code's local holds all of it and no other value comes there.
abbrev pub found_in : (old : List ℕ) → Computation → (new : Option ℕ) → Option Worked → Option ℕ
found_in o c new (Some w) = if nat_le c.width (get_or o c.to 0) && not (is_it new w.home) then Some w.home else None
found_in o c new None = None

abbrev pub reused : (most : ℕ) → (new : Option ℕ) → Computation → (home : ℕ) → Change
reused m new c h = record { old = Some c.to; new = new; gain = In h; filled = None; worked = None; most = m }

abbrev pub reuses : (old new : List ℕ) → List Facts → Facts → (at : ℕ) → Computation → (new : Option ℕ) → (home : Option ℕ) → Bool
reuses o n fs a at c new (Some h) = leads_at n fs a (reused (most_computed o a.bounds c) new c h) (suc at)
reuses o n fs a at c new None = false

-- What is computed is there already: in place of the computation a local may get a value that nobody needs.
abbrev pub reused_stands : (old new : List ℕ) → List Facts → Facts → (at : ℕ) → PlainInstr → PlainInstr → Bool
reused_stands o n fs a at (Compute c) (Copy z (Known v)) = reuses o n fs a at c (Some z) (found_in o c (Some z) (found_for a.worked c))
reused_stands o n fs a at _ _ = false

-- It does with less.
abbrev pub shorter_stands : (old new : List ℕ) → List Facts → Facts → (at : ℕ) → PlainInstr → PlainInstr → Bool
shorter_stands o n fs a at p q = narrower_stands o n fs a at p q || (left_out_stands o n fs a at p q || reused_stands o n fs a at p q)

-- ---- branches

abbrev pub same_comparison : Comparison → Comparison → Bool
same_comparison Below Below = true
same_comparison Less Less = true
same_comparison Same Same = true
same_comparison _ _ = false

abbrev pub is_signed : Comparison → Bool
is_signed Less = true
is_signed _ = false

-- Both see all of the values: where they are not signed, fewer bytes do if the values have no more.
abbrev pub sees_as_much : (new : List ℕ) → (old new : Test) → Bool
sees_as_much n t u =
    (t.width == u.width)
    || not (is_signed u.comparison) && nat_le u.width t.width && nat_le (bytes_of n u.left) u.width && nat_le (bytes_of n u.right) u.width

-- They say the same of values that are not negative, where the first one sees at most so much on its left and on its right.
abbrev pub says_same : (old new : Comparison) → (width left right : ℕ) → Bool
says_same Below Below w a b = true
says_same Same Same w a b = true
says_same Less Below w a b = tells_less Less w a b
says_same _ _ w a b = false

-- Fewer bytes do for values of at most so much.
abbrev pub sees_most : (old new : Test) → (left right : ℕ) → Bool
sees_most t u a b =
    nat_le u.width t.width && nat_le a (most_in u.width) && nat_le b (most_in u.width) && says_same t.comparison u.comparison t.width a b

abbrev pub sees_so : (old new : List ℕ) → List Bound → Test → Test → Bool
sees_so o n bs t u =
    same_comparison t.comparison u.comparison && sees_as_much n t u || sees_most t u (most_of o bs t.left) (most_of o bs t.right)

abbrev pub same_test : (old new : List ℕ) → Facts → Test → Test → Bool
same_test o n a t u = stands_for a.twins t.left u.left && stands_for a.twins t.right u.right && sees_so o n a.bounds t u

abbrev pub filled_in : (old : List ℕ) → List ℕ → (width : ℕ) → Option ℕ → Bool
filled_in o xs w (Some x) = is_filled xs x && nat_le (get_or o x 5) w
filled_in o xs w None = false

-- Nothing is less than what is at most 0.
abbrev pub never_less : Test → (left right : ℕ) → Bool
never_less t a b = tells_less t.comparison t.width a b && (b == 0)

-- What is at most so much is less than a greater number, that the test sees whole.
abbrev pub is_greater : Operand → (most width : ℕ) → Bool
is_greater (Known n) a w = nat_lt a n && nat_le n (most_in w)
is_greater (Local i) a w = false

abbrev pub always_less : Test → (left right : ℕ) → Bool
always_less t a b = tells_less t.comparison t.width a b && is_greater t.right a t.width

-- The test compares with 0 a local that is known not to be 0, or asks whether something is less than 0.
abbrev pub never_holds : (old : List ℕ) → Facts → Test → Bool
never_holds o a t = filled_in o a.filled t.width (checked t) || never_less t (most_of o a.bounds t.left) (most_of o a.bounds t.right)

-- The test asks whether something is less than a number that it does not reach.
abbrev pub always_holds : (old : List ℕ) → Facts → Test → Bool
always_holds o a t = always_less t (most_of o a.bounds t.left) (most_of o a.bounds t.right)

-- ---- calls

abbrev pub same_callee : List Twin → Callee → Callee → Bool
same_callee ts (ByNumber q) (ByNumber r) = q == r
same_callee ts (ByCode a) (ByCode b) = stands_for ts a b
same_callee ts _ _ = false

abbrev pub same_passed : List Twin → Passed → Passed → Bool
same_passed ts a b = (a.width == b.width) && stands_for ts a.value b.value

abbrev pub same_registers : List Twin → Registers → Registers → Bool
same_registers ts Empty Empty = true
same_registers ts (One a) (One b) = same_passed ts a b
same_registers ts (Two a b) (Two c d) = same_passed ts a c && same_passed ts b d
same_registers ts (Three a b c) (Three d e f) = same_passed ts a d && same_passed ts b e && same_passed ts c f
same_registers ts (Four a b c d) (Four e f g h) = same_passed ts a e && same_passed ts b f && same_passed ts c g && same_passed ts d h
same_registers ts _ _ = false

-- A result may be dropped that nobody needs.
abbrev pub same_target : Option Target → Option Target → Bool
same_target None None = true
same_target None (Some u) = false
same_target (Some t) None = true
same_target (Some t) (Some u) = t.width == u.width

abbrev pub local_of : Option Target → Option ℕ
local_of (Some t) = Some t.local
local_of None = None

abbrev pub call_change : (old new : List ℕ) → Calling → Calling → Change
call_change o n c d =
    record {
      old = local_of c.to;
      new = local_of d.to;
      gain = gain_in o n (local_of c.to) (local_of d.to) 5 greatest;
      filled = None;
      worked = None;
      most = greatest;
    }

abbrev pub same_call : List Twin → Calling → Calling → Bool
same_call ts c d = same_callee ts c.callee d.callee && (c.pushed == d.pushed) && same_registers ts c.registers d.registers && same_target c.to d.to

-- ---- returns

-- The newer code gives the same back.
abbrev pub gives_same : List Twin → (width : ℕ) → Operand → Option Instr → Bool
gives_same ts w u (Some (Return v z)) = (w == v) && stands_for ts u z
gives_same ts w u _ = false

-- ---- stops

-- The newer code stops as the older one does.
abbrev pub stops_so : PlainInstr → Option Instr → Bool
stops_so (Stop c) (Some (Plain (Stop d))) = c == d
stops_so p _ = false

-- ---- places

-- What both codes are, with what is known at places of the older one, and where the newer code is when the older one is at a place.
pub record Both : Type 0 where
  pub old : List ℕ  -- the widths of the locals
  pub new : List ℕ
  pub older : List Instr
  pub newer : List Instr
  pub facts : List Facts
  pub places : List ℕ

-- The newer code is at this place where the older one is at that.
abbrev pub is_there : Both → (to place : ℕ) → Bool
is_there b to p = is_it (slice_get b.places to) p

-- Behind a step of the older code that may count, or may not, a way leads to a place of the newer code.
abbrev pub leads_on : Both → Facts → Learned → (spent : Bool) → (to place : ℕ) → Bool
leads_on b a f c to p = way_leads b.older b.facts b.places a f c to p

-- ---- what is left out

abbrev pub plain_passed : Both → Facts → (at : ℕ) → PlainInstr → Bool
plain_passed b a at i = is_pure i && leads_at b.new b.facts a (left_out b.old a.bounds i None) (suc at)

abbrev pub work_passed : Both → Facts → (at : ℕ) → PlainInstr → Bool
work_passed b a at (Compute c) = reuses b.old b.new b.facts a at c None (found_in b.old c None (found_for a.worked c))
work_passed b a at _ = false

-- The newer code stays at its place where the older one makes this step, which doesn't count.
abbrev pub passed_over : Both → Facts → (at place : ℕ) → Instr → Bool
passed_over b a at p (Plain i) = is_there b (suc at) p && (plain_passed b a at i || work_passed b a at i)
passed_over b a at p (When t to) =
    not (counts_at b.older at)
    && (never_holds b.old a t && leads_on b a none_learned true (suc at) p || always_holds b.old a t && leads_on b a none_learned true to p)
passed_over b a at p (Unless t to) =
    not (counts_at b.older at)
    && (never_holds b.old a t && leads_on b a none_learned true to p || always_holds b.old a t && leads_on b a none_learned true (suc at) p)
passed_over b a at p (Jump to) = leads_on b a none_learned true to p
passed_over b a at p _ = false

-- ---- instructions

-- The instruction of the newer code, at this place, stands for that of the older code at its place. The other branch may stand for a branch, with its places
-- the other way round.
abbrev pub instr_stands : Both → Facts → (at place : ℕ) → Instr → Instr → Bool
instr_stands b a at p (Plain i) (Plain j) =
    (is_stop i || is_there b (suc at) (suc p))
    && (plain_stands b.old b.new b.facts a at i j || shorter_stands b.old b.new b.facts a at i j)
instr_stands b a at p (Plain i) (Jump to) = stops_so i (slice_get b.newer to)
instr_stands b a at p (When t to) (When u to') =
    same_test b.old b.new a t u && leads_on b a (learned_met b.old a.bounds t) (counts_at b.older at) to to'
    && leads_on b a (learned_unmet b.old a.bounds t) (counts_at b.older at) (suc at) (suc p)
instr_stands b a at p (Unless t to) (Unless u to') =
    same_test b.old b.new a t u && leads_on b a (learned_unmet b.old a.bounds t) (counts_at b.older at) to to'
    && leads_on b a (learned_met b.old a.bounds t) (counts_at b.older at) (suc at) (suc p)
instr_stands b a at p (When t to) (Unless u to') =
    same_test b.old b.new a t u && leads_on b a (learned_met b.old a.bounds t) (counts_at b.older at) to (suc p)
    && leads_on b a (learned_unmet b.old a.bounds t) (counts_at b.older at) (suc at) to'
instr_stands b a at p (Unless t to) (When u to') =
    same_test b.old b.new a t u && leads_on b a (learned_unmet b.old a.bounds t) (counts_at b.older at) to (suc p)
    && leads_on b a (learned_met b.old a.bounds t) (counts_at b.older at) (suc at) to'
instr_stands b a at p (Unless t to) (Jump to') = never_holds b.old a t && leads_on b a none_learned (counts_at b.older at) to to'
instr_stands b a at p (When t to) (Jump to') = always_holds b.old a t && leads_on b a none_learned (counts_at b.older at) to to'
instr_stands b a at p (Jump to) (Jump to') = leads_on b a none_learned false to to'
instr_stands b a at p (Call c) (Call d) =
    is_there b (suc at) (suc p) && same_call a.twins c d && leads_at b.new b.facts a (call_change b.old b.new c d) (suc at)
instr_stands b a at p (Return w u) (Return v z) = (w == v) && stands_for a.twins u z
instr_stands b a at p (Return w u) (Jump to) = gives_same a.twins w u (slice_get b.newer to)
instr_stands b a at p Idle Idle = is_there b (suc at) (suc p) && leads_at b.new b.facts a no_change (suc at)
instr_stands b a at p _ _ = false

abbrev pub stands_by : Both → Facts → (at place : ℕ) → Instr → Option Instr → Bool
stands_by b a at p i (Some j) = instr_stands b a at p i j
stands_by b a at p i None = false

-- What is known at a place of the older code is kept by both instructions; where no run comes there is nothing to keep.
abbrev pub place_stands : Both → Facts → (at place : ℕ) → Instr → Bool
place_stands b a at p i = if a.reached then passed_over b a at p i || stands_by b a at p i (slice_get b.newer p) else true

abbrev pub stands_at : Both → (at : ℕ) → Option Facts → Option Instr → (place : Option ℕ) → Bool
stands_at b at (Some a) (Some i) (Some p) = place_stands b a at p i
stands_at b at _ _ _ = false
