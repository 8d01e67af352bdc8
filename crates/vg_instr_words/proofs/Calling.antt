-- How many words tests and branches take, calls, and returns.
use Rattle.std.specs.Prelude.{ℕ, zero, suc, ◌+◌, ◌*◌, ◌<◌, ◌≤◌, Bool, true, false, not, ◌&&◌, nat_lt, List, [], ◌∷◌, ◌++◌}
use Rattle.std.specs.Prelude.{length, take, drop, Option, Some, None}
use Rattle.std.specs.List.{AllByRecursion}
use Rattle.std.proofs.Common.{◌≡◌, refl, arith}
use Rattle.avr_instr.specs.declared.instr.Instr.TheVariants.{Ret}
use Rattle.avr_isa.specs.Standing.{width, widths}
use Rattle.avr_isa.proofs.Standing.{widths-append}
use Rattle.vg_lin.specs.declared.instr.Operand.{Operand}
use Rattle.vg_lin.specs.declared.instr.Operand.TheVariants.{Local, Known}
use Rattle.vg_lin.specs.declared.instr.Callee.{Callee}
use Rattle.vg_lin.specs.declared.instr.Callee.TheVariants.{Procedure as ByNumber, Code as ByCode}
use Rattle.vg_lin.specs.declared.instr.Passed.{Passed}
use Rattle.vg_lin.specs.declared.instr.Target.{Target}
use Rattle.vg_lin.specs.declared.instr.Test.{Test}
use Rattle.vg_lin.specs.declared.instr.Call.{Call as Calling}
use Rattle.vg_lin.specs.Meaning.{operands}
use Rattle.vg_templates.specs.Layouts.{Layout}
use Rattle.vg_templates.specs.Held.{brings}
use Rattle.vg_templates.specs.Operands.{finds, found_in}
use Rattle.vg_templates.specs.Plain.{pushes_value}
use Rattle.vg_templates.specs.Linkage.{pops, drops_slots, epilogue}
use Rattle.vg_templates.specs.Chains.{compares}
use Rattle.vg_templates.specs.Branches.{near_branch, is_joined, compares_found, tests}
use Rattle.vg_templates.specs.Calls.{Way, Far, Near, ByZ, call_code, sum_of}
use Rattle.vg_templates.specs.Returns.{returns_value, drops, takes_result}
use Rattle.vg_templates.specs.Flow.{Hop, Near as NearBy, Far as FarOff, jump_code, Turn, Direct, Past, branch_code, passes, passed_bytes, carries}
use Rattle.vg_templates.specs.Flow.{goes_by_registers, passes_by, pushed_by_call, aims, way_of, is_none, drops_at_once}
use Rattle.vg_templates.specs.Whole.{call_front, call_bytes, call_back}
use Rattle.vg_templates.proofs.Finding.{found-length}
use Rattle.vg_instr_words.specs.Words.{IsNarrow, brought_words, found_words, test_words, carried_words, dropped_words, passed_words}
use Rattle.vg_instr_words.specs.Words.{callee_words, result_words, call_words}
use Rattle.vg_instr_words.proofs.Chains.{compares_words, joins_behind_words, pops_words, pops_away_words, drops_slots_words}
use Rattle.vg_instr_words.proofs.Operands.{brings_words, finds_words, pushes_value_words, local_z_words, known_z_words, gives_words}

-- ---- jumps and branches

pub jump_words : (h : Hop) → widths (jump_code h) ≤ 2
jump_words (NearBy k) = omega arith
jump_words (FarOff to) = omega arith

branch_one : (bit : ℕ) (wanted : Bool) (k : ℕ) → widths (near_branch bit wanted k) ≡ 1
branch_one bit true k = refl
branch_one bit false k = refl

pub branch_words : (bit : ℕ) (wanted : Bool) (t : Turn) → widths (branch_code bit wanted t) ≤ 3
branch_words bit wanted (Direct k) = let one = branch_one bit wanted k in omega (arith, one)
branch_words bit wanted (Past h) =
    let one = branch_one bit (not wanted) (widths (jump_code h)) in
    let jump = jump_words h in
    let all = widths-append (near_branch bit (not wanted) (widths (jump_code h))) (jump_code h) in omega (arith, one, jump, all)

-- ---- what waits

sum_few : (ws : List ℕ) (n : ℕ) → AllByRecursion (λ (w : ℕ). w ≤ 4) ws → sum_of (take n ws) ≤ 4 * n
sum_few ws zero h = omega arith
sum_few [] (suc n) h = omega arith
sum_few (w ∷ ws) (suc n) h =
    let first = h.0 in
    let rest = sum_few ws n h.1 in omega (arith, first, rest)

drops_words : (p e : Bool) (n : ℕ) → widths (drops (p && e && nat_lt 2 n) n) ≤ n
drops_words true true n = by_many (nat_lt 2 n) refl
  where
    by_many : (b : Bool) → nat_lt 2 n ≡ b → widths (drops b n) ≤ n
    by_many true e = let many : 2 < n = grind (arith, e) in omega (arith, many)
    by_many false e = let all = pops_away_words n in omega (arith, all)
drops_words true false n = let all = pops_away_words n in omega (arith, all)
drops_words false e n = let all = pops_away_words n in omega (arith, all)

call_code_words : (c : Callee) (w : Way) → width (call_code (way_of c w)) ≤ 2
call_code_words (ByNumber q) (Far entry) = omega arith
call_code_words (ByNumber q) (Near k) = omega arith
call_code_words (ByNumber q) ByZ = omega arith
call_code_words (ByCode a) w = omega arith

module _ (l : Layout) where
  -- ---- tests

  compares_found_words : (b : Bool) (t : Test) (left : List ℕ) → length left ≡ t.width
      → widths (compares_found b l t left) ≤ found_words t.right t.width + t.width
  compares_found_words true t left long = let few = joins_behind_words left in omega (arith, few, long)
  compares_found_words false t left long =
      let right = finds_words l t.right 18 t.width in
      let rs = found_in l t.right 18 t.width in
      let few = compares_words left rs in
      let all = widths-append (finds l t.right 18 t.width) (compares left rs) in omega (arith, right, few, all, long)

  pub tests_words : (t : Test) → widths (tests l t) ≤ test_words t
  tests_words t =
      let left = found_in l t.left 22 t.width in
      let found = finds_words l t.left 22 t.width in
      let rest = compares_found_words (is_joined t left) t left (found-length l t.left 22 t.width) in
      let all = widths-append (finds l t.left 22 t.width) (compares_found (is_joined t left) l t left) in omega (arith, found, rest, all)

  -- ---- arguments

  passes_words : (as' : List Passed) → widths (passes l as') + passed_bytes as' ≤ dropped_words as'
  passes_words [] = omega arith
  passes_words (a ∷ as') =
      let one = pushes_value_words l a.width a.value in
      let rest = passes_words as' in
      let all = widths-append (pushes_value l a.width a.value) (passes l as') in omega (arith, one, rest, all)

  carries_words : (r : ℕ) (as' : List Passed) → widths (carries l r as') ≤ carried_words as'
  carries_words r [] = omega arith
  carries_words r (a ∷ as') =
      let one = brings_words l a.value r a.width in
      let rest = carries_words (r + a.width) as' in
      let all = widths-append (brings l a.value r a.width) (carries l (r + a.width) as') in omega (arith, one, rest, all)

  passed_few : (b : Bool) (as' : List Passed) → widths (passes_by b l as') + pushed_by_call b as' ≤ passed_words b as'
  passed_few true as' = let few = carries_words 18 as' in omega (arith, few)
  passed_few false as' = passes_words as'

  -- ---- calls

  callee_few : (c : Callee) (w : Way) → widths (aims l c) + width (call_code (way_of c w)) ≤ callee_words c
  callee_few (ByNumber q) w = let few = call_code_words (ByNumber q) w in omega (arith, few)
  callee_few (ByCode (Local k)) w = let few = local_z_words l k in omega (arith, few)
  callee_few (ByCode (Known x)) w = let same = known_z_words l x in omega (arith, same)

  module _ (ok : IsNarrow l) where
    result_few : (to : Option Target) → widths (takes_result l to) ≤ result_words to
    result_few None = omega arith
    result_few (Some to) = gives_words l ok to.local 22 to.width

    back_words : (ws : List ℕ) (c : Calling) → widths (call_back l ws c) ≤ call_bytes ws c + result_words c.to
    back_words ws c =
        let n = call_bytes ws c in
        let b = drops_at_once l (drop c.pushed ws) n in
        let few = drops_words l.pointed (is_none (drop c.pushed ws)) n in
        let result = result_few c.to in
        let all = widths-append (drops b n) (takes_result l c.to) in omega (arith, few, result, all)

    pub calls_words : (ws : List ℕ) (c : Calling) (w : Way) → AllByRecursion (λ (k : ℕ). k ≤ 4) ws
        → widths (call_front l c ++ call_code (way_of c.callee w) ∷ call_back l ws c) ≤ call_words c
    calls_words ws c w few =
        let b = goes_by_registers c in
        let passed = passed_few b (operands c.registers) in
        let callee = callee_few c.callee w in
        let back = back_words ws c in
        let waited = sum_few ws c.pushed few in
        let front = widths-append (passes_by b l (operands c.registers)) (aims l c.callee) in
        let all = widths-append (call_front l c) (call_code (way_of c.callee w) ∷ call_back l ws c) in
        omega (arith, passed, callee, back, waited, front, all)

    -- ---- returns

    epilogue_words : widths (epilogue l) ≤ 13
    epilogue_words =
        let slots = drops_slots_words l.slots in
        let pop = pops_words l.saved in
        let few = ok.saved in
        let one = widths-append (drops_slots l.slots) (pops l.saved ++ Ret ∷ []) in
        let two = widths-append (pops l.saved) (Ret ∷ []) in omega (arith, slots, pop, few, one, two)

    pub returns_words : (a : Operand) (n : ℕ) → widths (returns_value l a n) ≤ brought_words a n + 13
    returns_words a n =
        let bring = brings_words l a 22 n in
        let leave = epilogue_words in
        let all = widths-append (brings l a 22 n) (epilogue l) in omega (arith, bring, leave, all)
