-- The size of what a node stands for is at most the number of its nodes.
use Rattle.std.proofs.Common.{◌≤◌, ℕ, ◌+◌, false, length, refl, arith}
use Rattle.vg_syntax.specs.Tree.{Node}
use Rattle.vg_syntax.specs.Tree as tree
use Rattle.vg_syntax.specs.Numbering.{count_nodes}
use Rattle.vg_meaning.specs.Code as code
use Rattle.vg_source.specs.Types.{ClassType, ArrayType, NoType}
use Rattle.vg_source.specs.Steps as step
use Rattle.vg_source.specs.Declared.{written_type, length_of}
use Rattle.vg_source.specs.Resolved.{Owner, Scope, NoHead, IsValue, Context, Fresh, Onto, Otherwise, head_of, settled, or_default, store_to, declare}
use Rattle.vg_source.specs.Resolved.{one_loop, resolved}
use Rattle.vg_source_sizes.specs.Arms.{ArmsHaveBlocks}
use Rattle.vg_source_sizes.specs.Sizes.{code_size}
use Rattle.vg_source_sizes.proofs.Pairs.{behind, joined}
use Rattle.vg_source_sizes.proofs.Pieces.{Within, owed, wider, does_within, done, front, stepped, settles, settles_does, name_within, this_within}
use Rattle.vg_source_sizes.proofs.Pieces.{member_within, index_within, call_within, prefixes_within, part_within, type_part_within, default_within}
use Rattle.vg_source_sizes.proofs.Pieces.{goes_within, onto_within}

-- what a context costs: the head that is gone on from, or what is done where no condition holds
abbrev Holds : Context → ℕ → Type 0
Holds Fresh n = Unit {0}
Holds (Onto h) n = owed h ≤ n
Holds (Otherwise last) n = (ls : Scope) → Within (last ls) n

head_owes : (b : Context) (n : ℕ) → Holds b n → owed (head_of b) ≤ n
head_owes Fresh n k = omega arith
head_owes (Onto h) n k = k
head_owes (Otherwise last) n k = omega arith

-- an arm: its condition, its block, and what is done else
arm_within : (c block others : code.Code step.Step) (i j k n : ℕ) → behind false c ≤ i → behind false block ≤ j → behind false others ≤ k
    → 1 + i + j + k ≤ n → behind false (code.Then c (code.If block others)) + 0 ≤ n
arm_within c block others i j k n e f g l = let t = joined c (code.If block others) in omega (arith, e, f, g, l, t)

assigned_within : (aims value : code.Code step.Step) (s : step.Step) (i j n : ℕ) → behind false aims + behind false (code.Do s) ≤ i
    → behind false value ≤ j → i + j ≤ n → behind false (code.Then aims (code.Then value (code.Do s))) + 0 ≤ n
assigned_within aims value s i j n e f l =
    let t = joined aims (code.Then value (code.Do s)) in
    let u = joined value (code.Do s) in
    omega (arith, e, f, l, t, u)

module _ (ds : Node) (o : Owner) where
  pub fits : (a : Node) (b : Context) (ls : Scope) (n : ℕ) → ArmsHaveBlocks a → Holds b n → Within (resolved ds o a b ls) (count_nodes a + n)
  fits tree.Nothing Fresh ls n s k = (omega arith, omega arith)
  fits tree.Nothing (Onto h) ls n s k = (omega arith, omega arith)
  fits tree.Nothing (Otherwise last) ls n s k = wider (last ls) n (0 + n) (omega arith) (k ls)
  fits (tree.Then a rest) (Onto h) ls n (s, t) k =
      let m = resolved ds o a (Onto h) ls in
      wider (resolved ds o (tree.Then a rest) (Onto h) ls) (count_nodes a + n + count_nodes rest) (count_nodes (tree.Then a rest) + n) (omega arith)
      (onto_within rest m (λ j. resolved ds o rest (Onto j) ls) (count_nodes a + n) (count_nodes rest) (fits a (Onto h) ls n s k)
      (λ j. fits rest (Onto j) ls (owed j) t (omega arith)))
  fits (tree.Then a rest) Fresh ls n (s, t) k =
      let m = resolved ds o a Fresh ls in
      wider (resolved ds o (tree.Then a rest) Fresh ls) (count_nodes a + 0 + (count_nodes rest + n)) (count_nodes (tree.Then a rest) + n) (omega arith)
      (front (settled m).does (resolved ds o rest Fresh (settled m).scope) (count_nodes a + 0) (count_nodes rest + n)
      (settles_does m (count_nodes a + 0) (fits a Fresh ls 0 s tt)) (fits rest Fresh (settled m).scope n t tt))
  fits (tree.Then a rest) (Otherwise last) ls n (s, t) k =
      let m = resolved ds o a Fresh ls in
      wider (resolved ds o (tree.Then a rest) (Otherwise last) ls) (count_nodes a + 0 + (count_nodes rest + n)) (count_nodes (tree.Then a rest) + n)
      (omega arith)
      (front (settled m).does (resolved ds o rest Fresh (settled m).scope) (count_nodes a + 0) (count_nodes rest + n)
      (settles_does m (count_nodes a + 0) (fits a Fresh ls 0 s tt)) (fits rest Fresh (settled m).scope n t tt))
  fits (tree.Arm c (tree.Block at body) rest) b ls n (s, (i, t), u) k =
      let m = resolved ds o c Fresh ls in
      let x = resolved ds o (tree.Block at body) Fresh ls in
      let y = resolved ds o rest b x.scope in
      done (code.Then (settled m).does (code.If x.does y.does)) NoHead y.scope (count_nodes (tree.Arm c (tree.Block at body) rest) + n)
      (arm_within (settled m).does x.does y.does (count_nodes c + 0) (count_nodes body + 0) (count_nodes rest + n)
      (count_nodes (tree.Arm c (tree.Block at body) rest) + n) (settles_does m (count_nodes c + 0) (fits c Fresh ls 0 s tt))
      (does_within (resolved ds o body Fresh ls) (count_nodes body + 0) (fits body Fresh ls 0 t tt))
      (does_within y (count_nodes rest + n) (fits rest b x.scope n u k)) (omega arith))
  fits (tree.Arm c _ rest) b ls n (s, (i, t), u) k = absurd i
  -- statements
  fits (tree.Block at body) b ls n s k =
      let e = does_within (resolved ds o body Fresh ls) (count_nodes body + 0) (fits body Fresh ls 0 s tt) in
      (omega (arith, e), omega arith)
  fits (tree.Local at x t e) b ls n s k =
      let m = settled (resolved ds o e Fresh ls) in
      let v = or_default (written_type t) e m in
      let f = default_within (written_type t) e m (count_nodes e + 0) (settles_does (resolved ds o e Fresh ls) (count_nodes e + 0) (fits e Fresh ls 0 s tt)) in
      wider (resolved ds o (tree.Local at x t e) b ls) (1 + (count_nodes e + 0)) (count_nodes (tree.Local at x t e) + n) (omega arith)
      (stepped v.does (step.SetLocal (length ls.declared)) NoHead (declare x (written_type t) ls) (count_nodes e + 0) refl f)
  fits (tree.If at arms otherwise) b ls n (s, t) k =
      wider (resolved ds o (tree.If at arms otherwise) b ls) (count_nodes arms + (count_nodes otherwise + 0)) (count_nodes (tree.If at arms otherwise) + n)
      (omega arith)
      (fits arms (Otherwise (resolved ds o otherwise Fresh)) ls (count_nodes otherwise + 0) s (λ l. fits otherwise Fresh l 0 t tt))
  fits (tree.While at c body) b ls n (s, t) k =
      let e = settles_does (resolved ds o c Fresh ls) (count_nodes c + 0) (fits c Fresh ls 0 s tt) in
      let f = does_within (resolved ds o body Fresh ls) (count_nodes body + 0) (fits body Fresh ls 0 t tt) in
      (omega (arith, e, f), omega arith)
  fits (tree.For at first c next body) b ls n (s, t, u, v) k =
      let x = resolved ds o first Fresh ls in
      let y = resolved ds o next Fresh ls in
      let z = resolved ds o body Fresh ls in
      let m = settled (resolved ds o c Fresh ls) in
      let i = count_nodes first in
      let j = count_nodes c + count_nodes next + count_nodes body in
      let e = does_within x (count_nodes first + 0) (fits first Fresh ls 0 s tt) in
      let f = settles_does (resolved ds o c Fresh ls) (count_nodes c + 0) (fits c Fresh ls 0 t tt) in
      let g = does_within y (count_nodes next + 0) (fits next Fresh ls 0 u tt) in
      let h = does_within z (count_nodes body + 0) (fits body Fresh ls 0 v tt) in
      wider (resolved ds o (tree.For at first c next body) b ls) (i + (1 + j)) (count_nodes (tree.For at first c next body) + n) (omega arith)
      (front x.does (one_loop m z y.does) i (1 + j) (omega (arith, e))
      (done (code.Loop m.does z.does y.does) NoHead z.scope (1 + j) (omega (arith, f, g, h))))
  fits (tree.Return at e) b ls n s k =
      let m = settled (resolved ds o e Fresh ls) in
      let v = or_default NoType e m in
      let f = default_within NoType e m (count_nodes e + 0) (settles_does (resolved ds o e Fresh ls) (count_nodes e + 0) (fits e Fresh ls 0 s tt)) in
      let j = joined v.does code.Return in
      done (code.Then v.does code.Return) NoHead ls (count_nodes (tree.Return at e) + n) (omega (arith, f, j))
  fits (tree.Break at) b ls n s k = (omega arith, omega arith)
  fits (tree.Continue at) b ls n s k = (omega arith, omega arith)
  fits (tree.Assign at target e) b ls n (s, t) k =
      let x = resolved ds o target Fresh ls in
      let v = settled (resolved ds o e Fresh ls) in
      let f = (fits target Fresh ls 0 s tt).1 in
      let g = settles_does (resolved ds o e Fresh ls) (count_nodes e + 0) (fits e Fresh ls 0 t tt) in
      done (code.Then x.aims (code.Then v.does (code.Do (store_to x.store)))) NoHead ls (count_nodes (tree.Assign at target e) + n)
      (assigned_within x.aims v.does (store_to x.store) (count_nodes target + 0) (count_nodes e + 0) (count_nodes (tree.Assign at target e) + n)
      (omega (arith, f)) g (omega arith))
  fits (tree.Eval at e) b ls n s k =
      wider (resolved ds o (tree.Eval at e) b ls) (1 + (count_nodes e + 0)) (count_nodes (tree.Eval at e) + n) (omega arith)
      (stepped (settled (resolved ds o e Fresh ls)).does step.Forget NoHead (settled (resolved ds o e Fresh ls)).scope (count_nodes e + 0) refl
      (settles_does (resolved ds o e Fresh ls) (count_nodes e + 0) (fits e Fresh ls 0 s tt)))
  -- expressions
  fits (tree.Number at digits) b ls n s k = (omega arith, omega arith)
  fits (tree.CharLit at spelled) b ls n s k = (omega arith, omega arith)
  fits (tree.StringLit at spelled) b ls n s k = (omega arith, omega arith)
  fits (tree.True at) b ls n s k = (omega arith, omega arith)
  fits (tree.False at) b ls n s k = (omega arith, omega arith)
  fits (tree.Null at) b ls n s k = (omega arith, omega arith)
  fits (tree.This at) b ls n s k = wider (resolved ds o (tree.This at) b ls) 1 (count_nodes (tree.This at) + n) (omega arith) (this_within o ls)
  fits (tree.Name at x) b ls n s k =
      wider (resolved ds o (tree.Name at x) b ls) 1 (count_nodes (tree.Name at x) + n) (omega arith) (name_within ds o at.id x ls)
  fits (tree.NewObject at c args) b ls n s k =
      wider (resolved ds o (tree.NewObject at c args) b ls) (1 + (count_nodes args + 0)) (count_nodes (tree.NewObject at c args) + n) (omega arith)
      (stepped (resolved ds o args Fresh ls).does (step.NewObject at.id c (length_of args)) (IsValue (ClassType c)) (resolved ds o args Fresh ls).scope
      (count_nodes args + 0) refl
      (does_within (resolved ds o args Fresh ls) (count_nodes args + 0) (fits args Fresh ls 0 s tt)))
  fits (tree.NewArray at t e) b ls n s k =
      wider (resolved ds o (tree.NewArray at t e) b ls) (1 + (count_nodes e + 0)) (count_nodes (tree.NewArray at t e) + n) (omega arith)
      (stepped (settled (resolved ds o e Fresh ls)).does (step.NewArray at.id (written_type t)) (IsValue (ArrayType (written_type t)))
      (settled (resolved ds o e Fresh ls)).scope (count_nodes e + 0) refl
      (settles_does (resolved ds o e Fresh ls) (count_nodes e + 0) (fits e Fresh ls 0 s tt)))
  fits (tree.Unary at operators e) b ls n s k =
      wider (resolved ds o (tree.Unary at operators e) b ls) (1 + (count_nodes e + 0)) (count_nodes (tree.Unary at operators e) + n) (omega arith)
      (prefixes_within operators (settled (resolved ds o e Fresh ls)) (count_nodes e + 0)
      (settles (resolved ds o e Fresh ls) (count_nodes e + 0) (fits e Fresh ls 0 s tt)).0)
  fits (tree.Chain at first parts) b ls n (s, t) k =
      let m = resolved ds o first Fresh ls in
      wider (resolved ds o (tree.Chain at first parts) b ls) (count_nodes first + 0 + count_nodes parts) (count_nodes (tree.Chain at first parts) + n)
      (omega arith)
      (goes_within (settled m) (λ h. resolved ds o parts (Onto h) ls) (count_nodes first + 0) (count_nodes parts)
      (settles m (count_nodes first + 0) (fits first Fresh ls 0 s tt)) (λ h. fits parts (Onto h) ls (owed h) t (omega arith)))
  fits (tree.Part at op e) b ls n s k =
      wider (resolved ds o (tree.Part at op e) b ls) (1 + (count_nodes e + 0) + n) (count_nodes (tree.Part at op e) + n) (omega arith)
      (part_within at.id op (head_of b) (settled (resolved ds o e Fresh ls)) n (count_nodes e + 0) (head_owes b n k)
      (settles_does (resolved ds o e Fresh ls) (count_nodes e + 0) (fits e Fresh ls 0 s tt)))
  fits (tree.TypePart at op t) b ls n s k =
      wider (resolved ds o (tree.TypePart at op t) b ls) 1 (count_nodes (tree.TypePart at op t) + n) (omega arith)
      (type_part_within at.id op (written_type t) ls)
  fits (tree.Postfix at primary suffixes) b ls n (s, t) k =
      let m = resolved ds o primary Fresh ls in
      wider (resolved ds o (tree.Postfix at primary suffixes) b ls) (count_nodes primary + 0 + count_nodes suffixes)
      (count_nodes (tree.Postfix at primary suffixes) + n) (omega arith)
      (goes_within m (λ h. settled (resolved ds o suffixes (Onto h) ls)) (count_nodes primary + 0) (count_nodes suffixes)
      (fits primary Fresh ls 0 s tt)
      (λ h. settles (resolved ds o suffixes (Onto h) ls) (count_nodes suffixes + owed h) (fits suffixes (Onto h) ls (owed h) t (omega arith))))
  fits (tree.Member at x) b ls n s k =
      wider (resolved ds o (tree.Member at x) b ls) 1 (count_nodes (tree.Member at x) + n) (omega arith) (member_within ds at.id x ls (head_of b))
  fits (tree.Index at e) b ls n s k =
      wider (resolved ds o (tree.Index at e) b ls) (1 + (count_nodes e + 0)) (count_nodes (tree.Index at e) + n) (omega arith)
      (index_within at.id (settled (resolved ds o e Fresh ls)) (head_of b) (count_nodes e + 0)
      (settles_does (resolved ds o e Fresh ls) (count_nodes e + 0) (fits e Fresh ls 0 s tt)))
  fits (tree.Call at args) b ls n s k =
      wider (resolved ds o (tree.Call at args) b ls) (1 + (count_nodes args + 0)) (count_nodes (tree.Call at args) + n) (omega arith)
      (call_within at.id (length_of args) (resolved ds o args Fresh ls) (head_of b) (count_nodes args + 0)
      (does_within (resolved ds o args Fresh ls) (count_nodes args + 0) (fits args Fresh ls 0 s tt)))
  fits _ b ls n s k = (omega arith, omega arith)

-- the code of a body
pub bodies : (ds : Node) (o : Owner) (body : Node) (ls : Scope) → ArmsHaveBlocks body → code_size (resolved ds o body Fresh ls).does ≤ count_nodes body
bodies ds o body ls s = let e = does_within (resolved ds o body Fresh ls) (count_nodes body + 0) (fits ds o body Fresh ls 0 s tt) in omega (arith, e)
