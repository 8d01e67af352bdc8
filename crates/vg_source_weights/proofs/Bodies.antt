-- What a node costs beside its size is at most twice the number of its nodes, and less than that for each node of a row.
use Rattle.std.proofs.Common.{◌≡◌, ◌≤◌, ℕ, ◌+◌, ◌*◌, refl, arith}
use Rattle.std.specs.Prelude.{◌-◌}
use Rattle.vg_syntax.specs.Tree.{Node}
use Rattle.vg_syntax.specs.Tree as tree
use Rattle.vg_syntax.specs.Numbering.{count_nodes}
use Rattle.vg_source.specs.Types.{NoType}
use Rattle.vg_source.specs.Declared.{written_type, length_of}
use Rattle.vg_source.specs.Resolved.{Owner, Scope, Context, Fresh, Onto, Otherwise, head_of, settled}
use Rattle.vg_source.specs.Resolved.{resolved}
use Rattle.vg_argument_nodes.specs.Arguments.{IsNode, AreNodes, ArgumentsAreNodes}
use Rattle.vg_source_weights.specs.Weights.{extras}
use Rattle.vg_source_weights.proofs.Pieces.{Within, wider, front, settles, settles_does, name_within, this_within, member_within, index_within, call_within}
use Rattle.vg_source_weights.proofs.Pieces.{prefixes_within, part_within, type_part_within, default_within, goes_within, onto_within}

-- ---- room

-- how many nodes stand in a row, or one for a node
abbrev tops : Node → ℕ
tops tree.Nothing = 0
tops (tree.Then a rest) = tops a + tops rest
tops (tree.Arm c block rest) = 0
tops _ = 1

few_tops : (a : Node) → tops a ≤ count_nodes a
few_tops tree.Nothing = omega arith
few_tops (tree.Then a rest) = let e = few_tops a in let f = few_tops rest in omega (arith, e, f)
few_tops (tree.Arm c block rest) = omega arith
few_tops _ = omega arith

one_top : (a : Node) → IsNode a → tops a ≡ 1
one_top tree.Nothing h = absurd h
one_top (tree.Then a rest) h = absurd h
one_top (tree.Arm c block rest) h = absurd h
one_top _ h = refl

all_tops : (a : Node) → AreNodes a → length_of a ≤ tops a
all_tops (tree.Then a rest) (h, g) = let e = one_top a h in let f = all_tops rest g in omega (arith, e, f)
all_tops _ h = omega arith

-- what a node may cost
abbrev room : Node → ℕ
room a = 2 * count_nodes a - tops a

-- what is done where no condition holds
abbrev Holds : Context → ℕ → Type 0
Holds (Otherwise last) n = (ls : Scope) → Within (last ls) n
Holds _ n = Unit {0}

module _ (ds : Node) (o : Owner) where
  pub fits : (a : Node) (b : Context) (ls : Scope) (n : ℕ) → ArgumentsAreNodes a → Holds b n → Within (resolved ds o a b ls) (room a + n)
  fits tree.Nothing Fresh ls n s k = (omega arith, omega arith)
  fits tree.Nothing (Onto h) ls n s k = (omega arith, omega arith)
  fits tree.Nothing (Otherwise last) ls n s k = wider (last ls) n (0 + n) (omega arith) (k ls)
  fits (tree.Then a rest) (Onto h) ls n (s, t) k =
      let x = few_tops a in
      let y = few_tops rest in
      let m = resolved ds o a (Onto h) ls in
      wider (resolved ds o (tree.Then a rest) (Onto h) ls) (room a + 0 + (room rest + 0)) (room (tree.Then a rest) + n) (omega (arith, x, y))
      (onto_within rest m (λ j. resolved ds o rest (Onto j) ls) (room a + 0) (room rest + 0) (fits a (Onto h) ls 0 s tt)
      (λ j. fits rest (Onto j) ls 0 t tt))
  fits (tree.Then a rest) Fresh ls n (s, t) k =
      let x = few_tops a in
      let y = few_tops rest in
      let m = resolved ds o a Fresh ls in
      wider (resolved ds o (tree.Then a rest) Fresh ls) (room a + 0 + (room rest + 0)) (room (tree.Then a rest) + n) (omega (arith, x, y))
      (front (settled m).does (resolved ds o rest Fresh (settled m).scope) (room a + 0) (room rest + 0)
      (settles_does m (room a + 0) (fits a Fresh ls 0 s tt)) (fits rest Fresh (settled m).scope 0 t tt))
  fits (tree.Then a rest) (Otherwise last) ls n (s, t) k =
      let x = few_tops a in
      let y = few_tops rest in
      let m = resolved ds o a Fresh ls in
      wider (resolved ds o (tree.Then a rest) (Otherwise last) ls) (room a + 0 + (room rest + 0)) (room (tree.Then a rest) + n) (omega (arith, x, y))
      (front (settled m).does (resolved ds o rest Fresh (settled m).scope) (room a + 0) (room rest + 0)
      (settles_does m (room a + 0) (fits a Fresh ls 0 s tt)) (fits rest Fresh (settled m).scope 0 t tt))
  fits (tree.Arm c block rest) b ls n (s, t, u) k =
      let m = resolved ds o c Fresh ls in
      let x = resolved ds o block Fresh ls in
      let e = settles_does m (room c + 0) (fits c Fresh ls 0 s tt) in
      let f = (fits block Fresh ls 0 t tt).0 in
      let g = (fits rest b x.scope n u k).0 in
      (omega (arith, e, f, g), omega arith)
  -- statements
  fits (tree.Block at body) b ls n s k = let e = (fits body Fresh ls 0 s tt).0 in (omega (arith, e), omega arith)
  fits (tree.Local at x t e) b ls n s k =
      let m = resolved ds o e Fresh ls in
      let f = default_within (written_type t) e (settled m) (room e + 0) (settles_does m (room e + 0) (fits e Fresh ls 0 s tt)) in
      (omega (arith, f), omega arith)
  fits (tree.If at arms otherwise) b ls n (s, t) k =
      wider (resolved ds o (tree.If at arms otherwise) b ls) (room arms + (room otherwise + 0)) (room (tree.If at arms otherwise) + n) (omega arith)
      (fits arms (Otherwise (resolved ds o otherwise Fresh)) ls (room otherwise + 0) s (λ l. fits otherwise Fresh l 0 t tt))
  fits (tree.While at c body) b ls n (s, t) k =
      let e = settles_does (resolved ds o c Fresh ls) (room c + 0) (fits c Fresh ls 0 s tt) in
      let f = (fits body Fresh ls 0 t tt).0 in
      (omega (arith, e, f), omega arith)
  fits (tree.For at first c next body) b ls n (s, t, u, v) k =
      let e = (fits first Fresh ls 0 s tt).0 in
      let f = settles_does (resolved ds o c Fresh ls) (room c + 0) (fits c Fresh ls 0 t tt) in
      let g = (fits next Fresh ls 0 u tt).0 in
      let h = (fits body Fresh ls 0 v tt).0 in
      (omega (arith, e, f, g, h), omega (arith, e))
  fits (tree.Return at e) b ls n s k =
      let m = resolved ds o e Fresh ls in
      let f = default_within NoType e (settled m) (room e + 0) (settles_does m (room e + 0) (fits e Fresh ls 0 s tt)) in
      (omega (arith, f), omega arith)
  fits (tree.Break at) b ls n s k = (omega arith, omega arith)
  fits (tree.Continue at) b ls n s k = (omega arith, omega arith)
  fits (tree.Assign at target e) b ls n (s, t) k =
      let f = (fits target Fresh ls 0 s tt).1 in
      let g = settles_does (resolved ds o e Fresh ls) (room e + 0) (fits e Fresh ls 0 t tt) in
      (omega (arith, f, g), omega arith)
  fits (tree.Eval at e) b ls n s k =
      let f = settles_does (resolved ds o e Fresh ls) (room e + 0) (fits e Fresh ls 0 s tt) in
      (omega (arith, f), omega arith)
  -- expressions
  fits (tree.Number at digits) b ls n s k = (omega arith, omega arith)
  fits (tree.CharLit at spelled) b ls n s k = (omega arith, omega arith)
  fits (tree.StringLit at spelled) b ls n s k = (omega arith, omega arith)
  fits (tree.True at) b ls n s k = (omega arith, omega arith)
  fits (tree.False at) b ls n s k = (omega arith, omega arith)
  fits (tree.Null at) b ls n s k = (omega arith, omega arith)
  fits (tree.This at) b ls n s k = wider (resolved ds o (tree.This at) b ls) 1 (room (tree.This at) + n) (omega arith) (this_within o ls)
  fits (tree.Name at x) b ls n s k = wider (resolved ds o (tree.Name at x) b ls) 1 (room (tree.Name at x) + n) (omega arith) (name_within ds o at.id x ls)
  fits (tree.NewObject at c args) b ls n s k = let e = (fits args Fresh ls 0 s tt).0 in (omega (arith, e), omega arith)
  fits (tree.NewArray at t e) b ls n s k =
      let f = settles_does (resolved ds o e Fresh ls) (room e + 0) (fits e Fresh ls 0 s tt) in
      (omega (arith, f), omega arith)
  fits (tree.Unary at operators e) b ls n s k =
      let m = resolved ds o e Fresh ls in
      wider (resolved ds o (tree.Unary at operators e) b ls) (room e + 0) (room (tree.Unary at operators e) + n) (omega arith)
      (prefixes_within operators (settled m) (room e + 0) (settles_does m (room e + 0) (fits e Fresh ls 0 s tt)))
  fits (tree.Chain at first parts) b ls n (s, t) k =
      let m = resolved ds o first Fresh ls in
      wider (resolved ds o (tree.Chain at first parts) b ls) (room first + 0 + (room parts + 0)) (room (tree.Chain at first parts) + n) (omega arith)
      (goes_within (settled m) (λ h. resolved ds o parts (Onto h) ls) (room first + 0) (room parts + 0)
      (settles m (room first + 0) (fits first Fresh ls 0 s tt))
      (λ h. fits parts (Onto h) ls 0 t tt))
  fits (tree.Part at op e) b ls n s k =
      let m = resolved ds o e Fresh ls in
      wider (resolved ds o (tree.Part at op e) b ls) (1 + (room e + 0)) (room (tree.Part at op e) + n) (omega arith)
      (part_within at.id op (head_of b) (settled m) (room e + 0) (settles_does m (room e + 0) (fits e Fresh ls 0 s tt)))
  fits (tree.TypePart at op t) b ls n s k =
      wider (resolved ds o (tree.TypePart at op t) b ls) 0 (room (tree.TypePart at op t) + n) (omega arith) (type_part_within at.id op (written_type t) ls)
  fits (tree.Postfix at primary suffixes) b ls n (s, t) k =
      let m = resolved ds o primary Fresh ls in
      wider (resolved ds o (tree.Postfix at primary suffixes) b ls) (room primary + 0 + (room suffixes + 0)) (room (tree.Postfix at primary suffixes) + n)
      (omega arith)
      (goes_within m (λ h. settled (resolved ds o suffixes (Onto h) ls)) (room primary + 0) (room suffixes + 0) (fits primary Fresh ls 0 s tt)
      (λ h. settles (resolved ds o suffixes (Onto h) ls) (room suffixes + 0) (fits suffixes (Onto h) ls 0 t tt)))
  fits (tree.Member at x) b ls n s k =
      wider (resolved ds o (tree.Member at x) b ls) 0 (room (tree.Member at x) + n) (omega arith) (member_within ds at.id x ls (head_of b))
  fits (tree.Index at e) b ls n s k =
      let m = resolved ds o e Fresh ls in
      wider (resolved ds o (tree.Index at e) b ls) (room e + 0) (room (tree.Index at e) + n) (omega arith)
      (index_within at.id (settled m) (head_of b) (room e + 0) (settles_does m (room e + 0) (fits e Fresh ls 0 s tt)))
  fits (tree.Call at args) b ls n (g, s) k =
      let x = few_tops args in
      let y = all_tops args g in
      let e = (fits args Fresh ls 0 s tt).0 in
      wider (resolved ds o (tree.Call at args) b ls) (2 * count_nodes args) (room (tree.Call at args) + n) (omega arith)
      (call_within at.id (length_of args) (resolved ds o args Fresh ls) (head_of b) (2 * count_nodes args) (omega (arith, x, y, e)))
  fits _ b ls n s k = (omega arith, omega arith)

-- the code of a body
pub bodies : (ds : Node) (o : Owner) (body : Node) (ls : Scope) → ArgumentsAreNodes body → extras (resolved ds o body Fresh ls).does ≤ 2 * count_nodes body
bodies ds o body ls s = let e = (fits ds o body Fresh ls 0 s tt).0 in omega (arith, e)
