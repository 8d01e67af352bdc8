-- What has no local in it declares none.
use Rattle.std.proofs.Common.{◌≡◌, ℕ, refl, ap, ◌∙◌, arith}
use Rattle.vg_syntax.specs.Tree as tree
use Rattle.vg_syntax.specs.Tree.{Node}
use Rattle.vg_source.specs.Nodes.{count_locals}
use Rattle.vg_source.specs.Declared.{written_type, length_of}
use Rattle.vg_source.specs.Resolved.{Owner, Scope, Resolved, Context, Fresh, Onto, Otherwise, settled, head_of, resolved, in_front}
use Rattle.vg_method_locals.proofs.Counting.{extent, first_none, rest_none, settles, name_in, member_in, this_is_in, index_in, call_in, part_in}
use Rattle.vg_method_locals.proofs.Counting.{type_part_in, last_in}

-- what comes where no condition holds declares none
abbrev pub Keeps : Context → Type 0
Keeps (Otherwise last) = (ls : Scope) → extent (last ls).scope ≡ extent ls
Keeps _ = Unit {0}

pub settled_too : (m : Resolved) (k : ℕ) → extent m.scope ≡ k → extent (settled m).scope ≡ k
settled_too m k e = ap extent (settles m) ∙ e

module _ (ds : Node) (o : Owner) where
  pub kept : (a : Node) (b : Context) (ls : Scope) → count_locals a ≡ 0 → Keeps b → extent (resolved ds o a b ls).scope ≡ extent ls
  kept tree.Nothing Fresh ls e k = refl
  kept tree.Nothing (Onto h) ls e k = refl
  kept tree.Nothing (Otherwise last) ls e k = k ls
  kept (tree.Then a rest) (Onto h) ls e k =
      let m = resolved ds o a (Onto h) ls in
      last_in rest m (in_front m.does (resolved ds o rest (Onto m.head) ls)) (extent ls)
      (kept a (Onto h) ls (first_none a rest e) tt) (kept rest (Onto m.head) ls (rest_none a rest e) tt)
  kept (tree.Then a rest) Fresh ls e k =
      kept rest Fresh (settled (resolved ds o a Fresh ls)).scope (rest_none a rest e) tt
      ∙ settled_too (resolved ds o a Fresh ls) (extent ls) (kept a Fresh ls (first_none a rest e) tt)
  kept (tree.Then a rest) (Otherwise last) ls e k =
      kept rest Fresh (settled (resolved ds o a Fresh ls)).scope (rest_none a rest e) tt
      ∙ settled_too (resolved ds o a Fresh ls) (extent ls) (kept a Fresh ls (first_none a rest e) tt)
  kept (tree.Arm c block rest) b ls e k =
      let f = first_none (tree.Then c block) rest e in
      kept rest b (resolved ds o block Fresh ls).scope (rest_none (tree.Then c block) rest e) k ∙ kept block Fresh ls (rest_none c block f) tt
  kept (tree.Block at body) b ls e k = kept body Fresh ls e tt
  kept (tree.Local at x t v) b ls e k = absurd (omega (arith, e))
  kept (tree.If at arms otherwise) b ls e k =
      kept arms (Otherwise (resolved ds o otherwise Fresh)) ls (first_none arms otherwise e)
      (λ l. kept otherwise Fresh l (rest_none arms otherwise e) tt)
  kept (tree.While at c body) b ls e k = kept body Fresh ls (rest_none c body e) tt
  kept (tree.For at first c next body) b ls e k =
      kept body Fresh ls (rest_none (tree.Then (tree.Then first c) next) body e) tt
  kept (tree.Eval at v) b ls e k = settled_too (resolved ds o v Fresh ls) (extent ls) (kept v Fresh ls e tt)
  kept (tree.This at) b ls e k = ap extent (this_is_in o ls)
  kept (tree.Name at x) b ls e k = ap extent (name_in ds o at.id x ls)
  kept (tree.NewObject at c args) b ls e k = kept args Fresh ls e tt
  kept (tree.NewArray at t v) b ls e k = settled_too (resolved ds o v Fresh ls) (extent ls) (kept v Fresh ls e tt)
  kept (tree.Unary at operators v) b ls e k = settled_too (resolved ds o v Fresh ls) (extent ls) (kept v Fresh ls e tt)
  kept (tree.Chain at first parts) b ls e k =
      kept parts (Onto (settled (resolved ds o first Fresh ls)).head) ls (rest_none first parts e) tt
  kept (tree.Part at op v) b ls e k =
      ap extent (part_in at.id op (head_of b) (settled (resolved ds o v Fresh ls)))
      ∙ settled_too (resolved ds o v Fresh ls) (extent ls) (kept v Fresh ls e tt)
  kept (tree.TypePart at op t) b ls e k = ap extent (type_part_in at.id op (written_type t) ls)
  kept (tree.Postfix at primary suffixes) b ls e k =
      let h = (resolved ds o primary Fresh ls).head in
      settled_too (resolved ds o suffixes (Onto h) ls) (extent ls) (kept suffixes (Onto h) ls (rest_none primary suffixes e) tt)
  kept (tree.Member at x) b ls e k = ap extent (member_in ds at.id x ls (head_of b))
  kept (tree.Index at v) b ls e k =
      ap extent (index_in at.id (settled (resolved ds o v Fresh ls)) (head_of b))
      ∙ settled_too (resolved ds o v Fresh ls) (extent ls) (kept v Fresh ls e tt)
  kept (tree.Call at args) b ls e k =
      ap extent (call_in at.id (length_of args) (resolved ds o args Fresh ls) (head_of b)) ∙ kept args Fresh ls e tt
  kept _ b ls e k = refl
