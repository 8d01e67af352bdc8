-- Code that breaks no rule declares locals of sized types.
use Rattle.std.proofs.Common.{◌≡◌, sym, subst, true, None}
use Rattle.vg_syntax.specs.Tree.{TypeTree, Node}
use Rattle.vg_syntax.specs.Tree as tree
use Rattle.vg_source.specs.Declared.{written_type}
use Rattle.vg_source.specs.Nodes.{nodes}
use Rattle.vg_source.specs.Resolved.{Owner, Scope, Resolved, Context, Fresh, Onto, Otherwise, head_of, settled, resolved, no_arm, last_target}
use Rattle.vg_rules.specs.Breach.{asks}
use Rattle.vg_rules.specs.Bodies.{Body, looped, breach, primary_breach}
use Rattle.vg_rules.specs.Written.{type_keeps}
use Rattle.vg_source_ranges.specs.Spelled.{IsProper}
use Rattle.vg_source_ranges.proofs.Numbers.{small_type, wide_type}
use Rattle.vg_source_ranges.proofs.Bodies.{kept, asked, halves}
use Rattle.vg_source_widths.proofs.Scopes.{settles, name_in, member_in, this_is_in, index_in, call_in, part_in, type_part_in}
use Rattle.vg_written_locals.specs.Locals.{HasWrittenTypes, HaveWrittenTypes}
use Rattle.vg_source_widths.specs.Sized.{IsSized, AreSized}

-- what was declared is sized
abbrev pub W : Scope → Type 0
W ls = AreSized ls.declared

pub sized_type : (ds : Node) (t : TypeTree) → type_keeps ds t ≡ true → IsProper t → IsSized (written_type t)
sized_type ds t e h = (small_type ds t e, wide_type ds t e h)

same : (m ls : Scope) → m ≡ ls → W ls → W m
same m ls e s = subst W (sym e) s

settle : (m : Resolved) → W m.scope → W (settled m).scope
settle m s = same (settled m).scope m.scope (settles m) s

last : (rest : Node) (a b : Resolved) → W a.scope → W b.scope → W (last_target rest a b).scope
last tree.Nothing a b g h = g
last _ a b g h = h

pub two : (a b : Node) → HaveWrittenTypes (tree.Then a b) → HaveWrittenTypes a × HaveWrittenTypes b
two a b w = halves HasWrittenTypes (nodes a) (nodes b) w

-- the context in which a breach is looked for
abbrev plain : Context → Context
plain Fresh = Fresh
plain (Onto h) = Onto h
plain (Otherwise last) = Fresh

module _ (ds : Node) where
  -- what comes where no condition holds declares no others
  abbrev Behind : (o : Owner) → Node → Context → Scope → Type 0
  Behind o a (Otherwise last) ls = W (last (resolved ds o a Fresh ls).scope).scope
  Behind o a _ ls = Unit {0}

  behind_arm : (o : Owner) (c block rest : Node) (b : Context) (ls : Scope) → Behind o (tree.Arm c block rest) b ls
      → Behind o rest b (resolved ds o block Fresh ls).scope
  behind_arm o c block rest Fresh ls z = tt
  behind_arm o c block rest (Onto h) ls z = tt
  behind_arm o c block rest (Otherwise last) ls z = z

  no_more : (o : Owner) (b : Context) (ls : Scope) → Behind o tree.Nothing b ls → W ls → W (no_arm b ls).scope
  no_more o (Otherwise last) ls z s = z
  no_more o Fresh ls z s = s
  no_more o (Onto h) ls z s = s

  sized : (a : Node) (k : Body) (b : Context) (ls : Scope) → breach ds k a (plain b) ls ≡ None → Behind k.owner a b ls → W ls → HaveWrittenTypes a
      → W (resolved ds k.owner a b ls).scope
  sized tree.Nothing k b ls e z s w = no_more k.owner b ls z s
  sized (tree.Then a rest) k (Onto h) ls e z s w =
      let q = kept (breach ds k a (Onto h) ls) _ e in
      let v = two a rest w in last rest _ _ (sized a k (Onto h) ls q.0 tt s v.0) (sized rest k (Onto _) ls q.1 tt s v.1)
  sized (tree.Then a rest) k Fresh ls e z s w =
      let q = kept (breach ds k a Fresh ls) _ e in
      let v = two a rest w in sized rest k Fresh _ q.1 tt (settle (resolved ds k.owner a Fresh ls) (sized a k Fresh ls q.0 tt s v.0)) v.1
  sized (tree.Then a rest) k (Otherwise last) ls e z s w =
      let q = kept (breach ds k a Fresh ls) _ e in
      let v = two a rest w in sized rest k Fresh _ q.1 tt (settle (resolved ds k.owner a Fresh ls) (sized a k Fresh ls q.0 tt s v.0)) v.1
  sized (tree.Arm c block rest) k b ls e z s w =
      let q = kept (breach ds k c Fresh ls) _ e in
      let r = kept (breach ds k block Fresh ls) _ q.1 in
      let w1 = two (tree.Then c block) rest w in
      let w2 = two c block w1.0 in
      sized rest k b (resolved ds k.owner block Fresh ls).scope r.1 (behind_arm k.owner c block rest b ls z) (sized block k Fresh ls r.0 tt s w2.1) w1.1
  sized (tree.Block at body) k b ls e z s w = sized body k Fresh ls e tt s w.1
  sized (tree.Local at x t v) k b ls e z s w =
      let q = kept (breach ds k v Fresh ls) _ e in
      let r = kept _ _ q.1 in
      let u = kept (asks (type_keeps ds t) 8 at) _ r.1 in (sized_type ds t (asked (type_keeps ds t) 8 at u.0) w.0, s)
  sized (tree.If at arms otherwise) k b ls e z s w =
      let q = kept (breach ds k arms Fresh ls) _ e in
      let r = kept (breach ds k otherwise Fresh (resolved ds k.owner arms Fresh ls).scope) _ q.1 in
      let w1 = two arms otherwise w.1 in
      sized arms k (Otherwise (resolved ds k.owner otherwise Fresh)) ls q.0
      (sized otherwise k Fresh (resolved ds k.owner arms Fresh ls).scope r.0 tt (sized arms k Fresh ls q.0 tt s w1.0) w1.1) s w1.0
  sized (tree.While at c body) k b ls e z s w =
      let q = kept (breach ds k c Fresh ls) _ e in
      let r = kept (breach ds (looped k) body Fresh ls) _ q.1 in sized body (looped k) Fresh ls r.0 tt s (two c body w.1).1
  sized (tree.For at first c next body) k b ls e z s w =
      let q = kept (breach ds k first Fresh ls) _ e in
      let r = kept (breach ds k c Fresh ls) _ q.1 in
      let u = kept (breach ds k next Fresh ls) _ r.1 in
      let v = kept (breach ds (looped k) body Fresh ls) _ u.1 in
      sized body (looped k) Fresh ls v.0 tt s (two (tree.Then (tree.Then first c) next) body w.1).1
  sized (tree.Eval at v) k b ls e z s w = settle (resolved ds k.owner v Fresh ls) (sized v k Fresh ls e tt s w.1)
  sized (tree.This at) k b ls e z s w = same _ ls (this_is_in k.owner ls) s
  sized (tree.Name at x) k b ls e z s w = same _ ls (name_in ds k.owner at.id x ls) s
  sized (tree.NewObject at c args) k b ls e z s w = sized args k Fresh ls (kept (breach ds k args Fresh ls) _ e).0 tt s w.1
  sized (tree.NewArray at t v) k b ls e z s w =
      settle (resolved ds k.owner v Fresh ls) (sized v k Fresh ls (kept (breach ds k v Fresh ls) _ e).0 tt s w.1)
  sized (tree.Unary at operators v) k b ls e z s w =
      settle (resolved ds k.owner v Fresh ls) (sized v k Fresh ls (kept (breach ds k v Fresh ls) _ e).0 tt s w.1)
  sized (tree.Chain at first parts) k b ls e z s w =
      sized parts k (Onto _) ls (kept (breach ds k first Fresh ls) _ e).1 tt s (two first parts w.1).1
  sized (tree.Part at op v) k b ls e z s w =
      let m = settled (resolved ds k.owner v Fresh ls) in
      let g = settle (resolved ds k.owner v Fresh ls) (sized v k Fresh ls (kept (breach ds k v Fresh ls) _ e).0 tt s w.1) in
      same _ m.scope (part_in at.id op (head_of b) m) g
  sized (tree.TypePart at op t) k b ls e z s w = same _ ls (type_part_in at.id op _ ls) s
  sized (tree.Postfix at p suffixes) k b ls e z s w =
      let q = kept (primary_breach ds k.owner ls p suffixes (breach ds k p Fresh ls)) _ e in
      settle (resolved ds k.owner suffixes (Onto (resolved ds k.owner p Fresh ls).head) ls) (sized suffixes k (Onto _) ls q.1 tt s (two p suffixes w.1).1)
  sized (tree.Member at x) k b ls e z s w = same _ ls (member_in ds at.id x ls (head_of b)) s
  sized (tree.Index at v) k b ls e z s w =
      let m = settled (resolved ds k.owner v Fresh ls) in
      let g = settle (resolved ds k.owner v Fresh ls) (sized v k Fresh ls (kept (breach ds k v Fresh ls) _ e).0 tt s w.1) in
      same _ m.scope (index_in at.id m (head_of b)) g
  sized (tree.Call at args) k b ls e z s w =
      let m = resolved ds k.owner args Fresh ls in
      same _ m.scope (call_in at.id _ m (head_of b)) (sized args k Fresh ls (kept (breach ds k args Fresh ls) _ e).0 tt s w.1)
  sized _ k b ls e z s w = s

  pub sized_body : (k : Body) (a : Node) (ls : Scope) → breach ds k a Fresh ls ≡ None → W ls → HaveWrittenTypes a
      → W (resolved ds k.owner a Fresh ls).scope
  sized_body k a ls e s w = sized a k Fresh ls e tt s w
