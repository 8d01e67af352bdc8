-- Code declares locals behind those that are there.
use Rattle.std.proofs.Common.{◌≡◌, refl, sym, ap, ◌∙◌, List, [], ◌∷◌, ◌++◌, map, reverse}
use Rattle.std.proofs.lemmas.List.{append_assoc, reverse-append, reverse-reverse}
use Rattle.vg_syntax.specs.Tree.{Param, Node}
use Rattle.vg_syntax.specs.Tree as tree
use Rattle.vg_source.specs.Types.{StaticType}
use Rattle.vg_source.specs.Declared.{written_type}
use Rattle.vg_source.specs.Resolved.{Owner, Scope, Resolved, Context, Fresh, Onto, Otherwise, head_of, settled, resolved, no_arm, last_target}
use Rattle.vg_source.specs.Resolved.{no_names, declare}
use Rattle.vg_source.specs.Program.{with_params, scope_of}
use Rattle.vg_source_widths.proofs.Scopes.{settles, name_in, member_in, this_is_in, index_in, call_in, part_in, type_part_in}

-- ---- bodies

module _ (front : List StaticType) where
  -- what was declared first is this
  abbrev Begins : Scope → Type 0
  Begins ls = (more : List StaticType) × (ls.declared ≡ more ++ front)

  same : (m ls : Scope) → m ≡ ls → Begins ls → Begins m
  same m ls e s = (s.0, ap (λ (z : Scope). z.declared) e ∙ s.1)

  settle : (m : Resolved) → Begins m.scope → Begins (settled m).scope
  settle m s = same (settled m).scope m.scope (settles m) s

  last : (rest : Node) (a b : Resolved) → Begins a.scope → Begins b.scope → Begins (last_target rest a b).scope
  last tree.Nothing a b g h = g
  last _ a b g h = h

  -- so it stays where no condition of an `if` holds
  abbrev Stays : Context → Type 0
  Stays (Otherwise go) = (ls : Scope) → Begins ls → Begins (go ls).scope
  Stays _ = Unit {0}

  no_more : (b : Context) (ls : Scope) → Stays b → Begins ls → Begins (no_arm b ls).scope
  no_more (Otherwise go) ls z s = z ls s
  no_more Fresh ls z s = s
  no_more (Onto h) ls z s = s

  module _ (ds : Node) (o : Owner) where
    added : (a : Node) (b : Context) (ls : Scope) → Stays b → Begins ls → Begins (resolved ds o a b ls).scope
    added tree.Nothing b ls z s = no_more b ls z s
    added (tree.Then a rest) (Onto h) ls z s = last rest _ _ (added a (Onto h) ls tt s) (added rest (Onto _) ls tt s)
    added (tree.Then a rest) Fresh ls z s = added rest Fresh _ tt (settle (resolved ds o a Fresh ls) (added a Fresh ls tt s))
    added (tree.Then a rest) (Otherwise go) ls z s = added rest Fresh _ tt (settle (resolved ds o a Fresh ls) (added a Fresh ls tt s))
    added (tree.Arm c block rest) b ls z s = added rest b (resolved ds o block Fresh ls).scope z (added block Fresh ls tt s)
    added (tree.Block at body) b ls z s = added body Fresh ls tt s
    added (tree.Local at x t v) b ls z s = (written_type t ∷ s.0, ap (λ q. written_type t ∷ q) s.1)
    added (tree.If at arms otherwise) b ls z s =
        added arms (Otherwise (resolved ds o otherwise Fresh)) ls (λ ks k. added otherwise Fresh ks tt k) s
    added (tree.While at c body) b ls z s = added body Fresh ls tt s
    added (tree.For at first c next body) b ls z s = added body Fresh ls tt s
    added (tree.Eval at v) b ls z s = settle (resolved ds o v Fresh ls) (added v Fresh ls tt s)
    added (tree.This at) b ls z s = same _ ls (this_is_in o ls) s
    added (tree.Name at x) b ls z s = same _ ls (name_in ds o at.id x ls) s
    added (tree.NewObject at c args) b ls z s = added args Fresh ls tt s
    added (tree.NewArray at t v) b ls z s = settle (resolved ds o v Fresh ls) (added v Fresh ls tt s)
    added (tree.Unary at operators v) b ls z s = settle (resolved ds o v Fresh ls) (added v Fresh ls tt s)
    added (tree.Chain at first parts) b ls z s = added parts (Onto _) ls tt s
    added (tree.Part at op v) b ls z s =
        let m = settled (resolved ds o v Fresh ls) in
        same _ m.scope (part_in at.id op (head_of b) m) (settle (resolved ds o v Fresh ls) (added v Fresh ls tt s))
    added (tree.TypePart at op t) b ls z s = same _ ls (type_part_in at.id op _ ls) s
    added (tree.Postfix at p suffixes) b ls z s =
        settle (resolved ds o suffixes (Onto (resolved ds o p Fresh ls).head) ls) (added suffixes (Onto _) ls tt s)
    added (tree.Member at x) b ls z s = same _ ls (member_in ds at.id x ls (head_of b)) s
    added (tree.Index at v) b ls z s =
        let m = settled (resolved ds o v Fresh ls) in
        same _ m.scope (index_in at.id m (head_of b)) (settle (resolved ds o v Fresh ls) (added v Fresh ls tt s))
    added (tree.Call at args) b ls z s =
        let m = resolved ds o args Fresh ls in same _ m.scope (call_in at.id _ m (head_of b)) (added args Fresh ls tt s)
    added _ b ls z s = s

-- ---- parameters

-- the types of parameters, as they are written
abbrev types_of : List Param → List StaticType
types_of ps = map (λ (p : Param). written_type p.type) ps

declared_first : (ps : List Param) (ls : Scope) → (with_params ls ps).declared ≡ reverse (types_of ps) ++ ls.declared
declared_first [] ls = refl
declared_first (p ∷ ps) ls =
    declared_first ps (declare p.name (written_type p.type) ls)
    ∙ sym (append_assoc (reverse (types_of ps)) (written_type p.type ∷ []) ls.declared)
    ∙ ap (λ z. z ++ ls.declared) (sym (reverse-append (written_type p.type ∷ []) (types_of ps)))

pub parameters_first : (ds : Node) (o : Owner) (ps : List Param) (body : Node)
    → (more : List StaticType) × (reverse (resolved ds o body Fresh (scope_of ps)).scope.declared ≡ map (λ (p : Param). written_type p.type) ps ++ more)
parameters_first ds o ps body =
    let begins = added (scope_of ps).declared ds o body Fresh (scope_of ps) tt ([], refl) in (
      reverse begins.0,
      ap reverse begins.1
          ∙ reverse-append begins.0 (scope_of ps).declared
          ∙ ap (λ z. reverse z ++ reverse begins.0) (declared_first ps no_names)
          ∙ ap (λ z. z ++ reverse begins.0) (reverse-append (reverse (types_of ps)) [] ∙ reverse-reverse (types_of ps)),
    )
