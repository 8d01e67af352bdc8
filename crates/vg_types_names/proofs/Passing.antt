-- How far the declarations of a text are named.
use Rattle.std.proofs.Common.{◌≡◌, ℕ, suc, ◌+◌, ◌≤◌, Bool, true, false, not, ◌||◌, List, [], ◌∷◌, ◌++◌, Option, Some, None}
use Rattle.std.proofs.Common.{is_some, bytes_eq, if◌then◌else◌, refl, sym, ap, ◌∙◌, subst, arith}
use Rattle.std.proofs.lemmas.List.{append_assoc}
use Rattle.vg_syntax.specs.Tree.{Spot, Node, Then, ClassDecl, ComponentDecl, DeviceDecl, ProgramDecl}
use Rattle.vg_syntax.specs.Numbering.{count_nodes, numbered, with_id}
use Rattle.vg_tree.specs.declared.node.Node as held
use Rattle.vg_tree.specs.Held.{node_at, row_at}
use Rattle.vg_source.specs.Names.{Name, is_among}
use Rattle.vg_rules.specs.Breach.{Breach, asks, ◌or◌}
use Rattle.vg_rules.specs.Names.{names_breach, programs}
use Rattle.vg_types_views.specs.ByText.{found, added}
use Rattle.vg_types_names.specs.declared.declaration.Sort.{Sort}
use Rattle.vg_types_names.specs.declared.declaration.Sort.TheVariants.{Class, Component, Device, Program}
use Rattle.vg_types_names.specs.declared.declaration.Declaration.{Declaration}
use Rattle.vg_types_names.specs.declared.declaration.Counts.{Counts}
use Rattle.vg_types_names.specs.declared.declaration.Named.{Named as HeldNamed}
use Rattle.vg_types_names.specs.Declarations.{no_counts, next_declaration, counted, entries, are_declarations}
use Rattle.vg_types_names.specs.Naming.{Named, named_as, named_view, IsCounts, one_program, names_in}

-- ---- one declaration

abbrev pub the : Option Named → Named
the (Some x) = x
the None = record { sort = Class; name = [] }

-- the entries of a row that begins with a declaration
abbrev entries_more : Counts → Node → Named → List (Name × Declaration)
entries_more n rest x = (x.name, next_declaration x.sort n) ∷ entries (counted x.sort n) rest

-- the first breach of the names of a row that begins with a declaration
abbrev breach_more : List Name → ℕ → Node → Named → Option Breach
breach_more seen i rest x = if is_among seen x.name then Some (record { rule = 1; node = i }) else names_breach (x.name ∷ seen) rest

abbrev programs_more : Sort → ℕ → ℕ
programs_more Program n = suc n
programs_more _ n = n

asked : (seen : List Name) (x : Name) (at : Spot) (i : ℕ) (rest : Option Breach)
    → asks (not (is_among seen x)) 1 (with_id i at) or rest ≡ (if is_among seen x then Some (record { rule = 1; node = i }) else rest)
asked seen x at i rest = by (is_among seen x)
  where
    by : (b : Bool) → asks (not b) 1 (with_id i at) or rest ≡ (if b then Some (record { rule = 1; node = i }) else rest)
    by true = refl
    by false = refl

entries_one : (n : Counts) (i : ℕ) (d rest : Node) (x : Named) → named_as d ≡ Some x → entries n (Then (numbered i d) rest) ≡ entries_more n rest x
entries_one n i (ClassDecl at c above members) rest x e = ap (λ o. entries_more n rest (the o)) e
entries_one n i (ComponentDecl at c members) rest x e = ap (λ o. entries_more n rest (the o)) e
entries_one n i (DeviceDecl at d registers) rest x e = ap (λ o. entries_more n rest (the o)) e
entries_one n i (ProgramDecl at p members) rest x e = ap (λ o. entries_more n rest (the o)) e
entries_one n i _ rest x e = cc

breach_one : (seen : List Name) (i : ℕ) (d rest : Node) (x : Named) → named_as d ≡ Some x
    → names_breach seen (Then (numbered i d) rest) ≡ breach_more seen i rest x
breach_one seen i (ClassDecl at c above members) rest x e = asked seen c at i (names_breach (c ∷ seen) rest) ∙ ap (λ o. breach_more seen i rest (the o)) e
breach_one seen i (ComponentDecl at c members) rest x e = asked seen c at i (names_breach (c ∷ seen) rest) ∙ ap (λ o. breach_more seen i rest (the o)) e
breach_one seen i (DeviceDecl at d registers) rest x e = asked seen d at i (names_breach (d ∷ seen) rest) ∙ ap (λ o. breach_more seen i rest (the o)) e
breach_one seen i (ProgramDecl at p members) rest x e = asked seen p at i (names_breach (p ∷ seen) rest) ∙ ap (λ o. breach_more seen i rest (the o)) e
breach_one seen i _ rest x e = cc

programs_one : (i : ℕ) (d rest : Node) (x : Named) → named_as d ≡ Some x → programs (Then (numbered i d) rest) ≡ programs_more x.sort (programs rest)
programs_one i (ClassDecl at c above members) rest x e = ap (λ o. programs_more (the o).sort (programs rest)) e
programs_one i (ComponentDecl at c members) rest x e = ap (λ o. programs_more (the o).sort (programs rest)) e
programs_one i (DeviceDecl at d registers) rest x e = ap (λ o. programs_more (the o).sort (programs rest)) e
programs_one i (ProgramDecl at p members) rest x e = ap (λ o. programs_more (the o).sort (programs rest)) e
programs_one i _ rest x e = cc

both_hold : (i : ℕ) (d rest : Node) (x : Named) → named_as d ≡ Some x → are_declarations rest ≡ true → are_declarations (Then (numbered i d) rest) ≡ true
both_hold i (ClassDecl at c above members) rest x e h = h
both_hold i (ComponentDecl at c members) rest x e h = h
both_hold i (DeviceDecl at d registers) rest x e h = h
both_hold i (ProgramDecl at p members) rest x e h = h
both_hold i _ rest x e h = cc

-- a declaration is a node
one_node : (d : Node) (x : Named) → named_as d ≡ Some x → 1 ≤ count_nodes d
one_node (ClassDecl at c above members) x e = omega arith
one_node (ComponentDecl at c members) x e = omega arith
one_node (DeviceDecl at d registers) x e = omega arith
one_node (ProgramDecl at p members) x e = omega arith
one_node _ x e = cc

pub all_one : (s : Sort) (n : Counts) → (counted s n).all ≡ suc n.all
all_one Class n = refl
all_one Component n = refl
all_one Device n = refl
all_one Program n = refl

programs_counted : (s : Sort) (n : Counts) (k : ℕ) → n.programs + programs_more s k ≡ (counted s n).programs + k
programs_counted Class n k = refl
programs_counted Component n k = refl
programs_counted Device n k = refl
programs_counted Program n k = omega arith

-- ---- names that were seen

-- the names that were seen are those of the map
abbrev Sees : List Name → List (Name × Declaration) → Type 0
Sees seen here = (x : Name) → is_among seen x ≡ is_some (found x here)

either : (a b : Bool) → a || b ≡ (if b then true else a)
either true true = refl
either true false = refl
either false true = refl
either false false = refl

found_last : (y : Name) (here : List (Name × Declaration)) (x : Name) (v : Declaration)
    → is_some (found y (here ++ (x, v) ∷ [])) ≡ (if is_some (found y here) then true else bytes_eq x y)
found_last y [] x v = by (bytes_eq x y)
  where
    by : (b : Bool) → is_some (if b then Some v else None) ≡ b
    by true = refl
    by false = refl
found_last y (e ∷ here) x v = by (bytes_eq e.0 y) (found_last y here x v)
  where
    by : (b : Bool) → is_some (found y (here ++ (x, v) ∷ [])) ≡ (if is_some (found y here) then true else bytes_eq x y)
        → is_some (if b then Some e.1 else found y (here ++ (x, v) ∷ [])) ≡ (if is_some (if b then Some e.1 else found y here) then true else bytes_eq x y)
    by true h = refl
    by false h = h

sees_more : (seen : List Name) (here : List (Name × Declaration)) (x : Name) (v : Declaration) → Sees seen here → Sees (x ∷ seen) (here ++ (x, v) ∷ [])
sees_more seen here x v s y = either (bytes_eq x y) (is_among seen y) ∙ ap (λ b. if b then true else bytes_eq x y) (s y) ∙ sym (found_last y here x v)

-- ---- the row

-- with the rest, all declarations are named
pub record Passing (texts : List (List ℕ)) (all : List held.Node) (here : List (Name × Declaration)) (n : Counts) (next : ℕ)
    (rest : List held.Node) : Type 0 where
  pub seen : List Name
  pub sees : Sees seen here
  pub names : names_breach [] (numbered 1 (row_at texts all)) ≡ names_breach seen (numbered next (row_at texts rest))
  pub programs_in : programs (numbered 1 (row_at texts all)) ≡ n.programs + programs (numbered next (row_at texts rest))
  pub listed : entries no_counts (numbered 1 (row_at texts all)) ≡ here ++ entries n (numbered next (row_at texts rest))
  pub count : next + count_nodes (row_at [] rest) ≡ 1 + count_nodes (row_at [] all)
  pub before : n.all ≤ next
  pub declared : are_declarations (numbered next (row_at texts rest)) ≡ true → are_declarations (numbered 1 (row_at texts all)) ≡ true
  pub sound : IsCounts n

pub passing_starts : (texts : List (List ℕ)) (all : List held.Node) (here : List (Name × Declaration)) (n : Counts) → here ≡ [] → n ≡ no_counts → IsCounts n
    → Passing texts all here n 1 all
passing_starts texts all here n e f s = record {
  seen = [];
  sees = λ x. ap (λ z. is_some (found x z)) (sym e);
  names = refl;
  programs_in = let k = ap (λ z. z.programs) f in omega (arith, k);
  listed = ap (λ z. entries z (numbered 1 (row_at texts all))) (sym f) ∙ ap (λ z. z ++ entries n (numbered 1 (row_at texts all))) (sym e);
  count = refl;
  before = subst (λ z. z.all ≤ 1) (sym f) (omega arith);
  declared = λ e. e;
  sound = s;
}

-- a name that was there breaks the rule
pub named_twice : (texts : List (List ℕ)) (all : List held.Node) (here : List (Name × Declaration)) (n : Counts) (next : ℕ) (d : held.Node)
    (rest : List held.Node) (x : Named) → Passing texts all here n next (d ∷ rest) → named_as (node_at texts d) ≡ Some x
    → false ≡ not (is_some (found x.name here)) → names_in (numbered 1 (row_at texts all)) ≡ Some (record { rule = 1; node = next })
named_twice texts all here n next d rest x p e f =
    ap (λ z. z or one_program (programs (numbered 1 (row_at texts all))))
    (p.names ∙ breach_one p.seen next (node_at texts d) behind x e
    ∙ ap (λ b. if b then Some (record { rule = 1; node = next }) else names_breach (x.name ∷ p.seen) behind)
    (p.sees x.name ∙ by (is_some (found x.name here)) f))
  where
    behind : Node
    behind = numbered (next + count_nodes (node_at texts d)) (row_at texts rest)

    by : (b : Bool) → false ≡ not b → b ≡ true
    by true h = refl
    by false h = cc

-- a new name
pub named_once : (texts : List (List ℕ)) (all : List held.Node) (here there : List (Name × Declaration)) (n m : Counts) (next after : ℕ) (d : held.Node)
    (rest : List held.Node) (h : HeldNamed) → Passing texts all here n next (d ∷ rest)
    → ((ts : List (List ℕ)) → named_as (node_at ts d) ≡ Some (named_view ts h)) → true ≡ not (is_some (found (named_view texts h).name here))
    → there ≡ added (named_view texts h).name (next_declaration h.sort n) here → m ≡ counted h.sort n → IsCounts m
    → ((ts : List (List ℕ)) → after ≡ next + count_nodes (node_at ts d)) → Passing texts all there m after rest
named_once texts all here there n m next after d rest h p k f t g s a =
    let c = p.count in
    let b = p.before in
    let a0 = a [] in
    let o = one_node (node_at [] d) (named_view [] h) (k []) in
    let w = ap (λ z. z.all) g ∙ all_one h.sort n in
    record {
      seen = x.name ∷ p.seen;
      sees = subst (Sees (x.name ∷ p.seen)) (sym last) (sees_more p.seen here x.name (next_declaration h.sort n) p.sees);
      names = p.names ∙ breach_one p.seen next (node_at texts d) (behind (next + count_nodes (node_at texts d))) x (k texts)
          ∙ ap (λ z. if z then Some (record { rule = 1; node = next }) else names_breach (x.name ∷ p.seen) (behind (next + count_nodes (node_at texts d))))
          (p.sees x.name ∙ absent)
          ∙ ap (λ i. names_breach (x.name ∷ p.seen) (behind i)) (sym (a texts));
      programs_in = p.programs_in
          ∙ ap (λ z. n.programs + z) (programs_one next (node_at texts d) (behind (next + count_nodes (node_at texts d))) x (k texts))
          ∙ programs_counted h.sort n (programs (behind (next + count_nodes (node_at texts d))))
          ∙ ap (λ z. z.programs + programs (behind (next + count_nodes (node_at texts d)))) (sym g)
          ∙ ap (λ i. m.programs + programs (behind i)) (sym (a texts));
      listed = p.listed ∙ ap (λ z. here ++ z) (entries_one n next (node_at texts d) (behind (next + count_nodes (node_at texts d))) x (k texts))
          ∙ sym (append_assoc here ((x.name, next_declaration h.sort n) ∷ []) (entries (counted h.sort n) (behind (next + count_nodes (node_at texts d)))))
          ∙ ap (λ z. z ++ entries (counted h.sort n) (behind (next + count_nodes (node_at texts d)))) (sym last)
          ∙ ap (λ z. there ++ entries z (behind (next + count_nodes (node_at texts d)))) (sym g)
          ∙ ap (λ i. there ++ entries m (behind i)) (sym (a texts));
      count = omega (arith, c, a0);
      before = omega (arith, b, a0, o, w);
      declared = λ q. p.declared (both_hold next (node_at texts d) (behind (next + count_nodes (node_at texts d))) x (k texts)
          (subst (λ i. are_declarations (behind i) ≡ true) (a texts) q));
      sound = s;
    }
  where
    x : Named
    x = named_view texts h

    behind : ℕ → Node
    behind i = numbered i (row_at texts rest)

    by : (b : Bool) → true ≡ not b → b ≡ false
    by true e = cc
    by false e = refl

    absent : is_some (found (named_view texts h).name here) ≡ false
    absent = by (is_some (found (named_view texts h).name here)) f

    last : there ≡ here ++ ((named_view texts h).name, next_declaration h.sort n) ∷ []
    last = t ∙ ap (λ b. if b then here else here ++ ((named_view texts h).name, next_declaration h.sort n) ∷ []) absent
