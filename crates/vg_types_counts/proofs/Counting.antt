-- What is counted of declarations is what the definition counts of their numbered nodes.
use Rattle.std.proofs.Common.{◌≡◌, ℕ, suc, ◌+◌, max, nat_le, Bool, true, false, List, [], ◌∷◌, ◌++◌, length, flat_map, Option, Some, None}
use Rattle.std.proofs.Common.{if◌then◌else◌, refl, sym, ap, ◌∙◌, subst, arith}
use Rattle.std.proofs.Math.Nat.{max-zero}
use Rattle.std.proofs.lemmas.List.{length-append}
use Rattle.std.proofs.lemmas.Grind.{flat_map-append}
use Rattle.vg_syntax.specs.Tree.{Spot, Node, Nothing, Then, ClassDecl, ComponentDecl, FieldDecl, MethodDecl, ConstructorDecl}
use Rattle.vg_syntax.specs.Numbering.{count_nodes, numbered, with_id}
use Rattle.vg_source.specs.Declared.{or_else}
use Rattle.vg_source.specs.Program.{declarations_of}
use Rattle.vg_rules.specs.declared.what.What.TheVariants.{Classes, Methods, Locals, Height}
use Rattle.vg_rules.specs.Limits.{limit_of}
use Rattle.vg_rules.specs.Counts.{Counted, height, in_row, members_at, class_spots, method_at, locals_at, height_at, in_order}
use Rattle.vg_rules.specs.Refusal.{Refused, first_past, too_many, too_many_at}
use Rattle.vg_tree.specs.declared.node.Node as held
use Rattle.vg_tree.specs.Held.{node_at, nodes_at, arms_at}
use Rattle.vg_types_counts.specs.declared.tally.Tally.{Tally}
use Rattle.vg_types_counts.specs.Answer.{answer}
use Rattle.vg_types_counts.specs.Tallies.{noted, passed, with_class, with_field, with_method, are_few, tally_member, tally_members}
use Rattle.vg_types_counts.specs.Tallies.{tally_declaration, tally_declarations, first_tally, is_text}
use Rattle.vg_types_counts.proofs.Locals.{locals_numbered, height_numbered}

-- ---- lists of what is counted

nothing_more : {A : Type 0} (p : Option A) → p ≡ or_else p None
nothing_more None = refl
nothing_more (Some a) = refl

or_else_assoc : {A : Type 0} (p q r : Option A) → or_else (or_else p q) r ≡ or_else p (or_else q r)
or_else_assoc None q r = refl
or_else_assoc (Some a) q r = refl

first_past_more : (limit : ℕ) (xs ys : List Counted) → first_past limit (xs ++ ys) ≡ or_else (first_past limit xs) (first_past limit ys)
first_past_more limit [] ys = refl
first_past_more limit (x ∷ xs) ys = by (nat_le x.number limit) (first_past_more limit xs ys)
  where
    by : (b : Bool) → first_past limit (xs ++ ys) ≡ or_else (first_past limit xs) (first_past limit ys)
        → (if b then first_past limit (xs ++ ys) else Some x.node) ≡ or_else (if b then first_past limit xs else Some x.node) (first_past limit ys)
    by true e = e
    by false e = refl

abbrev counted : (node number : ℕ) → Counted
counted i n = record { node = i; number = n }

in_order_more : (n : ℕ) (xs ys : List Spot) → in_order n (xs ++ ys) ≡ in_order n xs ++ in_order (n + length xs) ys
in_order_more n [] ys = ap (λ m. in_order m ys) (let e : n ≡ n + 0 = omega arith in e)
in_order_more n (x ∷ xs) ys =
    ap (λ r. counted x.id (suc n) ∷ r)
    (in_order_more (suc n) xs ys ∙ ap (λ m. in_order (suc n) xs ++ in_order m ys) (let e : suc n + length xs ≡ n + suc (length xs) = omega arith in e))

-- one tally is another behind these classes, methods, and what is counted of methods and members
pub record After (t u : Tally) (cs ms : List Spot) (ls hs : List Counted) : Type 0 where
  pub classes : u.classes ≡ t.classes + length cs
  pub methods : u.methods ≡ t.methods + length ms
  pub past_classes : u.past_classes ≡ or_else t.past_classes (first_past (limit_of Classes) (in_order t.classes cs))
  pub past_methods : u.past_methods ≡ or_else t.past_methods (first_past (limit_of Methods) (in_order t.methods ms))
  pub past_locals : u.past_locals ≡ or_else t.past_locals (first_past (limit_of Locals) ls)
  pub past_height : u.past_height ≡ or_else t.past_height (first_past (limit_of Height) hs)

after_passed : (t : Tally) (n : ℕ) → After t (passed t n) [] [] [] []
after_passed t n = record {
  classes = omega arith;
  methods = omega arith;
  past_classes = nothing_more t.past_classes;
  past_methods = nothing_more t.past_methods;
  past_locals = nothing_more t.past_locals;
  past_height = nothing_more t.past_height;
}

after_none : (t : Tally) → After t t [] [] [] []
after_none t = record {
  classes = omega arith;
  methods = omega arith;
  past_classes = nothing_more t.past_classes;
  past_methods = nothing_more t.past_methods;
  past_locals = nothing_more t.past_locals;
  past_height = nothing_more t.past_height;
}

past_both : (limit : ℕ) (p q r : Option ℕ) (xs ys : List Counted) → q ≡ or_else p (first_past limit xs) → r ≡ or_else q (first_past limit ys)
    → r ≡ or_else p (first_past limit (xs ++ ys))
past_both limit p q r xs ys e f =
    f ∙ ap (λ z. or_else z (first_past limit ys)) e ∙ or_else_assoc p (first_past limit xs) (first_past limit ys)
    ∙ ap (or_else p) (sym (first_past_more limit xs ys))

order_both : (limit n m : ℕ) (p q r : Option ℕ) (xs ys : List Spot) → m ≡ n + length xs → q ≡ or_else p (first_past limit (in_order n xs))
    → r ≡ or_else q (first_past limit (in_order m ys)) → r ≡ or_else p (first_past limit (in_order n (xs ++ ys)))
order_both limit n m p q r xs ys k e f =
    past_both limit p q r (in_order n xs) (in_order (n + length xs) ys) e (f ∙ ap (λ z. or_else q (first_past limit (in_order z ys))) k)
    ∙ ap (λ z. or_else p (first_past limit z)) (sym (in_order_more n xs ys))

pub after_both : (t u v : Tally) (cs cs' ms ms' : List Spot) (ls ls' hs hs' : List Counted) → After t u cs ms ls hs → After u v cs' ms' ls' hs'
    → After t v (cs ++ cs') (ms ++ ms') (ls ++ ls') (hs ++ hs')
after_both t u v cs cs' ms ms' ls ls' hs hs' a b =
    let ac = a.classes in
    let am = a.methods in
    let bc = b.classes in
    let bm = b.methods in
    let lc = length-append cs cs' in
    let lm = length-append ms ms' in
    record {
      classes = omega (arith, ac, bc, lc);
      methods = omega (arith, am, bm, lm);
      past_classes = order_both _ _ _ _ _ _ cs cs' a.classes a.past_classes b.past_classes;
      past_methods = order_both _ _ _ _ _ _ ms ms' a.methods a.past_methods b.past_methods;
      past_locals = past_both _ _ _ _ ls ls' a.past_locals b.past_locals;
      past_height = past_both _ _ _ _ hs hs' a.past_height b.past_height;
    }

-- ---- one declaration

one_noted : (p : Option ℕ) (limit n node m : ℕ) → n ≡ m → noted p (nat_le n limit) node ≡ or_else p (first_past limit (record { node = node; number = m } ∷ []))
one_noted (Some first) limit n node m e = refl
one_noted None limit n node m e = by (nat_le n limit) ∙ ap (λ z. if nat_le z limit then None else Some node) e
  where
    by : (b : Bool) → noted None b node ≡ (if b then None else Some node)
    by true = refl
    by false = refl

after_class : (t : Tally) (at : Spot) → After t (with_class t) (with_id t.next at ∷ []) [] [] []
after_class t at = record {
  classes = omega arith;
  methods = omega arith;
  past_classes = one_noted t.past_classes _ (suc t.classes) t.next (suc t.classes) refl;
  past_methods = nothing_more t.past_methods;
  past_locals = nothing_more t.past_locals;
  past_height = nothing_more t.past_height;
}

after_field : (t : Tally) (n h k : ℕ) → h ≡ k → After t (with_field t n h) [] [] [] (record { node = t.next; number = k } ∷ [])
after_field t n h k e = record {
  classes = omega arith;
  methods = omega arith;
  past_classes = nothing_more t.past_classes;
  past_methods = nothing_more t.past_methods;
  past_locals = nothing_more t.past_locals;
  past_height = one_noted t.past_height _ h t.next k e;
}

after_method : (t : Tally) (at : Spot) (params locals m n h k : ℕ) → locals ≡ m → suc h ≡ k
    → After t (with_method t (are_few params locals) n h) [] (with_id t.next at ∷ []) (record { node = t.next; number = params + m } ∷ [])
    (record { node = t.next; number = k } ∷ [])
after_method t at params locals m n h k e f = record {
  classes = omega arith;
  methods = omega arith;
  past_classes = nothing_more t.past_classes;
  past_methods = one_noted t.past_methods _ (suc t.methods) t.next (suc t.methods) refl;
  past_locals = one_noted t.past_locals _ (params + locals) t.next (params + m) (ap (λ z. params + z) e);
  past_height = one_noted t.past_height _ (suc h) t.next k f;
}

after_member : (t : Tally) (m : Node)
    → After t (tally_member t m) [] (method_at (numbered t.next m)) (locals_at (numbered t.next m)) (height_at (numbered t.next m))
after_member t (FieldDecl at x type e) = after_field t _ _ _ (sym (height_numbered (t.next + 1) e))
after_member t (MethodDecl at x ps type body) =
    after_method t at (length ps) _ _ _ _ _ (sym (locals_numbered (t.next + 1) body))
    (ap suc (sym (max-zero (height body)) ∙ ap (λ z. max z 0) (sym (height_numbered (t.next + 1) body))))
after_member t (ConstructorDecl at ps calls args body) =
    after_method t at (length ps) _ _ _ _ _ (sym (locals_numbered (t.next + 1 + count_nodes args) body))
    (ap suc (ap (max (height args)) (sym (max-zero (height body)) ∙ ap (λ z. max z 0) (sym (height_numbered (t.next + 1 + count_nodes args) body)))
    ∙ ap (λ z. max z (max (height (numbered (t.next + 1 + count_nodes args) body)) 0)) (sym (height_numbered (t.next + 1) args))))
after_member t a = after_passed t (count_nodes a)

member_next : (t : Tally) (m : Node) → (tally_member t m).next ≡ t.next + count_nodes m
member_next t (FieldDecl at x type e) = omega arith
member_next t (MethodDecl at x ps type body) = omega arith
member_next t (ConstructorDecl at ps calls args body) = omega arith
member_next t _ = refl

after_members : (t : Tally) (r : Node)
    → After t (tally_members t r) [] (flat_map method_at (in_row (numbered t.next r))) (flat_map locals_at (in_row (numbered t.next r)))
    (flat_map height_at (in_row (numbered t.next r)))
after_members t Nothing = after_none t
after_members t (Then m rest) =
    after_both t (tally_member t m) _ [] [] _ _ _ _ _ _ (after_member t m)
    (subst (λ i. After (tally_member t m) (tally_members (tally_member t m) rest) [] (flat_map method_at (in_row (numbered i rest)))
    (flat_map locals_at (in_row (numbered i rest))) (flat_map height_at (in_row (numbered i rest))))
    (member_next t m) (after_members (tally_member t m) rest))
after_members t a = after_passed t (count_nodes a)

members_next : (t : Tally) (r : Node) → (tally_members t r).next ≡ t.next + count_nodes r
members_next t Nothing = omega arith
members_next t (Then m rest) = let e = members_next (tally_member t m) rest in let f = member_next t m in omega (arith, e, f)
members_next t _ = refl

after_declaration : (t : Tally) (d : Node)
    → After t (tally_declaration t d) (class_spots (numbered t.next d)) (flat_map method_at (members_at (numbered t.next d)))
    (flat_map locals_at (members_at (numbered t.next d))) (flat_map height_at (members_at (numbered t.next d)))
after_declaration t (ClassDecl at c above members) =
    after_both t (with_class t) _ (with_id t.next at ∷ []) [] [] _ [] _ [] _ (after_class t at) (after_members (with_class t) members)
after_declaration t (ComponentDecl at c members) =
    after_both t (with_class t) _ (with_id t.next at ∷ []) [] [] _ [] _ [] _ (after_class t at) (after_members (with_class t) members)
after_declaration t a = after_passed t (count_nodes a)

declaration_next : (t : Tally) (d : Node) → (tally_declaration t d).next ≡ t.next + count_nodes d
declaration_next t (ClassDecl at c above members) = let e = members_next (with_class t) members in omega (arith, e)
declaration_next t (ComponentDecl at c members) = let e = members_next (with_class t) members in omega (arith, e)
declaration_next t _ = refl

after_declarations : (t : Tally) (r : Node)
    → After t (tally_declarations t r) (flat_map class_spots (in_row (numbered t.next r))) (flat_map method_at (flat_map members_at (in_row (numbered t.next r))))
    (flat_map locals_at (flat_map members_at (in_row (numbered t.next r)))) (flat_map height_at (flat_map members_at (in_row (numbered t.next r))))
after_declarations t Nothing = after_none t
after_declarations t (Then d rest) =
    subst (λ z. After t all classes z (flat_map locals_at below) (flat_map height_at below))
    (sym (flat_map-append method_at (members_at here) (flat_map members_at behind)))
    (subst (λ z. After t all classes (apart method_at) z (flat_map height_at below))
    (sym (flat_map-append locals_at (members_at here) (flat_map members_at behind)))
    (subst (λ z. After t all classes (apart method_at) (apart locals_at) z)
    (sym (flat_map-append height_at (members_at here) (flat_map members_at behind)))
    (after_both t (tally_declaration t d) all _ _ _ _ _ _ _ _ (after_declaration t d)
    (subst (λ i. After (tally_declaration t d) all (flat_map class_spots (rest_from i)) (flat_map method_at (flat_map members_at (rest_from i)))
    (flat_map locals_at (flat_map members_at (rest_from i))) (flat_map height_at (flat_map members_at (rest_from i))))
    (declaration_next t d) (after_declarations (tally_declaration t d) rest)))))
  where
    here : Node
    here = numbered t.next d

    rest_from : ℕ → List Node
    rest_from i = in_row (numbered i rest)

    behind : List Node
    behind = rest_from (t.next + count_nodes d)

    classes : List Spot
    classes = class_spots here ++ flat_map class_spots behind

    apart : {A : Type 0} → (Node → List A) → List A
    apart f = flat_map f (members_at here) ++ flat_map f (flat_map members_at behind)

    below : List Node
    below = members_at here ++ flat_map members_at behind

    all : Tally
    all = tally_declarations (tally_declaration t d) rest
after_declarations t a = after_passed t (count_nodes a)

-- ---- the whole text

-- the answer to the first nodes past the four limits
abbrev of_four : (classes methods locals height : Option ℕ) → Option Refused
of_four classes methods locals height =
    or_else (too_many_at Classes classes) (or_else (too_many_at Methods methods) (or_else (too_many_at Locals locals) (too_many_at Height height)))

pub text_counted : (text ds : Node) → declarations_of text ≡ numbered 1 ds → answer (tally_declarations first_tally ds) ≡ too_many text
text_counted text ds e =
    ap (λ p. of_four p u.past_methods u.past_locals u.past_height)
    (a.past_classes ∙ ap (λ z. first_past (limit_of Classes) (in_order 0 (flat_map class_spots (in_row z)))) (sym e))
    ∙ ap (λ p. of_four classes p u.past_locals u.past_height)
    (a.past_methods ∙ ap (λ z. first_past (limit_of Methods) (in_order 0 (flat_map method_at (flat_map members_at (in_row z))))) (sym e))
    ∙ ap (λ p. of_four classes methods p u.past_height)
    (a.past_locals ∙ ap (λ z. first_past (limit_of Locals) (flat_map locals_at (flat_map members_at (in_row z)))) (sym e))
    ∙ ap (of_four classes methods locals)
    (a.past_height ∙ ap (λ z. first_past (limit_of Height) (flat_map height_at (flat_map members_at (in_row z)))) (sym e))
  where
    u : Tally
    u = tally_declarations first_tally ds

    a : After first_tally u (flat_map class_spots (in_row (numbered 1 ds))) (flat_map method_at (flat_map members_at (in_row (numbered 1 ds))))
        (flat_map locals_at (flat_map members_at (in_row (numbered 1 ds)))) (flat_map height_at (flat_map members_at (in_row (numbered 1 ds))))
    a = after_declarations first_tally ds

    classes : Option ℕ
    classes = first_past (limit_of Classes) (in_order 0 (flat_map class_spots (in_row (declarations_of text))))

    methods : Option ℕ
    methods = first_past (limit_of Methods) (in_order 0 (flat_map method_at (flat_map members_at (in_row (declarations_of text)))))

    locals : Option ℕ
    locals = first_past (limit_of Locals) (flat_map locals_at (flat_map members_at (in_row (declarations_of text))))

row_no_text : (texts : List (List ℕ)) {m : _} (all : held.Row_of-Node m) → declarations_of (numbered 0 (nodes_at texts all)) ≡ Nothing
row_no_text texts held.end_of-Node = refl
row_no_text texts (held.more_of-Node n rest) = refl

arms_no_text : (texts : List (List ℕ)) {m : _} (all : held.Row_of-Node m) → declarations_of (numbered 0 (arms_at texts all)) ≡ Nothing
arms_no_text texts held.end_of-Node = refl
arms_no_text texts (held.more_of-Node (held.Pair' p c q b) rest) = refl
arms_no_text texts (held.more_of-Node _ rest) = arms_no_text texts rest

pub no_text : (texts : List (List ℕ)) (n : held.Node) → is_text n ≡ false → declarations_of (numbered 0 (node_at texts n)) ≡ Nothing
no_text texts (held.Text' place p ds) h = cc
no_text texts (held.Row' shape all) h = row_no_text texts all
no_text texts (held.Arms' shape all) h = arms_no_text texts all
no_text texts _ h = refl
