-- What runs in a legal text is ranged.
use Rattle.std.proofs.Common.{◌≡◌, refl, sym, subst, arith, ℕ, zero, suc, ◌==◌, ◌&&◌, Bool, true, false, List, [], ◌∷◌, ◌++◌, length, map, drop, reverse}
use Rattle.std.proofs.Common.{Option, Some, None, slice_get}
use Rattle.std.proofs.lemmas.List.{reverse-append}
use Rattle.vg_syntax.specs.Tree.{Spot, Param, Node, Nothing, Then, Text, ClassDecl, ComponentDecl, DeviceDecl, FieldDecl, MethodDecl, ConstructorDecl}
use Rattle.vg_meaning.specs.Code as code
use Rattle.vg_source.specs.Names.{Name}
use Rattle.vg_source.specs.Types.{StaticType, NoType}
use Rattle.vg_source.specs.Values.{Value, default}
use Rattle.vg_source.specs.Steps.{Step, Routine, Target, Method, Construct, Start, This, SetField, SetComponentField, Super}
use Rattle.vg_source.specs.Steps as step
use Rattle.vg_source.specs.Declared.{written_type}
use Rattle.vg_source.specs.Nodes.{nodes}
use Rattle.vg_source.specs.Resolved.{Owner, InClass, InComponent, NoOwner, Scope, no_names, declare, Fresh, resolved}
use Rattle.vg_source.specs.Program.{with_params, scope_of, methods_in, Constructor, constructor_in, initial}
use Rattle.vg_source.specs.Program.{unless_missing, own_initialiser, its_initialiser, initialisers, super_of, construction, initialisation, routines_in}
use Rattle.vg_source.specs.Program.{declared_routines, next_number, with_numbers}
use Rattle.vg_rules.specs.Breach.{asks}
use Rattle.vg_rules.specs.Bodies.{breach, initialiser_keeps}
use Rattle.vg_rules.specs.Legal.{body_of, outside, super_keeps, bodies_breach, written_breach, Legal}
use Rattle.vg_rules.specs.Names.{names_breach, programs, classes_breach}
use Rattle.vg_rules.specs.Signatures.{Home, OfComponent, OfClass, OfSubclass, home_of, constructor_keeps, members_breach, registers_breach, signatures_breach}
use Rattle.vg_rules.specs.Inherited.{inherited_breach}
use Rattle.vg_rules.specs.Entries.{entries_breach}
use Rattle.vg_rules.specs.Written.{type_keeps, param_types_keep}
use Rattle.vg_source_ranges.specs.Ranges.{AreSmall, IsRanged, AreRanged}
use Rattle.vg_source_ranges.specs.Spelled.{AreSpelled}
use Rattle.vg_source_ranges.specs.Routines.{AreConstants, IsRangedRoutine, MayRunAbove, AreMembers, HaveMembers}
use Rattle.vg_source_ranges.proofs.Numbers.{both, small_type, default_in_range}
use Rattle.vg_source_ranges.proofs.Parts.{Good, good_settled}
use Rattle.vg_source_ranges.proofs.Bodies.{kept, asked, halves, ranged_body}

-- ---- what runs no construction may also stand where one may be run

weaker_step : (s : Step) → IsRanged ⊥ s → IsRanged (Unit {0}) s
weaker_step (step.Super c count) h = tt
weaker_step _ h = h

weaker : (c : code.Code Step) → AreRanged ⊥ c → AreRanged (Unit {0}) c
weaker code.Nothing h = tt
weaker (code.Then a b) (ha, hb) = (weaker a ha, weaker b hb)
weaker (code.Do s) h = weaker_step s h
weaker (code.If a b) (ha, hb) = (weaker a ha, weaker b hb)
weaker (code.Loop a b c) (ha, hb, hc) = (weaker a ha, weaker b hb, weaker c hc)
weaker code.Break h = tt
weaker code.Continue h = tt
weaker code.Return h = tt

-- ---- defaults

both_in_range : (vs us : List Value) → AreConstants vs → AreConstants us → AreConstants (vs ++ us)
both_in_range [] us h k = k
both_in_range (v ∷ vs) us (a, h) k = (a, both_in_range vs us h k)

turned_in_range : (vs : List Value) → AreConstants vs → AreConstants (reverse vs)
turned_in_range [] h = tt
turned_in_range (v ∷ vs) (a, h) = subst AreConstants (sym (reverse-append (v ∷ []) vs)) (both_in_range (reverse vs) (v ∷ []) (turned_in_range vs h) (a, tt))

dropped_in_range : (n : ℕ) (vs : List Value) → AreConstants vs → AreConstants (drop n vs)
dropped_in_range zero vs h = h
dropped_in_range (suc n) [] h = tt
dropped_in_range (suc n) (v ∷ vs) (a, h) = dropped_in_range n vs h

defaults_in_range : (ts : List StaticType) → AreSmall ts → AreConstants (map default ts)
defaults_in_range [] h = tt
defaults_in_range (t ∷ ts) (a, h) = (default_in_range t a, defaults_in_range ts h)

others_in_range : (n : ℕ) (ts : List StaticType) → AreSmall ts → AreConstants (drop n (reverse (map default ts)))
others_in_range n ts h = dropped_in_range n (reverse (map default ts)) (turned_in_range (map default ts) (defaults_in_range ts h))

-- ---- parameters

small_params : (ds : Node) (ps : List Param) (ls : Scope) → param_types_keep ds ps ≡ true → AreSmall ls.declared → AreSmall (with_params ls ps).declared
small_params ds [] ls e s = s
small_params ds (p ∷ ps) ls e s =
    let q = both (type_keeps ds p.type) (param_types_keep ds ps) e in
    small_params ds ps (declare p.name (written_type p.type) ls) q.1 (small_type ds p.type q.0, s)

-- ---- rows of what runs

abbrev Each : List Routine → Type 0
Each [] = Unit {0}
Each (r ∷ rs) = IsRangedRoutine (MayRunAbove r.target) r × Each rs

each_both : (xs ys : List Routine) → Each xs → Each ys → Each (xs ++ ys)
each_both [] ys h k = k
each_both (x ∷ xs) ys (a, h) k = (a, each_both xs ys h k)

numbered : (n : ℕ) (rs : List Routine) → Each rs → Each (with_numbers n rs)
numbered n [] h = tt
numbered n (r ∷ rs) (a, h) = (record { code = a.code; others = a.others; missing = a.missing }, numbered (next_number n r.target) rs h)

each_at : (rs : List Routine) (i : ℕ) (r : Routine) → Each rs → slice_get rs i ≡ Some r → IsRangedRoutine (MayRunAbove r.target) r
each_at [] i r h e = absurd (grind (arith, e))
each_at (x ∷ rs) zero r (a, h) e = let q : x ≡ r = cc in subst (λ z. IsRangedRoutine (MayRunAbove z.target) z) q a
each_at (x ∷ rs) (suc i) r (a, h) e = each_at rs i r h e

-- the constructor of a component has no parameters
no_params : (home : Home) (ps : List Param) (calls : Bool) → constructor_keeps home ps calls ≡ true → home ≡ OfComponent → ps ≡ []
no_params OfComponent [] calls e h = refl
no_params OfComponent (p ∷ ps) calls e h = absurd (let clash : false ≡ true = e in cc)
no_params OfClass ps calls e h = absurd (let clash : OfClass ≡ OfComponent = h in cc)
no_params OfSubclass ps calls e h = absurd (let clash : OfSubclass ≡ OfComponent = h in cc)

module _ (most : ℕ) (ds : Node) where
  two : (a b : Node) → AreSpelled most (Then a b) → AreSpelled most a × AreSpelled most b
  two a b w = halves _ (nodes a) (nodes b) w

  -- what a body is made of
  in_body : (o : Owner) (result : StaticType) (ps : List Param) (a : Node) → breach ds (body_of o result) a Fresh (scope_of ps) ≡ None
      → param_types_keep ds ps ≡ true → AreSpelled most a → Good (resolved ds o a Fresh (scope_of ps))
  in_body o result ps a e k w = ranged_body most ds (body_of o result) a (scope_of ps) e (small_params ds ps no_names k tt) w

  initial_ranged : (e : Node) → breach ds outside e Fresh no_names ≡ None → AreSpelled most e → AreRanged ⊥ (initial ds e)
  initial_ranged e q w = (good_settled _ (ranged_body most ds outside e no_names q tt w)).does

  written : (e : Node) (c : code.Code Step) → AreRanged ⊥ c → AreRanged ⊥ (unless_missing e c)
  written Nothing c h = tt
  written _ c h = h

  -- what the rules ask of a constructor
  record Keeps (o : Owner) (home : Home) (k : Constructor) : Type 0 where
    params : param_types_keep ds k.params ≡ true
    arguments : breach ds outside k.arguments Fresh (scope_of k.params) ≡ None
    body : breach ds (body_of o NoType) k.body Fresh (scope_of k.params) ≡ None
    none : home ≡ OfComponent → k.params ≡ []
    arguments_spelled : AreSpelled most k.arguments
    body_spelled : AreSpelled most k.body

  -- what they ask of members
  record Members (o : Owner) (home : Home) (c : Name) (members : Node) : Type 0 where
    methods : Each (methods_in ds o c members)
    own : AreRanged ⊥ (initialisers (own_initialiser ds c) members)
    its : AreRanged ⊥ (initialisers (its_initialiser ds c) members)
    constructor_ : Keeps o home (constructor_in members)

  members_keep : (members : Node) (o : Owner) (c : Name) (above : Option Name) (home : Home) (seen : List Name) (made : Bool) → AreMembers members
      → bodies_breach ds o above members ≡ None → members_breach ds home seen made members ≡ None → AreSpelled most members
      → Members o home c members
  members_keep (Then (FieldDecl at x t e) rest) o c above home seen made are eb em w =
      let w1 = two (FieldDecl at x t e) rest w in
      let q = kept (breach ds outside e Fresh no_names) _ eb in
      let r = kept (asks (initialiser_keeps ds outside (written_type t) e no_names) 21 at) _ q.1 in
      let m0 = kept _ _ em in
      let m1 = kept (asks (type_keeps ds t) 8 at) _ m0.1 in
      let g = members_keep rest o c above home (x ∷ seen) made are r.1 m1.1 w1.1 in
      let i = initial_ranged e q.0 w1.0.1 in
      record {
        methods = g.methods;
        own = (written e _ (tt, (i, tt)), g.own);
        its = (written e _ (i, tt), g.its);
        constructor_ = g.constructor_;
      }
  members_keep (Then (MethodDecl at x ps t body) rest) o c above home seen made are eb em w =
      let w1 = two (MethodDecl at x ps t body) rest w in
      let q = kept (breach ds (body_of o (written_type t)) body Fresh (scope_of ps)) _ eb in
      let m0 = kept _ _ em in
      let m1 = kept (asks (param_types_keep ds ps && type_keeps ds t) 8 at) _ m0.1 in
      let m2 = kept _ _ m1.1 in
      let k = both (param_types_keep ds ps) (type_keeps ds t) (asked (param_types_keep ds ps && type_keeps ds t) 8 at m1.0) in
      let g = members_keep rest o c above home (x ∷ seen) made are q.1 m2.1 w1.1 in
      let b = in_body o (written_type t) ps body q.0 k.0 w1.0.1 in
      record {
        methods = (
          record {
            code = b.does;
            others = others_in_range (length ps) _ b.scope;
            missing = default_in_range (written_type t) (small_type ds t k.1);
          },
          g.methods,
        );
        own = (tt, g.own);
        its = (tt, g.its);
        constructor_ = g.constructor_;
      }
  members_keep (Then (ConstructorDecl at ps calls args body) rest) o c above home seen made are eb em w =
      let w1 = two (ConstructorDecl at ps calls args body) rest w in
      let w2 = two args body w1.0.1 in
      let q = kept (breach ds outside args Fresh (scope_of ps)) _ eb in
      let r = kept (asks (super_keeps ds above args ps) 10 at) _ q.1 in
      let u = kept (breach ds (body_of o NoType) body Fresh (scope_of ps)) _ r.1 in
      let m0 = kept _ _ em in
      let m1 = kept (asks (param_types_keep ds ps) 8 at) _ m0.1 in
      let m2 = kept (asks (constructor_keeps home ps calls) 9 at) _ m1.1 in
      let m3 = kept _ _ m2.1 in
      let g = members_keep rest o c above home seen true are u.1 m3.1 w1.1 in
      record {
        methods = g.methods;
        own = (tt, g.own);
        its = (tt, g.its);
        constructor_ = record {
          params = asked (param_types_keep ds ps) 8 at m1.0;
          arguments = q.0;
          body = u.0;
          none = no_params home ps calls (asked (constructor_keeps home ps calls) 9 at m2.0);
          arguments_spelled = w2.0;
          body_spelled = w2.1;
        };
      }
  members_keep (Then _ rest) o c above home seen made are eb em w = absurd are
  members_keep _ o c above home seen made are eb em w =
      record {
        methods = tt;
        own = tt;
        its = tt;
        constructor_ =
            record { params = refl; arguments = refl; body = refl; none = λ h. refl; arguments_spelled = tt; body_spelled = tt };
      }

  -- ---- declarations

  super_ranged : (above : Option Name) (k : Constructor) → AreRanged ⊥ (resolved ds NoOwner k.arguments Fresh (scope_of k.params)).does
      → AreRanged (Unit {0}) (super_of ds above k)
  super_ranged None k h = tt
  super_ranged (Some above) k h = (weaker _ h, tt)

  constructed : (home : Home) (c : Name) (above : Option Name) (members : Node) → Members (InClass c) home c members
      → IsRangedRoutine (Unit {0}) (construction ds c above members (constructor_in members))
  constructed home c above members m =
      let k = constructor_in members in
      let a = in_body NoOwner NoType k.params k.arguments m.constructor_.arguments m.constructor_.params m.constructor_.arguments_spelled in
      let b = in_body (InClass c) NoType k.params k.body m.constructor_.body m.constructor_.params m.constructor_.body_spelled in
      record {
        code = (super_ranged above k a.does, (weaker _ m.own, weaker _ b.does));
        others = others_in_range (length k.params) _ b.scope;
        missing = tt;
      }

  initialised : (c : Name) (members : Node) → Members (InComponent c) OfComponent c members
      → IsRangedRoutine ⊥ (initialisation ds c members (constructor_in members))
  initialised c members m =
      let k = constructor_in members in
      let e = subst (λ ps. breach ds (body_of (InComponent c) NoType) k.body Fresh (scope_of ps) ≡ None) (m.constructor_.none refl) m.constructor_.body in
      let b = ranged_body most ds (body_of (InComponent c) NoType) k.body no_names e tt m.constructor_.body_spelled in
      record { code = (m.its, b.does); others = others_in_range 0 _ b.scope; missing = tt }

  routines_keep : (rows : Node) → HaveMembers rows → written_breach ds rows ≡ None → signatures_breach ds rows ≡ None → AreSpelled most rows
      → Each (routines_in ds rows)
  routines_keep (Then (ClassDecl at c above members) rest) (are, more) ew es w =
      let w1 = two (ClassDecl at c above members) rest w in
      let q = kept (bodies_breach ds (InClass c) above members) _ ew in
      let r = kept (members_breach ds (home_of above) [] false members) _ es in
      let m = members_keep members (InClass c) c above (home_of above) [] false are q.0 r.0 w1.0.1 in
      each_both (declared_routines ds (ClassDecl at c above members)) (routines_in ds rest)
      (constructed (home_of above) c above members m, m.methods) (routines_keep rest more q.1 r.1 w1.1)
  routines_keep (Then (ComponentDecl at c members) rest) (are, more) ew es w =
      let w1 = two (ComponentDecl at c members) rest w in
      let q = kept (bodies_breach ds (InComponent c) None members) _ ew in
      let r = kept (members_breach ds OfComponent [] false members) _ es in
      let m = members_keep members (InComponent c) c None OfComponent [] false are q.0 r.0 w1.0.1 in
      each_both (declared_routines ds (ComponentDecl at c members)) (routines_in ds rest)
      (initialised c members m, m.methods) (routines_keep rest more q.1 r.1 w1.1)
  routines_keep (Then (DeviceDecl at d registers) rest) h ew es w =
      routines_keep rest h ew (kept (registers_breach [] registers) _ es).1 (two (DeviceDecl at d registers) rest w).1
  routines_keep (Then d rest) h ew es w = routines_keep rest h ew es (two d rest w).1
  routines_keep _ h ew es w = tt

pub ranged_text : (most : ℕ) (at : Spot) (ds : Node) → Legal (Text at ds) → HaveMembers ds → AreSpelled most ds
    → Each (with_numbers 0 (routines_in ds ds))
ranged_text most at ds legal have w =
    let a = kept (names_breach [] ds) _ legal in
    let b = kept (asks (programs ds == 1) 2 at) _ a.1 in
    let c = kept (classes_breach ds ds) _ b.1 in
    let d = kept (signatures_breach ds ds) _ c.1 in
    let e = kept (inherited_breach ds ds) _ d.1 in
    let f = kept (entries_breach ds ds) _ e.1 in numbered 0 (routines_in ds ds) (routines_keep most ds ds have f.1 d.0 w)

pub ranged_routine : (most : ℕ) (at : Spot) (ds : Node) → Legal (Text at ds) → HaveMembers ds → AreSpelled most ds → (i : ℕ) (r : Routine)
    → slice_get (with_numbers 0 (routines_in ds ds)) i ≡ Some r → IsRangedRoutine (MayRunAbove r.target) r
ranged_routine most at ds legal have w i r e = each_at (with_numbers 0 (routines_in ds ds)) i r (ranged_text most at ds legal have w) e
