-- The parameters and locals of the methods of legal texts.
use Rattle.std.proofs.Common.{◌≡◌, sym, subst, arith, ℕ, zero, suc, ◌==◌, ◌&&◌, not, Bool, true, false, List, [], ◌∷◌, ◌++◌, reverse}
use Rattle.std.proofs.Common.{Option, None, Some, slice_get}
use Rattle.std.proofs.lemmas.List.{reverse-append}
use Rattle.std.specs.List.{AllByRecursion}
use Rattle.vg_syntax.specs.Tree.{Param, Node, Then, Text, ClassDecl, ComponentDecl, DeviceDecl, FieldDecl, MethodDecl, ConstructorDecl}
use Rattle.vg_source.specs.Names.{Name, is_among}
use Rattle.vg_source.specs.Types.{StaticType, NoType}
use Rattle.vg_source.specs.Declared.{written_type}
use Rattle.vg_source.specs.Resolved.{Owner, InClass, InComponent, Scope, no_names, declare, Fresh}
use Rattle.vg_source.specs.Program.{declarations_of, with_params, scope_of}
use Rattle.vg_rules.specs.Breach.{asks}
use Rattle.vg_rules.specs.Bodies.{breach, initialiser_keeps}
use Rattle.vg_rules.specs.Entries.{entries_breach}
use Rattle.vg_rules.specs.Inherited.{inherited_breach}
use Rattle.vg_rules.specs.Legal.{Legal, body_of, outside, super_keeps, bodies_breach, written_breach}
use Rattle.vg_rules.specs.Names.{names_breach, programs, classes_breach}
use Rattle.vg_rules.specs.Signatures.{Home, OfComponent, home_of, constructor_keeps, params_differ, members_breach, registers_breach, signatures_breach}
use Rattle.vg_rules.specs.Written.{type_keeps, param_types_keep}
use Rattle.vg_source_ranges.specs.Routines.{HaveMembers, AreMembers}
use Rattle.vg_source_ranges.proofs.Numbers.{both}
use Rattle.vg_source_ranges.proofs.Bodies.{kept, asked}
use Rattle.vg_written_locals.specs.Locals.{AreProper, HaveWrittenTypes}
use Rattle.vg_source_widths.specs.Sized.{AreSized, locals_among, locals_in, locals_of}
use Rattle.vg_source_widths.proofs.Bodies.{W, two, sized_type, sized_body}

-- ---- lists

joined : {A : Type 0} (P : A → Type 0) (xs ys : List A) → AllByRecursion P xs → AllByRecursion P ys → AllByRecursion P (xs ++ ys)
joined P [] ys h k = k
joined P (x ∷ xs) ys (a, h) k = (a, joined P xs ys h k)

turned : (ts : List StaticType) → AreSized ts → AreSized (reverse ts)
turned [] h = tt
turned (t ∷ ts) (a, h) = subst AreSized (sym (reverse-append (t ∷ []) ts)) (joined _ (reverse ts) (t ∷ []) (turned ts h) (a, tt))

found : {A : Type 0} (P : A → Type 0) (xs : List A) (i : ℕ) (x : A) → AllByRecursion P xs → slice_get xs i ≡ Some x → P x
found P [] i x h e = absurd (grind (arith, e))
found P (y ∷ xs) zero x (a, h) e = let q : y ≡ x = cc in subst P q a
found P (y ∷ xs) (suc i) x (a, h) e = found P xs i x h e

abbrev Locals : List (List StaticType) → Type 0
Locals tss = AllByRecursion AreSized tss

module _ (ds : Node) where
  -- ---- parameters

  sized_params : (ps : List Param) (ls : Scope) → param_types_keep ds ps ≡ true → AreProper ps → W ls → W (with_params ls ps)
  sized_params [] ls e h s = s
  sized_params (p ∷ ps) ls e (a, h) s =
      let q = both (type_keeps ds p.type) (param_types_keep ds ps) e in
      sized_params ps (declare p.name (written_type p.type) ls) q.1 h (sized_type ds p.type q.0 a, s)

  -- ---- members

  members : (ms : Node) (o : Owner) (c : Name) (above : Option Name) (home : Home) (seen : List Name) (made : Bool) → AreMembers ms
      → bodies_breach ds o above ms ≡ None → members_breach ds home seen made ms ≡ None → HaveWrittenTypes ms → Locals (locals_among ds o ms)
  members (Then (FieldDecl at x t e) rest) o c above home seen made are eb em w =
      let q = kept (breach ds outside e Fresh no_names) _ eb in
      let r = kept (asks (initialiser_keeps ds outside (written_type t) e no_names) 21 at) _ q.1 in
      let m0 = kept (asks (not (is_among seen x)) 6 at) _ em in
      let m1 = kept (asks (type_keeps ds t) 8 at) _ m0.1 in
      members rest o c above home (x ∷ seen) made are r.1 m1.1 (two (FieldDecl at x t e) rest w).1
  members (Then (MethodDecl at x ps t body) rest) o c above home seen made are eb em w =
      let w1 = two (MethodDecl at x ps t body) rest w in
      let q = kept (breach ds (body_of o (written_type t)) body Fresh (scope_of ps)) _ eb in
      let m0 = kept (asks (not (is_among seen x)) 6 at) _ em in
      let m1 = kept (asks (param_types_keep ds ps && type_keeps ds t) 8 at) _ m0.1 in
      let m2 = kept (asks (params_differ ps) 11 at) _ m1.1 in
      let k = both (param_types_keep ds ps) (type_keeps ds t) (asked (param_types_keep ds ps && type_keeps ds t) 8 at m1.0) in
      let p = sized_params ps no_names k.0 w1.0.0 tt in
      let b = sized_body ds (body_of o (written_type t)) body (scope_of ps) q.0 p w1.0.1 in
      (turned _ b, members rest o c above home (x ∷ seen) made are q.1 m2.1 w1.1)
  members (Then (ConstructorDecl at ps calls args body) rest) o c above home seen made are eb em w =
      let q = kept (breach ds outside args Fresh (scope_of ps)) _ eb in
      let r = kept (asks (super_keeps ds above args ps) 10 at) _ q.1 in
      let u = kept (breach ds (body_of o NoType) body Fresh (scope_of ps)) _ r.1 in
      let m0 = kept (asks (not made) 6 at) _ em in
      let m1 = kept (asks (param_types_keep ds ps) 8 at) _ m0.1 in
      let m2 = kept (asks (constructor_keeps home ps calls) 9 at) _ m1.1 in
      let m3 = kept (asks (params_differ ps) 11 at) _ m2.1 in
      members rest o c above home seen true are u.1 m3.1 (two (ConstructorDecl at ps calls args body) rest w).1
  members (Then _ rest) o c above home seen made are eb em w = absurd are
  members _ o c above home seen made are eb em w = tt

  -- ---- declarations

  declared : (rows : Node) → HaveMembers rows → written_breach ds rows ≡ None → signatures_breach ds rows ≡ None → HaveWrittenTypes rows
      → Locals (locals_in ds rows)
  declared (Then (ClassDecl at c above ms) rest) (are, more) ew es w =
      let w1 = two (ClassDecl at c above ms) rest w in
      let q = kept (bodies_breach ds (InClass c) above ms) _ ew in
      let r = kept (members_breach ds (home_of above) [] false ms) _ es in
      let m = members ms (InClass c) c above (home_of above) [] false are q.0 r.0 w1.0.1 in
      joined _ (locals_among ds (InClass c) ms) (locals_in ds rest) m (declared rest more q.1 r.1 w1.1)
  declared (Then (ComponentDecl at c ms) rest) (are, more) ew es w =
      let w1 = two (ComponentDecl at c ms) rest w in
      let q = kept (bodies_breach ds (InComponent c) None ms) _ ew in
      let r = kept (members_breach ds OfComponent [] false ms) _ es in
      let m = members ms (InComponent c) c None OfComponent [] false are q.0 r.0 w1.0.1 in
      joined _ (locals_among ds (InComponent c) ms) (locals_in ds rest) m (declared rest more q.1 r.1 w1.1)
  declared (Then (DeviceDecl at d registers) rest) h ew es w =
      declared rest h ew (kept (registers_breach [] registers) _ es).1 (two (DeviceDecl at d registers) rest w).1
  declared (Then d rest) h ew es w = declared rest h ew es (two d rest w).1
  declared _ h ew es w = tt

-- ---- texts

all : (text : Node) → Legal text → HaveMembers (declarations_of text) → HaveWrittenTypes text → Locals (locals_of text)
all (Text at ds) legal have w =
    let a = kept (names_breach [] ds) _ legal in
    let b = kept (asks (programs ds == 1) 2 at) _ a.1 in
    let c = kept (classes_breach ds ds) _ b.1 in
    let d = kept (signatures_breach ds ds) _ c.1 in
    let e = kept (inherited_breach ds ds) _ d.1 in
    let f = kept (entries_breach ds ds) _ e.1 in declared ds ds have f.1 d.0 w.1
all _ legal have w = tt

pub locals_sized : (text : Node) → Legal text → HaveMembers (declarations_of text) → HaveWrittenTypes text → (m : ℕ) (ts : List StaticType)
    → slice_get (locals_of text) m ≡ Some ts → AreSized ts
locals_sized text legal have w m ts e = found AreSized (locals_of text) m ts (all text legal have w) e
