-- The types of fields.
use Rattle.std.proofs.Common.{◌≡◌, sym, ap, subst, ◌∙◌, arith, ℕ, zero, suc, ◌==◌, ◌&&◌, not, Bool, true, false, List, [], ◌∷◌, ◌++◌, Some, None}
use Rattle.std.proofs.Common.{slice_get}
use Rattle.std.specs.List.{AllByRecursion}
use Rattle.std.specs.Option.{option_map}
use Rattle.std.proofs.lemmas.Option.{slice_get-map}
use Rattle.vg_syntax.specs.Tree.{Node, Then, Text, ClassDecl, ComponentDecl, DeviceDecl, FieldDecl, MethodDecl, ConstructorDecl}
use Rattle.vg_source.specs.Names.{Name, is_among}
use Rattle.vg_source.specs.Nodes.{nodes}
use Rattle.vg_source.specs.Resolved.{Owner, InClass, InComponent}
use Rattle.vg_source.specs.Program.{declarations_of}
use Rattle.vg_rules.specs.Breach.{asks}
use Rattle.vg_rules.specs.Legal.{Legal}
use Rattle.vg_rules.specs.Names.{names_breach, programs, classes_breach}
use Rattle.vg_rules.specs.Refusal.{refusal_of}
use Rattle.vg_rules.specs.Signatures.{Home, OfComponent, home_of, constructor_keeps, params_differ, members_breach, registers_breach, signatures_breach}
use Rattle.vg_rules.specs.Written.{type_keeps, param_types_keep}
use Rattle.vg_source_ranges.specs.Ranges.{IsSmall, IsWide}
use Rattle.vg_source_ranges.specs.Spelled.{IsSpelled, AreSpelled}
use Rattle.vg_source_ranges.specs.Routines.{HaveMembers, AreMembers}
use Rattle.vg_source_ranges.proofs.Numbers.{small_type, wide_type}
use Rattle.vg_source_ranges.proofs.Bodies.{kept, asked, halves}
use Rattle.vg_static_source.specs.Fields.{DeclaredField, fields_among, fields_in, fields_of}
use Rattle.vg_core.specs.declared.program.Field.{Field}
use Rattle.vg_core.specs.declared.program.Tables.{Tables}
use Rattle.vg_core.specs.Naming.{naming_of, named_type}
use Rattle.vg_written.specs.Written.{AreWritten, named_field}
use Rattle.vg_text_limits.proofs.Limits.{is_legal}

abbrev Fit : DeclaredField → Type 0
Fit d = IsSmall d.type × IsWide d.type

abbrev All : List DeclaredField → Type 0
All ds = AllByRecursion Fit ds

all_both : (xs ys : List DeclaredField) → All xs → All ys → All (xs ++ ys)
all_both [] ys h k = k
all_both (x ∷ xs) ys (a, h) k = (a, all_both xs ys h k)

all_at : (ds : List DeclaredField) (i : ℕ) (d : DeclaredField) → All ds → slice_get ds i ≡ Some d → Fit d
all_at [] i d h e = absurd (grind (arith, e))
all_at (x ∷ ds) zero d (a, h) e = let q : x ≡ d = cc in subst Fit q a
all_at (x ∷ ds) (suc i) d (a, h) e = all_at ds i d h e

module _ (most : ℕ) (ds : Node) where
  two : (a b : Node) → AreSpelled most (Then a b) → AreSpelled most a × AreSpelled most b
  two a b w = halves (IsSpelled most) (nodes a) (nodes b) w

  members : (home : Home) (seen : List Name) (made : Bool) (o : Owner) (ms : Node) → AreMembers ms → members_breach ds home seen made ms ≡ None
      → AreSpelled most ms → All (fields_among o ms)
  members home seen made o (Then (FieldDecl at x t e) rest) are b w =
      let m0 = kept (asks (not (is_among seen x)) 6 at) _ b in
      let m1 = kept (asks (type_keeps ds t) 8 at) _ m0.1 in
      let k = asked (type_keeps ds t) 8 at m1.0 in
      let w1 = two (FieldDecl at x t e) rest w in
      ((small_type ds t k, wide_type ds t k w1.0.0), members home (x ∷ seen) made o rest are m1.1 w1.1)
  members home seen made o (Then (MethodDecl at x ps t body) rest) are b w =
      let m0 = kept (asks (not (is_among seen x)) 6 at) _ b in
      let m1 = kept (asks (param_types_keep ds ps && type_keeps ds t) 8 at) _ m0.1 in
      let m2 = kept (asks (params_differ ps) 11 at) _ m1.1 in members home (x ∷ seen) made o rest are m2.1 (two (MethodDecl at x ps t body) rest w).1
  members home seen made o (Then (ConstructorDecl at ps calls args body) rest) are b w =
      let m0 = kept (asks (not made) 6 at) _ b in
      let m1 = kept (asks (param_types_keep ds ps) 8 at) _ m0.1 in
      let m2 = kept (asks (constructor_keeps home ps calls) 9 at) _ m1.1 in
      let m3 = kept (asks (params_differ ps) 11 at) _ m2.1 in members home seen true o rest are m3.1 (two (ConstructorDecl at ps calls args body) rest w).1
  members home seen made o (Then _ rest) are b w = absurd are
  members home seen made o _ are b w = tt

  rows_fit : (rows : Node) → HaveMembers rows → signatures_breach ds rows ≡ None → AreSpelled most rows → All (fields_in rows)
  rows_fit (Then (ClassDecl at c above ms) rest) (are, more) b w =
      let q = kept (members_breach ds (home_of above) [] false ms) _ b in
      let w1 = two (ClassDecl at c above ms) rest w in
      all_both (fields_among (InClass c) ms) (fields_in rest) (members (home_of above) [] false (InClass c) ms are q.0 w1.0.1) (rows_fit rest more q.1 w1.1)
  rows_fit (Then (ComponentDecl at c ms) rest) (are, more) b w =
      let q = kept (members_breach ds OfComponent [] false ms) _ b in
      let w1 = two (ComponentDecl at c ms) rest w in
      all_both (fields_among (InComponent c) ms) (fields_in rest) (members OfComponent [] false (InComponent c) ms are q.0 w1.0.1) (rows_fit rest more q.1 w1.1)
  rows_fit (Then (DeviceDecl at d registers) rest) h b w =
      rows_fit rest h (kept (registers_breach [] registers) _ b).1 (two (DeviceDecl at d registers) rest w).1
  rows_fit (Then d rest) h b w = rows_fit rest h b (two d rest w).1
  rows_fit _ h b w = tt

declared : (most : ℕ) (text : Node) → Legal text → HaveMembers (declarations_of text) → AreSpelled most text → All (fields_of text)
declared most (Text at ds) legal have w =
    let a = kept (names_breach [] ds) _ legal in
    let b = kept (asks (programs ds == 1) 2 at) _ a.1 in
    let c = kept (classes_breach ds ds) _ b.1 in
    let d = kept (signatures_breach ds ds) _ c.1 in rows_fit most ds ds have d.0 w.1
declared most _ legal have w = tt

pub fields_fit : (texts : List Name) (text : Node) (most : ℕ) (p : Tables) → refusal_of text ≡ None → HaveMembers (declarations_of text)
    → AreSpelled most text → AreWritten texts text p → (f : ℕ) (y : Field) → slice_get p.fields f ≡ Some y
    → IsSmall (named_type (naming_of texts p) p y.type_) × IsWide (named_type (naming_of texts p) p y.type_)
fields_fit texts text most p legal have w written f y e =
    all_at (fields_of text) f (named_field texts p y) (declared most text (is_legal text legal) have w)
    (ap (λ z. slice_get z f) (sym written.fields) ∙ (slice_get-map (named_field texts p) p.fields f ∙ ap (option_map (named_field texts p)) e))
