-- A method among the routines of the source program has the size of its declaration, and is counted.
use Rattle.std.proofs.Common.{◌≡◌, refl, sym, ap, subst, ◌∙◌, arith, ℕ, zero, suc, ◌+◌, ◌≤◌, false, List, [], ◌∷◌, length, map, flat_map, Some, None, slice_get}
use Rattle.std.proofs.lemmas.List.{length-map}
use Rattle.std.proofs.lemmas.Option.{same_Some}
use Rattle.vg_syntax.specs.Tree.{Node, MethodDecl, ConstructorDecl}
use Rattle.vg_syntax.specs.Numbering.{count_nodes}
use Rattle.vg_code_counts.specs.Counted.{Counted}
use Rattle.vg_code_counts.proofs.Renamed.{counted_renamed}
use Rattle.vg_source.specs.Nodes.{count_locals}
use Rattle.vg_source.specs.Steps.{Routine, Source}
use Rattle.vg_source.specs.Program.{source_of}
use Rattle.vg_rules.specs.Counts.{locals_at, all_members}
use Rattle.vg_rules.specs.Legal.{Legal}
use Rattle.vg_rules.specs.Refusal.{first_past, refusal_of}
use Rattle.vg_method_sizes.specs.Sizes.{Size, size_at, sizes, methods_among}
use Rattle.vg_method_locals.specs.Among.{InMethods}
use Rattle.vg_core.specs.declared.program.Method.{Method}
use Rattle.vg_core.specs.declared.program.Target.TheVariants.{Run}
use Rattle.vg_core.specs.Heap.{default}
use Rattle.vg_core.specs.Naming.{Naming, naming_of, named, named_value, named_step}
use Rattle.vg_core.specs.Program.{Body, Program, Signature, method_signature}
use Rattle.vg_renamed.specs.NamesTell.{NamesTell}
use Rattle.vg_packed_nodes.proofs.Procedures.{At, the_routine, present}
use Rattle.vg_packed_typed.specs.Measured.{core_measures}
use Rattle.vg_packed_typed.specs.Methods.{IsCounted}
use Rattle.vg_source_counts.specs.Counts as source
use Rattle.vg_source_counts.specs.Forms.{IsFormed}
use Rattle.vg_source_counts.specs.Measures.{source_measures}
use Rattle.vg_text_limits.proofs.Limits.{is_legal, few_locals, past_first}
use Rattle.vg_named_counted.proofs.Steps.{alike}

-- the size at the place of a routine
picked : (rs : List Routine) (ss : List Size) (i : ℕ) (r : Routine) → source.AreCounted rs ss → slice_get rs i ≡ Some r
    → (s : Size) × (slice_get ss i ≡ Some s) × Counted source_measures (s.nodes + 2) false 0 r.body 0 0
picked [] [] i r h e = cc
picked [] (s ∷ ss) i r h e = absurd h
picked (q ∷ rs) [] i r h e = absurd h
picked (q ∷ rs) (s ∷ ss) zero r (d, h) e =
    let f : q ≡ r = cc in (s, refl, subst (λ (z : Routine). Counted source_measures (s.nodes + 2) false 0 z.body 0 0) f d)
picked (q ∷ rs) (s ∷ ss) (suc i) r (d, h) e = picked rs ss i r h e

-- what the second of two lists has at a place of the first, where they are the same
there : {A B : Type 0} (f : A → ℕ) (g : B → ℕ) (xs : List A) (ys : List B) (i : ℕ) (x : A) → map f xs ≡ map g ys → slice_get xs i ≡ Some x
    → (y : B) × (slice_get ys i ≡ Some y) × (f x ≡ g y)
there f g [] ys i x e ex = cc
there f g (z ∷ xs) [] i x e ex = cc
there f g (z ∷ xs) (y ∷ ys) zero x e ex = let h : f z ≡ g y = cc in (y, refl, ap f (sym (same_Some z x ex)) ∙ h)
there f g (z ∷ xs) (y ∷ ys) (suc i) x e ex = let h : map f xs ≡ map g ys = cc in there f g xs ys i x h ex

-- so it is with what is known to stand there
same_at : {A B : Type 0} (f : A → ℕ) (g : B → ℕ) (xs : List A) (ys : List B) (i : ℕ) (x : A) (y : B) → map f xs ≡ map g ys → slice_get xs i ≡ Some x
    → slice_get ys i ≡ Some y → f x ≡ g y
same_at f g xs ys i x y e ex ey = let (z, ez, h) = there f g xs ys i x e ex in h ∙ ap g (same_Some z y (sym ez ∙ ey))

-- a size by its parts
whole : (s : Size) (params locals nodes : ℕ) → s.params ≡ params → s.locals ≡ locals → s.nodes ≡ nodes
    → s ≡ record { params = params; locals = locals; nodes = nodes }
whole s params locals nodes a b c =
    ap (λ z. record { params = z; locals = s.locals; nodes = s.nodes }) a ∙ ap (λ z. record { params = params; locals = z; nodes = s.nodes }) b
    ∙ ap (λ z. record { params = params; locals = locals; nodes = z }) c

-- no method has more than 60 parameters and locals
few_at : (ms : List Node) (i : ℕ) (s : Size) → first_past 60 (flat_map locals_at ms) ≡ None → slice_get (flat_map size_at ms) i ≡ Some s
    → s.params + s.locals ≤ 60
few_at [] i s h e = cc
few_at (MethodDecl at x ps t body ∷ ms) zero s h e =
    let q : record { params = length ps; locals = count_locals body; nodes = count_nodes body } ≡ s = cc in
    let a = (past_first 60 (record { node = at.id; number = length ps + count_locals body }) (flat_map locals_at ms) h).0 in
    subst (λ z. z.params + z.locals ≤ 60) q a
few_at (MethodDecl at x ps t body ∷ ms) (suc i) s h e =
    few_at ms i s (past_first 60 (record { node = at.id; number = length ps + count_locals body }) (flat_map locals_at ms) h).1 e
few_at (ConstructorDecl at ps calls args body ∷ ms) i s h e =
    few_at ms i s (past_first 60 (record { node = at.id; number = length ps + count_locals body }) (flat_map locals_at ms) h).1 e
few_at (_ ∷ ms) i s h e = few_at ms i s h e

-- ---- methods

module _ (places : (text : Node) (i : ℕ) (r : Routine) → slice_get (methods_among (source_of text).routines) i ≡ Some r → r.number ≡ i)
    (params : (text : Node) → map (λ (r : Routine). r.params) (methods_among (source_of text).routines) ≡ map (λ (s : Size). s.params) (sizes text))
    (locals : (text : Node) → InMethods text
    → map (λ (r : Routine). length r.others) (methods_among (source_of text).routines) ≡ map (λ (s : Size). s.locals) (sizes text))
    (texts : List (List ℕ)) (tree : Node) (p : Program) (is : source_of tree ≡ named (naming_of texts p.tables) p)
    (told : NamesTell (naming_of texts p.tables) p) (nodes : map (λ (m : Method). m.nodes) p.tables.methods ≡ map (λ (s : Size). s.nodes) (sizes tree))
    (among : InMethods tree) (m : ℕ) (y : Method) (b : Body) (ey : slice_get p.tables.methods m ≡ Some y) (eb : slice_get p.methods m ≡ Some b) where
  abbrev n : Naming
  n = naming_of texts p.tables

  abbrev g : Signature
  g = record { owner = y.owner; params = y.params; result = y.result }

  abbrev r : Routine
  r = the_routine n p m g b (ap method_signature ey) eb

  abbrev rs : List Routine
  rs = methods_among (source_of tree).routines

  -- the routine stands at the number of the method
  among_routines : slice_get rs m ≡ Some r
  among_routines =
      let eg : method_signature (slice_get p.tables.methods m) ≡ Some g = ap method_signature ey in
      let t = told.targets (Run m) g b eg eb in
      let a = subst (λ (z : Source). At (methods_among z.routines) r) (sym is) (present n p m g b eg eb p.tables.targets t.0 t.1) in
      subst (λ i. slice_get rs i ≡ Some r) (sym (places tree a.0 r a.1)) a.1

  abbrev pub size : Size
  size = record { params = length y.params; locals = length b.others; nodes = y.nodes }

  pub has_size : slice_get (sizes tree) m ≡ Some size
  has_size = of_method (there (λ (q : Method). q.nodes) (λ (z : Size). z.nodes) p.tables.methods (sizes tree) m y nodes ey)
    where
      of_method : (s : Size) × (slice_get (sizes tree) m ≡ Some s) × (y.nodes ≡ s.nodes) → slice_get (sizes tree) m ≡ Some size
      of_method (s, es, same) =
          let x = same_at (λ (q : Routine). q.params) (λ (z : Size). z.params) rs (sizes tree) m r s (params tree) among_routines es in
          let w = same_at (λ (q : Routine). length q.others) (λ (z : Size). z.locals) rs (sizes tree) m r s (locals tree among) among_routines es in
          let v = length-map (map default b.others) (named_value n p.tables) ∙ length-map b.others default in
          es ∙ ap Some (whole s (length y.params) (length b.others) y.nodes (sym x) (sym w ∙ v) (sym same))

  pub is_counted : refusal_of tree ≡ None → IsFormed tree
      → ((text : Node) → Legal text → IsFormed text → source.AreCounted (methods_among (source_of text).routines) (sizes text)) → IsCounted y b
  is_counted legal formed counted =
      record { few = few_at (all_members tree) m size (few_locals tree legal) has_size; most = s.0.nodes + 2; within = within; counted = in_order }
    where
      s : (s : Size) × (slice_get (sizes tree) m ≡ Some s) × Counted source_measures (s.nodes + 2) false 0 r.body 0 0
      s = picked rs (sizes tree) m r (counted tree (is_legal tree legal) formed) among_routines

      within : s.0.nodes + 2 ≤ y.nodes + 2
      within = let same = ap (λ (z : Size). z.nodes) (same_Some s.0 size (sym s.1 ∙ has_size)) in omega (arith, same)

      in_order : Counted core_measures (s.0.nodes + 2) false 0 b.code 0 0
      in_order = counted_renamed core_measures source_measures (named_step n p.tables) (alike n p.tables) b.code (s.0.nodes + 2) false 0 0 0 s.2
