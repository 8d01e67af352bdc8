-- A method among the routines of the source program, by its number.
use Rattle.std.proofs.Common.{◌≡◌, ◌≤◌, ℕ, zero, suc, List, [], ◌∷◌, ◌++◌, map, slice_get, Some, refl, sym, ap, ◌∙◌, subst, arith}
use Rattle.std.proofs.lemmas.Grind.{flat_map-append}
use Rattle.vg_syntax.specs.Tree.{Node}
use Rattle.vg_codes.specs.Codes.{Codes}
use Rattle.vg_source.specs.Steps.{Routine, Source}
use Rattle.vg_source.specs.Program.{source_of}
use Rattle.vg_method_sizes.specs.Sizes.{Size, sizes, if_method, methods_among}
use Rattle.vg_source_sizes.specs.Arms.{ArmsHaveBlocks}
use Rattle.vg_source_sizes.specs.Sizes.{code_size as source_size, AreWithin}
use Rattle.vg_core.specs.declared.program.Method.{Method}
use Rattle.vg_core.specs.declared.program.Target.{Target}
use Rattle.vg_core.specs.declared.program.Target.TheVariants.{Run}
use Rattle.vg_core.specs.declared.program.Tables.{Tables}
use Rattle.vg_core.specs.Naming.{Naming, naming_of, named, named_code, named_routine, routine_at, routines_at}
use Rattle.vg_core.specs.Program.{Program, Body, Signature, signature_of, body_of}
use Rattle.vg_renamed.specs.NamesTell.{NamesTell}
use Rattle.vg_firm_sizes.specs.Sizes.{code_size}
use Rattle.vg_packing.specs.Layout.{Layout}
use Rattle.vg_packing.specs.Pass.{packed}

-- a routine stands among others
abbrev pub At : List Routine → Routine → Type 0
At rs r = (i : ℕ) × (slice_get rs i ≡ Some r)

behind : (rs qs : List Routine) (r : Routine) → At qs r → At (rs ++ qs) r
behind [] qs r h = h
behind (x ∷ rs) qs r h = let g = behind rs qs r h in (suc g.0, g.1)

module _ (n : Naming) (p : Program) (m : ℕ) (g : Signature) (b : Body) (eg : signature_of p.tables (Run m) ≡ Some g) (eb : body_of p (Run m) ≡ Some b) where
  abbrev pub the_routine : Routine
  the_routine = named_routine n p.tables (Run m) g b

  pub present : (ts : List Target) (i : ℕ) → slice_get ts i ≡ Some (Run m) → At (methods_among (routines_at n p ts)) the_routine
  present [] i e = cc
  present (x ∷ ts) zero e =
      let f : x ≡ Run m = cc in
      subst (λ z. At (methods_among (routine_at n p z (signature_of p.tables z) (body_of p z) ++ routines_at n p ts)) the_routine) (sym f)
      (subst (λ z. At (methods_among (routine_at n p (Run m) z (body_of p (Run m)) ++ routines_at n p ts)) the_routine) (sym eg)
      (subst (λ z. At (methods_among (routine_at n p (Run m) (Some g) z ++ routines_at n p ts)) the_routine) (sym eb) (0, refl)))
  present (x ∷ ts) (suc i) e =
      let first = routine_at n p x (signature_of p.tables x) (body_of p x) in
      subst (λ z. At z the_routine) (sym (flat_map-append (λ (r : Routine). if_method r.target r) first (routines_at n p ts)))
      (behind (methods_among first) (methods_among (routines_at n p ts)) the_routine (present ts i e))

-- the size at the place of a routine
picked : (rs : List Routine) (ss : List Size) (i : ℕ) (r : Routine) → AreWithin rs ss → slice_get rs i ≡ Some r
    → (s : Size) × (slice_get ss i ≡ Some s) × (source_size r.body ≤ s.nodes)
picked [] [] i r h e = cc
picked [] (s ∷ ss) i r h e = absurd h
picked (q ∷ rs) [] i r h e = absurd h
picked (q ∷ rs) (s ∷ ss) zero r (d, h) e = let f : q ≡ r = cc in (s, refl, subst (λ (z : Routine). source_size z.body ≤ s.nodes) f d)
picked (q ∷ rs) (s ∷ ss) (suc i) r (d, h) e = picked rs ss i r h e

mapped : {A : Type 0} (f : A → ℕ) (xs : List A) (i : ℕ) (x : A) → slice_get xs i ≡ Some x → slice_get (map f xs) i ≡ Some (f x)
mapped f [] i x e = cc
mapped f (y ∷ xs) zero x e = let g : y ≡ x = cc in ap (λ z. Some (f z)) g
mapped f (y ∷ xs) (suc i) x e = mapped f xs i x e

some_same : (i j : ℕ) → Some i ≡ Some j → i ≡ j
some_same i j e = cc

module _ (places : (text : Node) (i : ℕ) (r : Routine) → slice_get (methods_among (source_of text).routines) i ≡ Some r → r.number ≡ i)
    (methods : (text : Node) → ArmsHaveBlocks text → AreWithin (methods_among (source_of text).routines) (sizes text))
    (smaller : (n : Naming) (p : Tables) (l : Layout) (k : Codes) (m : ℕ) (g : Signature) (b : Body)
    → code_size (packed p l k m g b).body ≤ source_size (named_code n p b.code)) where
  pub within_nodes : (texts : List (List ℕ)) (tree : Node) (p : Program) → source_of tree ≡ named (naming_of texts p.tables) p
      → NamesTell (naming_of texts p.tables) p → map (λ (m : Method). m.nodes) p.tables.methods ≡ map (λ (s : Size). s.nodes) (sizes tree)
      → ArmsHaveBlocks tree → (m : ℕ) (y : Method) (g : Signature) (b : Body) → slice_get p.tables.methods m ≡ Some y
      → signature_of p.tables (Run m) ≡ Some g → body_of p (Run m) ≡ Some b → (l : Layout) (k : Codes)
      → code_size (packed p.tables l k m g b).body ≤ y.nodes
  within_nodes texts tree p is told nodes arms m y g b ey eg eb l k =
      let n = naming_of texts p.tables in
      let r = named_routine n p.tables (Run m) g b in
      let t = told.targets (Run m) g b eg eb in
      let a = subst (λ (z : Source). At (methods_among z.routines) r) (sym is) (present n p m g b eg eb p.tables.targets t.0 t.1) in
      let same : m ≡ a.0 = places tree a.0 r a.1 in
      let s = picked (methods_among (source_of tree).routines) (sizes tree) a.0 r (methods tree arms) a.1 in
      let count = some_same y.nodes s.0.nodes
      (sym (mapped (λ (m : Method). m.nodes) p.tables.methods m y ey) ∙ ap (λ z. slice_get z m) nodes
      ∙ ap (slice_get (map (λ (s : Size). s.nodes) (sizes tree))) same ∙ mapped (λ (s : Size). s.nodes) (sizes tree) a.0 s.0 s.1) in
      let small = smaller n p.tables l k m g b in
      let source = s.2 in
      omega (arith, count, small, source)
