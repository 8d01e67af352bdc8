-- The types of the parameters and locals of methods, in order of the text.
use Rattle.std.proofs.Common.{◌≡◌, ℕ, zero, suc, ◌+◌, List, [], ◌∷◌, ◌++◌, length, map, drop, reverse, Some, slice_get, refl, sym, ap, ◌∙◌, subst, arith}
use Rattle.std.proofs.lemmas.List.{map-append, length-map}
use Rattle.vg_syntax.specs.Tree.{TypeTree, Param, Node, Then, ClassDecl, ComponentDecl, MethodDecl}
use Rattle.vg_tree.specs.declared.node.Node as held_node
use Rattle.vg_source.specs.Names.{Name}
use Rattle.vg_source.specs.Types.{StaticType, MoreTypes}
use Rattle.vg_source.specs.Declared.{written_type, row_of}
use Rattle.vg_source.specs.Resolved as source
use Rattle.vg_source.specs.Resolved.{Fresh, resolved}
use Rattle.vg_source.specs.Program.{scope_of}
use Rattle.vg_source_widths.specs.Sized.{locals_among, locals_in}
use Rattle.vg_source_widths.proofs.Added.{parameters_first}
use Rattle.vg_core.specs.declared.types.CoreType.{CoreType}
use Rattle.vg_core.specs.declared.program.Body.{Body as HeldBody}
use Rattle.vg_core.specs.declared.program.Owner.{Owner}
use Rattle.vg_core.specs.declared.program.Owner.TheVariants.{InClass, InComponent}
use Rattle.vg_core.specs.declared.program.Target.TheVariants.{Run}
use Rattle.vg_core.specs.HeldProgram.{body_at}
use Rattle.vg_core.specs.Program.{Body, Signature, signature_of, method_signature}
use Rattle.vg_core.specs.State.{onto}
use Rattle.vg_core.specs.Typing.{locals_of}
use Rattle.vg_types_tables.specs.declared.declared.Declared.{Declared}
use Rattle.vg_types_tables.specs.Views.{declarations_at, owner_view, type_view, row_view}
use Rattle.vg_types_routines.specs.Bodies.{signature_at, IsMethodBody, MethodBodies, AllBodies}
use Rattle.vg_types_routines.proofs.Constructing.{row_length}
use Rattle.vg_types_declared.specs.Named.{Keeps}
use Rattle.vg_types_declared.proofs.Slotting.{Of, first, second, of_two}
use Rattle.vg_types_named.specs.Left.{Left}
use Rattle.vg_types_named.specs.Targets.{count_methods, IsWritten, AreWritten, AreSigned}
use Rattle.vg_types_named.proofs.Signed.{signed}
use Rattle.vg_types_named.proofs.Telling.{one_some}

-- ---- lists

ahead : {A : Type 0} (xs ys zs : List A) → onto (onto xs ys) zs ≡ onto ys (xs ++ zs)
ahead [] ys zs = refl
ahead (x ∷ xs) ys zs = ahead xs (x ∷ ys) zs

behind_all : {A B : Type 0} (f : A → B) (xs : List A) (ys : List B) → drop (length xs) (map f xs ++ ys) ≡ ys
behind_all f [] ys = refl
behind_all f (x ∷ xs) ys = behind_all f xs ys

in_front : {A : Type 0} (xs ys : List A) (i : ℕ) (z : A) → slice_get xs i ≡ Some z → slice_get (xs ++ ys) i ≡ Some z
in_front [] ys i z e = cc
in_front (x ∷ xs) ys zero z e = e
in_front (x ∷ xs) ys (suc i) z e = in_front xs ys i z e

in_back : {A : Type 0} (xs ys : List A) (j : ℕ) (z : A) → slice_get ys j ≡ Some z → slice_get (xs ++ ys) (length xs + j) ≡ Some z
in_back [] ys j z e = let k : 0 + j ≡ j = omega arith in ap (slice_get ys) k ∙ e
in_back (x ∷ xs) ys j z e =
    let k : suc (length xs) + j ≡ suc (length xs + j) = omega arith in ap (slice_get (x ∷ (xs ++ ys))) k ∙ in_back xs ys j z e

none_there : {A B : Type 0} (f : A → B) (xs : List A) (i : ℕ) (z : B) → xs ≡ [] → slice_get (map f xs) i ≡ Some z → ⊥
none_there f [] i z e q = cc
none_there f (x ∷ xs) i z e q = cc

two_parts : (a b s t : StaticType) → MoreTypes a s ≡ MoreTypes b t → (a ≡ b) × (s ≡ t)
two_parts a b s t e = (cc, cc)

module _ (texts : List (List ℕ)) (root : held_node.Node) (d : Declared) where
  abbrev ds : Node
  ds = declarations_at texts root

  -- ---- one method

  types_same : (ts : List CoreType) (ps : List Param) → row_view texts d ts ≡ row_of ps
      → map (type_view texts d) ts ≡ map (λ (p : Param). written_type p.type) ps
  types_same [] [] e = refl
  types_same [] (p ∷ ps) e = absurd (cc)
  types_same (t ∷ ts) [] e = absurd (cc)
  types_same (t ∷ ts) (p ∷ ps) e =
      let q = two_parts (type_view texts d t) (written_type p.type) (row_view texts d ts) (row_of ps) e in
      ap (λ z. z ∷ map (type_view texts d) ts) q.0 ∙ ap (λ z. written_type p.type ∷ z) (types_same ts ps q.1)

  -- what is declared is the parameters, and the others behind them
  in_order : (ps : List Param) (declared more : List StaticType) (params others : List CoreType) (n : ℕ)
      → declared ≡ map (λ (p : Param). written_type p.type) ps ++ more → map (type_view texts d) params ≡ map (λ (p : Param). written_type p.type) ps
      → map (type_view texts d) others ≡ drop n declared → n ≡ length ps → declared ≡ map (type_view texts d) (onto (onto params []) others)
  in_order ps declared more params others n q p o l =
      q ∙ ap (λ z. map (λ (p : Param). written_type p.type) ps ++ z) (sym rest)
      ∙ ap (λ z. z ++ map (type_view texts d) others) (sym p)
      ∙ sym (map-append (type_view texts d) params others)
      ∙ ap (map (type_view texts d)) (sym (ahead params [] others))
    where
      rest : map (type_view texts d) others ≡ more
      rest = o ∙ ap (λ z. drop z declared) l ∙ ap (drop (length ps)) q ∙ behind_all (λ (p : Param). written_type p.type) ps more

  one_method : (o p : Owner) (ro : source.Owner) (x n : Name) (ps : List Param) (t : TypeTree) (block : Node) (b : HeldBody) (m : ℕ)
      → owner_view texts d (Some o) ≡ ro → IsMethodBody texts root d o ps t block b → IsWritten texts d p x n ps t m
      → (g : Signature) → signature_of d.tables (Run m) ≡ Some g
      → reverse (resolved ds ro block Fresh (scope_of ps)).scope.declared ≡ map (type_view texts d) (locals_of g (body_at b))
  one_method o p ro x n ps t block b m v f w g e =
      let declared = reverse (resolved ds ro block Fresh (scope_of ps)).scope.declared in
      let begins = parameters_first ds ro ps block in
      subst (λ z. declared ≡ map (type_view texts d) (locals_of z (body_at b)))
      (one_some (signature_at w.method) g (sym (ap method_signature w.there) ∙ e))
      (in_order ps declared begins.0 w.method.params b.others (length f.params) begins.1 (types_same w.method.params ps w.params)
      (f.is.types ∙ ap (λ z. drop (length f.params) (reverse (resolved ds z block Fresh (scope_of ps)).scope.declared)) v)
      (row_length texts d f.params ps f.written))

  -- ---- methods

  -- the methods from this number on, with these bodies, have parameters and locals of these types
  abbrev HaveTypes : (m : ℕ) → List HeldBody → List (List StaticType) → Type 0
  HaveTypes m bs tss =
      (i : ℕ) (g : Signature) (b : Body) → signature_of d.tables (Run (m + i)) ≡ Some g → slice_get (map body_at bs) i ≡ Some b
      → slice_get tss i ≡ Some (map (type_view texts d) (locals_of g b))

  at_number : (m n : ℕ) (g : Signature) → m ≡ n → signature_of d.tables (Run m) ≡ Some g → signature_of d.tables (Run n) ≡ Some g
  at_number m n g q e = subst (λ z. signature_of d.tables (Run z) ≡ Some g) q e

  among : (o p : Owner) (ro : source.Owner) (x : Name) (m : ℕ) (row : Node) (own : List HeldBody) → owner_view texts d (Some o) ≡ ro
      → MethodBodies texts root d o row own → AreWritten texts d p x m row → HaveTypes m own (locals_among ds ro row)
  among o p ro x m (Then (MethodDecl at n ps t block) rest) (b ∷ own) v f w zero g y e q =
      ap Some
      (one_method o p ro x n ps t block b m v f.0 w.0 g (at_number (m + 0) m g (omega arith) e)
      ∙ ap (λ z. map (type_view texts d) (locals_of g z)) (one_some (body_at b) y q))
  among o p ro x m (Then (MethodDecl at n ps t block) rest) (b ∷ own) v f w (suc i) g y e q =
      among o p ro x (suc m) rest own v f.1 w.1 i g y (at_number (m + suc i) (suc m + i) g (omega arith) e) q
  among o p ro x m (Then (MethodDecl at n ps t block) rest) [] v f w i g y e q = absurd f
  among o p ro x m (Then _ rest) own v f w i g y e q = among o p ro x m rest own v f w i g y e q
  among o p ro x m _ own v f w i g y e q = absurd (none_there body_at own i y f q)

  pub own_count : (o : Owner) (row : Node) (own : List HeldBody) → MethodBodies texts root d o row own → length own ≡ count_methods row
  own_count o (Then (MethodDecl at n ps t block) rest) (b ∷ own) f = ap suc (own_count o rest own f.1)
  own_count o (Then (MethodDecl at n ps t block) rest) [] f = absurd f
  own_count o (Then _ rest) own f = own_count o rest own f
  own_count o _ own f = ap length f

  among_count : (ro : source.Owner) (row : Node) → length (locals_among ds ro row) ≡ count_methods row
  among_count ro (Then (MethodDecl at n ps t block) rest) = ap suc (among_count ro rest)
  among_count ro (Then _ rest) = among_count ro rest
  among_count ro _ = refl

  -- ---- all declarations

  joined : (m n : ℕ) (ms own others : List HeldBody) (xs ys : List (List StaticType)) → ms ≡ own ++ others → length own ≡ n → length xs ≡ n
      → HaveTypes m own xs → HaveTypes (m + n) others ys → HaveTypes m ms (xs ++ ys)
  joined m n ms own others xs ys em lo lx a b i g y e q =
      by (of_two (map body_at own) (map body_at others) i y
      (ap (λ z. slice_get z i) (sym (ap (map body_at) em ∙ map-append body_at own others)) ∙ q))
    where
      by : Of (map body_at own) (map body_at others) i y → slice_get (xs ++ ys) i ≡ Some (map (type_view texts d) (locals_of g y))
      by (first f) = in_front xs ys i _ (a i g y e f)
      by (second j k f) =
          let l = length-map own body_at in
          let here : i ≡ length xs + j = omega (arith, k, l, lo, lx) in
          let next : m + i ≡ m + n + j = omega (arith, here, lx) in
          ap (slice_get (xs ++ ys)) here ∙ in_back xs ys j _ (b j g y (at_number (m + i) (m + n + j) g next e) f)

  all_in : (rest : Node) (c k m : ℕ) (ms ks ss : List HeldBody) → AllBodies texts root d rest ms ks ss → AreSigned texts d c k m rest
      → HaveTypes m ms (locals_in ds rest)
  all_in (Then (ClassDecl at x above row) rest) c k m ms ks ss (own, others, body, makings, em, ek, f, a) w =
      joined m (count_methods row) ms own others (locals_among ds (source.InClass x) row) (locals_in ds rest) em
      (own_count (InClass f.class) row own f.methods_are) (among_count (source.InClass x) row)
      (among (InClass f.class) (InClass c) (source.InClass x) x m row own (ap source.InClass f.name) f.methods_are w.1)
      (all_in rest (suc c) k (m + count_methods row) others makings ss a w.2)
  all_in (Then (ComponentDecl at x row) rest) c k m ms ks ss (own, others, body, starts, em, es, f, a) w =
      joined m (count_methods row) ms own others (locals_among ds (source.InComponent x) row) (locals_in ds rest) em
      (own_count (InComponent f.component) row own f.methods_are) (among_count (source.InComponent x) row)
      (among (InComponent f.component) (InComponent k) (source.InComponent x) x m row own (ap source.InComponent f.name) f.methods_are w.1)
      (all_in rest c (suc k) (m + count_methods row) others ks starts a w.2)
  all_in (Then _ rest) c k m ms ks ss f w = all_in rest c k m ms ks ss f w
  all_in _ c k m ms ks ss (em, ek, es) w = λ i g y e q. absurd (none_there body_at ms i y em q)

  pub all_locals : (ms ks ss : List HeldBody) → Keeps ds → Left texts ds d → AllBodies texts root d ds ms ks ss → (m : ℕ) (g : Signature) (b : Body)
      → signature_of d.tables (Run m) ≡ Some g → slice_get (map body_at ms) m ≡ Some b
      → slice_get (locals_in ds ds) m ≡ Some (map (type_view texts d) (locals_of g b))
  all_locals ms ks ss kept l f m g b e q =
      all_in ds 0 0 0 ms ks ss f (signed texts ds l.types l.heads l.homes d kept l.left) m g b (at_number m (0 + m) g (omega arith) e) q
