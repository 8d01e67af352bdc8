-- The program with names in place of numbers is one in which the names find what the numbers find.
use Rattle.std.proofs.Common.{◌≡◌, inl, inr, ℕ, zero, suc, ◌+◌, ◌==◌, ◌&&◌, ◌||◌, Bool, true, false, List, [], ◌∷◌, ◌++◌, map, Option, Some, None}
use Rattle.std.proofs.Common.{slice_get, if◌then◌else◌, refl, sym, ap, ◌∙◌, subst, arith}
use Rattle.std.specs.Prelude.{bytes_eq}
use Rattle.std.proofs.lemmas.Bool.{eqb-true, eq-eqb}
use Rattle.vg_source.specs.Names.{is_among}
use Rattle.vg_source.specs.Steps as source_step
use Rattle.vg_source.specs.Steps.{Routine}
use Rattle.vg_source.specs.State.{same_target, find_routine, find_class, chain_in, name_where, owner_on}
use Rattle.vg_source.specs.State as source
use Rattle.vg_core.specs.declared.program.Owner.TheVariants.{InClass}
use Rattle.vg_core.specs.declared.program.Method.{Method}
use Rattle.vg_core.specs.declared.program.Class.{Class}
use Rattle.vg_core.specs.declared.program.Target.{Target}
use Rattle.vg_core.specs.declared.program.Target.TheVariants.{Run, Construct, Start}
use Rattle.vg_core.specs.Tables.{is_in, above_in, is_below}
use Rattle.vg_core.specs.Program.{Body, Program, Signature, method_signature, making_signature, start_signature, signature_of, body_of}
use Rattle.vg_core.specs.Naming.{Naming, named_target, named_routine, named_class, named_classes, routine_at, routines_at, named}
use Rattle.vg_sound.proofs.Values.{the_same, none_some, eq_refl}
use Rattle.vg_renamed.specs.IsNamed.{IsNamed}
use Rattle.vg_renamed.specs.NamesTell.{DeclaresNone, DeclaresFirst, Inherited, NamesTell}

or_true : (b : Bool) → (b || true) ≡ true
or_true true = refl
or_true false = refl

-- a number and one beyond it
apart : (j i c : ℕ) → c ≡ j + suc i → (j == c) ≡ false
apart j i c e = by (j == c) (eqb-true j c)
  where
    by : (b : Bool) → (b ≡ true → j ≡ c) → b ≡ false
    by true h = let x = h refl in absurd (omega (arith, x, e))
    by false h = refl

module _ (n : Naming) (p : Program) (tell : NamesTell n p) where
  -- ---- classes

  find_from : (j : ℕ) (ks : List Class) (i c : ℕ) (k : Class) → c ≡ j + i
      → ((a d : ℕ) (l : Class) → slice_get ks a ≡ Some l → d ≡ j + a → slice_get p.tables.classes d ≡ Some l) → slice_get ks i ≡ Some k
      → find_class (named_classes n p.tables j ks) (n.class c) ≡ Some (named_class n p.tables c k)
  find_from j [] i c k ec h e = none_some k e
  find_from j (l ∷ ks) zero c k ec h e =
      let at : j ≡ c = omega (arith, ec) in
      ap (λ b. if b then Some (named_class n p.tables j l) else find_class (named_classes n p.tables (suc j) ks) (n.class c))
      (tell.classes j c l k (h zero j l refl (omega arith)) (h zero c k e ec) ∙ eq-eqb j c at)
      ∙ (ap (λ z. Some (named_class n p.tables z l)) at ∙ ap (λ z. Some (named_class n p.tables c z)) (the_same _ _ e))
  find_from j (l ∷ ks) (suc i) c k ec h e =
      ap (λ b. if b then Some (named_class n p.tables j l) else find_class (named_classes n p.tables (suc j) ks) (n.class c))
      (tell.classes j c l k (h zero j l refl (omega arith)) (h (suc i) c k e ec) ∙ apart j i c ec)
      ∙ find_from (suc j) ks i c k (omega (arith, ec)) (λ a d m q s. h (suc a) d m q (omega (arith, s))) e

  class_found : (c : ℕ) (k : Class) → slice_get p.tables.classes c ≡ Some k → find_class (named n p).classes (n.class c) ≡ Some (named_class n p.tables c k)
  class_found c k e = find_from 0 p.tables.classes c c k (omega arith)
      (λ a d l q s. let z : d ≡ a = omega (arith, s) in ap (slice_get p.tables.classes) z ∙ q) e

  -- the classes of a list are there
  abbrev AllThere : List ℕ → Type 0
  AllThere xs = (a : ℕ) → is_in xs a ≡ true → (l : Class) × (slice_get p.tables.classes a ≡ Some l)

  first_there : (a : ℕ) (xs : List ℕ) → AllThere (a ∷ xs) → (l : Class) × (slice_get p.tables.classes a ≡ Some l)
  first_there a xs h = h a (ap (λ b. b || is_in xs a) (eq_refl a))

  rest_there : (a : ℕ) (xs : List ℕ) → AllThere (a ∷ xs) → AllThere xs
  rest_there a xs h x e = h x (ap (λ b. (a == x) || b) e ∙ or_true (a == x))

  above_there : (c : ℕ) (k : Class) → slice_get p.tables.classes c ≡ Some k → AllThere k.above
  above_there c k ek a e = tell.above c a (ap (λ o. is_in (above_in o) a) ek ∙ e)

  among : (xs : List ℕ) (d : ℕ) (l : Class) → AllThere xs → slice_get p.tables.classes d ≡ Some l → is_among (map n.class xs) (n.class d) ≡ is_in xs d
  among [] d l h e = refl
  among (a ∷ xs) d l h e = let k = first_there a xs h in
      ap (λ b. b || is_among (map n.class xs) (n.class d)) (tell.classes a d k.0 l k.1 e) ∙ ap (λ z. (a == d) || z) (among xs d l (rest_there a xs h) e)

  below_same : (c d : ℕ) (k l : Class) → slice_get p.tables.classes c ≡ Some k → slice_get p.tables.classes d ≡ Some l
      → source.is_below (named n p) (n.class c) (n.class d) ≡ is_below p.tables c d
  below_same c d k l ek el =
      ap (λ o. is_among (chain_in o) (n.class d)) (class_found c k ek)
      ∙ (among k.above d l (above_there c k ek) el ∙ sym (ap (λ o. is_in (above_in o) d) ek))

  -- ---- routines

  method_there : {g : Signature} (o : Option Method) → method_signature o ≡ Some g → (y : Method) × (o ≡ Some y)
  method_there None e = none_some _ e
  method_there (Some y) e = (y, refl)

  made_there : {g : Signature} (c : ℕ) (o : Option Class) → making_signature c o ≡ Some g → (k : Class) × (o ≡ Some k)
  made_there c None e = none_some _ e
  made_there c (Some k) e = (k, refl)

  start_there : {g : Signature} (k : ℕ) (o : Option ℕ) → start_signature k o ≡ Some g → (x : ℕ) × (o ≡ Some x)
  start_there k None e = none_some _ e
  start_there k (Some x) e = (x, refl)

  number_of : (i j : ℕ) (b : Bool) → b ≡ (i == j) → b ≡ true → i ≡ j
  number_of i j b e f = eqb-true i j (sym e ∙ f)

  -- targets of one name are one target
  one_target : (t u : Target) (g h : Signature) → signature_of p.tables t ≡ Some g → signature_of p.tables u ≡ Some h
      → same_target (named_target n p.tables t) (named_target n p.tables u) ≡ true → t ≡ u
  one_target (Run i) (Run j) g h e f s =
      let x = method_there (slice_get p.tables.methods i) e in let y = method_there (slice_get p.tables.methods j) f in
      ap Run (number_of i j _ (tell.methods i j x.0 y.0 x.1 y.1) s)
  one_target (Construct i) (Construct j) g h e f s =
      let x = made_there i (slice_get p.tables.classes i) e in let y = made_there j (slice_get p.tables.classes j) f in
      ap Construct (number_of i j _ (tell.classes i j x.0 y.0 x.1 y.1) s)
  one_target (Start i) (Start j) g h e f s =
      let x = start_there i (slice_get p.tables.components i) e in let y = start_there j (slice_get p.tables.components j) f in
      ap Start (number_of i j _ (tell.components i j x.0 y.0 x.1 y.1) s)
  one_target (Run i) (Construct j) g h e f s = absurd (let clash : false ≡ true = s in cc)
  one_target (Run i) (Start j) g h e f s = absurd (let clash : false ≡ true = s in cc)
  one_target (Construct i) (Run j) g h e f s = absurd (let clash : false ≡ true = s in cc)
  one_target (Construct i) (Start j) g h e f s = absurd (let clash : false ≡ true = s in cc)
  one_target (Start i) (Run j) g h e f s = absurd (let clash : false ≡ true = s in cc)
  one_target (Start i) (Construct j) g h e f s = absurd (let clash : false ≡ true = s in cc)

  target_itself : (t : Target) (g : Signature) → signature_of p.tables t ≡ Some g
      → same_target (named_target n p.tables t) (named_target n p.tables t) ≡ true
  target_itself (Run i) g e = let x = method_there (slice_get p.tables.methods i) e in tell.methods i i x.0 x.0 x.1 x.1 ∙ eq_refl i
  target_itself (Construct i) g e = let x = made_there i (slice_get p.tables.classes i) e in tell.classes i i x.0 x.0 x.1 x.1 ∙ eq_refl i
  target_itself (Start i) g e = let x = start_there i (slice_get p.tables.components i) e in tell.components i i x.0 x.0 x.1 x.1 ∙ eq_refl i

  module _ (t : Target) (g : Signature) (b : Body) (eg : signature_of p.tables t ≡ Some g) (eb : body_of p t ≡ Some b) where
    abbrev Finds : List Routine → Type 0
    Finds rs = find_routine rs (named_target n p.tables t) ≡ Some (named_routine n p.tables t g b)

    found_here : (rest : List Routine) → Finds (routine_at n p t (signature_of p.tables t) (body_of p t) ++ rest)
    found_here rest =
        ap (λ o. find_routine (routine_at n p t o (body_of p t) ++ rest) (named_target n p.tables t)) eg
        ∙ (ap (λ o. find_routine (routine_at n p t (Some g) o ++ rest) (named_target n p.tables t)) eb
        ∙ ap (λ z. if z then Some (named_routine n p.tables t g b) else find_routine rest (named_target n p.tables t)) (target_itself t g eg))

    found_later : (u : Target) (rest : List Routine) → Finds rest → Finds (routine_at n p u (signature_of p.tables u) (body_of p u) ++ rest)
    found_later u rest h = by (signature_of p.tables u) (body_of p u) refl refl
      where
        equal : (i : Signature) (c : Body) → signature_of p.tables u ≡ Some i → body_of p u ≡ Some c → u ≡ t
            → Some (named_routine n p.tables u i c) ≡ Some (named_routine n p.tables t g b)
        equal i c ei ec e =
            let same_g : i ≡ g = the_same _ _ (sym ei ∙ (ap (signature_of p.tables) e ∙ eg)) in
            let same_b : c ≡ b = the_same _ _ (sym ec ∙ (ap (body_of p) e ∙ eb)) in
            ap (λ z. Some (named_routine n p.tables z i c)) e
            ∙ (ap (λ z. Some (named_routine n p.tables t z c)) same_g ∙ ap (λ z. Some (named_routine n p.tables t g z)) same_b)

        choose : (i : Signature) (c : Body) (x : Bool) → (x ≡ true → Some (named_routine n p.tables u i c) ≡ Some (named_routine n p.tables t g b))
            → (if x then Some (named_routine n p.tables u i c) else find_routine rest (named_target n p.tables t)) ≡ Some (named_routine n p.tables t g b)
        choose i c true f = f refl
        choose i c false f = h

        by : (o : Option Signature) (q : Option Body) → signature_of p.tables u ≡ o → body_of p u ≡ q → Finds (routine_at n p u o q ++ rest)
        by (Some i) (Some c) ei ec = choose i c (same_target (named_target n p.tables u) (named_target n p.tables t))
            (λ s. equal i c ei ec (one_target u t i g ei eg s))
        by (Some i) None ei ec = h
        by None (Some c) ei ec = h
        by None None ei ec = h

    found_in : (ts : List Target) (i : ℕ) → slice_get ts i ≡ Some t → Finds (routines_at n p ts)
    found_in [] i e = none_some t e
    found_in (u ∷ ts) zero e =
        subst (λ z. Finds (routine_at n p z (signature_of p.tables z) (body_of p z) ++ routines_at n p ts)) (sym (the_same _ _ e))
        (found_here (routines_at n p ts))
    found_in (u ∷ ts) (suc i) e = found_later u (routines_at n p ts) (found_in ts i e)

  routine_found : (t : Target) (g : Signature) (b : Body) → signature_of p.tables t ≡ Some g → body_of p t ≡ Some b
      → find_routine (named n p).routines (named_target n p.tables t) ≡ Some (named_routine n p.tables t g b)
  routine_found t g b eg eb = let at = tell.targets t g b eg eb in found_in t g b eg eb p.tables.targets at.0 at.1

  -- ---- methods that are inherited

  -- a class that declares no method of a selector has none of its name
  none_found : (j c s : ℕ) (z : Method) (k : Class) → slice_get p.tables.methods j ≡ Some z → z.selector ≡ s → slice_get p.tables.classes c ≡ Some k
      → DeclaresNone p.tables c s → (ts : List Target)
      → find_routine (routines_at n p ts) (source_step.Method (n.class c) (n.selector s)) ≡ None
  none_found j c s z k ez es ek none [] = refl
  none_found j c s z k ez es ek none (u ∷ ts) = by u (signature_of p.tables u) (body_of p u) refl (none_found j c s z k ez es ek none ts)
    where
      choose : (R : Routine) (x : Bool) → (x ≡ true → ⊥) → (rest : Option Routine) → rest ≡ None → (if x then Some R else rest) ≡ None
      choose R true f rest e = absurd (f refl)
      choose R false f rest e = e

      clash : (i : ℕ) (g : Signature) → method_signature (slice_get p.tables.methods i) ≡ Some g
          → (bytes_eq (n.method i).owner (n.class c) && bytes_eq (n.method i).name (n.selector s)) ≡ true → ⊥
      clash i g e q = let x = method_there (slice_get p.tables.methods i) e in
          let h = tell.declared i j c x.0 z k x.1 ez ek
          (ap (λ m. bytes_eq (n.method i).owner (n.class c) && bytes_eq (n.method i).name (n.selector m)) es ∙ q) in
          none i x.0 x.1 h.0 (h.1 ∙ es)

      by : (v : Target) (o : Option Signature) (q : Option Body) → signature_of p.tables v ≡ o
          → find_routine (routines_at n p ts) (source_step.Method (n.class c) (n.selector s)) ≡ None
          → find_routine (routine_at n p v o q ++ routines_at n p ts) (source_step.Method (n.class c) (n.selector s)) ≡ None
      by (Run i) (Some g) (Some b) e h =
          choose (named_routine n p.tables (Run i) g b) (bytes_eq (n.method i).owner (n.class c) && bytes_eq (n.method i).name (n.selector s)) (clash i g e)
          (find_routine (routines_at n p ts) (source_step.Method (n.class c) (n.selector s))) h
      by (Construct i) (Some g) (Some b) e h = h
      by (Start i) (Some g) (Some b) e h = h
      by v (Some g) None e h = h
      by v None (Some b) e h = h
      by v None None e h = h

  method_found : (m d s : ℕ) (y : Method) → slice_get p.tables.methods m ≡ Some y → y.owner ≡ InClass d → y.selector ≡ s
      → (R : Routine) × (find_routine (named n p).routines (source_step.Method (n.class d) (n.selector s)) ≡ Some R)
  method_found m d s y em eo es = by (tell.bodies (Run m) _ (ap method_signature em))
    where
      by : ((b : Body) × (body_of p (Run m) ≡ Some b)) → (R : Routine) ×
          (find_routine (named n p).routines (source_step.Method (n.class d) (n.selector s)) ≡ Some R)
      by (b, eb) = (
        _,
        ap (λ z. find_routine (named n p).routines (source_step.Method z (n.selector s))) (sym (tell.owners m d y em eo))
            ∙ (ap (λ z. find_routine (named n p).routines (source_step.Method (n.method m).owner z)) (sym (ap n.selector es) ∙ tell.selectors m y em)
            ∙ routine_found (Run m) _ b (ap method_signature em) eb),
      )

  on_chain : (m d s : ℕ) (y : Method) → slice_get p.tables.methods m ≡ Some y → y.owner ≡ InClass d → y.selector ≡ s
      → (xs : List ℕ) → AllThere xs → DeclaresFirst p.tables xs s d → owner_on (named n p) (map n.class xs) (n.selector s) ≡ Some (n.class d)
  on_chain m d s y em eo es [] h f = absurd f
  on_chain m d s y em eo es (a ∷ xs) h (inl e) =
      let R = method_found m d s y em eo es in
      ap (λ z. name_where (find_routine (named n p).routines (source_step.Method (n.class z) (n.selector s))) (n.class z)
      (owner_on (named n p) (map n.class xs) (n.selector s))) e
      ∙ ap (λ o. name_where o (n.class d) (owner_on (named n p) (map n.class xs) (n.selector s))) R.1
  on_chain m d s y em eo es (a ∷ xs) h (inr (none, f)) =
      let k = first_there a xs h in
      ap (λ o. name_where o (n.class a) (owner_on (named n p) (map n.class xs) (n.selector s))) (none_found m a s y k.0 em es k.1 none p.tables.targets)
      ∙ on_chain m d s y em eo es xs (rest_there a xs h) f

  dispatched : (c s m : ℕ) → Inherited p.tables c s m → source.owner_of (named n p) (n.class c) (n.selector s) ≡ Some (n.method m).owner
  dispatched c s m (k, y, d, ek, em, eo, es, f) =
      ap (λ o. owner_on (named n p) (chain_in o) (n.selector s)) (class_found c k ek)
      ∙ (on_chain m d s y em eo es k.above (above_there c k ek) f ∙ ap Some (sym (tell.owners m d y em eo)))

  selected : (c s m : ℕ) → Inherited p.tables c s m → n.selector s ≡ (n.method m).name
  selected c s m (k, y, d, ek, em, eo, es, f) = sym (ap n.selector es) ∙ tell.selectors m y em

  pub is_named : IsNamed n p (named n p)
  is_named = record {
    routines = routine_found;
    classes = class_found;
    below = below_same;
    dispatches = λ c s m e. dispatched c s m (tell.inherits c s m e);
    selectors = λ c s m e. selected c s m (tell.inherits c s m e);
    fields = tell.fields;
    literals = refl;
    components = refl;
    globals = refl;
    main = refl;
    handlers = refl;
  }
