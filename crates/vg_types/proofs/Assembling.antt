-- Bodies at the numbers of what they are bodies of, in order of the text.
use Rattle.std.proofs.Common.{◌≡◌, ℕ, zero, suc, ◌+◌, true, List, [], ◌∷◌, ◌++◌, length, map, Option, Some, None, slice_get, refl, sym, ap, ◌∙◌, subst, arith}
use Rattle.std.specs.Option.{option_map}
use Rattle.std.proofs.lemmas.List.{append_assoc}
use Rattle.std.proofs.lemmas.Option.{slice_get-map}
use Rattle.vg_syntax.specs.Tree.{TypeTree, Param, Node, Then, ClassDecl, ComponentDecl, MethodDecl}
use Rattle.vg_tree.specs.declared.node.Node as held_node
use Rattle.vg_source.specs.Names.{Name}
use Rattle.vg_source.specs.Values.{default}
use Rattle.vg_source.specs.Steps as source
use Rattle.vg_source.specs.Declared.{written_type}
use Rattle.vg_source.specs.Resolved as resolved_owner
use Rattle.vg_source.specs.Resolved.{Fresh, resolved}
use Rattle.vg_source.specs.Program.{scope_of, routine_of, constructor_in, construction, initialisation, program_of, entries_in, main_of, handlers_in}
use Rattle.vg_core.specs.declared.program.Body.{Body as HeldBody}
use Rattle.vg_core.specs.declared.program.Owner.{Owner}
use Rattle.vg_core.specs.declared.program.Owner.TheVariants.{InClass, InComponent}
use Rattle.vg_core.specs.declared.program.Handler.{Handler}
use Rattle.vg_core.specs.declared.program.Target.{Target}
use Rattle.vg_core.specs.declared.program.Target.TheVariants.{Run, Construct, Start}
use Rattle.vg_core.specs.HeldProgram.{body_at}
use Rattle.vg_core.specs.Program.{Body, Program, Signature, signature_of, body_of, method_signature}
use Rattle.vg_core.specs.Program as program
use Rattle.vg_core.specs.Naming.{named, named_routine, named_target, named_handler}
use Rattle.vg_core.specs.Typing.{TypedBody}
use Rattle.vg_types_tables.specs.declared.declared.Declared.{Declared}
use Rattle.vg_types_tables.specs.Views.{declarations_at, naming, owner_view}
use Rattle.vg_types_tables.specs.Declares.{Declares}
use Rattle.vg_types_tables.proofs.OneClass.{one_type}
use Rattle.vg_types_routines.specs.Bodies.{IsBodyOf, signature_at, above_name, making_signature}
use Rattle.vg_types_routines.specs.Bodies.{IsMethodBody, MethodBodies, IsMakingBody, IsStartBody, AllBodies}
use Rattle.vg_types_routines.proofs.Constructing.{row_length, method_is, same_row}
use Rattle.vg_rules.specs.Signatures.{signatures_breach}
use Rattle.vg_renamed.specs.NamesTell.{NamesTell}
use Rattle.vg_types_declared.specs.Apart.{have_members}
use Rattle.vg_types_declared.specs.Named.{Keeps}
use Rattle.vg_types_declared.proofs.Slotting.{Of, first, second, of_two}
use Rattle.vg_types_named.specs.Left.{Left}
use Rattle.vg_types_named.specs.Targets.{count_methods, method_targets, targets_from, IsWritten, AreWritten, IsMade, IsStarted, AreSigned}
use Rattle.vg_types_named.specs.Routines.{Runs, MethodsRun, AllRun}
use Rattle.vg_types_named.proofs.Lists.{count_push}
use Rattle.vg_types_named.proofs.Routines.{told}
use Rattle.vg_types_named.proofs.Routines.{whole as whole_program}
use Rattle.vg_types_named.proofs.Signed.{at_behind, signed, targets}
use Rattle.vg_types_named.proofs.Telling.{one_some, class_here, one_class, one_component}
use Rattle.vg_types_named.proofs.Telling.{targets as signed_stands}
use Rattle.vg_types.specs.Assembled.{IsOf, AreTyped}
use Rattle.vg_types.proofs.Locals.{own_count}

count_two : {A : Type 0} (xs ys : List A) → length (xs ++ ys) ≡ length xs + length ys
count_two [] ys = let e : length ys ≡ 0 + length ys = omega arith in e
count_two (x ∷ xs) ys = let e : suc (length xs + length ys) ≡ suc (length xs) + length ys = omega arith in ap suc (count_two xs ys) ∙ e

-- a thing of a list, behind others
placed : {A B : Type 0} (f : A → B) (all xs : List A) (y : A) (ys : List A) (i : ℕ) → all ≡ xs ++ y ∷ ys → length xs ≡ i
    → slice_get (map f all) i ≡ Some (f y)
placed f all xs y ys i e l = slice_get-map f all i ∙ ap (option_map f) (ap (λ z. slice_get z i) e ∙ at_behind xs y ys i l)

module _ (texts : List (List ℕ)) (root : held_node.Node) (d : Declared) (kept : Keeps (declarations_at texts root)) (h : Declares texts root d)
    (l : Left texts (declarations_at texts root) d) (all_ms all_ks all_ss : List HeldBody) (main : ℕ) (handlers : List Handler) where
  abbrev whole : Program
  whole = record {
    tables = d.tables;
    methods = map body_at all_ms;
    makings = map body_at all_ks;
    starts = map body_at all_ss;
    main = main;
    handlers = handlers;
  }

  -- a target has a body that is typed
  abbrev IsTyped : Target → Type 0
  IsTyped t = (g : Signature) × (b : Body) × (signature_of d.tables t ≡ Some g) × (body_of whole t ≡ Some b) × TypedBody d.tables g b

  abbrev MethodsTyped : ℕ → Node → Type 0
  MethodsTyped m (Then (MethodDecl at n ps t body) rest) = IsTyped (Run m) × MethodsTyped (suc m) rest
  MethodsTyped m (Then _ rest) = MethodsTyped m rest
  MethodsTyped m _ = Unit {0}

  abbrev AllTyped : (c k m : ℕ) → Node → Type 0
  AllTyped c k m (Then (ClassDecl at x above row) rest) = IsTyped (Construct c) × MethodsTyped m row × AllTyped (suc c) k (m + count_methods row) rest
  AllTyped c k m (Then (ComponentDecl at x row) rest) = IsTyped (Start k) × MethodsTyped m row × AllTyped c (suc k) (m + count_methods row) rest
  AllTyped c k m (Then _ rest) = AllTyped c k m rest
  AllTyped c k m _ = Unit {0}

  -- ---- methods

  abbrev routine : resolved_owner.Owner → (x n : Name) → List Param → TypeTree → Node → ℕ → source.Routine
  routine o x n ps t block m =
      record (routine_of (source.Method x n) (length ps) (default (written_type t)) (resolved (declarations_at texts root) o block Fresh (scope_of ps)))
      { number = m }

  one_method : (o : Owner) (ro : resolved_owner.Owner) (x n : Name) (ps : List Param) (t : TypeTree) (block : Node) (b : HeldBody) (m : ℕ)
      → owner_view texts d (Some o) ≡ ro → IsMethodBody texts root d o ps t block b → IsWritten texts d o x n ps t m
      → slice_get (map body_at all_ms) m ≡ Some (body_at b) → Runs (naming texts d) whole (Run m) (routine ro x n ps t block m) × IsTyped (Run m)
  one_method o ro x n ps t block b m v f w e = (
    record {
      signature = signature_at w.method;
      body = body_at b;
      signed = ap method_signature w.there;
      there = e;
      is = method_is texts root d m w.method ps t block b (row_length texts d w.method.params ps w.params) w.result body_is
          ∙ ap (λ z. routine z ((naming texts d).method m).owner ((naming texts d).method m).name ps t block m)
          (ap (λ z. owner_view texts d (Some z)) w.owner_is ∙ v)
          ∙ ap (λ z. routine ro z ((naming texts d).method m).name ps t block m) w.owner_named
          ∙ ap (λ z. routine ro x z ps t block m) w.named;
    },
    (signature_at w.method, body_at b, ap method_signature w.there, e, subst (λ g. TypedBody d.tables g (body_at b)) same f.typed),
  )
    where
      params_same : f.params ≡ w.method.params
      params_same =
          same_row texts root d h f.params w.method.params f.known (h.formed.known_params m w.method w.there) (f.written ∙ sym w.params)

      result_same : f.result ≡ w.method.result
      result_same =
          one_type texts root d h f.result w.method.result f.known_result (h.formed.known_results m w.method w.there) (f.written_result ∙ sym w.result)

      same : record { owner = o; params = f.params; result = f.result } ≡ signature_at w.method
      same =
          ap (λ z. record { owner = z; params = f.params; result = f.result }) (sym w.owner_is)
          ∙ ap (λ z. record { owner = w.method.owner; params = z; result = f.result }) params_same
          ∙ ap (λ z. record { owner = w.method.owner; params = w.method.params; result = z }) result_same

      body_is : IsBodyOf texts d (length w.method.params)
          (resolved (declarations_at texts root) (owner_view texts d (Some w.method.owner)) block Fresh (scope_of ps)) b
      body_is =
          subst (λ z. IsBodyOf texts d (length z)
          (resolved (declarations_at texts root) (owner_view texts d (Some w.method.owner)) block Fresh (scope_of ps)) b) params_same
          (subst (λ z. IsBodyOf texts d (length f.params) (resolved (declarations_at texts root) (owner_view texts d (Some z)) block Fresh (scope_of ps)) b)
          (sym w.owner_is) f.is)

  methods_of : (o : Owner) (ro : resolved_owner.Owner) (x : Name) (m : ℕ) (row : Node) (done own others : List HeldBody) → owner_view texts d (Some o) ≡ ro
      → all_ms ≡ done ++ (own ++ others) → length done ≡ m → MethodBodies texts root d o row own → AreWritten texts d o x m row
      → MethodsRun (naming texts d) whole (declarations_at texts root) ro x m row × MethodsTyped m row
  methods_of o ro x m (Then (MethodDecl at n ps t block) rest) done (b ∷ own) others v e i f w =
      let r = one_method o ro x n ps t block b m v f.0 w.0 (placed body_at all_ms done b (own ++ others) m e i) in
      let s = methods_of o ro x (suc m) rest (done ++ b ∷ []) own others v (e ∙ sym (append_assoc done (b ∷ []) (own ++ others)))
      (count_push done b ∙ ap suc i) f.1 w.1 in
      ((r.0, s.0), (r.1, s.1))
  methods_of o ro x m (Then (MethodDecl at n ps t block) rest) done [] others v e i f w = absurd f
  methods_of o ro x m (Then _ rest) done own others v e i f w = methods_of o ro x m rest done own others v e i f w
  methods_of o ro x m _ done own others v e i f w = (tt, tt)

  -- ---- constructions and initialisations

  one_making : (x : Name) (above : Option Name) (row : Node) (c : ℕ) (o : Option ℕ) (b : HeldBody) → above_name texts d o ≡ above
      → IsMakingBody texts root d c o row b → IsMade texts d x row c → slice_get (map body_at all_ks) c ≡ Some (body_at b)
      → Runs (naming texts d) whole (Construct c) (construction (declarations_at texts root) x above row (constructor_in row)) × IsTyped (Construct c)
  one_making x above row c o b a f w e = (
    record {
      signature = making_signature (InClass c) w.class.params;
      body = body_at b;
      signed = ap (program.making_signature c) w.there;
      there = e;
      is = ap (λ z. named_routine (naming texts d) d.tables (Construct c) (making_signature (InClass c) z) (body_at b)) (sym same) ∙ f.is
          ∙ ap (λ z. construction (declarations_at texts root) z (above_name texts d o) row (constructor_in row)) w.named
          ∙ ap (λ z. construction (declarations_at texts root) x z row (constructor_in row)) a;
    },
    (
      making_signature (InClass c) w.class.params,
      body_at b,
      ap (program.making_signature c) w.there,
      e,
      subst (λ z. TypedBody d.tables (making_signature (InClass c) z) (body_at b)) same f.typed,
    ),
  )
    where
      same : f.params ≡ w.class.params
      same = same_row texts root d h f.params w.class.params f.known (h.formed.known_makings c w.class w.there) (f.written ∙ sym w.params)

  one_start : (x : Name) (row : Node) (k : ℕ) (b : HeldBody) → IsStartBody texts root d k row b → IsStarted texts d x k
      → slice_get (map body_at all_ss) k ≡ Some (body_at b)
      → Runs (naming texts d) whole (Start k) (initialisation (declarations_at texts root) x row (constructor_in row)) × IsTyped (Start k)
  one_start x row k b f w e = (
    record {
      signature = making_signature (InComponent k) [];
      body = body_at b;
      signed = ap (program.start_signature k) w.there;
      there = e;
      is = f.is ∙ ap (λ z. initialisation (declarations_at texts root) z row (constructor_in row)) w.named;
    },
    (making_signature (InComponent k) [], body_at b, ap (program.start_signature k) w.there, e, f.typed),
  )

  -- ---- all declarations

  record Behind (dm ms dk ks dx ss : List HeldBody) (c k m : ℕ) : Type 0 where
    pub methods : all_ms ≡ dm ++ ms
    pub makings : all_ks ≡ dk ++ ks
    pub starts : all_ss ≡ dx ++ ss
    pub method_count : length dm ≡ m
    pub making_count : length dk ≡ c
    pub start_count : length dx ≡ k

  more_methods : (dm ms own others : List HeldBody) (m n : ℕ) → ms ≡ own ++ others → all_ms ≡ dm ++ ms → length dm ≡ m → length own ≡ n
      → (all_ms ≡ (dm ++ own) ++ others) × (length (dm ++ own) ≡ m + n)
  more_methods dm ms own others m n q e i j =
      (e ∙ ap (λ z. dm ++ z) q ∙ sym (append_assoc dm own others), count_two dm own ∙ ap (λ z. z + length own) i ∙ ap (λ z. m + z) j)

  all_of : (rest : Node) (dm ms dk ks dx ss : List HeldBody) (c k m : ℕ) → Behind dm ms dk ks dx ss c k m → AllBodies texts root d rest ms ks ss
      → AreSigned texts d c k m rest → AllRun (naming texts d) whole (declarations_at texts root) c k m rest × AllTyped c k m rest
  all_of (Then (ClassDecl at x above row) rest) dm ms dk ks dx ss c k m b (own, others, body, makings, em, ek, f, g) w =
      let q : f.class ≡ c =
      one_class texts (declarations_at texts root) l.types l.heads l.homes d kept l.left f.class c
      (class_here texts (declarations_at texts root) l.types l.heads l.homes d kept l.left f.class f.there.0 f.there.1)
      (class_here texts (declarations_at texts root) l.types l.heads l.homes d kept l.left c w.0.class w.0.there) (f.name ∙ sym w.0.named) in
      let ms_are = subst (λ z. MethodBodies texts root d (InClass z) row own) q f.methods_are in
      let a = one_making x above row c f.class_above body f.above_is (subst (λ z. IsMakingBody texts root d z f.class_above row body) q f.making_is) w.0
      (placed body_at all_ks dk body makings c (b.makings ∙ ap (λ z. dk ++ z) ek) b.making_count) in
      let r = methods_of (InClass c) (resolved_owner.InClass x) x m row dm own others (ap resolved_owner.InClass w.0.named)
      (b.methods ∙ ap (λ z. dm ++ z) em) b.method_count ms_are w.1 in
      let n = more_methods dm ms own others m (count_methods row) em b.methods b.method_count (own_count texts root d (InClass c) row own ms_are) in
      let s = all_of rest (dm ++ own) others (dk ++ body ∷ []) makings dx ss (suc c) k (m + count_methods row) (record {
        methods = n.0;
        makings = b.makings ∙ ap (λ z. dk ++ z) ek ∙ sym (append_assoc dk (body ∷ []) makings);
        starts = b.starts;
        method_count = n.1;
        making_count = count_push dk body ∙ ap suc b.making_count;
        start_count = b.start_count;
      }) g w.2 in
      ((a.0, r.0, s.0), (a.1, r.1, s.1))
  all_of (Then (ComponentDecl at x row) rest) dm ms dk ks dx ss c k m b (own, others, body, starts, em, es, f, g) w =
      let q : f.component ≡ k =
      one_component texts (declarations_at texts root) l.types l.heads l.homes d kept l.left f.component k f.there.0 w.0.name f.there.1 w.0.there
      (f.name ∙ sym w.0.named) in
      let ms_are = subst (λ z. MethodBodies texts root d (InComponent z) row own) q f.methods_are in
      let a = one_start x row k body (subst (λ z. IsStartBody texts root d z row body) q f.start_is) w.0
      (placed body_at all_ss dx body starts k (b.starts ∙ ap (λ z. dx ++ z) es) b.start_count) in
      let r = methods_of (InComponent k) (resolved_owner.InComponent x) x m row dm own others (ap resolved_owner.InComponent w.0.named)
      (b.methods ∙ ap (λ z. dm ++ z) em) b.method_count ms_are w.1 in
      let n = more_methods dm ms own others m (count_methods row) em b.methods b.method_count (own_count texts root d (InComponent k) row own ms_are) in
      let s = all_of rest (dm ++ own) others dk ks (dx ++ body ∷ []) starts c (suc k) (m + count_methods row) (record {
        methods = n.0;
        makings = b.makings;
        starts = b.starts ∙ ap (λ z. dx ++ z) es ∙ sym (append_assoc dx (body ∷ []) starts);
        method_count = n.1;
        making_count = b.making_count;
        start_count = count_push dx body ∙ ap suc b.start_count;
      }) g w.2 in
      ((a.0, r.0, s.0), (a.1, r.1, s.1))
  all_of (Then _ rest) dm ms dk ks dx ss c k m b f w = all_of rest dm ms dk ks dx ss c k m b f w
  all_of _ dm ms dk ks dx ss c k m b f w = (tt, tt)

  both_of : AllBodies texts root d (declarations_at texts root) all_ms all_ks all_ss
      → AllRun (naming texts d) whole (declarations_at texts root) 0 0 0 (declarations_at texts root) × AllTyped 0 0 0 (declarations_at texts root)
  both_of f =
      all_of (declarations_at texts root) [] all_ms [] all_ks [] all_ss 0 0 0
      (record { methods = refl; makings = refl; starts = refl; method_count = refl; making_count = refl; start_count = refl }) f
      (signed texts (declarations_at texts root) l.types l.heads l.homes d kept l.left)

  -- ---- what stands among the targets

  method_typed : (m : ℕ) (row : Node) → MethodsTyped m row → (i : ℕ) (t : Target) → slice_get (method_targets m row) i ≡ Some t → IsTyped t
  method_typed m (Then (MethodDecl at n ps u body) rest) r zero t e = subst IsTyped (one_some _ t e) r.0
  method_typed m (Then (MethodDecl at n ps u body) rest) r (suc i) t e = method_typed (suc m) rest r.1 i t e
  method_typed m (Then _ rest) r i t e = method_typed m rest r i t e
  method_typed m _ r i t e = cc

  behind_methods : (m : ℕ) (row : Node) (ts : List Target) → MethodsTyped m row → ((i : ℕ) (t : Target) → slice_get ts i ≡ Some t → IsTyped t)
      → (i : ℕ) (t : Target) → slice_get (method_targets m row ++ ts) i ≡ Some t → IsTyped t
  behind_methods m row ts r g i t e = by (of_two (method_targets m row) ts i t e)
    where
      by : Of (method_targets m row) ts i t → IsTyped t
      by (first f) = method_typed m row r i t f
      by (second j f k) = g j t k

  target_typed : (c k m : ℕ) (rest : Node) → AllTyped c k m rest → (i : ℕ) (t : Target) → slice_get (targets_from c k m rest) i ≡ Some t → IsTyped t
  target_typed c k m (Then (ClassDecl at x above row) rest) r zero t e = subst IsTyped (one_some _ t e) r.0
  target_typed c k m (Then (ClassDecl at x above row) rest) r (suc i) t e =
      behind_methods m row (targets_from (suc c) k (m + count_methods row) rest) r.1 (target_typed (suc c) k (m + count_methods row) rest r.2) i t e
  target_typed c k m (Then (ComponentDecl at x row) rest) r zero t e = subst IsTyped (one_some _ t e) r.0
  target_typed c k m (Then (ComponentDecl at x row) rest) r (suc i) t e =
      behind_methods m row (targets_from c (suc k) (m + count_methods row) rest) r.1 (target_typed c (suc k) (m + count_methods row) rest r.2) i t e
  target_typed c k m (Then _ rest) r i t e = target_typed c k m rest r i t e
  target_typed c k m _ r i t e = cc

  typed_of : AllBodies texts root d (declarations_at texts root) all_ms all_ks all_ss → AreTyped whole
  typed_of f t g e =
      let s = signed_stands texts (declarations_at texts root) l.types l.heads l.homes d kept l.left t g e in
      let r = target_typed 0 0 0 (declarations_at texts root) (both_of f).1 s.0 t
      (ap (λ z. slice_get z s.0) (sym (targets texts (declarations_at texts root) l.types l.heads l.homes d kept l.left)) ∙ s.1) in
      (r.1, r.3, subst (λ z. TypedBody d.tables z r.1) (one_some r.0 g (sym r.2 ∙ e)) r.4)

-- the program of these tables and bodies
the_program : (d : Declared) (ms ks ss : List HeldBody) (p : Program) → IsOf d ms ks ss p → record {
  tables = d.tables;
  methods = map body_at ms;
  makings = map body_at ks;
  starts = map body_at ss;
  main = p.main;
  handlers = p.handlers;
} ≡ p
the_program d ms ks ss p i =
    ap (λ z. record { tables = z; methods = map body_at ms; makings = map body_at ks; starts = map body_at ss; main = p.main; handlers = p.handlers })
    (sym i.tables)
    ∙ ap (λ z. record { tables = p.tables; methods = z; makings = map body_at ks; starts = map body_at ss; main = p.main; handlers = p.handlers })
    (sym i.methods)
    ∙ ap (λ z. record { tables = p.tables; methods = p.methods; makings = z; starts = map body_at ss; main = p.main; handlers = p.handlers })
    (sym i.makings)
    ∙ ap (λ z. record { tables = p.tables; methods = p.methods; makings = p.makings; starts = z; main = p.main; handlers = p.handlers }) (sym i.starts)

pub all_run : (texts : List (List ℕ)) (root : held_node.Node) (d : Declared) (ms ks ss : List HeldBody) (p : Program)
    → Keeps (declarations_at texts root) → Declares texts root d → Left texts (declarations_at texts root) d
    → AllBodies texts root d (declarations_at texts root) ms ks ss → IsOf d ms ks ss p
    → AllRun (naming texts d) p (declarations_at texts root) 0 0 0 (declarations_at texts root)
all_run texts root d ms ks ss p kept h l f i =
    subst (λ z. AllRun (naming texts d) z (declarations_at texts root) 0 0 0 (declarations_at texts root)) (the_program d ms ks ss p i)
    (both_of texts root d kept h l ms ks ss p.main p.handlers f).0

pub all_typed : (texts : List (List ℕ)) (root : held_node.Node) (d : Declared) (ms ks ss : List HeldBody) (p : Program)
    → Keeps (declarations_at texts root) → Declares texts root d → Left texts (declarations_at texts root) d
    → AllBodies texts root d (declarations_at texts root) ms ks ss → IsOf d ms ks ss p → AreTyped p
all_typed texts root d ms ks ss p kept h l f i =
    subst AreTyped (the_program d ms ks ss p i) (typed_of texts root d kept h l ms ks ss p.main p.handlers f)

-- with the entries of the text it is the source program of the text
pub program_named : (texts : List (List ℕ)) (root : held_node.Node) (d : Declared) (ms ks ss : List HeldBody) (p : Program)
    → Keeps (declarations_at texts root) → Declares texts root d → Left texts (declarations_at texts root) d
    → AllBodies texts root d (declarations_at texts root) ms ks ss → IsOf d ms ks ss p
    → named_target (naming texts d) p.tables (Run p.main) ≡ main_of (entries_in (declarations_at texts root))
    → map (named_handler (naming texts d) p.tables) p.handlers ≡ handlers_in (entries_in (declarations_at texts root))
    → program_of (declarations_at texts root) ≡ named (naming texts d) p
program_named texts root d ms ks ss p kept h l f i m n =
    whole_program texts (declarations_at texts root) d p kept l i.tables (record {
      runs = all_run texts root d ms ks ss p kept h l f i;
      literals_are = ap (λ z. z.literals) i.tables ∙ h.literals;
      main = m;
      handlers = n;
    })

-- where rule 6 is kept its names tell its numbers apart
pub names_told : (texts : List (List ℕ)) (root : held_node.Node) (d : Declared) (ms ks ss : List HeldBody) (p : Program)
    → Keeps (declarations_at texts root) → Declares texts root d → Left texts (declarations_at texts root) d
    → AllBodies texts root d (declarations_at texts root) ms ks ss → IsOf d ms ks ss p
    → signatures_breach (declarations_at texts root) (declarations_at texts root) ≡ None → have_members (declarations_at texts root) ≡ true
    → NamesTell (naming texts d) p
names_told texts root d ms ks ss p kept h l f i rule members =
    told texts (declarations_at texts root) d p kept rule members l i.tables (all_run texts root d ms ks ss p kept h l f i)
