-- The methods in the tables, one by one as the text declares them, and the numbers of function types.
use Rattle.std.proofs.Common.{◌≡◌, ℕ, suc, ◌+◌, List, [], ◌∷◌, ◌++◌, length, map, Some, slice_get, refl, sym, ap, ◌∙◌, subst}
use Rattle.std.proofs.lemmas.List.{append_assoc}
use Rattle.vg_syntax.specs.Tree.{Node, Then, ClassDecl, ComponentDecl, FieldDecl, MethodDecl}
use Rattle.vg_syntax.specs.Numbering.{count_nodes}
use Rattle.vg_source.specs.Declared.{written_type, length_of}
use Rattle.vg_source.specs.Names.{Name}
use Rattle.vg_source.specs.Types as source
use Rattle.vg_core.specs.declared.program.Owner.TheVariants.{InClass, InComponent}
use Rattle.vg_core.specs.declared.program.Method.{Method}
use Rattle.vg_core.specs.declared.types.CoreType.TheVariants.{FunctionType}
use Rattle.vg_core.specs.Naming.{Naming, naming_of, named_number, named_types, type_at, owner_name}
use Rattle.vg_core.specs.Naming as naming
use Rattle.vg_core.specs.Typing.{HasFunction}
use Rattle.vg_calls_source.specs.Methods.{DeclaredMethod, methods_among, methods_in}
use Rattle.vg_written.specs.Written.{named_method, AreOneFunction}
use Rattle.vg_types_views.specs.ByText.{found}
use Rattle.vg_types_interned.specs.declared.table.Types.{Types}
use Rattle.vg_types_members.specs.declared.member.Home.{Home}
use Rattle.vg_types_members.specs.Members.{MethodView, HomeView, method_view, with_field, with_method, with_members, written_params}
use Rattle.vg_types_heads.specs.declared.heads.Heads.{Heads}
use Rattle.vg_types_hierarchy.specs.Classes.{above_number}
use Rattle.vg_types_homes.specs.declared.homes.Homes.{Homes}
use Rattle.vg_types_homes.specs.Homes.{HomesView, no_view, home_starts, with_class, with_component, with_declarations}
use Rattle.vg_types_tables.specs.declared.declared.Declared.{Declared}
use Rattle.vg_types_tables.specs.Declares.{IsClass, IsFormed}
use Rattle.vg_types_tables.proofs.Entries.{known_entry, number_type, row_number}
use Rattle.vg_types_tables.proofs.OneType.{one}
use Rattle.vg_types_declared.specs.Slots.{Slotted}
use Rattle.vg_types_declared.specs.Members.{row_from}
use Rattle.vg_types_declared.specs.Named.{Keeps, IsLeft}
use Rattle.vg_types_declared.proofs.Forming.{formed}
use Rattle.vg_types_declared.proofs.Looking.{names}
use Rattle.vg_types_declared.proofs.Members.{row_written}
use Rattle.vg_types_declared.proofs.Naming.{text_same, close, view_same, row_same}
use Rattle.vg_types_declared.proofs.Slotting.{slotted}
use Rattle.vg_types_named.specs.Targets.{count_methods, AreSigned}
use Rattle.vg_types_named.proofs.Lists.{append-none, count_push}
use Rattle.vg_types_named.proofs.Targets.{map_push}
use Rattle.vg_types_named.proofs.Signed.{signed}

one_some : (a b : ℕ) → Some a ≡ Some b → a ≡ b
one_some a b e = cc

module _ (texts : List (List ℕ)) (ds : Node) (types : Types) (heads : Heads) (homes : Homes) (d : Declared) (kept : Keeps ds)
    (left : IsLeft texts ds types heads homes d) where
  abbrev n : Naming
  n = naming_of texts d.tables

  kept_tables : IsFormed d.tables
  kept_tables =
      formed texts types homes d.tables (length_of ds) heads.class_names (map (above_number texts heads.classes) heads.above) left.built
      (close texts ds types heads homes d kept left) (subst Slotted (sym left.homes_left) (slotted ds)) left.homes_sound

  -- ---- methods

  -- a method that was passed, under its names
  abbrev shown : MethodView → DeclaredMethod
  shown t = record { method = record { owner = owner_name texts d.tables t.owner; name = t.name }; params = row_from t.params; result = t.result }

  home_shown : (h : Home) (c : Name) (ms : Node) (v : HomeView) → owner_name texts d.tables h.owner ≡ c
      → map shown (with_members h ms v).methods ≡ map shown v.methods ++ methods_among c ms
  home_shown h c (Then (MethodDecl at x ps t body) rest) v q =
      home_shown h c rest (with_method h x (written_params ps) (written_type t) (count_nodes body) v) q
      ∙ ap (λ z. z ++ methods_among c rest) (map_push shown v.methods _)
      ∙ append_assoc (map shown v.methods)
      (record { method = record { owner = owner_name texts d.tables h.owner; name = x }; params = row_from (written_params ps); result = written_type t } ∷ [])
      (methods_among c rest)
      ∙ ap (λ z. map shown v.methods ++ (record { method = record { owner = z; name = x }; params = row_from (written_params ps); result = written_type t }
      ∷ methods_among c rest)) q
      ∙ ap (λ z. map shown v.methods ++ (record { method = record { owner = c; name = x }; params = z; result = written_type t } ∷ methods_among c rest))
      (sym (row_written ps))
  home_shown h c (Then (FieldDecl at x t e) rest) v q = home_shown h c rest (with_field h x (written_type t) v) q
  home_shown h c (Then _ rest) v q = home_shown h c rest v q
  home_shown h c _ v q = append-none (map shown v.methods)

  all_shown : (rest : Node) (v : HomesView) (c k m : ℕ) → length v.class_members ≡ c → length v.component_members ≡ k → AreSigned texts d c k m rest
      → map shown (with_declarations rest v).methods ≡ map shown v.methods ++ methods_in rest
  all_shown (Then (ClassDecl at x above ms) rest) v c k m ec ek w =
      all_shown rest (with_class ms v) (suc c) k (m + count_methods ms) (count_push v.class_members _ ∙ ap suc ec) ek w.2
      ∙ ap (λ z. z ++ methods_in rest)
      (home_shown (record { owner = InClass (length v.class_members); slot = 0 }) x ms (home_starts v) (ap (λ z. n.class z) ec ∙ w.0.named))
      ∙ append_assoc (map shown v.methods) (methods_among x ms) (methods_in rest)
  all_shown (Then (ComponentDecl at x ms) rest) v c k m ec ek w =
      all_shown rest (with_component ms v) c (suc k) (m + count_methods ms) ec (count_push v.component_members _ ∙ ap suc ek) w.2
      ∙ ap (λ z. z ++ methods_in rest)
      (home_shown (record { owner = InComponent (length v.component_members); slot = length v.globals }) x ms (home_starts v)
      (ap (λ z. n.component z) ek ∙ w.0.named))
      ∙ append_assoc (map shown v.methods) (methods_among x ms) (methods_in rest)
  all_shown (Then _ rest) v c k m ec ek w = all_shown rest v c k m ec ek w
  all_shown _ v c k m ec ek w = append-none (map shown v.methods)

  -- the function type of a method is made of the types of its parameters and of its result
  function_shown : (y : Method) → HasFunction d.tables y
      → (naming.params_named n d.tables (slice_get d.tables.types y.function) ≡ (shown (method_view texts types y)).params)
      × (naming.result_named n d.tables (slice_get d.tables.types y.function) ≡ (shown (method_view texts types y)).result)
  function_shown y (ps, r, e, row, er) =
      let known = known_entry d.tables kept_tables y.function (FunctionType ps r) e in (
        ap (naming.params_named n d.tables) e ∙ number_type texts d kept_tables ps known.0 ∙ row_number texts d kept_tables y.params ps row
            ∙ row_same texts ds types heads homes d kept left y.params,
        ap (naming.result_named n d.tables) e ∙ ap (naming.type_named n d.tables) er ∙ view_same texts ds types heads homes d kept left y.result,
      )

  abbrev HaveFunctions : List Method → Type 0
  HaveFunctions ys = (m : ℕ) (y : Method) → slice_get ys m ≡ Some y → HasFunction d.tables y

  viewed : (ys : List Method) → HaveFunctions ys → map (named_method texts d.tables) ys ≡ map shown (map (method_view texts types) ys)
  viewed [] h = refl
  viewed (y ∷ ys) h =
      let f = function_shown y (h 0 y refl) in
      ap (λ z. record {
        method = record { owner = owner_name texts d.tables y.owner; name = z };
        params = (named_method texts d.tables y).params;
        result = (named_method texts d.tables y).result;
      } ∷ map (named_method texts d.tables) ys) (text_same texts y.name)
      ∙ ap (λ z. record { method = (shown (method_view texts types y)).method; params = z; result = (named_method texts d.tables y).result }
      ∷ map (named_method texts d.tables) ys) f.0
      ∙ ap (λ z. record { method = (shown (method_view texts types y)).method; params = (shown (method_view texts types y)).params; result = z }
      ∷ map (named_method texts d.tables) ys) f.1
      ∙ ap (λ z. shown (method_view texts types y) ∷ z) (viewed ys (λ m z e. h (suc m) z e))

  pub methods_written : map (named_method texts d.tables) d.tables.methods ≡ methods_in ds
  methods_written =
      viewed d.tables.methods kept_tables.functions ∙ ap (λ z. map shown (map (method_view texts types) z)) left.built.method_table
      ∙ ap (λ w. map shown w.methods) left.homes_left ∙ all_shown ds no_view 0 0 0 refl refl (signed texts ds types heads homes d kept left)

  -- ---- function types

  one_class : (c e : ℕ) → IsClass d.tables c → IsClass d.tables e → n.class c ≡ n.class e → c ≡ e
  one_class c e (k, is_k) (l, is_l) q =
      let f = (names texts ds types heads homes d kept left).class_found in
      one_some c e (sym (f c k is_k) ∙ ap (λ x. found x d.classes) q ∙ f e l is_l)

  abbrev number : ℕ → source.StaticType
  number i = named_number (named_types n [] d.tables.types) i

  pub functions_told : AreOneFunction n d.tables
  functions_told i j ps r qs s e g same_params same_result =
      let k = known_entry d.tables kept_tables i (FunctionType ps r) e in
      let l = known_entry d.tables kept_tables j (FunctionType qs s) g in
      let p = sym (number_type texts d kept_tables ps k.0) ∙ same_params ∙ number_type texts d kept_tables qs l.0 in
      let q = sym (number_type texts d kept_tables r k.1) ∙ same_result ∙ number_type texts d kept_tables s l.1 in
      let t : FunctionType ps r ≡ FunctionType qs s =
      one n d.tables kept_tables one_class (FunctionType ps r) (FunctionType qs s) k l
      (ap (λ z. source.FunctionType z (number r)) p ∙ ap (source.FunctionType (number qs)) q) in
      kept_tables.one_number i j (FunctionType qs s) (e ∙ ap Some t) g
