-- How far entries are passed.
-- The record `Entering` says what those that were passed leave of each question about all: of the methods, of `main`, of the other keys and of the
-- handlers. One entry leads from it to it (`entry_passed`), and at the end it is what the rules ask and what the entries stand for.
use Rattle.std.proofs.Common.{◌≡◌, ℕ, suc, ◌+◌, ◌==◌, ◌&&◌, ◌||◌, not, nat_le, Bool, true, false, List, [], ◌∷◌, ◌++◌, map, Option, Some, None}
use Rattle.std.proofs.Common.{slice_get, if◌then◌else◌, refl, sym}
use Rattle.std.proofs.Common.{ap, ◌∙◌, subst, arith}
use Rattle.std.specs.List.{list_all}
use Rattle.std.proofs.lemmas.List.{append_assoc, append-nil}
use Rattle.vg_syntax.specs.Tree.{Node, Nothing, Then, EntryDecl}
use Rattle.vg_syntax.specs.Bytes.{is_digit}
use Rattle.vg_syntax.specs.Numbering.{count_nodes, numbered, with_id}
use Rattle.vg_tree.specs.declared.node.Node as held
use Rattle.vg_tree.specs.Held.{node_at, row_at}
use Rattle.vg_source.specs.Literals.{number_of}
use Rattle.vg_source.specs.Steps as source
use Rattle.vg_source.specs.Declared.{component_member}
use Rattle.vg_source.specs.Program.{main_of, handlers_in}
use Rattle.vg_rules.specs.Breach.{Breach, asks, ◌or◌}
use Rattle.vg_rules.specs.Entries.{is_main, mains, is_taken, is_vector, keys_keep, can_enter, methods_breach}
use Rattle.vg_core.specs.declared.program.Handler.{Handler}
use Rattle.vg_core.specs.declared.program.Target.TheVariants.{Run}
use Rattle.vg_core.specs.Naming.{named_target, named_handler}
use Rattle.vg_core.specs.Program.{Program}
use Rattle.vg_core.specs.Typing.{IsEntry, AreEntries}
use Rattle.vg_types_tables.specs.declared.declared.Declared.{Declared}
use Rattle.vg_types_tables.specs.Views.{naming}
use Rattle.vg_types_entries.specs.declared.program.Main.{Main}
use Rattle.vg_types_entries.specs.declared.program.Main.TheVariants.{Missing, Once, Twice}
use Rattle.vg_types_entries.specs.declared.program.Passed.{Passed}
use Rattle.vg_types_entries.specs.declared.program.Entry.{Entry as HeldEntry}
use Rattle.vg_types_entries.specs.Entries.{NamesEntries}
use Rattle.vg_types_entries.specs.Entering.{IsEntered, program_breach, Entry, entry_of, entry_view, no_entries, again, vectors, with_key}
use Rattle.vg_types_entries.specs.Entering.{with_entry, only_main}

-- ---- one entry

abbrev the : Option Entry → Entry
the (Some e) = e
the None = record { key = []; component = []; method = [] }

module _ (ds : Node) where
  methods_one : (i : ℕ) (d rest : Node) (e : Entry) → entry_of d ≡ Some e
      → methods_breach ds (Then (numbered i d) rest)
      ≡ (if can_enter (component_member ds e.component e.method) then methods_breach ds rest else Some (record { rule = 4; node = i }))
  methods_one i (EntryDecl at key c m) rest e h =
      by (can_enter (component_member ds c m))
      ∙ ap (λ o. if can_enter (component_member ds (the o).component (the o).method) then methods_breach ds rest else Some (record { rule = 4; node = i })) h
    where
      by : (b : Bool) → asks b 4 (with_id i at) or methods_breach ds rest ≡ (if b then methods_breach ds rest else Some (record { rule = 4; node = i }))
      by true = refl
      by false = refl
  methods_one i _ rest e h = cc

mains_one : (i : ℕ) (d rest : Node) (e : Entry) → entry_of d ≡ Some e
    → mains (Then (numbered i d) rest) ≡ (if is_main e.key then suc (mains rest) else mains rest)
mains_one i (EntryDecl at key c m) rest e h = ap (λ o. if is_main (the o).key then suc (mains rest) else mains rest) h
mains_one i _ rest e h = cc

keys_one : (taken : List ℕ) (i : ℕ) (d rest : Node) (e : Entry) → entry_of d ≡ Some e
    → keys_keep taken (Then (numbered i d) rest)
    ≡ (if is_main e.key then keys_keep taken rest else is_vector taken e.key && keys_keep (number_of e.key ∷ taken) rest)
keys_one taken i (EntryDecl at key c m) rest e h =
    ap (λ o. if is_main (the o).key then keys_keep taken rest else is_vector taken (the o).key && keys_keep (number_of (the o).key ∷ taken) rest) h
keys_one taken i _ rest e h = cc

main_one : (i : ℕ) (d rest : Node) (e : Entry) → entry_of d ≡ Some e
    → main_of (Then (numbered i d) rest) ≡ (if is_main e.key then source.Method e.component e.method else main_of rest)
main_one i (EntryDecl at key c m) rest e h =
    ap (λ o. if is_main (the o).key then source.Method (the o).component (the o).method else main_of rest) h
main_one i _ rest e h = cc

abbrev handler_of : Entry → List source.Handler
handler_of e = if is_main e.key then [] else (record { vector = number_of e.key; target = source.Method e.component e.method }) ∷ []

handlers_one : (i : ℕ) (d rest : Node) (e : Entry) → entry_of d ≡ Some e → handlers_in (Then (numbered i d) rest) ≡ handler_of e ++ handlers_in rest
handlers_one i (EntryDecl at key c m) rest e h = ap (λ o. handler_of (the o) ++ handlers_in rest) h
handlers_one i _ rest e h = cc

-- ---- keys that were taken

abbrev Takes : List ℕ → List Handler → Type 0
Takes taken hs = (n : ℕ) → is_taken taken n ≡ is_taken (vectors hs) n

or_same : (a b : Bool) → (a || b) ≡ (b || a)
or_same true true = refl
or_same true false = refl
or_same false true = refl
or_same false false = refl

or_later : (a b c : Bool) → (a || (b || c)) ≡ (b || (a || c))
or_later true true c = refl
or_later true false c = refl
or_later false b c = refl

taken_last : (hs : List Handler) (h : Handler) (n : ℕ) → ((h.vector == n) || is_taken (vectors hs) n) ≡ is_taken (vectors (hs ++ h ∷ [])) n
taken_last [] h n = refl
taken_last (k ∷ hs) h n = or_later (h.vector == n) (k.vector == n) (is_taken (vectors hs) n) ∙ ap (λ b. (k.vector == n) || b) (taken_last hs h n)

takes_more : (taken : List ℕ) (hs : List Handler) (h : Handler) → Takes taken hs → Takes (h.vector ∷ taken) (hs ++ h ∷ [])
takes_more taken hs h t n = ap (λ b. (h.vector == n) || b) (t n) ∙ taken_last hs h n

vector_same : (taken : List ℕ) (hs : List Handler) (key : List ℕ) → Takes taken hs → is_vector taken key ≡ is_vector (vectors hs) key
vector_same taken hs key t =
    ap (λ b. list_all is_digit key && nat_le 1 (number_of key) && nat_le (number_of key) 34 && not b) (t (number_of key))

-- ---- what was passed

-- one more `main`, or none more
abbrev one_more : Main → ℕ → Bool
one_more Missing n = n == 1
one_more (Once m) n = n == 0
one_more Twice n = false

module _ (texts : List (List ℕ)) (d : Declared) where
  -- a method that is entered, in each program of these tables
  abbrev Enters : ℕ → Type 0
  Enters m = (p : Program) → p.tables ≡ d.tables → IsEntry p m

  abbrev AllEnter : List Handler → Type 0
  AllEnter hs = (p : Program) → p.tables ≡ d.tables → AreEntries p hs

  abbrev names : ℕ → source.Target
  names m = named_target (naming texts d) d.tables (Run m)

  abbrev IsMain : Main → (all rest : Node) → Type 0
  IsMain Missing all rest = main_of all ≡ main_of rest
  IsMain (Once m) all rest = (names m ≡ main_of all) × Enters m
  IsMain Twice all rest = Unit {0}

  enters : (c x : List ℕ) (m : ℕ) → IsEntered texts d c x m → Enters m
  enters c x m e p h = record {
    method = e.method;
    component = e.component;
    is = ap (λ t. slice_get t.methods m) h ∙ e.is;
    owner = e.owner;
    params = e.params;
  }

  target_is : (c x : List ℕ) (m : ℕ) → IsEntered texts d c x m → names m ≡ source.Method c x
  target_is c x m e = ap (λ o. source.Method o ((naming texts d).method m).name) e.owner_named ∙ ap (source.Method c) e.named

  all_enter_more : (p : Program) (hs : List Handler) (h : Handler) → AreEntries p hs → IsEntry p h.method → AreEntries p (hs ++ h ∷ [])
  all_enter_more p [] h a e = (e, tt)
  all_enter_more p (k ∷ hs) h a e = (a.0, all_enter_more p hs h a.1 e)

  map_last : (hs : List Handler) (h : Handler)
      → map (named_handler (naming texts d) d.tables) (hs ++ h ∷ [])
      ≡ map (named_handler (naming texts d) d.tables) hs ++ named_handler (naming texts d) d.tables h ∷ []
  map_last [] h = refl
  map_last (k ∷ hs) h = ap (λ z. named_handler (naming texts d) d.tables k ∷ z) (map_last hs h)

  -- with the rest, all entries are passed
  pub record Entering (ds all : Node) (total : ℕ) (here : Passed) (next : ℕ) (rest : List held.Node) : Type 0 where
    pub methods : methods_breach ds all ≡ methods_breach ds (numbered next (row_at texts rest))
    pub mains_in : (mains all == 1) ≡ one_more here.main (mains (numbered next (row_at texts rest)))
    pub taken : List ℕ
    pub takes : Takes taken here.handlers
    pub keys : keys_keep [] all ≡ (here.kept && keys_keep taken (numbered next (row_at texts rest)))
    pub main : IsMain here.main all (numbered next (row_at texts rest))
    pub handlers : here.kept ≡ true
        → map (named_handler (naming texts d) d.tables) here.handlers ++ handlers_in (numbered next (row_at texts rest)) ≡ handlers_in all
    pub enter : AllEnter here.handlers
    pub count : next + count_nodes (row_at [] rest) ≡ total

  pub entering_starts : (ds : Node) (first : ℕ) (nodes : List held.Node) (here : Passed) → here ≡ no_entries
      → Entering ds (numbered first (row_at texts nodes)) (first + count_nodes (row_at [] nodes)) here first nodes
  entering_starts ds first nodes here e =
      subst (λ p. Entering ds (numbered first (row_at texts nodes)) (first + count_nodes (row_at [] nodes)) p first nodes) (sym e) record {
        methods = refl;
        mains_in = refl;
        taken = [];
        takes = λ n. refl;
        keys = refl;
        main = refl;
        handlers = λ k. refl;
        enter = λ p h. tt;
        count = refl;
      }

  -- ---- one entry is passed

  module _ (ds all : Node) (total : ℕ) (here : Passed) (next : ℕ) (n : held.Node) (rest : List held.Node) (e : HeldEntry) (m : ℕ)
      (p : Entering ds all total here next (n ∷ rest)) (h : entry_of (node_at texts n) ≡ Some (entry_view texts e))
      (c : can_enter (component_member ds (entry_view texts e).component (entry_view texts e).method) ≡ true)
      (i : IsEntered texts d (entry_view texts e).component (entry_view texts e).method m)
      (same : count_nodes (node_at texts n) ≡ count_nodes (node_at [] n)) where
    abbrev key : List ℕ
    key = (entry_view texts e).key

    abbrev after : ℕ
    after = next + count_nodes (node_at texts n)

    abbrev behind : Node
    behind = numbered after (row_at texts rest)

    methods_passed : methods_breach ds all ≡ methods_breach ds behind
    methods_passed =
        p.methods ∙ methods_one ds next (node_at texts n) behind (entry_view texts e) h
        ∙ ap (λ b. if b then methods_breach ds behind else Some (record { rule = 4; node = next })) c

    mains_are : (b : Bool) → is_main key ≡ b → mains (numbered next (row_at texts (n ∷ rest))) ≡ (if b then suc (mains behind) else mains behind)
    mains_are b k = mains_one next (node_at texts n) behind (entry_view texts e) h ∙ ap (λ z. if z then suc (mains behind) else mains behind) k

    keys_are : (b : Bool) → is_main key ≡ b → keys_keep p.taken (numbered next (row_at texts (n ∷ rest)))
        ≡ (if b then keys_keep p.taken behind else is_vector p.taken key && keys_keep (number_of key ∷ p.taken) behind)
    keys_are b k =
        keys_one p.taken next (node_at texts n) behind (entry_view texts e) h
        ∙ ap (λ z. if z then keys_keep p.taken behind else is_vector p.taken key && keys_keep (number_of key ∷ p.taken) behind) k

    main_is : (b : Bool) → is_main key ≡ b
        → main_of (numbered next (row_at texts (n ∷ rest)))
        ≡ (if b then source.Method (entry_view texts e).component (entry_view texts e).method else main_of behind)
    main_is b k =
        main_one next (node_at texts n) behind (entry_view texts e) h
        ∙ ap (λ z. if z then source.Method (entry_view texts e).component (entry_view texts e).method else main_of behind) k

    abbrev handler_here : Bool → List source.Handler
    handler_here b =
        if b then [] else (record { vector = number_of key; target = source.Method (entry_view texts e).component (entry_view texts e).method }) ∷ []

    handlers_are : (b : Bool) → is_main key ≡ b → handlers_in (numbered next (row_at texts (n ∷ rest))) ≡ handler_here b ++ handlers_in behind
    handlers_are b k = handlers_one next (node_at texts n) behind (entry_view texts e) h ∙ ap (λ z. handler_here z ++ handlers_in behind) k

    counted : after + count_nodes (row_at [] rest) ≡ total
    counted = let k = p.count in let s = same in omega (arith, k, s)

    one_again : (o : Main) (k : ℕ) → one_more o (suc k) ≡ one_more (again o m) k
    one_again Missing k = grind arith
    one_again (Once j) k = grind arith
    one_again Twice k = refl

    main_again : is_main key ≡ true → (o : Main) → IsMain o all (numbered next (row_at texts (n ∷ rest))) → IsMain (again o m) all behind
    main_again k Missing q = (target_is (entry_view texts e).component (entry_view texts e).method m i ∙ sym (q ∙ main_is true k), enters _ _ m i)
    main_again k (Once j) q = tt
    main_again k Twice q = tt

    main_passed : is_main key ≡ true → Entering ds all total (record here { main = again here.main m }) after rest
    main_passed k = record {
      methods = methods_passed;
      mains_in = p.mains_in ∙ ap (one_more here.main) (mains_are true k) ∙ one_again here.main (mains behind);
      taken = p.taken;
      takes = p.takes;
      keys = p.keys ∙ ap (λ z. here.kept && z) (keys_are true k);
      main = main_again k here.main p.main;
      handlers = λ q.
          ap (λ z. map (named_handler (naming texts d) d.tables) here.handlers ++ z) (sym (handlers_are true k)) ∙ p.handlers q;
      enter = p.enter;
      count = counted;
    }

    main_left : is_main key ≡ false → (o : Main) → IsMain o all (numbered next (row_at texts (n ∷ rest))) → IsMain o all behind
    main_left k Missing q = q ∙ main_is false k
    main_left k (Once j) q = q
    main_left k Twice q = tt

    mains_left : is_main key ≡ false → (mains all == 1) ≡ one_more here.main (mains behind)
    mains_left k = p.mains_in ∙ ap (one_more here.main) (mains_are false k)

    abbrev handler : Handler
    handler = record { vector = number_of key; method = m }

    key_passed : is_main key ≡ false → is_vector (vectors here.handlers) key ≡ true
        → Entering ds all total (record here { handlers = here.handlers ++ handler ∷ [] }) after rest
    key_passed k v = record {
      methods = methods_passed;
      mains_in = mains_left k;
      taken = number_of key ∷ p.taken;
      takes = takes_more p.taken here.handlers handler p.takes;
      keys = p.keys ∙ ap (λ z. here.kept && z) (keys_are false k
          ∙ ap (λ z. z && keys_keep (number_of key ∷ p.taken) behind) (vector_same p.taken here.handlers key p.takes ∙ v));
      main = main_left k here.main p.main;
      handlers = λ q.
          ap (λ z. z ++ handlers_in behind) (map_last here.handlers handler)
          ∙ append_assoc (map (named_handler (naming texts d) d.tables) here.handlers) (named_handler (naming texts d) d.tables handler ∷ []) (handlers_in
          behind)
          ∙ ap (λ t. map (named_handler (naming texts d) d.tables) here.handlers ++ (record { vector = number_of key; target = t }) ∷ handlers_in behind)
          (target_is (entry_view texts e).component (entry_view texts e).method m i)
          ∙ ap (λ z. map (named_handler (naming texts d) d.tables) here.handlers ++ z) (sym (handlers_are false k)) ∙ p.handlers q;
      enter = λ q t. all_enter_more q here.handlers handler (p.enter q t) (enters _ _ m i q t);
      count = counted;
    }

    key_refused : is_main key ≡ false → is_vector (vectors here.handlers) key ≡ false → here.kept ≡ true
        → Entering ds all total (record here { kept = false }) after rest
    key_refused k v t = record {
      methods = methods_passed;
      mains_in = mains_left k;
      taken = p.taken;
      takes = p.takes;
      keys = p.keys ∙ ap (λ z. here.kept && z) (keys_are false k
          ∙ ap (λ z. z && keys_keep (number_of key ∷ p.taken) behind) (vector_same p.taken here.handlers key p.takes ∙ v))
          ∙ ap (λ z. z && false) t;
      main = main_left k here.main p.main;
      handlers = λ q. let z : false ≡ true = q in cc;
      enter = p.enter;
      count = counted;
    }

    key_ignored : is_main key ≡ false → here.kept ≡ false → Entering ds all total here after rest
    key_ignored k t = record {
      methods = methods_passed;
      mains_in = mains_left k;
      taken = p.taken;
      takes = p.takes;
      keys = p.keys ∙ ap (λ z. z && keys_keep p.taken (numbered next (row_at texts (n ∷ rest)))) t
          ∙ sym (ap (λ z. z && keys_keep p.taken behind) t);
      main = main_left k here.main p.main;
      handlers = λ q. let z : false ≡ true = sym t ∙ q in cc;
      enter = p.enter;
      count = counted;
    }

    passed : Entering ds all total (with_entry key m here) after rest
    passed = on_main (is_main key) refl
      where
        on_vector : here.kept ≡ true → is_main key ≡ false → (b : Bool) → is_vector (vectors here.handlers) key ≡ b
            → Entering ds all total (if b then record here { handlers = here.handlers ++ handler ∷ [] } else record here { kept = false }) after rest
        on_vector t k true v = key_passed k v
        on_vector t k false v = key_refused k v t

        on_kept : is_main key ≡ false → (b : Bool) → here.kept ≡ b → Entering ds all total (if b then with_key key m here else here) after rest
        on_kept k true t = on_vector t k (is_vector (vectors here.handlers) key) refl
        on_kept k false t = key_ignored k t

        on_main : (b : Bool) → is_main key ≡ b
            → Entering ds all total (if b then record here { main = again here.main m } else if here.kept then with_key key m here else here) after rest
        on_main true k = main_passed k
        on_main false k = on_kept k here.kept refl

  pub entry_passed : (ds all : Node) (total : ℕ) (here there : Passed) (next after : ℕ) (n : held.Node) (rest : List held.Node) (e : HeldEntry) (m : ℕ)
      → Entering ds all total here next (n ∷ rest) → ((ts : List (List ℕ)) → entry_of (node_at ts n) ≡ Some (entry_view ts e))
      → can_enter (component_member ds (entry_view texts e).component (entry_view texts e).method) ≡ true
      → IsEntered texts d (entry_view texts e).component (entry_view texts e).method m → there ≡ with_entry (entry_view texts e).key m here
      → ((ts : List (List ℕ)) → after ≡ next + count_nodes (node_at ts n)) → Entering ds all total there after rest
  entry_passed ds all total here there next after n rest e m p h c i t a =
      let f = a texts in
      let g = a [] in
      subst (λ k. Entering ds all total there k rest) (sym f)
      (subst (λ q. Entering ds all total q (next + count_nodes (node_at texts n)) rest) (sym t)
      (passed ds all total here next n rest e m p (h texts) c i (omega (arith, f, g))))

  -- an entry with its names found
  pub entry_done : (ds all : Node) (total : ℕ) (here there : Passed) (next after : ℕ) (n : held.Node) (rest : List held.Node) (e : HeldEntry) (m : ℕ)
      (u v w : List ℕ) → u ≡ (entry_view texts e).component → v ≡ (entry_view texts e).method → w ≡ (entry_view texts e).key
      → Entering ds all total here next (n ∷ rest) → ((ts : List (List ℕ)) → entry_of (node_at ts n) ≡ Some (entry_view ts e))
      → true ≡ can_enter (component_member ds u v) → IsEntered texts d u v m → there ≡ with_entry w m here
      → ((ts : List (List ℕ)) → after ≡ next + count_nodes (node_at ts n)) → Entering ds all total there after rest
  entry_done ds all total here there next after n rest e m u v w f g k p h c i t a =
      entry_passed ds all total here there next after n rest e m p h
      (ap (λ z. can_enter (component_member ds z (entry_view texts e).method)) (sym f) ∙ ap (λ z. can_enter (component_member ds u z)) (sym g) ∙ sym c)
      (subst (λ z. IsEntered texts d z (entry_view texts e).method m) f (subst (λ z. IsEntered texts d u z m) g i))
      (t ∙ ap (λ z. with_entry z m here) k) a

  -- ---- what is answered

  -- an entry that cannot be entered
  pub entry_broken : (ds all : Node) (total : ℕ) (here : Passed) (id next : ℕ) (n : held.Node) (rest : List held.Node) (e : HeldEntry)
      → Entering ds all total here next (n ∷ rest) → ((ts : List (List ℕ)) → entry_of (node_at ts n) ≡ Some (entry_view ts e))
      → can_enter (component_member ds (entry_view texts e).component (entry_view texts e).method) ≡ false
      → program_breach ds id all ≡ Some (record { rule = 4; node = next })
  entry_broken ds all total here id next n rest e p h c =
      ap (λ o. o or (if (mains all == 1) && keys_keep [] all then None else Some (record { rule = 3; node = id })))
      (p.methods ∙ methods_one ds next (node_at texts n) (numbered (next + count_nodes (node_at texts n)) (row_at texts rest)) (entry_view texts e) (h texts)
      ∙ ap (λ b. if b then methods_breach ds (numbered (next + count_nodes (node_at texts n)) (row_at texts rest)) else Some (record {
        rule = 4;
        node =
            next;
      })) c)

  asked_last : (ds all : Node) (total : ℕ) (here : Passed) (id next : ℕ) → Entering ds all total here next []
      → program_breach ds id all ≡ (if one_more here.main 0 && (here.kept && true) then None else Some (record { rule = 3; node = id }))
  asked_last ds all total here id next p =
      ap (λ o. o or (if (mains all == 1) && keys_keep [] all then None else Some (record { rule = 3; node = id }))) p.methods
      ∙ ap (λ b. if b && keys_keep [] all then None else Some (record { rule = 3; node = id })) p.mains_in
      ∙ ap (λ b. if one_more here.main 0 && b then None else Some (record { rule = 3; node = id })) p.keys

  abbrev three : Bool → ℕ → Option Breach
  three b i = if b then None else Some (record { rule = 3; node = i })

  none_once : (o : Main) (b : Bool) (i : ℕ) → None ≡ only_main o b → three (one_more o 0 && (b && true)) i ≡ Some (record { rule = 3; node = i })
  none_once Missing b i e = refl
  none_once (Once m) true i e = cc
  none_once (Once m) false i e = refl
  none_once Twice b i e = refl

  -- keys that break the rule
  pub keys_broken : (ds all : Node) (total : ℕ) (here : Passed) (id next : ℕ) → Entering ds all total here next [] → None ≡ only_main here.main here.kept
      → program_breach ds id all ≡ Some (record { rule = 3; node = id })
  keys_broken ds all total here id next p e = asked_last ds all total here id next p ∙ none_once here.main here.kept id e

  some_once : (o : Main) (b : Bool) (m : ℕ) → Some m ≡ only_main o b → (o ≡ Once m) × (b ≡ true)
  some_once (Once k) true m e = let f : m ≡ k = cc in (ap Once (sym f), refl)
  some_once (Once k) false m e = cc
  some_once Missing b m e = cc
  some_once Twice b m e = cc

  -- entries that keep the rules
  pub entries_kept : (ds all : Node) (total : ℕ) (here : Passed) (id next m : ℕ) → Entering ds all total here next [] → Some m ≡ only_main here.main here.kept
      → program_breach ds id all ≡ None
  entries_kept ds all total here id next m p e =
      let o = some_once here.main here.kept m e in
      asked_last ds all total here id next p
      ∙ ap (λ z. three (one_more z 0 && (here.kept && true)) id) o.0
      ∙ ap (λ z. three (z && true) id) o.1

  pub entries_named : (ds all : Node) (total : ℕ) (here : Passed) (next m : ℕ) → Entering ds all total here next [] → Some m ≡ only_main here.main here.kept
      → NamesEntries texts d all (record { main = m; handlers = here.handlers })
  entries_named ds all total here next m p e =
      let o = some_once here.main here.kept m e in
      let k : IsMain (Once m) all Nothing = subst (λ z. IsMain z all Nothing) o.0 p.main in
      record {
        main = k.0;
        handlers = sym (append-nil (map (named_handler (naming texts d) d.tables) here.handlers)) ∙ p.handlers o.1;
        main_is = k.1;
        handlers_are = p.enter;
      }
