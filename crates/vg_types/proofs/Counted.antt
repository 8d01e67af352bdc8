-- There are as many bodies as there are signatures.
use Rattle.std.proofs.Common.{◌≡◌, ℕ, zero, suc, ◌+◌, List, [], ◌∷◌, ◌++◌, length, map, flat_map, Some, slice_get, refl, sym, ap, ◌∙◌, arith}
use Rattle.std.proofs.lemmas.List.{length-append, length-map}
use Rattle.std.proofs.lemmas.Grind.{flat_map-append}
use Rattle.vg_syntax.specs.Tree.{Node, Then, ClassDecl, ComponentDecl, MethodDecl}
use Rattle.vg_tree.specs.declared.node.Node as held_node
use Rattle.vg_source.specs.Steps.{Source}
use Rattle.vg_source.specs.Program.{program_of, classes_in, components_in}
use Rattle.vg_rules.specs.Counts.{in_row, members_at}
use Rattle.vg_method_sizes.specs.Sizes.{Size, size_at, sizes_in}
use Rattle.vg_core.specs.declared.program.Body.{Body as HeldBody}
use Rattle.vg_core.specs.declared.program.Class.{Class}
use Rattle.vg_core.specs.declared.program.Method.{Method}
use Rattle.vg_core.specs.declared.program.Owner.{Owner}
use Rattle.vg_core.specs.declared.program.Tables.{Tables}
use Rattle.vg_core.specs.declared.program.Target.{Target}
use Rattle.vg_core.specs.declared.program.Target.TheVariants.{Run, Construct, Start}
use Rattle.vg_core.specs.HeldProgram.{body_at}
use Rattle.vg_core.specs.Naming.{Naming, named, named_classes, named_components}
use Rattle.vg_core.specs.Program.{Body, Program, Signature, signature_of, body_of, method_signature, making_signature, start_signature}
use Rattle.vg_types_tables.specs.declared.declared.Declared.{Declared}
use Rattle.vg_types_routines.specs.Bodies.{MethodBodies, AllBodies}

-- of two lists of one length each has something where the other has
there : {A B : Type 0} (xs : List A) (ys : List B) → length xs ≡ length ys → (i : ℕ) (x : A) → slice_get xs i ≡ Some x
    → (y : B) × (slice_get ys i ≡ Some y)
there [] ys e i x q = absurd (grind (arith, q))
there (x ∷ xs) [] e i z q = absurd (omega (arith, e))
there (x ∷ xs) (y ∷ ys) e zero z q = (y, refl)
there (x ∷ xs) (y ∷ ys) e (suc i) z q = there xs ys (omega (arith, e)) i z q

-- the sizes of the methods of members, and of the declarations behind them
sizes_of_two : (row rest : Node)
    → length (flat_map size_at (in_row row ++ flat_map members_at (in_row rest))) ≡ length (flat_map size_at (in_row row)) + length (sizes_in rest)
sizes_of_two row rest =
    ap length (flat_map-append size_at (in_row row) (flat_map members_at (in_row rest)))
    ∙ length-append (flat_map size_at (in_row row)) (flat_map size_at (flat_map members_at (in_row rest)))

module _ (texts : List (List ℕ)) (root : held_node.Node) (d : Declared) (ds : Node) where
  own_count : (o : Owner) (row : Node) (own : List HeldBody) → MethodBodies texts root d o row own → length own ≡ length (flat_map size_at (in_row row))
  own_count o (Then (MethodDecl at n ps t block) rest) (b ∷ own) f = ap suc (own_count o rest own f.1)
  own_count o (Then (MethodDecl at n ps t block) rest) [] f = absurd f
  own_count o (Then _ rest) own f = own_count o rest own f
  own_count o _ own f = ap length f

  -- so many methods, classes and components are declared
  record Counted (rest : Node) (ms ks ss : List HeldBody) : Type 0 where
    methods : length ms ≡ length (sizes_in rest)
    makings : length ks ≡ length (classes_in ds rest)
    starts : length ss ≡ length (components_in rest)

  methods_too : (o : Owner) (row rest : Node) (ms own others : List HeldBody) → ms ≡ own ++ others → MethodBodies texts root d o row own
      → length others ≡ length (sizes_in rest) → length ms ≡ length (flat_map size_at (in_row row ++ flat_map members_at (in_row rest)))
  methods_too o row rest ms own others e f g =
      let a = ap length e ∙ length-append own others in
      let b = own_count o row own f in
      let c = sizes_of_two row rest in omega (arith, a, b, c, g)

  counted : (rest : Node) (ms ks ss : List HeldBody) → AllBodies texts root d rest ms ks ss → Counted rest ms ks ss
  counted (Then (ClassDecl at x above row) rest) ms ks ss (own, others, b, makings, em, ek, f, g) =
      let c = counted rest others makings ss g in
      record {
        methods = methods_too _ row rest ms own others em f.methods_are c.methods;
        makings = ap length ek ∙ ap suc c.makings;
        starts = c.starts;
      }
  counted (Then (ComponentDecl at x row) rest) ms ks ss (own, others, b, starts, em, es, f, g) =
      let c = counted rest others ks starts g in
      record {
        methods = methods_too _ row rest ms own others em f.methods_are c.methods;
        makings = c.makings;
        starts = ap length es ∙ ap suc c.starts;
      }
  counted (Then _ rest) ms ks ss f = let c = counted rest ms ks ss f in record { methods = c.methods; makings = c.makings; starts = c.starts }
  counted _ ms ks ss (em, ek, es) = record { methods = ap length em; makings = ap length ek; starts = ap length es }

class_count : (n : Naming) (p : Tables) (c : ℕ) (ks : List Class) → length (named_classes n p c ks) ≡ length ks
class_count n p c [] = refl
class_count n p c (k ∷ ks) = ap suc (class_count n p (suc c) ks)

component_count : (n : Naming) (p : Tables) (k : ℕ) (xs : List ℕ) → length (named_components n p k xs) ≡ length xs
component_count n p k [] = refl
component_count n p k (x ∷ xs) = ap suc (component_count n p (suc k) xs)

-- so what has a body has a signature
module _ (texts : List (List ℕ)) (root : held_node.Node) (d : Declared) (ds : Node) (ms ks ss : List HeldBody) (n : Naming) (p : Program)
    (bodies : AllBodies texts root d ds ms ks ss) (methods_are : p.methods ≡ map body_at ms) (makings_are : p.makings ≡ map body_at ks)
    (starts_are : p.starts ≡ map body_at ss) (same : program_of ds ≡ named n p)
    (nodes : map (λ (m : Method). m.nodes) p.tables.methods ≡ map (λ (s : Size). s.nodes) (sizes_in ds)) where
  all_counted : Counted texts root d ds ds ms ks ss
  all_counted = counted texts root d ds ds ms ks ss bodies

  method_count : length p.methods ≡ length p.tables.methods
  method_count =
      ap length methods_are ∙ length-map ms body_at ∙ all_counted.methods ∙ sym (length-map (sizes_in ds) (λ (s : Size). s.nodes))
      ∙ sym (ap length nodes) ∙ length-map p.tables.methods (λ (m : Method). m.nodes)

  making_count : length p.makings ≡ length p.tables.classes
  making_count =
      ap length makings_are ∙ length-map ks body_at ∙ all_counted.makings ∙ ap (λ (s : Source). length s.classes) same
      ∙ class_count n p.tables 0 p.tables.classes

  start_count : length p.starts ≡ length p.tables.components
  start_count =
      ap length starts_are ∙ length-map ss body_at ∙ all_counted.starts ∙ ap (λ (s : Source). length s.components) same
      ∙ component_count n p.tables 0 p.tables.components

  pub all_called : (t : Target) (b : Body) → body_of p t ≡ Some b → (g : Signature) × (signature_of p.tables t ≡ Some g)
  all_called (Run m) b e = let y = there p.methods p.tables.methods method_count m b e in (_, ap method_signature y.1)
  all_called (Construct c) b e = let y = there p.makings p.tables.classes making_count c b e in (_, ap (making_signature c) y.1)
  all_called (Start k) b e = let y = there p.starts p.tables.components start_count k b e in (_, ap (start_signature k) y.1)
