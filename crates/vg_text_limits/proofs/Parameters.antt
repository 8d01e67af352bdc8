-- The parameters of what can be called.
use Rattle.std.proofs.Common.{◌≡◌, sym, ap, subst, ◌∙◌, arith, ℕ, zero, suc, ◌+◌, ◌≤◌, List, [], ◌∷◌, ◌++◌, length, flat_map, Some, None}
use Rattle.std.proofs.Common.{slice_get}
use Rattle.std.specs.List.{AllByRecursion}
use Rattle.std.proofs.lemmas.Grind.{flat_map-append}
use Rattle.vg_syntax.specs.Tree.{Node, Then, ClassDecl, ComponentDecl, MethodDecl, ConstructorDecl}
use Rattle.vg_source.specs.Names.{Name}
use Rattle.vg_source.specs.Nodes.{count_locals}
use Rattle.vg_source.specs.Steps.{Routine, Source}
use Rattle.vg_source.specs.Resolved.{Owner, InClass, InComponent}
use Rattle.vg_source.specs.Program.{declarations_of, source_of, methods_in, constructor_in, declared_routines}
use Rattle.vg_source.specs.Program.{routines_in, next_number, with_numbers}
use Rattle.vg_rules.specs.Counts.{locals_at, members_at, in_row}
use Rattle.vg_rules.specs.Refusal.{first_past, refusal_of}
use Rattle.vg_core.specs.declared.program.Target.{Target}
use Rattle.vg_core.specs.Naming.{Naming, named_routine}
use Rattle.vg_core.specs.Naming as naming
use Rattle.vg_core.specs.Program.{Program, Signature, signature_of}
use Rattle.vg_renamed.specs.NamesTell.{NamesTell}
use Rattle.vg_text_limits.proofs.Limits.{few_locals, past_both, past_first}
use Rattle.vg_text_limits.proofs.Standing.{stands_at}

abbrev IsShort : Routine → Type 0
IsShort r = r.params ≤ 60

abbrev Each : List Routine → Type 0
Each rs = AllByRecursion IsShort rs

each_both : (xs ys : List Routine) → Each xs → Each ys → Each (xs ++ ys)
each_both [] ys h k = k
each_both (x ∷ xs) ys (a, h) k = (a, each_both xs ys h k)

numbered : (n : ℕ) (rs : List Routine) → Each rs → Each (with_numbers n rs)
numbered n [] h = tt
numbered n (r ∷ rs) (a, h) = (a, numbered (next_number n r.target) rs h)

each_at : (rs : List Routine) (i : ℕ) (r : Routine) → Each rs → slice_get rs i ≡ Some r → IsShort r
each_at [] i r h e = absurd (grind (arith, e))
each_at (x ∷ rs) zero r (a, h) e = let q : x ≡ r = cc in subst IsShort q a
each_at (x ∷ rs) (suc i) r (a, h) e = each_at rs i r h e

abbrev None' : List Node → Type 0
None' ms = first_past 60 (flat_map locals_at ms) ≡ None

module _ (ds : Node) where
  record Members (o : Owner) (c : Name) (ms : Node) : Type 0 where
    methods : Each (methods_in ds o c ms)
    params : length (constructor_in ms).params ≤ 60

  members : (o : Owner) (c : Name) (ms : Node) → None' (in_row ms) → Members o c ms
  members o c (Then (MethodDecl at x ps t body) rest) h =
      let q = past_first 60 (record { node = at.id; number = length ps + count_locals body }) (flat_map locals_at (in_row rest)) h in
      let m = members o c rest q.1 in
      record { methods = ((let a = q.0 in omega (arith, a)), m.methods); params = m.params }
  members o c (Then (ConstructorDecl at ps calls args body) rest) h =
      let q = past_first 60 (record { node = at.id; number = length ps + count_locals body }) (flat_map locals_at (in_row rest)) h in
      let m = members o c rest q.1 in
      record { methods = m.methods; params = (let a = q.0 in omega (arith, a)) }
  members o c (Then _ rest) h = let m = members o c rest h in record { methods = m.methods; params = m.params }
  members o c _ h = record { methods = tt; params = omega arith }

  two : (xs ys : List Node) → None' (xs ++ ys) → None' xs × None' ys
  two xs ys h = past_both 60 (flat_map locals_at xs) (flat_map locals_at ys) (ap (first_past 60) (sym (flat_map-append locals_at xs ys)) ∙ h)

  routines : (rows : Node) → None' (flat_map members_at (in_row rows)) → Each (routines_in ds rows)
  routines (Then (ClassDecl at c above ms) rest) h =
      let q = two (in_row ms) (flat_map members_at (in_row rest)) h in
      let m = members (InClass c) c ms q.0 in
      each_both (declared_routines ds (ClassDecl at c above ms)) (routines_in ds rest) (m.params, m.methods) (routines rest q.1)
  routines (Then (ComponentDecl at c ms) rest) h =
      let q = two (in_row ms) (flat_map members_at (in_row rest)) h in
      let m = members (InComponent c) c ms q.0 in
      each_both (declared_routines ds (ComponentDecl at c ms)) (routines_in ds rest) (omega arith, m.methods) (routines rest q.1)
  routines (Then _ rest) h = routines rest h
  routines _ h = tt

pub few_parameters : (text : Node) (n : Naming) (p : Program) → refusal_of text ≡ None → source_of text ≡ naming.named n p → NamesTell n p
    → (t : Target) (g : Signature) → signature_of p.tables t ≡ Some g → length g.params ≤ 60
few_parameters text n p legal is told t g eg =
    let b = told.bodies t g eg in
    let k = told.targets t g b.0 eg b.1 in
    let r = stands_at n p t g b.0 eg b.1 p.tables.targets k.0 k.1 in
    let ds = declarations_of text in
    each_at (with_numbers 0 (routines_in ds ds)) r.0 (named_routine n p.tables t g b.0)
    (numbered 0 (routines_in ds ds) (routines ds ds (few_locals text legal))) (ap (λ (s : Source). slice_get s.routines r.0) is ∙ r.1)
