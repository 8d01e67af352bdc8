-- Where live methods make something, under numbers and under names.
use Rattle.std.proofs.Common.{◌≡◌, ℕ, List, [], ◌∷◌, map, Option, Some, None, slice_get}
use Rattle.std.proofs.Common.{refl, sym, ap, ◌∙◌, subst}
use Rattle.std.specs.Prelude.{◌<◌}
use Rattle.vg_source.specs.Names.{Name}
use Rattle.vg_source.specs.Steps as source_step
use Rattle.vg_source.specs.State as source_state
use Rattle.vg_core.specs.declared.member.Member.{Member}
use Rattle.vg_core.specs.declared.member.Member.TheVariants.{Method, Field, Cell}
use Rattle.vg_core.specs.declared.step.Step.{Step}
use Rattle.vg_core.specs.declared.heap.Heap.{Heap}
use Rattle.vg_core.specs.declared.program.Method as program
use Rattle.vg_core.specs.declared.program.Tables.{Tables}
use Rattle.vg_core.specs.declared.program.Target.TheVariants.{Run}
use Rattle.vg_core.specs.Program.{Body, Program, Signature}
use Rattle.vg_core.specs.Heap.{Kind}
use Rattle.vg_core.specs.Naming.{Naming, named_step, named_heap, named_routine, named}
use Rattle.vg_core.specs.Typing.{WellTyped}
use Rattle.vg_sound.specs.Good.{TypedHeap}
use Rattle.vg_sound.proofs.Values.{the_same}
use Rattle.vg_renamed.specs.NamesTell.{NamesTell}
use Rattle.vg_live.specs.Uses.{steps_of, made_at}
use Rattle.vg_live.specs.Rules.{Live}
use Rattle.vg_live_source.specs.Members as source
use Rattle.vg_live_source.specs.Rules as source_rules
use Rattle.vg_live_source.specs.Making as source_making
use Rattle.vg_live_named.specs.Members.{named_member}
use Rattle.vg_live_named.proofs.Names.{made_same, routine_there, steps_named}
use Rattle.vg_live_named.proofs.There.{MethodThere, live_method}
use Rattle.vg_live_named.proofs.Forth.{forth}
use Rattle.vg_live_named.proofs.Whole.{live_back}
use Rattle.vg_reach.specs.declared.making.Allocates.{Allocates}
use Rattle.vg_reach.specs.Reaches.{least_of, least_made, made_in, IsFirstMaker}

least_same : (a b : Option ℕ) → source_making.least_of a b ≡ least_of a b
least_same None b = refl
least_same (Some a) None = refl
least_same (Some a) (Some b) = refl

least_made_same : (n : Naming) (p : Tables) (ss : List Step) → source_making.least_made (map (named_step n p) ss) ≡ least_made ss
least_made_same n p [] = refl
least_made_same n p (s ∷ ss) =
    ap (λ z. source_making.least_of z (source_making.least_made (map (named_step n p) ss))) (made_same n p s)
    ∙ (ap (source_making.least_of (made_at s)) (least_made_same n p ss) ∙ least_same (made_at s) (least_made ss))

module _ (n : Naming) (p : Program) (tell : NamesTell n p) (good : WellTyped p) where
  -- the least node at which a method makes something
  pub made_named : (m : ℕ) (y : program.Method) → slice_get p.tables.methods m ≡ Some y
      → source_making.made_in (named n p) (n.method m).owner (n.method m).name ≡ made_in p m
  made_named m y e = ap source_making.least_made (steps_named n p tell good m y e) ∙ least_made_same n p.tables (steps_of p m)

  -- the number of a method
  number_named : (m : ℕ) (y : program.Method) → slice_get p.tables.methods m ≡ Some y
      → source_making.number_of (named n p) (n.method m).owner (n.method m).name ≡ Some m
  number_named m y e = by (routine_there n p tell good m y e)
    where
      by : ((g : Signature) × (b : Body) × (slice_get p.methods m ≡ Some b)
          × (source_state.find_routine (named n p).routines (source_step.Method (n.method m).owner (n.method m).name)
          ≡ Some (named_routine n p.tables (Run m) g b)))
          → source_making.number_of (named n p) (n.method m).owner (n.method m).name ≡ Some m
      by (g, b, eb, er) = ap source_making.number_in er

  module _ (h : Heap) (κ : List Kind) (typed : TypedHeap p.tables κ h) where
    -- a live method under its names, and its number
    data Found (d x : Name) : Type 0 where
      found : (m : ℕ) (y : program.Method) → slice_get p.tables.methods m ≡ Some y → Live p h (Some (Method m))
          → source_making.number_of (named n p) d x ≡ Some m → source_making.made_in (named n p) d x ≡ made_in p m → Found d x

    found_as : (d x : Name) (m : ℕ) (y : program.Method) → slice_get p.tables.methods m ≡ Some y → Live p h (Some (Method m)) → d ≡ (n.method m).owner
        → x ≡ (n.method m).name → Found d x
    found_as d x m y ey l ed ex = found m y ey l
        (ap (λ z. source_making.number_of (named n p) z x) ed ∙ (ap (source_making.number_of (named n p) (n.method m).owner) ex ∙ number_named m y ey))
        (ap (λ z. source_making.made_in (named n p) z x) ed ∙ (ap (source_making.made_in (named n p) (n.method m).owner) ex ∙ made_named m y ey))

    abbrev owner_in : source.Member → Name
    owner_in (source.Method d x) = d
    owner_in _ = []

    abbrev name_in : source.Member → Name
    name_in (source.Method d x) = x
    name_in _ = []

    method_found : (d x : Name) → source_rules.Live (named n p) (named_heap n p.tables h) (Some (source.Method d x)) → Found d x
    method_found d x a = by (live_back n p tell good h κ typed (source.Method d x) a)
      where
        there : (m : ℕ) → Live p h (Some (Method m)) → d ≡ (n.method m).owner → x ≡ (n.method m).name → MethodThere p.tables m → Found d x
        there m l ed ex (y, ey) = found_as d x m y ey l ed ex

        by : ((y : Member) × (source.Method d x ≡ named_member n y) × Live p h (Some y)) → Found d x
        by (Method m, e, l) = there m l (ap owner_in e) (ap name_in e) (live_method p h good κ typed m l)
        by (Field f, e, l) = absurd (let clash : source.Method d x ≡ named_member n (Field f) = e in cc)
        by (Cell k, e, l) = absurd (let clash : source.Method d x ≡ named_member n (Cell k) = e in cc)

    pub nothing : ((m : ℕ) → Live p h (Some (Method m)) → made_in p m ≡ None) → source_making.MakesNothing (named n p) (named_heap n p.tables h)
    nothing none d x a = by (method_found d x a)
      where
        by : Found d x → source_making.made_in (named n p) d x ≡ None
        by (found m y ey l em ei) = ei ∙ none m l

    pub first_maker : (a : Allocates) → IsFirstMaker p h a
        → source_making.IsFirstMaker (named n p) (named_heap n p.tables h) (n.method a.method).owner (n.method a.method).name a.node
    first_maker a maker = at (live_method p h good κ typed a.method maker.live)
      where
        earlier : (y : program.Method) → slice_get p.tables.methods a.method ≡ Some y → (d x : Name)
            → source_making.StandsBefore (named n p) d x (n.method a.method).owner (n.method a.method).name → Found d x
            → source_making.made_in (named n p) d x ≡ None
        earlier y ey d x (i, j, ei, ej, l) (found m z ez lm em ed) =
            let before : i ≡ m = the_same _ _ (sym ei ∙ em) in
            let here : j ≡ a.method = the_same _ _ (sym ej ∙ number_named a.method y ey) in
            ed ∙ maker.first m (subst (λ k. m < k) here (subst (λ k. k < j) before l)) lm

        at : MethodThere p.tables a.method
            → source_making.IsFirstMaker (named n p) (named_heap n p.tables h) (n.method a.method).owner (n.method a.method).name a.node
        at (y, ey) = record {
          live = forth n p tell good h κ typed (Some (Method a.method)) maker.live;
          makes = made_named a.method y ey ∙ maker.makes;
          first = λ d x before live. earlier y ey d x before (method_found d x live);
        }
