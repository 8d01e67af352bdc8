-- The layout of a live set is laid, and both programs do the same.
use Rattle.std.proofs.Common.{◌≡◌, refl, sym, ap, subst, ◌∙◌, arith, ℕ, zero, suc, ◌<◌, true, false, [], ◌∷◌, List, length, Option, Some, None, slice_get}
use Rattle.std.proofs.lemmas.Option.{slice_get_within}
use Rattle.vg_meaning.specs.History.{Recorder}
use Rattle.vg_meaning.specs.Outside.{AreReads}
use Rattle.vg_meaning.specs.Safe.{Alike}
use Rattle.vg_meaning.specs.Shapes.{Fits}
use Rattle.vg_codes.specs.Codes.{Codes}
use Rattle.vg_source.specs.Session.{running_world}
use Rattle.vg_core.specs.declared.heap.Cell.{Cell}
use Rattle.vg_core.specs.declared.heap.Heap.{Heap}
use Rattle.vg_core.specs.declared.member.Member.TheVariants.{Method}
use Rattle.vg_core.specs.declared.program.Method.{Method as TheMethod}
use Rattle.vg_core.specs.declared.program.Target.TheVariants.{Run}
use Rattle.vg_core.specs.declared.types.CoreType.{CoreType}
use Rattle.vg_core.specs.declared.value.CoreValue.{CoreValue}
use Rattle.vg_core.specs.Heap.{Kind}
use Rattle.vg_core.specs.Program.{Body, Program, Signature, method_signature, signature_of}
use Rattle.vg_core.specs.Session.{running}
use Rattle.vg_core.specs.State.{is_of}
use Rattle.vg_core.specs.Typing.{WellTyped, TypedBody, locals_of}
use Rattle.vg_sound.specs.Good.{TypedHeap, HasTypedHeap}
use Rattle.vg_sound.proofs.Values.{the_same, none_some}
use Rattle.vg_firm.specs.Meaning.{fits}
use Rattle.vg_firm.specs.Program.{Program as FirmProgram}
use Rattle.vg_firm.specs.Session as firm
use Rattle.vg_coded.specs.Kept.{HasSmallNumbers, IsKept}
use Rattle.vg_coded.specs.Numbers.{coded}
use Rattle.vg_coded.proofs.Fitting.{value_fits}
use Rattle.vg_packing.specs.Allowed.{IsSmall, allowing}
use Rattle.vg_live.specs.Rules.{Live, by}
use Rattle.vg_packing.specs.Layout.{Layout}
use Rattle.vg_packing.specs.Laid.{IsPacked, Laid}
use Rattle.vg_packing.proofs.Calls.{packed_running}
use Rattle.vg_packed.proofs.Apart.{apart}
use Rattle.vg_packed.proofs.Counted as counting
use Rattle.vg_packed.specs.Apart.{HasNumbers}
use Rattle.vg_packed.specs.Plain.{IsPlain, AreRanged}
use Rattle.vg_packed.specs.IsOf.{IsOf}
use Rattle.vg_packed.specs.IsPlaced.{IsPlaced}
use Rattle.vg_packed.proofs.Bodies.{body_fits}
use Rattle.vg_packed.proofs.Starting.{holds_first}

none_past : {A : Type 0} (xs : List A) (i : ℕ) → slice_get xs i ≡ None → i < length xs → ⊥
none_past [] i e h = omega (arith, h)
none_past (x ∷ xs) zero e h = none_some x (sym e)
none_past (x ∷ xs) (suc i) e h = none_past xs i e (omega (arith, h))

-- a live method is there
method_there : (p : Program) (h : Heap) (m : ℕ) → Live p h (Some (Method m)) → (y : TheMethod) × (slice_get p.tables.methods m ≡ Some y)
method_there p h m (by {y = y} rule there a b) = at (slice_get p.tables.methods m) refl
  where
    at : (o : Option TheMethod) → slice_get p.tables.methods m ≡ o → (y : TheMethod) × (slice_get p.tables.methods m ≡ Some y)
    at (Some y) e = (y, e)
    at None e = absurd (none_past p.tables.methods m e there)

abbrev signature : TheMethod → Signature
signature y = record { owner = y.owner; params = y.params; result = y.result }

module _ (p : Program) (good : WellTyped p) (plain : IsPlain p) (h : Heap) (κ : List Kind) (typed : TypedHeap p.tables κ h) (l : Layout) (k : Codes)
    (f : FirmProgram) (is : IsOf p h l k f) where
  -- the body of a live method is taken by the pass
  pub live_fits : (m : ℕ) (g : Signature) (b : Body) → Live p h (Some (Method m)) → signature_of p.tables (Run m) ≡ Some g
      → slice_get p.methods m ≡ Some b → Fits (allowing p.tables l f (l.edges m) (locals_of g b) g.owner g.result) false b.code [] []
  live_fits m g b live eg eb = by (good.bodies (Run m) g eg)
    where
      by : (c : Body) × (slice_get p.methods m ≡ Some c) × TypedBody p.tables g c
          → Fits (allowing p.tables l f (l.edges m) (locals_of g b) g.owner g.result) false b.code [] []
      by (c, ec, t) = body_fits p good.tables plain h κ typed l k f is m g b live eb (subst (TypedBody p.tables g) (the_same _ _ (sym ec ∙ eb)) t)

module _ (p : Program) (good : WellTyped p) (plain : IsPlain p) (h : Heap) (κ : List Kind) (typed : TypedHeap p.tables κ h) (l : Layout) (k : Codes)
    (f : FirmProgram) (is : IsOf p h l k f) (at : IsPlaced p l k f) where
  numbers : HasNumbers p.tables l
  numbers = counting.has_numbers p.tables at.chains l at.kept at.counted

  small : HasSmallNumbers l.numbering k
  small = record { cells = counting.two_bytes p.tables at.chains l at.kept at.counted at.few; codes = at.codes }

  widths : (cells : List Cell) (t : CoreType) (v : CoreValue) → is_of p.tables cells t v ≡ true → IsKept l.numbering v
      → fits (l.width t) (coded l.numbering k v) ≡ true
  widths cells t v a b = subst (λ z. fits z (coded l.numbering k v) ≡ true) (sym (at.widths t)) (value_fits l.numbering k small p.tables cells t v a b)

  -- the result of a method is small
  result_small : (m : ℕ) (g : Signature) (y : Option TheMethod) → slice_get p.tables.methods m ≡ y → method_signature y ≡ Some g → IsSmall g.result
  result_small m g None ey e = none_some g e
  result_small m g (Some y) ey e = subst (λ z. IsSmall z.result) (the_same _ _ e) (plain.results m y ey)

  bodies : (m q : ℕ) (g : Signature) (b : Body) → l.numbering.procedure m ≡ Some q → signature_of p.tables (Run m) ≡ Some g
      → slice_get p.methods m ≡ Some b → IsPacked p.tables l k f m q g b
  bodies m q g b eq eg eb =
      record {
        procedure = at.procedures m q g b eq eg eb;
        code = live_fits p good plain h κ typed l k f is m g b (is.only_methods m q eq) eg eb;
        others = plain.locals m b eb;
        result = result_small m g (slice_get p.tables.methods m) refl eg;
      }

  -- a procedure is one of the program
  procedures : (m q : ℕ) → l.numbering.procedure m ≡ Some q → q < length f.procedures
  procedures m q eq = at_method (method_there p h m (is.only_methods m q eq))
    where
      at_body : (y : TheMethod) → slice_get p.tables.methods m ≡ Some y
          → ((b : Body) × (slice_get p.methods m ≡ Some b) × TypedBody p.tables (signature y) b) → q < length f.procedures
      at_body y ey (b, eb, t) = slice_get_within f.procedures q _ (at.procedures m q (signature y) b eq (ap method_signature ey) eb)

      at_method : (y : TheMethod) × (slice_get p.tables.methods m ≡ Some y) → q < length f.procedures
      at_method (y, ey) = at_body y ey (good.bodies (Run m) (signature y) (ap method_signature ey))

  pub is_laid : Laid p l k f
  is_laid =
      record {
        small = small;
        spans = numbers.spans;
        no_null = counting.no_null p.tables at.chains l at.kept at.counted;
        one_object = numbers.one_object;
        one_array = counting.one_array p.tables at.chains l at.kept at.counted;
        widths = widths;
        items = at.items;
        apart = λ h1 shaped x y v u o kx ky ex ey sx sy.
            apart p.tables good.tables l at.kept at.columns at.has_columns numbers h1 shaped x y v u o kx ky ex ey sx sy;
        tables = at.tables;
        bodies = bodies;
        procedures = procedures;
        receivers = is.bindable_receives;
        few_parameters = at.few_parameters;
        main = at.main;
        handlers = at.handlers;
      }

-- every run from the heap and every run from the columns do the same
pub same_sessions : {K : Type 0} (p : Program) → WellTyped p → IsPlain p → (h : Heap) → HasTypedHeap p.tables h → AreRanged p.tables h → (l : Layout)
    (k : Codes) (f : FirmProgram)
    → IsOf p h l k f → IsPlaced p l k f → (r : Recorder K) (history : K) (deepest : Option ℕ) (reads interrupts : List ℕ) (clock : ℕ) → AreReads reads
    → Alike (running r history p h deepest reads interrupts clock)
    (firm.running r k f (length interrupts) (firm.first_state f) (running_world history deepest reads interrupts clock))
same_sessions p good plain h typed ranged l k f is at r history deepest reads interrupts clock bytes =
    packed_running p good l k f (is_laid p good plain h typed.0 typed.1 l k f is at) r h typed
    (holds_first p good.tables h ranged typed.0 typed.1 l k f is) history deepest reads interrupts clock bytes
