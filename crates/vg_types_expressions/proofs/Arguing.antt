-- Rows of arguments, one after another: each argument that fits its parameter puts a value for it in front of those of the arguments
-- before it. At the end there is an argument for each parameter.
use Rattle.std.proofs.Common.{◌≡◌, ◌≢◌, ◌<◌, ◌≤◌, ℕ, zero, suc, ◌+◌, ◌&&◌, ◌==◌, Bool, true, false, List, [], ◌∷◌, ◌++◌, length, take, drop, slice_get}
use Rattle.std.proofs.Common.{Option, Some, None, refl, sym, ap, ◌∙◌, subst, arith}
use Rattle.std.proofs.lemmas.Bool.{eq-eqb, eqb-true}
use Rattle.std.proofs.lemmas.Option.{slice_get_within}
use Rattle.vg_meaning.specs.Code.{Then, Nothing as NoCode}
use Rattle.vg_meaning.specs.Shapes.{Fits}
use Rattle.vg_syntax.specs.Tree.{Node}
use Rattle.vg_syntax.specs.Tree as tree
use Rattle.vg_syntax.specs.Numbering.{count_nodes, numbered}
use Rattle.vg_tree.specs.declared.node.Node as held_node
use Rattle.vg_source.specs.Declared.{length_of}
use Rattle.vg_source.specs.Resolved.{Fresh, in_front, resolved}
use Rattle.vg_rules.specs.Breach.{◌or◌}
use Rattle.vg_rules.specs.Bodies.{breach, arguments_fit, head_fits}
use Rattle.vg_core.specs.declared.types.CoreType.{CoreType}
use Rattle.vg_core.specs.declared.code.Code as held
use Rattle.vg_core.specs.HeldProgram.{code_of, code_row}
use Rattle.vg_core.specs.Naming.{named_code}
use Rattle.vg_core.specs.State.{onto}
use Rattle.vg_core.specs.Typing.{known, Sub, Subs}
use Rattle.vg_types_tables.specs.declared.declared.Declared.{Declared}
use Rattle.vg_types_tables.specs.declared.locals.Locals.{Locals}
use Rattle.vg_types_tables.specs.declared.body.BodyKind.{BodyKind}
use Rattle.vg_types_tables.specs.declared.judged.Judged.{Judged}
use Rattle.vg_types_tables.specs.Views.{declarations_at, naming, type_view, row_view, body_view, scope_view, code_view}
use Rattle.vg_types_tables.specs.Promises.{meant, whole, Stands, Puts}
use Rattle.vg_types_expressions.specs.declared.argued.Argued.{Argued}
use Rattle.vg_types_expressions.specs.Links.{code_behind, behind_all}
use Rattle.vg_types_expressions.specs.Arguments.{Argues, PutsFor, Arguing, argument_fits}
use Rattle.vg_types_expressions.proofs.Linking.{code_more, behind_more, behind_scope, behind_does}

both : (a b : Bool) → (a && b) ≡ true → (a ≡ true) × (b ≡ true)
both true b e = (refl, e)
both false b e = absurd (let clash : false ≡ true = e in cc)

and_and : (a b c : Bool) → (a && (b && c)) ≡ ((a && b) && c)
and_and true b c = refl
and_and false b c = refl

-- ---- lists

there : {A : Type 0} (xs : List A) (i : ℕ) (x : A) → slice_get xs i ≡ Some x → drop i xs ≡ x ∷ drop (i + 1) xs
there [] i x e = absurd (let clash : None ≡ Some x = e in cc)
there (y ∷ xs) zero x e = let same : y ≡ x = cc in ap (λ z. z ∷ xs) same
there (y ∷ xs) (suc i) x e = let one : suc i + 1 ≡ suc (i + 1) = omega arith in there xs i x e ∙ ap (λ j. x ∷ drop j (y ∷ xs)) (sym one)

not_there : {A : Type 0} (xs : List A) (i : ℕ) → slice_get xs i ≡ None → drop i xs ≡ []
not_there [] zero e = refl
not_there [] (suc i) e = refl
not_there (y ∷ xs) zero e = absurd (let clash : Some y ≡ None = e in cc)
not_there (y ∷ xs) (suc i) e = not_there xs i e

onto_last : {A : Type 0} (xs : List A) (x : A) (acc : List A) → onto (xs ++ x ∷ []) acc ≡ x ∷ onto xs acc
onto_last [] x acc = refl
onto_last (y ∷ xs) x acc = onto_last xs x (y ∷ acc)

take_more : {A : Type 0} (xs : List A) (i : ℕ) (x : A) → slice_get xs i ≡ Some x → take (i + 1) xs ≡ take i xs ++ x ∷ []
take_more [] i x e = absurd (let clash : None ≡ Some x = e in cc)
take_more (y ∷ xs) zero x e = let same : y ≡ x = cc in ap (λ z. z ∷ []) same
take_more (y ∷ xs) (suc i) x e = let one : suc i + 1 ≡ suc (i + 1) = omega arith in ap (λ j. take j (y ∷ xs)) one ∙ ap (λ z. y ∷ z) (take_more xs i x e)

drop_all : {A : Type 0} (xs : List A) (i : ℕ) → length xs ≤ i → drop i xs ≡ []
drop_all [] zero h = refl
drop_all [] (suc i) h = refl
drop_all (x ∷ xs) zero h = absurd (omega (arith, h))
drop_all (x ∷ xs) (suc i) h = drop_all xs i (omega (arith, h))

drop_some : {A : Type 0} (xs : List A) (i : ℕ) → i < length xs → (x : A) × (rest : List A) × (drop i xs ≡ x ∷ rest)
drop_some [] i h = absurd (omega (arith, h))
drop_some (x ∷ xs) zero h = (x, xs, refl)
drop_some (x ∷ xs) (suc i) h = drop_some xs i (omega (arith, h))

take_all : {A : Type 0} (xs : List A) (i : ℕ) → i ≡ length xs → take i xs ≡ xs
take_all [] zero h = refl
take_all [] (suc i) h = refl
take_all (x ∷ xs) zero h = absurd (omega (arith, h))
take_all (x ∷ xs) (suc i) h = ap (λ z. x ∷ z) (take_all xs i (omega (arith, h)))

row_behind : (cs : List held.Code) → code_row cs ≡ code_behind cs NoCode
row_behind [] = refl
row_behind (c ∷ cs) = ap (Then (code_of c)) (row_behind cs)

-- ---- arguments

module _ (texts : List (List ℕ)) (root : held_node.Node) (d : Declared) (k : BodyKind) (ls : Locals) (params : List CoreType) where
  abbrev fit_of : Node → List CoreType → Bool
  fit_of e ps = arguments_fit (declarations_at texts root) (body_view texts d k) e (row_view texts d ps) (scope_view texts d ls)

  one_fit : (next count : ℕ) (e more : Node) (j : Judged) (one : Bool) → Stands texts root d k ls (numbered next e) j → j.next ≡ next + count_nodes e
      → one ≡ argument_fits texts root d j.type_ (slice_get params count)
      → fit_of (numbered next (tree.Then e more)) (drop count params) ≡ (one && fit_of (numbered j.next more) (drop (count + 1) params))
  one_fit next count e more j one s n eo = by (slice_get params count) refl
    where
      by : (o : Option CoreType) → slice_get params count ≡ o
          → fit_of (numbered next (tree.Then e more)) (drop count params) ≡ (one && fit_of (numbered j.next more) (drop (count + 1) params))
      by None q =
          ap (fit_of (numbered next (tree.Then e more))) (not_there params count q)
          ∙ ap (λ b. b && fit_of (numbered j.next more) (drop (count + 1) params)) (sym (eo ∙ ap (argument_fits texts root d j.type_) q))
      by (Some t) q =
          ap (fit_of (numbered next (tree.Then e more))) (there params count t q)
          ∙ ap (λ z. head_fits (declarations_at texts root) z (type_view texts d t) && fit_of (numbered (next + count_nodes e) more)
          (drop (count + 1) params)) s.head
          ∙ ap (λ b. b && fit_of (numbered (next + count_nodes e) more) (drop (count + 1) params)) (sym (eo ∙ ap (argument_fits texts root d j.type_) q))
          ∙ ap (λ z. one && fit_of (numbered z more) (drop (count + 1) params)) (sym n)

  pub one_argument : (id : ℕ) (all : Node) (codes : List held.Code) (fitting : Bool) (next count : ℕ) (e more : Node) (j : Judged) (one : Bool)
      → Arguing texts root d k ls params id all codes fitting next count (tree.Then e more)
      → breach (declarations_at texts root) (body_view texts d k) (numbered next e) Fresh (scope_view texts d ls) ≡ None
      → Stands texts root d k ls (numbered next e) j → Puts d.tables k ls (code_of j.code) j.type_ → j.next ≡ next + count_nodes e
      → one ≡ argument_fits texts root d j.type_ (slice_get params count)
      → (one ≡ true → (t : CoreType) × (slice_get params count ≡ Some t) × Sub d.tables j.type_ t)
      → Arguing texts root d k ls params id all (codes ++ j.code ∷ []) (fitting && one) j.next (count + 1) more
  one_argument id all codes fitting next count e more j one r kb s l n eo sub =
      let ds : Node = declarations_at texts root in record {
        from = let f = r.from in omega (arith, f, n);
        count_is = let rc = r.count_is in omega (arith, rc, n);
        broken = r.broken
            ∙ ap (λ z. z or breach ds (body_view texts d k) (numbered (next + count_nodes e) more) Fresh (whole texts root d k ls (numbered next e)).scope) kb
            ∙ ap (λ z. breach ds (body_view texts d k) (numbered (next + count_nodes e) more) Fresh z) s.scope
            ∙ ap (λ z. breach ds (body_view texts d k) (numbered z more) Fresh (scope_view texts d ls)) (sym n);
        stands = r.stands
            ∙ ap (λ z. behind_all texts d codes (in_front z
            (resolved ds (body_view texts d k).owner (numbered (next + count_nodes e) more) Fresh (whole texts root d k ls (numbered next e)).scope)))
            (sym s.does)
            ∙ ap (λ z. behind_all texts d codes (in_front (code_view texts d j.code)
            (resolved ds (body_view texts d k).owner (numbered (next + count_nodes e) more) Fresh z))) s.scope
            ∙ ap (λ z. behind_all texts d codes (in_front (code_view texts d j.code) (meant texts root d k ls (numbered z more) Fresh))) (sym n)
            ∙ sym (behind_more texts d codes j.code (meant texts root d k ls (numbered j.next more) Fresh));
        fit = r.fit ∙ ap (λ b. fitting && b) (one_fit next count e more j one s n eo)
            ∙ and_and fitting one (fit_of (numbered j.next more) (drop (count + 1) params));
        within = λ f.
            let t = sub (both fitting one f).1 in
            let w = slice_get_within params count t.0 t.1 in
            omega (arith, w);
        length_is = let a = r.length_is in let b = ap (λ z. length_of (numbered z more)) n in omega (arith, a, b);
        typed = λ f.
            let fs = both fitting one f in
            let t = sub fs.1 in
            let old = r.typed fs.0 in
            let size = old.1 in (
              j.type_ ∷ old.0,
              omega (arith, size),
              subst (Subs d.tables (j.type_ ∷ old.0)) (sym (ap (λ z. onto z []) (take_more params count t.0 t.1) ∙ onto_last (take count params) t.0 []))
                  (t.2, old.2),
              λ o x sees c y g. subst (λ z. Fits (known d.tables ls.declared o k.result) k.in_loop z x y) (sym (code_more codes j.code c))
                  (old.3 o x sees (Then (code_of j.code) c) y (j.type_ ∷ (old.0 ++ x), l o (old.0 ++ x) sees, g)),
            );
      }

  -- at the end there are as many arguments as parameters
  ends : (i next : ℕ) → i ≤ length params → (i == length params) ≡ fit_of (numbered next tree.Nothing) (drop i params)
  ends i next le = by (i == length params) refl
    where
      by : (b : Bool) → (i == length params) ≡ b → b ≡ fit_of (numbered next tree.Nothing) (drop i params)
      by true q = let e = eqb-true i (length params) q in sym (ap (fit_of (numbered next tree.Nothing)) (drop_all params i (omega (arith, e))))
      by false q =
          let differ : i ≢ length params = λ e. (let clash : false ≡ true = sym q ∙ eq-eqb i (length params) e in cc) in
          let some = drop_some params i (omega (arith, differ, le)) in
          sym (ap (fit_of (numbered next tree.Nothing)) some.2)

  pub arguing_ends : (id : ℕ) (all : Node) (codes : List held.Code) (fitting : Bool) (next count : ℕ) (j : Argued)
      → Arguing texts root d k ls params id all codes fitting next count tree.Nothing → code_of j.code ≡ code_row codes
      → j.fits ≡ (fitting && (count == length params)) → j.count ≡ length params
      → (breach (declarations_at texts root) (body_view texts d k) (numbered id all) Fresh (scope_view texts d ls) ≡ None)
      × Argues texts root d k ls params (numbered id all) j
  arguing_ends id all codes fitting next count j r ec ef en = (
    r.broken,
    record {
      does = ap (named_code (naming texts d) d.tables) (ec ∙ row_behind codes)
          ∙ behind_does texts d codes NoCode (meant texts root d k ls (numbered next tree.Nothing) Fresh) refl ∙ sym (ap (λ z. z.does) r.stands);
      scope = ap (λ z. z.scope) r.stands ∙ behind_scope texts d codes (meant texts root d k ls (numbered next tree.Nothing) Fresh);
      fits = ef ∙ by fitting refl ∙ sym r.fit;
      count = λ f.
          let e = eqb-true count (length params) (both fitting (count == length params) (sym ef ∙ f)).1 in
          let a = r.length_is in
          omega (arith, e, a, en);
    },
  )
    where
      by : (b : Bool) → fitting ≡ b → (b && (count == length params)) ≡ (b && fit_of (numbered next tree.Nothing) (drop count params))
      by true q = ends count next (r.within q)
      by false q = refl

  pub arguing_puts : (id : ℕ) (all : Node) (codes : List held.Code) (fitting : Bool) (next count : ℕ) (j : Argued)
      → Arguing texts root d k ls params id all codes fitting next count tree.Nothing → code_of j.code ≡ code_row codes
      → j.fits ≡ (fitting && (count == length params)) → j.count ≡ length params → j.fits ≡ true → PutsFor d.tables k ls params j
  arguing_puts id all codes fitting next count j r ec ef en f o x sees =
      let fs = both fitting (count == length params) (sym ef ∙ f) in
      let e = eqb-true count (length params) fs.1 in
      let t = r.typed fs.0 in
      let size = t.1 in (
        t.0,
        omega (arith, size, e, en),
        subst (λ z. Subs d.tables t.0 (onto z [])) (take_all params count e) t.2,
        subst (λ z. Fits (known d.tables ls.declared o k.result) k.in_loop z x (t.0 ++ x)) (sym (ec ∙ row_behind codes)) (t.3 o x sees NoCode (t.0 ++ x) refl),
      )
