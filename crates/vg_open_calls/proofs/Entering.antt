-- What is known of a call that enters a procedure.
use Rattle.std.specs.Prelude.{ℕ, ◌==◌, ◌&&◌, Bool, true, false, List, [], ◌∷◌, ◌++◌, length, map, take, drop, reverse, Option, Some, None, slice_get}
use Rattle.std.specs.Prelude.{if◌then◌else◌}
use Rattle.std.proofs.Common.{◌≡◌, refl, sym, ap, ◌∙◌, subst, arith}
use Rattle.std.proofs.lemmas.List.{map-append, reverse-append, take-map}
use Rattle.std.proofs.lemmas.Option.{same_Some, none-some}
use Rattle.vg_codes.specs.Codes.{code_in}
use Rattle.vg_lin.specs.declared.instr.Callee.{Callee}
use Rattle.vg_lin.specs.declared.instr.Callee.TheVariants.{Procedure as ByNumber, Code as ByCode}
use Rattle.vg_lin.specs.declared.instr.Passed.{Passed}
use Rattle.vg_lin.specs.declared.instr.Call.{Call as Calling}
use Rattle.vg_lin.specs.Meaning.{operands, with_value, values, values_of, begun, same_widths, with_code, called, gives_to, entry_with, entry_of, entry_at, enter}
use Rattle.vg_lin.specs.Program.{Procedure, Program}
use Rattle.vg_lin.specs.State.{Waiting, State, value}
use Rattle.vg_lin.specs.Steps.{Entry}
use Rattle.vg_open_calls.specs.Open.{waiting_widths, IsAim, argument_widths}

-- What a call enters: the procedure that it names, with nothing that waits; what was pushed for it waits no more. The arguments are as many as the
-- parameters, and as wide.
pub record Entered (p : Program) (call : Calling) (s : State) (e : Entry State) : Type 0 where
  pub procedure : Procedure
  pub there : slice_get p.procedures e.proc ≡ Some procedure
  pub empty : e.state.waiting ≡ []
  pub kept : e.kept.waiting ≡ drop call.pushed s.waiting
  pub aim : IsAim p call.callee e.proc
  pub others : List Waiting
  pub registers : values (operands call.registers) s ≡ Some others
  pub many : length (reverse (take call.pushed s.waiting) ++ others) ≡ procedure.params
  pub wide : same_widths procedure.widths (reverse (take call.pushed s.waiting) ++ others) ≡ true

both : (a b : Bool) → (a && b) ≡ true → (a ≡ true) × (b ≡ true)
both true true h = (refl, refl)
both true false h = absurd (grind arith)
both false b h = absurd (grind arith)

same_number : (x y : ℕ) → (x == y) ≡ true → x ≡ y
same_number x y h = grind arith

-- ---- the widths of arguments

-- what is passed has the widths of the first parameters
same_taken : (ws : List ℕ) (xs : List Waiting) → same_widths ws xs ≡ true → take (length xs) ws ≡ waiting_widths xs
same_taken ws [] h = refl
same_taken [] (x ∷ xs) h = absurd (let clash : false ≡ true = h in cc)
same_taken (w ∷ ws) (x ∷ xs) h =
    let b = both (w == x.width) (same_widths ws xs) h in
    ap (λ z. z ∷ take (length xs) ws) (same_number w x.width b.0) ∙ ap (λ zs. x.width ∷ zs) (same_taken ws xs b.1)

reversed_widths : (xs : List Waiting) → waiting_widths (reverse xs) ≡ reverse (waiting_widths xs)
reversed_widths [] = refl
reversed_widths (x ∷ xs) =
    let split : reverse (x ∷ xs) ≡ reverse xs ++ (x ∷ []) = reverse-append (x ∷ []) xs in
    ap waiting_widths split ∙ map-append (λ (z : Waiting). z.width) (reverse xs) (x ∷ [])
    ∙ ap (λ zs. zs ++ (x.width ∷ [])) (reversed_widths xs) ∙ sym (reverse-append (x.width ∷ []) (waiting_widths xs))

abbrev widths_passed : List Passed → List ℕ
widths_passed as' = map (λ (a : Passed). a.width) as'

one_more : (a : Passed) (more : List Passed) (xs : List Waiting) (v : Option ℕ) (o : Option (List Waiting))
    → ((ys : List Waiting) → o ≡ Some ys → waiting_widths ys ≡ widths_passed more) → with_value a.width v o ≡ Some xs
    → waiting_widths xs ≡ widths_passed (a ∷ more)
one_more a more xs None None rest h = absurd (none-some xs h)
one_more a more xs None (Some ys) rest h = absurd (none-some xs h)
one_more a more xs (Some v) None rest h = absurd (none-some xs h)
one_more a more xs (Some v) (Some ys) rest h = sym (ap waiting_widths (same_Some _ xs h)) ∙ ap (λ zs. a.width ∷ zs) (rest ys refl)

passed_widths : (as' : List Passed) (s : State) (xs : List Waiting) → values as' s ≡ Some xs → waiting_widths xs ≡ widths_passed as'
passed_widths [] s xs e = ap waiting_widths (sym (same_Some [] xs e))
passed_widths (a ∷ more) s xs e = one_more a more xs (value a.value s) (values more s) (λ ys h. passed_widths more s ys h) e

pub entered_widths : (p : Program) (call : Calling) (s : State) (e : Entry State) (x : Entered p call s e)
    → take x.procedure.params x.procedure.widths ≡ argument_widths (waiting_widths s.waiting) call
entered_widths p call s e x =
    let front = reverse (take call.pushed s.waiting) in
    ap (λ n. take n x.procedure.widths) (sym x.many) ∙ same_taken x.procedure.widths (front ++ x.others) x.wide
    ∙ map-append (λ (z : Waiting). z.width) front x.others
    ∙ ap (λ zs. zs ++ waiting_widths x.others) (reversed_widths (take call.pushed s.waiting)
    ∙ ap reverse (sym (take-map (λ (z : Waiting). z.width) call.pushed s.waiting)))
    ∙ ap (λ zs. reverse (take call.pushed (waiting_widths s.waiting)) ++ zs) (passed_widths (operands call.registers) s x.others x.registers)

-- ---- entries

module _ (p : Program) (call : Calling) (s : State) (e : Entry State) where
  abbrev left : State
  left = record s { waiting = drop call.pushed s.waiting }

  abbrev pushed : List Waiting
  pushed = reverse (take call.pushed s.waiting)

  module _ (q : ℕ) (m : Procedure) (there : slice_get p.procedures q ≡ Some m) (aim : IsAim p call.callee q) where
    abbrev entry : List Waiting → Entry State
    entry xs = record { proc = q; state = record { locals = begun m.widths (values_of xs); waiting = []; ram = left.ram }; kept = left }

    by_entry : (xs : List Waiting) → values (operands call.registers) s ≡ Some xs → length (pushed ++ xs) ≡ m.params
        → same_widths m.widths (pushed ++ xs) ≡ true → entry (pushed ++ xs) ≡ e → Entered p call s e
    by_entry xs registers many wide same = subst (Entered p call s) same (record {
      procedure = m;
      there = there;
      empty = refl;
      kept = refl;
      aim = aim;
      others = xs;
      registers = registers;
      many = many;
      wide = wide;
    })

    by_test : (b : Bool) (xs : List Waiting) → values (operands call.registers) s ≡ Some xs
        → ((length (pushed ++ xs) == m.params) && same_widths m.widths (pushed ++ xs) && gives_to m.result call.to) ≡ b
        → (if b then Some (entry (pushed ++ xs)) else None) ≡ Some e → Entered p call s e
    by_test false xs registers test is = absurd (none-some e is)
    by_test true xs registers test is =
        let outer = both ((length (pushed ++ xs) == m.params) && same_widths m.widths (pushed ++ xs)) (gives_to m.result call.to) test in
        let inner = both (length (pushed ++ xs) == m.params) (same_widths m.widths (pushed ++ xs)) outer.0 in
        by_entry xs registers (same_number (length (pushed ++ xs)) m.params inner.0) inner.1 (same_Some (entry (pushed ++ xs)) e is)

    by_registers : (o : Option (List Waiting)) → values (operands call.registers) s ≡ o → entry_with q m call.to pushed left o ≡ Some e → Entered p call s e
    by_registers None registers is = absurd (none-some e is)
    by_registers (Some xs) registers is = by_test _ xs registers refl is

    by_pushed : (b : Bool) → (if b then entry_with q m call.to pushed left (values (operands call.registers) s) else None) ≡ Some e → Entered p call s e
    by_pushed false is = absurd (none-some e is)
    by_pushed true is = by_registers (values (operands call.registers) s) refl is

  by_procedure : (q : ℕ) (o : Option Procedure) → slice_get p.procedures q ≡ o → IsAim p call.callee q → entry_of q o call s ≡ Some e → Entered p call s e
  by_procedure q None there aim is = absurd (none-some e is)
  by_procedure q (Some m) there aim is = by_pushed q m there aim (length (take call.pushed s.waiting) == call.pushed) is

  by_called : (o : Option ℕ) → ((q : ℕ) → o ≡ Some q → IsAim p call.callee q) → entry_at p o call s ≡ Some e → Entered p call s e
  by_called None aims is = absurd (none-some e is)
  by_called (Some q) aims is = by_procedure q (slice_get p.procedures q) refl (aims q refl) is

  coded : (v : Option ℕ) (q : ℕ) → with_code p v ≡ Some q → (code : ℕ) × (p.codes.at_code code ≡ Some q)
  coded None q e1 = absurd (none-some q e1)
  coded (Some v) q e1 = (code_in v, e1)

  aims_of : (callee : Callee) (q : ℕ) → called p callee s ≡ Some q → IsAim p callee q
  aims_of (ByNumber r) q e1 = same_Some r q e1
  aims_of (ByCode a) q e1 = coded (value a s) q e1

  pub entered : enter p call s ≡ Some e → Entered p call s e
  entered is = by_called (called p call.callee s) (aims_of call.callee) is
