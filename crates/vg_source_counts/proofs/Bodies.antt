-- The code of bodies that break no rule takes and leaves its values in order.
use Rattle.std.proofs.Common.{◌≡◌, ◌≤◌, ℕ, suc, length, ◌+◌, Bool, true, false, Option, Some, None, is_some, ◌&&◌, refl, sym, subst, arith}
use Rattle.vg_syntax.specs.Tree.{Spot, Node}
use Rattle.vg_syntax.specs.Tree as tree
use Rattle.vg_syntax.specs.Numbering.{count_nodes}
use Rattle.vg_meaning.specs.Code as code
use Rattle.vg_code_counts.specs.Counted.{Counted}
use Rattle.vg_source.specs.Types.{StaticType, BoolType, CharType, NullType, ClassType, ArrayType, NoType}
use Rattle.vg_source.specs.Values.{Truth, Char, Null, default}
use Rattle.vg_source.specs.Literals.{number_value, number_type, char_of}
use Rattle.vg_source.specs.Nodes.{literal_nodes, place_in}
use Rattle.vg_source.specs.Steps.{Step}
use Rattle.vg_source.specs.Steps as step
use Rattle.vg_source.specs.Declared.{written_type, length_of}
use Rattle.vg_source.specs.Resolved.{Scope, Head, IsValue, OwnMethod, Context, Fresh, Onto, Otherwise, Resolved, settled, resolved, or_default, then_onto}
use Rattle.vg_source.specs.Resolved.{store_to}
use Rattle.vg_rules.specs.Breach.{Breach, asks, ◌or◌}
use Rattle.vg_rules.specs.Written.{type_keeps}
use Rattle.vg_rules.specs.Bodies.{Body, looped, head, breach, primary_breach, is_bool, is_there, name_keeps, has_this, index_keeps, call_keeps}
use Rattle.vg_rules.specs.Bodies.{assignment_keeps}
use Rattle.vg_rules.specs.Operands.{operands_keep, type_part_keeps}
use Rattle.vg_source_counts.specs.Measures.{source_measures}
use Rattle.vg_source_counts.specs.Forms.{Form, Statements, Arms, Expression, Arguments, Suffixes, Parts, WhereWritten, HasForm}
use Rattle.vg_source_counts.proofs.Moves.{Moves, Quiet, waits, valued_whole, Aimed, Good, Whole, Valued, Still, value_moves}
use Rattle.vg_source_counts.proofs.Moves.{good_front, whole_wider, settles, still_settled, still_wider, nothing_moves, step_moves, then_moves}
use Rattle.vg_source_counts.proofs.Moves.{raised, roomier, quieter, quiet_then, quiet_value, quiet_return, quiet_if, quiet_loop}
use Rattle.vg_source_counts.proofs.Pieces.{false_true, put_value, name_good, name_whole, this_whole, member_whole, index_whole, made_whole, call_whole}
use Rattle.vg_source_counts.proofs.Pieces.{prefixes_whole, part_whole, type_whole}

pub kept : (x y : Option Breach) → (x or y) ≡ None → (x ≡ None) × (y ≡ None)
kept None y e = (refl, e)
kept (Some b) y e = absurd (let clash : Some b ≡ None = e in cc)

pub asked : (b : Bool) (rule : ℕ) (at : Spot) → asks b rule at ≡ None → b ≡ true
asked true rule at e = refl
asked false rule at e = absurd (some_none (record { rule = rule; node = at.id }) e)
  where
    some_none : (x : Breach) → Some x ≡ None → ⊥
    some_none x q = cc

-- an expression has a node
some : (a : Node) → HasForm Expression a → 1 ≤ count_nodes a
some (tree.Number at digits) h = omega arith
some (tree.CharLit at spelled) h = omega arith
some (tree.StringLit at spelled) h = omega arith
some (tree.True at) h = omega arith
some (tree.False at) h = omega arith
some (tree.Null at) h = omega arith
some (tree.This at) h = omega arith
some (tree.Name at x) h = omega arith
some (tree.NewObject at c args) h = omega arith
some (tree.NewArray at t e) h = omega arith
some (tree.Unary at operators e) h = omega arith
some (tree.Chain at first parts) h = omega arith
some (tree.Postfix at primary suffixes) h = omega arith
some _ h = absurd h

large : (a : Node) → HasForm Expression a → 3 ≤ count_nodes a + 2
large a h = let s = some a h in omega (arith, s)

suffix : (a : Node) → HasForm Suffixes a → 1 ≤ count_nodes a
suffix (tree.Then a rest) (f, g) = let s = suffix a f in omega (arith, s)
suffix (tree.Member at x) h = omega arith
suffix (tree.Index at e) h = omega arith
suffix (tree.Call at args) h = omega arith
suffix _ h = absurd h

of_part : (a : Node) → HasForm Parts a → 1 ≤ count_nodes a
of_part (tree.Then a rest) (f, g) = let s = of_part a f in omega (arith, s)
of_part (tree.Part at op e) h = omega arith
of_part (tree.TypePart at op t) h = omega arith
of_part _ h = absurd h

where_written : (a : Node) (P Q : Type 0) → (P → Q) → WhereWritten a P → WhereWritten a Q
where_written tree.Nothing P Q f p = tt
where_written _ P Q f p = f p

waits_few : (h : Head) → waits h ≤ 1
waits_few (IsValue t) = omega arith
waits_few (OwnMethod at c x ps r) = omega arith
waits_few _ = omega arith

-- how a node is looked at: its form, with the context in which it is resolved
data Way : Type 0 where
  AsStatements : Way
  AsArms : (last : Scope → Resolved) → Way
  AsExpression : Way
  AsArguments : Way
  AsSuffixes : (h : Head) → Way
  AsParts : (h : Head) → Way

abbrev form_of : Way → Form
form_of AsStatements = Statements
form_of (AsArms last) = Arms
form_of AsExpression = Expression
form_of AsArguments = Arguments
form_of (AsSuffixes h) = Suffixes
form_of (AsParts h) = Parts

-- the context in which a breach is looked for
abbrev plain : Way → Context
plain (AsSuffixes h) = Onto h
plain (AsParts h) = Onto h
plain _ = Fresh

-- a row of arguments leaves as many values
record Several (n count : ℕ) (m : Resolved) : Type 0 where
  few : count + 2 ≤ n
  does : Moves n m.does 0 count

-- a suffix or part, and then the others of its row
onto : (rest : Node) (m : Resolved) (go : Head → Resolved) (p n l i : ℕ) → n ≤ p → waits m.head + l ≤ i + p → Whole n i m
    → (WhereWritten rest (Whole l (waits m.head) (go m.head))) → Whole p i (then_onto rest m go)
onto tree.Nothing m go p n l i o q w f = whole_wider n p i m o w
onto _ m go p n l i o q w f =
    record { good = good_front p n l i (waits m.head) m.does (go m.head) o q w.good.does f.good; whole = f.whole }

-- the value that is written, or the default
optional : (t : StaticType) (e : Node) (m : Resolved) (n : ℕ) → 2 ≤ n → WhereWritten e (Valued n 0 m) → (e ≡ tree.Nothing → m.does ≡ code.Nothing)
    → Moves n (or_default t e m).does 0 1
optional t tree.Nothing m n l f none =
    subst (λ c. Moves n (code.Then (code.Do (step.Put (default t))) c) 0 1) (sym (none refl))
    (then_moves n n 1 (code.Do (step.Put (default t))) code.Nothing 0 1 1 (omega arith) (omega (arith, l))
    (step_moves n (step.Put (default t)) 0 1 0 refl refl refl l) (nothing_moves 1 1))
optional t _ m n l f none = value_moves n 0 m f

-- a place has a store
stored : (o : Option Step) (b : Bool) → (is_some o && b) ≡ true → (s : Step) × (o ≡ Some s)
stored (Some s) b e = (s, refl)
stored None b e = absurd (false_true e)

quiet_assigned : (looped : Bool) (n m p : ℕ) (aims v : code.Code Step) (o : Option Step) (s : Step) → o ≡ Some s → n ≤ p → (2 + m ≤ p) → 5 ≤ p
    → Aimed n 0 aims s → Moves m v 0 1 → Quiet looped p (code.Then aims (code.Then v (code.Do (store_to o))))
quiet_assigned looped n m p aims v o s e l j five a f =
    subst (λ z. Quiet looped p (code.Then aims (code.Then v (code.Do (store_to z))))) (sym e) now
  where
    now : Quiet looped p (code.Then aims (code.Then v (code.Do s)))
    now most r =
        let few = a.few in
        let taken = a.taken in
        let left = a.left in (
          a.behind,
          a.moves most 0 0 0 a.behind looped refl (omega arith) (omega (arith, l, r)),
          (
            suc a.behind,
            f most 0 a.behind a.behind (suc a.behind) looped (omega arith) (omega arith) (omega (arith, j, r, few)),
            record {
              rest = 0;
              before = omega (arith, taken);
              behind = omega (arith, left);
              room = omega (arith, five, r, few);
              alone = λ h. let none = a.alone h in omega (arith, none);
            },
          ),
        )

module _ (ds : Node) where
  abbrev Goal : Way → Node → Body → Scope → Type 0
  Goal AsStatements a k ls = Still k.in_loop (count_nodes a + 2) (resolved ds k.owner a Fresh ls)
  Goal (AsArms last) a k ls =
      (n : ℕ) → count_nodes a + 2 ≤ n → Still k.in_loop n (last (resolved ds k.owner a Fresh ls).scope)
      → Still k.in_loop n (resolved ds k.owner a (Otherwise last) ls)
  Goal AsExpression a k ls = Whole (count_nodes a + 2) 0 (resolved ds k.owner a Fresh ls)
  Goal AsArguments a k ls = Several (count_nodes a + 2) (length_of a) (resolved ds k.owner a Fresh ls)
  Goal (AsSuffixes h) a k ls = Whole (count_nodes a + 2) (waits h) (resolved ds k.owner a (Onto h) ls)
  Goal (AsParts h) a k ls = Whole (count_nodes a + 2) (waits h) (resolved ds k.owner a (Onto h) ls)

  value : (a : Node) (k : Body) (ls : Scope) → HasForm Expression a → Goal AsExpression a k ls
      → Valued (count_nodes a + 2) 0 (settled (resolved ds k.owner a Fresh ls))
  value a k ls h w = settles (count_nodes a + 2) 0 (resolved ds k.owner a Fresh ls) (large a h) w

  -- the value that a local begins with, or that is returned
  begins : (t : StaticType) (a : Node) (k : Body) (ls : Scope) → WhereWritten a (HasForm Expression a) → (HasForm Expression a → Goal AsExpression a k ls)
      → Moves (count_nodes a + 2) (or_default t a (settled (resolved ds k.owner a Fresh ls))).does 0 1
  begins t a k ls h f =
      optional t a (settled (resolved ds k.owner a Fresh ls)) (count_nodes a + 2) (omega arith)
      (where_written a (HasForm Expression a) (Valued (count_nodes a + 2) 0 (settled (resolved ds k.owner a Fresh ls))) (λ g. value a k ls g (f g)) h)
      (λ e. subst (λ z. (settled (resolved ds k.owner z Fresh ls)).does ≡ code.Nothing) (sym e) refl)

  -- a condition, which is written where it is a truth value
  condition : (c : Node) (k : Body) (ls : Scope) → is_bool (head ds k c ls) ≡ true → WhereWritten c (HasForm Expression c)
      → (HasForm Expression c → Goal AsExpression c k ls) → Moves (count_nodes c + 2) (settled (resolved ds k.owner c Fresh ls)).does 0 1
  condition tree.Nothing k ls e h f = absurd (false_true e)
  condition c k ls e h f = value_moves (count_nodes c + 2) 0 (settled (resolved ds k.owner c Fresh ls)) (value c k ls h (f h))

  primary : (k : Body) (a suffixes : Node) (ls : Scope) → (breach ds k a Fresh ls ≡ None → Good (count_nodes a + 2) 0 (resolved ds k.owner a Fresh ls))
      → primary_breach ds k.owner ls a suffixes (breach ds k a Fresh ls) ≡ None → Good (count_nodes a + 2) 0 (resolved ds k.owner a Fresh ls)
  primary k (tree.Name at x) suffixes ls again q = name_good ds k.owner at.id x ls
  primary k _ suffixes ls again q = again q

  good : (a : Node) (w : Way) (k : Body) (ls : Scope) → breach ds k a (plain w) ls ≡ None → HasForm (form_of w) a → Goal w a k ls
  -- statements
  good tree.Nothing AsStatements k ls e h = record { quiet = λ most r. refl; head = refl }
  good (tree.Then a rest) AsStatements k ls e (f, g) =
      let n = count_nodes (tree.Then a rest) + 2 in
      let m = resolved ds k.owner a Fresh ls in
      let q = kept (breach ds k a Fresh ls) _ e in
      let x = still_settled k.in_loop (count_nodes a + 2) m (good a AsStatements k ls q.0 f) in
      let y = good rest AsStatements k (settled m).scope q.1 g in
      let one = (settled m).does in
      let others = (resolved ds k.owner rest Fresh (settled m).scope).does in
      record {
        quiet =
            quiet_then k.in_loop n one others (quieter k.in_loop (count_nodes a + 2) n one (omega arith) x.quiet)
            (quieter k.in_loop (count_nodes rest + 2) n others (omega arith) y.quiet);
        head = y.head;
      }
  good (tree.Block at body) AsStatements k ls e h =
      let x = good body AsStatements k ls e h in
      let inner = (resolved ds k.owner body Fresh ls).does in
      record {
        quiet = quieter k.in_loop (count_nodes body + 2) (count_nodes (tree.Block at body) + 2) inner (omega arith) x.quiet;
        head = refl;
      }
  good (tree.Local at x t v) AsStatements k ls e h =
      let n = count_nodes (tree.Local at x t v) + 2 in
      let c = (or_default (written_type t) v (settled (resolved ds k.owner v Fresh ls))).does in
      let q = kept (breach ds k v Fresh ls) _ e in
      record {
        quiet =
            quiet_value k.in_loop n c (step.SetLocal (length ls.declared)) refl refl (omega arith)
            (roomier (count_nodes v + 2) n c 0 1 (omega arith) (begins (written_type t) v k ls h (λ f. good v AsExpression k ls q.0 f)));
        head = refl;
      }
  good (tree.If at arms otherwise) AsStatements k ls e (f, g) =
      let n = count_nodes (tree.If at arms otherwise) + 2 in
      let q = kept (breach ds k arms Fresh ls) _ e in
      let r = kept (breach ds k otherwise Fresh (resolved ds k.owner arms Fresh ls).scope) _ q.1 in
      let x = good otherwise AsStatements k (resolved ds k.owner arms Fresh ls).scope r.0 g in
      good arms (AsArms (resolved ds k.owner otherwise Fresh)) k ls q.0 f n (omega arith)
      (still_wider k.in_loop (count_nodes otherwise + 2) n _ (omega arith) x)
  good (tree.While at c body) AsStatements k ls e (f, g) =
      let n = count_nodes (tree.While at c body) + 2 in
      let q = kept (breach ds k c Fresh ls) _ e in
      let r = kept (breach ds (looped k) body Fresh ls) _ q.1 in
      let x = value c k ls f (good c AsExpression k ls q.0 f) in
      let y = good body AsStatements (looped k) ls r.0 g in
      let m = settled (resolved ds k.owner c Fresh ls) in
      let inner = (resolved ds k.owner body Fresh ls).does in
      record {
        quiet =
            quiet_loop k.in_loop n m.does inner code.Nothing
            (roomier (count_nodes c + 2) n m.does 0 1 (omega arith) (value_moves (count_nodes c + 2) 0 m x))
            (quieter true (count_nodes body + 2) n inner (omega arith) y.quiet) (λ most l. refl);
        head = refl;
      }
  good (tree.For at first c next body) AsStatements k ls e (f, g, h, i) =
      let n = count_nodes (tree.For at first c next body) + 2 in
      let q = kept (breach ds k first Fresh ls) _ e in
      let r = kept (breach ds k c Fresh ls) _ q.1 in
      let s = kept (breach ds k next Fresh ls) _ r.1 in
      let t = kept (breach ds (looped k) body Fresh ls) _ s.1 in
      let x = good first AsStatements k ls q.0 f in
      let y = condition c k ls (asked (is_bool (head ds k c ls)) 22 at t.1) g (λ z. good c AsExpression k ls r.0 z) in
      let z = good next AsStatements k ls s.0 h in
      let b = good body AsStatements (looped k) ls t.0 i in
      let before = (resolved ds k.owner first Fresh ls).does in
      let test = (settled (resolved ds k.owner c Fresh ls)).does in
      let inner = (resolved ds k.owner body Fresh ls).does in
      let after = (resolved ds k.owner next Fresh ls).does in
      record {
        quiet =
            quiet_then k.in_loop n before (code.Loop test inner after) (quieter k.in_loop (count_nodes first + 2) n before (omega arith) x.quiet)
            (quiet_loop k.in_loop n test inner after (roomier (count_nodes c + 2) n test 0 1 (omega arith) y)
            (quieter true (count_nodes body + 2) n inner (omega arith) b.quiet)
            (quieter k.in_loop (count_nodes next + 2) n after (omega arith) z.quiet));
        head = refl;
      }
  good (tree.Return at v) AsStatements k ls e h =
      let n = count_nodes (tree.Return at v) + 2 in
      let c = (or_default NoType v (settled (resolved ds k.owner v Fresh ls))).does in
      let q = kept (breach ds k v Fresh ls) _ e in
      record {
        quiet =
            quiet_return k.in_loop n c
            (roomier (count_nodes v + 2) n c 0 1 (omega arith) (begins NoType v k ls h (λ f. good v AsExpression k ls q.0 f)));
        head = refl;
      }
  good (tree.Break at) AsStatements k ls e h = record { quiet = λ most l. (asked k.in_loop 24 at e, refl, refl); head = refl }
  good (tree.Continue at) AsStatements k ls e h = record { quiet = λ most l. (asked k.in_loop 24 at e, refl, refl); head = refl }
  good (tree.Assign at target v) AsStatements k ls e (f, g) =
      let n = count_nodes (tree.Assign at target v) + 2 in
      let m = resolved ds k.owner target Fresh ls in
      let d = settled (resolved ds k.owner v Fresh ls) in
      let q = kept (breach ds k target Fresh ls) _ e in
      let r = kept (breach ds k v Fresh ls) _ q.1 in
      let o = stored m.store _ (asked (assignment_keeps ds k target v ls) 21 at r.1) in
      let x = good target AsExpression k ls q.0 f in
      let y = value v k ls g (good v AsExpression k ls r.0 g) in
      let i = some target f in
      let j = some v g in
      record {
        quiet =
            quiet_assigned k.in_loop (count_nodes target + 2) (count_nodes v + 2) n m.aims d.does m.store o.0 o.1 (omega arith) (omega (arith, i))
            (omega (arith, i, j)) (x.good.aims o.0 o.1) (value_moves (count_nodes v + 2) 0 d y);
        head = refl;
      }
  good (tree.Eval at v) AsStatements k ls e h =
      let n = count_nodes (tree.Eval at v) + 2 in
      let m = settled (resolved ds k.owner v Fresh ls) in
      let x = value v k ls h (good v AsExpression k ls e h) in
      record {
        quiet =
            quiet_value k.in_loop n m.does step.Forget refl refl (omega arith)
            (roomier (count_nodes v + 2) n m.does 0 1 (omega arith) (value_moves (count_nodes v + 2) 0 m x));
        head = refl;
      }
  good tree.Nothing (AsArms last) k ls e h = λ n l s. s
  good (tree.Arm c block rest) (AsArms last) k ls e (f, g, h) =
      let q = kept (breach ds k c Fresh ls) _ e in
      let r = kept (breach ds k block Fresh ls) _ q.1 in
      let x = value c k ls f (good c AsExpression k ls q.0 f) in
      let y = good block AsStatements k ls r.0 g in
      let m = settled (resolved ds k.owner c Fresh ls) in
      let b = resolved ds k.owner block Fresh ls in
      let others = resolved ds k.owner rest (Otherwise last) b.scope in
      let z = good rest (AsArms last) k b.scope r.1 h in
      λ n l s.
      record {
        quiet =
            quiet_if k.in_loop n m.does b.does others.does (omega (arith, l))
            (roomier (count_nodes c + 2) n m.does 0 1 (omega (arith, l)) (value_moves (count_nodes c + 2) 0 m x))
            (quieter k.in_loop (count_nodes block + 2) n b.does (omega (arith, l)) y.quiet) (z n (omega (arith, l)) s).quiet;
        head = refl;
      }
  -- expressions
  good (tree.Number at digits) AsExpression k ls e h = put_value 3 (step.Put (number_value digits)) (number_type digits) ls (omega arith) refl refl refl
  good (tree.CharLit at spelled) AsExpression k ls e h = put_value 3 (step.Put (Char (char_of spelled))) CharType ls (omega arith) refl refl refl
  good (tree.StringLit at spelled) AsExpression k ls e h =
      put_value 3 (step.Literal (place_in (literal_nodes ds) at.id)) (ArrayType CharType) ls (omega arith) refl refl refl
  good (tree.True at) AsExpression k ls e h = put_value 3 (step.Put (Truth true)) BoolType ls (omega arith) refl refl refl
  good (tree.False at) AsExpression k ls e h = put_value 3 (step.Put (Truth false)) BoolType ls (omega arith) refl refl refl
  good (tree.Null at) AsExpression k ls e h = put_value 3 (step.Put Null) NullType ls (omega arith) refl refl refl
  good (tree.This at) AsExpression k ls e h = this_whole k.owner ls (asked (has_this k.owner) 15 at e)
  good (tree.Name at x) AsExpression k ls e h = name_whole ds k.owner at.id x ls (asked (name_keeps ds k.owner x ls) 14 at e)
  good (tree.NewObject at c args) AsExpression k ls e h =
      let q = kept (breach ds k args Fresh ls) _ e in
      let x = good args AsArguments k ls q.0 h in
      made_whole (count_nodes args + 2) (count_nodes (tree.NewObject at c args) + 2) (length_of args) (resolved ds k.owner args Fresh ls)
      (step.NewObject at.id c (length_of args)) (ClassType c)
      refl refl refl x.few (omega arith) x.does
  good (tree.NewArray at t v) AsExpression k ls e h =
      let m = settled (resolved ds k.owner v Fresh ls) in
      let q = kept (breach ds k v Fresh ls) _ e in
      let x = value v k ls h (good v AsExpression k ls q.0 h) in
      made_whole (count_nodes v + 2) (count_nodes (tree.NewArray at t v) + 2) 1 m (step.NewArray at.id (written_type t)) (ArrayType (written_type t))
      refl refl refl
      (large v h) (omega arith) (value_moves (count_nodes v + 2) 0 m x)
  good (tree.Unary at operators v) AsExpression k ls e h =
      let q = kept (breach ds k v Fresh ls) _ e in
      prefixes_whole (count_nodes v + 2) (count_nodes (tree.Unary at operators v) + 2) operators _ (omega arith) (omega arith)
      (value v k ls h (good v AsExpression k ls q.0 h))
  good (tree.Chain at first parts) AsExpression k ls e (f, g) =
      let m = settled (resolved ds k.owner first Fresh ls) in
      let q = kept (breach ds k first Fresh ls) _ e in
      let x = value first k ls f (good first AsExpression k ls q.0 f) in
      let y = good parts (AsParts m.head) k ls q.1 g in
      let i = waits_few m.head in
      let j = some first f in
      record {
        good =
            good_front (count_nodes (tree.Chain at first parts) + 2) (count_nodes first + 2) (count_nodes parts + 2) 0 (waits m.head) m.does _ (omega arith)
            (omega (arith, i)) x.good.does y.good;
        whole = y.whole;
      }
  good (tree.Postfix at a suffixes) AsExpression k ls e (f, g) =
      let m = resolved ds k.owner a Fresh ls in
      let q = kept (primary_breach ds k.owner ls a suffixes (breach ds k a Fresh ls)) _ e in
      let x = primary k a suffixes ls (λ z. (good a AsExpression k ls z f).good) q.0 in
      let y = good suffixes (AsSuffixes m.head) k ls q.1 g in
      let b = resolved ds k.owner suffixes (Onto m.head) ls in
      let l = whole_wider (count_nodes suffixes + 2) (count_nodes suffixes + 3) (waits m.head) b (omega arith) y in
      let v = settles (count_nodes suffixes + 3) (waits m.head) b (omega arith) l in
      let i = waits_few m.head in
      let j = some a f in
      record {
        good =
            good_front (count_nodes (tree.Postfix at a suffixes) + 2) (count_nodes a + 2) (count_nodes suffixes + 3) 0 (waits m.head) m.does _ (omega arith)
            (omega (arith, i, j)) x.does v.good;
        whole = valued_whole _ v.valued;
      }
  good tree.Nothing AsArguments k ls e h = record { few = omega arith; does = nothing_moves 2 0 }
  good (tree.Then a rest) AsArguments k ls e (f, g) =
      let m = resolved ds k.owner a Fresh ls in
      let q = kept (breach ds k a Fresh ls) _ e in
      let x = value a k ls f (good a AsExpression k ls q.0 f) in
      let y = good rest AsArguments k (settled m).scope q.1 g in
      let i = some a f in
      let j = y.few in
      record {
        few = omega (arith, i, j);
        does =
            then_moves (count_nodes (tree.Then a rest) + 2) (count_nodes a + 2) (count_nodes rest + 2) _ _ 0 1 (suc (length_of rest)) (omega arith)
            (omega (arith, i)) (value_moves _ 0 _ x)
            (raised (count_nodes rest + 2) _ 0 (length_of rest) 1 1 (suc (length_of rest)) (omega arith) (omega arith) y.does);
      }
  -- suffixes and parts
  good (tree.Then a rest) (AsSuffixes h) k ls e (f, g) =
      let m = resolved ds k.owner a (Onto h) ls in
      let q = kept (breach ds k a (Onto h) ls) _ e in
      let i = waits_few m.head in
      let j = suffix a f in
      onto rest m (λ z. resolved ds k.owner rest (Onto z) ls) (count_nodes (tree.Then a rest) + 2) (count_nodes a + 2) (count_nodes rest + 2)
      (waits h) (omega arith) (omega (arith, i, j)) (good a (AsSuffixes h) k ls q.0 f)
      (where_written rest (HasForm Suffixes rest) (Whole (count_nodes rest + 2) (waits m.head) (resolved ds k.owner rest (Onto m.head) ls))
      (λ z. good rest (AsSuffixes m.head) k ls q.1 z) g)
  good (tree.Member at x) (AsSuffixes h) k ls e f =
      let there = asked (is_there (resolved ds k.owner (tree.Member at x) (Onto h) ls).head) 16 at e in
      whole_wider 2 3 (waits h) _ (omega arith) (member_whole ds at.id x ls h there)
  good (tree.Index at v) (AsSuffixes h) k ls e f =
      let q = kept (breach ds k v Fresh ls) _ e in
      index_whole (count_nodes v + 2) (count_nodes (tree.Index at v) + 2) at.id _ h (head ds k v ls) (omega arith) (omega arith)
      (asked (index_keeps h (head ds k v ls)) 20 at q.1) (value v k ls f (good v AsExpression k ls q.0 f))
  good (tree.Call at args) (AsSuffixes h) k ls e f =
      let q = kept (breach ds k args Fresh ls) _ e in
      let x = good args AsArguments k ls q.0 f in
      call_whole (count_nodes args + 2) (count_nodes (tree.Call at args) + 2) at.id (length_of args) (resolved ds k.owner args Fresh ls) ds k args h ls
      (asked (call_keeps ds k args h ls) 17 at q.1) x.few (omega arith) x.does
  good (tree.Then a rest) (AsParts h) k ls e (f, g) =
      let m = resolved ds k.owner a (Onto h) ls in
      let q = kept (breach ds k a (Onto h) ls) _ e in
      let i = waits_few m.head in
      let j = of_part a f in
      onto rest m (λ z. resolved ds k.owner rest (Onto z) ls) (count_nodes (tree.Then a rest) + 2) (count_nodes a + 2) (count_nodes rest + 2)
      (waits h) (omega arith) (omega (arith, i, j)) (good a (AsParts h) k ls q.0 f)
      (where_written rest (HasForm Parts rest) (Whole (count_nodes rest + 2) (waits m.head) (resolved ds k.owner rest (Onto m.head) ls))
      (λ z. good rest (AsParts m.head) k ls q.1 z) g)
  good (tree.Part at op v) (AsParts h) k ls e f =
      let q = kept (breach ds k v Fresh ls) _ e in
      part_whole (count_nodes v + 2) (count_nodes (tree.Part at op v) + 2) at.id op ds h _ (asked (operands_keep ds op h (head ds k v ls)) 18 at q.1)
      (omega arith) (omega arith) (value v k ls f (good v AsExpression k ls q.0 f))
  good (tree.TypePart at op t) (AsParts h) k ls e f =
      let q = kept (asks (type_keeps ds t) 8 at) _ e in
      whole_wider 2 3 (waits h) _ (omega arith)
      (type_whole at.id op ds h (written_type t) ls (asked (type_part_keeps ds op h (written_type t)) 19 at q.1))
  good _ AsStatements k ls e h = absurd h
  good _ (AsArms last) k ls e h = absurd h
  good _ AsExpression k ls e h = absurd h
  good _ AsArguments k ls e h = absurd h
  good _ (AsSuffixes j) k ls e h = absurd h
  good _ (AsParts j) k ls e h = absurd h

pub bodies : (ds : Node) (k : Body) (body : Node) (ls : Scope) → breach ds k body Fresh ls ≡ None → HasForm Statements body
    → Counted source_measures (count_nodes body + 2) k.in_loop 0 (resolved ds k.owner body Fresh ls).does 0 0
bodies ds k body ls e h = (good ds body AsStatements k ls e h).quiet (count_nodes body + 2) (omega arith)
