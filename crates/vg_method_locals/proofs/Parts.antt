-- What each part of the grammar makes.
use Rattle.std.proofs.Common.{◌≡◌, ℕ, zero, suc, Bool, true, false, ◌&&◌, List, [], ◌∷◌, Some, refl, sym, subst}
use Rattle.vg_base.specs.declared.place.Place.{Place}
use Rattle.vg_syntax.specs.declared.kind.Kind.{Kind}
use Rattle.vg_syntax.specs.declared.kind.Kind.TheVariants as kind
use Rattle.vg_syntax.specs.declared.grammar.Symbol.{Symbol}
use Rattle.vg_syntax.specs.declared.grammar.Symbol.TheVariants.{Sign, Use}
use Rattle.vg_syntax.specs.declared.grammar.Part.{Part}
use Rattle.vg_syntax.specs.declared.grammar.Part.TheVariants as part
use Rattle.vg_syntax.specs.Grammar.{rules}
use Rattle.vg_syntax.specs.Parses.{nth}
use Rattle.vg_syntax.specs.Tree.{Node, Nothing}
use Rattle.vg_syntax.specs.Made.{Made, Word, Value, kind_in, node_in, row_in, arms_in, otherwise_in, text_in}
use Rattle.vg_syntax.specs.Reads as reads
use Rattle.vg_syntax.specs.Reads.{kids_of, made}
use Rattle.vg_method_locals.specs.Among.{HasNone, IsArms, LocalsAmongStatements, InMethods}
use Rattle.vg_method_locals.proofs.Free.{Free, FreeKids, Keeps, both, node_free, first_free, condition_free, next_free}
use Rattle.vg_method_locals.proofs.Free as free

abbrev Arms' : Made → Type 0
Arms' m = IsArms (arms_in m) × LocalsAmongStatements (arms_in m) × LocalsAmongStatements (otherwise_in m)

-- what is known of what a part makes
abbrev pub Good : Part → Made → Type 0
Good part.Text m = InMethods (node_in m)
Good part.Declarations m = InMethods (row_in m)
Good part.Declaration m = InMethods (node_in m)
Good part.ClassBody m = InMethods (row_in m)
Good part.Members m = InMethods (row_in m)
Good part.Member m = InMethods (node_in m)
Good part.Block m = LocalsAmongStatements (node_in m)
Good part.Statements m = LocalsAmongStatements (row_in m)
Good part.Statement m = LocalsAmongStatements (node_in m)
Good part.Else m = Arms' m
Good part.ElseArm m = Arms' m
Good part.Simple m = Free m × LocalsAmongStatements (node_in m)
Good _ m = Free m

abbrev is_free : Part → Bool
is_free part.Text = false
is_free part.Declarations = false
is_free part.Declaration = false
is_free part.ClassBody = false
is_free part.Members = false
is_free part.Member = false
is_free part.Block = false
is_free part.Statements = false
is_free part.Statement = false
is_free part.Else = false
is_free part.ElseArm = false
is_free part.Simple = false
is_free _ = true

abbrev row_is_free : List Symbol → Bool
row_is_free [] = true
row_is_free (Sign k ∷ s) = row_is_free s
row_is_free (Use n ∷ s) = is_free n && row_is_free s

abbrev all_free : List (List Symbol) → Bool
all_free [] = true
all_free (r ∷ rs) = row_is_free r && all_free rs

-- ---- rows of values

abbrev IsWord : Kind → Made → Type 0
IsWord k (Word j text) = j ≡ k
IsWord k _ = ⊥

kind_is : (k : Kind) (m : Made) → IsWord k m → kind_in m ≡ k
kind_is k (Word j text) e = e
kind_is k _ h = absurd h

word_free : (k : Kind) (m : Made) → IsWord k m → Free m
word_free k (Word j text) e = tt
word_free k _ h = absurd h

-- the values are those of the symbols
abbrev pub AreFor : List Symbol → List Value → Type 0
AreFor [] [] = Unit {0}
AreFor [] (v ∷ vs) = ⊥
AreFor (Sign k ∷ s) [] = ⊥
AreFor (Sign k ∷ s) (v ∷ vs) = IsWord k v.made × AreFor s vs
AreFor (Use n ∷ s) [] = ⊥
AreFor (Use n ∷ s) (v ∷ vs) = Good n v.made × AreFor s vs

abbrev Takes : List Symbol → (List Value → Type 0) → Type 0
Takes [] P = P []
Takes (Sign k ∷ s) P = (v : Value) → IsWord k v.made → Takes s (λ vs. P (v ∷ vs))
Takes (Use n ∷ s) P = (v : Value) → Good n v.made → Takes s (λ vs. P (v ∷ vs))

given : (s : List Symbol) (P : List Value → Type 0) → Takes s P → (vs : List Value) → AreFor s vs → P vs
given [] P f [] h = f
given [] P f (v ∷ vs) h = absurd h
given (Sign k ∷ s) P f [] h = absurd h
given (Sign k ∷ s) P f (v ∷ vs) (g, h) = given s (λ ws. P (v ∷ ws)) (f v g) vs h
given (Use n ∷ s) P f [] h = absurd h
given (Use n ∷ s) P f (v ∷ vs) (g, h) = given s (λ ws. P (v ∷ ws)) (f v g) vs h

-- a part makes what is known of it
abbrev Made' : Part → List Value → Type 0
Made' n vs = Good n (made n (kids_of vs)).made

abbrev Makes : Part → Type 0
Makes n = (a : ℕ) (rhs : List Symbol) → nth (rules n) a ≡ Some rhs → (vs : List Value) → AreFor rhs vs → Made' n vs

abbrev All : Part → List (List Symbol) → Type 0
All n [] = Unit {0}
All n (r ∷ rs) = Takes r (Made' n) × All n rs

one_by_one : (n : Part) (rs : List (List Symbol)) → All n rs → (a : ℕ) (rhs : List Symbol) → nth rs a ≡ Some rhs
    → (vs : List Value) → AreFor rhs vs → Made' n vs
one_by_one n [] h a rhs e = cc
one_by_one n (r ∷ rs) (g, h) zero rhs e =
    let f : r ≡ rhs = cc in
    subst (λ z. (vs : List Value) → AreFor z vs → Made' n vs) f (given r (Made' n) g)
one_by_one n (r ∷ rs) (g, h) (suc a) rhs e = one_by_one n rs h a rhs e

-- ---- parts without locals

first_true : (a b : Bool) → (a && b) ≡ true → a ≡ true
first_true true b e = refl
first_true false b e = cc

second_true : (a b : Bool) → (a && b) ≡ true → b ≡ true
second_true true b e = e
second_true false b e = cc

free_nth : (rs : List (List Symbol)) → all_free rs ≡ true → (a : ℕ) (rhs : List Symbol) → nth rs a ≡ Some rhs → row_is_free rhs ≡ true
free_nth [] h a rhs e = cc
free_nth (r ∷ rs) h zero rhs e = let f : r ≡ rhs = cc in subst (λ z. row_is_free z ≡ true) f (first_true (row_is_free r) (all_free rs) h)
free_nth (r ∷ rs) h (suc a) rhs e = free_nth rs (second_true (row_is_free r) (all_free rs) h) a rhs e

is_good : (n : Part) (m : Made) → is_free n ≡ true → Good n m → Free m
is_good part.Text m e h = cc
is_good part.Declarations m e h = cc
is_good part.Declaration m e h = cc
is_good part.ClassBody m e h = cc
is_good part.Members m e h = cc
is_good part.Member m e h = cc
is_good part.Block m e h = cc
is_good part.Statements m e h = cc
is_good part.Statement m e h = cc
is_good part.Else m e h = cc
is_good part.ElseArm m e h = cc
is_good part.Simple m e h = cc
is_good _ m e h = h

abbrev FreeRow : List Value → Type 0
FreeRow [] = Unit {0}
FreeRow (v ∷ vs) = Free v.made × FreeRow vs

free_row : (s : List Symbol) (vs : List Value) → row_is_free s ≡ true → AreFor s vs → FreeRow vs
free_row [] [] e h = tt
free_row [] (v ∷ vs) e h = absurd h
free_row (Sign k ∷ s) [] e h = absurd h
free_row (Sign k ∷ s) (v ∷ vs) e (g, h) = (word_free k v.made g, free_row s vs e h)
free_row (Use n ∷ s) [] e h = absurd h
free_row (Use n ∷ s) (v ∷ vs) e (g, h) =
    (is_good n v.made (first_true (is_free n) (row_is_free s) e) g, free_row s vs (second_true (is_free n) (row_is_free s) e) h)

free_kids : (vs : List Value) → FreeRow vs → FreeKids (kids_of vs)
free_kids [] h = tt
free_kids (a ∷ []) (f, h) = f
free_kids (a ∷ b ∷ []) (f, (g, h)) = (f, g)
free_kids (a ∷ b ∷ c ∷ []) (f, (g, (i, h))) = (f, g, i)
free_kids (a ∷ b ∷ c ∷ d ∷ []) (f, (g, (i, (j, h)))) = (f, g, i, j)
free_kids (a ∷ b ∷ c ∷ d ∷ e ∷ []) (f, (g, (i, (j, (k, h))))) = (f, g, i, j, k)
free_kids (a ∷ b ∷ c ∷ d ∷ e ∷ x ∷ vs) h = tt

through : (n : Part) → all_free (rules n) ≡ true → Keeps (made n) → (a : ℕ) (rhs : List Symbol) → nth (rules n) a ≡ Some rhs
    → (vs : List Value) → AreFor rhs vs → Free (made n (kids_of vs)).made
through n t k a rhs e vs h = k (kids_of vs) (free_kids vs (free_row rhs vs (free_nth (rules n) t a rhs e) h))

-- ---- declarations and statements

of_kind : (P : Kind → Type 0) (k : Kind) (m : Made) → IsWord k m → P k → P (kind_in m)
of_kind P k m w h = subst P (sym (kind_is k m w)) h

jumps : (k : Kind) (p : Place) → LocalsAmongStatements (reads.jump k p)
jumps kind.Break p = refl
jumps _ p = refl

jump_so : (k : Kind) (p : Place) (m : Made) → IsWord k m → LocalsAmongStatements (node_in (reads.statement_of_two p m))
jump_so k p (Word j text) h = jumps j p
jump_so k p _ h = absurd h

simple_so : (p : Place) (m : Made) → LocalsAmongStatements (node_in m) → LocalsAmongStatements (node_in (reads.statement_of_two p m))
simple_so p (Word j text) h = jumps j p
simple_so p m h = h

assigned_so : (p : Place) (e r : Node) → HasNone e → HasNone r → HasNone (reads.assigned p e r) × LocalsAmongStatements (reads.assigned p e r)
assigned_so p e Nothing g h = (g, g)
assigned_so p e r g h = (both e r g h, both e r g h)

statement : All part.Statement (rules part.Statement)
statement = (
  (λ a g. g),
  (
    (λ w k t g i h s l. of_kind (λ z. LocalsAmongStatements (reads.statement_of_four z w.place t.made i.made s.made))
        kind.Local w.made k (node_free i.made h)),
    (
      (λ w k c f b g e h. of_kind (λ z. LocalsAmongStatements (reads.statement_of_four z w.place c.made b.made e.made)) kind.If w.made k
          (h.0, (node_free c.made f, g, h.1), h.2)),
      (
        (λ w k c f b g. of_kind (λ z. LocalsAmongStatements (reads.statement_of_three z w.place c.made b.made))
            kind.While w.made k (node_free c.made f, g)),
        (
          (λ w k c f b g. of_kind (λ z. LocalsAmongStatements (reads.statement_of_three z w.place c.made b.made)) kind.For w.made k
              (first_free c.made f, condition_free c.made f, next_free c.made f, g)),
          (
            (λ w k e f s l. of_kind (λ z. LocalsAmongStatements (reads.statement_of_three z w.place e.made s.made))
                kind.Return w.made k (node_free e.made f)),
            (
              (λ w k s l. jump_so kind.Break w.place w.made k),
              (
                (λ w k s l. jump_so kind.Continue w.place w.made k),
                (
                  (λ a g s l. simple_so a.place a.made g.1),
                  tt,
                ),
              ),
            ),
          ),
        ),
      ),
    ),
  ),
)

member : All part.Member (rules part.Member)
member = (
  (λ w k t g i h s l. of_kind (λ z. InMethods (reads.field_or_constructor z w.place t.made i.made s.made)) kind.Field w.made k tt),
  (
    (λ w k x l ps f r g b h. h),
    (
      (λ w k ps f s g b h. of_kind (λ z. InMethods (reads.field_or_constructor z w.place ps.made s.made b.made)) kind.Constructor w.made k tt),
      tt,
    ),
  ),
)

declaration : All part.Declaration (rules part.Declaration)
declaration = (
  (λ w k x l a f b h. h),
  (
    (λ w k x l b h. of_kind (λ z. InMethods (reads.declared z w.place (text_in x.made) (row_in b.made))) kind.Component w.made k h),
    (
      (λ w k x l b h. of_kind (λ z. InMethods (reads.declared z w.place (text_in x.made) (row_in b.made))) kind.Device w.made k tt),
      (
        (λ w k x l b h. of_kind (λ z. InMethods (reads.declared z w.place (text_in x.made) (row_in b.made))) kind.Program w.made k tt),
        tt,
      ),
    ),
  ),
)

else_arm : All part.ElseArm (rules part.ElseArm)
else_arm = ((λ w k c f b g e h. (h.0, (node_free c.made f, g, h.1), h.2)), ((λ b g. (tt, tt, g)), tt))

pub makes : (n : Part) → Makes n
makes part.Text = one_by_one part.Text (rules part.Text) ((λ a g b h. (g, h)), tt)
makes part.Declarations = one_by_one part.Declarations (rules part.Declarations) ((λ a g b h. (g, h)), (tt, tt))
makes part.Declaration = one_by_one part.Declaration (rules part.Declaration) declaration
makes part.ClassBody = one_by_one part.ClassBody (rules part.ClassBody) ((λ l k a g r j. g), tt)
makes part.Members = one_by_one part.Members (rules part.Members) ((λ a g b h. (g, h)), (tt, tt))
makes part.Member = one_by_one part.Member (rules part.Member) member
makes part.Block = one_by_one part.Block (rules part.Block) ((λ l k a g r j. g), tt)
makes part.Statements = one_by_one part.Statements (rules part.Statements) ((λ a g b h. (g, h)), (tt, tt))
makes part.Statement = one_by_one part.Statement (rules part.Statement) statement
makes part.Else = one_by_one part.Else (rules part.Else) ((λ w k a g. g), ((tt, tt, tt), tt))
makes part.ElseArm = one_by_one part.ElseArm (rules part.ElseArm) else_arm
makes part.Simple =
    one_by_one part.Simple (rules part.Simple)
    ((λ a g r h. assigned_so a.place (node_in a.made) (node_in r.made) (node_free a.made g) (node_free r.made h)), tt)
makes part.MaybeSimple = one_by_one part.MaybeSimple (rules part.MaybeSimple) ((λ a g. g.0), (refl, tt))
makes part.Extends = through part.Extends refl free.extended
makes part.DeviceBody = through part.DeviceBody refl free.enclosed
makes part.Registers = through part.Registers refl free.rowed
makes part.Register = through part.Register refl free.register
makes part.ProgramBody = through part.ProgramBody refl free.enclosed
makes part.Entries = through part.Entries refl free.rowed
makes part.Entry = through part.Entry refl free.entry
makes part.Key = through part.Key refl free.optional
makes part.Handler = through part.Handler refl free.handler
makes part.Initial = through part.Initial refl free.behind_sign
makes part.Result = through part.Result refl free.result_type
makes part.SuperCall = through part.SuperCall refl free.super_call
makes part.Parameters = through part.Parameters refl free.enclosed
makes part.ParameterList = through part.ParameterList refl free.parameters
makes part.MoreParameters = through part.MoreParameters refl free.more_parameters
makes part.Typed = through part.Typed refl free.typed
makes part.Type = through part.Type refl free.type_of
makes part.TypeArguments = through part.TypeArguments refl free.enclosed
makes part.TypeList = through part.TypeList refl free.types
makes part.MoreTypes = through part.MoreTypes refl free.more_types
makes part.PlainResult = through part.PlainResult refl free.result_type
makes part.Plain = through part.Plain refl free.plain
makes part.Dimensions = through part.Dimensions refl free.dimensions
makes part.Atom = through part.Atom refl free.atom
makes part.OtherAtom = through part.OtherAtom refl free.other_atom
makes part.Condition = through part.Condition refl free.enclosed
makes part.ForHeader = through part.ForHeader refl free.header
makes part.ForTest = through part.ForTest refl free.enclosed
makes part.MaybeExpression = through part.MaybeExpression refl free.optional
makes part.Assigned = through part.Assigned refl free.behind_sign
makes part.Expression = through part.Expression refl free.level
makes part.OrRest = through part.OrRest refl free.rest_of_level
makes part.AndLevel = through part.AndLevel refl free.level
makes part.AndRest = through part.AndRest refl free.rest_of_level
makes part.EqualityLevel = through part.EqualityLevel refl free.level
makes part.EqualityRest = through part.EqualityRest refl free.rest_of_level
makes part.ComparisonLevel = through part.ComparisonLevel refl free.level
makes part.ComparisonRest = through part.ComparisonRest refl free.rest_of_level
makes part.BitOrLevel = through part.BitOrLevel refl free.level
makes part.BitOrRest = through part.BitOrRest refl free.rest_of_level
makes part.BitXorLevel = through part.BitXorLevel refl free.level
makes part.BitXorRest = through part.BitXorRest refl free.rest_of_level
makes part.BitAndLevel = through part.BitAndLevel refl free.level
makes part.BitAndRest = through part.BitAndRest refl free.rest_of_level
makes part.ShiftLevel = through part.ShiftLevel refl free.level
makes part.ShiftRest = through part.ShiftRest refl free.rest_of_level
makes part.ConcatLevel = through part.ConcatLevel refl free.level
makes part.ConcatRest = through part.ConcatRest refl free.rest_of_level
makes part.SumLevel = through part.SumLevel refl free.level
makes part.SumRest = through part.SumRest refl free.rest_of_level
makes part.ProductLevel = through part.ProductLevel refl free.level
makes part.ProductRest = through part.ProductRest refl free.rest_of_level
makes part.CastLevel = through part.CastLevel refl free.level
makes part.CastRest = through part.CastRest refl free.rest_of_level
makes part.Unary = through part.Unary refl free.unary
makes part.Operators = through part.Operators refl free.operators
makes part.Postfix = through part.Postfix refl free.postfix
makes part.Suffixes = through part.Suffixes refl free.suffixes
makes part.Index = through part.Index refl free.enclosed
makes part.Arguments = through part.Arguments refl free.enclosed
makes part.ArgumentList = through part.ArgumentList refl free.rowed
makes part.MoreArguments = through part.MoreArguments refl free.more_rowed
makes part.New = through part.New refl free.new_part
makes part.NewOfName = through part.NewOfName refl free.new_of_name
makes part.NewLevels = through part.NewLevels refl free.new_levels
makes part.NewLevel = through part.NewLevel refl free.new_level
makes part.Primary = through part.Primary refl free.primary
