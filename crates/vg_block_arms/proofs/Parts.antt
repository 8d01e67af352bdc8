-- What each part of the grammar makes.
use Rattle.std.proofs.Common.{◌≡◌, ℕ, zero, suc, List, [], ◌∷◌, Some, sym, subst}
use Rattle.vg_base.specs.declared.place.Place.{Place}
use Rattle.vg_syntax.specs.declared.kind.Kind.{Kind}
use Rattle.vg_syntax.specs.declared.kind.Kind.TheVariants as kind
use Rattle.vg_syntax.specs.declared.grammar.Symbol.{Symbol}
use Rattle.vg_syntax.specs.declared.grammar.Symbol.TheVariants.{Sign, Use}
use Rattle.vg_syntax.specs.declared.grammar.Part.{Part}
use Rattle.vg_syntax.specs.declared.grammar.Part.TheVariants as part
use Rattle.vg_syntax.specs.Grammar.{rules}
use Rattle.vg_syntax.specs.Parses.{nth}
use Rattle.vg_syntax.specs.Made.{Made, Word, Value, kind_in, node_in}
use Rattle.vg_syntax.specs.Reads as reads
use Rattle.vg_syntax.specs.Reads.{kids_of, made}
use Rattle.vg_source_sizes.specs.Arms.{IsBlock, ArmsHaveBlocks}
use Rattle.vg_block_arms.proofs.Kept.{Kept, KeptKids, Keeps, node_kept, row_kept, first_kept, condition_kept, next_kept, arms_kept, otherwise_kept}
use Rattle.vg_block_arms.proofs.Kept as kept

-- what is known of what a part makes
abbrev pub Good : Part → Made → Type 0
Good part.Block m = Kept m × IsBlock (node_in m)
Good _ m = Kept m

is_good : (n : Part) (m : Made) → Good n m → Kept m
is_good part.Block m (g, h) = g
is_good _ m h = h

-- ---- rows of values

abbrev IsWord : Kind → Made → Type 0
IsWord k (Word j text) = j ≡ k
IsWord k _ = ⊥

kind_is : (k : Kind) (m : Made) → IsWord k m → kind_in m ≡ k
kind_is k (Word j text) e = e
kind_is k _ h = absurd h

word_kept : (k : Kind) (m : Made) → IsWord k m → Kept m
word_kept k (Word j text) e = tt
word_kept k _ h = absurd h

-- the values are those of the symbols
abbrev pub AreFor : List Symbol → List Value → Type 0
AreFor [] [] = Unit {0}
AreFor [] (v ∷ vs) = ⊥
AreFor (Sign k ∷ s) [] = ⊥
AreFor (Sign k ∷ s) (v ∷ vs) = IsWord k v.made × AreFor s vs
AreFor (Use n ∷ s) [] = ⊥
AreFor (Use n ∷ s) (v ∷ vs) = Good n v.made × AreFor s vs

abbrev Takes : List Symbol → (List Value → Type 0) → Type 0
Takes [] P = P []
Takes (Sign k ∷ s) P = (v : Value) → IsWord k v.made → Takes s (λ vs. P (v ∷ vs))
Takes (Use n ∷ s) P = (v : Value) → Good n v.made → Takes s (λ vs. P (v ∷ vs))

given : (s : List Symbol) (P : List Value → Type 0) → Takes s P → (vs : List Value) → AreFor s vs → P vs
given [] P f [] h = f
given [] P f (v ∷ vs) h = absurd h
given (Sign k ∷ s) P f [] h = absurd h
given (Sign k ∷ s) P f (v ∷ vs) (g, h) = given s (λ ws. P (v ∷ ws)) (f v g) vs h
given (Use n ∷ s) P f [] h = absurd h
given (Use n ∷ s) P f (v ∷ vs) (g, h) = given s (λ ws. P (v ∷ ws)) (f v g) vs h

-- a part makes what is known of it
abbrev Made' : Part → List Value → Type 0
Made' n vs = Good n (made n (kids_of vs)).made

abbrev Makes : Part → Type 0
Makes n = (a : ℕ) (rhs : List Symbol) → nth (rules n) a ≡ Some rhs → (vs : List Value) → AreFor rhs vs → Made' n vs

abbrev All : Part → List (List Symbol) → Type 0
All n [] = Unit {0}
All n (r ∷ rs) = Takes r (Made' n) × All n rs

one_by_one : (n : Part) (rs : List (List Symbol)) → All n rs → (a : ℕ) (rhs : List Symbol) → nth rs a ≡ Some rhs
    → (vs : List Value) → AreFor rhs vs → Made' n vs
one_by_one n [] h a rhs e = cc
one_by_one n (r ∷ rs) (g, h) zero rhs e =
    let f : r ≡ rhs = cc in
    subst (λ z. (vs : List Value) → AreFor z vs → Made' n vs) f (given r (Made' n) g)
one_by_one n (r ∷ rs) (g, h) (suc a) rhs e = one_by_one n rs h a rhs e

-- ---- parts that keep arms as they are

abbrev KeptRow : List Value → Type 0
KeptRow [] = Unit {0}
KeptRow (v ∷ vs) = Kept v.made × KeptRow vs

kept_row : (s : List Symbol) (vs : List Value) → AreFor s vs → KeptRow vs
kept_row [] [] h = tt
kept_row [] (v ∷ vs) h = absurd h
kept_row (Sign k ∷ s) [] h = absurd h
kept_row (Sign k ∷ s) (v ∷ vs) (g, h) = (word_kept k v.made g, kept_row s vs h)
kept_row (Use n ∷ s) [] h = absurd h
kept_row (Use n ∷ s) (v ∷ vs) (g, h) = (is_good n v.made g, kept_row s vs h)

kept_kids : (vs : List Value) → KeptRow vs → KeptKids (kids_of vs)
kept_kids [] h = tt
kept_kids (a ∷ []) (f, h) = f
kept_kids (a ∷ b ∷ []) (f, (g, h)) = (f, g)
kept_kids (a ∷ b ∷ c ∷ []) (f, (g, (i, h))) = (f, g, i)
kept_kids (a ∷ b ∷ c ∷ d ∷ []) (f, (g, (i, (j, h)))) = (f, g, i, j)
kept_kids (a ∷ b ∷ c ∷ d ∷ e ∷ []) (f, (g, (i, (j, (k, h))))) = (f, g, i, j, k)
kept_kids (a ∷ b ∷ c ∷ d ∷ e ∷ x ∷ vs) h = tt

through : (n : Part) → Keeps (made n) → (a : ℕ) (rhs : List Symbol) → nth (rules n) a ≡ Some rhs
    → (vs : List Value) → AreFor rhs vs → Kept (made n (kids_of vs)).made
through n k a rhs e vs h = k (kids_of vs) (kept_kids vs (kept_row rhs vs h))

-- ---- blocks, statements and arms

of_kind : (P : Kind → Type 0) (k : Kind) (m : Made) → IsWord k m → P k → P (kind_in m)
of_kind P k m w h = subst P (sym (kind_is k m w)) h

jumps : (k : Kind) (p : Place) → ArmsHaveBlocks (reads.jump k p)
jumps kind.Break p = tt
jumps _ p = tt

jump_so : (k : Kind) (p : Place) (m : Made) → IsWord k m → Kept (reads.statement_of_two p m)
jump_so k p (Word j text) h = jumps j p
jump_so k p _ h = absurd h

simple_so : (p : Place) (m : Made) → Kept m → Kept (reads.statement_of_two p m)
simple_so p (Word j text) h = jumps j p
simple_so p m h = h

statement : All part.Statement (rules part.Statement)
statement = (
  (λ a g. g.0),
  (
    (λ w k t g i h s l. of_kind (λ z. ArmsHaveBlocks (reads.statement_of_four z w.place t.made i.made s.made))
        kind.Local w.made k (node_kept i.made h)),
    (
      (λ w k c f b g e h. of_kind (λ z. ArmsHaveBlocks (reads.statement_of_four z w.place c.made b.made e.made)) kind.If w.made k
          ((node_kept c.made f, (g.1, node_kept b.made g.0), arms_kept e.made h), otherwise_kept e.made h)),
      (
        (λ w k c f b g. of_kind (λ z. ArmsHaveBlocks (reads.statement_of_three z w.place c.made b.made))
            kind.While w.made k (node_kept c.made f, node_kept b.made g.0)),
        (
          (λ w k c f b g. of_kind (λ z. ArmsHaveBlocks (reads.statement_of_three z w.place c.made b.made)) kind.For w.made k
              (first_kept c.made f, condition_kept c.made f, next_kept c.made f, node_kept b.made g.0)),
          (
            (λ w k e f s l. of_kind (λ z. ArmsHaveBlocks (reads.statement_of_three z w.place e.made s.made))
                kind.Return w.made k (node_kept e.made f)),
            (
              (λ w k s l. jump_so kind.Break w.place w.made k),
              (
                (λ w k s l. jump_so kind.Continue w.place w.made k),
                (
                  (λ a g s l. simple_so a.place a.made g),
                  tt,
                ),
              ),
            ),
          ),
        ),
      ),
    ),
  ),
)

else_arm : All part.ElseArm (rules part.ElseArm)
else_arm = (
  (λ w k c f b g e h. ((node_kept c.made f, (g.1, node_kept b.made g.0), arms_kept e.made h), otherwise_kept e.made h)),
  ((λ b g. (tt, node_kept b.made g.0)), tt),
)

pub makes : (n : Part) → Makes n
makes part.Block = one_by_one part.Block (rules part.Block) ((λ l k a g r j. (row_kept a.made g, tt)), tt)
makes part.Statement = one_by_one part.Statement (rules part.Statement) statement
makes part.ElseArm = one_by_one part.ElseArm (rules part.ElseArm) else_arm
makes part.Text = through part.Text kept.whole
makes part.Declarations = through part.Declarations kept.rowed
makes part.Declaration = through part.Declaration kept.declaration
makes part.ClassBody = through part.ClassBody kept.enclosed
makes part.Members = through part.Members kept.rowed
makes part.Member = through part.Member kept.member
makes part.Statements = through part.Statements kept.rowed
makes part.Else = through part.Else kept.else_part
makes part.Simple = through part.Simple kept.simple
makes part.MaybeSimple = through part.MaybeSimple kept.optional
makes part.Extends = through part.Extends kept.extended
makes part.DeviceBody = through part.DeviceBody kept.enclosed
makes part.Registers = through part.Registers kept.rowed
makes part.Register = through part.Register kept.register
makes part.ProgramBody = through part.ProgramBody kept.enclosed
makes part.Entries = through part.Entries kept.rowed
makes part.Entry = through part.Entry kept.entry
makes part.Key = through part.Key kept.optional
makes part.Handler = through part.Handler kept.handler
makes part.Initial = through part.Initial kept.behind_sign
makes part.Result = through part.Result kept.result_type
makes part.SuperCall = through part.SuperCall kept.super_call
makes part.Parameters = through part.Parameters kept.enclosed
makes part.ParameterList = through part.ParameterList kept.parameters
makes part.MoreParameters = through part.MoreParameters kept.more_parameters
makes part.Typed = through part.Typed kept.typed
makes part.Type = through part.Type kept.type_of
makes part.TypeArguments = through part.TypeArguments kept.enclosed
makes part.TypeList = through part.TypeList kept.types
makes part.MoreTypes = through part.MoreTypes kept.more_types
makes part.PlainResult = through part.PlainResult kept.result_type
makes part.Plain = through part.Plain kept.plain
makes part.Dimensions = through part.Dimensions kept.dimensions
makes part.Atom = through part.Atom kept.atom
makes part.OtherAtom = through part.OtherAtom kept.other_atom
makes part.Condition = through part.Condition kept.enclosed
makes part.ForHeader = through part.ForHeader kept.header
makes part.ForTest = through part.ForTest kept.enclosed
makes part.MaybeExpression = through part.MaybeExpression kept.optional
makes part.Assigned = through part.Assigned kept.behind_sign
makes part.Expression = through part.Expression kept.level
makes part.OrRest = through part.OrRest kept.rest_of_level
makes part.AndLevel = through part.AndLevel kept.level
makes part.AndRest = through part.AndRest kept.rest_of_level
makes part.EqualityLevel = through part.EqualityLevel kept.level
makes part.EqualityRest = through part.EqualityRest kept.rest_of_level
makes part.ComparisonLevel = through part.ComparisonLevel kept.level
makes part.ComparisonRest = through part.ComparisonRest kept.rest_of_level
makes part.BitOrLevel = through part.BitOrLevel kept.level
makes part.BitOrRest = through part.BitOrRest kept.rest_of_level
makes part.BitXorLevel = through part.BitXorLevel kept.level
makes part.BitXorRest = through part.BitXorRest kept.rest_of_level
makes part.BitAndLevel = through part.BitAndLevel kept.level
makes part.BitAndRest = through part.BitAndRest kept.rest_of_level
makes part.ShiftLevel = through part.ShiftLevel kept.level
makes part.ShiftRest = through part.ShiftRest kept.rest_of_level
makes part.ConcatLevel = through part.ConcatLevel kept.level
makes part.ConcatRest = through part.ConcatRest kept.rest_of_level
makes part.SumLevel = through part.SumLevel kept.level
makes part.SumRest = through part.SumRest kept.rest_of_level
makes part.ProductLevel = through part.ProductLevel kept.level
makes part.ProductRest = through part.ProductRest kept.rest_of_level
makes part.CastLevel = through part.CastLevel kept.level
makes part.CastRest = through part.CastRest kept.rest_of_level
makes part.Unary = through part.Unary kept.unary
makes part.Operators = through part.Operators kept.operators
makes part.Postfix = through part.Postfix kept.postfix
makes part.Suffixes = through part.Suffixes kept.suffixes
makes part.Index = through part.Index kept.enclosed
makes part.Arguments = through part.Arguments kept.enclosed
makes part.ArgumentList = through part.ArgumentList kept.rowed
makes part.MoreArguments = through part.MoreArguments kept.more_rowed
makes part.New = through part.New kept.new_part
makes part.NewOfName = through part.NewOfName kept.new_of_name
makes part.NewLevels = through part.NewLevels kept.new_levels
makes part.NewLevel = through part.NewLevel kept.new_level
makes part.Primary = through part.Primary kept.primary
