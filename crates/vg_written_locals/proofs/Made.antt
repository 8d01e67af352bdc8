-- What each part of the grammar makes.
use Rattle.std.proofs.Common.{◌≡◌, ℕ, zero, suc, List, [], ◌∷◌, Some, sym, subst}
use Rattle.vg_syntax.specs.declared.kind.Kind.{Kind}
use Rattle.vg_syntax.specs.declared.kind.Kind.TheVariants as kind
use Rattle.vg_syntax.specs.declared.grammar.Symbol.{Symbol}
use Rattle.vg_syntax.specs.declared.grammar.Symbol.TheVariants.{Sign, Use}
use Rattle.vg_syntax.specs.declared.grammar.Part.{Part}
use Rattle.vg_syntax.specs.declared.grammar.Part.TheVariants as part
use Rattle.vg_syntax.specs.Grammar.{rules}
use Rattle.vg_syntax.specs.Parses.{nth}
use Rattle.vg_syntax.specs.Tree.{TypeTree}
use Rattle.vg_syntax.specs.Made.{Made, Word, Value, kind_in, node_in, row_in, type_in, param_in, params_in, count_in, arrays}
use Rattle.vg_syntax.specs.Reads as reads
use Rattle.vg_syntax.specs.Reads.{kids_of, made}
use Rattle.vg_source_ranges.specs.Spelled.{IsProper}
use Rattle.vg_written_locals.specs.Locals.{AreProper}
use Rattle.vg_written_locals.proofs.Kids.{Free, FreeKids, F, Keeps, both, node_free, row_free}
use Rattle.vg_written_locals.proofs.Kids as free

-- types stand where the grammar has them
abbrev pub Stands : Part → Made → Type 0
Stands part.Type m = IsProper (type_in m)
Stands part.Plain m = IsProper (type_in m)
Stands part.Atom m = IsProper (type_in m)
Stands part.OtherAtom m = IsProper (type_in m)
Stands part.Typed m = IsProper (param_in m).type
Stands part.Parameters m = AreProper (params_in m)
Stands part.ParameterList m = AreProper (params_in m)
Stands part.MoreParameters m = AreProper (params_in m)
Stands _ m = Unit {0}

-- what is known of what a part makes, and of a word
abbrev pub Good : Part → Made → Type 0
Good n m = Free m × Stands n m

abbrev IsWord : Kind → Made → Type 0
IsWord k (Word j text) = j ≡ k
IsWord k _ = ⊥

abbrev pub GoodWord : Kind → Made → Type 0
GoodWord k m = Free m × IsWord k m

kind_is : (k : Kind) (m : Made) → IsWord k m → kind_in m ≡ k
kind_is k (Word j text) e = e
kind_is k _ h = absurd h

of_kind : (P : Kind → Type 0) (k : Kind) (m : Made) → IsWord k m → P k → P (kind_in m)
of_kind P k m w h = subst P (sym (kind_is k m w)) h

-- ---- rows of values

-- the values are those of the symbols
abbrev pub AreFor : List Symbol → List Value → Type 0
AreFor [] [] = Unit {0}
AreFor [] (v ∷ vs) = ⊥
AreFor (Sign k ∷ s) [] = ⊥
AreFor (Sign k ∷ s) (v ∷ vs) = GoodWord k v.made × AreFor s vs
AreFor (Use n ∷ s) [] = ⊥
AreFor (Use n ∷ s) (v ∷ vs) = Good n v.made × AreFor s vs

abbrev Takes : List Symbol → (List Value → Type 0) → Type 0
Takes [] P = P []
Takes (Sign k ∷ s) P = (v : Value) → GoodWord k v.made → Takes s (λ vs. P (v ∷ vs))
Takes (Use n ∷ s) P = (v : Value) → Good n v.made → Takes s (λ vs. P (v ∷ vs))

given : (s : List Symbol) (P : List Value → Type 0) → Takes s P → (vs : List Value) → AreFor s vs → P vs
given [] P f [] h = f
given [] P f (v ∷ vs) h = absurd h
given (Sign k ∷ s) P f [] h = absurd h
given (Sign k ∷ s) P f (v ∷ vs) (g, h) = given s (λ ws. P (v ∷ ws)) (f v g) vs h
given (Use n ∷ s) P f [] h = absurd h
given (Use n ∷ s) P f (v ∷ vs) (g, h) = given s (λ ws. P (v ∷ ws)) (f v g) vs h

-- a part makes what is known of it
abbrev Made' : Part → List Value → Type 0
Made' n vs = Good n (made n (kids_of vs)).made

abbrev Makes : Part → Type 0
Makes n = (a : ℕ) (rhs : List Symbol) → nth (rules n) a ≡ Some rhs → (vs : List Value) → AreFor rhs vs → Made' n vs

abbrev All : Part → List (List Symbol) → Type 0
All n [] = Unit {0}
All n (r ∷ rs) = Takes r (Made' n) × All n rs

one_by_one : (n : Part) (rs : List (List Symbol)) → All n rs → (a : ℕ) (rhs : List Symbol) → nth rs a ≡ Some rhs
    → (vs : List Value) → AreFor rhs vs → Made' n vs
one_by_one n [] h a rhs e = cc
one_by_one n (r ∷ rs) (g, h) zero rhs e =
    let f : r ≡ rhs = cc in
    subst (λ z. (vs : List Value) → AreFor z vs → Made' n vs) f (given r (Made' n) g)
one_by_one n (r ∷ rs) (g, h) (suc a) rhs e = one_by_one n rs h a rhs e

abbrev FreeRow : List Value → Type 0
FreeRow [] = Unit {0}
FreeRow (v ∷ vs) = Free v.made × FreeRow vs

free_row : (s : List Symbol) (vs : List Value) → AreFor s vs → FreeRow vs
free_row [] [] h = tt
free_row [] (v ∷ vs) h = absurd h
free_row (Sign k ∷ s) [] h = absurd h
free_row (Sign k ∷ s) (v ∷ vs) (g, h) = (g.0, free_row s vs h)
free_row (Use n ∷ s) [] h = absurd h
free_row (Use n ∷ s) (v ∷ vs) (g, h) = (g.0, free_row s vs h)

free_kids : (vs : List Value) → FreeRow vs → FreeKids (kids_of vs)
free_kids [] h = tt
free_kids (a ∷ []) (f, h) = f
free_kids (a ∷ b ∷ []) (f, (g, h)) = (f, g)
free_kids (a ∷ b ∷ c ∷ []) (f, (g, (i, h))) = (f, g, i)
free_kids (a ∷ b ∷ c ∷ d ∷ []) (f, (g, (i, (j, h)))) = (f, g, i, j)
free_kids (a ∷ b ∷ c ∷ d ∷ e ∷ []) (f, (g, (i, (j, (k, h))))) = (f, g, i, j, k)
free_kids (a ∷ b ∷ c ∷ d ∷ e ∷ x ∷ vs) h = tt

through : (n : Part) → Keeps (made n) → ((m : Made) → Stands n m) → Makes n
through n k t a rhs e vs h = (k (kids_of vs) (free_kids vs (free_row rhs vs h)), t (made n (kids_of vs)).made)

-- ---- types

-- so many levels over a written type
of_levels : (n : ℕ) (t : TypeTree) → IsProper t → IsProper (arrays n t)
of_levels zero t h = h
of_levels (suc n) t h = tt

atom_free : (m : Made) → Free m → Free (reads.atom_of m)
atom_free (Word k text) h = tt
atom_free m h = h

atom_stands : (m : Made) → IsProper (type_in m) → IsProper (type_in (reads.atom_of m))
atom_stands (Word k text) h = tt
atom_stands m h = h

name_stands : (k : Kind) (m : Made) → IsWord k m → IsProper (type_in (reads.atom_of m))
name_stands k (Word j text) h = tt
name_stands k _ h = absurd h

simple_stands : (k : Kind) → IsProper (reads.simple_type k)
simple_stands kind.Int = tt
simple_stands kind.Bool = tt
simple_stands _ = tt

atom : All part.Atom (rules part.Atom)
atom = ((λ w k. (atom_free w.made k.0, name_stands kind.Name w.made k.1)), ((λ a g. (atom_free a.made g.0, atom_stands a.made g.1)), tt))

other_atom : All part.OtherAtom (rules part.OtherAtom)
other_atom = (
  (λ w k. (tt, simple_stands (kind_in w.made))),
  (
    (λ w k. (tt, simple_stands (kind_in w.made))),
    (
      (λ w k. (tt, simple_stands (kind_in w.made))),
      (
        (λ w k d l n m. (tt, of_kind (λ z. IsProper (reads.raw_or_inner z d.made n.made)) kind.Raw w.made k.1 tt)),
        (
          (λ w k t g r l. (tt, of_kind (λ z. IsProper (reads.raw_or_inner z t.made r.made)) kind.LeftParen w.made k.1 g.1)),
          tt,
        ),
      ),
    ),
  ),
)

plain : All part.Plain (rules part.Plain)
plain = ((λ a g d h. (tt, of_levels (count_in d.made) (type_in a.made) g.1)), tt)

type : All part.Type (rules part.Type)
type = ((λ a g. g), ((λ w k ps g r h. (tt, tt)), tt))

typed : All part.Typed (rules part.Typed)
typed = ((λ w k c l t g. (tt, g.1)), tt)

-- ---- parameters

parameters : All part.Parameters (rules part.Parameters)
parameters = ((λ l k a g r m. (g.0, g.1)), tt)

parameter_list : All part.ParameterList (rules part.ParameterList)
parameter_list = ((λ a g b h. (tt, (g.1, h.1))), ((tt, tt), tt))

more_parameters : All part.MoreParameters (rules part.MoreParameters)
more_parameters = ((λ c k a g b h. (tt, (g.1, h.1))), ((tt, tt), tt))

-- ---- members and statements

member : All part.Member (rules part.Member)
member = (
  (λ w k t g i h s l. (
    of_kind (λ z. F (reads.field_or_constructor z w.place t.made i.made s.made)) kind.Field w.made k.1 (tt, node_free i.made h.0),
    tt,
  )),
  (
    (λ w k x l ps f r g b h. ((f.1, node_free b.made h.0), tt)),
    (
      (λ w k ps f s g b h. (
        of_kind (λ z. F (reads.field_or_constructor z w.place ps.made s.made b.made)) kind.Constructor w.made k.1
            (f.1, both (row_in s.made) (node_in b.made) (row_free s.made g.0) (node_free b.made h.0)),
        tt,
      )),
      tt,
    ),
  ),
)

statement : All part.Statement (rules part.Statement)
statement = (
  (λ a g. g),
  (
    (λ w k t g i h s l. (
      of_kind (λ z. F (reads.statement_of_four z w.place t.made i.made s.made)) kind.Local w.made k.1 (g.1, node_free i.made h.0),
      tt,
    )),
    (
      (λ w k c f b g e h. (
        of_kind (λ z. F (reads.statement_of_four z w.place c.made b.made e.made)) kind.If w.made k.1
            (free.of_if w.place c.made b.made e.made f.0 g.0 h.0),
        tt,
      )),
      (
        (λ w k c f b g. (free.of_three (kind_in w.made) w.place c.made b.made f.0 g.0, tt)),
        (
          (λ w k c f b g. (free.of_three (kind_in w.made) w.place c.made b.made f.0 g.0, tt)),
          (
            (λ w k e g s l. (free.of_three (kind_in w.made) w.place e.made s.made g.0 l.0, tt)),
            (
              (λ w k s l. (free.of_two w.place w.made k.0, tt)),
              ((λ w k s l. (free.of_two w.place w.made k.0, tt)), ((λ a g s l. (free.of_two a.place a.made g.0, tt)), tt)),
            ),
          ),
        ),
      ),
    ),
  ),
)

pub makes : (n : Part) → Makes n
makes part.Text = through part.Text free.whole (λ m. tt)
makes part.Declarations = through part.Declarations free.rowed (λ m. tt)
makes part.Declaration = through part.Declaration free.declaration (λ m. tt)
makes part.ClassBody = through part.ClassBody free.enclosed (λ m. tt)
makes part.Members = through part.Members free.rowed (λ m. tt)
makes part.Block = through part.Block free.block (λ m. tt)
makes part.Statements = through part.Statements free.rowed (λ m. tt)
makes part.Statement = one_by_one part.Statement (rules part.Statement) statement
makes part.Else = through part.Else free.else_part (λ m. tt)
makes part.ElseArm = through part.ElseArm free.else_arm (λ m. tt)
makes part.Simple = through part.Simple free.simple (λ m. tt)
makes part.MaybeSimple = through part.MaybeSimple free.optional (λ m. tt)
makes part.Atom = one_by_one part.Atom (rules part.Atom) atom
makes part.OtherAtom = one_by_one part.OtherAtom (rules part.OtherAtom) other_atom
makes part.Plain = one_by_one part.Plain (rules part.Plain) plain
makes part.Type = one_by_one part.Type (rules part.Type) type
makes part.Typed = one_by_one part.Typed (rules part.Typed) typed
makes part.Member = one_by_one part.Member (rules part.Member) member
makes part.New = through part.New free.new_part (λ m. tt)
makes part.Extends = through part.Extends free.extended (λ m. tt)
makes part.DeviceBody = through part.DeviceBody free.enclosed (λ m. tt)
makes part.Registers = through part.Registers free.rowed (λ m. tt)
makes part.Register = through part.Register free.register (λ m. tt)
makes part.ProgramBody = through part.ProgramBody free.enclosed (λ m. tt)
makes part.Entries = through part.Entries free.rowed (λ m. tt)
makes part.Entry = through part.Entry free.entry (λ m. tt)
makes part.Key = through part.Key free.optional (λ m. tt)
makes part.Handler = through part.Handler free.handler (λ m. tt)
makes part.Initial = through part.Initial free.behind_sign (λ m. tt)
makes part.Result = through part.Result free.result_type (λ m. tt)
makes part.SuperCall = through part.SuperCall free.super_call (λ m. tt)
makes part.Parameters = one_by_one part.Parameters (rules part.Parameters) parameters
makes part.ParameterList = one_by_one part.ParameterList (rules part.ParameterList) parameter_list
makes part.MoreParameters = one_by_one part.MoreParameters (rules part.MoreParameters) more_parameters
makes part.TypeArguments = through part.TypeArguments free.enclosed (λ m. tt)
makes part.TypeList = through part.TypeList free.types (λ m. tt)
makes part.MoreTypes = through part.MoreTypes free.more_types (λ m. tt)
makes part.PlainResult = through part.PlainResult free.result_type (λ m. tt)
makes part.Dimensions = through part.Dimensions free.dimensions (λ m. tt)
makes part.Condition = through part.Condition free.enclosed (λ m. tt)
makes part.ForHeader = through part.ForHeader free.header (λ m. tt)
makes part.ForTest = through part.ForTest free.enclosed (λ m. tt)
makes part.MaybeExpression = through part.MaybeExpression free.optional (λ m. tt)
makes part.Assigned = through part.Assigned free.behind_sign (λ m. tt)
makes part.Expression = through part.Expression free.level (λ m. tt)
makes part.OrRest = through part.OrRest free.rest_of_level (λ m. tt)
makes part.AndLevel = through part.AndLevel free.level (λ m. tt)
makes part.AndRest = through part.AndRest free.rest_of_level (λ m. tt)
makes part.EqualityLevel = through part.EqualityLevel free.level (λ m. tt)
makes part.EqualityRest = through part.EqualityRest free.rest_of_level (λ m. tt)
makes part.ComparisonLevel = through part.ComparisonLevel free.level (λ m. tt)
makes part.ComparisonRest = through part.ComparisonRest free.rest_of_level (λ m. tt)
makes part.BitOrLevel = through part.BitOrLevel free.level (λ m. tt)
makes part.BitOrRest = through part.BitOrRest free.rest_of_level (λ m. tt)
makes part.BitXorLevel = through part.BitXorLevel free.level (λ m. tt)
makes part.BitXorRest = through part.BitXorRest free.rest_of_level (λ m. tt)
makes part.BitAndLevel = through part.BitAndLevel free.level (λ m. tt)
makes part.BitAndRest = through part.BitAndRest free.rest_of_level (λ m. tt)
makes part.ShiftLevel = through part.ShiftLevel free.level (λ m. tt)
makes part.ShiftRest = through part.ShiftRest free.rest_of_level (λ m. tt)
makes part.ConcatLevel = through part.ConcatLevel free.level (λ m. tt)
makes part.ConcatRest = through part.ConcatRest free.rest_of_level (λ m. tt)
makes part.SumLevel = through part.SumLevel free.level (λ m. tt)
makes part.SumRest = through part.SumRest free.rest_of_level (λ m. tt)
makes part.ProductLevel = through part.ProductLevel free.level (λ m. tt)
makes part.ProductRest = through part.ProductRest free.rest_of_level (λ m. tt)
makes part.CastLevel = through part.CastLevel free.level (λ m. tt)
makes part.CastRest = through part.CastRest free.rest_of_level (λ m. tt)
makes part.Unary = through part.Unary free.unary (λ m. tt)
makes part.Operators = through part.Operators free.operators (λ m. tt)
makes part.Postfix = through part.Postfix free.postfix (λ m. tt)
makes part.Suffixes = through part.Suffixes free.suffixes (λ m. tt)
makes part.Index = through part.Index free.enclosed (λ m. tt)
makes part.Arguments = through part.Arguments free.enclosed (λ m. tt)
makes part.ArgumentList = through part.ArgumentList free.rowed (λ m. tt)
makes part.MoreArguments = through part.MoreArguments free.more_rowed (λ m. tt)
makes part.NewOfName = through part.NewOfName free.new_of_name (λ m. tt)
makes part.NewLevels = through part.NewLevels free.new_levels (λ m. tt)
makes part.NewLevel = through part.NewLevel free.new_level (λ m. tt)
makes part.Primary = through part.Primary free.primary (λ m. tt)
