-- No rule of the grammar has a token of kind Unknown.
-- Each alternative of each part is looked at by computation: none has a sign of kind Unknown. So no token of a parse has that
-- kind.
use Rattle.std.proofs.Common.{◌≡◌, ℕ, Bool, true, false, not, ◌&&◌, ◌==◌, List, [], ◌∷◌, ◌++◌, Some, None, zero, suc, refl, sym, ap, ◌∙◌, subst}
use Rattle.std.specs.List.{AllByRecursion}
use Rattle.vg_syntax.specs.declared.kind.Kind.{Kind}
use Rattle.vg_syntax.specs.declared.kind.Kind.TheVariants as kind
use Rattle.vg_syntax.specs.declared.token.Token.{Token}
use Rattle.vg_syntax.specs.declared.grammar.Part.{Part}
use Rattle.vg_syntax.specs.declared.grammar.Part.TheVariants as part
use Rattle.vg_syntax.specs.declared.grammar.Symbol.{Symbol}
use Rattle.vg_syntax.specs.declared.grammar.Symbol.TheVariants.{Sign, Use}
use Rattle.vg_syntax.specs.Grammar.{rules}
use Rattle.vg_syntax.specs.Parses.{Parse, Nil, Tok, Sub, leaves, nth, Fits, Sentence}
use Rattle.vg_grammar.specs.Numbers.{number}

abbrev symbols_known : List Symbol → Bool
symbols_known [] = true
symbols_known (Sign k ∷ s) = not (number k == 0) && symbols_known s
symbols_known (Use n ∷ s) = symbols_known s

abbrev rules_known : List (List Symbol) → Bool
rules_known [] = true
rules_known (r ∷ rs) = symbols_known r && rules_known rs

all_known : (n : Part) → rules_known (rules n) ≡ true
all_known part.Text = refl
all_known part.Declarations = refl
all_known part.Declaration = refl
all_known part.Extends = refl
all_known part.ClassBody = refl
all_known part.Members = refl
all_known part.DeviceBody = refl
all_known part.Registers = refl
all_known part.Register = refl
all_known part.ProgramBody = refl
all_known part.Entries = refl
all_known part.Entry = refl
all_known part.Key = refl
all_known part.Handler = refl
all_known part.Member = refl
all_known part.Initial = refl
all_known part.Result = refl
all_known part.SuperCall = refl
all_known part.Parameters = refl
all_known part.ParameterList = refl
all_known part.MoreParameters = refl
all_known part.Typed = refl
all_known part.Type = refl
all_known part.TypeArguments = refl
all_known part.TypeList = refl
all_known part.MoreTypes = refl
all_known part.PlainResult = refl
all_known part.Plain = refl
all_known part.Dimensions = refl
all_known part.Atom = refl
all_known part.OtherAtom = refl
all_known part.Block = refl
all_known part.Statements = refl
all_known part.Statement = refl
all_known part.Condition = refl
all_known part.Else = refl
all_known part.ElseArm = refl
all_known part.ForHeader = refl
all_known part.ForTest = refl
all_known part.MaybeSimple = refl
all_known part.MaybeExpression = refl
all_known part.Simple = refl
all_known part.Assigned = refl
all_known part.Expression = refl
all_known part.OrRest = refl
all_known part.AndLevel = refl
all_known part.AndRest = refl
all_known part.EqualityLevel = refl
all_known part.EqualityRest = refl
all_known part.ComparisonLevel = refl
all_known part.ComparisonRest = refl
all_known part.BitOrLevel = refl
all_known part.BitOrRest = refl
all_known part.BitXorLevel = refl
all_known part.BitXorRest = refl
all_known part.BitAndLevel = refl
all_known part.BitAndRest = refl
all_known part.ShiftLevel = refl
all_known part.ShiftRest = refl
all_known part.ConcatLevel = refl
all_known part.ConcatRest = refl
all_known part.SumLevel = refl
all_known part.SumRest = refl
all_known part.ProductLevel = refl
all_known part.ProductRest = refl
all_known part.CastLevel = refl
all_known part.CastRest = refl
all_known part.Unary = refl
all_known part.Operators = refl
all_known part.Postfix = refl
all_known part.Suffixes = refl
all_known part.Index = refl
all_known part.Arguments = refl
all_known part.ArgumentList = refl
all_known part.MoreArguments = refl
all_known part.New = refl
all_known part.NewOfName = refl
all_known part.NewLevels = refl
all_known part.NewLevel = refl
all_known part.Primary = refl

first : (p q : Bool) → (p && q) ≡ true → p ≡ true
first true q h = refl
first false q h = absurd (let clash : false ≡ true = h in cc)

second : (p q : Bool) → (p && q) ≡ true → q ≡ true
second true q h = h
second false q h = absurd (let clash : false ≡ true = h in cc)

rule_known : (rs : List (List Symbol)) (i : ℕ) (r : List Symbol) → rules_known rs ≡ true → nth rs i ≡ Some r → symbols_known r ≡ true
rule_known [] i r h e = absurd (let clash : None ≡ Some r = e in cc)
rule_known (s ∷ rs) zero r h e = let same : s ≡ r = cc in ap symbols_known (sym same) ∙ first (symbols_known s) (rules_known rs) h
rule_known (s ∷ rs) (suc i) r h e = rule_known rs i r (second (symbols_known s) (rules_known rs) h) e

-- a token that begins at some byte
abbrev pub IsKnown : Token → Type 0
IsKnown t = t.kind ≡ kind.Unknown → ⊥

sign_known : (k l : Kind) → not (number k == 0) ≡ true → l ≡ k → l ≡ kind.Unknown → ⊥
sign_known k l h e f = let zero_number : number k ≡ 0 = ap number (sym e ∙ f) in let clash : false ≡ true = sym (ap (λ n. not (n == 0)) zero_number) ∙ h in cc

join_known : (ts us : List Token) → AllByRecursion IsKnown ts → AllByRecursion IsKnown us → AllByRecursion IsKnown (ts ++ us)
join_known [] us h g = g
join_known (t ∷ ts) us h g = (h.0, join_known ts us h.1 g)

leaves_known : (p : Parse) (s : List Symbol) → symbols_known s ≡ true → Fits p s → AllByRecursion IsKnown (leaves p)
leaves_known Nil s h f = tt
leaves_known (Tok t p) [] h f = absurd f
leaves_known (Tok t p) (Sign k ∷ s) h f =
    (sign_known k t.kind (first (not (number k == 0)) (symbols_known s) h) f.0, leaves_known p s (second (not (number k == 0)) (symbols_known s) h) f.1)
leaves_known (Tok t p) (Use n ∷ s) h f = absurd f
leaves_known (Sub n a kids p) [] h f = absurd f
leaves_known (Sub n a kids p) (Sign k ∷ s) h f = absurd f
leaves_known (Sub n a kids p) (Use m ∷ s) h f =
    join_known (leaves kids) (leaves p) (leaves_known kids f.1 (rule_known (rules n) a f.1 (all_known n) f.2) f.3) (leaves_known p s h f.4)

pub tokens_known : (ts : List Token) → Sentence ts → AllByRecursion IsKnown ts
tokens_known ts h = subst (AllByRecursion IsKnown) h.1.1 (leaves_known h.0 (Use part.Text ∷ []) refl h.1.0)
