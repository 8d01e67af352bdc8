use Rattle.std.proofs.Common.{refl, subst, sym}
use Rattle.vg_types_tables.specs.declared.judged.Storing.{Storing}
use Rattle.vg_types_tables.specs.Promises.{Stores}
use Rattle.vg_types_tables.specs.Views.{scope_view}
use Rattle.vg_types_leaves.specs.Judgements.{ShowsPlace}
use Rattle.vg_types_leaves.specs.Reached.{Places, reached_at}
use Rattle.vg_types_leaves.specs.Named.{FrontFor, with_this}
use Rattle.vg_types_leaves.proofs.Reading.{sets, sets_this, places, places_this}
use Rattle.vg_types_leaves.proofs.name.named_place.Goals as goal

pub returns-in_ok-aims-in-Some-clause-shows : goal.returns-in_ok-aims-in-Some-clause-shows
returns-in_ok-aims-in-Some-clause-shows c =
    let r = c.args.named.reached in
    let p = subst (Places c.args.id r) c.in-Some.is c.place.ensures in
    let t : Storing = record { aims = c.in_ok-aims-in-Some.aims; store = c.in-Some.place.store; type_ = c.in-Some.place.type_ } in
    subst (λ b. ShowsPlace c.args.names.now c.args.declared.now (with_this b
    (reached_at c.args.names.now c.args.declared.now c.args.id (scope_view c.args.names.now c.args.declared.now c.args.locals.now) r)) t)
    (sym c.if-named.true)
    (places_this c.args.names.now c.args.declared.now c.args.locals.now _ c.in-Some.place t
    (places c.args.names.now c.args.declared.now c.args.locals.now c.args.id r c.in-Some.place c.requires.reached p) c.in_ok-aims-in-Some.ensures refl refl)

pub returns-in_ok-aims-in-Some-clause-typed : goal.returns-in_ok-aims-in-Some-clause-typed
returns-in_ok-aims-in-Some-clause-typed c =
    let r = c.args.named.reached in
    let p = subst (Places c.args.id r) c.in-Some.is c.place.ensures in
    let f = subst (λ b. FrontFor c.args.body b r) c.if-named.true c.requires.front in
    let t : Storing = record { aims = c.in_ok-aims-in-Some.aims; store = c.in-Some.place.store; type_ = c.in-Some.place.type_ } in
    sets_this c.args.names.now c.args.declared.now c.args.locals.now c.args.body c.args.id f.0 r c.in-Some.place t c.requires.reached p f.1 f.2
    c.in_ok-aims-in-Some.ensures refl refl

pub returns-else-named-clause-shows : goal.returns-else-named-clause-shows
returns-else-named-clause-shows c =
    let r = c.args.named.reached in
    let p = subst (Places c.args.id r) c.in-Some.is c.place.ensures in
    subst (λ b. ShowsPlace c.args.names.now c.args.declared.now (with_this b
    (reached_at c.args.names.now c.args.declared.now c.args.id (scope_view c.args.names.now c.args.declared.now c.args.locals.now) r)) c.in-Some.place)
    (sym c.if-named.false) (places c.args.names.now c.args.declared.now c.args.locals.now c.args.id r c.in-Some.place c.requires.reached p)

pub returns-else-named-clause-typed : goal.returns-else-named-clause-typed
returns-else-named-clause-typed c =
    let r = c.args.named.reached in
    let p = subst (Places c.args.id r) c.in-Some.is c.place.ensures in
    let f = subst (λ b. FrontFor c.args.body b r) c.if-named.false c.requires.front in
    subst (λ h. Stores c.args.declared.now.tables c.args.body c.args.locals.now h c.in-Some.place) f
    (sets c.args.names.now c.args.declared.now c.args.locals.now c.args.body c.args.id r c.in-Some.place c.requires.reached p)
