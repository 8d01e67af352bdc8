-- What loads and stores become, from where values wait.
use Rattle.std.specs.Prelude.{ℕ, ◌-◌, ◌*◌, Bool, not, ◌==◌, ◌&&◌, nat_lt, nat_le, List, [], ◌∷◌, Option, Some, None, slice_get, if◌then◌else◌}
use Rattle.vg_firm.specs.declared.step.Home.{Home}
use Rattle.vg_firm.specs.declared.step.Home.TheVariants.{Ram as InRam, Flash as InFlash}
use Rattle.vg_firm.specs.declared.step.ArrayPlace.{ArrayPlace}
use Rattle.vg_firm.specs.declared.step.Elements.{Elements}
use Rattle.vg_lin.specs.declared.instr.Operand.{Operand}
use Rattle.vg_lin.specs.declared.instr.Operand.TheVariants.{Local as InLocal, Known}
use Rattle.vg_lin.specs.declared.instr.Operator.TheVariants.{Plus as Sum, Minus as Difference, Times as Product}
use Rattle.vg_lin.specs.declared.instr.Comparison.TheVariants.{Below}
use Rattle.vg_lin.specs.declared.instr.Plain.{Plain}
use Rattle.vg_lin.specs.declared.instr.Plain.TheVariants.{Compute, Load, Store as StoreBytes, Stop}
use Rattle.vg_lin.specs.declared.instr.Memory.{Memory}
use Rattle.vg_lin.specs.declared.instr.Memory.TheVariants.{Ram, Flash}
use Rattle.vg_flatten_shapes.specs.declared.fault.Fault.TheVariants.{NotTaken}
use Rattle.vg_flatten_shapes.specs.declared.layout.Layout.{Layout}
use Rattle.vg_flatten_shapes.specs.declared.layout.Place.{Place}
use Rattle.vg_flatten_shapes.specs.declared.room.Room.{Room}
use Rattle.vg_flatten_shapes.specs.declared.open.Truth.TheVariants.{Holds, Fails}
use Rattle.vg_flatten_places.specs.declared.elements.Reach.{Reach}
use Rattle.vg_flatten_shapes.specs.Shapes.{only, temp}
use Rattle.vg_flatten_shapes.specs.Blocks.{Block, Skip, One, Both, stop_where}
use Rattle.vg_flatten_shapes.specs.Made.{Made, Gives, Refused, by_temp, is_zero}
use Rattle.vg_flatten_values.specs.Values.{test_of}

-- ---- null checks

-- Whether a number may be null, for all that is known: the receiver, which is the first local, is not where it is an object.
abbrev pub may_be_null : Room → Operand → Bool
may_be_null r (InLocal i) = not (r.on_objects && (i == 0))
may_be_null r (Known v) = v == 0

-- The run stops where it is.
abbrev pub null_check : Room → Operand → Block
null_check r h = if may_be_null r h then stop_where 1 (Holds (is_zero h)) else Skip

-- ---- what is not there

-- The null check of a field that no object has, whose value is 0.
abbrev pub load_no_field : Room → List Operand → Made
load_no_field r (h ∷ hs) = Gives (null_check r h) (only (Known 0 ∷ hs))
load_no_field r [] = Refused NotTaken

-- The null check of a field that is not kept.
abbrev pub store_no_field : Room → List Operand → Made
store_no_field r (v ∷ h ∷ hs) = Gives (null_check r h) (only hs)
store_no_field r _ = Refused NotTaken

-- The null check of an array of which nothing is there: 0 is read.
abbrev pub load_nothing : List Operand → Made
load_nothing (h ∷ hs) = Gives (stop_where 1 (Holds (is_zero h))) (only (Known 0 ∷ hs))
load_nothing [] = Refused NotTaken

-- The same where it is written.
abbrev pub store_nothing : List Operand → Made
store_nothing (v ∷ h ∷ hs) = Gives (stop_where 1 (Holds (is_zero h))) (only hs)
store_nothing _ = Refused NotTaken

-- An element, where its type has no arrays and so no table: all that an array can be is null.
abbrev pub load_no_item : List Operand → Made
load_no_item (i ∷ hs) = load_nothing hs
load_no_item [] = Refused NotTaken

abbrev pub store_no_item : List Operand → Made
store_no_item (v ∷ i ∷ hs) = store_nothing (v ∷ hs)
store_no_item _ = Refused NotTaken

-- ---- columns and tables

-- A number of bytes that a load takes.
abbrev pub is_width : (width : ℕ) → Bool
is_width width = nat_lt 0 width && nat_lt width 5

abbrev pub load_from : Memory → (width to base : ℕ) → Operand → Plain
load_from memory width to base index = Load memory width to (record { base = base; index = index })

-- A number, so many times. An address has two bytes, and so has each part of the sum that it is.
abbrev pub multiplied : (to by : ℕ) → Operand → Block
multiplied to by h = if by == 1 then Skip else One (Compute (record { operator = Product; width = 2; to = to; left = h; right = Known by }))

abbrev pub multiple : (to by : ℕ) → Operand → Operand
multiple to by h = if by == 1 then h else InLocal to

-- Behind the null check of a number, so many bytes: those at a base, so many times further as the number says.
abbrev pub fetched : Room → Memory → (width by base : ℕ) → Operand → List Operand → Made
fetched r memory width by base h hs =
    by_temp (temp r hs) (λ to. Gives (Both (null_check r h)
    (Both (multiplied to by h) (One (load_from memory width to base (multiple to by h))))) (only (InLocal to ∷ hs)))

-- The one value of a column.
abbrev pub load_one : Room → Memory → Option Place → List Operand → Made
load_one r memory (Some place) hs =
    if is_width place.width then by_temp (temp r hs) (λ to. Gives (One (load_from memory place.width to place.address (Known 0))) (only (InLocal to ∷ hs)))
    else Refused NotTaken
load_one r memory None hs = Refused NotTaken

-- How far a number is behind another.
abbrev pub distance : (to first : ℕ) → Operand → Plain
distance to first h = Compute (record { operator = Difference; width = 4; to = to; left = h; right = Known first })

-- The same, where the number is counted from another one.
abbrev pub fetched_from : Room → Memory → (width first base : ℕ) → Operand → List Operand → Made
fetched_from r memory width first base h hs =
    by_temp (temp r hs) (λ to. Gives (Both (null_check r h) (Both (One (distance to first h))
    (Both (multiplied to width (InLocal to)) (One (load_from memory width to base (multiple to width (InLocal to))))))) (only (InLocal to ∷ hs)))

-- The value of an object: the column begins with that of the first, and an object of the number 0 may be at no address at all.
abbrev pub load_placed : Room → Memory → (width first address : ℕ) → Operand → List Operand → Made
load_placed r memory width first address h hs =
    if nat_le (width * first) address then fetched r memory width width (address - width * first) h hs else fetched_from r memory width first address h hs

-- Behind the null check of a number, the bytes of the one entry that there is.
abbrev pub load_sole : Room → Memory → (width address : ℕ) → Operand → List Operand → Made
load_sole r memory width address h hs =
    by_temp (temp r hs) (λ to. Gives (Both (null_check r h) (One (load_from memory width to address (Known 0))))
    (only (InLocal to ∷ hs)))

-- A column of one entry has one object: no other number is in it.
abbrev pub load_entry : Room → Memory → (first : ℕ) → Place → Operand → List Operand → Made
load_entry r memory first place h hs =
    if place.count == 1 then load_sole r memory place.width place.address h hs else load_placed r memory place.width first place.address h hs

abbrev pub load_of : Room → Memory → (first : ℕ) → Option Place → List Operand → Made
load_of r memory first (Some place) (h ∷ hs) = if is_width place.width then load_entry r memory first place h hs else Refused NotTaken
load_of r memory first _ _ = Refused NotTaken

-- The length of an array: four bytes of a table are the place of one, and the upper two its length. Where there is no table, there is no array.
abbrev pub length_of : Room → Option ℕ → List Operand → Made
length_of r None hs = load_nothing hs
length_of r (Some table) (h ∷ hs) = if nat_le 2 table then fetched r Flash 2 4 (table - 2) h hs else Refused NotTaken
length_of r (Some table) [] = Refused NotTaken

-- The array of a table that has no other, where the layout says it.
abbrev pub lone_in : Option (Option ArrayPlace) → Option ArrayPlace
lone_in (Some o) = o
lone_in None = None

abbrev pub lone_of : Layout → (table : ℕ) → Option ArrayPlace
lone_of lay table = lone_in (slice_get lay.lone_arrays table)

-- Its length is known behind the null check.
abbrev pub known_length : (length : ℕ) → List Operand → Made
known_length length (h ∷ hs) = Gives (stop_where 1 (Holds (is_zero h))) (only (Known length ∷ hs))
known_length length [] = Refused NotTaken

abbrev pub array_length : Room → Option ArrayPlace → Option ℕ → List Operand → Made
array_length r (Some a) table hs = known_length a.length hs
array_length r None table hs = length_of r table hs

-- A store at a base, so many bytes further as a number says, behind its null check.
abbrev pub store_at : (width base : ℕ) → (index value : Operand) → Plain
store_at width base index value = StoreBytes width (record { base = base; index = index }) value

-- The one value of a column gets a value of so many bytes, as many as an entry has.
abbrev pub store_one : (width : ℕ) → Option Place → List Operand → Made
store_one width (Some place) (v ∷ hs) =
    if is_width width && (width == place.width) then Gives (One (store_at width place.address (Known 0) v)) (only hs) else Refused NotTaken
store_one width _ _ = Refused NotTaken

-- The value of an object does.
abbrev pub put_of : Room → (width base : ℕ) → (v h : Operand) → List Operand → Made
put_of r width base v h hs =
    by_temp (temp r (v ∷ h ∷ hs)) (λ to. Gives (Both (null_check r h)
    (Both (multiplied to width h) (One (store_at width base (multiple to width h) v)))) (only hs))

abbrev pub put_from : Room → (width first base : ℕ) → (v h : Operand) → List Operand → Made
put_from r width first base v h hs =
    by_temp (temp r (v ∷ h ∷ hs)) (λ to. Gives (Both (null_check r h) (Both (One (distance to first h))
    (Both (multiplied to width (InLocal to)) (One (store_at width base (multiple to width (InLocal to)) v))))) (only hs))

abbrev pub store_placed : Room → (width first address : ℕ) → (v h : Operand) → List Operand → Made
store_placed r width first address v h hs =
    if nat_le (width * first) address then put_of r width (address - width * first) v h hs else put_from r width first address v h hs

-- The one entry that there is does.
abbrev pub put_sole : Room → (width address : ℕ) → (v h : Operand) → List Operand → Made
put_sole r width address v h hs = Gives (Both (null_check r h) (One (store_at width address (Known 0) v))) (only hs)

abbrev pub store_entry : Room → (first width : ℕ) → Place → (v h : Operand) → List Operand → Made
store_entry r first width place v h hs =
    if place.count == 1 then put_sole r width place.address v h hs else store_placed r width first place.address v h hs

abbrev pub store_of : Room → (first width : ℕ) → Option Place → List Operand → Made
store_of r first width (Some place) (v ∷ h ∷ hs) =
    if is_width width && (width == place.width) then store_entry r first width place v h hs else Refused NotTaken
store_of r first width _ _ = Refused NotTaken

-- The places of the columns of a home, and the memory where they are.
abbrev pub places_in : Layout → Home → List Place
places_in lay InRam = lay.ram
places_in lay InFlash = lay.flash

abbrev pub memory_of : Home → Memory
memory_of InRam = Ram
memory_of InFlash = Flash

-- ---- elements of arrays

-- The column of a type of arrays stands where its elements are said to stand, in as many bytes.
abbrev pub is_place : Elements → Place → Bool
is_place e place = (e.address == place.address) && (e.width == place.width)

abbrev pub timed : (to by : ℕ) → Operand → Plain
timed to by h = Compute (record { operator = Product; width = 2; to = to; left = h; right = Known by })

-- What is done with the address of an element, which is so many times its width behind that of the array.
abbrev pub place_of : Reach → (last : Plain) → Block
place_of x last =
    Both (One (load_from Flash 2 x.first (x.table - 4) (InLocal x.first)))
    (Both (One (timed x.second x.width x.index))
    (Both (One (Compute (record { operator = Sum; width = 2; to = x.first; left = InLocal x.first; right = InLocal x.second }))) (One last)))

-- The same, or a stop where the elements have no column: then no array has an element, and no index is within bounds.
abbrev pub inside : Reach → (last : Option Plain) → Block
inside x (Some last) = place_of x last
inside x None = One (Stop 2)

-- The same behind the bounds check.
abbrev pub bounded : Reach → (last : Option Plain) → Block
bounded x last = Both (stop_where 2 (Fails (test_of Below x.index (InLocal x.second)))) (inside x last)

-- The same behind a load of the length of the array.
abbrev pub reached : Reach → (last : Option Plain) → Block
reached x last = Both (One (timed x.first 4 x.home)) (Both (One (load_from Flash 2 x.second (x.table - 2) (InLocal x.first))) (bounded x last))

-- The same behind the null check.
abbrev pub element_of : Reach → (last : Option Plain) → Block
element_of x last = Both (stop_where 1 (Holds (is_zero x.home))) (reached x last)

-- What is done with two temporaries above these.
abbrev pub by_two : Room → List Operand → ((first second : ℕ) → Made) → Made
by_two r hs go = by_temp (temp r hs) (λ first. by_temp (temp r (InLocal first ∷ hs)) (λ second. go first second))

abbrev pub load_element : Room → Elements → (table : ℕ) → (h i : Operand) → List Operand → Made
load_element r e table h i hs =
    by_temp (temp r hs) (λ to. by_two r (i ∷ h ∷ hs) (λ first second.
    Gives (element_of (record { first = first; second = second; table = table; width = e.width; home = h; index = i })
    (Some (load_from (memory_of e.home) e.width to 0 (InLocal first)))) (only (InLocal to ∷ hs))))

-- The checks of an array and an index, where the elements have no column; the homes behind them.
abbrev pub no_element : Room → (width table : ℕ) → (h i : Operand) → (hs left : List Operand) → Made
no_element r width table h i hs left =
    by_two r (i ∷ h ∷ hs) (λ first second.
    Gives (element_of (record { first = first; second = second; table = table; width = width; home = h; index = i }) None) (only left))

-- What is done with the element of an array that is the only one of its table, behind the bounds check.
abbrev pub lone_bounded : (length width to : ℕ) → (index : Operand) → (last : Plain) → Block
lone_bounded length width to index last =
    Both (stop_where 2 (Fails (test_of Below index (Known length)))) (Both (multiplied to width index) (One last))

-- The same behind the null check.
abbrev pub lone_element : (length width to : ℕ) → (home index : Operand) → (last : Plain) → Block
lone_element length width to home index last = Both (stop_where 1 (Holds (is_zero home))) (lone_bounded length width to index last)

abbrev pub load_lone : Room → Elements → ArrayPlace → (h i : Operand) → List Operand → Made
load_lone r e a h i hs =
    by_temp (temp r hs) (λ to. Gives (lone_element a.length e.width to h i
    (load_from (memory_of e.home) e.width to a.address (multiple to e.width i))) (only (InLocal to ∷ hs)))

-- By whether the array of the table is the only one.
abbrev pub load_inside : Room → Option ArrayPlace → Elements → (table : ℕ) → (h i : Operand) → List Operand → Made
load_inside r (Some a) e table h i hs = load_lone r e a h i hs
load_inside r None e table h i hs = load_element r e table h i hs

-- Where the elements have no column.
abbrev pub load_dropped : Room → Elements → (table : ℕ) → List Operand → Made
load_dropped r e table (i ∷ h ∷ hs) = if nat_le 4 table then no_element r e.width table h i hs (Known 0 ∷ hs) else Refused NotTaken
load_dropped r e table _ = Refused NotTaken

abbrev pub load_item : Room → Option ArrayPlace → Elements → Option Place → Option ℕ → List Operand → Made
load_item r single e place None hs = load_no_item hs
load_item r single e (Some place) (Some table) (i ∷ h ∷ hs) =
    if is_width e.width && is_place e place && nat_le 4 table then load_inside r single e table h i hs else Refused NotTaken
load_item r single e (Some place) (Some table) _ = Refused NotTaken
load_item r single e None (Some table) hs = load_dropped r e table hs

abbrev pub store_element : Room → (width table : ℕ) → (v h i : Operand) → List Operand → Made
store_element r width table v h i hs =
    by_two r (v ∷ i ∷ h ∷ hs) (λ first second.
    Gives (element_of (record { first = first; second = second; table = table; width = width; home = h; index = i })
    (Some (store_at width 0 (InLocal first) v))) (only hs))

abbrev pub store_lone : Room → (width : ℕ) → ArrayPlace → (v h i : Operand) → List Operand → Made
store_lone r width a v h i hs =
    by_temp (temp r (v ∷ i ∷ h ∷ hs)) (λ to. Gives (lone_element a.length width to h i (store_at width a.address (multiple to width i) v)) (only hs))

abbrev pub store_inside : Room → Option ArrayPlace → (width table : ℕ) → (v h i : Operand) → List Operand → Made
store_inside r (Some a) width table v h i hs = store_lone r width a v h i hs
store_inside r None width table v h i hs = store_element r width table v h i hs

abbrev pub store_dropped : Room → Elements → (table : ℕ) → List Operand → Made
store_dropped r e table (v ∷ i ∷ h ∷ hs) = if nat_le 4 table then no_element r e.width table h i hs hs else Refused NotTaken
store_dropped r e table _ = Refused NotTaken

abbrev pub store_item : Room → Option ArrayPlace → Elements → Option Place → Option ℕ → List Operand → Made
store_item r single e place None hs = store_no_item hs
store_item r single e (Some place) (Some table) (v ∷ i ∷ h ∷ hs) =
    if is_width e.width && is_place e place && nat_le 4 table then store_inside r single e.width table v h i hs else Refused NotTaken
store_item r single e (Some place) (Some table) _ = Refused NotTaken
store_item r single e None (Some table) hs = store_dropped r e table hs
