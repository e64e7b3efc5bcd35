-- What came and left, one thing after another.
use Rattle.std.{specs.Prelude.OnErr, proofs.Common.{◌≡◌, Bool, true, false, ◌||◌, List, [], ◌∷◌, ◌++◌, Option, Some, None, Result, Ok, Err, ℕ, zero, suc}}
use Rattle.std.proofs.{Common.{◌<◌, length, get_or, take, drop, arith, subst, refl, sym, ◌∙◌, ap, append_assoc}, lemmas.List.append-nil}
use Rattle.spl_agree.proofs.Booleans.{or_true}
use Rattle.spl_serve.specs.Outside.{IsReadable, MayArrive, PortsView, after_arrival, after_departure, asks_to_stop, grown_by, outer, arrivals_stop}
use Rattle.spl_serve.specs.declared.outside.{Arrival.Arrival, Departure.Departure}
use Rattle.spl_serve.specs.declared.outside.Arrival.TheVariants as arrival

outer_append : (xs ys : List Arrival) → outer (xs ++ ys) ≡ outer xs ++ outer ys
outer_append [] ys = refl
outer_append (arrival.Tick c ∷ xs) ys = outer_append xs ys
outer_append (arrival.Line k line ∷ xs) ys = ap (λ (zs : List Arrival). arrival.Line k line ∷ zs) (outer_append xs ys)
outer_append (arrival.Stop k ∷ xs) ys = ap (λ (zs : List Arrival). arrival.Stop k ∷ zs) (outer_append xs ys)
outer_append (arrival.Message from m ∷ xs) ys = ap (λ (zs : List Arrival). arrival.Message from m ∷ zs) (outer_append xs ys)

abbrev view_of : List Arrival → List Departure → Option PortsView
view_of xs gs = Some (record { came = xs; left = gs })

view_is : (xs ys : List Arrival) (gs hs : List Departure) → xs ≡ ys → gs ≡ hs → view_of xs gs ≡ view_of ys hs
view_is xs ys gs hs c l = ap (λ (zs : List Arrival). view_of zs gs) c ∙ ap (λ (zs : List Departure). view_of ys zs) l

-- nothing came and left
pub grown_none : (v : Option PortsView) → v ≡ grown_by [] [] v
grown_none None = refl
grown_none (Some v) = view_is v.came (v.came ++ []) v.left (v.left ++ []) (sym (append-nil v.came)) (sym (append-nil v.left))

-- nor by a tick
pub grown_tick : (v : Option PortsView) (a : Arrival) → outer (a ∷ []) ≡ [] → v ≡ grown_by (a ∷ []) [] v
grown_tick None a h = refl
grown_tick (Some v) a h =
    view_is v.came (v.came ++ outer (a ∷ [])) v.left (v.left ++ []) (sym (ap (λ (xs : List Arrival). v.came ++ xs) h ∙ append-nil v.came))
    (sym (append-nil v.left))

pub grown_twice : (cs ds : List Arrival) (xs ys : List Departure) (v : Option PortsView) → grown_by ds ys (grown_by cs xs v) ≡ grown_by (cs ++ ds) (xs ++ ys) v
grown_twice cs ds xs ys None = refl
grown_twice cs ds xs ys (Some v) = view_is ((v.came ++ outer cs) ++ outer ds) (v.came ++ outer (cs ++ ds)) ((v.left ++ xs) ++ ys) (v.left ++ (xs ++ ys))
    (append_assoc v.came (outer cs) (outer ds) ∙ ap (λ (zs : List Arrival). v.came ++ zs) (sym (outer_append cs ds)))
    (append_assoc v.left xs ys)

-- what comes from outside
pub grown_arrival : (a : Arrival) (v : Option PortsView) → IsReadable (Some a) → after_arrival (Some a) v ≡ grown_by (a ∷ []) [] v
grown_arrival a None h = refl
grown_arrival (arrival.Tick c) (Some v) h = absurd h
grown_arrival (arrival.Line k line) (Some v) h = view_is _ _ v.left (v.left ++ []) refl (sym (append-nil v.left))
grown_arrival (arrival.Message from m) (Some v) h = view_is _ _ v.left (v.left ++ []) refl (sym (append-nil v.left))
grown_arrival (arrival.Stop k) (Some v) h = view_is _ _ v.left (v.left ++ []) refl (sym (append-nil v.left))

pub may_come : (a : Arrival) → IsReadable (Some a) → MayArrive a
may_come (arrival.Tick c) h = tt
may_come (arrival.Line k line) h = tt
may_come (arrival.Stop k) h = tt
may_come (arrival.Message from m) h = h

-- ---- what asks the process to stop

or_swap : (a b c : Bool) → (a || (b || c)) ≡ (b || (a || c))
or_swap true b c = sym (or_true b)
or_swap false b c = refl

or_none : (b : Bool) → (b || false) ≡ b
or_none true = refl
or_none false = refl

pub stops_one : (a : Arrival) → arrivals_stop (a ∷ []) ≡ asks_to_stop a
stops_one a = or_none (asks_to_stop a)

pub stops_append : (xs ys : List Arrival) → arrivals_stop (xs ++ ys) ≡ (arrivals_stop ys || arrivals_stop xs)
stops_append [] ys = sym (or_none (arrivals_stop ys))
stops_append (x ∷ xs) ys = ap (λ (b : Bool). asks_to_stop x || b) (stops_append xs ys) ∙ or_swap (asks_to_stop x) (arrivals_stop ys) (arrivals_stop xs)

-- ---- one thing more leaves

pub grown_departure : (ds : List Departure) (d : Departure) (v : Option PortsView) → after_departure d (grown_by [] ds v) ≡ grown_by [] (ds ++ d ∷ []) v
grown_departure ds d None = refl
grown_departure ds d (Some v) = view_is _ _ ((v.left ++ ds) ++ d ∷ []) (v.left ++ (ds ++ d ∷ [])) refl (append_assoc v.left ds (d ∷ []))

-- one thing more came
pub came_more : (came : List Arrival) (a : Arrival) (o : Option Arrival) (v w x : Option PortsView) → o ≡ Some a → IsReadable o → w ≡ grown_by came [] v
    → x ≡ after_arrival o w → x ≡ grown_by (came ++ a ∷ []) [] v
came_more came a o v w x is readable was now =
    now ∙ ap (λ (p : Option Arrival). after_arrival p w) is ∙ grown_arrival a w (subst IsReadable is readable) ∙ ap (grown_by (a ∷ []) []) was
    ∙ grown_twice came (a ∷ []) [] [] v

pub on_err : {A E P : Type 0} → (r : Result A E) → P → OnErr r P
on_err (Ok a) p = tt
on_err (Err e) p = p

-- a list up to one of its departures, and the rest
pub parts_at : (ds : List Departure) (i : ℕ) (d : Departure) → i < length ds → d ≡ get_or ds i d → ds ≡ (take i ds ++ d ∷ []) ++ drop (suc i) ds
parts_at [] i d below is = absurd (omega arith)
parts_at (x ∷ ds) zero d below is = ap (λ (y : Departure). y ∷ ds) (sym is)
parts_at (x ∷ ds) (suc i) d below is = ap (λ (zs : List Departure). x ∷ zs) (parts_at ds i d (omega arith) is)
