-- How calls leave the links, one after the other.
use Rattle.spl_agree.specs.World.{IsPrefixOf}
use Rattle.spl_edge.{proofs.Results.err_same, specs.Devices.{Rose, Streams}}
use Rattle.spl_pump.{specs.{Wires.{IsMessageDue, LiesOf, Puts, PutsPart, TakesPart}, declared.fault.PumpFault.PumpFault}, proofs.Carrying.goes_on_none}
use Rattle.spl_pump.proofs.{Carrying.{goes_on_more, puts_on, puts_on_part, same_puts}, Lies.lies_due, Taking.{takes_all, takes_due, takes_nothing}}
use Rattle.spl_pump.proofs.{Taking.{takes_of_more, takes_on}, Wires.{part_of_more, puts_nothing, puts_nothing_part, puts_part}}
use Rattle.spl_pump.specs.declared.fault.PumpFault.TheVariants as pump
use Rattle.spl_world.specs.Links.{Carries, CarriesPart, DeliversMessages, HasLinkCause, IsDueIn, LinkView, MayComeLast, WasDue, carry_fault, is_of_links}
use Rattle.spl_world.specs.{Links.{LeavesLinks, LinksGoOn, MayBeDue}, declared.fault.WorldFault.{WorldFault, TheVariants.{Lied, Link, NoMemory, TooMany}}}
use Rattle.spl_world.proofs.Common.{◌≡◌, ◌≢◌, ℕ, ◌≤◌, false, List, [], ◌∷◌, ◌++◌, append_assoc, Result, Ok, Err, OnErr, refl, sym, ap, subst, ◌∙◌, arith, ◌<◌}
use Rattle.spl_world.proofs.{Common.{true, IfErr, IsErr, IsErrOf, IsErrAnd, Carried, only, Message}, Results.failed}

-- ---- how calls leave the links, one after the other

-- a carrier puts nothing where it carries nothing
abbrev pub IsIdle : LinkView → Type 0
IsIdle x = (a b : ℕ) → x.wire [] a b ≡ []

-- what some messages put begins what they and later ones put
abbrev pub HasPrefixes : LinkView → Type 0
HasPrefixes x = (sent later : List Carried) (a b : ℕ) → IsPrefixOf (x.wire sent a b) (x.wire (sent ++ later) a b)

-- an error of no link
abbrev pub IsOff : {A : Type 0} → Result A WorldFault → Type 0
IsOff r = IfErr r (λ e. is_of_links e ≡ false)

-- a call that succeeded, whatever it answered
abbrev pub done : Result ℕ WorldFault
done = Ok 0

-- ---- messages that are carried

idle_puts : (x : LinkView) (s : Streams) → IsIdle x → Puts (x.wire []) s s
idle_puts x s idle = same_puts (λ a b. []) (x.wire []) s s (λ a b. sym (idle a b)) (puts_nothing s)

pub carries_nothing : (x : LinkView) → IsIdle x → Carries [] x x
carries_nothing x idle = record { onward = goes_on_none x.wire idle; put = idle_puts x x.put idle; heard = idle_puts x x.taken idle; no_less = omega arith; hello = refl }

pub carries_then : (xs ys : List Carried) (x y z : LinkView) → Carries xs x y → Carries ys y z → Carries (xs ++ ys) x z
carries_then xs ys x y z a b = record {
  onward = goes_on_more xs ys x.wire y.wire z.wire a.onward b.onward;
  put = puts_on xs ys x.wire y.wire x.put y.put z.put a.onward a.put b.put;
  heard = puts_on xs ys x.wire y.wire x.taken y.taken z.taken a.onward a.heard b.heard;
  no_less = omega (arith, a.no_less, b.no_less);
  hello = b.hello ∙ a.hello;
}

-- ---- a part of them

some_after : (xs ys : List Carried) → ys ≢ [] → xs ++ ys ≢ []
some_after [] ys some = some
some_after (x ∷ xs) ys some = λ q. cc

some_before : (xs ys : List Carried) → xs ≢ [] → xs ++ ys ≢ []
some_before [] ys some = absurd (some refl)
some_before (x ∷ xs) ys some = λ q. cc

due_after : (hello : ℕ → ℕ → List ℕ) (from to : ℕ) (xs ys : List Carried) (a b : ℕ) (bytes : List ℕ) → WasDue hello from to ys a b bytes → WasDue hello from to (xs ++ ys) a b bytes
due_after hello from to xs ys a b bytes d = record {
  before = xs ++ d.before;
  message = d.message;
  later = d.later;
  there = ap (λ (l : List Carried). xs ++ l) d.there ∙ sym (append_assoc xs d.before (only from to d.message ++ d.later));
  due = d.due;
}

due_more : (hello : ℕ → ℕ → List ℕ) (from to : ℕ) (xs ys : List Carried) (a b : ℕ) (bytes : List ℕ) → WasDue hello from to xs a b bytes → WasDue hello from to (xs ++ ys) a b bytes
due_more hello from to xs ys a b bytes d = record {
  before = d.before;
  message = d.message;
  later = d.later ++ ys;
  there = ap (λ (l : List Carried). l ++ ys) d.there ∙ append_assoc d.before (only from to d.message ++ d.later) ys;
  due = d.due;
}

-- a cause stands from an earlier moment on
pub cause_since : (e : WorldFault) (sent : List Carried) (x y z : LinkView) → x.faults ≤ y.faults → y.hello ≡ x.hello → HasLinkCause e sent y z → HasLinkCause e sent x z
cause_since Link sent x y z less same c = (c.0, (let rose = c.1 in omega (arith, less, rose)))
cause_since (Lied from to put got) sent x y z less same c = subst (λ (hello : ℕ → ℕ → List ℕ). LiesOf (WasDue hello from to sent) (pump.Lied put got) z.put z.taken) same c
cause_since _ sent x y z less same c = tt

cause_after : (e : WorldFault) (xs ys : List Carried) (y z : LinkView) → HasLinkCause e ys y z → HasLinkCause e (xs ++ ys) y z
cause_after Link xs ys y z c = (some_after xs ys c.0, c.1)
cause_after (Lied from to put got) xs ys y z c =
    lies_due (WasDue y.hello from to ys) (WasDue y.hello from to (xs ++ ys)) z.put z.taken (pump.Lied put got) (due_after y.hello from to xs ys) c
cause_after _ xs ys y z c = tt

cause_more : (e : WorldFault) (xs ys : List Carried) (x y : LinkView) → HasLinkCause e xs x y → HasLinkCause e (xs ++ ys) x y
cause_more Link xs ys x y c = (some_before xs ys c.0, c.1)
cause_more (Lied from to put got) xs ys x y c = lies_due (WasDue x.hello from to xs) (WasDue x.hello from to (xs ++ ys)) y.put y.taken (pump.Lied put got) (due_more x.hello from to xs ys) c
cause_more _ xs ys x y c = tt

no_cause : (e : WorldFault) (xs : List Carried) (x y : LinkView) → is_of_links e ≡ false → HasLinkCause e xs x y
no_cause Link xs x y off = absurd cc
no_cause (Lied from to put got) xs x y off = absurd cc
no_cause _ xs x y off = tt

-- ---- what was taken of them

-- no other bytes came
pub none_came : (e : WorldFault) → MayComeLast e []
none_came Link = tt
none_came (Lied from to put got) = tt
none_came NoMemory = tt
none_came _ = refl

abbrev takes_then : (xs ys : List Carried) (x y z : LinkView) → Carries xs x y → TakesPart (IsDueIn y.hello ys) (y.wire ys) y.taken z.taken
    → TakesPart (IsDueIn x.hello (xs ++ ys)) (x.wire (xs ++ ys)) x.taken z.taken
takes_then xs ys x y z a t = takes_on xs ys x.wire y.wire x.taken y.taken z.taken a.onward a.heard
    (takes_due (IsDueIn y.hello ys) (IsDueIn x.hello (xs ++ ys)) (λ i j. []) (y.wire ys) y.taken z.taken
    (λ i j bytes (from, to, d). (from, to, subst (λ (hello : ℕ → ℕ → List ℕ). WasDue hello from to (xs ++ ys) i j bytes) a.hello (due_after y.hello from to xs ys i j bytes d))) t)

abbrev takes_first : (xs ys : List Carried) (x y : LinkView) → HasPrefixes x → TakesPart (IsDueIn x.hello xs) (x.wire xs) x.taken y.taken
    → TakesPart (IsDueIn x.hello (xs ++ ys)) (x.wire (xs ++ ys)) x.taken y.taken
takes_first xs ys x y prefixes t = takes_of_more (λ i j. []) (x.wire xs) (x.wire (xs ++ ys)) x.taken y.taken (prefixes xs ys)
    (takes_due (IsDueIn x.hello xs) (IsDueIn x.hello (xs ++ ys)) (λ i j. []) (x.wire xs) x.taken y.taken
    (λ i j bytes (from, to, d). (from, to, due_more x.hello from to xs ys i j bytes d)) t)

pub part_after : (e : WorldFault) (xs ys : List Carried) (x y z : LinkView) → Carries xs x y → CarriesPart e ys y z → CarriesPart e (xs ++ ys) x z
part_after e xs ys x y z a b = record {
  put = puts_on_part xs ys x.wire y.wire x.put y.put z.put a.onward a.put b.put;
  heard = takes_then xs ys x y z a b.heard;
  others = b.others;
  no_less = omega (arith, a.no_less, b.no_less);
  cause = cause_since e (xs ++ ys) x y z a.no_less a.hello (cause_after e xs ys y z b.cause);
}

pub part_more : (e : WorldFault) (xs ys : List Carried) (x y : LinkView) → HasPrefixes x → CarriesPart e xs x y → CarriesPart e (xs ++ ys) x y
part_more e xs ys x y prefixes p = record {
  put = part_of_more (x.wire xs) (x.wire (xs ++ ys)) x.put y.put (prefixes xs ys) p.put;
  heard = takes_first xs ys x y prefixes p.heard;
  others = p.others;
  no_less = p.no_less;
  cause = cause_more e xs ys x y p.cause;
}

carries_part : (e : WorldFault) (xs : List Carried) (x y : LinkView) → is_of_links e ≡ false → Carries xs x y → CarriesPart e xs x y
carries_part e xs x y off k = record {
  put = puts_part (x.wire xs) x.put y.put k.put;
  heard = takes_all (x.wire xs) x.taken y.taken k.heard;
  others = none_came e;
  no_less = k.no_less;
  cause = no_cause e xs x y off;
}

-- ---- calls

pub delivers_as : {A : Type 0} (r : Result A WorldFault) (xs ys : List Carried) (x y : LinkView) → xs ≡ ys → DeliversMessages r xs x y → DeliversMessages r ys x y
delivers_as r xs ys x y same d = subst (λ (l : List Carried). DeliversMessages r l x y) same d

-- one that carries nothing itself
pub delivers_still : {A : Type 0} (r : Result A WorldFault) (xs : List Carried) (x y : LinkView) → IsOff r → Carries xs x y → DeliversMessages r xs x y
delivers_still (Ok a) xs x y off k = k
delivers_still (Err e) xs x y off k = carries_part e xs x y off k

pub delivers_nothing : {A : Type 0} (r : Result A WorldFault) (x : LinkView) → IsIdle x → IsOff r → DeliversMessages r [] x x
delivers_nothing r x idle off = delivers_still r [] x x off (carries_nothing x idle)

-- one that fails as the call in it does
pub delivers_failed : {B : Type 0} (r : Result B WorldFault) (f : WorldFault) → IsErr r × IsErrAnd r (λ y. y ≡ f) → (xs : List Carried) (x y : LinkView)
    → CarriesPart f xs x y → DeliversMessages r xs x y
delivers_failed (Ok b) f e xs x y d = absurd e.1
delivers_failed (Err g) f e xs x y d = subst (λ (h : WorldFault). CarriesPart h xs x y) (sym e.1) d

pub off_limit : {A : Type 0} (r : Result A WorldFault) (n : ℕ) → OnErr r (IsErrOf r (TooMany n)) → IsOff r
off_limit (Ok a) n e = tt
off_limit (Err f) n e = let is : f ≡ TooMany n = cc in ap is_of_links is

-- ---- one message

-- it is due on its way
own_due : (hello : ℕ → ℕ → List ℕ) (from to : ℕ) (m : Message) (a b : ℕ) (bytes : List ℕ) → IsMessageDue hello from to m a b bytes → WasDue hello from to (only from to m) a b bytes
own_due hello from to m a b bytes d = record { before = []; message = m; later = []; there = refl; due = d }

fault_cause : (e : PumpFault) (from to : ℕ) (m : Message) (x y : LinkView) → (e ≡ pump.Link → Rose x.faults y.faults)
    → LiesOf (IsMessageDue x.hello from to m) e y.put y.taken → HasLinkCause (carry_fault from to e) (only from to m) x y
fault_cause pump.Link from to m x y rose lies = (λ q. cc, rose refl)
fault_cause (pump.Lied sent got) from to m x y rose lies =
    lies_due (IsMessageDue x.hello from to m) (WasDue x.hello from to (only from to m)) y.put y.taken (pump.Lied sent got) (own_due x.hello from to m) lies
fault_cause pump.NoMemory from to m x y rose lies = tt

any_came : (e : PumpFault) (from to : ℕ) (last : List ℕ) → MayComeLast (carry_fault from to e) last
any_came pump.Link from to last = tt
any_came (pump.Lied sent got) from to last = tt
any_came pump.NoMemory from to last = tt

-- it was not carried
pub fault_part : (f : WorldFault) (e : PumpFault) (from to : ℕ) (m : Message) (x y : LinkView) → f ≡ carry_fault from to e → PutsPart (x.wire (only from to m)) x.put y.put → TakesPart (IsMessageDue x.hello from to m) (x.wire (only from to m)) x.taken y.taken → x.faults ≤ y.faults → (e ≡ pump.Link → Rose x.faults y.faults)
    → LiesOf (IsMessageDue x.hello from to m) e y.put y.taken → CarriesPart f (only from to m) x y
fault_part f e from to m x y is part came less rose lies = subst (λ (g : WorldFault). CarriesPart g (only from to m) x y) (sym is) (record {
  put = part;
  heard = takes_due (IsMessageDue x.hello from to m) (IsDueIn x.hello (only from to m)) (λ a b. []) (x.wire (only from to m)) x.taken y.taken
      (λ a b bytes d. (from, to, own_due x.hello from to m a b bytes d)) came;
  others = any_came e from to came.last;
  no_less = less;
  cause = fault_cause e from to m x y rose lies;
})

-- nothing was carried yet
pub fails_early : {B : Type 0} (r : Result B WorldFault) (f : WorldFault) → IsErr r × IsErrAnd r (λ y. y ≡ f) → is_of_links f ≡ false
    → (xs : List Carried) (x : LinkView) → DeliversMessages r xs x x
fails_early r f e off xs x = delivers_failed r f e xs x x (record {
  put = part_of_more (λ a b. []) (x.wire xs) x.put x.put (λ a b. (x.wire xs a b, refl)) (puts_nothing_part x.put);
  heard = takes_of_more (λ a b. []) (λ a b. []) (x.wire xs) x.taken x.taken (λ a b. (x.wire xs a b, refl)) (takes_nothing x.taken);
  others = none_came f;
  no_less = omega arith;
  cause = no_cause f xs x x off;
})

-- ---- links that go on

pub links_itself : (x : LinkView) → LinksGoOn x x
links_itself x = record { no_less = omega arith; slots = refl; hello = refl }

pub links_then : (x y z : LinkView) → LinksGoOn x y → LinksGoOn y z → LinksGoOn x z
links_then x y z a b = record { no_less = omega (arith, a.no_less, b.no_less); slots = b.slots ∙ a.slots; hello = b.hello ∙ a.hello }

-- ---- calls

pub faults_ok : {A : Type 0} (a : A) (x y : LinkView) → LinksGoOn x y → LeavesLinks (Ok a) x y
faults_ok a x y on = record { onward = on; link = λ q. cc; lied = λ from to sent got q. cc }

pub faults_same : {A : Type 0} (a : A) (x : LinkView) → LeavesLinks (Ok a) x x
faults_same a x = faults_ok a x x (links_itself x)

-- an error of no link
pub faults_off : {A : Type 0} (r : Result A WorldFault) (x y : LinkView) → IsOff r → LinksGoOn x y → LeavesLinks r x y
faults_off (Ok a) x y off on = faults_ok a x y on
faults_off (Err f) x y off on = record {
  onward = on;
  link = λ q. let is : f ≡ Link = cc in let blames : is_of_links f ≡ true = ap is_of_links is in let none : is_of_links f ≡ false = off in cc;
  lied = λ from to sent got q. let is : f ≡ Lied from to sent got = cc in let blames : is_of_links f ≡ true = ap is_of_links is in let none : is_of_links f ≡ false = off in cc;
}

-- a call after others
pub faults_then : {A : Type 0} (r : Result A WorldFault) (x y z : LinkView) → LinksGoOn x y → LeavesLinks r y z → LeavesLinks r x z
faults_then r x y z on k = record {
  onward = links_then x y z on k.onward;
  link = λ q. let rose = k.link q in let less = on.no_less in omega (arith, less, rose);
  lied = λ from to sent got q.
      let h = k.lied from to sent got q in (
        subst (λ (n : ℕ). from < n) on.slots h.0,
        subst (λ (n : ℕ). to < n) on.slots h.1,
        subst (λ (hello : ℕ → ℕ → List ℕ). LiesOf (MayBeDue hello from to) (pump.Lied sent got) z.put z.taken) on.hello h.2,
      );
}

-- one that fails as the call in it does
pub faults_failed : {A B : Type 0} (r : Result B WorldFault) (f : WorldFault) → IsErr r × IsErrAnd r (λ y. y ≡ f) → (x y : LinkView) → LeavesLinks (failed A f) x y → LeavesLinks r x y
faults_failed {A} r f e x y k = record {
  onward = k.onward;
  link = λ q. k.link (ap (failed A) (err_same r f Link e q));
  lied = λ from to sent got q. k.lied from to sent got (ap (failed A) (err_same r f (Lied from to sent got) e q));
}

-- a message that was not carried, between these nodes
of_fault : {A : Type 0} (e : PumpFault) (from to : ℕ) (x y : LinkView) → from < x.slots → to < x.slots → LinksGoOn x y
    → (e ≡ pump.Link → Rose x.faults y.faults) → LiesOf (MayBeDue x.hello from to) e y.put y.taken → LeavesLinks (failed A (carry_fault from to e)) x y
of_fault pump.Link from to x y low high on rose lies = record { onward = on; link = λ q. rose refl; lied = λ a b sent got q. cc }
of_fault (pump.Lied put taken) from to x y low high on rose lies = record {
  onward = on;
  link = λ q. cc;
  lied = λ a b sent got q.
      let same : pump.Lied put taken ≡ pump.Lied sent got = cc in
      let first : from ≡ a = cc in
      let second : to ≡ b = cc in (
        subst (λ (n : ℕ). n < x.slots) first low,
        subst (λ (n : ℕ). n < x.slots) second high,
        subst (λ (h : PumpFault). LiesOf (MayBeDue x.hello a b) h y.put y.taken) same
            (subst (λ (n : ℕ). LiesOf (MayBeDue x.hello a n) (pump.Lied put taken) y.put y.taken) second
            (subst (λ (n : ℕ). LiesOf (MayBeDue x.hello n to) (pump.Lied put taken) y.put y.taken) first lies)),
      );
}
of_fault pump.NoMemory from to x y low high on rose lies = record { onward = on; link = λ q. cc; lied = λ a b sent got q. cc }

pub faults_carry : {A : Type 0} (f : WorldFault) (e : PumpFault) (from to : ℕ) (m : Message) (x y : LinkView) → f ≡ carry_fault from to e → from < x.slots → to < x.slots → LinksGoOn x y → (e ≡ pump.Link → Rose x.faults y.faults) → LiesOf (IsMessageDue x.hello from to m) e y.put y.taken → LeavesLinks (failed A f) x y
faults_carry {A} f e from to m x y is low high on rose lies = subst (λ (g : WorldFault). LeavesLinks (failed A g) x y) (sym is)
    (of_fault e from to x y low high on rose (lies_due (IsMessageDue x.hello from to m) (MayBeDue x.hello from to) y.put y.taken e (λ a b bytes due. (m, due)) lies))
