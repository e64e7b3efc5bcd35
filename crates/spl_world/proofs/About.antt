-- Whatever is sent about a circuit bears its id.
use Rattle.std.{specs.List.list_all, proofs.lemmas.List.Folds.list_all-append}
use Rattle.spl_agree.specs.declared.message.CommitMsg.{CommitMsg}
use Rattle.spl_base.specs.FormLaws.{and_true}
use Rattle.spl_circuit.specs.{Nodes.node_or, declared.act.Act.Act}
use Rattle.spl_command.specs.declared.batch.Batch.{Batch}
use Rattle.spl_cell_rules.specs.{Cells.{Site, Deed, Replies, Binds, Acts, Serves, Turns}, Events.does, Plans.{Lane, admin_lane, service_lane, group_row}}
use Rattle.spl_cell_rules.{specs.{Plans.{group_sends, outgoing, planned}, Valid.are_legal}, proofs.Does.{Does, Declined, Returned, Unserved, does-is}}
use Rattle.spl_wire.specs.Messages.{circuit_of}
use Rattle.spl_world.{specs.Kept.{belongs, send_belongs, SendsBelong, AllBelong, sends_to}, proofs.Common.{◌∙◌, ◌≡◌, ℕ, Bool, true, List, [], ◌∷◌, ◌++◌}}
use Rattle.spl_world.proofs.Common.{Option, Some, None, refl, sym, slice_get, zero, suc, subst, take, IfSome, bytes_eq, bytes_same, both_true, NodeId}
use Rattle.spl_world.proofs.Common.{CircuitId, Definition, Cell, plan_of, is_legal, Event, Message, Outgoing, if_holds}

-- a message names the circuit
abbrev names_it : CircuitId → Message → Bool
names_it c m = bytes_eq (circuit_of m) c

abbrev send_names : CircuitId → Outgoing → Bool
send_names c o = names_it c o.message

abbrev pub SendsName : CircuitId → List Outgoing → Type 0
SendsName c os = list_all (send_names c) os ≡ true

-- a reply is about the circuit
abbrev ReplyIsAbout : CircuitId → Deed → Type 0
ReplyIsAbout c (Replies n to m) = names_it c m ≡ true
ReplyIsAbout c _ = Unit {0}

kind_about : (site : Site) (k : Cell) (e : Event) (deed : Deed) → Does site k e deed → ReplyIsAbout site.circuit deed
kind_about site k e deed (Declined from i gen r place v) = bytes_same site.circuit
kind_about site k e deed (Returned from i gen v d is) = bytes_same site.circuit
kind_about site k e deed (Unserved from i s t gen r place v) = bytes_same site.circuit
kind_about site k e deed _ = tt

-- what a group sends names the circuit where each of its messages does
group_about : {V : Type 0} (c : CircuitId) (lane : Lane V) (back : NodeId) (xs : List (ℕ × CommitMsg V))
    → ((to : NodeId) (x : CommitMsg V) → names_it c (lane.message to x) ≡ true) → SendsName c (group_sends lane back xs)
group_about c lane back [] f = refl
group_about c lane back (x ∷ xs) f = and_true (send_names c (outgoing lane back x)) _ (f (node_or lane.members back x.0) x.1) (group_about c lane back xs f)

acts_about : (site : Site) (d : Definition) (back : NodeId) (xs : List (ℕ × CommitMsg Act)) → SendsName site.circuit (group_sends (admin_lane site d) back xs)
acts_about site d back xs = group_about site.circuit (admin_lane site d) back xs (λ to x. bytes_same site.circuit)

batches_about : (site : Site) (d : Definition) (back : NodeId) (xs : List (ℕ × CommitMsg Batch)) → SendsName site.circuit (group_sends (service_lane site d) back xs)
batches_about site d back xs = group_about site.circuit (service_lane site d) back xs (λ to x. bytes_same site.circuit)

names_append : (c : CircuitId) (xs ys : List Outgoing) → SendsName c xs → SendsName c ys → SendsName c (xs ++ ys)
names_append c xs ys h k = list_all-append (send_names c) xs ys ∙ and_true (list_all (send_names c) xs) (list_all (send_names c) ys) h k

planned_about : (site : Site) (x : Deed) → ReplyIsAbout site.circuit x → SendsName site.circuit (planned site x).sends
planned_about site (Replies n to m) h = and_true (names_it site.circuit m) true h refl
planned_about site (Binds say d back e) h = acts_about site d back _
planned_about site (Acts say b back e) h = acts_about site b.definition back _
planned_about site (Serves say b back e) h = batches_about site b.definition back _
planned_about site (Turns b x y) h = names_append site.circuit _ _ (acts_about site b.definition site.here (group_row (admin_lane site b.definition) b.acts x).sends) (batches_about site b.definition site.here (group_row (service_lane site b.definition) b.batches y).sends)
planned_about site _ h = refl

both_belong : (c : CircuitId) (os : List Outgoing) → SendsName c os → are_legal os ≡ true → SendsBelong c os
both_belong c [] h k = refl
both_belong c (o ∷ os) h k =
    let p = both_true (send_names c o) (list_all (send_names c) os) h in
    let q = both_true (is_legal o.message) (are_legal os) k in
    and_true (send_belongs c o) (list_all (send_belongs c) os) (and_true (names_it c o.message) (is_legal o.message) p.0 q.0) (both_belong c os p.1 q.1)

-- what a plan sends belongs to the circuit, where no batch in it breaks a rule
pub plan_about : (site : Site) (k : Cell) (e : Event) → are_legal (plan_of site k e).sends ≡ true → SendsBelong site.circuit (plan_of site k e).sends
plan_about site k e h = both_belong site.circuit (plan_of site k e).sends (planned_about site (does site k e) (kind_about site k e (does site k e) (does-is site k e))) h

-- ---- what stays so

pub sends_to_about : (c : CircuitId) (b : NodeId) (os : List Outgoing) → SendsBelong c os → AllBelong c (sends_to b os)
sends_to_about c b [] h = refl
sends_to_about c b (o ∷ os) h =
    let p = both_true (send_belongs c o) (list_all (send_belongs c) os) h in
    let rest = sends_to_about c b os p.1 in
    if_holds (AllBelong c) (bytes_eq o.to b) (o.message ∷ sends_to b os) (sends_to b os) (λ q. and_true (belongs c o.message) _ p.0 rest) (λ q. rest)

pub about_append : (c : CircuitId) (xs ys : List Message) → AllBelong c xs → AllBelong c ys → AllBelong c (xs ++ ys)
about_append c xs ys h k = list_all-append (belongs c) xs ys ∙ and_true (list_all (belongs c) xs) (list_all (belongs c) ys) h k

pub about_at : (c : CircuitId) (xs : List Message) (i : ℕ) (m : Message) → AllBelong c xs → slice_get xs i ≡ Some m → belongs c m ≡ true
about_at c [] i m h e = absurd cc
about_at c (x ∷ xs) zero m h e = let same : x ≡ m = cc in subst (λ (y : Message). belongs c y ≡ true) same (both_true (belongs c x) (list_all (belongs c) xs) h).0
about_at c (x ∷ xs) (suc i) m h e = about_at c xs i m (both_true (belongs c x) (list_all (belongs c) xs) h).1 e

pub about_if : (c : CircuitId) (xs : List Message) (i : ℕ) (o : Option Message) → AllBelong c xs → o ≡ slice_get xs i → IfSome o (λ m. belongs c m ≡ true)
about_if c xs i None h e = tt
about_if c xs i (Some m) h e = about_at c xs i m h (sym e)

pub sends_about_take : (c : CircuitId) (os : List Outgoing) (i : ℕ) → SendsBelong c os → SendsBelong c (take i os)
sends_about_take c os zero h = refl
sends_about_take c [] (suc i) h = refl
sends_about_take c (o ∷ os) (suc i) h = let p = both_true (send_belongs c o) (list_all (send_belongs c) os) h in and_true (send_belongs c o) _ p.0 (sends_about_take c os i p.1)

-- what was sent after messages about the circuit
pub posted_about : (c : CircuitId) (xs ys : List Message) (b : NodeId) (os : List Outgoing) → AllBelong c xs → SendsBelong c os → ys ≡ xs ++ sends_to b os → AllBelong c ys
posted_about c xs ys b os h k e = subst (AllBelong c) (sym e) (about_append c xs (sends_to b os) h (sends_to_about c b os k))
