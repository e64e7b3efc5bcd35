-- The deed of each event fits its cell.
use Rattle.std.{specs.{Prelude.{◌==◌, nat_le, is_some}, List.list_any, Str.bytes_eq}, proofs.Common.{◌≡◌, ◌≢◌, ℕ, ◌+◌, ◌-◌, ◌^◌, ◌≤◌, Bool, true, false}}
use Rattle.std.proofs.{Common.{◌&&◌, IsTrue, [], length, refl, sym, subst, inl, arith}, lemmas.Bool.Decides.nat_tests}
use Rattle.spl_base.specs.Booleans.{none_of}
use Rattle.spl_agree.specs.{Member.{Group, Member, values, known, changed_by}, Rows.row, Fits.IsRoomy, declared.event.GroupEvent.GroupEvent}
use Rattle.spl_agree.{specs.declared.{limit.TheConstants.MOST_PENDING, message.CommitMsg.CommitMsg}, proofs.Tests.{length-values, lt_is, and_left, and_right}}
use Rattle.spl_agree.proofs.Tests.{or_left, or_right, eqb_not}
use Rattle.spl_agree.specs.declared.message.CommitMsg.TheVariants as msg
use Rattle.spl_agree.specs.declared.event.GroupEvent.TheVariants as group
use Rattle.spl_circuit.specs.{Nodes.{CircuitId, ServiceId, position}, Lifecycle.Life, Acts.act_rules, Same.node_same, declared.act.{Act.Act, ActKind.ActKind}}
use Rattle.spl_circuit.{specs.declared.definition.Definition.Definition, proofs.Lives.place_below}
use Rattle.spl_circuit.specs.declared.act.ActKind.TheVariants as kind
use Rattle.spl_circuit.specs.Forms as form
use Rattle.spl_command.specs.declared.batch.Batch.{Batch}
use Rattle.spl_wire.specs.{Bounds.has_form, declared.event.Event.Event}
use Rattle.spl_wire.specs.declared.message.Message.TheVariants as message
use Rattle.spl_cell_rules.specs.Cells.{Bound, Cell, Site, Deed, fresh, admin_group, service_group, own_life, proposal, next_act, is_act_pending}
use Rattle.spl_cell_rules.specs.{Events.does, Changes.{may_queue, may_serve}, Valid.{IsBoundHeld, IsKept, IsNamed, IsFor, carries, is_legal}}
use Rattle.spl_cell_rules.proofs.{Carried.Brings, Still.{still-tick, still-expire}, Does.{IsClock, Ticks, Expires, IsNextKind, CanBind, Does, Refused, Told}}
use Rattle.spl_cell_rules.proofs.Does.{Declined, Returned, Unserved, Proposed, Asked, Handed, Acted, Taken, Heard, Served, GoesOn, BothGoOn, Left, Forgot}
use Rattle.spl_cell_rules.proofs.{Does.does-is, Deeds.{FitsRow, FitsEvent, BindsAt, FitsDeed, may-other, acts-at, serves-at, abandons-at, purges-at}}
use Rattle.spl_cell_rules.proofs.Deeds.{fits-message, fits-served}

-- the ids of a cell are short
pub short-circuit : (site : Site) → IsNamed site → nat_le (length site.circuit) 11 ≡ true
short-circuit site n =
    and_right (nat_le 11 (length site.circuit)) (nat_le (length site.circuit) 11)
    (and_left (nat_le 11 (length site.circuit) && nat_le (length site.circuit) 11) _ n.circuit)

-- ---- an act of this node

-- where no act of the node pends here, there is space, and the next one isn't known
fits-next : (site : Site) (h : Bound) (w : ActKind) → IsRoomy h.acts → is_act_pending site h ≡ false
    → FitsEvent site h (group.Submit (next_act site.here h.turn w))
fits-next site h w roomy free =
    let rest : _ ≡ false = or_right (list_any (λ v. bytes_eq v.node site.here) h.acts.pending) _ free in
    let more : _ ≡ false = or_right (length h.acts.pending == MOST_PENDING) _ rest in
    let few : length h.acts.pending ≤ MOST_PENDING = roomy.few in
    let space : length h.acts.pending ≢ MOST_PENDING = eqb_not (length h.acts.pending) MOST_PENDING (or_left (length h.acts.pending == MOST_PENDING) _ rest) in
    record {
      due = (
        none_of (known (act_rules h.definition) h.acts (next_act site.here h.turn kind.Accept))
            (or_left (is_some (known (act_rules h.definition) h.acts (next_act site.here h.turn kind.Accept))) _ more),
        omega (arith, few, space),
      );
      queues = inl (rw (node_same site.here, or_left (list_any (λ v. bytes_eq v.node site.here) h.acts.pending) _ free, next_turn h.turn));
    }
  where
    next_turn : (turn : ℕ) → nat_le turn (turn + 1) ≡ true
    next_turn turn = grind (arith, nat_tests)

-- the place of a disband has a byte form, and so have the acts on it
place-fits : (site : Site) (h : Bound) → IsBoundHeld site h → IsTrue (form.word.fits (own_life h).disband.place)
place-fits site h s =
    let below : (own_life h).disband.place ≤ length (values h.acts.history) = place_below h.definition (values h.acts.history) in
    let few : length h.acts.history ≤ 2 ^ 32 - 1 = s.acts.roomy.room in
    let same : length (values h.acts.history) ≡ length h.acts.history = length-values h.acts.history in
    lt_is (own_life h).disband.place (2 ^ 32) (omega (arith, below, few, same))

kind-fits : (l : Life) (w : ActKind) → IsNextKind l w → IsTrue (form.word.fits l.disband.place) → IsTrue (form.kind.fits w)
kind-fits l (kind.Propose d) own f = absurd own
kind-fits l (kind.DisbandAccept place) own f = rw (own, f)
kind-fits l (kind.DisbandReject place) own f = rw (own, f)
kind-fits l (kind.DisbandRemove place) own f = rw (own, f)
kind-fits l _ own f = refl

-- ---- binding

fits-first : (site : Site) (d : Definition) (v : Act) → may_queue site.here 0 [] v ≡ true → FitsEvent site (fresh d) (group.Submit v)
fits-first site d v may = record { due = (refl, omega arith); queues = inl may }

-- by a message
binds-heard : (site : Site) (k : Cell) (gen : ℕ) (d : Definition) (e : GroupEvent Act) (v : Act) → CanBind site k gen d → v.kind ≡ kind.Propose d
    → has_form v ≡ true → FitsEvent site (fresh d) e → Brings has_form e → BindsAt site k d e
binds-heard site k gen d e v b is formed fit brings = record {
  free = rw (b.bind.free, b.own, b.bind.ruled, b.bind.member);
  defined = subst (λ (w : ActKind). IsTrue (form.kind.fits w)) is (and_right (form.node_id.fits v.node) (form.kind.fits v.kind) formed);
  fit = fit;
  brings = brings;
}

-- ---- a group that goes on

clock-fits : {V : Type 0} {x : GroupEvent V} (g : Group V) (may : V → Bool) (here : ℕ) (m : Member V) → IsClock x → FitsRow g may here m x
clock-fits g may here m Ticks = record { due = tt; queues = inl tt }
clock-fits g may here m Expires = record { due = tt; queues = inl tt }

pub clock-brings : {V : Type 0} {x : GroupEvent V} (may : V → Bool) → IsClock x → Brings may x
clock-brings may Ticks = tt
clock-brings may Expires = tt

clock-still : {V : Type 0} {x : GroupEvent V} (g : Group V) (here : ℕ) (m : Member V) → IsClock x
    → (changed_by g.rules m (row g here m x).changes).history ≡ m.history
clock-still g here m Ticks = still-tick g here m
clock-still g here m Expires = still-expire g here m

-- ---- what a cell may hear

legal-act : (i : CircuitId) (x : CommitMsg Act) → is_legal (message.Admin i x) ≡ true → carries has_form x ≡ true
legal-act i x legal = and_right (nat_le (length i) 11) _ legal

record IsLegal (s t : ServiceId) (x : CommitMsg Batch) : Type 0 where
  sender : nat_le (length s) 4 ≡ true
  recipient : nat_le (length t) 4 ≡ true
  lawful : carries may_serve x ≡ true

legal-batch : (i : CircuitId) (s t : ServiceId) (x : CommitMsg Batch) → is_legal (message.Scabbard i s t x) ≡ true → IsLegal s t x
legal-batch i s t x legal =
    let ends : _ ≡ true = and_right (nat_le (length i) 11) _ legal in
    let more : _ ≡ true = and_right (nat_le (length s) 4) _ ends in
    record {
      sender =
          and_left (nat_le (length s) 4) _ ends;
      recipient = and_left (nat_le (length t) 4) _ more;
      lawful = and_right (nat_le (length t) 4) _ more;
    }

-- ---- each kind

fits-kind : (site : Site) (k : Cell) (e : Event) (deed : Deed) → Does site k e deed → IsNamed site → IsFor site e → IsKept site k → FitsDeed site k deed
fits-kind site k e deed (Refused why) n own s = tt
fits-kind site k e deed (Told a q) n own s = tt
fits-kind site k e deed (Declined from i gen r place v) n own s = rw (short-circuit site n)
fits-kind site k e deed (Returned from i gen v d is) n own s = rw (short-circuit site n, legal-act i (msg.Forward gen v) own.2)
fits-kind site k e deed (Unserved from i t u gen r place v) n own s =
    let legal = legal-batch i t u (msg.VoteRequest gen r place v) own.2 in rw (short-circuit site n, legal.sender, legal.recipient)
fits-kind site k e deed (Proposed d b) n own s =
    record {
      free = rw (b.free, own.0, b.ruled, b.member);
      defined = own.1;
      fit = fits-first site d (proposal site.here d) (rw (node_same site.here));
      brings = rw (n.node, own.1);
    }
fits-kind site k e deed (Asked d from i gen r place v is b leads) n own s =
    let legal = legal-act i (msg.VoteRequest gen r place v) own.2 in
    binds-heard site k gen d _ v b is legal
    (fits-message site (fresh d) from (msg.VoteRequest gen r place v) b.bind.ruled b.bind.member (sym b.same) own.1) legal
fits-kind site k e deed (Handed d from i gen v is b leads its) n own s =
    let legal = legal-act i (msg.Forward gen v) own.2 in
    binds-heard site k gen d _ v b is legal (fits-first site d v (may-other site.here 0 [] v (rw (its, own.1)))) legal
fits-kind site k e deed (Acted h f w next kept unclosed free some) n own s =
    acts-at site h _ unclosed (fits-next site h w s.acts.roomy free) (rw (n.node, kind-fits (own_life h) w kept (place-fits site h s)))
fits-kind site k e deed (Taken h v unclosed active good unknown room) n own s =
    let few : length h.batches.pending ≤ MOST_PENDING = s.batches.roomy.few in
    let space : length h.batches.pending ≢ MOST_PENDING = eqb_not (length h.batches.pending) MOST_PENDING room in
    serves-at site h (group.Submit v) unclosed active (record { due = (unknown, omega (arith, few, space)); queues = inl (rw good) }) (rw good)
fits-kind site k e deed (Heard h from i x unclosed same) n own s =
    acts-at site h _ unclosed (fits-message site h from x s.ruled s.member same own.1) (legal-act i x own.2)
fits-kind site k e deed (Served h from i t u x unclosed active same) n own s =
    let legal = legal-batch i t u x own.2 in
    serves-at site h _ unclosed active (fits-served site h from x s.ruled s.member same own.1 legal.lawful) legal.lawful
fits-kind site k e deed (GoesOn h x unclosed p) n own s =
    acts-at site h x unclosed (clock-fits (admin_group h.definition) _ _ h.acts p) (clock-brings has_form p)
fits-kind site k e deed (BothGoOn h x y unclosed active p q) n own s = record {
  held = refl;
  unclosed = unclosed;
  active = active;
  fit = clock-fits (admin_group h.definition) _ _ h.acts p;
  still = clock-still (admin_group h.definition) (position h.definition.members site.here) h.acts p;
  asks = clock-brings has_form p;
  serves = clock-fits (service_group h.definition) _ _ h.batches q;
  brings = clock-brings may_serve q;
}
fits-kind site k e deed (Left h unclosed active) n own s = abandons-at h unclosed active
fits-kind site k e deed (Forgot h) n own s = purges-at h

pub fits-does : (site : Site) (k : Cell) (e : Event) → IsNamed site → IsFor site e → IsKept site k → FitsDeed site k (does site k e)
fits-does site k e n own s = fits-kind site k e (does site k e) (does-is site k e) n own s
