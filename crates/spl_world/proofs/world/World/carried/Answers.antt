use Rattle.spl_cell_rules.proofs.Messages.{sendable-legal}
use Rattle.spl_wire.specs.Messages.{circuit_of}
use Rattle.spl_world.{specs.{Halts.delivery_of, Kept.belongs, Links.{carried_of, link_view}, Views.{places_of, slot_id}}, proofs.Common.{◌≡◌, ◌∙◌, true, ap}}
use Rattle.spl_world.proofs.{Common.{sym, subst, slice_get, [], bytes_eq, both_true, messages, only, is_legal, Message}, Linking.{faults_failed, faults_ok}}
use Rattle.spl_world.proofs.{Linking.{faults_same, carries_nothing, delivers_as, delivers_failed, done}, Seating.{found_delivery, is_for, carried_between}}
use Rattle.spl_world.proofs.{Seating.{moved_ready, ready_at}, Slots.{id_at, place_at, same_at}}
use Rattle.spl_world.proofs.world.World.carried.Goals as goal

-- ---- before it is carried

pub carry-requires-clause-apart : goal.carry-requires-clause-apart
carry-requires-clause-apart g c =
    let xs = c.args.self.now.slots.items in
    c.requires.seats _ _ (place_at xs c.args.sending.now.from c.slot_at-2.result.now c.slot_at-2.ensures) (place_at xs c.args.sending.now.to c.slot_at-3.result.now c.slot_at-3.ensures)

pub carry-requires-clause-from : goal.carry-requires-clause-from
carry-requires-clause-from g c = ready_at c.args.self.now.slots.items _ c.args.sending.now.from c.slot_at-2.result.now c.requires.ready c.slot_at-2.ensures

pub carry-requires-clause-to : goal.carry-requires-clause-to
carry-requires-clause-to g c = ready_at c.args.self.now.slots.items _ c.args.sending.now.to c.slot_at-3.result.now c.requires.ready c.slot_at-3.ensures

pub carry-requires-clause-sendable : goal.carry-requires-clause-sendable
carry-requires-clause-sendable g c =
    let x = c.in-Some.message.now in
    sendable-legal x (both_true (bytes_eq (circuit_of x) c.args.sending.now.circuit) (is_legal x) c.in-Some.ensures.belongs).1

-- ---- no message is there

pub returns-in-None-clause-event : goal.returns-in-None-clause-event
returns-in-None-clause-event g c = λ is m a b h at to. ap (delivery_of a) (c.in-None.ensures.value is m a b h at to)

pub returns-in-None-clause-links : goal.returns-in-None-clause-links
returns-in-None-clause-links g c = λ place is m a b placed h at to.
    let x = link_view (g.C.Carry.view c.args.carrier.now) (g.F.Fabric.view c.args.fabric.now) in
    delivers_as done [] (carried_of (place a) (place b) (slice_get (messages m a b) c.args.sending.now.index)) x x
    (ap (carried_of (place a) (place b)) (c.in-None.ensures.value is m a b h at to)) (carries_nothing x (g.met.C.Carry.idle c.args.carrier.now))

-- ---- a message is there

pub returns : goal.returns
returns g c =
    let xs = c.args.self.now.slots.items in
    let sent = c.args.sending.now in
    let sender = c.slot_at.result.now in
    let from = c.slot_at-2.result.now in
    let to = c.slot_at-3.result.now in
    let value = c.in-Some.ensures.value in
    let came = c.in_ok-message-in-Some.ensures in
    let x = link_view (g.C.Carry.view c.args.carrier.now) (g.F.Fabric.view c.args.fabric.now) in
    let y = link_view (g.C.Carry.view c.carry.new.carrier) (g.F.Fabric.view c.carry.new.fabric) in
    record {
      event = λ is m a b h at there. found_delivery a c.id-sender.result.now c.in-Some.message.now c.in_ok-message-in-Some.message (slice_get (messages m a b) sent.index)
          (c.id-sender.ensures ∙ same_at xs sent.from sender a c.slot_at.ensures at) came.same (value is m a b h at there);
      own = λ n there. is_for n c.id-sender.result.now sent.circuit c.in_ok-message-in-Some.message
          (rw (c.id-sender.ensures) (c.requires.apart (slot_id sender) n (id_at xs sent.from sender c.slot_at.ensures) there))
          (subst (λ (u : Message). belongs sent.circuit u ≡ true) (sym came.same) c.in-Some.ensures.belongs);
      ready = moved_ready (places_of c.args.self.now) x y c.carry.ensures.slots came.going came.taken c.requires.ready;
      links = λ place is m a b placed h at there.
          delivers_as done (only from.position to.position c.in-Some.message.now) (carried_of (place a) (place b) (slice_get (messages m a b) sent.index)) x y
          (carried_between place xs sent.from sent.to from to a b c.in-Some.message.now (slice_get (messages m a b) sent.index) placed
          c.slot_at-2.ensures c.slot_at-3.ensures at there (sym (value is m a b h at there))) came.links;
      faults = faults_ok _ _ _ came.faults.onward;
      few = λ which q. cc;
      disk = λ slot q. cc;
      sound = tt;
    }

pub returns-in_err-message-in-Some-clause-links : goal.returns-in_err-message-in-Some-clause-links
returns-in_err-message-in-Some-clause-links g c = λ place is m a b placed h at to.
    let xs = c.args.self.now.slots.items in
    let same = carried_between place xs c.args.sending.now.from c.args.sending.now.to c.slot_at-2.result.now c.slot_at-3.result.now a b c.in-Some.message.now (slice_get (messages m a b) c.args.sending.now.index) placed c.slot_at-2.ensures c.slot_at-3.ensures at to (sym (c.in-Some.ensures.value is m a b h at to)) in
    let x = link_view (g.C.Carry.view c.args.carrier.now) (g.F.Fabric.view c.args.fabric.now) in
    let y = link_view (g.C.Carry.view c.carry.new.carrier) (g.F.Fabric.view c.carry.new.fabric) in
    let one = only c.slot_at-2.result.now.position c.slot_at-3.result.now.position c.in-Some.message.now in
    delivers_as c.from_residual.result one (carried_of (place a) (place b) (slice_get (messages m a b) c.args.sending.now.index)) x y same
    (delivers_failed c.from_residual.result c.in_err-message-in-Some.field-0.0 c.from_residual.ensures one x y c.in_err-message-in-Some.ensures.links)

-- ---- the faults of the links

pub returns-in-None-clause-faults : goal.returns-in-None-clause-faults
returns-in-None-clause-faults g c = faults_same _ _

pub returns-in_err-message-in-Some-clause-faults : goal.returns-in_err-message-in-Some-clause-faults
returns-in_err-message-in-Some-clause-faults g c = faults_failed c.from_residual.result _ c.from_residual.ensures _ _ c.in_err-message-in-Some.ensures.faults
