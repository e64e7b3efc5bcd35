use Rattle.std.{specs.Prelude.{IsTrue, slice_set}, proofs.{Common.{ℕ, length, refl, sym, ◌∙◌, subst, arith}, lemmas.Option.slice_get_read}}
use Rattle.spl_edge.specs.Devices.{bench}
use Rattle.spl_acceptor.specs.{Worlds.has_name, declared.message.Name.Name}
use Rattle.spl_paxos.specs.Lines.{happening_of}
use Rattle.spl_paxos_run.{specs.Wholes.{ChangesFirst, StepsAt}, proofs.{Benches.{first_changes, with_first}, Stepping.{k_seats, k_pairs, named, stands}}}
use Rattle.spl_paxos_run.proofs.Stepping.{steps_at}
use Rattle.spl_paxos_run.proofs.world.PaxosWorld.step_at.Goals as goal

pub index_mut-requires-2 : goal.index_mut-requires-2
index_mut-requires-2 g c =
    let self = c.args.self.now in
    let below =
    k_pairs g.D.Disk.view self.group c.requires.stands.0
    (happening_of c.args.line.now) c.from-at.result self.seats.items c.args.pairs.now.items c.requires.stands.1.seats c.requires.known
    (c.from-at.ensures ∙ c.requires.place) in
    omega (arith, below, c.args.pairs.now.ok.0)

pub step-requires-clause-named : goal.step-requires-clause-named
step-requires-clause-named g c =
    let view = g.D.Disk.view in
    let self = c.args.self.now in
    let ps = c.args.pairs.now.items in
    let e = happening_of c.args.line.now in
    let seated = c.requires.stands.1.seats in
    let place = c.from-at.ensures ∙ c.requires.place in
    let k = c.from-at.result in
    let low = k_seats view self.group c.requires.stands.0 e k self.seats.items ps seated c.requires.known place in
    let below = k_pairs view self.group c.requires.stands.0 e k self.seats.items ps seated c.requires.known place in
    let at = slice_get_read self.seats.items (length self.seats.items) k c.index_mut.result.now refl low c.index_mut.ensures.value in
    let there = slice_get_read ps (length ps) k c.index_mut-2.result.now refl below c.index_mut-2.ensures.value in
    subst (λ (m : Name). IsTrue (has_name self.group m))
    (sym (named view self.group c.requires.stands.0 e k self.seats.items ps seated c.requires.known place c.index_mut.result.now
    c.index_mut-2.result.now at there)) c.requires.known

pub step-requires-clause-own : goal.step-requires-clause-own
step-requires-clause-own g c =
    let view = g.D.Disk.view in
    let self = c.args.self.now in
    let ps = c.args.pairs.now.items in
    let e = happening_of c.args.line.now in
    let seated = c.requires.stands.1.seats in
    let place = c.from-at.ensures ∙ c.requires.place in
    let k = c.from-at.result in
    let low = k_seats view self.group c.requires.stands.0 e k self.seats.items ps seated c.requires.known place in
    let below = k_pairs view self.group c.requires.stands.0 e k self.seats.items ps seated c.requires.known place in
    let at = slice_get_read self.seats.items (length self.seats.items) k c.index_mut.result.now refl low c.index_mut.ensures.value in
    let there = slice_get_read ps (length ps) k c.index_mut-2.result.now refl below c.index_mut-2.ensures.value in
    sym (named view self.group c.requires.stands.0 e k self.seats.items ps seated c.requires.known place c.index_mut.result.now c.index_mut-2.result.now
    at there)

pub step-requires-clause-stands : goal.step-requires-clause-stands
step-requires-clause-stands g c =
    let view = g.D.Disk.view in
    let self = c.args.self.now in
    let ps = c.args.pairs.now.items in
    let e = happening_of c.args.line.now in
    let es = c.requires.stands.0 in
    let seated = c.requires.stands.1.seats in
    let place = c.from-at.ensures ∙ c.requires.place in
    let k = c.from-at.result in
    let low = k_seats view self.group es e k self.seats.items ps seated c.requires.known place in
    let below = k_pairs view self.group es e k self.seats.items ps seated c.requires.known place in
    let at = slice_get_read self.seats.items (length self.seats.items) k c.index_mut.result.now refl low c.index_mut.ensures.value in
    let there = slice_get_read ps (length ps) k c.index_mut-2.result.now refl below c.index_mut-2.ensures.value in (
      es,
      stands view self.group es e k self.seats.items ps seated c.requires.known place c.index_mut.result.now c.index_mut-2.result.now at there,
      c.requires.stands.1.sent,
    )

pub returns-clause-steps : goal.returns-clause-steps
returns-clause-steps g c = λ es w.
    let view = g.D.Disk.view in
    let self = c.args.self.now in
    let ps = c.args.pairs.now.items in
    let e = happening_of c.args.line.now in
    let place = c.from-at.ensures ∙ c.requires.place in
    let k = c.from-at.result in
    let low = k_seats view self.group es e k self.seats.items ps w.seats c.requires.known place in
    let below = k_pairs view self.group es e k self.seats.items ps w.seats c.requires.known place in
    let at = slice_get_read self.seats.items (length self.seats.items) k c.index_mut.result.now refl low c.index_mut.ensures.value in
    let there = slice_get_read ps (length ps) k c.index_mut-2.result.now refl below c.index_mut-2.ensures.value in
    let q = with_first c.index_mut-2.result.now c.step.new.disk in
    subst (λ (z : ℕ). StepsAt self.group es e z self.seats.items (slice_set self.seats.items k c.step.new.self) (bench view ps)
    (bench view (slice_set ps k q)) c.step.result) c.from-at.ensures
    (steps_at view self.group es e k self.seats.items ps w.seats c.requires.known place c.index_mut.result.now c.index_mut-2.result.now at there
    c.step.new.self q c.step.result c.step.ensures.name
    (c.step.ensures.done es (stands view self.group es e k self.seats.items ps w.seats c.requires.known place c.index_mut.result.now
    c.index_mut-2.result.now at there) w.sent) c.step.ensures.disk)

pub returns-clause-changes : goal.returns-clause-changes
returns-clause-changes g c =
    let view = g.D.Disk.view in
    let self = c.args.self.now in
    let ps = c.args.pairs.now.items in
    let k = c.from-at.result in
    let below =
    k_pairs view self.group c.requires.stands.0 (happening_of c.args.line.now) k self.seats.items ps c.requires.stands.1.seats c.requires.known
    (c.from-at.ensures ∙ c.requires.place) in
    let there = slice_get_read ps (length ps) k c.index_mut-2.result.now refl below c.index_mut-2.ensures.value in
    let q = with_first c.index_mut-2.result.now c.step.new.disk in
    subst (λ (z : ℕ). ChangesFirst z (bench view ps) (bench view (slice_set ps k q))) c.from-at.ensures
    (first_changes view ps k c.index_mut-2.result.now q there below refl)
