-- Cells of few members: what an event sends there, and the cell after it.
use Rattle.std.proofs.{Common.{◌≡◌, ◌≤◌, List, [], ◌∷◌, ◌++◌, length, length-append, map, None, arith}, lemmas.List.length-map}
use Rattle.spl_agree.specs.{Member.{Rules, Member, new_member, changed}, declared.event.{GroupChange.GroupChange, GroupEvent.GroupEvent, OpenMove.OpenMove}}
use Rattle.spl_agree.specs.declared.event.GroupChange.TheVariants as change
use Rattle.spl_agree.specs.declared.event.GroupEvent.TheVariants as group
use Rattle.spl_agree.specs.declared.message.CommitMsg.TheVariants as msg
use Rattle.spl_circuit.specs.{Acts.act_rules, Nodes.{NodeId, position}, Rules.broken, declared.{act.Act.Act, definition.Definition.Definition}}
use Rattle.spl_circuit.proofs.Valid.{few_members}
use Rattle.spl_command.specs.declared.batch.Batch.{Batch}
use Rattle.spl_scabbard.specs.Checks.{batch_rules}
use Rattle.spl_wire.specs.declared.{change.Change.Change, event.Event.Event, plan.Plan.Plan}
use Rattle.spl_wire.specs.declared.change.Change.TheVariants as durable
use Rattle.spl_cell_rules.specs.Cells.{Cell, Empty, Held, Purged, Site, Deed, Say, Submitted, Delivered, Alone, fresh, admin_group, service_group, proposal}
use Rattle.spl_cell_rules.specs.{Cells.next_act, Changes.{made_one, changes_made, moved_cell, stopped_cell, after_plan}, Events.does, Plans.planned}
use Rattle.spl_cell_rules.{specs.Plans.{plan_of, group_plan, group_row, admin_lane, service_lane, outgoing}, proofs.Does.{Does, Refused, Told, Declined}}
use Rattle.spl_cell_rules.proofs.Does.{Returned, Unserved, Proposed, Asked, Handed, Acted, Taken, Heard, Served, GoesOn, BothGoOn, Left, Forgot, does-is}
use Rattle.spl_trace.proofs.FewSends.{IsShort, few-row, moved-short}

-- its definition breaks no rule, and its open rounds wait for few
abbrev pub IsSmall : Cell → Type 0
IsSmall (Held h) = (broken h.definition ≡ None) × IsShort h.acts × IsShort h.batches
IsSmall _ = Unit {0}

few : (d : Definition) → broken d ≡ None → length d.members ≤ 8
few d ruled = (few_members d ruled).1

new-short : (V : Type 0) → IsShort {V = V} new_member
new-short V o e = absurd cc

fresh-small : (d : Definition) → broken d ≡ None → IsSmall (Held (fresh d))
fresh-small d ruled = (ruled, new-short Act, new-short Batch)

-- ---- changes

-- what is bound breaks no rule
abbrev pub MayMake : Change → Type 0
MayMake (durable.Bind d) = broken d ≡ None
MayMake _ = Unit {0}

abbrev pub AllMake : List Change → Type 0
AllMake [] = Unit {0}
AllMake (x ∷ xs) = MayMake x × AllMake xs

make-append : (xs ys : List Change) → AllMake xs → AllMake ys → AllMake (xs ++ ys)
make-append [] ys h k = k
make-append (x ∷ xs) ys h k = (h.0, make-append xs ys h.1 k)

make-acts : (xs : List (GroupChange Act)) → AllMake (map durable.Admin xs)
make-acts [] = tt
make-acts (x ∷ xs) = (tt, make-acts xs)

make-batches : (xs : List (GroupChange Batch)) → AllMake (map durable.Service xs)
make-batches [] = tt
make-batches (x ∷ xs) = (tt, make-batches xs)

changed-short : {V : Type 0} (rules : Rules V) (m : Member V) (x : GroupChange V) → IsShort m → IsShort (changed rules m x)
changed-short rules m (change.Queue v) h = h
changed-short rules m (change.Refuse v reason) h = h
changed-short rules m (change.Begin r) h = h
changed-short rules m (change.Seen r) h = h
changed-short rules m (change.Promise r v) h = h
changed-short rules m change.Abort h = h
changed-short rules m (change.Commit r v) h = h
changed-short rules m (change.Restore next seen) h = h
changed-short rules m (change.Kept v reason) h = h

made-one-small : (here : NodeId) (k : Cell) (x : Change) → MayMake x → IsSmall k → IsSmall (made_one here k x)
made-one-small here (Held h) (durable.Bind d) p s = fresh-small d p
made-one-small here (Held h) (durable.Admin x) p s = (s.0, changed-short (act_rules h.definition) h.acts x s.1, s.2)
made-one-small here (Held h) (durable.Service x) p s = (s.0, s.1, changed-short batch_rules h.batches x s.2)
made-one-small here (Held h) durable.Abandon p s = s
made-one-small here (Held h) durable.Purge p s = tt
made-one-small here (Held h) (durable.Turn t) p s = s
made-one-small here (Held h) (durable.Gone old) p s = tt
made-one-small here Empty (durable.Bind d) p s = fresh-small d p
made-one-small here Empty _ p s = tt
made-one-small here (Purged old) (durable.Bind d) p s = fresh-small d p
made-one-small here (Purged old) _ p s = tt

pub made-small : (here : NodeId) (k : Cell) (xs : List Change) → AllMake xs → IsSmall k → IsSmall (changes_made here k xs)
made-small here k [] p s = s
made-small here k (x ∷ xs) p s = made-small here (made_one here k x) xs p.1 (made-one-small here k x p.0 s)

-- ---- moves

moved-small : (here : NodeId) (k : Cell) (x y : OpenMove) → IsSmall k → IsSmall (moved_cell here k x y)
moved-small here (Held h) x y s = (
  s.0,
  moved-short (admin_group h.definition) (position h.definition.members here) h.acts x (few h.definition s.0) s.1,
  moved-short (service_group h.definition) (position h.definition.members here) h.batches y (few h.definition s.0) s.2,
)
moved-small here Empty x y s = tt
moved-small here (Purged old) x y s = tt

pub stopped-small : (k : Cell) → IsSmall k → IsSmall (stopped_cell k)
stopped-small (Held h) s = (s.0, (λ o e. absurd cc), λ o e. absurd cc)
stopped-small Empty s = tt
stopped-small (Purged old) s = tt

-- ---- plans

-- it sends at most 32 messages
pub record IsSmallPlan (p : Plan) : Type 0 where
  pub sends : length p.sends ≤ 32
  pub changes : AllMake p.changes

pub after-small : (here : NodeId) (k : Cell) (p : Plan) → IsSmallPlan p → IsSmall k → IsSmall (after_plan here k p)
after-small here k p h s = moved-small here (changes_made here k p.changes) p.admin p.service (made-small here k p.changes h.changes s)

sent-alone : (p : Plan) → length p.sends ≤ 1 → AllMake p.changes → IsSmallPlan p
sent-alone p h m = record { sends = omega (arith, h); changes = m }

acts-plan : (site : Site) (d : Definition) (say : Say) (first : List Change) (back : NodeId) (m : Member Act) (e : GroupEvent Act) → AllMake first
    → broken d ≡ None → IsShort m → IsSmallPlan (group_plan (admin_lane site d) say first back (group_row (admin_lane site d) m e))
acts-plan site d say first back m e h ruled short =
    let lane = admin_lane site d in
    let row = group_row lane m e in
    let same = length-map row.sends (outgoing lane back) in
    let least = few-row (admin_group d) (position d.members site.here) (few d ruled) m e short in
    record { sends = omega (arith, same, least); changes = make-append first (map durable.Admin row.changes) h (make-acts row.changes) }

batches-plan : (site : Site) (d : Definition) (say : Say) (back : NodeId) (m : Member Batch) (e : GroupEvent Batch) → broken d ≡ None → IsShort m
    → IsSmallPlan (group_plan (service_lane site d) say [] back (group_row (service_lane site d) m e))
batches-plan site d say back m e ruled short =
    let lane = service_lane site d in
    let row = group_row lane m e in
    let same = length-map row.sends (outgoing lane back) in
    let least = few-row (service_group d) (position d.members site.here) (few d ruled) m e short in
    record { sends = omega (arith, same, least); changes = make-batches row.changes }

small-kind : (site : Site) (k : Cell) (e : Event) (deed : Deed) → Does site k e deed → IsSmall k → IsSmallPlan (planned site deed)
small-kind site k e deed (Refused why) s = record { sends = omega arith; changes = tt }
small-kind site k e deed (Told a q) s = record { sends = omega arith; changes = tt }
small-kind site k e deed (Declined from i gen r place v) s = record { sends = omega arith; changes = tt }
small-kind site k e deed (Returned from i gen v d is) s = record { sends = omega arith; changes = tt }
small-kind site k e deed (Unserved from i t u gen r place v) s = record { sends = omega arith; changes = tt }
small-kind site k e deed (Proposed d b) s =
    acts-plan site d Submitted (durable.Bind d ∷ []) site.here new_member (group.Submit (proposal site.here d)) (b.ruled, tt) b.ruled (new-short Act)
small-kind site k e deed (Asked d from i gen r place v is b leads) s =
    acts-plan site d Delivered (durable.Bind d ∷ []) from new_member (group.From (position d.members from) (msg.VoteRequest gen r place v))
    (b.bind.ruled, tt) b.bind.ruled (new-short Act)
small-kind site k e deed (Handed d from i gen v is b leads its) s =
    acts-plan site d Delivered (durable.Bind d ∷ []) from new_member (group.Submit v) (b.bind.ruled, tt) b.bind.ruled (new-short Act)
small-kind site k e deed (Acted h f w next kept unclosed free some) s =
    acts-plan site h.definition Submitted [] site.here h.acts (group.Submit (next_act site.here h.turn w)) tt s.0 s.1
small-kind site k e deed (Taken h v unclosed active good unknown room) s = batches-plan site h.definition Submitted site.here h.batches (group.Submit v) s.0 s.2
small-kind site k e deed (Heard h from i x unclosed same) s =
    acts-plan site h.definition Delivered [] from h.acts (group.From (position h.definition.members from) x) tt s.0 s.1
small-kind site k e deed (Served h from i t u x unclosed active same) s =
    batches-plan site h.definition Delivered from h.batches (group.From (position h.definition.members from) x) s.0 s.2
small-kind site k e deed (GoesOn h x unclosed p) s = acts-plan site h.definition Alone [] site.here h.acts x tt s.0 s.1
small-kind site k e deed (BothGoOn h x y unclosed active p q) s =
    let acts = group_row (admin_lane site h.definition) h.acts x in
    let batches = group_row (service_lane site h.definition) h.batches y in
    let first = few-row (admin_group h.definition) (position h.definition.members site.here) (few h.definition s.0) h.acts x s.1 in
    let second = few-row (service_group h.definition) (position h.definition.members site.here) (few h.definition s.0) h.batches y s.2 in
    let both =
    length-append (map (outgoing (admin_lane site h.definition) site.here) acts.sends)
    (map (outgoing (service_lane site h.definition) site.here) batches.sends) in
    let one = length-map acts.sends (outgoing (admin_lane site h.definition) site.here) in
    let other = length-map batches.sends (outgoing (service_lane site h.definition) site.here) in
    record {
      sends =
          omega (arith, first, second, both, one, other);
      changes = make-append (map durable.Admin acts.changes) (map durable.Service batches.changes) (make-acts acts.changes) (make-batches batches.changes);
    }
small-kind site k e deed (Left h unclosed active) s = record { sends = omega arith; changes = (tt, tt) }
small-kind site k e deed (Forgot h) s = record { sends = omega arith; changes = (tt, tt) }

pub plan-small : (site : Site) (k : Cell) (e : Event) → IsSmall k → IsSmallPlan (plan_of site k e)
plan-small site k e s = small-kind site k e (does site k e) (does-is site k e) s
