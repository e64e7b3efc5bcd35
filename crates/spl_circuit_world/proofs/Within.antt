-- What of a circuit touches these nodes alone: its cells, its messages and the definitions in them.
use Rattle.std.{specs.List.list_all, proofs.Common.{◌≡◌, ℕ, zero, suc, Bool, true, false, ◌&&◌, List, [], ◌∷◌, ◌++◌, map, refl, subst}}
use Rattle.spl_agree.specs.{Member.{Group, Member, new_member, moved}, declared.event.{GroupChange.GroupChange, OpenMove.OpenMove}}
use Rattle.spl_agree.{specs.declared.message.CommitMsg.CommitMsg, proofs.Tests.{and_left, and_right}}
use Rattle.spl_agree.specs.declared.event.OpenMove.TheVariants as move
use Rattle.spl_circuit.specs.{Nodes.{NodeId, has_node, position, node_or}, Acts.act_rules, Lifecycle.Life, declared.act.{Act.Act, ActKind.ActKind}}
use Rattle.spl_circuit.specs.declared.definition.Definition.{Definition}
use Rattle.spl_circuit.specs.declared.act.ActKind.TheVariants as kind
use Rattle.spl_command.specs.declared.batch.Batch.{Batch}
use Rattle.spl_wire.specs.declared.{change.Change.Change, event.Event.Event, message.Message.Message, plan.{Outgoing.Outgoing, Plan.Plan}}
use Rattle.spl_wire.specs.declared.message.Message.TheVariants as message
use Rattle.spl_wire.specs.declared.event.Event.TheVariants as event
use Rattle.spl_wire.specs.declared.change.Change.TheVariants as durable
use Rattle.spl_cell_rules.specs.{Valid.carries, Cells.{Cell, Empty, Held, Purged, Site, Deed, Replies, Binds, Acts, Serves, Turns, admin_group, is_open_cell}}
use Rattle.spl_cell_rules.specs.{Cells.own_life, Events.does, Changes.{made_one, changes_made, moved_cell, stopped_cell, after_plan}, Plans.Lane}
use Rattle.spl_cell_rules.{specs.Plans.{admin_lane, service_lane, group_row, lane_changes, group_sends, planned, plan_of}, proofs.Does.{IsNextKind, Does}}
use Rattle.spl_cell_rules.proofs.Does.{Refused, Told, Declined, Returned, Unserved, Proposed, Asked, Handed, Acted, Taken, Heard, Served, GoesOn, BothGoOn}
use Rattle.spl_cell_rules.proofs.{Does.{Left, Forgot, does-is}, Events.clock-brings, Carried.{Brings, AllCarry, send_carries, carry-row}}
use Rattle.spl_circuit_world.proofs.Joins.{joins, AllJoin, join-row, pending-changed}

-- what is pending is not moved
moved-pending : {V : Type 0} (g : Group V) (i : ℕ) (m : Member V) (o : OpenMove) (may : V → Bool) → list_all may m.pending ≡ true
    → list_all may (moved g i m o).pending ≡ true
moved-pending g i m move.Keep may h = h
moved-pending g i m _ may h = h

module _ (ns : List NodeId) where
  -- all of these are among the nodes
  abbrev pub are_within : List NodeId → Bool
  are_within ms = list_all (has_node ns) ms

  -- the members that an act proposes are
  abbrev pub is_kind_within : ActKind → Bool
  is_kind_within (kind.Propose d) = are_within d.members
  is_kind_within _ = true

  abbrev pub is_act_within : Act → Bool
  is_act_within v = is_kind_within v.kind

  abbrev pub is_message_within : Message → Bool
  is_message_within (message.Admin i x) = carries is_act_within x
  is_message_within (message.Scabbard i s t x) = true

  -- what a cell is bound to, and what is pending there
  abbrev pub IsCellWithin : NodeId → Cell → Type 0
  IsCellWithin n Empty = Unit {0}
  IsCellWithin n (Purged old) = has_node ns n ≡ true
  IsCellWithin n (Held b) = (has_node ns n ≡ true) × (are_within b.definition.members ≡ true) × (list_all is_act_within b.acts.pending ≡ true)

  -- ---- changes

  abbrev pub is_change_within : Change → Bool
  is_change_within (durable.Bind d) = are_within d.members
  is_change_within (durable.Admin x) = joins is_act_within x
  is_change_within _ = true

  abbrev pub AllWithin : List Change → Type 0
  AllWithin xs = list_all is_change_within xs ≡ true

  within-made_one : (n : NodeId) (k : Cell) (x : Change) → has_node ns n ≡ true → is_change_within x ≡ true → IsCellWithin n k → IsCellWithin n (made_one n k x)
  within-made_one n (Held b) (durable.Bind d) h i k = (h, i, refl)
  within-made_one n (Held b) (durable.Admin x) h i k = (h, k.1, pending-changed is_act_within (act_rules b.definition) b.acts x i k.2)
  within-made_one n (Held b) durable.Purge h i k = h
  within-made_one n (Held b) (durable.Gone u) h i k = h
  within-made_one n (Held b) _ h i k = k
  within-made_one n Empty (durable.Bind d) h i k = (h, i, refl)
  within-made_one n Empty (durable.Gone u) h i k = h
  within-made_one n Empty _ h i k = k
  within-made_one n (Purged old) (durable.Bind d) h i k = (h, i, refl)
  within-made_one n (Purged old) (durable.Gone u) h i k = h
  within-made_one n (Purged old) _ h i k = k

  pub within-made : (n : NodeId) (k : Cell) (xs : List Change) → has_node ns n ≡ true → AllWithin xs → IsCellWithin n k → IsCellWithin n (changes_made n k xs)
  within-made n k [] h i w = w
  within-made n k (x ∷ xs) h i w =
      within-made n (made_one n k x) xs h (and_right (is_change_within x) (list_all is_change_within xs) i)
      (within-made_one n k x h (and_left (is_change_within x) (list_all is_change_within xs) i) w)

  pub within-moved : (n : NodeId) (k : Cell) (x y : OpenMove) → IsCellWithin n k → IsCellWithin n (moved_cell n k x y)
  within-moved n (Held b) x y w = (w.0, w.1, moved-pending (admin_group b.definition) (position b.definition.members n) b.acts x is_act_within w.2)
  within-moved n _ x y w = w

  pub within-stopped : (n : NodeId) (k : Cell) → IsCellWithin n k → IsCellWithin n (stopped_cell k)
  within-stopped n Empty w = w
  within-stopped n _ w = w

  -- a cell elsewhere is empty
  pub within-empty : (n : NodeId) (k : Cell) → has_node ns n ≡ false → IsCellWithin n k → k ≡ Empty
  within-empty n Empty h w = refl
  within-empty n (Purged old) h w = cc
  within-empty n (Held b) h w = let q : has_node ns n ≡ true = w.0 in cc

  -- where a cell is open, its node is one of these
  pub open-within : (n : NodeId) (k : Cell) → is_open_cell k ≡ true → IsCellWithin n k → has_node ns n ≡ true
  open-within n (Held b) h w = w.0
  open-within n _ h w = cc

  -- ---- what is sent

  abbrev pub is_outgoing_within : Outgoing → Bool
  is_outgoing_within o = has_node ns o.to && is_message_within o.message

  abbrev pub AllGo : List Outgoing → Type 0
  AllGo os = list_all is_outgoing_within os ≡ true

  within-node_or : (ms : List NodeId) (back : NodeId) (p : ℕ) → are_within ms ≡ true → has_node ns back ≡ true → has_node ns (node_or ms back p) ≡ true
  within-node_or [] back p h k = k
  within-node_or (m ∷ ms) back zero h k = and_left (has_node ns m) (are_within ms) h
  within-node_or (m ∷ ms) back (suc p) h k = within-node_or ms back p (and_right (has_node ns m) (are_within ms) h) k

  within-admin_sends : (site : Site) (d : Definition) (back : NodeId) (ss : List (ℕ × CommitMsg Act)) → are_within d.members ≡ true
      → has_node ns back ≡ true → AllCarry is_act_within ss → AllGo (group_sends (admin_lane site d) back ss)
  within-admin_sends site d back [] h k x = refl
  within-admin_sends site d back (s ∷ ss) h k x =
      rw (within-node_or d.members back s.0 h k, and_left (send_carries is_act_within s) (list_all (send_carries is_act_within) ss) x)
      (within-admin_sends site d back ss h k (and_right (send_carries is_act_within s) (list_all (send_carries is_act_within) ss) x))

  within-service_sends : (site : Site) (d : Definition) (back : NodeId) (ss : List (ℕ × CommitMsg Batch)) → are_within d.members ≡ true
      → has_node ns back ≡ true → AllGo (group_sends (service_lane site d) back ss)
  within-service_sends site d back [] h k = refl
  within-service_sends site d back (s ∷ ss) h k = rw (within-node_or d.members back s.0 h k) (within-service_sends site d back ss h k)

  all-go : (xs ys : List Outgoing) → AllGo xs → AllGo ys → AllGo (xs ++ ys)
  all-go [] ys h k = k
  all-go (x ∷ xs) ys h k =
      rw (and_left (is_outgoing_within x) (list_all is_outgoing_within xs) h)
      (all-go xs ys (and_right (is_outgoing_within x) (list_all is_outgoing_within xs) h) k)

  -- ---- changes of a row

  within-admin_changes : (xs : List (GroupChange Act)) → AllJoin is_act_within xs → AllWithin (map durable.Admin xs)
  within-admin_changes [] h = refl
  within-admin_changes (x ∷ xs) h =
      rw (and_left (joins is_act_within x) (list_all (joins is_act_within) xs) h)
      (within-admin_changes xs (and_right (joins is_act_within x) (list_all (joins is_act_within) xs) h))

  within-service_changes : (xs : List (GroupChange Batch)) → AllWithin (map durable.Service xs)
  within-service_changes [] = refl
  within-service_changes (x ∷ xs) = within-service_changes xs

  all-within : (xs ys : List Change) → AllWithin xs → AllWithin ys → AllWithin (xs ++ ys)
  all-within [] ys h k = k
  all-within (x ∷ xs) ys h k =
      rw (and_left (is_change_within x) (list_all is_change_within xs) h)
      (all-within xs ys (and_right (is_change_within x) (list_all is_change_within xs) h) k)

  -- ---- deeds

  -- what a deed names is among the nodes
  abbrev pub IsDeedWithin : Deed → Type 0
  IsDeedWithin (Replies note to m) = (has_node ns to ≡ true) × (is_message_within m ≡ true)
  IsDeedWithin (Binds say d back e) = (are_within d.members ≡ true) × (has_node ns back ≡ true) × Brings is_act_within e
  IsDeedWithin (Acts say b back e) =
      (are_within b.definition.members ≡ true) × (has_node ns back ≡ true) × (list_all is_act_within b.acts.pending ≡ true) × Brings is_act_within e
  IsDeedWithin (Serves say b back e) = (are_within b.definition.members ≡ true) × (has_node ns back ≡ true)
  IsDeedWithin (Turns b x y) = (are_within b.definition.members ≡ true) × (list_all is_act_within b.acts.pending ≡ true) × Brings is_act_within x
  IsDeedWithin _ = Unit {0}

  -- what a plan changes and sends is
  pub record IsPlanWithin (p : Plan) : Type 0 where
    pub changes : AllWithin p.changes
    pub sends : AllGo p.sends

  pub within-planned : (site : Site) (deed : Deed) → has_node ns site.here ≡ true → IsDeedWithin deed → IsPlanWithin (planned site deed)
  within-planned site (Replies note to m) h w = record { changes = refl; sends = rw (w.0, w.1) }
  within-planned site (Binds say d back e) h w =
      let lane : Lane Act = admin_lane site d in
      record {
        changes = rw w.0 (within-admin_changes (group_row lane new_member e).changes (join-row is_act_within lane.group lane.here new_member e w.2));
        sends = within-admin_sends site d back (group_row lane new_member e).sends w.0 w.1 (carry-row is_act_within lane.group lane.here new_member e refl w.2);
      }
  within-planned site (Acts say b back e) h w =
      let lane : Lane Act = admin_lane site b.definition in
      record {
        changes = within-admin_changes (group_row lane b.acts e).changes (join-row is_act_within lane.group lane.here b.acts e w.3);
        sends = within-admin_sends site b.definition back (group_row lane b.acts e).sends w.0 w.1
            (carry-row is_act_within lane.group lane.here b.acts e w.2 w.3);
      }
  within-planned site (Serves say b back e) h w =
      let lane : Lane Batch = service_lane site b.definition in
      record {
        changes = within-service_changes (group_row lane b.batches e).changes;
        sends = within-service_sends site b.definition back (group_row lane b.batches e).sends w.0 w.1;
      }
  within-planned site (Turns b x y) h w =
      let first : Lane Act = admin_lane site b.definition in
      let then : Lane Batch = service_lane site b.definition in
      record {
        changes = all-within (lane_changes first (group_row first b.acts x).changes) (lane_changes then (group_row then b.batches y).changes)
            (within-admin_changes (group_row first b.acts x).changes (join-row is_act_within first.group first.here b.acts x w.2))
            (within-service_changes (group_row then b.batches y).changes);
        sends = all-go (group_sends first site.here (group_row first b.acts x).sends) (group_sends then site.here (group_row then b.batches y).sends)
            (within-admin_sends site b.definition site.here (group_row first b.acts x).sends w.0 h
            (carry-row is_act_within first.group first.here b.acts x w.1 w.2))
            (within-service_sends site b.definition site.here (group_row then b.batches y).sends w.0 h);
      }
  within-planned site _ h w = record { changes = refl; sends = refl }

  -- the cell after a plan
  pub within-after : (n : NodeId) (k : Cell) (p : Plan) → has_node ns n ≡ true → IsPlanWithin p → IsCellWithin n k → IsCellWithin n (after_plan n k p)
  within-after n k p h w i = within-moved n (changes_made n k p.changes) p.admin p.service (within-made n k p.changes h w.changes i)

  -- ---- events

  -- what an event brings is among the nodes
  abbrev pub IsDueWithin : Event → Type 0
  IsDueWithin (event.Propose d) = are_within d.members ≡ true
  IsDueWithin (event.Deliver from x) = (has_node ns from ≡ true) × (is_message_within x ≡ true)
  IsDueWithin _ = Unit {0}

  -- an act of the node that is no proposal names no node
  within-next : (l : Life) (w : ActKind) → IsNextKind l w → is_kind_within w ≡ true
  within-next l (kind.Propose d) own = absurd own
  within-next l _ own = refl

  -- a proposal names the members that it asks
  within-proposed : (v : Act) (d : Definition) → v.kind ≡ kind.Propose d → is_act_within v ≡ true → are_within d.members ≡ true
  within-proposed v d is h = subst (λ (w : ActKind). is_kind_within w ≡ true) is h

  within-kind : (site : Site) (k : Cell) (e : Event) (deed : Deed) → Does site k e deed → has_node ns site.here ≡ true → IsDueWithin e
      → IsCellWithin site.here k → IsDeedWithin deed
  within-kind site k e deed (Refused why) h due w = tt
  within-kind site k e deed (Told a q) h due w = tt
  within-kind site k e deed (Declined from i gen r place v) h due w = (due.0, refl)
  within-kind site k e deed (Returned from i gen v d is) h due w = (due.0, due.1)
  within-kind site k e deed (Unserved from i s t gen r place v) h due w = (due.0, refl)
  within-kind site k e deed (Proposed d b) h due w = (due, h, due)
  within-kind site k e deed (Asked d from i gen r place v is b leads) h due w = (within-proposed v d is due.1, due.0, due.1)
  within-kind site k e deed (Handed d from i gen v is b leads its) h due w = (within-proposed v d is due.1, due.0, due.1)
  within-kind site k e deed (Acted b f x next own unclosed free some) h due w = (w.1, h, w.2, within-next (own_life b) x own)
  within-kind site k e deed (Taken b v unclosed active good unknown room) h due w = (w.1, h)
  within-kind site k e deed (Heard b from i x unclosed same) h due w = (w.1, due.0, w.2, due.1)
  within-kind site k e deed (Served b from i s t x unclosed active same) h due w = (w.1, due.0)
  within-kind site k e deed (GoesOn b x unclosed p) h due w = (w.1, h, w.2, clock-brings is_act_within p)
  within-kind site k e deed (BothGoOn b x y unclosed active p q) h due w = (w.1, w.2, clock-brings is_act_within p)
  within-kind site k e deed (Left b unclosed active) h due w = tt
  within-kind site k e deed (Forgot b) h due w = tt

  -- what an event gives
  pub within-plan : (site : Site) (k : Cell) (e : Event) → has_node ns site.here ≡ true → IsDueWithin e → IsCellWithin site.here k
      → IsPlanWithin (plan_of site k e)
  within-plan site k e h due w = within-planned site (does site k e) h (within-kind site k e (does site k e) (does-is site k e) h due w)
