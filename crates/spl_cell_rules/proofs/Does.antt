-- What an event does at a cell, as few kinds: each with what is known then of the cell, of the event and of the deed. Laws of
-- deeds go by these kinds; `does-is` alone goes through the events.
use Rattle.std.{specs.{Prelude.{Option, Some, None, ◌==◌, is_none, is_some, if◌then◌else◌, Ok, Err}, Str.bytes_eq}, proofs.Common.{◌≡◌, ℕ, ◌⊎◌, Bool, true}}
use Rattle.std.proofs.Common.{false, not, ◌&&◌, List, [], length, refl, sym, ap, subst, inl, inr}
use Rattle.spl_base.specs.Booleans.{none_is}
use Rattle.spl_agree.specs.{Member.{Member, values, found, found_refused, known}, Fits.generation_of, declared.event.GroupEvent.GroupEvent}
use Rattle.spl_agree.{specs.declared.{limit.TheConstants.MOST_PENDING, message.CommitMsg.CommitMsg, reason.Reason.Reason}, proofs.Tests.if_holds}
use Rattle.spl_agree.proofs.Tests.{bool_cases, and_left, and_right, eqb_is}
use Rattle.spl_agree.specs.declared.event.Note.TheVariants as note
use Rattle.spl_agree.specs.declared.event.GroupEvent.TheVariants as group
use Rattle.spl_agree.specs.declared.message.CommitMsg.TheVariants as msg
use Rattle.spl_circuit.specs.{Nodes.{NodeId, CircuitId, ServiceId, position}, Rules.{broken, admin, is_member}, Lifecycle.{Life, life, is_active}}
use Rattle.spl_circuit.specs.{Lifecycle.{is_disbanding, is_asked}, Routing.{Way, route}, Same.node_is, declared.act.{Act.Act, ActKind.ActKind}}
use Rattle.spl_circuit.specs.declared.{definition.Definition.Definition, lifecycle.RouteFault.RouteFault}
use Rattle.spl_circuit.specs.declared.act.ActKind.TheVariants as kind
use Rattle.spl_command.specs.{Rules.broken_batch, declared.{batch.Batch.Batch, receipt.Receipt.Receipt}}
use Rattle.spl_scabbard.specs.{Checks.batch_rules, Readers.{place_of, receipts_of}}
use Rattle.spl_wire.specs.declared.{answer.{Answer.Answer, Refusal.Refusal}, event.Event.Event, message.Message.Message}
use Rattle.spl_wire.specs.declared.answer.Answer.TheVariants as answer
use Rattle.spl_wire.specs.declared.message.Message.TheVariants as message
use Rattle.spl_wire.specs.declared.event.Event.TheVariants as event
use Rattle.spl_cell_rules.specs.Cells.{Bound, Cell, Empty, Held, Purged, Site, Deed, Refuses, Tells, Replies, Binds, Acts, Serves, Turns, Abandons, Purges}
use Rattle.spl_cell_rules.specs.Cells.{Submitted, Delivered, Alone, is_open_mark, is_active_here, runs, own_life, is_free, can_bind, proposal, proposes}
use Rattle.spl_cell_rules.specs.Cells.{proposes_at, next_act, is_act_pending, vote_kind, removal_kind, submits_next, votes, removes, disbands, abandons}
use Rattle.spl_cell_rules.specs.{Cells.{declines, returns_unbound, asked_first, forwarded_first, hears_first}, Batches.{submits, submits_ruled}}
use Rattle.spl_cell_rules.specs.Batches.{submits_known, when_active, status_kept, status_refused, receipt_kept, has_the_id, routed, way, serves_other}
use Rattle.spl_cell_rules.specs.{Batches.hears_routed, Events.{next_kind, turns, held_hears, held_does, other_does, does}}

-- the answer says that a value is queued
abbrev pub is_queued : Answer → Bool
is_queued (answer.Submitted is_known) = not is_known
is_queued (answer.Delivered note.Queued) = true
is_queued _ = false

-- a group goes on by itself
pub data IsClock {V : Type 0} : GroupEvent V → Type 0 where
  Ticks : IsClock group.Tick
  Expires : IsClock group.Expire

-- no proposal; an act on a disband has the place of that one
abbrev pub IsNextKind : Life → ActKind → Type 0
IsNextKind l (kind.Propose d) = ⊥
IsNextKind l (kind.DisbandAccept place) = place ≡ l.disband.place
IsNextKind l (kind.DisbandReject place) = place ≡ l.disband.place
IsNextKind l (kind.DisbandRemove place) = place ≡ l.disband.place
IsNextKind l _ = Unit {0}

-- a cell may be bound to a definition
pub record MayBind (site : Site) (k : Cell) (d : Definition) : Type 0 where
  pub ruled : broken d ≡ None
  pub member : is_member d site.here ≡ true
  pub free : is_free k d.generation ≡ true

-- a message of this generation may bind it
pub record CanBind (site : Site) (k : Cell) (gen : ℕ) (d : Definition) : Type 0 where
  pub bind : MayBind site k d
  pub own : bytes_eq d.id site.circuit ≡ true
  pub same : d.generation ≡ gen

pub data Does (site : Site) : Cell → Event → Deed → Type 0 where
  Refused : {k : Cell} {e : Event} (why : Refusal) → Does site k e (Refuses why)
  Told : {k : Cell} {e : Event} (a : Answer) → is_queued a ≡ false → Does site k e (Tells a)
  -- a request is declined, and an act returned, where the cell isn't bound by it
  Declined : {k : Cell} (from : NodeId) (i : CircuitId) (gen r place : ℕ) (v : Act) →
      Does site k (event.Deliver from (message.Admin i (msg.VoteRequest gen r place v))) (declines site from gen r)
  Returned : {k : Cell} (from : NodeId) (i : CircuitId) (gen : ℕ) (v : Act) (d : Definition) →
      v.kind ≡ kind.Propose d →
      Does site k (event.Deliver from (message.Admin i (msg.Forward gen v))) (returns_unbound site from gen v)
  Unserved : {k : Cell} (from : NodeId) (i : CircuitId) (s t : ServiceId) (gen r place : ℕ) (v : Batch) →
      Does site k (event.Deliver from (message.Scabbard i s t (msg.VoteRequest gen r place v)))
      (Replies (note.Declined r) from (message.Scabbard site.circuit t s (msg.Vote gen r false)))
  -- the node's own proposal binds the cell, a request does, or a proposal that was handed on
  Proposed : {k : Cell} (d : Definition) →
      MayBind site k d →
      Does site k (event.Propose d) (Binds Submitted d site.here (group.Submit (proposal site.here d)))
  Asked : {k : Cell} (d : Definition) (from : NodeId) (i : CircuitId) (gen r place : ℕ) (v : Act) →
      v.kind ≡ kind.Propose d → CanBind site k gen d → admin d ≡ from →
      Does site k (event.Deliver from (message.Admin i (msg.VoteRequest gen r place v)))
      (Binds Delivered d from (group.From (position d.members from) (msg.VoteRequest gen r place v)))
  Handed : {k : Cell} (d : Definition) (from : NodeId) (i : CircuitId) (gen : ℕ) (v : Act) →
      v.kind ≡ kind.Propose d → CanBind site k gen d → admin d ≡ site.here → v.node ≡ from →
      Does site k (event.Deliver from (message.Admin i (msg.Forward gen v)))
      (Binds Delivered d from (group.Submit v))
  -- a group is handed an act of the node or a batch, or gets a message
  Acted : (h : Bound) (e : Event) (w : ActKind) →
      next_kind (own_life h) e ≡ Some w → IsNextKind (own_life h) w → is_open_mark h.mark ≡ true →
      is_act_pending site h ≡ false → (h.acts.history ≡ [] → ⊥) →
      Does site (Held h) e (Acts Submitted h site.here (group.Submit (next_act site.here h.turn w)))
  Taken : (h : Bound) (v : Batch) →
      is_open_mark h.mark ≡ true → runs h ≡ true → broken_batch v ≡ None → known batch_rules h.batches v ≡ None →
      (length h.batches.pending == MOST_PENDING) ≡ false →
      Does site (Held h) (event.Submit v) (Serves Submitted h site.here (group.Submit v))
  Heard : (h : Bound) (from : NodeId) (i : CircuitId) (x : CommitMsg Act) →
      is_open_mark h.mark ≡ true → generation_of x ≡ h.definition.generation →
      Does site (Held h) (event.Deliver from (message.Admin i x))
      (Acts Delivered h from (group.From (position h.definition.members from) x))
  Served : (h : Bound) (from : NodeId) (i : CircuitId) (s t : ServiceId) (x : CommitMsg Batch) →
      is_open_mark h.mark ≡ true → runs h ≡ true → generation_of x ≡ h.definition.generation →
      Does site (Held h) (event.Deliver from (message.Scabbard i s t x))
      (Serves Delivered h from (group.From (position h.definition.members from) x))
  -- it goes on
  GoesOn : {e : Event} (h : Bound) (x : GroupEvent Act) →
      is_open_mark h.mark ≡ true → IsClock x →
      Does site (Held h) e (Acts Alone h site.here x)
  BothGoOn : {e : Event} (h : Bound) (x : GroupEvent Act) (y : GroupEvent Batch) →
      is_open_mark h.mark ≡ true → runs h ≡ true → IsClock x → IsClock y →
      Does site (Held h) e (Turns h x y)
  Left : {e : Event} (h : Bound) → is_open_mark h.mark ≡ true → runs h ≡ true → Does site (Held h) e Abandons
  Forgot : {e : Event} (h : Bound) → Does site (Held h) e Purges

-- ---- what is known

not_false : (b : Bool) → not b ≡ false → b ≡ true
not_false true q = refl
not_false false q = cc

pub can-bind : (site : Site) (k : Cell) (gen : ℕ) (d : Definition) → can_bind site k gen d ≡ true → CanBind site k gen d
can-bind site k gen d h =
    let after_id : _ ≡ true = and_right (bytes_eq d.id site.circuit) _ h in
    let after_generation : _ ≡ true = and_right (d.generation == gen) _ after_id in
    let after_rules : _ ≡ true = and_right (is_none (broken d)) _ after_generation in
    let same : d.generation ≡ gen = eqb_is d.generation gen (and_left (d.generation == gen) _ after_id) in
    record {
      bind = record {
        ruled = none_is (broken d) (and_left (is_none (broken d)) _ after_generation);
        member = and_left (is_member d site.here) _ after_rules;
        free = subst (λ (g : ℕ). is_free k g ≡ true) (sym same) (and_right (is_member d site.here) _ after_rules);
      };
      own = and_left (bytes_eq d.id site.circuit) _ h;
      same = same;
    }

-- at a bound cell none does
pub held-cannot : (site : Site) (h : Bound) (gen : ℕ) (d : Definition) → can_bind site (Held h) gen d ≡ true → ⊥
held-cannot site h gen d q = let free : false ≡ true = (can-bind site (Held h) gen d q).bind.free in cc

-- where something is asked for, or the circuit is active, there are acts
asked-acts : (h : Bound) → not (is_asked (own_life h).state) ≡ false → h.acts.history ≡ [] → ⊥
asked-acts h p e = let k : not (is_asked (own_life h).state) ≡ true = ap (λ (x : List (ℕ × Act)). not (is_asked (life h.definition (values x)).state)) e in cc

active-acts : (h : Bound) → not (is_active_here h) ≡ false → h.acts.history ≡ [] → ⊥
active-acts h p e = let k : not (is_active_here h) ≡ true = ap (λ (x : List (ℕ × Act)). not (is_active (life h.definition (values x)).state)) e in cc

vote-next : (l : Life) (accept : Bool) → IsNextKind l (vote_kind l accept)
vote-next l true = if_holds (IsNextKind l) (is_disbanding l.state) _ _ (λ q. refl) (λ q. tt)
vote-next l false = if_holds (IsNextKind l) (is_disbanding l.state) _ _ (λ q. refl) (λ q. tt)

removal-next : (l : Life) → IsNextKind l (removal_kind l)
removal-next l = if_holds (IsNextKind l) (is_disbanding l.state) _ _ (λ q. refl) (λ q. tt)

-- a message that is routed finds the circuit open and running
routed-runs : (site : Site) (h : Bound) (from : NodeId) (s t : ServiceId) (u : Unit {0}) → way site h from s t ≡ Ok u → (is_open_mark h.mark && runs h) ≡ true
routed-runs site h from s t u e = go (bool_cases (is_open_mark h.mark && runs h))
  where
    not_ok : (z : RouteFault) → Err z ≡ Ok u → ⊥
    not_ok z y = cc

    go : ((is_open_mark h.mark && runs h) ≡ true) ⊎ ((is_open_mark h.mark && runs h) ≡ false) → (is_open_mark h.mark && runs h) ≡ true
    go (inl q) = q
    go (inr q) = absurd (not_ok _ (rw q at e))

-- ---- the walk

module _ (site : Site) where
  unless : {k : Cell} {e : Event} (b : Bool) (why : Refusal) (deed : Deed) → (b ≡ false → Does site k e deed) → Does site k e (if b then Refuses why else deed)
  unless {k} {e} b why deed f = if_holds (Does site k e) b _ _ (λ q. Refused why) f

  provided : {k : Cell} {e : Event} (b : Bool) (deed : Deed) (why : Refusal) → (b ≡ true → Does site k e deed) → Does site k e (if b then deed else Refuses why)
  provided {k} {e} b deed why f = if_holds (Does site k e) b _ _ f (λ q. Refused why)

  -- acts

  does-proposes : (d : Definition) (k : Cell) (o : Option ℕ) → broken d ≡ o → Does site k (event.Propose d) (proposes site d k o)
  does-proposes d k (Some rule) h = Refused _
  does-proposes d k None h = provided _ _ _ (λ m. at k m)
    where
      at : (j : Cell) → is_member d site.here ≡ true → Does site j (event.Propose d) (proposes_at site d j)
      at Empty m = Proposed d (record { ruled = h; member = m; free = refl })
      at (Held b) m = Refused _
      at (Purged old) m = provided _ _ _ (λ q. Proposed d (record { ruled = h; member = m; free = q }))

  does-next : (h : Bound) (e : Event) (w : ActKind) → next_kind (own_life h) e ≡ Some w → IsNextKind (own_life h) w → is_act_pending site h ≡ false
      → not (is_asked (own_life h).state) ≡ false → Does site (Held h) e (submits_next site h w)
  does-next h e w next own pending asked = provided _ _ _ (λ unclosed. Acted h e w next own unclosed pending (asked-acts h asked))

  does-votes : (h : Bound) (e : Event) (w : ActKind) → next_kind (own_life h) e ≡ Some w → IsNextKind (own_life h) w → Does site (Held h) e (votes site h w)
  does-votes h e w next own = unless _ _ _ (λ pending. unless _ _ _ (λ asked. unless _ _ _ (λ q. does-next h e w next own pending asked)))

  does-removes : (h : Bound) (e : Event) (w : ActKind) → next_kind (own_life h) e ≡ Some w → IsNextKind (own_life h) w → Does site (Held h) e (removes site h w)
  does-removes h e w next own = unless _ _ _ (λ pending. unless _ _ _ (λ asked. unless _ _ _ (λ q. does-next h e w next own pending asked)))

  does-disbands : (h : Bound) → Does site (Held h) event.Disband (disbands site h)
  does-disbands h =
      unless _ _ _ (λ pending. unless _ _ _
      (λ active. unless _ _ _ (λ unclosed. unless _ _ _
      (λ q. Acted h event.Disband kind.Disband refl tt (not_false _ unclosed) pending (active-acts h active)))))

  does-abandons : {e : Event} (h : Bound) → Does site (Held h) e (abandons h)
  does-abandons h = unless _ _ _ (λ active. provided _ _ _ (λ unclosed. Left h unclosed (not_false _ active)))

  does-turns : {e : Event} (h : Bound) (x : GroupEvent Act) (y : GroupEvent Batch) → IsClock x → IsClock y → Does site (Held h) e (turns site h x y)
  does-turns {e} h x y p q =
      provided _ _ _ (λ unclosed. if_holds (Does site (Held h) e) (runs h) _ _ (λ active. BothGoOn h x y unclosed active p q) (λ z. GoesOn h x unclosed p))

  -- batches

  does-submits : (h : Bound) (v : Batch) → Does site (Held h) (event.Submit v) (submits site h v)
  does-submits h v = unless _ _ _ (λ active. unless _ _ _ (λ unclosed. ruled (not_false _ active) (not_false _ unclosed) (broken_batch v) refl))
    where
      by_id : runs h ≡ true → is_open_mark h.mark ≡ true → broken_batch v ≡ None → (u : Option Batch) → known batch_rules h.batches v ≡ u
          → Does site (Held h) (event.Submit v) (submits_known site h v u)
      by_id active unclosed good None e = unless _ _ _ (λ q. Taken h v unclosed active good e q)
      by_id active unclosed good (Some u) e = provided _ _ _ (λ q. Told _ refl)

      ruled : runs h ≡ true → is_open_mark h.mark ≡ true → (r : Option ℕ) → broken_batch v ≡ r → Does site (Held h) (event.Submit v) (submits_ruled site h v r)
      ruled active unclosed (Some rule) good = Refused _
      ruled active unclosed None good = by_id active unclosed good (known batch_rules h.batches v) refl

  does-active : {k : Cell} {e : Event} (h : Bound) (deed : Deed) → Does site k e deed → Does site k e (when_active h deed)
  does-active h deed d = provided _ _ _ (λ q. d)

  does-status : {k : Cell} {e : Event} (b : Member Batch) (i : ℕ) (o : Option ℕ) → Does site k e (status_kept b i o)
  does-status b i (Some place) = Told _ refl
  does-status {k} {e} b i None =
      if_holds (Does site k e) (is_some (found (has_the_id i) b.pending)) _ _ (λ q. Told _ refl) (λ q. refused (found_refused (has_the_id i) b.refused))
    where
      refused : (u : Option (Batch × Reason)) → Does site k e (status_refused u)
      refused None = Refused _
      refused (Some u) = Told _ refl

  does-receipt : {k : Cell} {e : Event} (i : ℕ) (o : Option ℕ) (rs : Option (List Receipt)) → Does site k e (receipt_kept i o rs)
  does-receipt i (Some place) (Some rs) = Told _ refl
  does-receipt i _ _ = Refused _

  does-routes : {k : Cell} {e : Event} (w : Way) → Does site k e (routed w (Tells answer.Routed))
  does-routes (Ok x) = Told _ refl
  does-routes (Err f) = Refused _

  -- messages

  does-first : (k : Cell) (from : NodeId) (i : CircuitId) (x : CommitMsg Act) → Does site k (event.Deliver from (message.Admin i x)) (hears_first site k from x)
  does-first k from i (msg.VoteRequest gen r place v) = asked v.kind refl
    where
      P : Deed → Type 0
      P = Does site k (event.Deliver from (message.Admin i (msg.VoteRequest gen r place v)))

      asked : (w : ActKind) → v.kind ≡ w → P (asked_first site k from gen r place v w)
      asked (kind.Propose d) is =
          if_holds P (place == 0 && (can_bind site k gen d && bytes_eq (admin d) from)) _ _ (λ q. bound (and_right (place == 0) _ q))
          (λ q. Declined from i gen r place v)
        where
          bound : (can_bind site k gen d && bytes_eq (admin d) from) ≡ true
              → P (Binds Delivered d from (group.From (position d.members from) (msg.VoteRequest gen r place v)))
          bound q = Asked d from i gen r place v is (can-bind site k gen d (and_left (can_bind site k gen d) _ q))
              (node_is (admin d) from (and_right (can_bind site k gen d) _ q))
      asked _ is = Declined from i gen r place v
  does-first k from i (msg.Forward gen v) = given v.kind refl
    where
      P : Deed → Type 0
      P = Does site k (event.Deliver from (message.Admin i (msg.Forward gen v)))

      given : (w : ActKind) → v.kind ≡ w → P (forwarded_first site k from gen v w)
      given (kind.Propose d) is =
          if_holds P (can_bind site k gen d
          && (bytes_eq (admin d) site.here && (bytes_eq v.node from && (is_member d from && not (bytes_eq from site.here))))) _ _
          (λ q. bound (and_left (can_bind site k gen d) _ q) (and_right (can_bind site k gen d) _ q)) (λ q. Returned from i gen v d is)
        where
          bound : can_bind site k gen d ≡ true
              → (bytes_eq (admin d) site.here && (bytes_eq v.node from && (is_member d from && not (bytes_eq from site.here)))) ≡ true
              → P (Binds Delivered d from (group.Submit v))
          bound p q =
              Handed d from i gen v is (can-bind site k gen d p) (node_is (admin d) site.here (and_left (bytes_eq (admin d) site.here) _ q))
              (node_is v.node from (and_left (bytes_eq v.node from) _ (and_right (bytes_eq (admin d) site.here) _ q)))
      given _ is = Told _ refl
  does-first k from i _ = Told _ refl

  does-hears : (h : Bound) (from : NodeId) (x : Message) → Does site (Held h) (event.Deliver from x) (held_hears site h from x)
  does-hears h from (message.Admin i x) =
      if_holds (Does site (Held h) (event.Deliver from (message.Admin i x))) (is_open_mark h.mark && generation_of x == h.definition.generation) _ _
      (λ q. Heard h from i x (and_left (is_open_mark h.mark) _ q) (eqb_is (generation_of x) h.definition.generation (and_right (is_open_mark h.mark) _ q)))
      (λ q. does-first (Held h) from i x)
  does-hears h from (message.Scabbard i s t x) = go (way site h from s t) refl
    where
      P : Deed → Type 0
      P = Does site (Held h) (event.Deliver from (message.Scabbard i s t x))

      other : (y : CommitMsg Batch) → Does site (Held h) (event.Deliver from (message.Scabbard i s t y)) (serves_other site from s t y)
      other (msg.VoteRequest gen r place v) = Unserved from i s t gen r place v
      other _ = Told _ refl

      go : (w : Way) → way site h from s t ≡ w → P (routed w (hears_routed site h from s t x))
      go (Err f) e = Refused _
      go (Ok u) e =
          let both : (is_open_mark h.mark && runs h) ≡ true = routed-runs site h from s t u e in
          if_holds P (generation_of x == h.definition.generation) _ _
          (λ q. Served h from i s t x (and_left (is_open_mark h.mark) (runs h) both) (and_right (is_open_mark h.mark) (runs h) both)
          (eqb_is (generation_of x) h.definition.generation q)) (λ q. other x)

  -- events

  does-held : (h : Bound) (e : Event) → Does site (Held h) e (held_does site h e)
  does-held h (event.Propose d) = does-proposes d (Held h) (broken d) refl
  does-held h (event.Vote accept) = does-votes h (event.Vote accept) (vote_kind (own_life h) accept) refl (vote-next (own_life h) accept)
  does-held h event.Remove = does-removes h event.Remove (removal_kind (own_life h)) refl (removal-next (own_life h))
  does-held h event.Disband = does-disbands h
  does-held h event.Abandon = does-abandons h
  does-held h event.Purge = unless _ _ _ (λ q. Forgot h)
  does-held h (event.Submit v) = does-submits h v
  does-held h event.Show = Told _ refl
  does-held h event.Detail = Told _ refl
  does-held h (event.Status i) = does-active h _ (does-status h.batches i (place_of (values h.batches.history) i))
  does-held h (event.Receipt i) = does-active h _ (does-receipt i (place_of (values h.batches.history) i) (receipts_of (values h.batches.history) i))
  does-held h (event.Route from s t) = does-routes (way site h from s t)
  does-held h event.Tick = does-turns h group.Tick group.Tick Ticks Ticks
  does-held h event.Expire = does-turns h group.Expire group.Expire Expires Expires
  does-held h (event.Deliver from x) = does-hears h from x
  does-held h _ = does-active h _ (Told _ refl)

  does-other : (k : Cell) (e : Event) → Does site k e (other_does site k e)
  does-other k (event.Propose d) = does-proposes d k (broken d) refl
  does-other k (event.Route from s t) = does-routes (route None false from s t site.here)
  does-other k (event.Deliver from (message.Admin i x)) = does-first k from i x
  does-other k (event.Deliver from (message.Scabbard i s t x)) = does-routes (route None false from s t site.here)
  does-other k _ = Refused _

  -- what any event does is one of these
  pub does-is : (k : Cell) (e : Event) → Does site k e (does site k e)
  does-is (Held h) e = does-held h e
  does-is k e = does-other k e
