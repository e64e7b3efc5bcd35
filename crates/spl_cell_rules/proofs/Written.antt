-- What is read from bytes leaves a cell whose packed form has bytes.
use Rattle.std.{specs.{Prelude.{map, Option, Some, None, nat_lt, ◌==◌}, List.list_all, Str.bytes_eq}, proofs.Common.{◌≡◌, ◌⊎◌, ℕ, ◌+◌, ◌-◌, ◌^◌, ◌<◌, Bool}}
use Rattle.std.proofs.Common.{true, false, ◌&&◌, IsTrue, List, [], ◌∷◌, ◌++◌, refl, subst, inl, inr, arith}
use Rattle.spl_base.specs.{Form.{Form, ◌&◌}, FormLaws.{both_true, and_true}}
use Rattle.spl_agree.specs.{Member.{Rules, Member, new_member, changed}, Fits.{is_new, fits as fits_group}, Pack.{kept_each, committed_each, queued_each}}
use Rattle.spl_agree.specs.{Pack.{promised_one, seen_without, packed_member}, declared.{event.GroupChange.GroupChange, reason.Reason.Reason}}
use Rattle.spl_agree.proofs.Tests.{if_holds, bool_cases, and_right, ltb_is, lt_is}
use Rattle.spl_agree.specs.declared.event.GroupChange.TheVariants as change
use Rattle.spl_circuit.specs.{Nodes.NodeId, Forms.{node_id, circuit_id, word, definition, act}, Acts.act_rules, declared.act.Act.Act}
use Rattle.spl_circuit.specs.declared.{definition.Definition.Definition, lifecycle.Mark.Mark}
use Rattle.spl_circuit.specs.declared.lifecycle.Mark.TheVariants as mark
use Rattle.spl_command.specs.{Forms.batch, declared.batch.Batch.Batch}
use Rattle.spl_scabbard.specs.Checks.{batch_rules}
use Rattle.spl_wire.specs.{Bodies.{long, reason_form}, Changes.{fits_change, change_form}, declared.change.Change.Change}
use Rattle.spl_wire.specs.declared.change.Change.TheVariants as durable
use Rattle.spl_cell_rules.specs.{Cells.{Bound, Cell, Empty, Held, Purged, Site, fresh, is_open_mark, runs, keeps_batches}, Changes.{turn_after, held_after}}
use Rattle.spl_cell_rules.specs.{Changes.{may_queue, may_serve, may_keep, applied_one, applied}, Pack.{packed_batches, packed_mark, packed}}
use Rattle.spl_cell_rules.proofs.Keys.{Each, each-more, each-without}

-- ---- a member

module _ {V : Type 0} (f : Form V) where
  pub record IsWrittenMember (m : Member V) : Type 0 where
    pub next : IsTrue (long.fits m.next)
    pub seen : IsTrue (long.fits m.seen)
    pub history : Each (λ e. IsTrue ((long & f).fits e)) m.history
    pub pending : Each (λ v. IsTrue (f.fits v)) m.pending
    pub refused : Each (λ u. IsTrue ((f & reason_form).fits u)) m.refused
    pub promise : (e : ℕ × V) → m.promise ≡ Some e → IsTrue ((long & f).fits e)

  pub written-new : IsWrittenMember new_member
  written-new = record { next = refl; seen = refl; history = tt; pending = tt; refused = tt; promise = λ e p. cc }

  module _ (rules : Rules V) (may : V → Bool) (m : Member V) where
    written-begin : (r : ℕ) → fits_group rules may m (change.Begin r) ≡ true → IsTrue (long.fits (r + 1))
    written-begin r h =
        let l : r < 2 ^ 64 - 1 = ltb_is r (2 ^ 64 - 1) (and_right (r == m.next) (nat_lt r (2 ^ 64 - 1)) h) in lt_is (r + 1) (2 ^ 64) (omega arith)

    pub written-changed : (x : GroupChange V) → fits_group rules may m x ≡ true → IsTrue (fits_change f x) → IsWrittenMember m
        → IsWrittenMember (changed rules m x)
    written-changed (change.Queue v) h w s =
        record {
          next = s.next;
          seen = s.seen;
          history = s.history;
          pending = each-more (λ u. IsTrue (f.fits u)) m.pending v s.pending w;
          refused = s.refused;
          promise = s.promise;
        }
    written-changed (change.Refuse v why) h w s =
        record {
          next = s.next;
          seen = s.seen;
          history = s.history;
          pending = each-without (λ u. IsTrue (f.fits u)) (rules.same_key v) m.pending s.pending;
          refused = each-more (λ u. IsTrue ((f & reason_form).fits u)) m.refused (v, why) s.refused w;
          promise = s.promise;
        }
    written-changed (change.Begin r) h w s =
        record { next = written-begin r h; seen = s.seen; history = s.history; pending = s.pending; refused = s.refused; promise = s.promise }
    written-changed (change.Seen r) h w s =
        record { next = s.next; seen = w; history = s.history; pending = s.pending; refused = s.refused; promise = s.promise }
    written-changed (change.Promise r v) h w s = record {
      next = s.next;
      seen = (both_true (long.fits r) (f.fits v) w).0;
      history = s.history;
      pending = s.pending;
      refused = s.refused;
      promise = λ e p. let one : (r, v) ≡ e = cc in subst (λ (z : ℕ × V). IsTrue ((long & f).fits z)) one w;
    }
    written-changed change.Abort h w s =
        record { next = s.next; seen = s.seen; history = s.history; pending = s.pending; refused = s.refused; promise = λ e p. cc }
    written-changed (change.Commit r v) h w s =
        record {
          next = s.next;
          seen = s.seen;
          history = each-more (λ e. IsTrue ((long & f).fits e)) m.history (r, v) s.history w;
          pending = each-without (λ u. IsTrue (f.fits u)) (rules.same_key v) m.pending s.pending;
          refused = s.refused;
          promise = λ e p. cc;
        }
    written-changed (change.Restore next seen) h w s =
        record {
          next = (both_true (long.fits next) (long.fits seen) w).0;
          seen = (both_true (long.fits next) (long.fits seen) w).1;
          history = s.history;
          pending = s.pending;
          refused = s.refused;
          promise = s.promise;
        }
    written-changed (change.Kept v why) h w s =
        record {
          next = s.next;
          seen = s.seen;
          history = s.history;
          pending = s.pending;
          refused = each-more (λ u. IsTrue ((f & reason_form).fits u)) m.refused (v, why) s.refused w;
          promise = s.promise;
        }

  abbrev Writes : List (GroupChange V) → Type 0
  Writes xs = Each (λ x. IsTrue (fits_change f x)) xs

  writes-append : (xs ys : List (GroupChange V)) → Writes xs → Writes ys → Writes (xs ++ ys)
  writes-append [] ys h k = k
  writes-append (x ∷ xs) ys h k = (h.0, writes-append xs ys h.1 k)

  writes-kept : (us : List (V × Reason)) → Each (λ u. IsTrue ((f & reason_form).fits u)) us → Writes (kept_each us)
  writes-kept [] h = tt
  writes-kept (u ∷ us) h = (h.0, writes-kept us h.1)

  writes-committed : (es : List (ℕ × V)) → Each (λ e. IsTrue ((long & f).fits e)) es → Writes (committed_each es)
  writes-committed [] h = tt
  writes-committed (e ∷ es) h = (h.0, writes-committed es h.1)

  writes-queued : (vs : List V) → Each (λ v. IsTrue (f.fits v)) vs → Writes (queued_each vs)
  writes-queued [] h = tt
  writes-queued (v ∷ vs) h = (h.0, writes-queued vs h.1)

  writes-promised : (o : Option (ℕ × V)) → ((e : ℕ × V) → o ≡ Some e → IsTrue ((long & f).fits e)) → Writes (promised_one o)
  writes-promised None h = tt
  writes-promised (Some e) h = (h e refl, tt)

  writes-seen : (o : Option (ℕ × V)) (seen : ℕ) → IsTrue (long.fits seen) → IsTrue (long.fits (seen_without o seen))
  writes-seen None seen h = h
  writes-seen (Some e) seen h = refl

  pub writes-packed : (m : Member V) → IsWrittenMember m → Writes (packed_member m)
  writes-packed m s = (
    and_true (long.fits m.next) (long.fits (seen_without m.promise m.seen)) s.next (writes-seen m.promise m.seen s.seen),
    writes-append (kept_each m.refused) _ (writes-kept m.refused s.refused)
        (writes-append (committed_each m.history) _ (writes-committed m.history s.history)
        (writes-append (queued_each m.pending) _ (writes-queued m.pending s.pending) (writes-promised m.promise s.promise))),
  )

-- ---- a cell

pub record IsWrittenHeld (h : Bound) : Type 0 where
  pub defined : IsTrue (definition.fits h.definition)
  pub turned : IsTrue (word.fits h.turn)
  pub acts : IsWrittenMember act h.acts
  pub batches : IsWrittenMember batch h.batches

abbrev pub IsWritten : Cell → Type 0
IsWritten Empty = Unit {0}
IsWritten (Held h) = IsWrittenHeld h
IsWritten (Purged old) = IsTrue (word.fits old)

-- a change of a group has a byte form where its fields have
fits-admin : (x : GroupChange Act) → IsTrue (change_form.fits (durable.Admin x)) → IsTrue (fits_change act x)
fits-admin (change.Queue v) h = h
fits-admin _ h = h

admin-fits : (x : GroupChange Act) → IsTrue (fits_change act x) → IsTrue (change_form.fits (durable.Admin x))
admin-fits (change.Queue v) h = h
admin-fits _ h = h

fits-service : (x : GroupChange Batch) → IsTrue (change_form.fits (durable.Service x)) → IsTrue (fits_change batch x)
fits-service (change.Queue v) h = h
fits-service _ h = h

service-fits : (x : GroupChange Batch) → IsTrue (fits_change batch x) → IsTrue (change_form.fits (durable.Service x))
service-fits (change.Queue v) h = h
service-fits _ h = h

act-turn : (v : Act) → IsTrue (act.fits v) → IsTrue (word.fits v.turn)
act-turn v h = (both_true (word.fits v.turn) _ (both_true (node_id.fits v.node) _ h).1).0

generation-fits : (d : Definition) → IsTrue (definition.fits d) → IsTrue (word.fits d.generation)
generation-fits d h = (both_true (word.fits d.generation) _ (both_true (circuit_id.fits d.id) _ h).1).0

-- the turn after it
written-turn : (here : NodeId) (turn : ℕ) (x : GroupChange Act) → IsTrue (fits_change act x) → IsTrue (word.fits turn)
    → IsTrue (word.fits (turn_after here turn x))
written-turn here turn (change.Queue v) w h = if_holds (λ (n : ℕ). IsTrue (word.fits n)) (bytes_eq v.node here) v.turn turn (λ q. act-turn v w) (λ q. h)
written-turn here turn _ w h = h

written-held : (site : Site) (h : Bound) (x : Change) → IsTrue (change_form.fits x) → IsWrittenHeld h → IsWritten (applied_one site (Held h) x)
written-held site h (durable.Bind e) w s = s
written-held site h (durable.Admin x) w s =
    if_holds IsWritten _ (held_after site.here h (durable.Admin x)) (Held h)
    (λ q. record {
      defined = s.defined;
      turned = written-turn site.here h.turn x (fits-admin x w) s.turned;
      acts = written-changed act (act_rules h.definition) (may_queue site.here h.turn h.acts.pending) h.acts x (and_right (is_open_mark h.mark) _ q)
          (fits-admin x w) s.acts;
      batches = s.batches;
    }) (λ q. s)
written-held site h (durable.Service x) w s =
    if_holds IsWritten _ (held_after site.here h (durable.Service x)) (Held h)
    (λ q. record {
      defined = s.defined;
      turned = s.turned;
      acts = s.acts;
      batches = written-changed batch batch_rules may_serve h.batches x
          (and_right (may_keep x) _ (and_right (keeps_batches h) _ (and_right (is_open_mark h.mark) _ q))) (fits-service x w) s.batches;
    }) (λ q. s)
written-held site h durable.Abandon w s =
    if_holds IsWritten (is_open_mark h.mark && runs h) (held_after site.here h durable.Abandon) (Held h)
    (λ q. record { defined = s.defined; turned = s.turned; acts = s.acts; batches = s.batches }) (λ q. s)
written-held site h durable.Purge w s = generation-fits h.definition s.defined
written-held site h (durable.Turn t) w s =
    if_holds IsWritten (is_new h.acts) (held_after site.here h (durable.Turn t)) (Held h)
    (λ q. record { defined = s.defined; turned = w; acts = s.acts; batches = s.batches }) (λ q. s)
written-held site h (durable.Gone old) w s = s

bound-written : (d : Definition) → IsTrue (definition.fits d) → IsWrittenHeld (fresh d)
bound-written d h = record { defined = h; turned = refl; acts = written-new act; batches = written-new batch }

written-one : (site : Site) (k : Cell) (x : Change) → IsTrue (change_form.fits x) → IsWritten k → IsWritten (applied_one site k x)
written-one site (Held h) x w s = written-held site h x w s
written-one site Empty (durable.Bind d) w s = if_holds IsWritten _ (Held (fresh d)) Empty (λ q. bound-written d w) (λ q. tt)
written-one site Empty (durable.Gone old) w s = if_holds IsWritten (nat_lt 0 old) (Purged old) Empty (λ q. w) (λ q. tt)
written-one site (Purged old) (durable.Bind d) w s = if_holds IsWritten _ (Held (fresh d)) (Purged old) (λ q. bound-written d w) (λ q. s)
written-one site k x w s = s

pub written-applied : (site : Site) (k : Cell) (xs : List Change) → IsTrue (list_all change_form.fits xs) → IsWritten k → IsWritten (applied site k xs)
written-applied site k [] w s = s
written-applied site k (x ∷ xs) w s =
    let h = both_true (change_form.fits x) (list_all change_form.fits xs) w in written-applied site (applied_one site k x) xs h.1 (written-one site k x h.0 s)

-- ---- its packed form

abbrev AllWritten : List Change → Type 0
AllWritten xs = IsTrue (list_all change_form.fits xs)

all-append : (xs ys : List Change) → AllWritten xs → AllWritten ys → AllWritten (xs ++ ys)
all-append [] ys h k = k
all-append (x ∷ xs) ys h k =
    let b = both_true (change_form.fits x) (list_all change_form.fits xs) h in
    and_true (change_form.fits x) (list_all change_form.fits (xs ++ ys)) b.0 (all-append xs ys b.1 k)

all-admin : (xs : List (GroupChange Act)) → Each (λ x. IsTrue (fits_change act x)) xs → AllWritten (map durable.Admin xs)
all-admin [] h = refl
all-admin (x ∷ xs) h = and_true (change_form.fits (durable.Admin x)) (list_all change_form.fits (map durable.Admin xs)) (admin-fits x h.0) (all-admin xs h.1)

all-service : (xs : List (GroupChange Batch)) → Each (λ x. IsTrue (fits_change batch x)) xs → AllWritten (map durable.Service xs)
all-service [] h = refl
all-service (x ∷ xs) h =
    and_true (change_form.fits (durable.Service x)) (list_all change_form.fits (map durable.Service xs)) (service-fits x h.0) (all-service xs h.1)

all-mark : (m : Mark) → AllWritten (packed_mark m)
all-mark mark.Abandoned = refl
all-mark _ = refl

pub written-packed : (k : Cell) → IsWritten k → AllWritten (packed k)
written-packed Empty s = refl
written-packed (Purged old) s = and_true (word.fits old) true s refl
written-packed (Held h) s =
    and_true (definition.fits h.definition) _ s.defined (and_true (word.fits h.turn) _ s.turned
    (all-append (map durable.Admin (packed_member h.acts)) _ (all-admin (packed_member h.acts) (writes-packed act h.acts s.acts))
    (all-append (packed_batches h) (packed_mark h.mark) (go (bool_cases (keeps_batches h))) (all-mark h.mark))))
  where
    go : (keeps_batches h ≡ true) ⊎ (keeps_batches h ≡ false) → AllWritten (packed_batches h)
    go (inl q) = rw q (all-service (packed_member h.batches) (writes-packed batch h.batches s.batches))
    go (inr q) = rw q
