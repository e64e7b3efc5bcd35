-- What a cell keeps at each change and each move.
use Rattle.std.{specs.{Prelude.{None, nat_lt, is_none}, Str.bytes_eq}, proofs.Common.{◌≡◌, ℕ, true, ◌&&◌, IsTrue, List, [], ◌∷◌, Bool, Option, refl, sym}}
use Rattle.std.proofs.Common.{subst}
use Rattle.spl_agree.specs.{Member.{Rules, Group, Member, values, changed, moved}, Fits.{is_new, fits as fits_group}, declared.event.GroupChange.GroupChange}
use Rattle.spl_agree.{specs.declared.event.OpenMove.OpenMove, proofs.Tests.{if_holds, and_left, and_right}}
use Rattle.spl_agree.specs.declared.event.OpenMove.TheVariants as move
use Rattle.spl_group_safety.proofs.{Sound.is_none_is, Fits.roomy-open}
use Rattle.spl_circuit.specs.{Forms.definition, Nodes.position, Rules.{broken, is_member}, Acts.act_rules, Lifecycle.{life, is_running}, declared.act.Act.Act}
use Rattle.spl_circuit.specs.declared.definition.Definition.{Definition}
use Rattle.spl_circuit.specs.declared.lifecycle.Mark.TheVariants as mark
use Rattle.spl_command.specs.declared.batch.Batch.{Batch}
use Rattle.spl_scabbard.specs.Checks.{batch_rules}
use Rattle.spl_wire.specs.{Grouping.{value_in, meets}, Bounds.{has_form, is_formed}, declared.change.Change.Change}
use Rattle.spl_wire.specs.declared.change.Change.TheVariants as durable
use Rattle.spl_cell_rules.specs.Cells.{Bound, Cell, Empty, Held, Purged, Site, fresh, admin_group, service_group, is_open_mark, is_free, runs, keeps_batches}
use Rattle.spl_cell_rules.specs.Changes.{turn_after, may_queue, may_serve, may_keep, fits_free, applied_one, applied, moved_cell, stopped_cell}
use Rattle.spl_cell_rules.{specs.Valid.{IsKeptMember, AllMeet, IsBoundHeld, IsKept, IsValid, FitsMoveAt, are_formed}, proofs.Members.checked-new}
use Rattle.spl_cell_rules.proofs.{Members.{checked-changed, meets-new, meets-changed}, Lawful.fitting-lawful}

-- ---- changes

-- a cell that is bound to a definition that fits
kept-bound : (site : Site) (k : Cell) (d : Definition) → fits_free site k (durable.Bind d) ≡ true → IsTrue (definition.fits d) → IsBoundHeld site (fresh d)
kept-bound site k d h w =
    let own : (bytes_eq d.id site.circuit && (is_none (broken d) && is_member d site.here)) ≡ true = and_right (is_free k d.generation) _ h in
    let ruled : (is_none (broken d) && is_member d site.here) ≡ true = and_right (bytes_eq d.id site.circuit) _ own in
    record {
      ruled = is_none_is (broken d) (and_left (is_none (broken d)) (is_member d site.here) ruled);
      defined = w;
      own = and_left (bytes_eq d.id site.circuit) _ own;
      member = and_right (is_none (broken d)) (is_member d site.here) ruled;
      acts = checked-new (act_rules d);
      batches = checked-new batch_rules;
      formed = meets-new has_form;
      lawful = meets-new may_serve;
      closed = λ e. cc;
    }

kept-admin : (site : Site) (h : Bound) (x : GroupChange Act)
    → (is_open_mark h.mark && fits_group (act_rules h.definition) (may_queue site.here h.turn h.acts.pending) h.acts x) ≡ true
    → meets has_form (value_in x) ≡ true → IsBoundHeld site h
    → IsBoundHeld site (record h { turn = turn_after site.here h.turn x; acts = changed (act_rules h.definition) h.acts x })
kept-admin site h x q w s =
    let unclosed : is_open_mark h.mark ≡ true = and_left (is_open_mark h.mark) _ q in
    let fit : fits_group (act_rules h.definition) (may_queue site.here h.turn h.acts.pending) h.acts x ≡ true = and_right (is_open_mark h.mark) _ q in
    record {
      ruled =
          s.ruled;
      defined = s.defined;
      own = s.own;
      member = s.member;
      acts = checked-changed (act_rules h.definition) (may_queue site.here h.turn h.acts.pending) h.acts x fit s.acts;
      batches = s.batches;
      formed = meets-changed (act_rules h.definition) has_form h.acts x w s.formed;
      lawful = s.lawful;
      closed = λ e. cc;
    }

kept-service : (site : Site) (h : Bound) (x : GroupChange Batch)
    → (is_open_mark h.mark && (keeps_batches h && (may_keep x && fits_group batch_rules may_serve h.batches x))) ≡ true → IsBoundHeld site h
    → IsBoundHeld site (record h { batches = changed batch_rules h.batches x })
kept-service site h x w s =
    let both : (may_keep x && fits_group batch_rules may_serve h.batches x) ≡ true = and_right (keeps_batches h) _ (and_right (is_open_mark h.mark) _ w) in
    let fit : fits_group batch_rules may_serve h.batches x ≡ true = and_right (may_keep x) _ both in
    let good : meets may_serve (value_in x) ≡ true = fitting-lawful h.batches x (and_left (may_keep x) _ both) fit s.lawful.pending in
    record {
      ruled =
          s.ruled;
      defined = s.defined;
      own = s.own;
      member = s.member;
      acts = s.acts;
      batches = checked-changed batch_rules may_serve h.batches x fit s.batches;
      formed = s.formed;
      lawful = meets-changed batch_rules may_serve h.batches x good s.lawful;
      closed = s.closed;
    }

kept-abandon : (site : Site) (h : Bound) → (is_open_mark h.mark && runs h) ≡ true → IsBoundHeld site h → IsBoundHeld site (record h { mark = mark.Abandoned })
kept-abandon site h w s =
    record {
      ruled = s.ruled;
      defined = s.defined;
      own = s.own;
      member = s.member;
      acts = s.acts;
      batches = s.batches;
      formed = s.formed;
      lawful = s.lawful;
      closed = λ e. and_right (is_open_mark h.mark) (runs h) w;
    }

kept-turn : (site : Site) (h : Bound) (t : ℕ) → IsBoundHeld site h → IsBoundHeld site (record h { turn = t })
kept-turn site h t s =
    record {
      ruled = s.ruled;
      defined = s.defined;
      own = s.own;
      member = s.member;
      acts = s.acts;
      batches = s.batches;
      formed = s.formed;
      lawful = s.lawful;
      closed = s.closed;
    }

kept-held : (site : Site) (h : Bound) (x : Change) → is_formed x ≡ true → IsBoundHeld site h → IsKept site (applied_one site (Held h) x)
kept-held site h (durable.Bind e) w s = s
kept-held site h (durable.Admin x) w s = if_holds (IsKept site) _ _ _ (λ q. kept-admin site h x q w s) (λ q. s)
kept-held site h (durable.Service x) w s = if_holds (IsKept site) _ _ _ (λ q. kept-service site h x q s) (λ q. s)
kept-held site h durable.Abandon w s = if_holds (IsKept site) _ _ _ (λ q. kept-abandon site h q s) (λ q. s)
kept-held site h durable.Purge w s = tt
kept-held site h (durable.Turn t) w s = if_holds (IsKept site) (is_new h.acts) (Held (record h { turn = t })) (Held h) (λ q. kept-turn site h t s) (λ q. s)
kept-held site h (durable.Gone old) w s = s

pub kept-one : (site : Site) (k : Cell) (x : Change) → is_formed x ≡ true → IsKept site k → IsKept site (applied_one site k x)
kept-one site (Held h) x w s = kept-held site h x w s
kept-one site Empty (durable.Bind d) w s = if_holds (IsKept site) _ _ _ (λ q. kept-bound site Empty d q w) (λ q. tt)
kept-one site Empty (durable.Gone old) w s = if_holds (IsKept site) (nat_lt 0 old) (Purged old) Empty (λ q. tt) (λ q. tt)
kept-one site (Purged old) (durable.Bind d) w s = if_holds (IsKept site) _ _ _ (λ q. kept-bound site (Purged old) d q w) (λ q. tt)
kept-one site k x w s = s

pub kept-applied : (site : Site) (k : Cell) (xs : List Change) → are_formed xs ≡ true → IsKept site k → IsKept site (applied site k xs)
kept-applied site k [] w s = s
kept-applied site k (x ∷ xs) w s =
    kept-applied site (applied_one site k x) xs (and_right (is_formed x) (are_formed xs) w) (kept-one site k x (and_left (is_formed x) (are_formed xs) w) s)

-- ---- moves

checked-opened : {V : Type 0} (rules : Rules V) (a : Member V) (o : Option (ℕ × List ℕ)) → IsKeptMember rules a → IsKeptMember rules (record a { opened = o })
checked-opened rules a o s = record { good = s.good; promised = s.promised; roomy = roomy-open a o s.roomy }

meets-opened : {V : Type 0} (may : V → Bool) (a : Member V) (o : Option (ℕ × List ℕ)) → AllMeet may a → AllMeet may (record a { opened = o })
meets-opened may a o s = record { history = s.history; pending = s.pending; refused = s.refused; promise = s.promise }

-- a move changes the open round alone
record IsMoved {V : Type 0} (rules : Rules V) (old new : Member V) : Type 0 where
  checked : IsKeptMember rules old → IsKeptMember rules new
  meets : (may : V → Bool) → AllMeet may old → AllMeet may new
  history : new.history ≡ old.history

moved-facts : {V : Type 0} (g : Group V) (here : ℕ) (a : Member V) (x : OpenMove) → IsMoved g.rules a (moved g here a x)
moved-facts g here a move.Keep = record { checked = λ s. s; meets = λ may s. s; history = refl }
moved-facts g here a _ = record { checked = λ s. checked-opened g.rules a _ s; meets = λ may s. meets-opened may a _ s; history = refl }

kept-moved : (site : Site) (h : Bound) (x y : OpenMove) → IsBoundHeld site h → IsKept site (moved_cell site.here (Held h) x y)
kept-moved site h x y s =
    let p : IsMoved (act_rules h.definition) h.acts (moved (admin_group h.definition) (position h.definition.members site.here) h.acts x) =
    moved-facts (admin_group h.definition) (position h.definition.members site.here) h.acts x in
    let q : IsMoved batch_rules h.batches (moved (service_group h.definition) (position h.definition.members site.here) h.batches y) =
    moved-facts (service_group h.definition) (position h.definition.members site.here) h.batches y in
    record {
      ruled = s.ruled;
      defined = s.defined;
      own = s.own;
      member = s.member;
      acts = p.checked s.acts;
      batches = q.checked s.batches;
      formed = p.meets has_form s.formed;
      lawful = q.meets may_serve s.lawful;
      closed = λ e. subst (λ (w : List (ℕ × Act)). is_running (life h.definition (values w)).state ≡ true) (sym p.history) (s.closed e);
    }

pub valid-moved : (site : Site) (k : Cell) (x y : OpenMove) → IsKept site k → FitsMoveAt site.here k x y → IsValid site (moved_cell site.here k x y)
valid-moved site (Held h) x y s f = record { kept = kept-moved site h x y s; settled = (f.0.settled, f.1.settled) }
valid-moved site k x y s f = record { kept = tt; settled = tt }

pub valid-stopped : (site : Site) (k : Cell) → IsKept site k → IsValid site (stopped_cell k)
valid-stopped site (Held h) s = record {
  kept = record {
    ruled =
        s.ruled;
    defined = s.defined;
    own = s.own;
    member = s.member;
    acts = checked-opened (act_rules h.definition) h.acts None s.acts;
    batches = checked-opened batch_rules h.batches None s.batches;
    formed = meets-opened has_form h.acts None s.formed;
    lawful = meets-opened may_serve h.batches None s.lawful;
    closed = s.closed;
  };
  settled = ((λ o e. cc), (λ o e. cc));
}
valid-stopped site k s = record { kept = tt; settled = tt }
