-- The packed form of a cell that changes have made of an empty one makes that cell again.
use Rattle.std.{specs.{Prelude.{map, Option, Some, None, nat_lt, nat_le, is_none, ◌==◌}, List.list_all, Str.bytes_eq}, proofs.Common.{◌≡◌, ◌⊎◌, ℕ, ◌<◌, true}}
use Rattle.std.proofs.{Common.{false, ◌&&◌, ◌||◌, List, [], ◌∷◌, ◌++◌, refl, sym, ap, subst, ◌∙◌, inl, inr, arith}, lemmas.Bool.{eq-eqb, Decides.nat_tests}}
use Rattle.spl_base.specs.Booleans.{none_is}
use Rattle.spl_agree.specs.{Member.{Member, new_member, changed, changed_by}, Fits.{is_new, fits as fits_group}, Pack.{kept_each, committed_each}}
use Rattle.spl_agree.specs.{Pack.{queued_each, promised_one, packed_member}, declared.{event.GroupChange.GroupChange, reason.Reason.Reason}}
use Rattle.spl_agree.proofs.Tests.{if_holds, bool_cases, and_left, and_right, eqb_is, ltb_is, lt_is}
use Rattle.spl_agree.specs.declared.event.GroupChange.TheVariants as change
use Rattle.spl_circuit.specs.{Nodes.NodeId, Rules.{broken, is_member}, Acts.act_rules, Equality.{same_act_key, same_kind}, Same.{key_parts, key_from}}
use Rattle.spl_circuit.specs.declared.{act.Act.Act, definition.Definition.Definition, lifecycle.Mark.Mark}
use Rattle.spl_circuit.specs.declared.lifecycle.Mark.TheVariants as mark
use Rattle.spl_command.specs.{Equality.{same_list, same_transaction}, declared.batch.Batch.Batch}
use Rattle.spl_scabbard.specs.Checks.{batch_rules}
use Rattle.spl_wire.specs.declared.change.Change.{Change}
use Rattle.spl_wire.specs.declared.change.Change.TheVariants as durable
use Rattle.spl_cell_rules.specs.{Cells.{Bound, Cell, Empty, Held, Purged, Site, fresh, is_open_mark, is_free, runs, keeps_batches}, Changes.turn_after}
use Rattle.spl_cell_rules.specs.{Changes.{may_queue, may_serve, may_keep, fits_free, applied_one, applied, stopped_cell}, Pack.{packed_batches, packed_mark}}
use Rattle.spl_cell_rules.{specs.Pack.packed, proofs.{Members.pending-changed, Lawful.pending-lawful, Plans.applied-append, Keys.{Each, each-more, HasKeys}}}
use Rattle.spl_cell_rules.proofs.{Built.{IsBuilt, built-new, built-changed, is-fresh}, Rebuilt.{FitInTurn, MayInTurn, Leads, rebuilt}, Owns.Mine}
use Rattle.spl_cell_rules.proofs.{Owns.{mine-changed, mine-may}, Running.keeps-changed}

-- ---- the keys of acts and of batches

act-keys : (d : Definition) → HasKeys (act_rules d)
act-keys d = record {
  back = λ u v h. let k = key_parts u v h in key_from v u (sym k.0) (sym k.1);
  along = λ u v w h k. let x = key_parts u v h in let y = key_parts v w k in key_from u w (x.0 ∙ y.0) (x.1 ∙ y.1);
  same = λ u v h. and_left (same_act_key u v) (same_kind u.kind v.kind) h;
}

batch-keys : HasKeys batch_rules
batch-keys = record {
  back = λ u v h. eq-eqb v.id u.id (sym (eqb_is u.id v.id h));
  along = λ u v w h k. eq-eqb u.id w.id (eqb_is u.id v.id h ∙ eqb_is v.id w.id k);
  same = λ u v h. and_left (u.id == v.id) (same_list same_transaction u.transactions v.transactions) h;
}

-- ---- what holds of a bound cell

abbrev Lawful : Batch × Reason → Type 0
Lawful u = may_serve u.0 ≡ true

pub record IsMade (site : Site) (h : Bound) : Type 0 where
  pub ruled : broken h.definition ≡ None
  pub own : bytes_eq h.definition.id site.circuit ≡ true
  pub member : is_member h.definition site.here ≡ true
  -- it is open or abandoned, and what is abandoned runs
  pub marked : is_open_mark h.mark ≡ false → h.mark ≡ mark.Abandoned
  pub closed : is_open_mark h.mark ≡ false → runs h ≡ true
  pub acts : IsBuilt (act_rules h.definition) h.acts
  pub batches : IsBuilt batch_rules h.batches
  pub mine : Mine site.here h.turn [] h.acts.pending
  pub pending_lawful : list_all may_serve h.batches.pending ≡ true
  pub refused_lawful : Each Lawful h.batches.refused
  -- there are batches only where the circuit runs, or has run
  pub idle : keeps_batches h ≡ false → h.batches ≡ new_member

abbrev pub Made : Site → Cell → Type 0
Made site Empty = Unit {0}
Made site (Held h) = IsMade site h
Made site (Purged old) = 0 < old

-- ---- each change leaves it so

-- a valid definition has a generation from 1 on
first_generation : (d : Definition) → broken d ≡ None → 0 < d.generation
first_generation d h = go (bool_cases (d.version == 1 || d.version == 2)) (bool_cases (nat_le 1 d.generation))
  where
    go : ((d.version == 1 || d.version == 2) ≡ true) ⊎ ((d.version == 1 || d.version == 2) ≡ false)
        → (nat_le 1 d.generation ≡ true) ⊎ (nat_le 1 d.generation ≡ false) → 0 < d.generation
    go (inr p) q = absurd (let z : Some 1 ≡ None = rw p at h in cc)
    go (inl p) (inr q) = absurd (let z : Some 2 ≡ None = rw (p, q) at h in cc)
    go (inl p) (inl q) = grind (arith, nat_tests)

made-bound : (site : Site) (k : Cell) (d : Definition) → fits_free site k (durable.Bind d) ≡ true → IsMade site (fresh d)
made-bound site k d h =
    let own : (bytes_eq d.id site.circuit && (is_none (broken d) && is_member d site.here)) ≡ true = and_right (is_free k d.generation) _ h in
    let ruled : (is_none (broken d) && is_member d site.here) ≡ true = and_right (bytes_eq d.id site.circuit) _ own in
    record {
      ruled = none_is (broken d) (and_left (is_none (broken d)) (is_member d site.here) ruled);
      own = and_left (bytes_eq d.id site.circuit) _ own;
      member = and_right (is_none (broken d)) (is_member d site.here) ruled;
      marked = λ e. cc;
      closed = λ e. cc;
      acts = built-new (act_rules d);
      batches = built-new batch_rules;
      mine = tt;
      pending_lawful = refl;
      refused_lawful = tt;
      idle = λ e. refl;
    }

made-admin : (site : Site) (h : Bound) (x : GroupChange Act)
    → (is_open_mark h.mark && fits_group (act_rules h.definition) (may_queue site.here h.turn h.acts.pending) h.acts x) ≡ true → IsMade site h
    → IsMade site (record h { turn = turn_after site.here h.turn x; acts = changed (act_rules h.definition) h.acts x })
made-admin site h x w s =
    let unclosed : is_open_mark h.mark ≡ true = and_left (is_open_mark h.mark) _ w in
    let fit : fits_group (act_rules h.definition) (may_queue site.here h.turn h.acts.pending) h.acts x ≡ true = and_right (is_open_mark h.mark) _ w in
    record {
      ruled = s.ruled;
      own = s.own;
      member = s.member;
      marked = s.marked;
      closed = λ e. cc;
      acts = built-changed (act_rules h.definition) (may_queue site.here h.turn h.acts.pending) h.acts (act-keys h.definition) x fit s.acts;
      batches = s.batches;
      mine = mine-changed site.here h.definition h.turn h.acts x fit s.mine;
      pending_lawful = s.pending_lawful;
      refused_lawful = s.refused_lawful;
      idle = λ e. go fit e (bool_cases (keeps_batches h));
    }
  where
    go : fits_group (act_rules h.definition) (may_queue site.here h.turn h.acts.pending) h.acts x ≡ true
        → keeps_batches (record h { acts = changed (act_rules h.definition) h.acts x }) ≡ false → (keeps_batches h ≡ true) ⊎ (keeps_batches h ≡ false)
        → h.batches ≡ new_member
    go fit e (inl q) =
        absurd (let z : keeps_batches (record h { acts = changed (act_rules h.definition) h.acts x })
        ≡ true = keeps-changed h (may_queue site.here h.turn h.acts.pending) x q fit in cc)
    go fit e (inr q) = s.idle q

refused-lawful : (b : Member Batch) (x : GroupChange Batch) → may_keep x ≡ true → fits_group batch_rules may_serve b x ≡ true
    → list_all may_serve b.pending ≡ true → Each Lawful b.refused → Each Lawful (changed batch_rules b x).refused
refused-lawful b (change.Refuse v why) k h p r = each-more Lawful b.refused (v, why) r (pending-lawful v b.pending h p)
refused-lawful b (change.Kept v why) k h p r = each-more Lawful b.refused (v, why) r k
refused-lawful b _ k h p r = r

made-service : (site : Site) (h : Bound) (x : GroupChange Batch)
    → (is_open_mark h.mark && (keeps_batches h && (may_keep x && fits_group batch_rules may_serve h.batches x))) ≡ true → IsMade site h
    → IsMade site (record h { batches = changed batch_rules h.batches x })
made-service site h x w s =
    let active : (keeps_batches h && (may_keep x && fits_group batch_rules may_serve h.batches x)) ≡ true = and_right (is_open_mark h.mark) _ w in
    let running : keeps_batches h ≡ true = and_left (keeps_batches h) _ active in
    let both : (may_keep x && fits_group batch_rules may_serve h.batches x) ≡ true = and_right (keeps_batches h) _ active in
    let fit : fits_group batch_rules may_serve h.batches x ≡ true = and_right (may_keep x) _ both in
    record {
      ruled = s.ruled;
      own = s.own;
      member = s.member;
      marked = s.marked;
      closed = s.closed;
      acts = s.acts;
      batches = built-changed batch_rules may_serve h.batches batch-keys x fit s.batches;
      mine = s.mine;
      pending_lawful = pending-changed batch_rules may_serve h.batches x fit s.pending_lawful;
      refused_lawful = refused-lawful h.batches x (and_left (may_keep x) _ both) fit s.pending_lawful s.refused_lawful;
      idle = λ e. cc;
    }

made-abandon : (site : Site) (h : Bound) → (is_open_mark h.mark && runs h) ≡ true → IsMade site h → IsMade site (record h { mark = mark.Abandoned })
made-abandon site h w s = record {
  ruled = s.ruled;
  own = s.own;
  member = s.member;
  marked = λ e. refl;
  closed = λ e. and_right (is_open_mark h.mark) (runs h) w;
  acts = s.acts;
  batches = s.batches;
  mine = s.mine;
  pending_lawful = s.pending_lawful;
  refused_lawful = s.refused_lawful;
  idle = s.idle;
}

-- the admin group is as it was made, so that any turn will do
made-turn : (site : Site) (h : Bound) (t : ℕ) → is_new h.acts ≡ true → IsMade site h → IsMade site (record h { turn = t })
made-turn site h t w s = record {
  ruled = s.ruled;
  own = s.own;
  member = s.member;
  marked = s.marked;
  closed = s.closed;
  acts = s.acts;
  batches = s.batches;
  mine = subst (λ (us : List Act). Mine site.here t [] us) (sym (is-fresh h.acts w).bare.pending) tt;
  pending_lawful = s.pending_lawful;
  refused_lawful = s.refused_lawful;
  idle = s.idle;
}

made-held : (site : Site) (h : Bound) (x : Change) → IsMade site h → Made site (applied_one site (Held h) x)
made-held site h (durable.Bind e) s = s
made-held site h (durable.Admin x) s = if_holds (Made site) _ _ _ (λ w. made-admin site h x w s) (λ w. s)
made-held site h (durable.Service x) s = if_holds (Made site) _ _ _ (λ w. made-service site h x w s) (λ w. s)
made-held site h durable.Abandon s = if_holds (Made site) _ _ _ (λ w. made-abandon site h w s) (λ w. s)
made-held site h durable.Purge s = first_generation h.definition s.ruled
made-held site h (durable.Turn t) s = if_holds (Made site) (is_new h.acts) (Held (record h { turn = t })) (Held h) (λ w. made-turn site h t w s) (λ w. s)
made-held site h (durable.Gone old) s = s

pub made-one : (site : Site) (k : Cell) (x : Change) → Made site k → Made site (applied_one site k x)
made-one site (Held h) x s = made-held site h x s
made-one site Empty (durable.Bind d) s = if_holds (Made site) _ _ _ (λ w. made-bound site Empty d w) (λ w. tt)
made-one site Empty (durable.Gone old) s = if_holds (Made site) (nat_lt 0 old) (Purged old) Empty (λ w. ltb_is 0 old w) (λ w. tt)
made-one site (Purged old) (durable.Bind d) s = if_holds (Made site) _ _ _ (λ w. made-bound site (Purged old) d w) (λ w. s)
made-one site k x s = s

pub made-applied : (site : Site) (k : Cell) (xs : List Change) → Made site k → Made site (applied site k xs)
made-applied site k [] s = s
made-applied site k (x ∷ xs) s = made-applied site (applied_one site k x) xs (made-one site k x s)

-- ---- the packed form makes it

each-append : {A : Type 0} (P : A → Type 0) (xs ys : List A) → Each P xs → Each P ys → Each P (xs ++ ys)
each-append P [] ys h k = k
each-append P (x ∷ xs) ys h k = (h.0, each-append P xs ys h.1 k)

each-all : {A : Type 0} (P : A → Type 0) (xs : List A) → ((x : A) → P x) → Each P xs
each-all P [] f = tt
each-all P (x ∷ xs) f = (f x, each-all P xs f)

module _ {V : Type 0} (P : GroupChange V → Type 0) where
  each-kept : (us : List (V × Reason)) → Each (λ u. P (change.Kept u.0 u.1)) us → Each P (kept_each us)
  each-kept [] h = tt
  each-kept (u ∷ us) h = (h.0, each-kept us h.1)

  each-committed : (es : List (ℕ × V)) → ((r : ℕ) (v : V) → P (change.Commit r v)) → Each P (committed_each es)
  each-committed [] f = tt
  each-committed (e ∷ es) f = (f e.0 e.1, each-committed es f)

  each-queued : (us : List V) → Each (λ v. P (change.Queue v)) us → Each P (queued_each us)
  each-queued [] h = tt
  each-queued (v ∷ vs) h = (h.0, each-queued vs h.1)

  each-promised : (o : Option (ℕ × V)) → ((r : ℕ) (v : V) → P (change.Promise r v)) → Each P (promised_one o)
  each-promised None f = tt
  each-promised (Some e) f = (f e.0 e.1, tt)

  each-packed : (m : Member V) → ((n s : ℕ) → P (change.Restore n s)) → Each (λ u. P (change.Kept u.0 u.1)) m.refused
      → ((r : ℕ) (v : V) → P (change.Commit r v)) → Each (λ v. P (change.Queue v)) m.pending → ((r : ℕ) (v : V) → P (change.Promise r v))
      → Each P (packed_member m)
  each-packed m f k g q p = (
    f _ _,
    each-append P (kept_each m.refused) _ (each-kept m.refused k)
        (each-append P (committed_each m.history) _ (each-committed m.history g)
        (each-append P (queued_each m.pending) _ (each-queued m.pending q) (each-promised m.promise p))),
  )

-- the turn stays after each change of the packed form
abbrev Stays : NodeId → ℕ → GroupChange Act → Type 0
Stays here turn x = turn_after here turn x ≡ turn

stays-queued : (here : NodeId) (turn : ℕ) (before us : List Act) → Mine here turn before us → Each (λ v. Stays here turn (change.Queue v)) us
stays-queued here turn before [] m = tt
stays-queued here turn before (v ∷ vs) m = (go (bool_cases (bytes_eq v.node here)), stays-queued here turn (before ++ v ∷ []) vs m.1)
  where
    go : (bytes_eq v.node here ≡ true) ⊎ (bytes_eq v.node here ≡ false) → Stays here turn (change.Queue v)
    go (inl q) = rw q (m.0 q).1
    go (inr q) = rw q

stays-packed : (here : NodeId) (turn : ℕ) (a : Member Act) → Mine here turn [] a.pending → Each (Stays here turn) (packed_member a)
stays-packed here turn a m =
    each-packed (Stays here turn) a (λ n s. refl) (each-all (λ (u : Act × Reason). Stays here turn (change.Kept u.0 u.1)) a.refused (λ u. refl))
    (λ r v. refl) (stays-queued here turn [] a.pending m) (λ r v. refl)

abbrev MayKeep : GroupChange Batch → Type 0
MayKeep x = may_keep x ≡ true

keeps-packed : (b : Member Batch) → Each Lawful b.refused → Each MayKeep (packed_member b)
keeps-packed b r = each-packed MayKeep b (λ n s. refl) r (λ n v. refl) (each-all (λ v. MayKeep (change.Queue v)) b.pending (λ v. refl)) (λ n v. refl)

admin-leads : (site : Site) (h : Bound) (xs : List (GroupChange Act)) → h.mark ≡ mark.Open
    → FitInTurn (act_rules h.definition) (may_queue site.here h.turn) h.acts xs → Each (Stays site.here h.turn) xs
    → applied site (Held h) (map durable.Admin xs) ≡ Held (record h { acts = changed_by (act_rules h.definition) h.acts xs })
admin-leads site h [] o f t = refl
admin-leads site h (x ∷ xs) o f t =
    let one : applied_one site (Held h) (durable.Admin x) ≡ Held (record h { acts = changed (act_rules h.definition) h.acts x }) = rw (o, f.0, t.0) in
    ap (λ (k : Cell). applied site k (map durable.Admin xs)) one ∙ admin-leads site (record h { acts = changed (act_rules h.definition) h.acts x }) xs o f.1 t.1

service-leads : (site : Site) (h : Bound) (xs : List (GroupChange Batch)) → h.mark ≡ mark.Open → keeps_batches h ≡ true
    → FitInTurn batch_rules (λ us. may_serve) h.batches xs → Each MayKeep xs
    → applied site (Held h) (map durable.Service xs) ≡ Held (record h { batches = changed_by batch_rules h.batches xs })
service-leads site h [] o active f t = refl
service-leads site h (x ∷ xs) o active f t =
    let one : applied_one site (Held h) (durable.Service x) ≡ Held (record h { batches = changed batch_rules h.batches x }) = rw (o, active, t.0, f.0) in
    ap (λ (k : Cell). applied site k (map durable.Service xs)) one
    ∙ service-leads site (record h { batches = changed batch_rules h.batches x }) xs o active f.1 t.1

any-may : (before us : List Batch) → list_all may_serve us ≡ true → MayInTurn (λ vs. may_serve) before us
any-may before [] h = tt
any-may before (v ∷ vs) h =
    (and_left (may_serve v) (list_all may_serve vs) h, any-may (before ++ v ∷ []) vs (and_right (may_serve v) (list_all may_serve vs) h))

module _ (site : Site) (h : Bound) (s : IsMade site h) where
  -- the cell after the first two changes, after the acts, and after the batches
  abbrev begun : Bound
  begun = record h { mark = mark.Open; acts = new_member; batches = new_member }

  abbrev acted : Bound
  acted = record h { mark = mark.Open; batches = new_member }

  abbrev served : Bound
  served = record h { mark = mark.Open }

  leads-bound : (rest : List Change) → applied site Empty (durable.Bind h.definition ∷ durable.Turn h.turn ∷ rest) ≡ applied site (Held begun) rest
  leads-bound rest = rw (s.own, s.ruled, s.member)

  leads-acts : applied site (Held begun) (map durable.Admin (packed_member h.acts)) ≡ Held acted
  leads-acts =
      let l : Leads (act_rules h.definition) (may_queue site.here h.turn) new_member h.acts (packed_member h.acts) =
      rebuilt (act_rules h.definition) (may_queue site.here h.turn) h.acts s.acts (mine-may site.here h.turn [] h.acts.pending s.mine) in
      admin-leads site begun (packed_member h.acts) refl l.fit (stays-packed site.here h.turn h.acts s.mine)
      ∙ ap (λ (z : Member Act). Held (record acted { acts = z })) l.gives

  leads-batches : applied site (Held acted) (packed_batches h) ≡ Held served
  leads-batches = go (bool_cases (keeps_batches h))
    where
      go : (keeps_batches h ≡ true) ⊎ (keeps_batches h ≡ false) → applied site (Held acted) (packed_batches h) ≡ Held served
      go (inl q) =
          let l : Leads batch_rules (λ us. may_serve) new_member h.batches (packed_member h.batches) =
          rebuilt batch_rules (λ us. may_serve) h.batches s.batches (any-may [] h.batches.pending s.pending_lawful) in
          rw q (service-leads site acted (packed_member h.batches) refl q l.fit (keeps-packed h.batches s.refused_lawful)
          ∙ ap (λ (z : Member Batch). Held (record served { batches = z })) l.gives)
      go (inr q) = rw q (ap (λ (z : Member Batch). Held (record served { batches = z })) (sym (s.idle q)))

  leads-mark : applied site (Held served) (packed_mark h.mark) ≡ Held h
  leads-mark = go h.mark s.marked s.closed
    where
      go : (m : Mark) → (is_open_mark m ≡ false → m ≡ mark.Abandoned) → (is_open_mark m ≡ false → runs h ≡ true)
          → applied site (Held served) (packed_mark m) ≡ Held (record h { mark = m })
      go mark.Open marked closed = refl
      go mark.Abandoned marked closed = rw (closed refl)
      go mark.Purged marked closed = absurd (let z : mark.Purged ≡ mark.Abandoned = marked refl in cc)

pub packed-leads : (site : Site) (k : Cell) → Made site k → applied site Empty (packed k) ≡ k
packed-leads site Empty s = refl
packed-leads site (Purged old) s = rw (lt_is 0 old s)
packed-leads site (Held h) s =
    let xs : List Change = map durable.Admin (packed_member h.acts) in
    let ys : List Change = packed_batches h in
    leads-bound site h s (xs ++ (ys ++ packed_mark h.mark))
    ∙ (applied-append site (Held (begun site h s)) xs (ys ++ packed_mark h.mark)
    ∙ (ap (λ (k : Cell). applied site k (ys ++ packed_mark h.mark)) (leads-acts site h s)
    ∙ (applied-append site (Held (acted site h s)) ys (packed_mark h.mark)
    ∙ (ap (λ (k : Cell). applied site k (packed_mark h.mark)) (leads-batches site h s)
    ∙ leads-mark site h s))))

-- open rounds aren't packed
pub packed-stopped : (k : Cell) → packed (stopped_cell k) ≡ packed k
packed-stopped (Held h) = refl
packed-stopped _ = refl
