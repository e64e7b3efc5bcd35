-- Changes that fit.
use Rattle.std.{specs.Prelude.{nat_lt, is_none, if◌then◌else◌}, proofs.Common.{◌≡◌, ℕ, zero, suc, ◌+◌, ◌≤◌, Bool, true, false, ◌&&◌, List, [], ◌∷◌, length}}
use Rattle.std.proofs.Common.{refl, sym, ap, subst, ◌∙◌, arith}
use Rattle.spl_agree.specs.{Member.{Rules, Member, known, changed}, Fits.{fits, any_value, queued}, declared.event.GroupChange.GroupChange}
use Rattle.spl_agree.proofs.Tests.{and_right}
use Rattle.spl_agree.specs.declared.event.GroupChange.TheVariants as change
use Rattle.spl_agree.specs.declared.reason.Admit.TheVariants as admit
use Rattle.spl_circuit.specs.{Nodes.{NodeId, position, node_or}, Equality.same_definition, Acts.{reason, admits_act, admits_kind, act_rules}}
use Rattle.spl_circuit.specs.declared.{act.Act.Act, definition.Definition.Definition}
use Rattle.spl_circuit.specs.declared.act.ActKind.TheVariants as kind
use Rattle.spl_admin.specs.{Kept.LedgerView, Same.{definition_is, definition_same}}
use Rattle.spl_commit.specs.Views.{MemberView, IsFixed}
use Rattle.spl_command.specs.declared.batch.Batch.{Batch}
use Rattle.spl_cell_rules.specs.{Cells.{Bound, Site, admin_group, service_group}, Changes.turn_after}
use Rattle.spl_cell.{specs.{Views.{HeldView, IsPlaced}, Mays.may_be}, proofs.Seats.seat_stays}

three : (a b c : Bool) → (a && (b && c)) ≡ (c && (a && (b && true)))
three true true true = refl
three true true false = refl
three true false true = refl
three true false false = refl
three false true true = refl
three false true false = refl
three false false true = refl
three false false false = refl

-- what a change queues may be pending, and it fits beside that
pub fits_may : {V : Type 0} (rules : Rules V) (may : V → Bool) (m : Member V) (x : GroupChange V)
    → fits rules may m x ≡ (may_be may (queued x) && fits rules any_value m x)
fits_may rules may m (change.Queue v) = three (is_none (known rules m v)) (nat_lt (length m.pending) 64) (may v)
fits_may rules may m _ = refl

pub fits_any : {V : Type 0} (b : Bool) (rules : Rules V) (may : V → Bool) (m : Member V) (x : GroupChange V) → (b && fits rules may m x) ≡ true
    → fits rules any_value m x ≡ true
fits_any b rules may m x h = and_right (may_be may (queued x)) (fits rules any_value m x) (sym (fits_may rules may m x) ∙ and_right b (fits rules may m x) h)

pub fits_running : {V : Type 0} (b c k : Bool) (rules : Rules V) (may : V → Bool) (m : Member V) (x : GroupChange V)
    → (b && (c && (k && fits rules may m x))) ≡ true → fits rules any_value m x ≡ true
fits_running b c k rules may m x h = fits_any k rules may m x (and_right c (k && fits rules may m x) (and_right b (c && (k && fits rules may m x)) h))

-- ---- the seats stay

-- the rules of two definitions are equal only where these are
node_or_none : (ms : List NodeId) (p : ℕ) → length ms ≤ p → node_or ms [] p ≡ []
node_or_none [] p l = refl
node_or_none (m ∷ ms) zero l = absurd (omega (arith, l))
node_or_none (m ∷ ms) (suc p) l = node_or_none ms p (omega (arith, l))

abbrev stranger : Definition → Act
stranger d = record { node = []; turn = 0; kind = kind.Propose d }

admits_stranger : (d e : Definition) (p : ℕ) → length d.members ≤ p → admits_act d p (stranger e) ≡ admits_kind d (kind.Propose e)
admits_stranger d e p l = rw (node_or_none d.members p l)

same_from_admit : (b : Bool) → (if b then admit.Take else admit.Return (reason 5)) ≡ admit.Take → b ≡ true
same_from_admit true h = refl
same_from_admit false h = absurd cc

pub rules_tell : (d e : Definition) → act_rules d ≡ act_rules e → d ≡ e
rules_tell d e h =
    let p : ℕ = length d.members + length e.members in
    let one : admits_act e p (stranger e) ≡ admit.Take = admits_stranger e e p (omega arith) ∙ rw (definition_same e) in
    let two : admits_act d p (stranger e) ≡ admit.Take = ap (λ (r : Rules Act). r.admits p (stranger e)) h ∙ one in
    sym (definition_is e d (same_from_admit (same_definition e d) (sym (admits_stranger d e p (omega arith)) ∙ two)))

pub definition_stays : (old new : MemberView LedgerView Act) → act_rules new.content.definition ≡ act_rules old.content.definition
    → new.content.definition ≡ old.content.definition
definition_stays old new h = rules_tell new.content.definition old.content.definition h

-- a change of the admin group leaves both at their places
pub acts_placed : (n : NodeId) (old new : MemberView LedgerView Act) (b : MemberView (List Batch) Batch) → IsPlaced n old.content.definition old b
    → act_rules new.content.definition ≡ act_rules old.content.definition → IsFixed old new → IsPlaced n new.content.definition new b
acts_placed n old new b p h f =
    let d : Definition = old.content.definition in
    let k : IsPlaced n d new b = record { member = p.member; acts = seat_stays (admin_group d) (position d.members n) old new p.acts f; batches = p.batches } in
    subst (λ (e : Definition). IsPlaced n e new b) (sym (definition_stays old new h)) k

-- and one of the service group
pub batches_placed : (n : NodeId) (d : Definition) (a : MemberView LedgerView Act) (old new : MemberView (List Batch) Batch) → IsPlaced n d a old
    → IsFixed old new → IsPlaced n d a new
batches_placed n d a old new p f =
    record { member = p.member; acts = p.acts; batches = seat_stays (service_group d) (position d.members n) old new p.batches f }

pub ruleset place_facts = (acts_placed, batches_placed, definition_stays)

abbrev held_by : Site → Bound → HeldView
held_by site h = record { site = site; bound = h }

same_held : (site : Site) (o : Bound) (d e : Definition) (t u : ℕ) (a k : Member Act) → d ≡ e → t ≡ u → a ≡ k
    → held_by site (record o { definition = d; turn = t; acts = a }) ≡ held_by site (record o { definition = e; turn = u; acts = k })
same_held site o d e t u a k p q r = cc

-- a bound cell with one change of an act more
pub held_changed : (site : Site) (o : Bound) (e : Definition) (u : ℕ) (k : Member Act) (x y : GroupChange Act) (h : HeldView) → held_by site o ≡ h
    → e ≡ o.definition → u ≡ turn_after h.site.here h.bound.turn x → k ≡ changed (act_rules o.definition) o.acts y → y ≡ x
    → held_by site (record o { definition = e; turn = u; acts = k })
    ≡ record h { bound = record h.bound { turn = turn_after h.site.here h.bound.turn x; acts = changed (act_rules h.bound.definition) h.bound.acts x } }
held_changed site o e u k x y h v p q r s =
    subst (λ (z : HeldView). u ≡ turn_after z.site.here z.bound.turn x
    → held_by site (record o { definition = e; turn = u; acts = k })
    ≡ record z { bound = record z.bound { turn = turn_after z.site.here z.bound.turn x; acts = changed (act_rules z.bound.definition) z.bound.acts x } }) v
    (λ w. same_held site o e o.definition u (turn_after site.here o.turn x) k (changed (act_rules o.definition) o.acts x) p w
    (r ∙ ap (changed (act_rules o.definition) o.acts) s)) q
