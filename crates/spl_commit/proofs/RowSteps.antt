-- Rows from their parts.
use Rattle.std.{specs.Prelude.{Option, Some, None, Result, Ok, Err, IfOk, nat_lt, ◌==◌, if◌then◌else◌}, proofs.Common.{◌≡◌, ℕ, Bool, true, false, not, eqb}}
use Rattle.std.proofs.Common.{cond, List, [], refl, sym, ap, subst, ◌∙◌}
use Rattle.spl_agree.specs.{Member.{Group, Member, others, has, but, none_left, has_round}, Rows.{nothing, changes_one, sends_one, both, commit_open}}
use Rattle.spl_agree.specs.{Rows.{abort_open, counted_vote, on_vote, decided, on_decision, requested_free}, declared.event.GroupChange.GroupChange}
use Rattle.spl_agree.{specs.declared.{message.CommitMsg.CommitMsg, plan.GroupPlan.GroupPlan}, proofs.Tests.{eqb_is, eqb_not, eqb_same, eqb_other}}
use Rattle.spl_agree.specs.declared.message.CommitMsg.TheVariants as msg
use Rattle.spl_agree.specs.declared.event.GroupChange.TheVariants as change
use Rattle.spl_agree.specs.declared.event.OpenMove.TheVariants as move
use Rattle.spl_agree.specs.declared.event.Note.TheVariants as note
use Rattle.spl_coord.specs.{Views.VotingView, Votes.voted_on, declared.voting.Voted.Voted}
use Rattle.spl_coord.specs.declared.voting.Voted.TheVariants as voted
use Rattle.spl_part.specs.{Promises.{decided_of, requested_of}, declared.promise.{Decided.Decided, Requested.Requested}}
use Rattle.spl_part.specs.declared.promise.Decided.TheVariants as outcome
use Rattle.spl_part.specs.declared.promise.Requested.TheVariants as answer

-- what each outcome of a vote gives
abbrev pub VoteGives : {V : Type 0} → Group V → ℕ → Member V → ℕ → ℕ → List ℕ → Bool → Voted (Unit {0}) → Type 0
VoteGives g here m sender r missing aye (voted.Ignored b) = nothing note.Ignored ≡ counted_vote g here m sender r missing aye
VoteGives {V} g here m sender r missing aye (voted.Counted b) =
    (changes : List (GroupChange V)) → (sends : List (ℕ × CommitMsg V)) → changes ≡ [] → sends ≡ []
    → record { note = note.Counted r; changes = changes; opening = move.Yes sender; sends = sends } ≡ counted_vote g here m sender r missing aye
VoteGives g here m sender r missing aye (voted.Committed u q v) = commit_open g here q m.pending ≡ counted_vote g here m sender r missing aye
VoteGives g here m sender r missing aye (voted.Aborted u q v) = abort_open g here q m.pending ≡ counted_vote g here m sender r missing aye

abbrev pub ballot_on : ℕ → List ℕ → List ℕ → VotingView (Unit {0})
ballot_on r all missing = record { round = r; value = tt; others = all; missing = missing }

pub vote-gives : {V : Type 0} (g : Group V) (here : ℕ) (m : Member V) (sender r : ℕ) (missing : List ℕ) (aye : Bool) (b : VotingView (Unit {0}))
    (o : Voted (Unit {0})) → b ≡ ballot_on r (others g here) missing → o ≡ voted_on b r sender aye → has sender (others g here) ≡ true
    → VoteGives g here m sender r missing aye o
vote-gives {V} g here m sender r missing aye b o e w h =
    subst (VoteGives g here m sender r missing aye) (sym (w ∙ ap (λ x. voted_on x r sender aye) e)) (go aye)
  where
    yes_count : (p q : Bool) → has sender missing ≡ p → none_left (but sender missing) ≡ q
        → VoteGives g here m sender r missing true (voted_on (ballot_on r (others g here) missing) r sender true)
    yes_count true true k l = rw (eqb_same r, h, k, l, h, k, l)
    yes_count true false k l = rw (eqb_same r, h, k, l, h, k, l) (λ changes sends c s. rw (c, s))
    yes_count false q k l = rw (eqb_same r, h, k, h, k)

    go : (a : Bool) → VoteGives g here m sender r missing a (voted_on (ballot_on r (others g here) missing) r sender a)
    go true = yes_count (has sender missing) (none_left (but sender missing)) refl refl
    go false = rw (eqb_same r, h, h)

-- a vote of none of the others is passed over
pub none-voted : {V : Type 0} (g : Group V) (here : ℕ) (m : Member V) (sender r : ℕ) (missing : List ℕ) (aye : Bool) → has sender (others g here) ≡ false
    → nothing note.Ignored ≡ counted_vote g here m sender r missing aye
none-voted g here m sender r missing true h = rw h
none-voted g here m sender r missing false h = rw h

-- what an answer that came is, as an equal one
pub as_given : {T E : Type 0} (r : Result T E) (p q : T) → IfOk r (λ x. x ≡ p) → p ≡ q → IfOk r (λ x. x ≡ q)
as_given (Ok x) p q h e = h ∙ e
as_given (Err x) p q h e = tt

-- ---- a vote, by the open round

module _ {V : Type 0} (g : Group V) (here : ℕ) (m : Member V) (o : Option (ℕ × List ℕ)) (sender r : ℕ) (aye : Bool) where
  pub vote-none : o ≡ None → on_vote g here m o sender r aye ≡ nothing note.Ignored
  vote-none e = rw e

  module _ (p : ℕ × List ℕ) (e : o ≡ Some p) where
    pub vote-away : (here ≡ g.coordinator → ⊥) → on_vote g here m o sender r aye ≡ nothing note.Ignored
    vote-away h = rw (e, eqb_other here g.coordinator h)

    pub vote-other : here ≡ g.coordinator → true ≡ not (eqb p.0 r) → on_vote g here m o sender r aye ≡ nothing note.Ignored
    vote-other h n = let same : eqb here g.coordinator ≡ true = rw h (eqb_same g.coordinator) in rw (e, same) (go (eqb p.0 r) n)
      where
        go : (b : Bool) → true ≡ not b → cond b (counted_vote g here m sender r p.1 aye) (nothing note.Ignored) ≡ nothing note.Ignored
        go true n = cc
        go false n = refl

    pub vote-here : here ≡ g.coordinator → false ≡ not (eqb p.0 r) → on_vote g here m o sender r aye ≡ counted_vote g here m sender r p.1 aye
    vote-here h n = let same : eqb here g.coordinator ≡ true = rw h (eqb_same g.coordinator) in rw (e, same) (go (eqb p.0 r) n)
      where
        go : (b : Bool) → false ≡ not b → cond b (counted_vote g here m sender r p.1 aye) (nothing note.Ignored) ≡ counted_vote g here m sender r p.1 aye
        go true n = refl
        go false n = cc

-- ---- a decision, by the promise

-- what each outcome of a decision gives
abbrev pub DecisionGives : {V : Type 0} → GroupPlan V → V → Decided (Unit {0}) → Type 0
DecisionGives all v (outcome.Ignored b) = nothing note.Ignored ≡ all
DecisionGives all v (outcome.Aborted u q w) = changes_one (note.Aborted q) change.Abort ≡ all
DecisionGives all v (outcome.Committed u q w) = changes_one (note.Committed q) (change.Commit q v) ≡ all

module _ {V : Type 0} (g : Group V) (m : Member V) (sender r : ℕ) (commit : Bool) where
  pub decision-stray : (sender ≡ g.coordinator → ⊥) → on_decision g m sender r commit ≡ nothing note.Ignored
  decision-stray h = rw (eqb_other sender g.coordinator h)

  module _ (h : sender ≡ g.coordinator) where
    led : eqb sender g.coordinator ≡ true
    led = rw h (eqb_same g.coordinator)

    pub decision-none : m.promise ≡ None → on_decision g m sender r commit ≡ nothing note.Ignored
    decision-none e = rw (led, e)

    pub decision-gives : (p : ℕ × V) (o : Decided (Unit {0})) → m.promise ≡ Some p → o ≡ decided_of (p.0, tt) r commit
        → DecisionGives (on_decision g m sender r commit) p.1 o
    decision-gives p o e w = subst (DecisionGives (on_decision g m sender r commit) p.1) (sym w) (rw (led, e) (go (eqb p.0 r) commit refl))
      where
        go : (b a : Bool) → eqb p.0 r ≡ b → DecisionGives (decided (Some p) r a) p.1 (decided_of (p.0, tt) r a)
        go true true k = rw k (ap (λ n. changes_one (note.Committed n) (change.Commit n p.1)) (eqb_is p.0 r k))
        go true false k = rw k (ap (λ n. changes_one (note.Aborted n) change.Abort) (eqb_is p.0 r k))
        go false true k = rw k
        go false false k = rw k

-- ---- a request where nothing is promised

module _ {V : Type 0} (gen : ℕ) (history : List (ℕ × V)) (seen sender r : ℕ) (v : V) (fits : Bool) where
  -- what each answer to a request gives
  abbrev pub RequestGives : Requested (Unit {0}) → Type 0
  RequestGives (answer.Ignored f u) = nothing note.Ignored ≡ requested_free gen history seen sender r v fits
  RequestGives (answer.Promised p) = both (note.Promised r) (change.Promise r v) sender (msg.Vote gen r true) ≡ requested_free gen history seen sender r v fits
  RequestGives (answer.Declined f u) =
      (if seen == r then sends_one (note.Declined r) sender (msg.Vote gen r false)
      else both (note.Declined r) (change.Seen r) sender (msg.Vote gen r false)) ≡ requested_free gen history seen sender r v fits

  pub request-gives : (o : Requested (Unit {0})) → o ≡ requested_of seen r (has_round r history) fits tt → RequestGives o
  request-gives o w = subst RequestGives (sym w) (go (nat_lt r seen) (eqb r seen) (has_round r history) fits refl refl refl refl)
    where
      same : eqb r seen ≡ true → eqb seen r ≡ true
      same l = rw (eqb_is r seen l) (eqb_same seen)

      other : eqb r seen ≡ false → eqb seen r ≡ false
      other l = eqb_other seen r (λ e. eqb_not r seen l (sym e))

      go : (below seen_now committed good : Bool) → nat_lt r seen ≡ below → eqb r seen ≡ seen_now → has_round r history ≡ committed → fits ≡ good
          → RequestGives (requested_of seen r (has_round r history) fits tt)
      go true b d f k l n e = rw (k, k)
      go false true true f k l n e = rw (k, l, n, k, l, n)
      go false true false f k l n e = rw (k, l, n, same l, k, l, n)
      go false false d true k l n e = rw (k, l, e, k, l)
      go false false d false k l n e = rw (k, l, e, other l, k, l)
