use Rattle.std.{specs.Prelude.{IfOk}, proofs.Common.{◌≡◌, ◌∙◌, Ok, refl, sym, ap, subst, rules}}
use Rattle.spl_edge.specs.Devices.{image_now}
use Rattle.spl_acceptor.specs.{Keeping.ProcessKeeps, Logs.{JournalMakes, LogStands}, Records.{MakeDurable, IsChangedAt}, Rows.{PaxosPlan, round_carried_out}}
use Rattle.spl_acceptor.{specs.Steps.{WritesIn, IsStepped}, proofs.{Lists.ok_holds, Logs.stand_map, Making.{fails_first, fails_then, carries, same_durable}}}
use Rattle.spl_acceptor.proofs.process.PaxosProcess.carry_out.Goals as goal
use Rattle.spl_journal.proofs.Pieces.{lift1, lift2}

pub returns-in_default-clause-done : goal.returns-in_default-clause-done
returns-in_default-clause-done g c = λ p is.
    let k = g.K.Keeps in
    fails_first (MakeDurable k.with k.stopped k.first c.args.self.now.group.members) k.after (k.kept c.args.self.now.rounds) _ c.args.round p
    (g.D.Disk.view c.args.disk.now) _ (ProcessKeeps (MakeDurable k.with k.stopped k.first) k.kept c.args.self.now)
    (λ i s. s.log.holds.settled) (λ i s. s.made) c.requires.stands

pub returns-in-Err-clause-done : goal.returns-in-Err-clause-done
returns-in-Err-clause-done g c = λ p is.
    let k = g.K.Keeps in
    let n = c.args.self.now.group.members in
    let states = k.kept c.args.self.now.rounds in
    let ok : c.args.plan ≡ Ok c.in-Ok.plan = search rules in
    let at : k.plan_of c.in-Ok.plan ≡ p = ok_holds (λ q. k.plan_of q ≡ p) c.args.plan c.in-Ok.plan ok is in
    let writes : WritesIn c.args.round n p =
    subst (WritesIn c.args.round n) at (ok_holds (λ q. WritesIn c.args.round n (k.plan_of q)) c.args.plan c.in-Ok.plan ok c.requires.writes) in
    fails_then k.with k.stopped k.first k.after g.met.K.Keeps.lasts n states _ c.args.round p writes c.change.result.now
    (c.change.ensures ∙ ap (λ (q : PaxosPlan). q.change) at) (g.D.Disk.view c.args.disk.now) (g.D.Disk.view c.keep.new.disk)
    (lift1 (image_now (g.D.Disk.view c.args.disk.now)) (ProcessKeeps (MakeDurable k.with k.stopped k.first) k.kept c.args.self.now)
    (λ i. JournalMakes (MakeDurable k.with k.stopped k.first n states) i.bytes) c.requires.stands (λ i s. s.made))
    _ c.in-Err.ensures.any_moment (λ none. ap g.D.Disk.view (c.in-Err.ensures.none none))

pub returns-in-Err-apply-clause-done : goal.returns-in-Err-apply-clause-done
returns-in-Err-apply-clause-done g c = λ p is.
    let k = g.K.Keeps in
    let n = c.args.self.now.group.members in
    let states = k.kept c.args.self.now.rounds in
    let ok : c.args.plan ≡ Ok c.in-Ok.plan = search rules in
    let at : k.plan_of c.in-Ok.plan ≡ p = ok_holds (λ q. k.plan_of q ≡ p) c.args.plan c.in-Ok.plan ok is in
    let writes : WritesIn c.args.round n p =
    subst (WritesIn c.args.round n) at (ok_holds (λ q. WritesIn c.args.round n (k.plan_of q)) c.args.plan c.in-Ok.plan ok c.requires.writes) in
    fails_then k.with k.stopped k.first k.after g.met.K.Keeps.lasts n states _ c.args.round p writes c.change.result.now
    (c.change.ensures ∙ ap (λ (q : PaxosPlan). q.change) at) (g.D.Disk.view c.args.disk.now) (g.D.Disk.view c.keep.new.disk)
    (lift1 (image_now (g.D.Disk.view c.args.disk.now)) (ProcessKeeps (MakeDurable k.with k.stopped k.first) k.kept c.args.self.now)
    (λ i. JournalMakes (MakeDurable k.with k.stopped k.first n states) i.bytes) c.requires.stands (λ i s. s.made))
    _ c.in_default-keep.ensures.any_moment (λ none. ap g.D.Disk.view (c.in_default-keep.ensures.none none))

pub returns-in-Ok-apply-clause-done : goal.returns-in-Ok-apply-clause-done
returns-in-Ok-apply-clause-done g c = λ p is.
    let k = g.K.Keeps in
    let n = c.args.self.now.group.members in
    let states = k.kept c.args.self.now.rounds in
    let ok : c.args.plan ≡ Ok c.in-Ok.plan = search rules in
    let at : k.plan_of c.in-Ok.plan ≡ p = ok_holds (λ q. k.plan_of q ≡ p) c.args.plan c.in-Ok.plan ok is in
    let writes : WritesIn c.args.round n p =
    subst (WritesIn c.args.round n) at (ok_holds (λ q. WritesIn c.args.round n (k.plan_of q)) c.args.plan c.in-Ok.plan ok c.requires.writes) in
    carries k.with k.stopped k.first k.after g.met.K.Keeps.lasts n states (k.kept c.apply.new.self) c.args.round p writes c.change.result.now
    (c.change.ensures ∙ ap (λ (q : PaxosPlan). q.change) at) (g.D.Disk.view c.args.disk.now) (g.D.Disk.view c.keep.new.disk)
    (lift1 (image_now (g.D.Disk.view c.args.disk.now)) (ProcessKeeps (MakeDurable k.with k.stopped k.first) k.kept c.args.self.now)
    (λ i. JournalMakes (MakeDurable k.with k.stopped k.first n states) i.bytes) c.requires.stands (λ i s. s.made))
    _ (subst (IsStepped _) at c.in-Ok-apply.ensures.told) c.in_default-keep.ensures.any_moment
    (λ none. ap g.D.Disk.view (c.in_default-keep.ensures.none none)) c.in_default-keep.ensures.told c.in_default-keep.ensures.kept
    (subst (λ (q : PaxosPlan). IsChangedAt states c.args.round (λ s. k.after s q) (k.kept c.apply.new.self)) at c.in-Ok-apply.ensures.done)

pub returns-in-Ok-apply-clause-stands : goal.returns-in-Ok-apply-clause-stands
returns-in-Ok-apply-clause-stands g c =
    let k = g.K.Keeps in
    let n = c.args.self.now.group.members in
    let p = k.plan_of c.in-Ok.plan in
    let ok : c.args.plan ≡ Ok c.in-Ok.plan = search rules in
    let done = returns-in-Ok-apply-clause-done g c p (subst (λ r. IfOk r (λ q. k.plan_of q ≡ p)) (sym ok) refl) in
    let later = round_carried_out k.after (k.kept c.args.self.now.rounds) c.args.round p in
    let now = k.kept c.apply.new.self in
    lift2 (image_now (g.D.Disk.view c.keep.new.disk)) (LogStands c.keep.new.self)
    (λ i. JournalMakes (MakeDurable k.with k.stopped k.first n later) i.bytes) (ProcessKeeps (MakeDurable k.with k.stopped k.first) k.kept _)
    c.in_default-keep.ensures.stands done.kept
    (λ i log made. record {
      log = log;
      made = stand_map (MakeDurable k.with k.stopped k.first n later) (MakeDurable k.with k.stopped k.first n now) i.bytes
          (same_durable k.with k.stopped k.first n later now (λ r. sym (done.rounds r))) made;
    })
