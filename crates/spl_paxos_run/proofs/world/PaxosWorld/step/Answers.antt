use Rattle.std.proofs.Common.{◌≡◌, ℕ, [], ◌∷◌, ◌++◌, sym, ◌∙◌, ap, subst}
use Rattle.spl_edge.specs.Devices.{bench}
use Rattle.spl_acceptor.specs.{Worlds.{paxos_answer, paxos_world_after}, declared.{group.Group.Group, message.Name.Name}}
use Rattle.spl_paxos.specs.Lines.{happening_of}
use Rattle.spl_paxos_safety.specs.Written.{process_of}
use Rattle.spl_paxos_run.specs.{Places.process_place, Posts.HoldsSent, Wholes.{AreSeated, ChangesFirst, HasFailedAt, StepsAt}}
use Rattle.spl_paxos_run.{specs.declared.{fault.PaxosFault.TheVariants.Disk, posts.Posts.Posts}, proofs.{Placing.knows_own, Seated.seated_more}}
use Rattle.spl_paxos_run.proofs.{Seated.{picked_more, fallen_more, failed_more, fallen_after}, Stepping.{disk_fault, ok_of, sent_after}}
use Rattle.spl_paxos_run.proofs.world.PaxosWorld.step.Goals as goal

pub returns-in-Ok-post-clause-answer : goal.returns-in-Ok-post-clause-answer
returns-in-Ok-post-clause-answer g c = λ es w.
    let run = c.args.self.now.group in
    let e = happening_of c.args.line.now in
    ok_of c.step_at.result (λ t. t.answer ≡ paxos_answer run (paxos_world_after run es) e) c.in-Ok.field-0 c.in-Ok.is (c.step_at.ensures.steps es w).does.told

pub returns-in-Ok-post-clause-stands : goal.returns-in-Ok-post-clause-stands
returns-in-Ok-post-clause-stands g c = λ es w.
    let self = c.args.self.now in
    let run = self.group in
    let e = happening_of c.args.line.now in
    let own = knows_own run c.args.line.now c.requires.known in
    let old = bench g.D.Disk.view c.args.pairs.now.items in
    let new = bench g.D.Disk.view c.step_at.new.pairs.items in
    let seats = c.step_at.new.self.seats.items in
    let place = c.place_of-place.ensures.place ∙ ap (process_place run) c.process_of-name.ensures in
    let does = subst (λ (k : ℕ). StepsAt run es e k self.seats.items seats old new c.step_at.result) place (c.step_at.ensures.steps es w) in
    let changes = subst (λ (k : ℕ). ChangesFirst k old new) place c.step_at.ensures.changes in
    record {
      seats = subst (λ (h : Group). AreSeated h (paxos_world_after h (es ++ e ∷ [])) seats new) (sym c.step_at.ensures.group)
          (seated_more run es e self.seats.items seats old new c.step_at.result w.seats own does changes c.in-Ok.field-0 c.in-Ok.is);
      sent = subst (λ (h : Group). HoldsSent c.post.new.self (paxos_world_after h (es ++ e ∷ [])).sent) (sym c.step_at.ensures.group)
          (sent_after run es e c.step_at.new.self.posts c.post.new.self c.in-Ok.field-0.sends c.process_of-name.result c.process_of-name.ensures
          (subst (λ (p : Posts). HoldsSent p (paxos_world_after run es).sent) (sym c.step_at.ensures.posts) w.sent) c.in-Ok-post.ensures
          (ok_of c.step_at.result (λ t. _) c.in-Ok.field-0 c.in-Ok.is does.does.sent));
    }

pub returns-in-Ok-post-clause-picked : goal.returns-in-Ok-post-clause-picked
returns-in-Ok-post-clause-picked g c = λ es start w all.
    let self = c.args.self.now in
    let run = self.group in
    let e = happening_of c.args.line.now in
    let own = knows_own run c.args.line.now c.requires.known in
    let old = bench g.D.Disk.view c.args.pairs.now.items in
    let new = bench g.D.Disk.view c.step_at.new.pairs.items in
    let seats = c.step_at.new.self.seats.items in
    let place = c.place_of-place.ensures.place ∙ ap (process_place run) c.process_of-name.ensures in
    let does = subst (λ (k : ℕ). StepsAt run es e k self.seats.items seats old new c.step_at.result) place (c.step_at.ensures.steps es w) in
    let changes = subst (λ (k : ℕ). ChangesFirst k old new) place c.step_at.ensures.changes in
    picked_more run es e self.seats.items seats old new c.step_at.result w.seats own does changes start all c.in-Ok.field-0 c.in-Ok.is

pub returns-in-Err-post-clause-fallen : goal.returns-in-Err-post-clause-fallen
returns-in-Err-post-clause-fallen g c = λ es start w all.
    let self = c.args.self.now in
    let run = self.group in
    let e = happening_of c.args.line.now in
    let own = knows_own run c.args.line.now c.requires.known in
    let old = bench g.D.Disk.view c.args.pairs.now.items in
    let new = bench g.D.Disk.view c.step_at.new.pairs.items in
    let seats = c.step_at.new.self.seats.items in
    let place = c.place_of-place.ensures.place ∙ ap (process_place run) c.process_of-name.ensures in
    let does = subst (λ (k : ℕ). StepsAt run es e k self.seats.items seats old new c.step_at.result) place (c.step_at.ensures.steps es w) in
    let changes = subst (λ (k : ℕ). ChangesFirst k old new) place c.step_at.ensures.changes in
    fallen_after run es e seats start new
    (seated_more run es e self.seats.items seats old new c.step_at.result w.seats own does changes c.in-Ok.field-0 c.in-Ok.is)
    (picked_more run es e self.seats.items seats old new c.step_at.result w.seats own does changes start all c.in-Ok.field-0 c.in-Ok.is)

pub returns-in-Err-clause-fallen : goal.returns-in-Err-clause-fallen
returns-in-Err-clause-fallen g c = λ es start w all.
    let self = c.args.self.now in
    let run = self.group in
    let e = happening_of c.args.line.now in
    let own = knows_own run c.args.line.now c.requires.known in
    let old = bench g.D.Disk.view c.args.pairs.now.items in
    let new = bench g.D.Disk.view c.step_at.new.pairs.items in
    let seats = c.step_at.new.self.seats.items in
    let place = c.place_of-place.ensures.place ∙ ap (process_place run) c.process_of-name.ensures in
    let does = subst (λ (k : ℕ). StepsAt run es e k self.seats.items seats old new c.step_at.result) place (c.step_at.ensures.steps es w) in
    let changes = subst (λ (k : ℕ). ChangesFirst k old new) place c.step_at.ensures.changes in
    fallen_more run es e self.seats.items seats old new c.step_at.result w.seats own does changes start all c.in-Err.fault c.in-Err.is

pub returns-in-Err-clause-failed : goal.returns-in-Err-clause-failed
returns-in-Err-clause-failed g c = λ es start w all n is.
    let self = c.args.self.now in
    let run = self.group in
    let e = happening_of c.args.line.now in
    let own = knows_own run c.args.line.now c.requires.known in
    let old = bench g.D.Disk.view c.args.pairs.now.items in
    let new = bench g.D.Disk.view c.step_at.new.pairs.items in
    let seats = c.step_at.new.self.seats.items in
    let place = c.place_of-place.ensures.place ∙ ap (process_place run) c.process_of-name.ensures in
    let does = subst (λ (k : ℕ). StepsAt run es e k self.seats.items seats old new c.step_at.result) place (c.step_at.ensures.steps es w) in
    let changes = subst (λ (k : ℕ). ChangesFirst k old new) place c.step_at.ensures.changes in
    let got : c.fault_at.result ≡ Disk n = cc in
    let found = disk_fault c.in-Err.fault c.process_of-name.result n c.fault_at.result c.fault_at.ensures.disk c.fault_at.ensures.other got in
    let name : n ≡ process_of e = found.1 ∙ c.process_of-name.ensures in (
      name,
      subst (λ (m : Name). HasFailedAt run m start new) (sym name)
          (failed_more run es e self.seats.items seats old new c.step_at.result w.seats own does changes start all c.in-Err.fault c.in-Err.is found.0),
    )
