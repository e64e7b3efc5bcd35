use Rattle.std.{specs.Prelude.{None, Some, is_none}, proofs.Common.{◌≡◌, false, ◌++◌, Ok, Err, refl, ap, sym, ◌∙◌, rules, subst}}
use Rattle.spl_edge.specs.Devices.{image_now}
use Rattle.spl_acceptor.specs.{Processes.VotingMember, Rows.{member, on_paxos_vote}, Worlds.{Votes, paxos_posted, at_member}}
use Rattle.spl_acceptor.specs.declared.{kind.TheConstants.MEMBER, message.Name.Name}
use Rattle.spl_paxos_run.{specs.Seats.{IsProcessUp, ProcessMoves}, proofs.Answering.{is_up, none_down, name_kind, settles, steps, falls, votes_next}}
use Rattle.spl_paxos_run.proofs.{Answering.{votes_told, votes_down, votes_twice}, SeatUp.{up_stands, member_kind, member_keeps, seated_up, none_of}}
use Rattle.spl_paxos_run.proofs.SeatUp.{some_none}
use Rattle.spl_paxos_run.proofs.seat.Seat.vote.Goals as goal

pub returns-in_default-clause-done : goal.returns-in_default-clause-done
returns-in_default-clause-done g c = λ run w stands.
    let s = c.args.self.now in
    let x = g.D.Disk.view c.args.disk.now in
    let name = name_kind s.name MEMBER c.requires.kind in
    let down = none_down run w s.name s.process (image_now x) (search rules) stands in
    let is = votes_down run w s.name.number c.args.round c.args.yes (ap w.up name ∙ down.down) in
    settles run w w (Votes s.name.number c.args.round c.args.yes) s.name s x x c.silent.result is.0 refl refl stands refl
    (c.silent.ensures.answer ∙ sym is.1) c.silent.ensures.sends

pub returns-then-is_some-clause-done : goal.returns-then-is_some-clause-done
returns-then-is_some-clause-done g c = λ run w stands.
    let s = c.args.self.now in
    let x = g.D.Disk.view c.args.disk.now in
    let r = c.args.round in
    let name = name_kind s.name MEMBER c.requires.kind in
    let up = is_up run w s.name s.process c.in-Some.process (image_now x) c.in-Some.is stands in
    let voted : c.voted.result ≡ (w.member s.name.number r).vote =
    c.voted.ensures ∙ ap (λ (m : VotingMember). m.vote) (member_keeps run w s.name c.in-Some.process (image_now x) up r c.requires.kind) in
    let is = votes_twice run w s.name.number r c.args.yes (ap w.up name ∙ up.up)
    (subst (λ o. is_none o ≡ false) voted (some_none c.voted.result (search rules))) in
    settles run w w (Votes s.name.number r c.args.yes) s.name
    (record { name = s.name; process = Some c.in-Some.process }) x x c.silent-then-is_some.result is.0 refl refl up refl
    (c.silent-then-is_some.ensures.answer ∙ sym is.1) c.silent-then-is_some.ensures.sends

pub vote-requires : goal.vote-requires
vote-requires g c =
    let s = c.args.self.now in
    let x = g.D.Disk.view c.args.disk.now in
    let p = c.in-Some.process in
    let up = seated_up s p (image_now x) c.requires.seated c.in-Some.is in
    record {
      running = up.2.going;
      stands = up_stands up.0 up.1 s.name p (image_now x) up.2;
      kind = member_kind up.0 up.1 s.name p (image_now x) up.2 c.requires.kind;
      unvoted = sym c.voted.ensures ∙ none_of c.voted.result (search rules);
    }

pub returns-in-Ok-clause-done : goal.returns-in-Ok-clause-done
returns-in-Ok-clause-done g c = λ run w stands.
    let s = c.args.self.now in
    let n = s.name in
    let x = g.D.Disk.view c.args.disk.now in
    let y = g.D.Disk.view c.vote.new.disk in
    let r = c.args.round in
    let p = c.in-Some.process in
    let name = name_kind n MEMBER c.requires.kind in
    let plan = on_paxos_vote run n.number r c.args.yes in
    let v = at_member w n.number r plan in
    let up = is_up run w n s.process p (image_now x) c.in-Some.is stands in
    let here : IsProcessUp run w (member n.number) p (image_now x) = subst (λ (z : Name). IsProcessUp run w z p (image_now x)) (sym name) up in
    let none : (w.member n.number r).vote ≡ None =
    sym (c.voted.ensures ∙ ap (λ (m : VotingMember). m.vote) (member_keeps run w n p (image_now x) up r c.requires.kind))
    ∙ none_of c.voted.result (search rules) in
    steps run w v (Votes n.number r c.args.yes) n plan c.vote.new.self x y
    (votes_next run w n.number r c.args.yes here.up none) refl c.vote.ensures.onward.picks c.in-Ok.stepped c.of.result
    (subst (λ (z : Name). ProcessMoves run z plan w v c.vote.new.self x y (Ok c.in-Ok.stepped)) name (c.in-Ok.ensures.moves run w n.number here))
    (votes_told run w n.number r c.args.yes here.up none) (ap (λ (z : Name). w.sent ++ paxos_posted z plan.sends) name) c.of.ensures.answer c.of.ensures.sends

pub returns-in-Err-clause-done : goal.returns-in-Err-clause-done
returns-in-Err-clause-done g c = λ run w stands.
    let s = c.args.self.now in
    let n = s.name in
    let x = g.D.Disk.view c.args.disk.now in
    let y = g.D.Disk.view c.vote.new.disk in
    let r = c.args.round in
    let p = c.in-Some.process in
    let name = name_kind n MEMBER c.requires.kind in
    let plan = on_paxos_vote run n.number r c.args.yes in
    let v = at_member w n.number r plan in
    let up = is_up run w n s.process p (image_now x) c.in-Some.is stands in
    let here : IsProcessUp run w (member n.number) p (image_now x) = subst (λ (z : Name). IsProcessUp run w z p (image_now x)) (sym name) up in
    let none : (w.member n.number r).vote ≡ None =
    sym (c.voted.ensures ∙ ap (λ (m : VotingMember). m.vote) (member_keeps run w n p (image_now x) up r c.requires.kind))
    ∙ none_of c.voted.result (search rules) in
    falls run w v (Votes n.number r c.args.yes) n plan c.vote.new.self x y
    (votes_next run w n.number r c.args.yes here.up none) refl c.vote.ensures.onward.picks c.in-Err.fault p
    (subst (λ (z : Name). ProcessMoves run z plan w v c.vote.new.self x y (Err c.in-Err.fault)) name (c.in-Err.ensures.moves run w n.number here))
    up.disk c.vote.ensures.onward.later (g.met.D.StopDisk.tells c.vote.new.disk) (g.met.D.Disk.possible c.vote.new.disk)
