use Rattle.std.{specs.Prelude.{◌==◌, if◌then◌else◌}, proofs.Common.{◌≡◌, ◌∙◌, Bool, false, ap, subst}}
use Rattle.spl_agree.specs.{Member.has_round, Rows.{sends_one, both, requested_free}}
use Rattle.spl_agree.specs.declared.event.GroupChange.TheVariants as change
use Rattle.spl_agree.specs.declared.event.Note.TheVariants as note
use Rattle.spl_agree.specs.declared.message.CommitMsg.TheVariants as msg
use Rattle.spl_part.specs.Promises.{requested_of}
use Rattle.spl_commit.proofs.RowSteps.{as_given, RequestGives, request-gives}
use Rattle.spl_commit.proofs.member.Member.requested_free.Goals as goal

pub returns-in-Ignored : goal.returns-in-Ignored
returns-in-Ignored g c =
    let m = c.args.self.now in
    let v = c.args.value.now in
    let told : c.on_request.result
    ≡ requested_of c.args.self.now.state.seen c.args.round (has_round c.args.round c.args.self.now.state.history) c.args.fits tt =
    rw (← c.self.view_is) (c.on_request.ensures
    ∙ ap (λ (known : Bool). requested_of c.self.inside.seen c.args.round known c.args.fits tt) c.has_round-committed.ensures) in
    let gives = request-gives m.generation m.state.history m.state.seen c.args.sender c.args.round v c.args.fits c.on_request.result told in
    c.nothing.ensures ∙ subst (RequestGives m.generation m.state.history m.state.seen c.args.sender c.args.round v c.args.fits) c.in-Ignored.is gives

pub returns-in-Declined : goal.returns-in-Declined
returns-in-Declined g c =
    let m = c.args.self.now in
    let v = c.args.value.now in
    let told : c.on_request.result
    ≡ requested_of c.args.self.now.state.seen c.args.round (has_round c.args.round c.args.self.now.state.history) c.args.fits tt =
    rw (← c.self.view_is) (c.on_request.ensures
    ∙ ap (λ (known : Bool). requested_of c.self.inside.seen c.args.round known c.args.fits tt) c.has_round-committed.ensures) in
    let gives = request-gives m.generation m.state.history m.state.seen c.args.sender c.args.round v c.args.fits c.on_request.result told in
    let r = c.args.round in
    let no = msg.Vote m.generation r false in
    as_given c.declined.result
    (if m.state.seen == r then sends_one (note.Declined r) c.args.sender no else both (note.Declined r) (change.Seen r) c.args.sender no)
    (requested_free m.generation m.state.history m.state.seen c.args.sender r v c.args.fits) c.declined.ensures
    (subst (RequestGives m.generation m.state.history m.state.seen c.args.sender c.args.round v c.args.fits) c.in-Declined.is gives)

pub returns-in_ok-copy-in-Promised : goal.returns-in_ok-copy-in-Promised
returns-in_ok-copy-in-Promised g c =
    let m = c.args.self.now in
    let v = c.args.value.now in
    let told : c.on_request.result
    ≡ requested_of c.args.self.now.state.seen c.args.round (has_round c.args.round c.args.self.now.state.history) c.args.fits tt =
    rw (← c.self.view_is) (c.on_request.ensures
    ∙ ap (λ (known : Bool). requested_of c.self.inside.seen c.args.round known c.args.fits tt) c.has_round-committed.ensures) in
    let gives = request-gives m.generation m.state.history m.state.seen c.args.sender c.args.round v c.args.fits c.on_request.result told in
    let r = c.args.round in
    let copied = c.in_ok-copy-in-Promised.field-0 in
    as_given c.both.result (both (note.Promised r) (change.Promise r copied) c.args.sender c.vote.result)
    (requested_free m.generation m.state.history m.state.seen c.args.sender r v c.args.fits) c.both.ensures
    (ap (λ x. both (note.Promised r) (change.Promise r x) c.args.sender c.vote.result) c.in_ok-copy-in-Promised.ensures
    ∙ ap (λ yes. both (note.Promised r) (change.Promise r v) c.args.sender yes) c.vote.ensures
    ∙ subst (RequestGives m.generation m.state.history m.state.seen c.args.sender c.args.round v c.args.fits) c.in-Promised.is gives)
