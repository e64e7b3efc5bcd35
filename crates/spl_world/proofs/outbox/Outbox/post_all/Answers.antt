use Rattle.std.proofs.lemmas.List.{take_more}
use Rattle.spl_world.{specs.Kept.{sent_to, sends_to}, proofs.{About.{posted_about, sends_about_take}, Common.{◌≡◌, ◌+◌, ◌++◌, ◌∷◌, [], take, ap, sym, ◌∙◌}}}
use Rattle.spl_world.proofs.{Common.{List, Message, Outgoing}, Posting.post_step}
use Rattle.spl_world.proofs.outbox.Outbox.post_all.Goals as goal

pub loop-send-preserved : goal.loop-send-preserved
loop-send-preserved c = λ b.
    let so_far = take c.loop-send.send-index c.args.sends.now in
    let more : so_far ++ c.send-item.result ∷ [] ≡ take (c.loop-send.send-index + 1) c.args.sends.now =
    ap (λ (o : Outgoing). take c.loop-send.send-index c.args.sends.now ++ o ∷ []) c.send-item.is
    ∙ sym (take_more c.args.sends.now c.loop-send.send-index c.send-item.result c.loop-send-test.true) in
    post_step c.args.self.now c.loop-send.self c.post.new.self so_far c.send-item.result
    (c.in_ok-post.ensures.recipient ∙ ap (λ (m : Message). sent_to c.loop-send.self c.send-item.result.to ++ m ∷ []) c.in_ok-share.ensures)
    c.in_ok-post.ensures.others c.loop-send.invariant b
    ∙ ap (λ (os : List Outgoing). sent_to c.args.self.now b ++ sends_to b os) more

pub returns-clause-about : goal.returns-clause-about
returns-clause-about c = λ i h k b. posted_about i (sent_to c.args.self.now b) (sent_to c.loop-send.self b) b (take c.loop-send.send-index c.args.sends.now) (h b) (sends_about_take i c.args.sends.now c.loop-send.send-index k) (c.loop-send.invariant b)

pub returns-in_err-share-clause-about : goal.returns-in_err-share-clause-about
returns-in_err-share-clause-about c = λ i h k b.
    posted_about i (sent_to c.args.self.now b) (sent_to c.loop-send.self b) b (take c.loop-send.send-index c.args.sends.now) (h b)
    (sends_about_take i c.args.sends.now c.loop-send.send-index k) (c.loop-send.invariant b)

pub returns-in_err-post-clause-about : goal.returns-in_err-post-clause-about
returns-in_err-post-clause-about c = λ i h k b.
    posted_about i (sent_to c.args.self.now b) (sent_to c.post.new.self b) b (take c.loop-send.send-index c.args.sends.now) (h b)
    (sends_about_take i c.args.sends.now c.loop-send.send-index k) (c.in_err-post.ensures.err b ∙ c.loop-send.invariant b)
