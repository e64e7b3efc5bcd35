use Rattle.std.proofs.Common.{ℕ, ◌+◌, List, take, drop, ◌∙◌, ap}
use Rattle.spl_ports.proofs.Places.{line_at_feed}
use Rattle.spl_ports.proofs.line_buffer.LineBuffer.take.Goals as goal

pub returns : goal.returns
returns c =
    line_at_feed c.args.self.now c.in_ok-line.line c.drop_front.new.bytes.items c.args.place c.requires.feed c.requires.short
    (c.in_ok-line.ensures ∙ ap (λ (l : List ℕ). take c.args.place l) (c.deref.ensures.value ∙ c.self.view_is))
    (c.drop_front.ensures ∙ ap (λ (l : List ℕ). drop (c.args.place + 1) l) c.self.view_is)
