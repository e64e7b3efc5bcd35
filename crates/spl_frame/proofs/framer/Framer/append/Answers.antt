use Rattle.std.proofs.Common.{◌≡◌, ◌≤◌, ◌++◌, length, drop, sym, subst, ◌∙◌}
use Rattle.spl_frame.{specs.{Frames.stream_of, Buffer.IsBuffer}, proofs.Buffers.grown}
use Rattle.spl_frame.proofs.framer.Framer.append.Goals as goal

pub invariant_of-self-2 : goal.invariant_of-self-2
invariant_of-self-2 c =
    let old = c.self.inside in
    let piece = c.args.piece.now in
    let found = c.scan.result in
    let new = c.in_ok-extend_from_slice.ensures.items in
    let scanned : c.as_slice.result.now ≡ old.bytes.items ++ piece = c.as_slice.ensures.value ∙ new in
    subst (λ b. IsBuffer b old.start found.0 found.1) (sym new)
    (grown old.bytes.items piece old.start old.end old.fault found.0 found.1 c.self.invariant c.scan.ensures.order
    (subst (λ b. found.0 ≤ length b) scanned c.scan.ensures.within)
    (subst (λ b. (stream_of (drop old.end b)).rest ≡ drop found.0 b) scanned c.scan.ensures.after)
    (subst (λ b. (stream_of (drop old.end b)).fault ≡ found.1) scanned c.scan.ensures.shows))
