use Rattle.std.proofs.Common.{◌≡◌, ◌∙◌, ◌-◌, ℕ, List, length, min, take, drop, ap, refl, rules}
use Rattle.spl_edge.specs.Devices.{patched}
use Rattle.spl_memory.{specs.{Changes.Wrote, declared.marks.{Kind.TheVariants.Wrote as WroteOver, Over.Over}}, proofs.Marked.{piece_in, write_back}}
use Rattle.spl_memory.proofs.history.History.overwrite.Goals as goal

pub returns-clause-ok : goal.returns-clause-ok
returns-clause-ok c =
    let bytes = c.args.self.now.bytes.items in
    let piece = c.args.piece.now in
    let at = c.args.at in
    let now = c.patch.new.bytes.items in
    let taken = c.in_ok-new.field-0 in
    let is : now ≡ patched bytes at piece = search rules in
    let old : c.in_ok-old.old.items ≡ take (min (length piece) (length bytes - at)) (drop at bytes) = search rules in
    let kept : taken.value ≡ record { at = at; count = length piece; old = c.in_ok-old.old; len = length bytes } = search rules in
    record {
      mark = record { moment = c.args.moment; kind = WroteOver taken };
      marks = search rules;
      since = refl;
      moment = refl;
      change = ap (λ (o : Over). Wrote o.at (take o.count (drop o.at now))) kept ∙ ap (λ (l : List ℕ). Wrote at (take (length piece) (drop at l))) is
          ∙ ap (λ (l : List ℕ). Wrote at l) (piece_in bytes piece at c.requires.within);
      before = ap (λ (o : Over). take o.len (patched now o.at o.old.items)) kept ∙ ap (λ (l : List ℕ). take (length bytes) (patched now at l)) old
          ∙ ap (λ (l : List ℕ). take (length bytes) (patched l at (take (min (length piece) (length bytes - at)) (drop at bytes)))) is
          ∙ write_back bytes piece at c.requires.within;
      range = ap (λ (o : Over). (o.at, o.count)) kept;
    }
