use Rattle.std.{specs.{Map.lookup, Prelude.◌==◌}, proofs.{Common.{◌≡◌, ◌∷◌, [], ◌++◌, length, ap, ◌∙◌, subst, arith}, lemmas.Grind.common_steps}}
use Rattle.spl_agree.specs.Member.{values}
use Rattle.spl_commit.{specs.Places.{IsIndex, keys_by, rounds_of}, proofs.Index.{noted-more, length-keys_by, length-rounds_of}}
use Rattle.spl_commit.proofs.history.History.commit.Goals as goal

pub invariant_of-self-2 : goal.invariant_of-self-2
invariant_of-self-2 g c =
    let h = c.self.inside.entries.items in
    let at : length h ≡ c.len-place.result = grind (arith, common_steps) in
    let items : c.push.new.self.items ≡ h ++ (c.args.round, c.args.value) ∷ [] = grind (arith, common_steps) in
    noted-more g.M.Key.PartialEq.eq g.M.Agreed.key_of h c.push.new.self.items c.args.round c.args.value c.key-key.result c.note.new.index.entries
    c.note-2.new.index.entries
    items (c.key-key.ensures ∙ ap g.M.Agreed.key_of c.in_ok-copy.ensures)
    (c.note.ensures (keys_by g.M.Agreed.key_of (values h)) (length-keys_by g.M.Agreed.key_of h ∙ at)
    (λ q. ap (λ es. lookup (g.M.Key.PartialEq.eq q) es) c.in_ok-reserve.ensures.entries ∙ c.self.invariant.keys q))
    (subst (λ r. IsIndex (λ a b. a == b) c.note-2.new.index.entries (rounds_of h ++ r ∷ [])) c.round.view_is
    (c.note-2.ensures (rounds_of h) (length-rounds_of h ∙ at)
    (λ q. ap (λ es. lookup (λ x. q == x) es) c.in_ok-reserve-2.ensures.entries ∙ c.self.invariant.rounds_noted q)))
