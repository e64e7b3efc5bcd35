use Rattle.std.{specs.{Prelude.is_some, Map.lookup}, proofs.{Common.{◌≡◌, List, [], ◌∷◌, ◌++◌, true, arith, sym, ◌∙◌, subst}, lemmas.Grind.common_steps}}
use Rattle.indexmap.proofs.CallerLemmas.{insert_entry-new}
use Rattle.spl_commit.{specs.Places.IsIndex, proofs.Index.{index-new, index-known}}
use Rattle.spl_commit.proofs.history.note.Goals as goal

pub returns-then-not-contains_key : goal.returns-then-not-contains_key
returns-then-not-contains_key g c = λ keys l i k.
    let e : c.insert.new.self.entries ≡ c.args.index.now.entries ++ (c.args.key, c.args.place) ∷ [] = grind (arith, common_steps, insert_entry-new) in
    subst (λ (es : List _). IsIndex g.K.PartialEq.eq es (keys ++ c.args.key ∷ [])) (sym e)
    (index-new g.K.PartialEq.eq c.args.index.now.entries keys c.args.key c.args.place l i) k

pub returns-else-not-contains_key : goal.returns-else-not-contains_key
returns-else-not-contains_key g c = λ keys l i k.
    let laws = g.met.K.Eq.laws in
    let t : is_some (lookup (g.K.PartialEq.eq c.args.key) c.args.index.now.entries) ≡ true = sym c.contains_key.ensures ∙ c.if-not-contains_key.false in
    index-known g.K.PartialEq.eq c.args.index.now.entries keys c.args.key laws t i k
