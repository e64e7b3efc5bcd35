-- The packed form of a bound cell, part by part.
use Rattle.std.{specs.Prelude.map, proofs.Common.{◌≡◌, List, [], ◌∷◌, ◌++◌, append_assoc, ap, ◌∙◌}}
use Rattle.spl_agree.specs.Pack.{packed_member}
use Rattle.spl_wire.specs.declared.change.Change.{Change}
use Rattle.spl_wire.specs.declared.change.Change.TheVariants as durable
use Rattle.spl_cell_rules.specs.{Cells.{Bound, Held}, Pack.{packed_batches, packed_mark, packed}}

pub packed_parts : (h : Bound) (w x y z : List Change) → w ≡ durable.Bind h.definition ∷ durable.Turn h.turn ∷ []
    → x ≡ w ++ map durable.Admin (packed_member h.acts) → y ≡ x ++ packed_batches h → z ≡ y ++ packed_mark h.mark → z ≡ packed (Held h)
packed_parts h w x y z p q r s =
    let acts = map durable.Admin (packed_member h.acts) in
    let one : x ≡ durable.Bind h.definition ∷ durable.Turn h.turn ∷ acts = q ∙ ap (λ us. us ++ acts) p in
    let two : y ≡ durable.Bind h.definition ∷ durable.Turn h.turn ∷ (acts ++ packed_batches h) = r ∙ ap (λ us. us ++ packed_batches h) one in
    s ∙ (ap (λ us. us ++ packed_mark h.mark) two
    ∙ ap (λ us. durable.Bind h.definition ∷ durable.Turn h.turn ∷ us) (append_assoc acts (packed_batches h) (packed_mark h.mark)))
