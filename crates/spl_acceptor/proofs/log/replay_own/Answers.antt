use Rattle.std.proofs.Common.{◌≡◌, ◌∙◌, [], ◌∷◌, ◌++◌, List, true, false, ap, rules}
use Rattle.spl_acceptor.{specs.Records.{recorded, own_records, is_own, IsChangedAt, MakeRounds, round_kept}, proofs.Lists.on_ok}
use Rattle.spl_acceptor.proofs.Making.{own_more, own_other, replayed}
use Rattle.spl_acceptor.specs.declared.record.PaxosRecord.{PaxosRecord}
use Rattle.spl_acceptor.proofs.log.replay_own.Goals as goal

pub returns-then-is_own : goal.returns-then-is_own
returns-then-is_own g c =
    let k = g.K.Keeps in
    let n = c.args.members in
    let x = c.args.change.now in
    let old = k.kept c.args.rounds.now in
    let now = k.kept c.replay.new.self in
    let mine : is_own n x ≡ true = search rules in
    on_ok c.replay.result (IsChangedAt old (round_kept x) (λ s. k.with s x) now)
    ((xs : List PaxosRecord) → MakeRounds k.with k.first n old xs → MakeRounds k.with k.first n now (xs ++ x ∷ []))
    (λ changed xs made r. ap (recorded k.with r k.first) (own_more n xs x mine)
    ∙ replayed k.with k.first old now x changed (own_records n xs) made r)
    c.replay.ensures

pub returns-else-is_own : goal.returns-else-is_own
returns-else-is_own g c =
    let k = g.K.Keeps in
    let n = c.args.members in
    let x = c.args.change.now in
    let other : is_own n x ≡ false = search rules in
    λ xs made r. ap (recorded k.with r k.first) (own_other n xs x other) ∙ made r
