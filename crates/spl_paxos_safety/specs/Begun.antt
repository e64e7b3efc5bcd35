-- That a leader began a ballot of a round (docs/RULES.md, Paxos Commit).
use Rattle.std.specs.Prelude.{◌≡◌, ℕ, List, ◌∷◌, ◌++◌}
use Rattle.spl_acceptor.specs.{Worlds.{Happening, Leads, paxos_answer, paxos_world_after}, declared.{answer.PaxosAnswer.TheVariants.Told, group.Group.Group}}
use Rattle.spl_acceptor.specs.declared.note.PaxosNote.TheVariants as note

-- one of these lines reported a leader to lead in the round, and was answered with a ballot
pub record HasBegun (g : Group) (es : List Happening) (r : ℕ) : Type 0 where
  pub before : List Happening
  pub here : ℕ
  pub after : List Happening
  pub ballot : ℕ
  pub line : es ≡ before ++ Leads here r ∷ after
  pub told : paxos_answer g (paxos_world_after g before) (Leads here r) ≡ Told (note.Ballot ballot)
