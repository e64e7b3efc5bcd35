use Rattle.spl_world.{specs.Kept.{IsTotal, SentLists, lists_about, lists_or_none}, proofs.{Common.{ap, subst, ◌∙◌}, Posting.total_none}}
use Rattle.spl_world.proofs.posts.Posts.total.Goals as goal

pub returns-in-None : goal.returns-in-None
returns-in-None c = subst (λ (ls : SentLists). IsTotal 0 ls) (ap lists_or_none c.in-None.ensures.value ∙ ap (λ ps. lists_about ps c.args.circuit.now) c.self.view_is) total_none
