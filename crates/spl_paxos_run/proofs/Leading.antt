-- A line is for its process.
use Rattle.std.{specs.Prelude.MatchOption, proofs.Common.{◌≡◌, ℕ, Bool, List, Option, None, Some, sym, ◌∙◌, ap, subst}}
use Rattle.spl_acceptor.specs.Worlds.{PaxosCommitWorld, Votes, Leads, Delivers, Shows, Stops, Starts, message_numbered, message_at}
use Rattle.spl_acceptor.specs.declared.{kind.TheConstants.{MEMBER, LEADER}, message.{Name.Name, PaxosMsg.PaxosMsg}}
use Rattle.spl_paxos.specs.{Lines.happening_of, declared.line.PaxosLine.PaxosLine}
use Rattle.spl_paxos.specs.declared.line.PaxosLine.TheVariants as line
use Rattle.spl_paxos_safety.specs.Written.{process_of}
use Rattle.spl_paxos_run.specs.{Posts.{IsName, pair_key, posts_at, HoldsSent}, declared.posts.Posts.Posts}

-- the name of the process of a line of each kind
module _ (l : PaxosLine) (n : Name) (own : process_of (happening_of l) ≡ n) where
  process_is : (m : PaxosLine) → l ≡ m → process_of (happening_of m) ≡ n
  process_is m is = subst (λ (z : PaxosLine). process_of (happening_of z) ≡ n) is own

  pub vote_kind : (i r : ℕ) (aye : Bool) → l ≡ line.Vote i r aye → n.kind ≡ MEMBER
  vote_kind i r aye is = ap (λ (z : Name). z.kind) (sym (process_is (line.Vote i r aye) is))

  pub vote_is : (i r : ℕ) (aye : Bool) → l ≡ line.Vote i r aye → Votes n.number r aye ≡ happening_of l
  vote_is i r aye is = ap (λ (z : Name). Votes z.number r aye) (sym (process_is (line.Vote i r aye) is)) ∙ ap happening_of (sym is)

  pub lead_kind : (i r : ℕ) → l ≡ line.Lead i r → n.kind ≡ LEADER
  lead_kind i r is = ap (λ (z : Name). z.kind) (sym (process_is (line.Lead i r) is))

  pub lead_is : (i r : ℕ) → l ≡ line.Lead i r → Leads n.number r ≡ happening_of l
  lead_is i r is = ap (λ (z : Name). Leads z.number r) (sym (process_is (line.Lead i r) is)) ∙ ap happening_of (sym is)

  pub to_is : (from to : Name) (k : ℕ) → l ≡ line.Deliver from to k → to ≡ n
  to_is from to k is = process_is (line.Deliver from to k) is

  pub deliver_is : (from to : Name) (k : ℕ) → l ≡ line.Deliver from to k → Delivers from n k ≡ happening_of l
  deliver_is from to k is = ap (λ (z : Name). Delivers from z k) (sym (to_is from to k is)) ∙ ap happening_of (sym is)

  pub show_kind : (i r : ℕ) → l ≡ line.Show i r → n.kind ≡ MEMBER
  show_kind i r is = ap (λ (z : Name). z.kind) (sym (process_is (line.Show i r) is))

  pub show_is : (i r : ℕ) → l ≡ line.Show i r → Shows n.number r ≡ happening_of l
  show_is i r is = ap (λ (z : Name). Shows z.number r) (sym (process_is (line.Show i r) is)) ∙ ap happening_of (sym is)

  pub stop_is : (m : Name) → l ≡ line.Stop m → Stops n ≡ happening_of l
  stop_is m is = ap Stops (sym (process_is (line.Stop m) is)) ∙ ap happening_of (sym is)

  pub start_is : (m : Name) → l ≡ line.Start m → Starts n ≡ happening_of l
  start_is m is = ap Starts (sym (process_is (line.Start m) is)) ∙ ap happening_of (sym is)

-- ---- what a message is

pub match_map : {A : Type 0} (o : Option A) (N M : Type 0) (P Q : A → Type 0) → (N → M) → ((x : A) → P x → Q x) → MatchOption o N P → MatchOption o M Q
match_map None N M P Q f h o = f o
match_map (Some x) N M P Q f h o = h x o

-- the message of a number is that of the world, where the messages are the world's
pub found_at : (w : PaxosCommitWorld) (posts : Posts) (from to n : Name) (k : ℕ) (o : Option PaxosMsg) → HoldsSent posts w.sent → IsName from → IsName to
    → to ≡ n → message_numbered (posts_at posts (pair_key from to)) k ≡ o → message_at w from n k ≡ o
found_at w posts from to n k o holds f t same is =
    subst (λ (z : Name). message_at w from z k ≡ o) same (ap (λ (l : List PaxosMsg). message_numbered l k) (sym (holds from to f t)) ∙ is)
