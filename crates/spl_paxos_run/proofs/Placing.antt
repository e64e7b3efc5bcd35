-- Each process has one place, and each place one process.
use Rattle.std.{specs.Prelude.{◌==◌, nat_lt, nat_le, IsTrue}, proofs.Common.{◌≡◌, ◌≢◌, ◌⊎◌, inl, inr, ℕ, ◌+◌, ◌-◌, ◌<◌, ◌≤◌, true, false, ◌&&◌, ◌||◌, refl}}
use Rattle.std.proofs.Common.{sym, ◌∙◌, ap, subst, arith}
use Rattle.spl_agree.proofs.Tests.{if_true, if_false, bool_cases, or_cases, and_left, and_right, eqb_is}
use Rattle.spl_acceptor.specs.{Quorums.{IsWithin, acceptors}, Rows.{member, acceptor, leader}, Worlds.{is_in_range, has_name, same_name}}
use Rattle.spl_acceptor.specs.declared.{group.Group.Group, kind.TheConstants.{MEMBER, ACCEPTOR, LEADER}, message.Name.Name}
use Rattle.spl_paxos.specs.{Lines.happening_of, declared.line.PaxosLine.PaxosLine}
use Rattle.spl_paxos.specs.declared.line.PaxosLine.TheVariants as line
use Rattle.spl_paxos_safety.{specs.Written.process_of, proofs.Runs.{is-within, name-is}}
use Rattle.spl_paxos_run.{specs.Places.{process_count, process_place, name_at, has_line_names}, proofs.{Answering.name_kind, Moves.not_member}}
use Rattle.spl_paxos_run.proofs.Moves.{not_acceptor}

-- ---- places

module _ (g : Group) (k : ℕ) (below : k < process_count g) where
  pub place_name : process_place g (name_at g k) ≡ k
  place_name = by (bool_cases (nat_lt k g.members))
    where
      late : nat_lt k g.members ≡ false → (nat_lt k (g.members + acceptors g.faults) ≡ true) ⊎ (nat_lt k (g.members + acceptors g.faults) ≡ false)
          → process_place g (name_at g k) ≡ k
      late e (inl f) =
          let name : name_at g k ≡ acceptor (k + 1 - g.members) = if_false (λ (n : Name). n ≡ acceptor (k + 1 - g.members)) (nat_lt k g.members) _ _ e
          (if_true (λ (n : Name). n ≡ acceptor (k + 1 - g.members)) (nat_lt k (g.members + acceptors g.faults)) _ _ f refl) in
          let most : g.members ≤ k = grind (arith) in
          let place : g.members + (k + 1 - g.members) - 1 ≡ k = omega (arith, most) in
          ap (process_place g) name ∙ place
      late e (inr f) =
          let before : ℕ = g.members + acceptors g.faults in
          let name : name_at g k ≡ leader (k + 1 - before) = if_false (λ (n : Name). n ≡ leader (k + 1 - before)) (nat_lt k g.members) _ _ e
          (if_false (λ (n : Name). n ≡ leader (k + 1 - before)) (nat_lt k before) _ _ f refl) in
          let most : before ≤ k = grind (arith) in
          let place : before + (k + 1 - before) - 1 ≡ k = omega (arith, most) in
          ap (process_place g) name ∙ place

      by : (nat_lt k g.members ≡ true) ⊎ (nat_lt k g.members ≡ false) → process_place g (name_at g k) ≡ k
      by (inl e) =
          let name : name_at g k ≡ member (k + 1) = if_true (λ (n : Name). n ≡ member (k + 1)) (nat_lt k g.members) _ _ e refl in
          let place : k + 1 - 1 ≡ k = omega arith in
          ap (process_place g) name ∙ place
      by (inr e) = late e (bool_cases (nat_lt k (g.members + acceptors g.faults)))

-- ---- names

data IsSeat (g : Group) (n : Name) : Type 0 where
  OneMember : n.kind ≡ MEMBER → IsWithin g.members n.number → IsSeat g n
  OneAcceptor : n.kind ≡ ACCEPTOR → IsWithin (acceptors g.faults) n.number → IsSeat g n
  OneLeader : n.kind ≡ LEADER → IsWithin 3 n.number → IsSeat g n

seat_of : (g : Group) (n : Name) → IsTrue (has_name g n) → IsSeat g n
seat_of g n h = by (or_cases (n.kind == MEMBER && is_in_range g.members n.number) _ h)
  where
    by_two : ((n.kind == ACCEPTOR && is_in_range (acceptors g.faults) n.number) ≡ true) ⊎ ((n.kind == LEADER && is_in_range 3 n.number) ≡ true) → IsSeat g n
    by_two (inl e) =
        OneAcceptor (eqb_is n.kind ACCEPTOR (and_left (n.kind == ACCEPTOR) _ e))
        (is-within (acceptors g.faults) n.number (and_right (n.kind == ACCEPTOR) _ e))
    by_two (inr e) = OneLeader (eqb_is n.kind LEADER (and_left (n.kind == LEADER) _ e)) (is-within 3 n.number (and_right (n.kind == LEADER) _ e))

    by : ((n.kind == MEMBER && is_in_range g.members n.number) ≡ true)
        ⊎ (((n.kind == ACCEPTOR && is_in_range (acceptors g.faults) n.number) || (n.kind == LEADER && is_in_range 3 n.number)) ≡ true) → IsSeat g n
    by (inl e) = OneMember (eqb_is n.kind MEMBER (and_left (n.kind == MEMBER) _ e)) (is-within g.members n.number (and_right (n.kind == MEMBER) _ e))
    by (inr e) = by_two (or_cases (n.kind == ACCEPTOR && is_in_range (acceptors g.faults) n.number) _ e)

pub name_place : (g : Group) (n : Name) → IsTrue (has_name g n) → name_at g (process_place g n) ≡ n
name_place g n h = by (seat_of g n h)
  where
    by : IsSeat g n → name_at g (process_place g n) ≡ n
    by (OneMember is w) =
        let above : 1 ≤ n.number = w.above in
        let most : n.number ≤ g.members = w.most in
        let place : process_place g n ≡ n.number - 1 =
        if_true (λ (p : ℕ). p ≡ n.number - 1) (n.kind == MEMBER) _ _ (subst (λ (k : ℕ). (k == MEMBER) ≡ true) (sym is) refl) refl in
        let low : nat_lt (n.number - 1) g.members ≡ true = grind (arith) in
        let back : n.number - 1 + 1 ≡ n.number = omega (arith, above) in
        ap (name_at g) place ∙ if_true (λ (m : Name). m ≡ n) (nat_lt (n.number - 1) g.members) _ _ low (ap member back ∙ name_kind n MEMBER is)
    by (OneAcceptor is w) =
        let above : 1 ≤ n.number = w.above in
        let most : n.number ≤ acceptors g.faults = w.most in
        let at : ℕ = g.members + n.number - 1 in
        let place : process_place g n ≡ at = if_false (λ (p : ℕ). p ≡ at) (n.kind == MEMBER) _ _ (not_member n ACCEPTOR is refl)
        (if_true (λ (p : ℕ). p ≡ at) (n.kind == ACCEPTOR) _ _ (subst (λ (k : ℕ). (k == ACCEPTOR) ≡ true) (sym is) refl) refl) in
        let past : nat_lt at g.members ≡ false = grind (arith) in
        let low : nat_lt at (g.members + acceptors g.faults) ≡ true = grind (arith) in
        let back : at + 1 - g.members ≡ n.number = omega (arith, above) in
        ap (name_at g) place ∙ if_false (λ (m : Name). m ≡ n) (nat_lt at g.members) _ _ past
        (if_true (λ (m : Name). m ≡ n) (nat_lt at (g.members + acceptors g.faults)) _ _ low (ap acceptor back ∙ name_kind n ACCEPTOR is))
    by (OneLeader is w) =
        let above : 1 ≤ n.number = w.above in
        let before : ℕ = g.members + acceptors g.faults in
        let at : ℕ = before + n.number - 1 in
        let place : process_place g n ≡ at = if_false (λ (p : ℕ). p ≡ at) (n.kind == MEMBER) _ _ (not_member n LEADER is refl)
        (if_false (λ (p : ℕ). p ≡ at) (n.kind == ACCEPTOR) _ _ (not_acceptor n LEADER is refl) refl) in
        let past : nat_lt at g.members ≡ false = grind (arith) in
        let too : nat_lt at before ≡ false = grind (arith) in
        let back : at + 1 - before ≡ n.number = omega (arith, above) in
        ap (name_at g) place ∙ if_false (λ (m : Name). m ≡ n) (nat_lt at g.members) _ _ past
        (if_false (λ (m : Name). m ≡ n) (nat_lt at before) _ _ too (ap leader back ∙ name_kind n LEADER is))

-- processes at other places have other names
pub other_names : (g : Group) (i k : ℕ) → i < process_count g → k < process_count g → i ≢ k → same_name (name_at g k) (name_at g i) ≡ false
other_names g i k low high off = by (bool_cases (same_name (name_at g k) (name_at g i)))
  where
    by : (same_name (name_at g k) (name_at g i) ≡ true) ⊎ (same_name (name_at g k) (name_at g i) ≡ false) → same_name (name_at g k) (name_at g i) ≡ false
    by (inl e) = absurd (off (sym (place_name g i low) ∙ ap (process_place g) (sym (name-is (name_at g k) (name_at g i) e)) ∙ place_name g k high))
    by (inr e) = e

-- each place has a process of the run
pub named_at : (g : Group) (k : ℕ) → k < process_count g → IsTrue (has_name g (name_at g k))
named_at g k below = by (bool_cases (nat_lt k g.members))
  where
    late : nat_lt k g.members ≡ false → (nat_lt k (g.members + acceptors g.faults) ≡ true) ⊎ (nat_lt k (g.members + acceptors g.faults) ≡ false)
        → IsTrue (has_name g (name_at g k))
    late e (inl f) =
        let j : ℕ = k + 1 - g.members in
        let low : nat_lt 0 j ≡ true = grind (arith) in
        let high : nat_le j (acceptors g.faults) ≡ true = grind (arith) in
        let here : IsTrue (has_name g (acceptor j)) = rw (low, high) refl in
        if_false (λ (n : Name). IsTrue (has_name g n)) (nat_lt k g.members) _ _ e
        (if_true (λ (n : Name). IsTrue (has_name g n)) (nat_lt k (g.members + acceptors g.faults)) _ _ f here)
    late e (inr f) =
        let j : ℕ = k + 1 - (g.members + acceptors g.faults) in
        let low : nat_lt 0 j ≡ true = grind (arith) in
        let high : nat_le j 3 ≡ true = grind (arith) in
        let here : IsTrue (has_name g (leader j)) = rw (low, high) refl in
        if_false (λ (n : Name). IsTrue (has_name g n)) (nat_lt k g.members) _ _ e
        (if_false (λ (n : Name). IsTrue (has_name g n)) (nat_lt k (g.members + acceptors g.faults)) _ _ f here)

    by : (nat_lt k g.members ≡ true) ⊎ (nat_lt k g.members ≡ false) → IsTrue (has_name g (name_at g k))
    by (inl e) =
        let low : nat_lt 0 (k + 1) ≡ true = grind (arith) in
        let high : nat_le (k + 1) g.members ≡ true = grind (arith) in
        let here : IsTrue (has_name g (member (k + 1))) = rw (low, high) refl in
        if_true (λ (n : Name). IsTrue (has_name g n)) (nat_lt k g.members) _ _ e here
    by (inr e) = late e (bool_cases (nat_lt k (g.members + acceptors g.faults)))

pub place_below : (g : Group) (n : Name) → IsTrue (has_name g n) → process_place g n < process_count g
place_below g n h = by (seat_of g n h)
  where
    by : IsSeat g n → process_place g n < process_count g
    by (OneMember is w) =
        let above : 1 ≤ n.number = w.above in
        let most : n.number ≤ g.members = w.most in
        let place : process_place g n ≡ n.number - 1 =
        if_true (λ (p : ℕ). p ≡ n.number - 1) (n.kind == MEMBER) _ _ (subst (λ (k : ℕ). (k == MEMBER) ≡ true) (sym is) refl) refl in
        omega (arith, place, above, most)
    by (OneAcceptor is w) =
        let above : 1 ≤ n.number = w.above in
        let most : n.number ≤ acceptors g.faults = w.most in
        let at : ℕ = g.members + n.number - 1 in
        let place : process_place g n ≡ at = if_false (λ (p : ℕ). p ≡ at) (n.kind == MEMBER) _ _ (not_member n ACCEPTOR is refl)
        (if_true (λ (p : ℕ). p ≡ at) (n.kind == ACCEPTOR) _ _ (subst (λ (k : ℕ). (k == ACCEPTOR) ≡ true) (sym is) refl) refl) in
        omega (arith, place, above, most)
    by (OneLeader is w) =
        let above : 1 ≤ n.number = w.above in
        let most : n.number ≤ 3 = w.most in
        let at : ℕ = g.members + acceptors g.faults + n.number - 1 in
        let place : process_place g n ≡ at = if_false (λ (p : ℕ). p ≡ at) (n.kind == MEMBER) _ _ (not_member n LEADER is refl)
        (if_false (λ (p : ℕ). p ≡ at) (n.kind == ACCEPTOR) _ _ (not_acceptor n LEADER is refl) refl) in
        omega (arith, place, above, most)

-- the process of a line that names only processes of the run
pub knows_own : (g : Group) (l : PaxosLine) → IsTrue (has_line_names g l) → IsTrue (has_name g (process_of (happening_of l)))
knows_own g (line.Vote i r aye) h = and_left (has_name g (member i)) true h
knows_own g (line.Lead l r) h = and_left (has_name g (leader l)) true h
knows_own g (line.Deliver from to k) h = and_left (has_name g to) true (and_right (has_name g from) (has_name g to && true) h)
knows_own g (line.Show i r) h = and_left (has_name g (member i)) true h
knows_own g (line.Stop n) h = and_left (has_name g n) true h
knows_own g (line.Start n) h = and_left (has_name g n) true h
