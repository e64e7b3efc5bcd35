-- The next ballot of a leader is its own, and above what it used.
use Rattle.std.{specs.Prelude.◌==◌, proofs.Common.{◌≡◌, ◌≢◌, ℕ, ◌+◌, ◌%◌, ◌<◌, ◌≤◌, ◌⊎◌, inl, inr, refl, arith}}
use Rattle.spl_agree.proofs.Tests.{if_holds, eqb_is, eqb_not}
use Rattle.spl_acceptor.specs.{Quorums.IsWithin, Rows.{leader_of, next_ballot}}

-- what leads a ballot, by what is left of it by three
abbrev Leads3 : ℕ → ℕ → Type 0
Leads3 b l = ((b % 3 ≡ 0) × (l ≡ 3)) ⊎ ((b % 3 ≢ 0) × (l ≡ b % 3))

leader-cases : (b : ℕ) → Leads3 b (leader_of b)
leader-cases b = if_holds (λ (l : ℕ). Leads3 b l) (b % 3 == 0) 3 (b % 3) (λ q. inl (eqb_is (b % 3) 0 q, refl)) (λ q. inr (eqb_not (b % 3) 0 q, refl))

-- of three numbers in a row each leader has one
third : (u l a b c : ℕ) → 1 ≤ l → l ≤ 3 → Leads3 (u + 1) a → Leads3 (u + 2) b → Leads3 (u + 3) c → a ≢ l → b ≢ l → c ≡ l
third u l a b c j k (inl x) (inl y) (inl z) n m = let x0 : (u + 1) % 3 ≡ 0 = x.0 in let y0 : (u + 2) % 3 ≡ 0 = y.0 in absurd (omega arith)
third u l a b c j k (inl x) (inl y) (inr z) n m = let x0 : (u + 1) % 3 ≡ 0 = x.0 in let y0 : (u + 2) % 3 ≡ 0 = y.0 in absurd (omega arith)
third u l a b c j k (inl x) (inr y) (inl z) n m = let x0 : (u + 1) % 3 ≡ 0 = x.0 in let z0 : (u + 3) % 3 ≡ 0 = z.0 in absurd (omega arith)
third u l a b c j k (inl x) (inr y) (inr z) n m =
    let x0 : (u + 1) % 3 ≡ 0 = x.0 in let x1 : a ≡ 3 = x.1 in let y1 : b ≡ (u + 2) % 3 = y.1 in let z1 : c ≡ (u + 3) % 3 = z.1 in let d : a ≢ l = n in
    let f : b ≢ l = m in grind (arith)
third u l a b c j k (inr x) (inl y) (inl z) n m = let y0 : (u + 2) % 3 ≡ 0 = y.0 in let z0 : (u + 3) % 3 ≡ 0 = z.0 in absurd (omega arith)
third u l a b c j k (inr x) (inl y) (inr z) n m =
    let y0 : (u + 2) % 3 ≡ 0 = y.0 in let x1 : a ≡ (u + 1) % 3 = x.1 in let y1 : b ≡ 3 = y.1 in let z1 : c ≡ (u + 3) % 3 = z.1 in let d : a ≢ l = n in
    let f : b ≢ l = m in grind (arith)
third u l a b c j k (inr x) (inr y) (inl z) n m =
    let z0 : (u + 3) % 3 ≡ 0 = z.0 in let x1 : a ≡ (u + 1) % 3 = x.1 in let y1 : b ≡ (u + 2) % 3 = y.1 in let z1 : c ≡ 3 = z.1 in let d : a ≢ l = n in
    let f : b ≢ l = m in grind (arith)
third u l a b c j k (inr x) (inr y) (inr z) n m =
    let x0 : (u + 1) % 3 ≢ 0 = x.0 in let y0 : (u + 2) % 3 ≢ 0 = y.0 in let z0 : (u + 3) % 3 ≢ 0 = z.0 in absurd (grind (arith))

pub next-own : (l u : ℕ) → IsWithin 3 l → leader_of (next_ballot l u) ≡ l
next-own l u w = if_holds (λ (z : ℕ). leader_of z ≡ l) (leader_of (u + 1) == l) _ _
    (λ q. eqb_is (leader_of (u + 1)) l q)
    (λ q. if_holds (λ (z : ℕ). leader_of z ≡ l) (leader_of (u + 2) == l) _ _
    (λ t. eqb_is (leader_of (u + 2)) l t)
    (λ t. third u l (leader_of (u + 1)) (leader_of (u + 2)) (leader_of (u + 3)) w.above w.most (leader-cases (u + 1)) (leader-cases (u + 2))
    (leader-cases (u + 3)) (eqb_not (leader_of (u + 1)) l q) (eqb_not (leader_of (u + 2)) l t)))

pub next-above : (l u : ℕ) → u < next_ballot l u
next-above l u = if_holds (λ (z : ℕ). u < z) (leader_of (u + 1) == l) _ _ (λ q. omega arith)
    (λ q. if_holds (λ (z : ℕ). u < z) (leader_of (u + 2) == l) _ _ (λ t. omega arith) (λ t. omega arith))
