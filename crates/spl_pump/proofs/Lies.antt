-- On which pair a lie is, and which frame it is of.
use Rattle.std.{proofs.Common.{◌≡◌, ◌<◌, ◌≤◌, ◌⊎◌, inl, inr, ℕ, min, max, List, Result, Ok, Err}, specs.Prelude.OnErr}
use Rattle.std.proofs.{Common.{subst, arith}, lemmas.Bool.cases_lt}
use Rattle.spl_edge.specs.Devices.{Streams}
use Rattle.spl_pump.specs.{Wires.{IsGreeting, LiesOf}, declared.fault.PumpFault.{PumpFault, TheVariants.{Link, Lied, NoMemory}}}

-- what was due is due by more
pub lies_due : (Due More : ℕ → ℕ → List ℕ → Type 0) (put taken : Streams) (e : PumpFault) → ((a b : ℕ) (bytes : List ℕ) → Due a b bytes → More a b bytes)
    → LiesOf Due e put taken → LiesOf More e put taken
lies_due Due More put taken Link more h = tt
lies_due Due More put taken NoMemory more h = tt
lies_due Due More put taken (Lied sent got) more (a, b, due, on) = (a, b, more a b sent due, on)

-- two nodes meet, in either order
pub greeting_back : (hello : ℕ → ℕ → List ℕ) (low high a b : ℕ) (bytes : List ℕ) → IsGreeting hello low high a b bytes → IsGreeting hello high low a b bytes
greeting_back hello low high a b bytes (inl h) = inr h
greeting_back hello low high a b bytes (inr h) = inl h

-- the lower of two nodes names itself first
pub greeting_between : (hello : ℕ → ℕ → List ℕ) (from to low high : ℕ) → low ≡ min from to → high ≡ max from to → (a b : ℕ) (bytes : List ℕ)
    → IsGreeting hello low high a b bytes → IsGreeting hello from to a b bytes
greeting_between hello from to low high first last a b bytes h = go (cases_lt from to)
  where
    go : (from < to) ⊎ (to ≤ from) → IsGreeting hello from to a b bytes
    go (inl less) =
        let here : low ≡ from = omega arith in
        let there : high ≡ to = omega arith in
        subst (λ (y : ℕ). IsGreeting hello from y a b bytes) there (subst (λ (x : ℕ). IsGreeting hello x high a b bytes) here h)
    go (inr more) =
        let here : low ≡ to = omega arith in
        let there : high ≡ from = omega arith in
        greeting_back hello to from a b bytes
        (subst (λ (y : ℕ). IsGreeting hello to y a b bytes) there (subst (λ (x : ℕ). IsGreeting hello x high a b bytes) here h))

pub err_on : {T E : Type 0} (r : Result T E) (P : Type 0) → P → OnErr r P
err_on (Ok x) P p = tt
err_on (Err y) P p = p
