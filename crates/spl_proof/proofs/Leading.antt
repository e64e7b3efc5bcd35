-- A proof is accepted where its levels lead from the root down to the end.
use Rattle.std.{specs.Prelude.slice_index_or, proofs.Common.{◌≡◌, ℕ, ◌+◌, List, [], ◌∷◌, length, Option, sym}}
use Rattle.spl_state.specs.{Root.digit_of, declared.address.Address.Address}
use Rattle.spl_proof.specs.{Accepted.{Level, top, AllFit, Says, IsAccepted, Leads}, declared.proof.{End.End, Proof.Proof}}

pub leads_from : (d : List ℕ) (i : ℕ) (a : Address) (ls : List Level) (e : End) → top ls e ≡ d → AllFit i a ls e → Leads d i a ls e
leads_from d i a [] e h fit = h
leads_from d i a (l ∷ ls) e h fit = (h, leads_from (slice_index_or l (digit_of a.0 i) []) (i + 1) a ls e (sym fit.0) fit.1)

pub leads_top : (d : List ℕ) (i : ℕ) (a : Address) (ls : List Level) (e : End) → Leads d i a ls e → top ls e ≡ d
leads_top d i a [] e h = h
leads_top d i a (l ∷ ls) e h = h.0

pub leads_fit : (d : List ℕ) (i : ℕ) (a : Address) (ls : List Level) (e : End) → Leads d i a ls e → AllFit i a ls e
leads_fit d i a [] e h = tt
leads_fit d i a (l ∷ ls) e h =
    (sym (leads_top (slice_index_or l (digit_of a.0 i) []) (i + 1) a ls e h.1), leads_fit (slice_index_or l (digit_of a.0 i) []) (i + 1) a ls e h.1)

pub accepted_from : (root : List ℕ) (a : Address) (claim : Option (List ℕ)) (p : Proof) → Leads root 0 a p.levels p.end
    → Says claim (length p.levels) a p.end → IsAccepted root a claim p
accepted_from root a claim p leads says = record { top = leads_top root 0 a p.levels p.end leads; fit = leads_fit root 0 a p.levels p.end leads; says = says }

pub accepted_leads : (root : List ℕ) (a : Address) (claim : Option (List ℕ)) (p : Proof) → IsAccepted root a claim p → Leads root 0 a p.levels p.end
accepted_leads root a claim p h = leads_from root 0 a p.levels p.end h.top h.fit
