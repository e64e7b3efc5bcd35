-- A calm is a run of ticks and deliveries.
use Rattle.std.{specs.Prelude.{Option, Some, ◌==◌, nat_lt, slice_get}, proofs.Common.{◌≡◌, ◌≢◌, ℕ, suc, ◌⊎◌, List, [], ◌∷◌, ◌++◌, refl, sym, ap, subst, ◌∙◌}}
use Rattle.std.proofs.Common.{inl, inr}
use Rattle.spl_agree.specs.{Member.Group, Rows.row, World.{Sent, World, carried_out, posted, Happening, Ticks, Delivers, acts, comes, happens, run}}
use Rattle.spl_agree.{specs.{Agreement.Was, declared.{event.GroupEvent.GroupEvent, message.CommitMsg.CommitMsg}}, proofs.Tests.{lt_is, if_true, if_false}}
use Rattle.spl_agree.proofs.Tests.{eqb_other}
use Rattle.spl_agree.specs.declared.event.GroupEvent.TheVariants as event
use Rattle.spl_group_liveness.specs.{Bound.{AnyOf, IsQuietHappening, AllQuiet, IsRunOf}, Calm.{Calm, Order, mail, calm_beginning, calm_by, AllFull}}
use Rattle.spl_group_liveness.proofs.{Moves.{MayMove, IsKept, kept-passes, mailed-cases, mail-was}, Kept.{due-old, was-right}}

-- a message that was sent has an index
pub was-index : {V : Type 0} (s : Sent V) (xs : List (Sent V)) → Was s xs → (which : ℕ) × (slice_get xs which ≡ Some s)
was-index s [] h = absurd h
was-index {V} s (x ∷ xs) (inl e) = (0, ap (λ (y : Sent V). Some y) (sym e))
was-index {V} s (x ∷ xs) (inr h) = let i : (which : ℕ) × (slice_get xs which ≡ Some s) = was-index s xs h in (suc i.0, i.1)

pub run-more : {V : Type 0} (g : Group V) (w : World V) (es : List (Happening V)) (e : Happening V) → run g w (es ++ e ∷ []) ≡ happens g (run g w es) e
run-more g w [] e = refl
run-more g w (x ∷ xs) e = run-more g (happens g w x) xs e

pub quiet-more : {V : Type 0} (es : List (Happening V)) (e : Happening V) → AllQuiet es → IsQuietHappening e → AllQuiet (es ++ e ∷ [])
quiet-more [] e a q = (q, tt)
quiet-more (x ∷ xs) e a q = (a.0, quiet-more xs e a.1 q)

pub record Ran {V : Type 0} (g : Group V) (w : World V) (k : Calm V) : Type 0 where
  pub ran : IsRunOf g w k.world
  pub was : (a b : ℕ) (m : CommitMsg V) → AnyOf (λ x. x ≡ m) (k.due a b) → Was (record { from = a; to = b; message = m }) k.world.sent

pub runs-more : {V : Type 0} (g : Group V) (w x y : World V) (e : Happening V) → IsQuietHappening e → happens g x e ≡ y → IsRunOf g w x → IsRunOf g w y
runs-more {V} g w x y e q h r = (r.0 ++ e ∷ [], (quiet-more r.0 e r.1.0 q, run-more g w r.0 e ∙ (ap (λ (z : World V). happens g z e) r.1.1 ∙ h)))

pub kept-ran : {V : Type 0} (g : Group V) (w : World V) → IsKept g (Ran g w)
kept-ran {V} g w k here e d ready r = record {
  ran = go e ready.may;
  was = λ a t m h. sent a t m (mailed-cases (λ x. x ≡ m) d here (row g here (k.world.at here) e).sends a t h);
}
  where
    acted : (x : GroupEvent V) → acts g k.world here x ≡ carried_out g k.world here (row g here (k.world.at here) x)
    acted x = if_true (λ (y : World V). y ≡ carried_out g k.world here (row g here (k.world.at here) x)) (nat_lt here g.members) _ _
        (lt_is here g.members ready.member) refl

    came : (a : ℕ) (m : CommitMsg V) → a ≢ here
        → comes g k.world (Some (record { from = a; to = here; message = m })) ≡ carried_out g k.world here (row g here (k.world.at here) (event.From a m))
    came a m n =
        if_false (λ (y : World V). y ≡ carried_out g k.world here (row g here (k.world.at here) (event.From a m))) (a == here) _ _ (eqb_other a here n)
        (acted (event.From a m))

    go : (x : GroupEvent V) → MayMove g k here x d → IsRunOf g w (carried_out g k.world here (row g here (k.world.at here) x))
    go event.Tick may = runs-more g w k.world (carried_out g k.world here (row g here (k.world.at here) event.Tick)) (Ticks here) tt (acted event.Tick) r.ran
    go (event.From a m) may =
        let i : (which : ℕ) × (slice_get k.world.sent which ≡ Some (record { from = a; to = here; message = m })) = was-index
        (record { from = a; to = here; message = m }) k.world.sent
        (r.was a here m (subst (λ (l : List (CommitMsg V)). AnyOf (λ y. y ≡ m) l) (sym may.3) (inl refl))) in
        runs-more g w k.world (carried_out g k.world here (row g here (k.world.at here) (event.From a m))) (Delivers i.0) tt
        (ap (λ (o : Option (Sent V)). comes g k.world o) i.1 ∙ came a m may.1) r.ran
    go _ may = absurd may

    sent : (a t : ℕ) (m : CommitMsg V) → AnyOf (λ x. x ≡ m) (d a t) ⊎ ((a ≡ here) × AnyOf (λ x. x ≡ m) (mail t (row g here (k.world.at here) e).sends))
        → Was (record { from = a; to = t; message = m }) (posted here (row g here (k.world.at here) e).sends ++ k.world.sent)
    sent a t m (inl x) =
        was-right (record { from = a; to = t; message = m }) (posted here (row g here (k.world.at here) e).sends) k.world.sent
        (r.was a t m (due-old g k here e d (λ y. y ≡ m) a t ready.may x))
    sent a t m (inr x) =
        subst (λ (j : ℕ). Was (record { from = j; to = t; message = m }) (posted here (row g here (k.world.at here) e).sends ++ k.world.sent)) (sym x.0)
        (mail-was here t m (row g here (k.world.at here) e).sends k.world.sent x.1)

pub calm-runs : {V : Type 0} (g : Group V) (os : List Order) (w : World V) → AllFull g.members os → IsRunOf g w (calm_by g os w)
calm-runs g os w f = (kept-passes g (Ran g w) (kept-ran g w) os f (calm_beginning w) (record { ran = ([], (tt, refl)); was = λ a b m h. absurd h })).ran
