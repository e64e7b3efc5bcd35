-- All processes of a run, after a line at one of them.
use Rattle.std.{specs.Prelude.{slice_get, if◌then◌else◌}, proofs.Common.{◌≡◌, ℕ, zero, suc, ◌<◌, ◌≤◌, true, false, ◌&&◌, List, [], ◌∷◌, ◌++◌, length, Some}}
use Rattle.std.proofs.Common.{refl, sym, ◌∙◌, ap, subst, append-nil, append_assoc, arith}
use Rattle.spl_agree.proofs.Tests.{if_true, if_false}
use Rattle.spl_edge.specs.{Devices.{Picked, DiskView}, declared.disk.Arming.TheVariants.Off}
use Rattle.spl_acceptor.specs.Worlds.{PaxosCommitWorld, Happening, same_name, first_paxos_world, paxos_happens, paxos_run, paxos_world_after}
use Rattle.spl_acceptor.specs.declared.{group.Group.Group, message.Name.Name}
use Rattle.spl_paxos_safety.{specs.Written.process_of, proofs.Runs.run-append}
use Rattle.spl_paxos_run.specs.{Steps.{takes_down, IsStopPick, PicksOne}, Wholes.{stops_in, ArePicks, ProcessHasPicked}}
use Rattle.spl_node.specs.Benches.{last_count}

-- ---- lists

pub same_item : {A : Type 0} (xs : List A) (k : ℕ) (x y : A) → slice_get xs k ≡ Some x → slice_get xs k ≡ Some y → x ≡ y
same_item xs k x y a b = let both : Some x ≡ Some y = sym a ∙ b in cc

pub get_below : {A : Type 0} (xs : List A) (k : ℕ) (x : A) → slice_get xs k ≡ Some x → k < length xs
get_below [] k x e = cc
get_below (y ∷ ys) zero x e = omega arith
get_below (y ∷ ys) (suc k) x e = let rest : k < length ys = get_below ys k x e in omega (arith, rest)

pub after_more : (g : Group) (es : List Happening) (e : Happening) → paxos_world_after g (es ++ e ∷ []) ≡ paxos_happens g (paxos_world_after g es) e
after_more g es e = run-append g (first_paxos_world g) es (e ∷ [])

-- ---- picks

abbrev stops_one : Group → Name → PaxosCommitWorld → Happening → List PaxosCommitWorld
stops_one g n w e = if same_name (process_of e) n && takes_down w e then w ∷ [] else []

stops_more : (g : Group) (n : Name) (w : PaxosCommitWorld) (es : List Happening) (e : Happening)
    → stops_in g n w (es ++ e ∷ []) ≡ stops_in g n w es ++ stops_one g n (paxos_run g w es) e
stops_more g n w [] e = append-nil (stops_one g n w e)
stops_more g n w (d ∷ ds) e =
    ap (λ (l : List PaxosCommitWorld). stops_one g n w d ++ l) (stops_more g n (paxos_happens g w d) ds e)
    ∙ sym (append_assoc (stops_one g n w d) (stops_in g n (paxos_happens g w d) ds) (stops_one g n (paxos_run g (paxos_happens g w d) ds) e))

picks_more : (g : Group) (n : Name) (ws : List PaxosCommitWorld) (ps : List Picked) (w : PaxosCommitWorld) (p : Picked) → ArePicks g n ws ps
    → IsStopPick g w n p → ArePicks g n (ws ++ w ∷ []) (ps ++ p ∷ [])
picks_more g n [] [] w p all one = (one, tt)
picks_more g n [] (q ∷ ps) w p all one = absurd all
picks_more g n (u ∷ ws) [] w p all one = absurd all
picks_more g n (u ∷ ws) (q ∷ ps) w p all one = (all.0, picks_more g n ws ps w p all.1 one)

count_more : (count : ℕ) (ps : List Picked) (p : Picked) → last_count count (ps ++ p ∷ []) ≡ p.faults
count_more count [] p = refl
count_more count (q ∷ ps) p = count_more q.faults ps p

module _ (g : Group) (es : List Happening) (e : Happening) (n : Name) (s p : DiskView) (had : ProcessHasPicked g es n s p) where
  -- another process is the line's, or it takes none down
  pub picks_none : (q : DiskView) → (same_name (process_of e) n && takes_down (paxos_world_after g es) e) ≡ false → q.picks ≡ p.picks → p.faults ≤ q.faults
      → q.armed.arming ≡ Off → ProcessHasPicked g (es ++ e ∷ []) n s q
  picks_none q none same later off =
      let stops : stops_in g n (first_paxos_world g) (es ++ e ∷ []) ≡ stops_in g n (first_paxos_world g) es =
      stops_more g n (first_paxos_world g) es e
      ∙ ap (λ (l : List PaxosCommitWorld). stops_in g n (first_paxos_world g) es ++ l)
      (if_false (λ (l : List PaxosCommitWorld). l ≡ []) (same_name (process_of e) n && takes_down (paxos_world_after g es) e) _ _ none refl)
      ∙ append-nil (stops_in g n (first_paxos_world g) es) in
      let count : last_count s.faults q.picks ≡ last_count s.faults p.picks = ap (last_count s.faults) same in
      let old : last_count s.faults p.picks ≤ p.faults = had.later in
      let start : s.faults ≤ p.faults = had.no_less in
      record {
        picks = subst (λ (l : List PaxosCommitWorld). ArePicks g n l q.picks) (sym stops)
            (subst (λ (l : List Picked). ArePicks g n (stops_in g n (first_paxos_world g) es) l) (sym same) had.picks);
        unarmed = off;
        later = omega (arith, count, old, later);
        no_less = omega (arith, start, later);
      }

  pub picks_one : (q : DiskView) → (same_name (process_of e) n && takes_down (paxos_world_after g es) e) ≡ true → PicksOne g (paxos_world_after g es) n p q
      → q.armed.arming ≡ Off → ProcessHasPicked g (es ++ e ∷ []) n s q
  picks_one q one picked off =
      let w = paxos_world_after g es in
      let stops : stops_in g n (first_paxos_world g) (es ++ e ∷ []) ≡ stops_in g n (first_paxos_world g) es ++ w ∷ [] =
      stops_more g n (first_paxos_world g) es e
      ∙ ap (λ (l : List PaxosCommitWorld). stops_in g n (first_paxos_world g) es ++ l)
      (if_true (λ (l : List PaxosCommitWorld). l ≡ w ∷ []) (same_name (process_of e) n && takes_down w e) _ _ one refl) in
      let count : last_count s.faults q.picks ≡ picked.pick.faults = ap (last_count s.faults) picked.picks ∙ count_more s.faults p.picks picked.pick in
      let start : s.faults ≤ p.faults = had.no_less in
      record {
        picks = subst (λ (l : List PaxosCommitWorld). ArePicks g n l q.picks) (sym stops)
            (subst (λ (l : List Picked). ArePicks g n (stops_in g n (first_paxos_world g) es ++ w ∷ []) l) (sym picked.picks)
            (picks_more g n (stops_in g n (first_paxos_world g) es) p.picks w picked.pick had.picks picked.is));
        unarmed = off;
        later = omega (arith, count, picked.counted);
        no_less = omega (arith, start, picked.later, picked.counted);
      }
