-- Two worlds of a circuit that differ only in which nodes are up, and are alike at some nodes: what happens at these keeps
-- them so.
use Rattle.std.{specs.Prelude.if◌then◌else◌, proofs.Common.{◌≡◌, ◌≢◌, ◌⊎◌, Bool, true, false, List, [], ◌∷◌, refl, sym, ap, subst, ◌∙◌, inl, inr}}
use Rattle.std.proofs.Math.Path.{fun_ext}
use Rattle.spl_circuit.specs.Nodes.{NodeId, has_node}
use Rattle.spl_wire.specs.declared.plan.Plan.{Plan}
use Rattle.spl_wire.specs.declared.answer.Refusal.TheVariants as refusal
use Rattle.spl_wire.specs.declared.answer.Answer.TheVariants as answer
use Rattle.spl_sched.specs.{Grammar.step_node, declared.line.Step.Step}
use Rattle.spl_sched.specs.declared.line.Step.TheVariants as step
use Rattle.spl_cell_rules.specs.{Cells.{Cell, Empty}, Changes.stopped_cell, Plans.tells_only}
use Rattle.spl_circuit_world.specs.Worlds.{World, put_at, plan_up, step_plan, circuit_carried_out, step_world, node_stopped, started, halted, Occurrence}
use Rattle.spl_circuit_world.{specs.{Worlds.{Steps, Stops, Starts, Halts, circuit_happens, occur}, Same.IsSameFor}, proofs.Nodes.node_cases}
use Rattle.spl_circuit_world.proofs.{Puts.{put_at-same, put_at-other, put_at-still}, Within.within-empty, Confined.IsConfined}

-- a world where others are up
abbrev pub with_up : (NodeId → Bool) → World → World
with_up up w = record { nodes = w.nodes; up = up; at = w.at; sent = w.sent }

module _ (ns : List NodeId) where
  -- one world is the other except who is up, and at these nodes it is so there too
  pub record IsAlike (w v : World) : Type 0 where
    pub other : NodeId → Bool
    pub is : w ≡ with_up other v
    pub up : (n : NodeId) → has_node ns n ≡ true → other n ≡ v.up n

  pub alike-same : (w : World) → IsAlike w w
  alike-same w = record { other = w.up; is = refl; up = λ n h. refl }

  pub up-alike : (w v : World) (n : NodeId) → IsAlike w v → has_node ns n ≡ true → w.up n ≡ v.up n
  up-alike w v n a h = ap (λ (x : World). x.up n) a.is ∙ a.up n h

  pub same-alike : (w v : World) → IsAlike w v → IsSameFor ns w v
  same-alike w v a = record {
    nodes = ap (λ (x : World). x.nodes) a.is;
    at = ap (λ (x : World). x.at) a.is;
    sent = ap (λ (x : World). x.sent) a.is;
    up = λ n h. up-alike w v n a h;
  }

  -- another thing at one node of both
  put-agree : (f g : NodeId → Bool) (n : NodeId) (b : Bool) → ((j : NodeId) → has_node ns j ≡ true → f j ≡ g j) → (j : NodeId) → has_node ns j ≡ true
      → put_at f n b j ≡ put_at g n b j
  put-agree f g n b h j k = go (node_cases j n)
    where
      go : (j ≡ n) ⊎ (j ≢ n) → put_at f n b j ≡ put_at g n b j
      go (inl q) = subst (λ (z : NodeId). put_at f n b z ≡ put_at g n b z) (sym q) (put_at-same f n b ∙ sym (put_at-same g n b))
      go (inr q) = put_at-other f n b j q ∙ (h j k ∙ sym (put_at-other g n b j q))

  -- another thing at a node that is none of these
  put-aside : (f g : NodeId → Bool) (n : NodeId) (b : Bool) → has_node ns n ≡ false → ((j : NodeId) → has_node ns j ≡ true → f j ≡ g j) → (j : NodeId)
      → has_node ns j ≡ true → f j ≡ put_at g n b j
  put-aside f g n b other h j k = h j k ∙ sym (put_at-other g n b j apart)
    where
      apart : j ≢ n
      apart q = let x : has_node ns n ≡ true = subst (λ (z : NodeId). has_node ns z ≡ true) q k in cc

  -- ---- steps

  plan_up-same : (v : World) (up : NodeId → Bool) (s : Step) → plan_up (with_up up v) s ≡ plan_up v s
  plan_up-same v up (step.At n c e) = refl
  plan_up-same v up (step.Deliver from to c k) = refl

  plan-with : (v : World) (up : NodeId → Bool) (s : Step) → up (step_node s) ≡ v.up (step_node s) → step_plan (with_up up v) s ≡ step_plan v s
  plan-with v up s h =
      ap (λ (b : Bool). if b then plan_up (with_up up v) s else tells_only (answer.Refused refusal.Down)) h
      ∙ ap (λ (p : Plan). if v.up (step_node s) then p else tells_only (answer.Refused refusal.Down)) (plan_up-same v up s)

  pub plan-alike : (w v : World) (s : Step) → IsAlike w v → has_node ns (step_node s) ≡ true → step_plan w s ≡ step_plan v s
  plan-alike w v s a h = ap (λ (x : World). step_plan x s) a.is ∙ plan-with v a.other s (a.up (step_node s) h)

  pub step-alike : (w v : World) (s : Step) → IsAlike w v → has_node ns (step_node s) ≡ true → IsAlike (step_world w s) (step_world v s)
  step-alike w v s a h = record {
    other = a.other;
    is = ap (λ (x : World). step_world x s) a.is
        ∙ ap (λ (p : Plan). circuit_carried_out (with_up a.other v) (step_node s) p) (plan-with v a.other s (a.up (step_node s) h));
    up = a.up;
  }

  -- ---- stops and starts

  stops-both : (w v : World) (n : NodeId) → IsAlike w v → (b : Bool) → IsAlike (if b then node_stopped w n else w) (if b then node_stopped v n else v)
  stops-both w v n a true = record { other = put_at a.other n false; is = ap (λ (x : World). node_stopped x n) a.is; up = put-agree a.other v.up n false a.up }
  stops-both w v n a false = a

  starts-both : (w v : World) (n : NodeId) → IsAlike w v → (b : Bool) → IsAlike (if b then w else started w n) (if b then v else started v n)
  starts-both w v n a true = a
  starts-both w v n a false = record { other = put_at a.other n true; is = ap (λ (x : World). started x n) a.is; up = put-agree a.other v.up n true a.up }

  halts-both : (w v : World) (s : Step) (kept : Bool) → IsAlike w v → has_node ns (step_node s) ≡ true → (b : Bool)
      → IsAlike (if b then halted w (step_node s) kept (step_plan w s) else w) (if b then halted v (step_node s) kept (step_plan v s) else v)
  halts-both w v s kept a h true = record {
    other = put_at a.other (step_node s) false;
    is = ap (λ (x : World). halted x (step_node s) kept (step_plan x s)) a.is
        ∙ ap (λ (p : Plan). halted (with_up a.other v) (step_node s) kept p) (plan-with v a.other s (a.up (step_node s) h));
    up = put-agree a.other v.up (step_node s) false a.up;
  }
  halts-both w v s kept a h false = a

  -- where it takes place
  abbrev pub IsHere : Occurrence → Type 0
  IsHere (Steps s) = has_node ns (step_node s) ≡ true
  IsHere (Stops n) = has_node ns n ≡ true
  IsHere (Starts n) = has_node ns n ≡ true
  IsHere (Halts kept s) = has_node ns (step_node s) ≡ true

  pub happens-alike : (w v : World) (e : Occurrence) → IsAlike w v → IsHere e → IsAlike (circuit_happens w e) (circuit_happens v e)
  happens-alike w v (Steps s) a h = step-alike w v s a h
  happens-alike w v (Stops n) a h =
      subst (λ (b : Bool). IsAlike (if b then node_stopped w n else w) (if v.up n then node_stopped v n else v)) (sym (up-alike w v n a h))
      (stops-both w v n a (v.up n))
  happens-alike w v (Starts n) a h =
      subst (λ (b : Bool). IsAlike (if b then w else started w n) (if v.up n then v else started v n)) (sym (up-alike w v n a h))
      (starts-both w v n a (v.up n))
  happens-alike w v (Halts kept s) a h =
      subst (λ (b : Bool). IsAlike (if b then halted w (step_node s) kept (step_plan w s) else w)
      (if v.up (step_node s) then halted v (step_node s) kept (step_plan v s) else v)) (sym (up-alike w v (step_node s) a h))
      (halts-both w v s kept a h (v.up (step_node s)))

  -- ---- at another node

  aside-stopped : (v : World) (n : NodeId) (up : NodeId → Bool) → has_node ns n ≡ false → IsConfined ns v → with_up up v ≡ with_up up (node_stopped v n)
  aside-stopped v n up h c = ap (λ (f : NodeId → Cell). put (f)) (fun_ext (λ k. sym (put_at-still v.at n (stopped_cell (v.at n)) empty k)))
    where
      put : (NodeId → Cell) → World
      put f = record { nodes = v.nodes; up = up; at = f; sent = v.sent }

      nothing : v.at n ≡ Empty
      nothing = within-empty ns n (v.at n) h (c.cells n)

      empty : stopped_cell (v.at n) ≡ v.at n
      empty = ap stopped_cell nothing ∙ sym nothing

  pub stops-aside : (w v : World) (n : NodeId) → has_node ns n ≡ false → IsConfined ns v → IsAlike w v → IsAlike w (circuit_happens v (Stops n))
  stops-aside w v n h c a = go (v.up n)
    where
      go : (b : Bool) → IsAlike w (if b then node_stopped v n else v)
      go true = record { other = a.other; is = a.is ∙ aside-stopped v n a.other h c; up = put-aside a.other v.up n false h a.up }
      go false = a

  pub starts-aside : (w v : World) (n : NodeId) → has_node ns n ≡ false → IsAlike w v → IsAlike w (circuit_happens v (Starts n))
  starts-aside w v n h a = go (v.up n)
    where
      go : (b : Bool) → IsAlike w (if b then v else started v n)
      go true = a
      go false = record { other = a.other; is = a.is; up = put-aside a.other v.up n true h a.up }

  -- ---- runs

  abbrev pub AllHere : List Occurrence → Type 0
  AllHere [] = Unit {0}
  AllHere (e ∷ es) = IsHere e × AllHere es

  pub run-alike : (w v : World) (es : List Occurrence) → IsAlike w v → AllHere es → IsAlike (occur w es) (occur v es)
  run-alike w v [] a h = a
  run-alike w v (e ∷ es) a h = run-alike (circuit_happens w e) (circuit_happens v e) es (happens-alike w v e a h.0) h.1
