-- What is said of disks in a run is said since a moment from which on they were the same.
use Rattle.std.proofs.Common.{◌≡◌, ◌≤◌, ◌<◌, true, false, List, [], length, ◌∙◌, ap, subst}
use Rattle.spl_node.{specs.Blank.IsSame, proofs.Benches.{all_then, rose_after}}
use Rattle.spl_edge.specs.Devices.{FabricView, PairView}
use Rattle.spl_pump.specs.Wires.{CarryView, Pumped, hand, wire_from}
use Rattle.spl_registry.specs.Nodes.{Entry}
use Rattle.spl_runs.specs.Run.{Plan, run_way, LinksHeard, SentOverLinks}
use Rattle.spl_world.specs.Links.{LinkView, link_view}
use Rattle.spl_app.{specs.Asked.links_over, proofs.Alike.AreAlike}

-- what a pump reports
abbrev pub carries : Pumped → CarryView
carries z = record { slots = length z.entries; failed = z.failed; wire = wire_from z.entries z.met; hello = hand z.entries }

module _ (es : List Entry) (start mid : List PairView) (asked : IsSame (length es) start mid) where
  -- messages went over a fabric, by a pump that had carried none
  pub asked_alike : (plan : Plan) (now : List PairView) (pump later : Pumped) (f g : FabricView) → plan.nodes ≡ es
      → pump ≡ record { entries = es; met = []; failed = false }
      → AreAlike (run_way true 0) plan mid start now (link_view (carries pump) f) (link_view (carries later) g) (links_over es f) (links_over es g)
  asked_alike plan now pump later f g over is = record {
    failed = λ k h. rose_after k start mid now asked.onward h;
    held = asked.same;
    picked = λ before stop h. all_then start mid now asked.onward h;
    spared = λ h k past. h k past ∙ asked.spared k (subst (λ (fs : List Entry). length fs ≤ k) over past);
    slots = λ i below. subst (λ (z : Pumped). i < length z.entries) is below;
    hello = ap (λ (z : Pumped). hand z.entries) is;
    link = λ h. h;
    lied = λ a b sent got h. h;
    sent = λ before stop h. subst (λ (z : Pumped). SentOverLinks plan before stop (link_view (carries z) f) (link_view (carries later) g)) is h;
    heard = λ before stop h.
        let k = subst (λ (z : Pumped). LinksHeard plan before stop (link_view (carries z) f) (link_view (carries later) g)) is h in
        record { taken = k.taken; others = k.others };
    still = λ same. ap (λ (z : LinkView). links_over es (record { put = z.put; taken = z.taken; faults = z.faults })) same;
  }
