-- A run where nothing happened yet.
use Rattle.std.proofs.Common.{inl, List, refl, subst, ap, arith}
use Rattle.spl_edge.specs.Devices.{Onward, DiskView, PairView, image_now}
use Rattle.spl_acceptor.specs.{Rows.member, declared.group.Group.Group}
use Rattle.spl_paxos_run.{specs.{Wholes.{AreFresh, AreProcessesUnmade}, declared.fault.PaxosFault.TheVariants.NoMemory}, proofs.Begun.picked_since}
use Rattle.spl_paxos_run.proofs.Lifting.{same_item}

still : (x : DiskView) → Onward x x
still x = record { past = λ t h. refl; later = omega arith; no_less = omega arith; armed = refl; picks = refl }

-- no process was made, since memory ran out before
pub none_made : (g : Group) (ps : List PairView) → AreFresh g ps → AreProcessesUnmade g NoMemory ps ps
none_made g ps fresh = record {
  one = member 1;
  failed = λ n is. absurd cc;
  others = λ k s p low at there off. inl (ap (λ (z : PairView). image_now z.first) (same_item ps k p s there at));
  picked = picked_since g ps ps fresh (λ i a b at there. subst (λ (z : PairView). Onward a.first z.first) (same_item ps i a b at there) (still a.first));
}
