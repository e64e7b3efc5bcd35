-- Disks of which no fault is forgotten and none is armed, and disks that failed, after one call and another.
use Rattle.spl_edge.specs.declared.disk.Armed.{Armed}
use Rattle.spl_node.specs.Benches.{AllUnarmed, NoneForgotten, images, images_of, AllGoOn, Images, IsUnarmed, RoseAt, images_now, AllUnpicked, AreUnpicked}
use Rattle.spl_node.{specs.Benches.{IsUnpicked, last_count}, proofs.Positions.some_at}
use Rattle.spl_world.{specs.Held.{FailedSince, HasFailedSince}, proofs.Common.{◌≡◌, ◌<◌, ◌≤◌, inl, inr, ℕ, List, [], ◌∷◌, length, map, get_or, arith, sym}}
use Rattle.spl_world.proofs.{Common.{ap, subst, refl, ◌∙◌, Onward, Picked, DiskView, PairView, bench, Pair, HasRisen, PairOnward}, Holding.old_there}

-- what pairs of disks hold
pub images_told : {D : Type 0} (view : D → DiskView) (ps : List (Pair D)) → map images_now (bench view ps) ≡ images view ps
images_told view [] = refl
images_told view (p ∷ ps) = ap (λ (is : List Images). images_of view p ∷ is) (images_told view ps)

-- ---- no fault is forgotten

pub none_then : (xs ys zs : List PairView) → NoneForgotten xs ys → NoneForgotten ys zs → NoneForgotten xs zs
none_then xs ys zs a b = record {
  as_many = b.as_many ∙ a.as_many;
  first = λ i p q e f. let one = a.first i p (get_or ys i q) e (old_there ys zs i q b.as_many f) in let other = b.first i (get_or ys i q) q (old_there ys zs i q b.as_many f) f in omega (arith, one, other);
  second = λ i p q e f. let one = a.second i p (get_or ys i q) e (old_there ys zs i q b.as_many f) in let other = b.second i (get_or ys i q) q (old_there ys zs i q b.as_many f) f in omega (arith, one, other);
}

pub none_on : (xs ys : List PairView) → AllGoOn xs ys → NoneForgotten xs ys
none_on xs ys on = record {
  as_many = on.as_many;
  first = λ i p q e f. (on.each i p q e f).first.no_less;
  second = λ i p q e f. (on.each i p q e f).second.no_less;
}

-- ---- none is armed

unarmed_one : (x y : DiskView) → Onward x y → IsUnarmed x → IsUnarmed y
unarmed_one x y on off = ap (λ (a : Armed). a.arming) on.armed ∙ off

pub unarmed_on : (xs ys : List PairView) → AllGoOn xs ys → AllUnarmed xs → AllUnarmed ys
unarmed_on xs ys on off = λ i q f.
    let e = old_there xs ys i q on.as_many f in
    let both = on.each i (get_or xs i q) q e f in
    let was = off i (get_or xs i q) e in
    (unarmed_one (get_or xs i q).first q.first both.first was.0, unarmed_one (get_or xs i q).second q.second both.second was.1)

pub unpicked_unarmed : (xs : List PairView) → AllUnpicked xs → AllUnarmed xs
unpicked_unarmed xs h = λ i p e. let u = h i p e in (u.first.off, u.second.off)

-- ---- a disk failed

risen_later : (p m q : PairView) → p.first.faults ≤ m.first.faults → p.second.faults ≤ m.second.faults → HasRisen m q → HasRisen p q
risen_later p m q a b (inl rose) = inl (omega (arith, a, rose))
risen_later p m q a b (inr rose) = inr (omega (arith, b, rose))

pub rose_later : (k : ℕ) (xs ys zs : List PairView) → NoneForgotten xs ys → RoseAt k ys zs → RoseAt k xs zs
rose_later k xs ys zs on rose = record {
  below = subst (λ (n : ℕ). k < n) on.as_many rose.below;
  rose = λ p q at there.
      let mid = some_at ys k rose.below in
      risen_later p mid.0 q (on.first k p mid.0 at mid.1) (on.second k p mid.0 at mid.1) (rose.rose mid.0 q mid.1 there);
}

failed_one : (s p : DiskView) → Onward s p → IsUnpicked s → s.faults < p.faults → last_count s.faults p.picks < p.faults
failed_one s p on u rose = subst (λ (ps : List Picked). last_count s.faults ps < p.faults) (sym (on.picks ∙ u.picks)) rose

failed_pair : (s p : PairView) → PairOnward s p → AreUnpicked s → HasRisen s p → HasFailedSince s p
failed_pair s p on u (inl rose) = inl (failed_one s.first p.first on.first u.first rose)
failed_pair s p on u (inr rose) = inr (failed_one s.second p.second on.second u.second rose)

-- where nothing was picked, one that failed more often has failed since
pub rose_failed : (k : ℕ) (xs ys : List PairView) → AllUnpicked xs → AllGoOn xs ys → RoseAt k xs ys → FailedSince k xs ys
rose_failed k xs ys h on rose = record {
  below = (let within : k < length xs = rose.below in omega (arith, within, on.as_many));
  failed = λ s p e f. failed_pair s p (on.each k s p e f) (h k s e) (rose.rose s p e f);
}
