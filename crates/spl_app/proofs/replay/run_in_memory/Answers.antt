use Rattle.std.proofs.Common.{List, length, refl, sym, subst}
use Rattle.spl_edge.specs.Devices.{bench}
use Rattle.spl_node.{specs.Benches.{AllTell, Images, images_at, images}, proofs.{Holding.images_held, Journals.{empty_blank, readable_empty}}}
use Rattle.spl_world.{specs.Held.AllReadable, proofs.Telling.all_tell}
use Rattle.spl_app.{specs.Asked.no_links, proofs.{Alike.{ran_still, same_disks}, Beginnings.none_of_journal}}
use Rattle.spl_app.proofs.replay.run_in_memory.Goals as goal

pub returns-clause-ran : goal.returns-clause-ran
returns-clause-ran g c =
    let old = bench g.D.Disk.view c.args.pairs.now.items in
    let new = bench g.D.Disk.view c.run_lines.new.pairs.items in
    ran_still _ _ _ _ _ _ old old new _ _ no_links no_links
    (same_disks _ _ old new _ _ no_links no_links (λ i below. below) refl (λ h. h) (λ a b sent got h. h) (λ before stop h. h)
    (λ before stop h. record { taken = h.taken; others = h.others }) (λ h. refl)) c.run_lines.result c.run_lines.ensures.ran

pub returns-clause-report : goal.returns-clause-report
returns-clause-report g c =
    subst (λ (is : List Images). AllTell (length c.args.registry.now) is) (sym (images_held g.D.Disk.view c.args.pairs.now.items))
    (all_tell g.D.Disk.view g.met.D.StopDisk.tells c.args.pairs.now.items (length c.args.registry.now) c.requires.pairs)

pub returns-clause-sound : goal.returns-clause-sound
returns-clause-sound g c =
    let ps = c.args.pairs.now.items in
    let es = c.args.registry.now in
    let held = images_held g.D.Disk.view ps in
    none_of_journal _ _ _ _ _ _ _ c.run_lines.ensures.ran
    (subst (λ (is : List Images). AllTell (length es) is) (sym held) (all_tell g.D.Disk.view g.met.D.StopDisk.tells ps (length es) c.requires.pairs))
    (subst (λ (is : List Images). AllReadable es is) (sym held)
    (λ i below. readable_empty (images_at (images g.D.Disk.view ps) i) (empty_blank (images_at (images g.D.Disk.view ps) i) (c.requires.blank i below))))
