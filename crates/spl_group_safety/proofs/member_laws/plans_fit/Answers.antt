use Rattle.spl_agree.specs.Fits.{any_value}
use Rattle.spl_group_safety.proofs.{Fits.{good-row, may-any}, Sound.sound-row}
use Rattle.spl_group_safety.proofs.member_laws.plans_fit.Goals as goal

pub returns : goal.returns
returns g c = record {
  changes = λ x may here m e same due may_be s f. (good-row x may here m e same due may_be s f).0;
  moves = λ x here m e same due s f. record {
    can = (good-row x any_value here m e same due (may-any x e) s f).2;
    settled = (sound-row x here m e due f s).settled;
  };
  any = may-any;
}
