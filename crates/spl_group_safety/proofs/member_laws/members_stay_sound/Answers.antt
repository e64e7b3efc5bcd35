use Rattle.spl_agree.specs.Fits.{any_value}
use Rattle.spl_group_safety.proofs.{Fits.{good-row, may-any, sound-new_member, roomy-new_member, sound-restarted}, Sound.sound-row}
use Rattle.spl_group_safety.proofs.member_laws.members_stay_sound.Goals as goal

pub returns : goal.returns
returns g c = record {
  new = λ x here. (sound-new_member x here, roomy-new_member);
  sound = λ x here m e due s f. sound-row x here m e due f s;
  roomy = λ x here m e same due s f. (good-row x any_value here m e same due (may-any x e) s f).1;
  stopped = sound-restarted;
}
