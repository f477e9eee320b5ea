use Rattle.audits.proofs.ReadLaws.{ok_then}
use Rattle.audits.proofs.GiveUpLaws.{shows_sections}
use Rattle.audits.proofs.publishing.publish_firsts.Goals as goal

pub returns : goal.returns
returns c =
    ok_then c.give_up_all.result _ _ (λ gives sections are. shows_sections _ c.hand_in_firsts.new.book _ _ _ _ sections c.in_ok-kept.ensures gives are) c.give_up_all.ensures
