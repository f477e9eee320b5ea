use Rattle.pbn_deals.proofs.Dealt.{IsDealOf-held_of}
use Rattle.pbn_deals.proofs.DealWords.{held_of, deal-named}
use Rattle.text_laws.proofs.texts.layouts_are_read_back.Goals as goal

pub returns : goal.returns
returns c = λ deal layout. (held_of deal, deal-named deal, IsDealOf-held_of deal layout)
