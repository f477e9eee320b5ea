-- A layout that is printed is read back.
use Rattle.std.proofs.Common.{ℕ, ◌∙◌, Some}
use Rattle.std.specs.Prelude.{Ok}
use Rattle.cards.specs.Deal.{Deal}
use Rattle.pbn_deals.specs.Games.{SaysDeal, says_deal}
use Rattle.pbn_deals.specs.Reading.{Lacks}
use Rattle.pbn_deals.specs.DealText.{deal_text}
use Rattle.pbn_deals.specs.Printable.{IsWholeDeal}
use Rattle.pbn_deals.proofs.Dealt.{IsDealOf-held_of, cards_named-held_of}
use Rattle.pbn_deals.proofs.DealWords.{deal-named, deal-one_line, deal-no_quote}

-- what is known of the text of a deal
pub record ReadsBack (deal : Deal) : Type 0 where
  pub one_line : Lacks 10 (deal_text deal)
  pub no_quote : Lacks 34 (deal_text deal)
  pub says : (line : ℕ) → SaysDeal line (deal_text deal) (Ok (Some deal))

pub reads_back : (deal : Deal) → IsWholeDeal deal → ReadsBack deal
reads_back deal whole = record {
  one_line = deal-one_line deal;
  no_quote = deal-no_quote deal;
  says = λ line. says_deal (deal-named deal) (IsDealOf-held_of deal whole.layout)
      (λ seat. cards_named-held_of deal seat whole.layout.whole_pack ∙ (whole.layout.equal_hands seat ∙ whole.size));
}
