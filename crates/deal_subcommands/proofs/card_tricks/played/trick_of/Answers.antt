use Rattle.std.proofs.Common.{Ok, subst, ap}
use Rattle.play_rules.specs.History.{Opening}
use Rattle.pbn_deals.specs.LayoutValue.{SaysLayout}
use Rattle.deal_subcommands.proofs.PlayedLemmas.{refused_word}
use Rattle.deal_subcommands.proofs.card_tricks.played.trick_of.Goals as goal

pub returns-in-Err-play_words : goal.returns-in-Err-play_words
returns-in-Err-play_words c =
    let opening = c.new-trick.ensures.opening in
    refused_word c.args.options c.new-trick.result c.in-Err-play_words.fault
    (record {
      spelt = rw opening (subst (λ t. SaysLayout t (Ok c.in-Ok.layout)) c.as_bytes.ensures.value c.in-Ok.ensures);
      leader = ap (λ (o : Opening). o.leader) opening;
      trump = ap (λ (o : Opening). o.trump) opening;
      none = c.new-trick.ensures.history;
    })
    c.in-Err-play_words.ensures
