use Rattle.std.proofs.Common.{◌∷◌, length, refl, sym, ◌∙◌, ap, arith}
use Rattle.std.proofs.lemmas.List.{nil_from_length}
use Rattle.certificate_graph.proofs.OneSpelling.{tails}
use Rattle.card_evidence.proofs.CardLemmas.{no_card}
use Rattle.play_evidence.proofs.PlayLemmas.{cards_read, none_left}
use Rattle.play_evidence.proofs.play_finding.+push_cards.Goals as goal

pub returns-then-is_empty : goal.returns-then-is_empty
returns-then-is_empty t c = λ more few e.
    (refl, none_left c.args.text.now c.args.cards.now.items more (nil_from_length c.args.text.now (let test = c.is_empty.ensures in let so = c.if-is_empty.true in grind arith)) e)

pub returns-in_default : goal.returns-in_default
returns-in_default t c = λ more few e.
    absurd (no_card c.args.text.now more (λ none. let long = ap length none in let test = c.is_empty.ensures in let not_so = c.if-is_empty.false in grind arith) (λ card rest. c.in_default.ensures _) e)

pub returns-in_default-read_card : goal.returns-in_default-read_card
returns-in_default-read_card t c = λ more few e.
    absurd (no_card c.args.text.now more (λ none. let cut = c.in-Some.ensures in cc)
    (λ card rest h. c.in_default-read_card.ensures card rest tt (tails 32 32 _ _ (sym c.in-Some.ensures ∙ h))) e)

pub returns : goal.returns
returns t c =
    cards_read c.push_cards.result c.args.text.now c.in-Some-read_card.rest.now _ _ _ c.in-Some-read_card.card (λ none. let cut = c.in-Some.ensures in cc)
    (c.in-Some.ensures ∙ ap (λ text. 32 ∷ text) c.in-Some-read_card.ensures.1) c.push.ensures.items c.push_cards.ensures
