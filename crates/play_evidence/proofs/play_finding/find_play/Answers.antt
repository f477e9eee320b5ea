use Rattle.std.proofs.Common.{sym, ◌∙◌}
use Rattle.card_evidence.proofs.LineLemmas.{one_trump_line, one_leader_line}
use Rattle.play_evidence.proofs.play_finding.find_play.Goals as goal

pub returns-in_default : goal.returns-in_default
returns-in_default c = λ section rest is e. c.in_default.ensures section.deal _ is.layout e

pub returns-in_default-read_trump : goal.returns-in_default-read_trump
returns-in_default-read_trump c = λ section rest is e.
    let deal = c.in-Some.ensures section.deal _ is.layout e in
    c.in_default-read_trump.ensures section.trump _ tt deal.1

pub returns-in_default-read_leader : goal.returns-in_default-read_leader
returns-in_default-read_leader c = λ section rest is e.
    let deal = c.in-Some.ensures section.deal _ is.layout e in
    let trump = one_trump_line c.in-Some-read_trump.trump section.trump _ _ (sym c.in-Some-read_trump.ensures.1 ∙ deal.1) in
    c.in_default-read_leader.ensures section.leader _ tt trump.1

pub returns-in_default-find_played : goal.returns-in_default-find_played
returns-in_default-find_played c = λ section rest is e.
    let deal = c.in-Some.ensures section.deal _ is.layout e in
    let trump = one_trump_line c.in-Some-read_trump.trump section.trump _ _ (sym c.in-Some-read_trump.ensures.1 ∙ deal.1) in
    let leader = one_leader_line c.in-Some-read_leader.leader section.leader _ _ (sym c.in-Some-read_leader.ensures.1 ∙ trump.1) in
    c.in_default-find_played.ensures section.cards rest is.few leader.1

pub returns : goal.returns
returns c = λ section rest is e.
    let deal = c.in-Some.ensures section.deal _ is.layout e in
    let trump = one_trump_line c.in-Some-read_trump.trump section.trump _ _ (sym c.in-Some-read_trump.ensures.1 ∙ deal.1) in
    let leader = one_leader_line c.in-Some-read_leader.leader section.leader _ _ (sym c.in-Some-read_leader.ensures.1 ∙ trump.1) in
    let cards = c.in-Some-find_played.ensures section.cards rest is.few leader.1 in
    (record { deal = deal.0; leader = leader.0; trump = trump.0; cards = cards.0 }, cards.1)
