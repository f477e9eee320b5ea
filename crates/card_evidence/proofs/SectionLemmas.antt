-- A text is that of one section at most.
use Rattle.std.proofs.Common.{◌≡◌, ℕ, ◌≤◌, List, length, codes, refl, sym, ◌∙◌, ap}
use Rattle.cards.specs.declared.seats.Seat.{Seat}
use Rattle.cards.specs.declared.suits.Trump.{Trump}
use Rattle.cards.specs.declared.pack.Card.{Card}
use Rattle.cards.specs.Deal.{Deal}
use Rattle.pbn_deals.specs.Reading.{Lacks}
use Rattle.pbn_deals.specs.DealText.{deal_text}
use Rattle.pbn_deals.proofs.DealWords.{deal-one_line}
use Rattle.play_rules.specs.Position.{Position}
use Rattle.card_values.specs.Tricks.{IsInProgress}
use Rattle.certificate_graph.specs.declared.card_claims.CardClaim.{CardClaim}
use Rattle.certificate_graph.specs.Graphs.{GraphShape}
use Rattle.certificate_graph.specs.Texts.{trump_text}
use Rattle.evidence.specs.SectionTexts.{graphs_text}
use Rattle.evidence.proofs.HeadLemmas.{one_deal}
use Rattle.card_evidence.specs.Sections.{CardSectionShape}
use Rattle.card_evidence.specs.SectionTexts.{line_text, leader_line, played_line, trick_text, counted_text}
use Rattle.card_evidence.proofs.LineLemmas.{one_line, one_trump_line, one_leader_line}
use Rattle.card_evidence.proofs.CardLemmas.{one_played_line}

-- ---- a trick in progress
-- what follows each part of its text
abbrev pub after_leader : Position → List ℕ → List ℕ
after_leader position rest = played_line position.history rest

abbrev pub after_trump : Position → List ℕ → List ℕ
after_trump position rest = leader_line position.opening.leader (after_leader position rest)

abbrev pub after_deal : Position → List ℕ → List ℕ
after_deal position rest = trump_text position.opening.trump (after_trump position rest)

-- the title and the name of the next line
abbrev pub front : List ℕ
front = codes "DDP 1\ndeal "

module _ (position : Position) (rest text : List ℕ) (is : IsInProgress position) (e : text ≡ trick_text position rest) where
  pub deal_part : (word after : List ℕ) → Lacks 10 word × (text ≡ line_text front word after) → (word ≡ deal_text position.opening.deal) × (after ≡ after_deal position rest)
  deal_part word after read =
      one_line front word (deal_text position.opening.deal) after (after_deal position rest) read.0 (deal-one_line position.opening.deal) (sym read.1 ∙ e)

  module _ (word after : List ℕ) (read : Lacks 10 word × (text ≡ line_text front word after)) where
    pub trump_part : (t : Trump) (next : List ℕ) → after ≡ trump_text t next → (t ≡ position.opening.trump) × (next ≡ after_trump position rest)
    trump_part t next cut = one_trump_line t position.opening.trump next (after_trump position rest) (sym cut ∙ (deal_part word after read).1)

    pub leader_part : (t : Trump) (next : List ℕ) → after ≡ trump_text t next → (s : Seat) (then : List ℕ) → next ≡ leader_line s then
        → (s ≡ position.opening.leader) × (then ≡ after_leader position rest)
    leader_part t next cut s then of = one_leader_line s position.opening.leader then (after_leader position rest) (sym of ∙ (trump_part t next cut).1)

    pub played_part : (t : Trump) (next : List ℕ) → after ≡ trump_text t next → (s : Seat) (then : List ℕ) → next ≡ leader_line s then → (cards : List Card) (last : List ℕ) → length cards ≤ 3 → then ≡ played_line cards last
        → (cards ≡ position.history) × (last ≡ rest)
    played_part t next cut s then of cards last few played =
        one_played_line cards position.history last rest few is.few (sym played ∙ (leader_part t next cut s then of).1)

abbrev pub position_of : Deal → Seat → Trump → List Card → Position
position_of deal leader t history = record { opening = record { deal = deal; leader = leader; trump = t }; history = history }

pub same_position : (position : Position) (deal : Deal) (leader : Seat) (t : Trump) (history : List Card) → deal ≡ position.opening.deal → leader ≡ position.opening.leader → t ≡ position.opening.trump → history ≡ position.history
    → position_of deal leader t history ≡ position
same_position position deal leader t history p q r s =
    ap (λ x. position_of x leader t history) p
    ∙ (ap (λ x. position_of position.opening.deal x t history) q
    ∙ (ap (λ x. position_of position.opening.deal position.opening.leader x history) r
    ∙ ap (λ x. position_of position.opening.deal position.opening.leader position.opening.trump x) s))

pub one_trick : (p q : Position) (a b : List ℕ) → IsInProgress p → IsInProgress q → trick_text p a ≡ trick_text q b → (p ≡ q) × (a ≡ b)
one_trick p q a b is of e =
    let read : Lacks 10 (deal_text p.opening.deal) × (trick_text p a ≡ line_text front (deal_text p.opening.deal) (after_deal p a)) = (deal-one_line p.opening.deal, refl) in
    let deal = deal_part q b (trick_text p a) of e (deal_text p.opening.deal) (after_deal p a) read in
    let t = trump_part q b (trick_text p a) of e (deal_text p.opening.deal) (after_deal p a) read p.opening.trump (after_trump p a) refl in
    let s = leader_part q b (trick_text p a) of e (deal_text p.opening.deal) (after_deal p a) read p.opening.trump (after_trump p a) refl p.opening.leader (after_leader p a) refl in
    let cards = played_part q b (trick_text p a) of e (deal_text p.opening.deal) (after_deal p a) read p.opening.trump (after_trump p a) refl p.opening.leader (after_leader p a) refl p.history a is.few refl in (
      same_position q p.opening.deal p.opening.leader p.opening.trump p.history (one_deal p.opening.deal q.opening.deal is.reached.layout of.reached.layout deal.0) s.0 t.0 cards.0,
      cards.1,
    )

-- ---- the whole
abbrev section_of : Position → List CardClaim → GraphShape → GraphShape → CardSectionShape
section_of position claims ns ew = record { position = position; claims = claims; ns = ns; ew = ew }

abbrev pub from_claims : CardSectionShape → List ℕ
from_claims section = counted_text section.claims (graphs_text section.ns section.ew)

pub same_section : (a b : CardSectionShape) → a.position ≡ b.position → a.claims ≡ b.claims → a.ns ≡ b.ns → a.ew ≡ b.ew → a ≡ b
same_section a b p q r s =
    ap (λ x. section_of x a.claims a.ns a.ew) p
    ∙ (ap (λ x. section_of b.position x a.ns a.ew) q
    ∙ (ap (λ x. section_of b.position b.claims x a.ew) r
    ∙ ap (λ x. section_of b.position b.claims b.ns x) s))
