-- Tricks in progress that are the same, and the bundle of a section.
use Rattle.std.proofs.Common.{◌≡◌, ◌∙◌, List, ℕ, Bool, true, false, not, refl, sym, subst, ap, ap₂}
use Rattle.cards.specs.Deal.{Deal}
use Rattle.cards.specs.declared.pack.Card.{Card}
use Rattle.cards.specs.declared.seats.Seat.{Seat}
use Rattle.cards.specs.declared.suits.Trump.{Trump}
use Rattle.play_rules.specs.History.{Opening}
use Rattle.play_rules.specs.Position.{Position}
use Rattle.certificate_graph.specs.Graphs.{GraphShape}
use Rattle.certificate_graph.specs.declared.card_claims.CardBundle.{CardBundle}
use Rattle.certificate_graph.specs.declared.card_claims.CardClaim.{CardClaim}
use Rattle.card_evidence.specs.Sections.{CardSectionShape, shape_of}
use Rattle.card_evidence.specs.SectionTexts.{IsTextOf}
use Rattle.deal_subcommands.specs.CardTricks.Audit.{HasBundle}

-- a test that is not denied holds
pub undenied : (test : Bool) → false ≡ not test → test ≡ true
undenied true denied = refl
undenied false denied = cc

pub same_position : (one other : Position) → one.opening.deal ≡ other.opening.deal
    → one.opening.leader ≡ other.opening.leader → one.opening.trump ≡ other.opening.trump
    → one.history ≡ other.history
    → one ≡ other
same_position one other deal leader trump history =
    let opening : one.opening ≡ other.opening =
    ap (λ (d : Deal). record { deal = d; leader = one.opening.leader; trump = one.opening.trump }) deal
    ∙ ap₂ (λ (l : Seat) (t : Trump). record { deal = other.opening.deal; leader = l; trump = t }) leader trump in
    ap₂ (λ (o : Opening) (h : List Card). record { opening = o; history = h }) opening history

-- the text of a section is that of its trick and its bundle
pub has_bundle : (text : List ℕ) (section : CardSectionShape) (position : Position) (bundle : CardBundle)
    → IsTextOf text section
    → section.position ≡ position → bundle.claims.items ≡ section.claims
    → bundle.ns.value ≡ section.ns → bundle.ew.value ≡ section.ew
    → HasBundle text position bundle
has_bundle text section position bundle text_is place claims ns ew =
    let same : section ≡ shape_of position bundle =
    ap₂ (λ (p : Position) (c : List CardClaim). record { position = p; claims = c; ns = section.ns; ew = section.ew })
    place (sym claims)
    ∙ ap₂ (λ (n : GraphShape) (e : GraphShape).
    record { position = position; claims = bundle.claims.items; ns = n; ew = e }) (sym ns) (sym ew) in
    subst (λ (s : CardSectionShape). IsTextOf text s) same text_is
