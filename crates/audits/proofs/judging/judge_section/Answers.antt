use Rattle.std.proofs.Common.{◌<◌, List, length, Some, refl, sym, ◌∙◌, ap, subst, arith}
use Rattle.cards.specs.Deal.{Deal}
use Rattle.cards.specs.declared.suits.Trump.{Trump}
use Rattle.certificate_graph.specs.declared.bundles.Claim.{Claim}
use Rattle.lease_book.proofs.TwinLaws.{deal_there}
use Rattle.audits.specs.Firsts.{AllKnown}
use Rattle.audits.proofs.ShownLaws.{foreign_shows_nothing}
use Rattle.audits.proofs.FirstLaws.{first_passed, first_known}
use Rattle.audits.proofs.BatchLaws.{known_later}
use Rattle.audits.proofs.judging.judge_section.Goals as goal

pub returns-in_default : goal.returns-in_default
returns-in_default g c = λ later grows.
    first_passed c.args.boards.now c.args.section later
    (foreign_shows_nothing c.args.boards.now c.args.section (λ number has. c.in_default.ensures number (has ∙ ap (λ (d : Deal). Some d) (sym c.layout.ensures))))

pub are_known-requires : goal.are_known-requires
are_known-requires g c =
    let there : c.in-Some.board < length c.args.boards.now = deal_there _ _ _ c.in-Some.ensures.0 in
    omega (arith, there, c.requires)

pub returns-then-are_known : goal.returns-then-are_known
returns-then-are_known g c = λ later grows.
    let board = c.in-Some.board in
    let firsts = c.args.firsts.now in
    let known : AllKnown firsts board c.args.section.trump c.args.section.claims =
    subst (λ (t : Trump). AllKnown firsts board t c.args.section.claims) c.trump.ensures
    (subst (λ (claims : List Claim). AllKnown firsts board c.trump.result claims) c.claims.ensures (c.if-are_known.ensures.0 refl)) in
    first_known c.args.boards.now c.args.section board (c.in-Some.ensures.0 ∙ ap (λ (d : Deal). Some d) c.layout.ensures) c.in-Some.ensures.1 later
    (known_later firsts later board c.args.section.trump c.args.section.claims grows known)

pub returns-in-Ok : goal.returns-in-Ok
returns-in-Ok g c = (c.in-Some.ensures.0 ∙ ap (λ (d : Deal). Some d) c.layout.ensures, c.in-Some.ensures.1, c.in-Ok.ensures)
