use Rattle.std.proofs.Common.{rules}
use Rattle.certificate_play.proofs.CopyLaws.{leads_on, below_is_tree}
use Rattle.certificate_play.proofs.copies.+place_along.Goals as goal

pub place_along-requires-in-Reply : goal.place_along-requires-in-Reply
place_along-requires-in-Reply t c = (
  search rules,
  (
    below_is_tree c.args.place c.in-Reply.branches c.in-Some.first.now c.in-Some-below.next c.requires.tree c.in-Reply.ensures c.in-Some-below.ensures,
    (c.requires.leads.0, leads_on c.args.place c.in-Reply.branches c.in-Some.first.now c.args.line.now c.in-Some.rest.now c.in-Some-below.next c.requires.leads.0 c.requires.tree c.in-Reply.ensures c.in-Some.ensures.cases.0 c.in-Some-below.ensures c.requires.leads.1),
  ),
)

pub returns-in-Some-below : goal.returns-in-Some-below
returns-in-Some-below t c = λ there leads.
    c.place_along-in-Reply.ensures there
    (leads_on c.args.place c.in-Reply.branches c.in-Some.first.now c.args.line.now c.in-Some.rest.now c.in-Some-below.next there c.requires.tree c.in-Reply.ensures c.in-Some.ensures.cases.0 c.in-Some-below.ensures leads)
