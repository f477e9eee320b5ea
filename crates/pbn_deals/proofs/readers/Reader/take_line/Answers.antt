use Rattle.std.proofs.Common.{sym, subst}
use Rattle.pbn_deals.proofs.GameLemmas.{some_of, none_of}
use Rattle.pbn_deals.proofs.StepLemmas.{Begins, outside, after_comment, takes_rest, inner, escaped, ends_game}
use Rattle.pbn_deals.proofs.readers.Reader.take_line.Goals as goal

pub returns-in-Some : goal.returns-in-Some
returns-in-Some c =
    let old = c.args.self.now in
    let found = c.in-Some in
    let opened = some_of old.opened c.if-is_some.ensures in
    let begins = subst (Begins c.args.line.now found.rest.now) (sym opened.1) (after_comment found.field-0-0.now found.ensures.0 found.ensures.1) in
    takes_rest c.take_rest.result c.args.number c.args.line.now found.rest.now old c.take_rest.new.self begins c.take_rest.ensures

pub returns-in-None : goal.returns-in-None
returns-in-None c =
    let old = c.args.self.now in
    let opened = some_of old.opened c.if-is_some.ensures in
    inner c.args.number opened.0 c.args.line.now old opened.1 c.in-None.ensures

pub returns-then-is_escaped : goal.returns-then-is_escaped
returns-then-is_escaped c =
    let old = c.args.self.now in
    escaped c.args.number c.args.line.now old (none_of old.opened c.if-is_some.ensures) (sym c.if-is_escaped.ensures)

pub returns-then-is_blank_line : goal.returns-then-is_blank_line
returns-then-is_blank_line c =
    let old = c.args.self.now in
    ends_game c.end_game.result c.args.number c.args.line.now old c.end_game.new.self (none_of old.opened c.if-is_some.ensures) (sym c.if-is_escaped.ensures) (sym c.if-is_blank_line.ensures) c.end_game.ensures

pub returns-else-is_blank_line : goal.returns-else-is_blank_line
returns-else-is_blank_line c =
    let old = c.args.self.now in
    let line = c.args.line.now in
    let begins = subst (Begins line line) (sym (none_of old.opened c.if-is_some.ensures)) (outside (sym c.if-is_escaped.ensures) (sym c.if-is_blank_line.ensures)) in
    takes_rest c.take_rest-else-is_blank_line.result c.args.number line line old c.take_rest-else-is_blank_line.new.self begins c.take_rest-else-is_blank_line.ensures
