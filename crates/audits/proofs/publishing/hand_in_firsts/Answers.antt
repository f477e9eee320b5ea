use Rattle.std.proofs.Common.{◌≡◌, List, [], ◌∷◌, ◌++◌, length, cond, true, refl, sym, ◌∙◌, ap, subst, arith}
use Rattle.std.specs.Result.{is_ok}
use Rattle.lease_book.specs.declared.events.Grant.{Grant}
use Rattle.lease_book.specs.Histories.{Terms}
use Rattle.audits.specs.Firsts.{AreForEntries}
use Rattle.audits.proofs.PublishLaws.{Works}
use Rattle.audits.proofs.AnswerLaws.{terms_leased, one_more, entry_there, works_kept, works_handed, ends, terms_answered, more_events}
use Rattle.audits.proofs.publishing.hand_in_firsts.Goals as goal

pub returns-in_default : goal.returns-in_default
returns-in_default c =
    let inv = c.loop-turn.invariant in
    ends _ _ _ _ _ _ c.in_ok-lease.ensures.ok inv.works c.args.book.now inv.terms c.requires.tries.0 c.in_default.not-Given

pub of-requires : goal.of-requires
of-requires c =
    let inv = c.loop-turn.invariant in
    let there = entry_there _ _ _ _ _ _ c.in_ok-lease.ensures.ok inv.works _ _ _ c.in-Given.is c.history-events.ensures.legal in
    omega (arith, there, c.requires.boards, ap (λ (t : Terms). length t.boards) inv.terms)

pub loop-turn-preserved-in_default-of : goal.loop-turn-preserved-in_default-of
loop-turn-preserved-in_default-of c =
    let inv = c.loop-turn.invariant in
    let leased = c.in_ok-lease.ensures.ok in
    let grant : Grant = record { lease = c.in-Given.lease; entry = c.in-Given.entry; deadline = c.in-Given.deadline } in
    let old = c.loop-turn.kept.items in
    let ok : is_ok c.push.result ≡ true = c.if-is_err.ensures.negation in
    let pushed : c.push.new.self.items ≡ old ++ grant ∷ [] = c.push.ensures.items ∙ ap (λ b. cond b (old ++ grant ∷ []) old) ok in
    record {
      terms = terms_leased _ _ _ _ _ _ leased inv.works ∙ inv.terms;
      turns = omega (arith, inv.turns, one_more _ _ _ _ _ _ leased inv.works);
      works = subst (λ (kept : List Grant). Works c.lease.new.self.terms c.args.now c.args.firsts.now c.lease.new.self.events kept) (sym pushed)
          (works_kept _ _ _ _ _ _ leased inv.works _ _ _ c.in-Given.is c.history-events.ensures.legal (sym c.of.ensures ∙ c.in_default-of.is));
    }

pub loop-turn-preserved : goal.loop-turn-preserved
loop-turn-preserved c =
    let inv = c.loop-turn.invariant in
    let leased = c.in_ok-lease.ensures.ok in
    let settled = c.in_ok-_reply.ensures.ok in
    record {
      terms = terms_answered _ _ _ _ settled ∙ terms_leased _ _ _ _ _ _ leased inv.works ∙ inv.terms;
      turns = omega (arith, inv.turns, one_more _ _ _ _ _ _ leased inv.works, more_events _ _ _ _ settled);
      works = works_handed _ _ _ _ _ _ leased inv.works _ _ _ c.in-Some.proven _ _ _ c.in-Given.is c.history-events.ensures.legal refl settled (sym c.of.ensures ∙ c.in-Some.is)
          (subst (λ (t : Terms). AreForEntries t.boards c.args.firsts.now) (sym inv.terms) c.requires.for_entries);
    }
