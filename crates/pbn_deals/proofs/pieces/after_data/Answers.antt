use Rattle.std.proofs.Common.{◌≡◌, ◌++◌, false, sym, ◌∙◌, ap, append-nil, take, arith}
use Rattle.std.proofs.lemmas.List.{take-append-drop, take_all}
use Rattle.std.proofs.lemmas.List.Elements.{All-more}
use Rattle.cards.proofs.DeviceLemmas.{take-drop_rest}
use Rattle.pbn_deals.specs.FirstPieces.{is_sign}
use Rattle.pbn_deals.proofs.pieces.after_data.Goals as goal

pub returns-then-is_sign : goal.returns-then-is_sign
returns-then-is_sign c =
    let text = c.args.text.now in
    let i = c.loop-i.i in
    record {
      front = take i text;
      whole = sym (ap (λ rest. take i text ++ rest) (take-drop_rest text i) ∙ take-append-drop i text);
      no_sign = c.loop-i.invariant;
    }

pub loop-i-preserved : goal.loop-i-preserved
loop-i-preserved c = All-more (λ byte. is_sign byte ≡ false) c.args.text.now c.loop-i.i 0 (omega arith) c.loop-i.invariant (sym c.is_sign.ensures ∙ c.if-is_sign.false)

pub returns : goal.returns
returns c =
    let text = c.args.text.now in
    record {
      front = text;
      whole = sym (append-nil text);
      no_sign = rw (take_all c.loop-i.i text (omega arith)) at c.loop-i.invariant;
    }
