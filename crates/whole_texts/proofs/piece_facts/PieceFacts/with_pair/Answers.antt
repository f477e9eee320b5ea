use Rattle.std.proofs.Common.{◌≡◌, cond, [], ◌∷◌, ◌++◌, sym, ◌∙◌, ap, append-nil}
use Rattle.pbn_deals.specs.Pieces.{Pair}
use Rattle.whole_texts.specs.OldTables.{is_old, left_pieces}
use Rattle.whole_texts.specs.Lefts.{left_kind}
use Rattle.whole_texts.proofs.FactsOf.{pair_facts}
use Rattle.whole_texts.proofs.piece_facts.PieceFacts.with_pair.Goals as goal
use Rattle.whole_texts.proofs.piece_facts.PieceFacts.with_pair.Goals.{then-is_dropped, else-is_dropped}

pub returns : goal.returns
returns c = λ t before value bytes h are.
    let name = c.args.name.now in
    let pair = Pair name value bytes ∷ [] in
    let is = c.is_old-is_dropped.ensures in
    let left : c.if-is_dropped.result ≡ left_kind c.args.renews (left_pieces c.args.renews t before ++ cond (is_old c.args.renews name) [] pair) = elim c.if-is_dropped.branch [
      | then-is_dropped w ↦ w.result-is ∙ (h.left ∙ (ap (left_kind c.args.renews) (sym (append-nil (left_pieces c.args.renews t before))) ∙ ap (λ b. left_kind c.args.renews (left_pieces c.args.renews t before ++ cond b [] pair)) (sym w.if-is_dropped.true ∙ is)))
      | else-is_dropped w ↦ w.result-is ∙ (w.with.ensures (left_pieces c.args.renews t before) pair h.left are (λ e. cc) ∙ ap (λ b. left_kind c.args.renews (left_pieces c.args.renews t before ++ cond b [] pair)) (sym w.if-is_dropped.false ∙ is))
    ] in
    pair_facts c.args.renews t before name value bytes c.args.self c.if-is_dropped.result c.is_old-is_dropped.result c.is_same_name.result h is c.is_same_name.ensures left
