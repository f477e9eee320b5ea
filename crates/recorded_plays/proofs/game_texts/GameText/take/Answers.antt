use Rattle.std.proofs.Common.{[], ◌∷◌, map, true, false, ◌∙◌, ap, refl, subst}
use Rattle.pbn_deals.specs.Pieces as seen
use Rattle.pbn_deals.specs.FirstPieces.{ArePieces, opens_comment}
use Rattle.recorded_plays.proofs.Taken.{on_ok, Opened, reopened, fit, silent_blanks, silent_comment, silent_text, silent_more, bracket_more, pair_more}
use Rattle.recorded_plays.proofs.game_texts.GameText.take.Goals as goal

pub returns-in-Pair : goal.returns-in-Pair
returns-in-Pair c = λ before pieces h are.
    let name = c.in-Pair.name.now in
    let value = c.in-Pair.value.now in
    let bytes = c.in-Pair.bytes.now in
    fit c.args.piece before pieces (seen.Pair name value bytes ∷ []) false _ (subst (λ p. ArePieces p pieces) c.in-Pair.is are) (ap opens_comment c.in-Pair.is)
    (pair_more before name value bytes c.args.self.now _ h (c.with-self.ensures before bytes h.tags) refl c.after_pair-self.ensures h.opened)

pub returns-in-NoPair : goal.returns-in-NoPair
returns-in-NoPair c = λ before pieces h are.
    let bytes = c.in-NoPair.field-0.now in
    fit c.args.piece before pieces (seen.NoPair bytes ∷ []) false _ (subst (λ p. ArePieces p pieces) c.in-NoPair.is are) (ap opens_comment c.in-NoPair.is)
    (bracket_more before bytes c.args.self.now _ h refl refl c.after_bracket-self.ensures h.opened)

pub returns-in-Blanks : goal.returns-in-Blanks
returns-in-Blanks c =
    let bytes = c.in-Blanks.blanks.now in
    on_ok c.add.result c.add.ensures (λ adds before pieces h are.
    fit c.args.piece before pieces (map seen.Space bytes) false _ (subst (λ p. ArePieces p pieces) c.in-Blanks.is are) (ap opens_comment c.in-Blanks.is)
    (silent_more before (map seen.Space bytes) bytes c.args.self.now c.add.new.self false false (silent_blanks bytes) h adds (adds.opened ∙ h.opened)))

pub returns-in-Data : goal.returns-in-Data
returns-in-Data c =
    let bytes = c.in-Data.text.now in
    on_ok c.add-in-Data.result c.add-in-Data.ensures (λ adds before pieces h are.
    fit c.args.piece before pieces pieces false _ refl (ap opens_comment c.in-Data.is)
    (silent_more before pieces bytes c.args.self.now c.add-in-Data.new.self false false (silent_text pieces bytes (subst (λ p. ArePieces p pieces) c.in-Data.is are)) h adds (adds.opened ∙ h.opened)))

pub returns-in-Comment : goal.returns-in-Comment
returns-in-Comment c =
    let bytes = c.in-Comment.field-0.now in
    on_ok c.add-in-Comment.result c.add-in-Comment.ensures (λ adds before pieces h are.
    fit c.args.piece before pieces (seen.Comment bytes ∷ []) false _ (subst (λ p. ArePieces p pieces) c.in-Comment.is are) (ap opens_comment c.in-Comment.is)
    (silent_more before (seen.Comment bytes ∷ []) (32 ∷ []) c.args.self.now c.add-in-Comment.new.self false false (silent_comment bytes) h adds (adds.opened ∙ h.opened)))

pub returns-in-OpenComment : goal.returns-in-OpenComment
returns-in-OpenComment c =
    let bytes = c.in-OpenComment.field-0.now in
    on_ok c.add-in-OpenComment.result c.add-in-OpenComment.ensures (λ adds before pieces h are.
    fit c.args.piece before pieces (seen.Comment bytes ∷ []) true _ (subst (λ p. ArePieces p pieces) c.in-OpenComment.is are) (ap opens_comment c.in-OpenComment.is)
    (silent_more before (seen.Comment bytes ∷ []) (32 ∷ []) (Opened c.args.self.now true) c.add-in-OpenComment.new.self true true (silent_comment bytes) (reopened c.args.self.now true h) adds adds.opened))
