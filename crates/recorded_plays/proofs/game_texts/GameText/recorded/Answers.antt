use Rattle.std.proofs.Common.{codes, refl, sym, ◌∙◌, ap, subst}
use Rattle.board_conditions.specs.Games.{value_in}
use Rattle.recorded_plays.specs.Slots.{slots_of, is_irregular}
use Rattle.recorded_plays.specs.Sections.{section_of}
use Rattle.recorded_plays.specs.Games.{SaysPlay}
use Rattle.recorded_plays.proofs.GamesTaken.{lined, unwrap_now, said, lacks, has_play}
use Rattle.recorded_plays.proofs.game_texts.GameText.recorded.Goals as goal
use Rattle.recorded_plays.proofs.game_texts.GameText.recorded.Goals.{in-Err, in-Ok+in_ok-slots-in-Ok}

pub returns : goal.returns
returns c = λ game is_open h.
    let tags = c.args.self.tags in
    let all = said game tags c.parts.result h.tags c.parts.ensures in
    record {
      board = unwrap_now tags.board _ c.unwrap_or.result (value_in game (codes "BOARD")) c.unwrap_or.ensures refl (h.tags.board ∙ lined (codes "BOARD") game);
      contract = unwrap_now tags.contract _ c.unwrap_or-2.result (value_in game (codes "CONTRACT")) c.unwrap_or-2.ensures refl (h.tags.contract ∙ lined (codes "CONTRACT") game);
      play = elim c.match-parts.branch [
        | in-Err w ↦ subst (SaysPlay game) (sym w.play-is) (lacks game w.in-Err.lack (rw w.in-Err.is at all))
        | in-Ok+in_ok-slots-in-Ok w ↦
            let text = w.as_slice-text.ensures.value ∙ h.section in
            subst (SaysPlay game) (sym w.play-is)
            (has_play game w.in-Ok.parts w.follow.result (rw w.in-Ok.is at all) w.follow.ensures.deal w.follow.ensures.trump w.follow.ensures.declarer
            (w.follow.ensures.reads (section_of game) (w.as_slice.ensures.value ∙ (w.in_ok-slots-in-Ok.ensures ∙ ap slots_of text)) (w.is_irregular.ensures ∙ ap is_irregular text)))
      ];
    }
