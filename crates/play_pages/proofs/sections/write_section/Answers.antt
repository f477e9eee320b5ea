use Rattle.std.proofs.Common.{subst}
use Rattle.cards.specs.Devices.{Writes}
use Rattle.play_evidence.specs.Sections.{PlaySectionShape}
use Rattle.play_evidence.specs.SectionTexts.{play_section_text}
use Rattle.play_pages.proofs.sections.write_section.Goals as goal

pub returns-in-Some : goal.returns-in-Some
returns-in-Some g c =
    rw c.in-Some.is
    (subst (λ (section : PlaySectionShape). Writes (g.S.Sink.state c.args.sink.now) (g.S.Sink.state c.write_play_section.new.sink) (play_section_text section) c.write_play_section.result)
    c.contents.ensures c.write_play_section.ensures)
