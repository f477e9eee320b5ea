-- The head of a sheet, and the headings where another event or section begins.
use Rattle.std.specs.Prelude.{ℕ, Bool, true, false, not, ◌||◌, List, [], codes, Option, None, Some}
use Rattle.std.specs.Prelude.{if◌then◌else◌, bytes_eq}
use Rattle.std.specs.Option.{option_or}
use Rattle.board_conditions.specs.Titles.{TitleValues}
use Rattle.html.specs.Templates.{filled}
use Rattle.sheets.specs.declared.headings.TitlePlace.{TitlePlace}
use Rattle.sheets.specs.declared.headings.TitlePlace.TheVariants.{Event, Section, Site, Date}
use Rattle.sheets.specs.declared.templates.TheConstants.{GROUP}

-- ---- the places of a template with titles
abbrev pub title_place : List ℕ → Option TitlePlace
title_place name =
    if bytes_eq name (codes "event") then Some Event else
    (if bytes_eq name (codes "section") then Some Section else
    (if bytes_eq name (codes "site") then Some Site else
    (if bytes_eq name (codes "date") then Some Date else
    None)))

abbrev pub title_shown : Option (List ℕ) → List ℕ
title_shown None = []
title_shown (Some value) = value

abbrev pub title_at : TitleValues → Option TitlePlace → Option (List ℕ)
title_at titles (Some Event) = titles.event
title_at titles (Some Section) = titles.section
title_at titles (Some Site) = titles.site
title_at titles (Some Date) = titles.date
title_at titles None = None

abbrev pub title_value : TitleValues → List ℕ → List ℕ
title_value titles name = title_shown (title_at titles (title_place name))

-- ---- headings
-- a value that is there and isn't the one before
abbrev pub is_new : Option (List ℕ) → Option (List ℕ) → Bool
is_new before None = false
is_new None (Some value) = true
is_new (Some before) (Some value) = not (bytes_eq before value)

-- The event and the section of a board: where they aren't said they are those of the board before. Another event begins
-- without a section.
abbrev pub titles_after : TitleValues → TitleValues → TitleValues
titles_after before titles = record titles {
  event = option_or titles.event before.event;
  section =
      if is_new before.event titles.event then titles.section else option_or titles.section before.section;
}

-- whether another event or section begins
abbrev pub begins_group : TitleValues → TitleValues → Bool
begins_group before titles = is_new before.event titles.event || is_new before.section titles.section

-- what a heading shows: an event only if it is new
abbrev pub new_titles : TitleValues → TitleValues → TitleValues
new_titles before titles = record titles {
  event = if is_new before.event titles.event then titles.event else None;
}

abbrev pub group_text : TitleValues → TitleValues → List ℕ
group_text before titles =
    if begins_group before titles then filled (title_value (new_titles before titles)) GROUP.now else []
