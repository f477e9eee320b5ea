-- The options for which page is written.
use Rattle.std.specs.Prelude.{◌≡◌, ◌&&◌, ◌||◌, ℕ, Bool, true, false, List, [], ◌∷◌, Some, codes}
use Rattle.clap.specs.Words.{Row, Rule, Text, first_of}
use Rattle.command_words.specs.Rules.{flag}
use Rattle.command_words.specs.Says.{SaysFlag, flag_letters, is_said}
use Rattle.tournaments.specs.declared.pages.Page.{Page}
use Rattle.tournaments.specs.declared.pages.PageForm.{PageForm}
use Rattle.tournaments.specs.declared.pages.PageForm.TheVariants.{Tables, Whole, Sheet}
use Rattle.tournaments.specs.declared.pages.ParTags.{ParTags}
use Rattle.tournaments.specs.declared.pages.ParTags.TheVariants.{Without, With}

-- whether the input is written as it is, with its tables in it
abbrev pub whole_option : List ℕ
whole_option = codes "whole"

-- whether a page to print is written
abbrev pub sheet_option : List ℕ
sheet_option = codes "sheet"

-- whether just the cards of plays that lose tricks are written
abbrev pub mistakes_option : List ℕ
mistakes_option = codes "mistakes"

-- whether the boards' pars stand before their tables
abbrev pub par_option : List ℕ
par_option = codes "par"

abbrev pub page_rules : List Rule
page_rules = flag whole_option ∷ flag sheet_option ∷ flag par_option ∷ []

-- whether `--whole` is said where this form is asked for, and `--sheet`
abbrev pub is_whole : PageForm → Bool
is_whole Tables = false
is_whole Whole = true
is_whole Sheet = false

abbrev pub is_sheet : PageForm → Bool
is_sheet Tables = false
is_sheet Whole = false
is_sheet Sheet = true

-- what stands for the option `--par` among the words where these are asked for
abbrev pub par_letters : ParTags → Text
par_letters Without = flag_letters false
par_letters With = flag_letters true

-- the words say which page is asked for
pub record SaysPage (said : List Row) (page : Page) : Type 0 where
  pub whole : SaysFlag said whole_option (is_whole page.form)
  pub sheet : SaysFlag said sheet_option (is_sheet page.form)
  pub par : first_of par_option said ≡ Some (par_letters page.par)

-- the words ask for two pages: for the input with its tables or just the mistakes of plays, and for a sheet
abbrev pub asks_for_both : List Row → Bool
asks_for_both said = is_said said sheet_option && (is_said said whole_option || is_said said mistakes_option)
