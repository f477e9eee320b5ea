-- The form of the page of plays.
use Rattle.std.specs.Prelude.{Bool, true, false, List}
use Rattle.clap.specs.Words.{Row}
use Rattle.command_words.specs.Says.{SaysFlag}
use Rattle.play_pages.specs.Making.{PlaysText}
use Rattle.play_pages.specs.Texts.{page_text}
use Rattle.play_sheets.specs.Pages.{plays_sheet}
use Rattle.board_subcommands.specs.PageOptions.{mistakes_option, sheet_option}
use Rattle.board_subcommands.specs.declared.plays.forms.PlaysForm.{PlaysForm}
use Rattle.board_subcommands.specs.declared.plays.forms.PlaysForm.TheVariants.{Text, Mistakes, Sheet}

-- the page of this form
abbrev pub text_of : PlaysForm → PlaysText
text_of Text = page_text false
text_of Mistakes = page_text true
text_of Sheet = plays_sheet

-- whether `--mistakes` is said where this form is asked for, and `--sheet`
abbrev pub is_mistakes : PlaysForm → Bool
is_mistakes Text = false
is_mistakes Mistakes = true
is_mistakes Sheet = false

abbrev pub is_sheet : PlaysForm → Bool
is_sheet Text = false
is_sheet Mistakes = false
is_sheet Sheet = true

-- the words say which form is asked for
pub record SaysForm (said : List Row) (form : PlaysForm) : Type 0 where
  pub mistakes : SaysFlag said mistakes_option (is_mistakes form)
  pub sheet : SaysFlag said sheet_option (is_sheet form)
