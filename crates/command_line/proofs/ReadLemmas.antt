-- What `clap`'s answer says of the words.
use Rattle.std.proofs.Common.{◌≡◌, ◌∙◌, ℕ, true, List, [], ◌∷◌, Result, Ok, Err, inl, inr, sym, refl}
use Rattle.std.specs.Prelude.{IsErrAnd}
use Rattle.clap.proofs.OnLiterals.{clap_on_literals}
use Rattle.clap.specs.Words.{HasKind, IsAmong, Kinds, Text, fault_of, is_simple, is_simple_and_free, kind_of, subcommand_of}
use Rattle.clap.specs.declared.error.Error.{Error}
use Rattle.command_line.specs.declared.subcommands.Subcommand.{Subcommand}
use Rattle.command_line.specs.CommandLine.{command_line}
use Rattle.command_line.specs.Words.{AreReadBy, AskFor, HasNone, reasons, refusal_kind}
use Rattle.command_line.specs.Subcommands.{SaysMatched}
use Rattle.command_line.specs.Words.{exclude_each_other}
use Rattle.command_words.specs.declared.commands.Letters.{Letters}

pub simple : (letters : Letters) → is_simple (command_line letters) ≡ true
unfolding clap_on_literals
simple letters = refl

pub simple_and_free : (letters : Letters) → is_simple_and_free (command_line letters) ≡ true
unfolding clap_on_literals
simple_and_free letters = refl

-- an error that `clap` gives has a kind of the words' faults
pub none_from : (letters : Letters) (words : List Text) (processors : ℕ) (error : Error) → HasKind (fault_of (command_line letters) words) error
    → HasNone letters words processors (kind_of error)
none_from letters words processors error (inl memory) = inl memory
none_from letters words processors error (inr among) = inr (go (fault_of (command_line letters) words) refl among)
  where
    go : (kinds : Kinds) → fault_of (command_line letters) words ≡ kinds → IsAmong (kind_of error) kinds
        → ((asked : Subcommand) → AskFor letters words processors asked → ⊥) × IsAmong (kind_of error) (reasons letters words)
    go [] same h = absurd h
    go (k ∷ ks) same h = (
      (λ asked ask. let bad : k ∷ ks ≡ [] = sym same ∙ ask.0 in cc),
      rw same h,
    )

pub refused_by : (letters : Letters) (words : List Text) (processors : ℕ) (answer : Result Subcommand Error) (error : Error)
    → IsErrAnd answer (λ given. given ≡ error) → HasNone letters words processors (kind_of error) → AreReadBy letters words processors answer
refused_by letters words processors (Ok asked) error given none = absurd given
refused_by letters words processors (Err other) error given none = rw given none

-- the words are taken, and a word of the subcommand is missing
pub none_without : (letters : Letters) (words : List Text) (processors : ℕ) (error : Error) → fault_of (command_line letters) words ≡ []
    → ((asked : Subcommand) → SaysMatched (subcommand_of (command_line letters) words) processors asked → ⊥)
    → kind_of error ≡ refusal_kind (exclude_each_other (subcommand_of (command_line letters) words))
    → HasNone letters words processors (kind_of error)
none_without letters words processors error taken nothing kind = inr ((λ asked ask. nothing asked ask.1), rw taken (inl kind))
