-- The words of the subcommand that matches name.
use Rattle.std.proofs.Common.{◌≡◌, ℕ, List, Option, Some, None, option_map, refl}
use Rattle.std.specs.Prelude.{MatchOption, IsSomeAnd}
use Rattle.clap.specs.Words.{Row, Text}
use Rattle.command_words.specs.Says.{IsRead}
use Rattle.command_line.specs.Subcommands.{Says, SaysMatched}
use Rattle.command_line.specs.declared.subcommands.Subcommand.{Subcommand}

named_rows : {B : Type 0} (f : B → Text) (g : B → List Row) (o : Option B) (name : Text) (rows : List Row)
    → Some name ≡ option_map f o → Some rows ≡ option_map (λ (p : Text × List Row). p.1) (option_map {U = Text × List Row} (λ b. (f b, g b)) o)
    → option_map {U = Text × List Row} (λ b. (f b, g b)) o ≡ Some (name, rows)
named_rows f g None name rows n r = cc
named_rows f g (Some b) name rows n r = cc

pub says_matched : {B : Type 0} (f : B → Text) (g : B → List Row) (o : Option B) (name word : Text) (rows : List Row) (processors : ℕ) (read : Option Subcommand)
    → Some name ≡ option_map f o → Some rows ≡ option_map (λ (p : Text × List Row). p.1) (option_map {U = Text × List Row} (λ b. (f b, g b)) o)
    → name ≡ word → IsRead (Says word rows processors) read → IsRead (SaysMatched (option_map {U = Text × List Row} (λ b. (f b, g b)) o) processors) read
says_matched f g o name word rows processors read n r is said = rw (named_rows f g o name rows n r, is) said

-- a subcommand is read where its options are
pub of_options : {O : Type 0} (variant : O → Subcommand) (SaysOptions : O → Type 0) (read : Option O) (made : Option Subcommand)
    → MatchOption read (made ≡ None) (λ options. IsSomeAnd made (λ asked. asked ≡ variant options)) → IsRead SaysOptions read
    → IsRead (λ asked. (options : O) × (asked ≡ variant options) × SaysOptions options) made
of_options variant SaysOptions (Some options) (Some asked) is said = (options, is, said)
of_options variant SaysOptions (Some options) None is said = absurd is
of_options variant SaysOptions None made none nothing = rw none (λ asked said. nothing said.0 said.2)
