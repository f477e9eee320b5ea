-- What the words of a subcommand say, from what its matches hold.
use Rattle.std.proofs.Common.{◌≡◌, ◌∙◌, ℕ, List, Option, Some, None, sym, refl, inl, inr}
use Rattle.clap.specs.Words.{Row, Text, first_of}
use Rattle.command_words.specs.Options.{OptionNumbers}
use Rattle.command_words.specs.Says.{IsRead, SaysNumber, SaysThreads}

pub nothing_read : {T : Type 0} (Said : T → Type 0) (read : Option T) → read ≡ None → ((x : T) → Said x → ⊥) → IsRead Said read
nothing_read Said read none nothing = rw none nothing

-- ---- texts

pub has_text : {T : Type 0} (o : Option Text) (v : T) → (o ≡ None → Some v ≡ None) → (t : Text) × (o ≡ Some t)
has_text None v none =
    let bad : Some v ≡ None = none refl in
    cc
has_text (Some t) v none = (t, refl)

-- ---- threads

-- where the option is not missing, what is said is its number
pub threads_said : (said : List Row) (processors : ℕ) (option : OptionNumbers) (text : Text) (read : Option ℕ)
    → first_of option.name said ≡ Some text → IsRead (SaysNumber said option) read → IsRead (SaysThreads said processors option) read
threads_said said processors option text (Some number) there h = inl h
threads_said said processors option text None there h = go
  where
    go : (read : ℕ) → SaysThreads said processors option read → ⊥
    go read (inl number) = h read number
    go read (inr missing) =
        let bad : Some text ≡ None = sym there ∙ missing.0 in
        cc
