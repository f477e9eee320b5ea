-- What is read of a text. A reader may read other spellings too: the text of a section is compared with the one that is
-- written.
use Rattle.std.specs.Prelude.{◌≡◌, ◌≢◌, ◌≤◌, ◌+◌, ℕ, List, ◌++◌, length, IsTrue, Bool, Option, None, Some}
use Rattle.std.proofs.Common.{Bor, Vec, Global}
use Rattle.std.specs.List.{AllByRecursion}
use Rattle.std.specs.Fmt.{decimal}
use Rattle.cards.specs.declared.pack.Card.{Card}
use Rattle.cards.specs.CardTexts.{cards_text}
use Rattle.evidence.specs.SectionTexts.{root_text}
use Rattle.play_claims.specs.declared.claims.PlayBundle.{PlayBundle}
use Rattle.play_claims.specs.declared.claims.PlayClaim.{PlayClaim}
use Rattle.play_evidence.specs.declared.claim_finding.ClaimWords.{ClaimWords}
use Rattle.play_evidence.specs.declared.play_finding.FoundPlay.{FoundPlay}
use Rattle.play_evidence.specs.Sections.{PlaySectionShape, IsNumbers, IsPlaySection, nodes_of}
use Rattle.play_evidence.specs.SectionTexts.{IsTextOf, numbers_line, play_text, bundle_text}

-- the section whose text it is, or that it is the text of none
abbrev pub SaysPlaySection : List ℕ → Option PlaySectionShape → Type 0
SaysPlaySection text (Some section) = IsTextOf text section
SaysPlaySection text None = (section : PlaySectionShape) → IsTextOf text section → ⊥

-- if the text is that of a section, it is this one
abbrev pub FindsSection : List ℕ → Option PlaySectionShape → Type 0
FindsSection text (Some found) = (section : PlaySectionShape) → IsTextOf text section → found ≡ section
FindsSection text None = (section : PlaySectionShape) → IsTextOf text section → ⊥

-- if the text begins with the form of a value, this is the value, and the rest of the text
abbrev pub Finds : {X : Type 0} → (X → Type 0) → (X → List ℕ → List ℕ) → List ℕ → Option (X × Bor (List ℕ)) → Type 0
Finds Is form text (Some found) =
    (value : _) (rest : List ℕ) → Is value → text ≡ form value rest → (found.0 ≡ value) × (found.1.now ≡ rest)
Finds Is form text None = (value : _) (rest : List ℕ) → Is value → text ≢ form value rest

-- the same of the forms of several values
abbrev pub FindsAll : {X : Type 0} → (List X → Type 0) → (List X → List ℕ → List ℕ) → List ℕ
    → Option (Vec X Global × Bor (List ℕ)) → Type 0
FindsAll Are form text (Some found) =
    (all : _) (rest : List ℕ) → Are all → text ≡ form all rest → (found.0.items ≡ all) × (found.1.now ≡ rest)
FindsAll Are form text None = (all : _) (rest : List ℕ) → Are all → text ≢ form all rest

-- if the word is the spelling of a value, this is the value
abbrev pub FindsWord : {X : Type 0} → (X → Type 0) → (X → List ℕ) → List ℕ → Option X → Type 0
FindsWord Is spelled word (Some found) = (value : _) → Is value → word ≡ spelled value → found ≡ value
FindsWord Is spelled word None = (value : _) → Is value → word ≢ spelled value

-- these are the words of the claim
pub record AreWordsOf (claim : PlayClaim) (words : ClaimWords) : Type 0 where
  pub tricks : words.tricks.now ≡ decimal claim.tricks
  pub ns : words.ns.now ≡ root_text claim.ns
  pub ew : words.ew.now ≡ root_text claim.ew

-- if the text begins with the line of a claim, these are its words, and the rest of the text
abbrev pub FindsWords : List ℕ → Option (ClaimWords × Bor (List ℕ)) → Type 0
FindsWords text (Some found) =
    (claim : PlayClaim) (rest : List ℕ) → IsNumbers claim → text ≡ numbers_line claim rest
    → AreWordsOf claim found.0 × (found.1.now ≡ rest)
FindsWords text None = (claim : PlayClaim) (rest : List ℕ) → IsNumbers claim → text ≢ numbers_line claim rest

-- if they are the words of a claim, it is this one
abbrev pub SaysWords : ClaimWords → Option PlayClaim → Type 0
SaysWords words (Some found) = (claim : PlayClaim) → IsNumbers claim → AreWordsOf claim words → found ≡ claim
SaysWords words None = (claim : PlayClaim) → IsNumbers claim → AreWordsOf claim words → ⊥

-- if the text is that of cards for which there is room, they are added
abbrev pub AddsCards : Bool → List ℕ → List Card → List Card → Type 0
AddsCards done text old new =
    (more : List Card) → length old + length more ≤ 52 → text ≡ cards_text more → IsTrue done × (new ≡ old ++ more)

-- If the text begins with as many values, they are added, and this is the rest of the text.
abbrev pub AddsAll : {X : Type 0} → (X → Type 0) → (List X → List ℕ → List ℕ) → ℕ → List ℕ → List X → List X
    → Option (Bor (List ℕ)) → Type 0
AddsAll Is form count text old new (Some after) =
    (more : _) (rest : List ℕ) → length more ≡ count → AllByRecursion Is more → text ≡ form more rest
    → (new ≡ old ++ more) × (after.now ≡ rest)
AddsAll Is form count text old new None =
    (more : _) (rest : List ℕ) → length more ≡ count → AllByRecursion Is more → text ≢ form more rest

-- this is the play of the section
pub record IsPlayOf (section : PlaySectionShape) (play : FoundPlay) : Type 0 where
  pub deal : play.layout ≡ section.deal
  pub leader : play.leader ≡ section.leader
  pub trump : play.trump ≡ section.trump
  pub cards : play.cards.items ≡ section.cards

-- if the text begins with the play of a section, this is the play, and the rest of the text
abbrev pub FindsPlay : List ℕ → Option (FoundPlay × Bor (List ℕ)) → Type 0
FindsPlay text (Some found) =
    (section : PlaySectionShape) (rest : List ℕ) → IsPlaySection section → text ≡ play_text section rest
    → IsPlayOf section found.0 × (found.1.now ≡ rest)
FindsPlay text None =
    (section : PlaySectionShape) (rest : List ℕ) → IsPlaySection section → text ≢ play_text section rest

-- if the text is that of the claims and nodes of a section, this is the bundle
pub record AreBundleOf (section : PlaySectionShape) (bundle : PlayBundle) : Type 0 where
  pub claims : bundle.claims.items ≡ section.claims
  pub ns : nodes_of bundle.ns ≡ section.ns
  pub ew : nodes_of bundle.ew ≡ section.ew

abbrev pub FindsBundle : List ℕ → Option PlayBundle → Type 0
FindsBundle text (Some bundle) =
    (section : PlaySectionShape) → IsPlaySection section → text ≡ bundle_text section.claims section.ns section.ew
    → AreBundleOf section bundle
FindsBundle text None =
    (section : PlaySectionShape) → IsPlaySection section → text ≢ bundle_text section.claims section.ns section.ew
