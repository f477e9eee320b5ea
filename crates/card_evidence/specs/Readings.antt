-- What is read of a text.
use Rattle.std.specs.Prelude.{◌≡◌, ◌≢◌, ℕ, ◌+◌, ◌≤◌, List, ◌++◌, length, Option, None, Some, Bool, true, false}
use Rattle.std.proofs.Common.{Bor}
use Rattle.std.specs.List.{AllByRecursion}
use Rattle.cards.specs.declared.pack.Card.{Card}
use Rattle.cards.specs.CardTexts.{cards_text}
use Rattle.pbn_deals.specs.Reading.{Lacks}
use Rattle.certificate_graph.specs.declared.card_claims.CardClaim.{CardClaim}
use Rattle.card_evidence.specs.Sections.{CardSectionShape, IsKeptClaim}
use Rattle.card_evidence.specs.SectionTexts.{line_text, claims_text, IsTextOf}
use Rattle.cards.specs.Bytes as ascii

-- the section whose text it is, or that it is the text of none
abbrev pub SaysCardSection : List ℕ → Option CardSectionShape → Type 0
SaysCardSection text (Some section) = IsTextOf text section
SaysCardSection text None = (section : CardSectionShape) → IsTextOf text section → ⊥

-- A text begins with the form of a value. The reader returns this value and the rest of the text, or nothing if it
-- begins with the form of none.
abbrev pub ReadsForm : {X : Type 0} → (X → Type 0) → (X → List ℕ → List ℕ) → List ℕ → Option (X × Bor (List ℕ)) → Type 0
ReadsForm Is form text (Some found) = Is found.0 × (text ≡ form found.0 found.1.now)
ReadsForm Is form text None = (value : _) (rest : List ℕ) → Is value → text ≢ form value rest

-- A word is the spelling of a value. The reader returns this value, or nothing if it is the spelling of none.
abbrev pub ReadsWord : {X : Type 0} → (X → Type 0) → (X → List ℕ) → List ℕ → Option X → Type 0
ReadsWord Is spelled word (Some value) = Is value × (word ≡ spelled value)
ReadsWord Is spelled word None = (value : _) → Is value → word ≢ spelled value

-- A text begins with a line of this name. The reader returns the line's word and the rest of the text, or nothing if it
-- begins with no such line.
abbrev pub ReadsLine : List ℕ → List ℕ → Option (Bor (List ℕ) × Bor (List ℕ)) → Type 0
ReadsLine name text (Some found) = Lacks ascii.line_feed found.0.now × (text ≡ line_text name found.0.now found.1.now)
ReadsLine name text None = (word rest : List ℕ) → Lacks ascii.line_feed word → text ≢ line_text name word rest

-- the text is that of some cards, which were added to those before
pub record AddsCards (text : List ℕ) (old new : List Card) : Type 0 where
  pub more : List Card
  pub text_is : text ≡ cards_text more
  pub added : new ≡ old ++ more

-- the cards are added, or the text is of no cards that make at most three with those before
abbrev pub AddsOrLacksCards : Bool → List ℕ → List Card → List Card → Type 0
AddsOrLacksCards true text old new = AddsCards text old new
AddsOrLacksCards false text old new = (more : List Card) → length old + length more ≤ 3 → text ≢ cards_text more

-- the text begins with as many claims, which were added to those before
pub record AddsClaims (count : ℕ) (text : List ℕ) (old new : List CardClaim) (rest : List ℕ) : Type 0 where
  pub more : List CardClaim
  pub count_is : length more ≡ count
  pub each : AllByRecursion IsKeptClaim more
  pub text_is : text ≡ claims_text more rest
  pub added : new ≡ old ++ more

-- the text begins with the texts of no claims as many as this
abbrev pub LacksClaims : ℕ → List ℕ → Type 0
LacksClaims count text =
    (claims : List CardClaim) (rest : List ℕ) → length claims ≡ count → AllByRecursion IsKeptClaim claims
    → text ≢ claims_text claims rest

-- the claims are added, or there are none
abbrev pub AddsOrLacksClaims : ℕ → List ℕ → List CardClaim → List CardClaim → Option (Bor (List ℕ)) → Type 0
AddsOrLacksClaims count text old new (Some rest) = AddsClaims count text old new rest.now
AddsOrLacksClaims count text old new None = LacksClaims count text
