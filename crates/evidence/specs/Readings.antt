-- What is read of a text.
use Rattle.std.specs.Prelude.{◌≡◌, ◌≢◌, ℕ, List, [], ◌∷◌, ◌++◌, ⊤, Option, None, Some}
use Rattle.std.specs.Fmt.{decimal}
use Rattle.cards.specs.declared.seats.Seat.{Seat}
use Rattle.cards.specs.Seats.{seat_letter}
use Rattle.certificate_graph.specs.declared.bundles.Claim.{Claim}
use Rattle.evidence.specs.declared.head_reading.Head.{Head}
use Rattle.evidence.specs.declared.head_reading.ClaimWords.{ClaimWords}
use Rattle.evidence.specs.Sections.{SectionShape, IsClaim}
use Rattle.evidence.specs.SectionTexts.{root_text, claim_line, IsTextOf}
use Rattle.cards.specs.Bytes as ascii

-- the section whose text it is, or that it is the text of none
abbrev pub SaysSection : List ℕ → Option SectionShape → Type 0
SaysSection text (Some section) = IsTextOf text section
SaysSection text None = (section : SectionShape) → IsTextOf text section → ⊥

-- ---- claims
-- the text begins with the line of no claim
abbrev pub LacksClaim : List ℕ → Type 0
LacksClaim text = (claim : Claim) (rest : List ℕ) → IsClaim claim → text ≢ claim_line claim rest

-- the first word of the text is the letter of no seat
abbrev pub NamesNoSeat : List ℕ → Type 0
NamesNoSeat text = (seat : Seat) (rest : List ℕ) → text ≢ seat_letter seat ++ (ascii.blank ∷ rest)

-- the first word is the letter of a seat; and where the text begins with the line of a claim, this is the claim, and
-- what stands after the line
pub record FindsClaim (text : List ℕ) (claim : Claim) (rest : List ℕ) : Type 0 where
  pub after : List ℕ
  pub named : text ≡ seat_letter claim.declarer ++ (ascii.blank ∷ after)
  pub found : (other : Claim) (more : List ℕ) → IsClaim other → text ≡ claim_line other more
      → (claim ≡ other) × (rest ≡ more)

-- these are the words of a claim's line
pub record AreWordsOf (words : ClaimWords) (claim : Claim) : Type 0 where
  pub declarer_is : words.declarer.now ≡ seat_letter claim.declarer
  pub tricks_are : words.tricks.now ≡ decimal claim.k
  pub declarer_root_is : words.declarer_root.now ≡ root_text claim.declarer_root
  pub defenders_root_is : words.defenders_root.now ≡ root_text claim.defenders_root

-- the first word of the text is that for the declarer; and where it begins with the line of a claim, these are its
-- words, and what stands after the line
pub record FindsWords (text : List ℕ) (words : ClaimWords) (rest : List ℕ) : Type 0 where
  pub after : List ℕ
  pub first : text ≡ words.declarer.now ++ (ascii.blank ∷ after)
  pub found : (claim : Claim) (more : List ℕ) → IsClaim claim → text ≡ claim_line claim more
      → AreWordsOf words claim × (rest ≡ more)

-- they are the words of no claim
abbrev pub LacksWords : ClaimWords → Type 0
LacksWords words = (claim : Claim) → IsClaim claim → AreWordsOf words claim → ⊥

-- the first word is the letter of the declarer; and where they are the words of a claim, it is this one
pub record SaysWords (words : ClaimWords) (claim : Claim) : Type 0 where
  pub named : words.declarer.now ≡ seat_letter claim.declarer
  pub said : (other : Claim) → IsClaim other → AreWordsOf words other → claim ≡ other

abbrev pub AllClaims : List Claim → Type 0
AllClaims [] = ⊤
AllClaims (claim ∷ more) = IsClaim claim × AllClaims more

-- ---- the head
-- it is what stands before the graphs of the section
pub record IsHeadOf (head : Head) (section : SectionShape) : Type 0 where
  pub layout_is : head.layout ≡ section.deal
  pub trump_is : head.trump ≡ section.trump
  pub claims_are : head.claims.items ≡ section.claims
