-- The turns at which somebody types, and what a line does there.
use Rattle.std.specs.Prelude.{◌≡◌, ◌≢◌, ℕ, List, [], ◌∷◌, ◌++◌, ⊤}
use Rattle.cards.specs.declared.pack.Card.{Card}
use Rattle.play_rules.specs.Legal.{CanPlay}
use Rattle.play_rules.specs.Plays.{LacksCard, FailsToFollow}
use Rattle.certificate_play.specs.Promises.{Promise, after_card, IsSidesTurn, GoesOn}
use Rattle.play_dialogues.specs.declared.words.Typed.{Typed}
use Rattle.play_dialogues.specs.declared.words.Typed.TheVariants as typed
use Rattle.play_dialogues.specs.declared.words.Refusal.{Refusal}
use Rattle.play_dialogues.specs.declared.words.Step.{Step}
use Rattle.play_dialogues.specs.declared.words.Step.TheVariants.{Played, Refused, Shown}
use Rattle.play_dialogues.specs.declared.words.Refusal.TheVariants.{NoCard, NotHeld, MustFollow, Several, NothingBack}
use Rattle.play_dialogues.specs.Texts.{left_in, played_text, asks, asks_again, refusal_line}

-- What stands at the turn now, and what stood at the earlier turns at which a card was typed, oldest first.
pub record Trail : Type 0 where
  pub earlier : List Promise
  pub now : Promise

-- a card is asked for: one is still to be played, and it isn't the side's turn
pub record IsAsked (promise : Promise) : Type 0 where
  pub goes_on : GoesOn promise
  pub others : IsSidesTurn promise → ⊥

-- the card may be played
abbrev pub MayPlay : Promise → Card → Type 0
MayPlay promise card = CanPlay promise.position.opening promise.position.history card

-- the side plays these cards, each at a turn of its own, until it's another's turn or all is played
abbrev pub AreReplies : Promise → List Card → Promise → Type 0
AreReplies promise [] promise' = (promise' ≡ promise) × (GoesOn promise → IsSidesTurn promise → ⊥)
AreReplies promise (card ∷ cards) promise' =
    GoesOn promise × IsSidesTurn promise × MayPlay promise card × AreReplies (after_card promise card) cards promise'

-- no other card may be played
pub record IsOnly (promise : Promise) (card : Card) : Type 0 where
  pub can : MayPlay promise card
  pub only : (other : Card) → MayPlay promise other → other ≡ card

-- two cards may be played
pub record AreSeveral (promise : Promise) : Type 0 where
  pub one : Card
  pub other : Card
  pub can : MayPlay promise one
  pub can_too : MayPlay promise other
  pub differ : one ≢ other

-- ---- what comes of a line
-- the card that is meant: the one that is named, or in an empty line the only one that may be played
abbrev pub IsMeant : Trail → Typed → Card → Type 0
IsMeant trail (typed.Card named) card = card ≡ named
IsMeant trail typed.Empty card = IsOnly trail.now card
IsMeant trail _ card = ⊥

-- it is played, and the side replies; the turn at which it was typed is kept
pub record PlaysCard (trail : Trail) (card : Card) (trail' : Trail) : Type 0 where
  pub can : MayPlay trail.now card
  pub replies : List Card
  pub replied : AreReplies (after_card trail.now card) replies trail'.now
  pub kept : trail'.earlier ≡ trail.earlier ++ trail.now ∷ []

-- why nothing is done
abbrev pub IsRefusedCard : Promise → Card → Refusal → Type 0
IsRefusedCard promise card NotHeld = LacksCard promise.position card
IsRefusedCard promise card MustFollow = FailsToFollow promise.position card
IsRefusedCard promise card _ = ⊥

abbrev pub IsRefused : Trail → Typed → Refusal → Type 0
IsRefused trail (typed.Card card) refusal = IsRefusedCard trail.now card refusal
IsRefused trail typed.Empty Several = AreSeveral trail.now
IsRefused trail typed.Undo NothingBack = trail.earlier ≡ []
IsRefused trail typed.Unknown NoCard = ⊤
IsRefused trail _ _ = ⊥

-- what is shown: all as it is, or as it was at the last turn at which a card was typed
abbrev pub IsShown : Trail → Typed → Trail → Type 0
IsShown trail typed.Hands trail' = trail' ≡ trail
IsShown trail typed.Undo trail' = trail.earlier ≡ trail'.earlier ++ trail'.now ∷ []
IsShown trail _ trail' = ⊥

-- what a line that says this does
abbrev pub Does : Trail → Typed → Step → Trail → Type 0
Does trail typed Played trail' = (card : Card) × IsMeant trail typed card × PlaysCard trail card trail'
Does trail typed (Refused refusal) trail' = (trail' ≡ trail) × IsRefused trail typed refusal
Does trail typed Shown trail' = IsShown trail typed trail'

-- these cards were played since
abbrev pub ArePlayedSince : Promise → Promise → List Card → Type 0
ArePlayedSince promise promise' cards = promise'.position.history ≡ promise.position.history ++ cards

-- and what is written: the cards that were played since, or why nothing is done; and a card is asked for (again)
abbrev pub IsText : Trail → Step → Trail → List ℕ → Type 0
IsText trail Played trail' text =
    (cards : List Card) × ArePlayedSince trail.now trail'.now cards
    × (text ≡ played_text (left_in trail.now) cards ++ asks trail'.now)
IsText trail (Refused refusal) trail' text = text ≡ refusal_line refusal ++ asks_again trail'.now
IsText trail Shown trail' text = text ≡ asks trail'.now

-- what a line that says this does, and what is written
pub record Acts (trail : Trail) (typed : Typed) (trail' : Trail) (text : List ℕ) : Type 0 where
  pub step : Step
  pub does : Does trail typed step trail'
  pub text_is : IsText trail step trail' text
