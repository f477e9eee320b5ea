-- What may be played to a trick, and what a card makes of it (Law 44C to 44F).
use Rattle.std.specs.Prelude.{◌≡◌, ℕ, ◌/◌, ◌%◌, ◌^◌, ◌<◌, ◌⊎◌, ◌↔◌}
use Rattle.partition_search.specs.declared.positions.Trick.{Trick}
use Rattle.partition_search.specs.Cards.{HasCard, ShareCard, AreOfSuit}

-- the cards of a hand that may be played: those of the suit led if it has one, else all
pub record AreLegal (led hand cards : ℕ) : Type 0 where
  pub follows : ShareCard hand led → (bit : ℕ) → HasCard cards bit ↔ (HasCard hand bit × HasCard led bit)
  pub free : (ShareCard hand led → ⊥) → cards ≡ hand

-- a seat has led a card: its suit decides, and it wins so far
pub record IsLed (trick : Trick) (seat card : ℕ) : Type 0 where
  pub suit : (bit : ℕ) → card ≡ 2 ^ bit → AreOfSuit (bit / 16) trick.led
  pub deciding : trick.deciding ≡ trick.led
  pub best : trick.best ≡ card
  pub winner : trick.winner ≡ seat % 4
  pub contenders : trick.contenders ≡ 2 ^ (seat % 4)

-- a card is of the suit that decides the trick, and higher than the card that wins so far
pub record Tops (trick : Trick) (card : ℕ) : Type 0 where
  pub same_suit : ShareCard card trick.deciding
  pub higher : trick.best < card

-- a card is a trump, and another suit decides so far
pub record Ruffs (trick : Trick) (trumps card : ℕ) : Type 0 where
  pub other_suit : ShareCard card trick.deciding → ⊥
  pub trump : ShareCard card trumps

-- a card wins against those on the table
abbrev pub Takes : Trick → ℕ → ℕ → Type 0
Takes trick trumps card = Tops trick card ⊎ Ruffs trick trumps card

-- a card that ruffs has a higher bit than the card that wins so far: the trump suit is the highest of a word
abbrev pub LiesAbove : Trick → ℕ → ℕ → Type 0
LiesAbove trick trumps card = Ruffs trick trumps card → trick.best < card

-- The trick after a seat has played a card. If the card takes the trick, it wins so far, else the card before does.
-- After a ruff trumps decide, and no other seat has played to the suit that decides.
pub record IsAfter (old new : Trick) (seat card trumps : ℕ) : Type 0 where
  pub led : new.led ≡ old.led
  pub takes : Takes old trumps card → (new.best ≡ card) × (new.winner ≡ seat % 4)
  pub stays : (Takes old trumps card → ⊥) → (new.best ≡ old.best) × (new.winner ≡ old.winner)
  pub ruffs : Ruffs old trumps card → (new.deciding ≡ trumps) × (new.contenders ≡ 2 ^ (seat % 4))
  pub decides : (Ruffs old trumps card → ⊥) → new.deciding ≡ old.deciding
  pub follows : ShareCard card old.deciding
      → (player : ℕ) → HasCard new.contenders player ↔ (HasCard old.contenders player ⊎ (player ≡ seat % 4))
  pub discards : (ShareCard card old.deciding → ⊥) → (ShareCard card trumps → ⊥) → new.contenders ≡ old.contenders
