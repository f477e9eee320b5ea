-- What `plain` writes for the bytes of a layout, and when it refuses them.
use Rattle.std.specs.Prelude.{◌≡◌, ℕ, ◌+◌, ◌<◌, ◌≤◌, List, [], ◌∷◌, ◌++◌, Result, Ok, Err, codes}
use Rattle.cards.specs.declared.seats.Seat.{Seat}
use Rattle.cards.specs.declared.suits.Trump.{Trump}
use Rattle.cards.specs.Deal.{Deal, size_of}
use Rattle.cards.specs.Devices.{Device, Adds, AddsBeginning}
use Rattle.pbn_deals.specs.LayoutValue.{SaysLayout}
use Rattle.strategies.specs.Values.{IsPlainValue}
use Rattle.deal_subcommands.specs.declared.faults.DealFault.{DealFault}
use Rattle.deal_subcommands.specs.declared.faults.DealFault.TheVariants.{Write, Layout, TooLarge}
use Rattle.std.specs.Prelude.{None}
use Rattle.streams.specs.RunStreams.{RunDevices}
use Rattle.run_ends.specs.declared.statuses.Status.{Status}
use Rattle.deal_subcommands.specs.Runs.{Runs, Finishes}
use Rattle.command_words.specs.declared.reading.LayoutWords.{LayoutWords}
use Rattle.cards.specs.Bytes as ascii

-- the line: `NS `, the digit of the number, LF
abbrev pub line_of : ℕ → List ℕ
line_of tricks = codes "NS " ++ (48 + tricks) ∷ ascii.line_feed ∷ []

-- The bytes spell a layout of at most 4 cards a hand, of which North and South can win this many tricks, and East and
-- West the others.
pub record HasPlainValue (value : List ℕ) (leader : Seat) (trump : Trump) (tricks : ℕ) : Type 0 where
  pub deal : Deal
  pub spelt : SaysLayout value (Ok deal)
  pub small : size_of deal ≤ 4
  pub wins : IsPlainValue (record { deal = deal; leader = leader; trump = trump }) tricks

-- the bytes spell a layout of over 4 cards a hand
pub record IsTooLarge (value : List ℕ) : Type 0 where
  pub deal : Deal
  pub spelt : SaysLayout value (Ok deal)
  pub large : 4 < size_of deal

-- What was answered, and what the sink has got. With a refusal nothing was written.
abbrev pub MeetsPlainLine : List ℕ → Seat → Trump → Device → Device → Result Unit DealFault → Type 0
MeetsPlainLine value leader trump old new (Ok _) =
    (tricks : ℕ) × HasPlainValue value leader trump tricks × Adds old new (line_of tricks)
MeetsPlainLine value leader trump old new (Err Write) =
    (tricks : ℕ) × HasPlainValue value leader trump tricks × AddsBeginning old new (line_of tricks)
MeetsPlainLine value leader trump old new (Err (Layout fault)) = SaysLayout value (Err fault) × (new ≡ old)
MeetsPlainLine value leader trump old new (Err TooLarge) = IsTooLarge value × (new ≡ old)
MeetsPlainLine value leader trump old new (Err _) = ⊥

-- a whole run: the input stays as it was
abbrev pub RunsPlain : LayoutWords → RunDevices → RunDevices → Status → Type 0
RunsPlain options old new status =
    Runs (λ before after answer.
    Finishes (MeetsPlainLine options.layout.now options.seat options.trump before.sink after.sink) before after answer)
    None old new status
