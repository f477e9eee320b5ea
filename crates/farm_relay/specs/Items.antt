-- What lies in a relay's channel: messages, and end marks among them.
use Rattle.std.specs.Prelude.{ℕ, List, Option, Some, None, sum_by}
use Rattle.std.specs.List.{filter_map}
use Rattle.farm_relay.specs.declared.items.Item.{Item}
use Rattle.farm_relay.specs.declared.items.Item.TheVariants.{Message, EndMark}

module _ {T : Type 0} where
  abbrev pub message_of : Item T → Option T
  message_of (Message message) = Some message
  message_of EndMark = None

  -- the messages among items, in order
  abbrev pub messages_in : List (Item T) → List T
  messages_in items = filter_map message_of items

  abbrev pub mark_of : Item T → ℕ
  mark_of (Message message) = 0
  mark_of EndMark = 1

  -- how many of the items are end marks
  abbrev pub marks_in : List (Item T) → ℕ
  marks_in items = sum_by mark_of items
