-- Messages and end marks among items.
use Rattle.std.proofs.Common.{◌≡◌, ℕ, ◌+◌, List, [], ◌∷◌, ◌++◌, sum_by, refl, ap, ◌∙◌, append-nil, arith}
use Rattle.std.proofs.lemmas.List.Elements.{filter_map-append}
use Rattle.std.proofs.lemmas.List.Sums.{sum_by-cons, sum_by_push}
use Rattle.farm_relay.specs.declared.items.Item.{Item}
use Rattle.farm_relay.specs.declared.items.Item.TheVariants.{Message, EndMark}
use Rattle.farm_relay.specs.declared.tallies.Tally.{Tally}
use Rattle.farm_relay.specs.Items.{message_of, messages_in, mark_of, marks_in}
use Rattle.farm_relay.specs.Tallies.{with_put, with_taken}
use Rattle.farm_relay.specs.Steps.{PutMarks}

module _ {T : Type 0} where
  pub messages-message : (items : List (Item T)) (message : T) → messages_in (items ++ Message message ∷ []) ≡ messages_in items ++ message ∷ []
  messages-message items message = filter_map-append message_of items (Message message ∷ [])

  pub messages-mark : (items : List (Item T)) → messages_in (items ++ EndMark ∷ []) ≡ messages_in items
  messages-mark items = filter_map-append message_of items (EndMark ∷ []) ∙ append-nil (messages_in items)

  pub marks-mark : (items : List (Item T)) → marks_in (items ++ EndMark ∷ []) ≡ marks_in items + 1
  marks-mark items = omega (arith, sum_by_push mark_of items EndMark)

  -- what an item weighs where its message does, and marks weigh nothing
  abbrev pub weight_of : (T → ℕ) → Item T → ℕ
  weight_of weight (Message message) = weight message
  weight_of weight EndMark = 0

  pub messages_weigh : (weight : T → ℕ) (items : List (Item T)) → sum_by (weight_of weight) items ≡ sum_by weight (messages_in items)
  messages_weigh weight [] = refl
  messages_weigh weight (Message message ∷ items) =
      let k = messages_weigh weight items in
      omega (arith, sum_by-cons (weight_of weight) (Message message) items, sum_by-cons weight message (messages_in items))
  messages_weigh weight (EndMark ∷ items) =
      let k = messages_weigh weight items in omega (arith, sum_by-cons (weight_of weight) EndMark items)

  pub put_message : (v w : Tally T) (message : T) → w ≡ with_put v (Message message) → messages_in w.put ≡ messages_in v.put ++ message ∷ []
  put_message v w message is = ap (λ (u : Tally T). messages_in u.put) is ∙ messages-message v.put message

  pub took_message : (v w : Tally T) (message : T) → w ≡ with_taken v (Message message) → messages_in w.taken ≡ messages_in v.taken ++ message ∷ []
  took_message v w message is = ap (λ (u : Tally T). messages_in u.taken) is ∙ messages-message v.taken message

  pub took_mark : (v w : Tally T) → w ≡ with_taken v EndMark → messages_in w.taken ≡ messages_in v.taken
  took_mark v w is = ap (λ (u : Tally T). messages_in u.taken) is ∙ messages-mark v.taken

  -- one more mark is put
  pub marks_more : (count : ℕ) (v w u : Tally T) → PutMarks count v w → u ≡ with_put w EndMark → PutMarks (count + 1) v u
  marks_more count v w u m is = record {
    shares = ap (λ (t : Tally T). t.shares) is ∙ m.shares;
    messages = ap (λ (t : Tally T). messages_in t.put) is ∙ messages-mark w.put ∙ m.messages;
    marks = (let s = ap (λ (t : Tally T). marks_in t.put) is in let k = m.marks in omega (arith, marks-mark w.put));
    taken = ap (λ (t : Tally T). t.taken) is ∙ m.taken;
  }
