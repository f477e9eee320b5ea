-- Passes that are joined one after another, and what is left in the end.
use Rattle.std.proofs.Common.{◌≡◌, ℕ, List, [], ◌∷◌, ◌++◌, length-append, sum_by, sym, ap, ◌∙◌, append_assoc, arith}
use Rattle.std.proofs.lemmas.List.Sums.{sum_by_push, sum_by-append}
use Rattle.crossbeam_channel.specs.Claims.{view}
use Rattle.crossbeam_channel.specs.Fifo.{Held}
use Rattle.farm_relay.specs.declared.items.Item.{Item}
use Rattle.farm_relay.specs.declared.items.Item.TheVariants.{Message, EndMark}
use Rattle.farm_relay.specs.declared.tallies.Tally.{Tally}
use Rattle.farm_relay.specs.declared.putters.Putter.{Putter}
use Rattle.farm_relay.specs.declared.takers.Taker.{Taker}
use Rattle.farm_relay.specs.declared.relays.Relay.{Relay}
use Rattle.farm_relay.specs.Items.{messages_in}
use Rattle.farm_relay.specs.Tallies.{all_shares, joined, with_taken}
use Rattle.farm_relay.specs.Rule.{IsAt}
use Rattle.farm_relay.specs.Relays.{items_put_by, items_taken_by, put_by, taken_by, IsNothingLost}
use Rattle.farm_relay.specs.Closing.{HasJoinedPutters, HasJoinedTakers, IsLeft}
use Rattle.farm_relay.proofs.Parts.{messages-message, messages-mark, messages_weigh, weight_of}
use Rattle.farm_relay.proofs.Sums.{sum_same}
use Rattle.farm_relay.proofs.Whole.{nothing_left}

-- the items taken and those left are all
pub taken_more : {X : Type 0} (taken rest later all : List X) (item : X) → rest ≡ item ∷ later → taken ++ rest ≡ all → (taken ++ item ∷ []) ++ later ≡ all
taken_more taken rest later all item is whole = append_assoc taken (item ∷ []) later ∙ ap (λ l. taken ++ l) (sym is) ∙ whole

module _ {T : Type 0} where
  pub putters_more : (before now after : Tally T) (putters : List (Putter T)) (putter : Putter T) (own : Tally T) → HasJoinedPutters before putters now → own ≡ view putter.pass → after ≡ joined now own → HasJoinedPutters before (putters ++ putter ∷ []) after
  putters_more before now after putters putter own has own_is joined_is =
      let is : after ≡ joined now (view putter.pass) = joined_is ∙ ap (joined now) own_is in
      record {
        shares = (let s = ap (λ (v : Tally T). v.shares) is in let one = putter.share in let k = has.shares in omega (arith, length-append putters (putter ∷ [])));
        put = λ weight.
            let s = ap (λ (v : Tally T). sum_by weight v.put) is in
            let k = has.put weight in
            omega (arith, sum_by-append weight now.put (items_put_by putter), sum_by_push (λ (p : Putter T). sum_by weight (items_put_by p)) putters putter);
        taken = λ weight.
            let s = ap (λ (v : Tally T). sum_by weight v.taken) is in
            let none = ap (sum_by weight) putter.taken in
            let k = has.taken weight in
            omega (arith, sum_by-append weight now.taken (view putter.pass).taken);
      }

  pub takers_more : (before now after : Tally T) (takers : List (Taker T)) (taker : Taker T) (own : Tally T) → HasJoinedTakers before takers now → own ≡ view taker.pass → after ≡ joined now own → HasJoinedTakers before (takers ++ taker ∷ []) after
  takers_more before now after takers taker own has own_is joined_is =
      let is : after ≡ joined now (view taker.pass) = joined_is ∙ ap (joined now) own_is in
      record {
        shares = (let s = ap (λ (v : Tally T). v.shares) is in let one = taker.share in let k = has.shares in omega (arith, length-append takers (taker ∷ [])));
        put = λ weight.
            let s = ap (λ (v : Tally T). sum_by weight v.put) is in
            let none = ap (sum_by weight) taker.put in
            let k = has.put weight in
            omega (arith, sum_by-append weight now.put (view taker.pass).put);
        taken = λ weight.
            let s = ap (λ (v : Tally T). sum_by weight v.taken) is in
            let k = has.taken weight in
            omega (arith, sum_by-append weight now.taken (items_taken_by taker), sum_by_push (λ (t : Taker T). sum_by weight (items_taken_by t)) takers taker);
      }

  -- a pass took items of which these are the messages
  pub record HasDrained (before : Tally T) (messages : List T) (now : Tally T) : Type 0 where
    pub items : List (Item T)
    pub messages_are : messages_in items ≡ messages
    pub shares : now.shares ≡ before.shares
    pub put : now.put ≡ before.put
    pub taken : now.taken ≡ before.taken ++ items

  -- it takes one more item
  one_more : (before now after : Tally T) (messages : List T) (item : Item T) (d : HasDrained before messages now) → after ≡ with_taken now item → after.taken ≡ before.taken ++ (d.items ++ item ∷ [])
  one_more before now after messages item d is =
      ap (λ (v : Tally T). v.taken) is ∙ ap (λ l. l ++ item ∷ []) d.taken ∙ append_assoc before.taken d.items (item ∷ [])

  pub drained_message : (before now after : Tally T) (messages : List T) (message : T) → HasDrained before messages now → after ≡ with_taken now (Message message) → HasDrained before (messages ++ message ∷ []) after
  drained_message before now after messages message d is = record {
    items = d.items ++ Message message ∷ [];
    messages_are = messages-message d.items message ∙ ap (λ l. l ++ message ∷ []) d.messages_are;
    shares = ap (λ (v : Tally T). v.shares) is ∙ d.shares;
    put = ap (λ (v : Tally T). v.put) is ∙ d.put;
    taken = one_more before now after messages (Message message) d is;
  }

  pub drained_mark : (before now after : Tally T) (messages : List T) → HasDrained before messages now → after ≡ with_taken now EndMark → HasDrained before messages after
  drained_mark before now after messages d is = record {
    items = d.items ++ EndMark ∷ [];
    messages_are = messages-mark d.items ∙ d.messages_are;
    shares = ap (λ (v : Tally T). v.shares) is ∙ d.shares;
    put = ap (λ (v : Tally T). v.put) is ∙ d.put;
    taken = one_more before now after messages EndMark d is;
  }

  -- once the channel is empty, what was taken last is what was left
  pub drained : (before now : Tally T) (messages : List T) → before.shares ≡ all_shares → HasDrained before messages now → Held 0 (IsAt now) → IsLeft before messages
  drained before now messages all d held = record {
    items = d.items;
    messages_are = d.messages_are;
    even = λ weight.
        let p = nothing_left weight now (d.shares ∙ all) held in
        let put = ap (sum_by weight) d.put in
        let taken = ap (sum_by weight) d.taken in
        omega (arith, sum_by-append weight before.taken d.items);
  }

  -- what all putters put is what all takers took and what was left
  pub closed : (relay : Relay T) (w u : Tally T) (putters : List (Putter T)) (takers : List (Taker T)) (left : List T) → HasJoinedPutters (view relay.pass) putters w → HasJoinedTakers w takers u → IsLeft u left → IsNothingLost putters takers left
  closed relay w u putters takers left puts takes is_left weight =
      let of : Item T → ℕ = weight_of weight in
      let a = puts.put of in
      let a' = puts.taken of in
      let b = takes.put of in
      let b' = takes.taken of in
      let k = is_left.even of in
      let none = ap (sum_by weight) relay.put in
      let none' = ap (sum_by of) relay.taken in
      let left_is = ap (sum_by weight) is_left.messages_are in
      let put = sum_same (λ (p : Putter T). sum_by of (items_put_by p)) (λ (p : Putter T). sum_by weight (put_by p)) (λ p. messages_weigh weight (items_put_by p)) putters in
      let taken = sum_same (λ (t : Taker T). sum_by of (items_taken_by t)) (λ (t : Taker T). sum_by weight (taken_by t)) (λ t. messages_weigh weight (items_taken_by t)) takers in
      omega (arith, messages_weigh weight (view relay.pass).put, messages_weigh weight is_left.items)
