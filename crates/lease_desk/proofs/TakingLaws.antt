-- A call between taking the message and giving it back.
use Rattle.std.proofs.Common.{◌≡◌, ◌⊎◌, ℕ, ◌+◌, false, List, [], ◌∷◌, ◌++◌, All, length, Option, None, Some, refl, sym, ap, ◌∙◌, subst, inl, inr, arith, length-append}
use Rattle.lease_book.specs.declared.events.Asked.{Asked}
use Rattle.lease_book.specs.declared.events.Event.{Event}
use Rattle.lease_book.specs.Histories.{Terms}
use Rattle.lease_book.specs.Replies.{IsReply, IsLegal}
use Rattle.lease_desk.specs.declared.messages.Message.{Message}
use Rattle.lease_desk.specs.declared.receipts.Receipt.{Receipt}
use Rattle.lease_desk.specs.declared.views.SeenMessage.{SeenMessage}
use Rattle.lease_desk.specs.declared.views.Custody.{Custody}
use Rattle.lease_desk.specs.declared.views.Custody.TheVariants.{Empty}
use Rattle.lease_desk.specs.declared.views.View.{View}
use Rattle.lease_desk.specs.Receipts.{receipt, IsBefore, Stands}
use Rattle.lease_desk.specs.Views.{page_of, page_with, history_on, receipts_on}
use Rattle.lease_desk.specs.Steps.{Took, MayGive, receipts_told, gave}
use Rattle.lease_desk.specs.Entries.{IsEntered, IsAttended}
use Rattle.lease_desk.proofs.ReceiptLaws.{from_own, before_end, stand_from}

module _ (v w : View) (message : Message) (number : ℕ) (took : Took false v message w) (number_is : v.number ≡ Some number) where
  may : (page : SeenMessage) → v.made ≡ None → (page ≡ page_of message) ⊎ ((event : Event) × (page ≡ page_with (page_of message) number event)) → MayGive w page
  may page no_usher next = record {
    held = page_of message;
    number = number;
    has = ap (λ (u : View). u.custody) took.holds;
    number_is = ap (λ (u : View). u.number) took.holds ∙ number_is;
    no_usher = ap (λ (u : View). u.made) took.holds ∙ no_usher;
    next = next;
  }

  pub may_entered : (page : SeenMessage) (asked : Asked) (told : Receipt) → v.made ≡ None → IsEntered (page_of message) page number asked told → MayGive w page
  may_entered page asked told no_usher entered = may page no_usher (inr (told.event, entered.page_is))

  pub may_same : (page : SeenMessage) → v.made ≡ None → page ≡ page_of message → MayGive w page
  may_same page no_usher same = may page no_usher (inl same)

  -- what a chair knows once the message is given back
  given : (page : SeenMessage) (u : View) (receipts : List Receipt) → v.custody ≡ Empty → u ≡ gave w page → receipts_on page number ≡ receipts
      → u ≡ record { number = v.number; receipts = receipts; made = v.made; opening = v.opening; custody = v.custody; told = v.told }
  given page u receipts empty back are =
      let told_is : receipts_told v.number page v.receipts ≡ receipts = ap (λ (o : Option ℕ). receipts_told o page v.receipts) number_is ∙ are in
      back ∙ ap (λ (x : View). gave x page) took.holds
      ∙ ap (λ (y : List Receipt × Custody). record { number = v.number; receipts = y.0; made = v.made; opening = v.opening; custody = y.1; told = v.told }) (λ i. (told_is i, sym empty i))

  pub attended : (page : SeenMessage) (u : View) (asked : Asked) (told : Receipt) → v.custody ≡ Empty → u ≡ gave w page → IsEntered (page_of message) page number asked told → IsAttended v u asked told
  attended page u asked told empty back entered =
      let old : SeenMessage = page_of message in
      let before : v.receipts ≡ receipts_on old number = took.learned.chair number number_is in
      let long = length-append old.before old.book.events in
      let at : length old.before + length old.book.events ≡ told.place = omega (arith, entered.place_is) in
      let after : receipts_on page number ≡ v.receipts ++ told ∷ [] =
      ap (λ (p : SeenMessage). receipts_on p number) entered.page_is
      ∙ from_own number (length old.before) old.makers old.book.events told.event took.learned.even
      ∙ ap (λ (y : List Receipt × ℕ). y.0 ++ receipt y.1 told.event ∷ []) (λ i. (sym before i, at i)) in
      record {
        asked_is = entered.asked_is;
        named = λ opening e. record {
          earlier = history_on old;
          legal = subst (λ (t : Terms). IsLegal t (history_on old)) (sym (took.learned.opened opening e).terms) entered.legal;
          stand = subst (λ (l : List Receipt). All (Stands (history_on old)) l) (sym before) (stand_from (history_on old) number old.before old.makers old.book.events refl);
          place_is = entered.place_is;
          reply_is = subst (λ (t : Terms). IsReply t (history_on old) asked told.event.reply) (sym (took.learned.opened opening e).terms) entered.reply_is;
        };
        knows = given page u (v.receipts ++ told ∷ []) empty back after;
        later = subst (λ (l : List Receipt). All (IsBefore told.place) l) (sym before) (before_end told.place number (length old.before) old.makers old.book.events (omega (arith, entered.place_is)));
      }
