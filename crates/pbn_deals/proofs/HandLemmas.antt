-- The four hands, read word by word.
use Rattle.std.proofs.Common.{◌≡◌, ℕ, suc, Bool, true, false, List, [], ◌∷◌, ◌++◌, map, Option, Some, None, refl, sym, ◌∙◌, ap, subst, ◌||◌}
use Rattle.std.specs.List.{list_any}
use Rattle.std.proofs.lemmas.List.{append-nil}
use Rattle.cards.specs.declared.seats.Seat.{Seat}
use Rattle.cards.specs.declared.pack.Card.{Card}
use Rattle.cards.specs.Seats.{next_of}
use Rattle.pbn_deals.specs.declared.dealings.Dealing.{Dealing}
use Rattle.pbn_deals.specs.Dealing.{Holding, held_by}
use Rattle.pbn_deals.specs.DealValue.{put_all, in_hand, hand_cards, hands_held, seats_from, is_unknown, words_of, naming_from, naming_with}
use Rattle.pbn_deals.specs.Words.{Represents, ReadsHand, ReadsNaming}
use Rattle.pbn_deals.proofs.GroupLemmas.{put_all-twice}

-- what was put so far, and what is left, is what the whole text says
pub record HandsRead (dealing : Dealing) (seat : Seat) (left : ℕ) (words whole_words : List (List ℕ)) (first : Seat) : Type 0 where
  pub held : List Holding
  pub represents : Represents dealing held
  pub so_far : put_all (Some held) (hands_held (seats_from left seat) words) ≡ hands_held (seats_from 4 first) whole_words
  pub partial : (dealing.is_partial || list_any is_unknown words) ≡ list_any is_unknown whole_words

or_assoc : (a b c : Bool) → ((a || b) || c) ≡ (a || (b || c))
or_assoc true b c = refl
or_assoc false b c = refl

or_false : (a : Bool) → (a || false) ≡ a
or_false true = refl
or_false false = refl

add_hand-step : (named : Option (List Card)) (seat : Seat) (held : List Holding) (others whole : Option (List Holding)) (old new : Dealing) → Represents old held → ReadsHand true named seat old new → put_all (Some held) (put_all (in_hand seat named) others) ≡ whole → (held' : List Holding) × Represents new held' × (put_all (Some held') others ≡ whole)
add_hand-step (Some cards) seat held others whole old new rep reads e =
    (held ++ map (held_by seat) cards, reads held rep, sym (put_all-twice held (map (held_by seat) cards) others) ∙ e)
add_hand-step None seat held others whole old new rep reads e = absurd reads

module _ (old : Dealing) (seat first : Seat) (whole_words : List (List ℕ)) where
  pub HandsRead-more : (new : Dealing) (left next_left : ℕ) (word : List ℕ) (words rest_words : List (List ℕ)) → HandsRead old seat left words whole_words first → left ≡ suc next_left → words ≡ word ∷ rest_words → ReadsHand true (hand_cards word) seat old new → new.is_partial ≡ (old.is_partial || is_unknown word) → HandsRead new (next_of seat) next_left rest_words whole_words first
  HandsRead-more new left next_left word words rest_words reads l e hand p =
      let so_far : put_all (Some reads.held) (put_all (in_hand seat (hand_cards word)) (hands_held (seats_from next_left (next_of seat)) rest_words)) ≡ hands_held (seats_from 4 first) whole_words =
      ap (λ n. put_all (Some reads.held) (hands_held (seats_from n seat) (word ∷ rest_words))) (sym l)
      ∙ (ap (λ w. put_all (Some reads.held) (hands_held (seats_from left seat) w)) (sym e) ∙ reads.so_far) in
      let step = add_hand-step (hand_cards word) seat reads.held (hands_held (seats_from next_left (next_of seat)) rest_words) (hands_held (seats_from 4 first) whole_words) old new reads.represents hand so_far in
      record {
        held = step.0;
        represents = step.1;
        so_far = step.2;
        partial = ap (λ b. b || list_any is_unknown rest_words) p ∙ (or_assoc old.is_partial (is_unknown word) (list_any is_unknown rest_words)
            ∙ (ap (λ w. old.is_partial || list_any is_unknown w) (sym e) ∙ reads.partial));
      }

  none_from : (text : List ℕ) → whole_words ≡ words_of text → hands_held (seats_from 4 first) whole_words ≡ None → ReadsNaming None (naming_from (Some first) text)
  none_from text e none = subst (λ x. ReadsNaming None x) (sym (ap (λ w. naming_with (hands_held (seats_from 4 first) w) (list_any is_unknown w)) (sym e) ∙ ap (λ h. naming_with h (list_any is_unknown whole_words)) none)) tt

  -- a hand too few
  pub HandsRead-few : (left next_left : ℕ) (words : List (List ℕ)) (text : List ℕ) → whole_words ≡ words_of text → HandsRead old seat left words whole_words first → left ≡ suc next_left → words ≡ [] → ReadsNaming None (naming_from (Some first) text)
  HandsRead-few left next_left words text t reads l e =
      none_from text t (sym reads.so_far ∙ (ap (λ n. put_all (Some reads.held) (hands_held (seats_from n seat) words)) l ∙ ap (λ w. put_all (Some reads.held) (hands_held (seats_from (suc next_left) seat) w)) e))

  -- a hand that is not of the form
  pub HandsRead-bad : (new : Dealing) (left next_left : ℕ) (word : List ℕ) (words rest_words : List (List ℕ)) (text : List ℕ) → whole_words ≡ words_of text → HandsRead old seat left words whole_words first → left ≡ suc next_left → words ≡ word ∷ rest_words → ReadsHand false (hand_cards word) seat old new → ReadsNaming None (naming_from (Some first) text)
  HandsRead-bad new left next_left word words rest_words text t reads l e hand =
      let bad : hand_cards word ≡ None = not_named (hand_cards word) hand in
      none_from text t (sym reads.so_far
      ∙ (ap (λ n. put_all (Some reads.held) (hands_held (seats_from n seat) words)) l
      ∙ (ap (λ w. put_all (Some reads.held) (hands_held (seats_from (suc next_left) seat) w)) e
      ∙ ap (λ c. put_all (Some reads.held) (put_all (in_hand seat c) (hands_held (seats_from next_left (next_of seat)) rest_words))) bad)))
    where
      not_named : (named : Option (List Card)) → ReadsHand false named seat old new → named ≡ None
      not_named (Some cards) h = absurd h
      not_named None h = refl

  -- a hand too many
  pub HandsRead-many : (word : List ℕ) (words rest_words : List (List ℕ)) (text : List ℕ) → whole_words ≡ words_of text → HandsRead old seat 0 words whole_words first → words ≡ word ∷ rest_words → ReadsNaming None (naming_from (Some first) text)
  HandsRead-many word words rest_words text t reads e =
      none_from text t (sym reads.so_far ∙ ap (λ w. put_all (Some reads.held) (hands_held [] w)) e)

  -- four hands
  pub HandsRead-all : (words : List (List ℕ)) (text : List ℕ) → whole_words ≡ words_of text → HandsRead old seat 0 words whole_words first → words ≡ [] → ReadsNaming (Some old) (naming_from (Some first) text)
  HandsRead-all words text t reads e =
      let held : hands_held (seats_from 4 first) whole_words ≡ Some reads.held =
      sym reads.so_far ∙ (ap (λ w. put_all (Some reads.held) (hands_held [] w)) e ∙ ap Some (append-nil reads.held)) in
      let partial : list_any is_unknown whole_words ≡ old.is_partial =
      sym reads.partial ∙ (ap (λ w. old.is_partial || list_any is_unknown w) e ∙ or_false old.is_partial) in
      let said : naming_from (Some first) text ≡ Some (record { held = reads.held; is_partial = old.is_partial }) =
      ap (λ w. naming_with (hands_held (seats_from 4 first) w) (list_any is_unknown w)) (sym t)
      ∙ (ap (λ h. naming_with h (list_any is_unknown whole_words)) held ∙ ap (λ b. naming_with (Some reads.held) b) partial) in
      subst (λ x. ReadsNaming (Some old) x) (sym said) (reads.represents, refl)
