-- The groups of a hand, read byte by byte.
use Rattle.std.proofs.Common.{◌≡◌, ℕ, zero, suc, ◌+◌, ◌<◌, Bool, true, false, List, [], ◌∷◌, ◌++◌, drop, map, Option, Some, None, refl, sym, ◌∙◌, ap, subst, arith, append_assoc, eqb}
use Rattle.std.specs.List.{slice_split, onto_first}
use Rattle.std.proofs.lemmas.List.{append-nil, map_push}
use Rattle.std.proofs.lemmas.List.Splits.{slice_split-cons_yes, slice_split-cons_no}
use Rattle.cards.specs.declared.suits.Suit.{Suit}
use Rattle.cards.specs.declared.pack.Rank.{Rank}
use Rattle.cards.specs.declared.pack.Card.{Card}
use Rattle.cards.specs.Pack.{suit_at, card_of}
use Rattle.cards.specs.declared.seats.Seat.{Seat}
use Rattle.pbn_deals.specs.declared.dealings.Dealing.{Dealing}
use Rattle.pbn_deals.specs.Dealing.{Holding, held_by}
use Rattle.pbn_deals.specs.Words.{Represents, AddsCards, ReadsHand}
use Rattle.pbn_deals.specs.Letters.{is_dot, rank_of_letter}
use Rattle.pbn_deals.specs.DealValue.{put_card, put_all, group_cards, groups_cards, suits_in_order}

-- the groups of a text
abbrev pub groups_of : List ℕ → List (List ℕ)
groups_of text = slice_split is_dot text

pub put_all-nil : {A : Type 0} → (x : Option (List A)) → put_all (Some []) x ≡ x
put_all-nil (Some xs) = refl
put_all-nil None = refl

pub put_all-twice : {A : Type 0} → (xs ys : List A) (x : Option (List A)) → put_all (Some xs) (put_all (Some ys) x) ≡ put_all (Some (xs ++ ys)) x
put_all-twice xs ys (Some zs) = ap Some (sym (append_assoc xs ys zs))
put_all-twice xs ys None = refl

-- a text has a group
some_group : (text : List ℕ) → (group : List ℕ) × (groups : List (List ℕ)) × (groups_of text ≡ group ∷ groups)
some_group [] = ([], [], refl)
some_group (byte ∷ bytes) = go (is_dot byte) refl where
  onto : (parts : List (List ℕ)) → (group : List ℕ) × (groups : List (List ℕ)) × (onto_first byte parts ≡ group ∷ groups)
  onto [] = (byte ∷ [], [], refl)
  onto (part ∷ parts) = (byte ∷ part, parts, refl)

  go : (b : Bool) → is_dot byte ≡ b → (group : List ℕ) × (groups : List (List ℕ)) × (groups_of (byte ∷ bytes) ≡ group ∷ groups)
  go true e = ([], groups_of bytes, slice_split-cons_yes is_dot byte bytes e)
  go false e = let found = onto (groups_of bytes) in (found.0, found.1, slice_split-cons_no is_dot byte bytes e ∙ found.2)

-- no group is left for a text after the last suit
groups_cards-past : (text : List ℕ) → groups_cards [] (groups_of text) ≡ None
groups_cards-past text = let found = some_group text in ap (groups_cards []) found.2

-- a dot ends the group
groups_cards-dot : (suit : Suit) (suits : List Suit) (byte : ℕ) (bytes : List ℕ) → is_dot byte ≡ true → groups_cards (suit ∷ suits) (groups_of (byte ∷ bytes)) ≡ groups_cards suits (groups_of bytes)
groups_cards-dot suit suits byte bytes e = ap (groups_cards (suit ∷ suits)) (slice_split-cons_yes is_dot byte bytes e) ∙ put_all-nil (groups_cards suits (groups_of bytes))

put_card-first : (suit : Suit) (rank : Rank) (x y : Option (List Card)) → put_all (put_card suit (Some rank) x) y ≡ put_all (Some (card_of suit rank ∷ [])) (put_all x y)
put_card-first suit rank (Some xs) (Some ys) = refl
put_card-first suit rank (Some xs) None = refl
put_card-first suit rank None y = refl

-- a letter names a card of the suit
groups_cards-letter : (suit : Suit) (suits : List Suit) (byte : ℕ) (bytes : List ℕ) (rank : Rank) → is_dot byte ≡ false → rank_of_letter byte ≡ Some rank → groups_cards (suit ∷ suits) (groups_of (byte ∷ bytes)) ≡ put_all (Some (card_of suit rank ∷ [])) (groups_cards (suit ∷ suits) (groups_of bytes))
groups_cards-letter suit suits byte bytes rank e r =
    let found = some_group bytes in
    ap (groups_cards (suit ∷ suits)) (slice_split-cons_no is_dot byte bytes e ∙ ap (onto_first byte) found.2)
    ∙ (ap (λ x. put_all (put_card suit x (group_cards suit found.0)) (groups_cards suits found.1)) r
    ∙ (put_card-first suit rank (group_cards suit found.0) (groups_cards suits found.1)
    ∙ ap (λ x. put_all (Some (card_of suit rank ∷ [])) (groups_cards (suit ∷ suits) x)) (sym found.2)))

-- no other byte stands in a group
groups_cards-stray : (suit : Suit) (suits : List Suit) (byte : ℕ) (bytes : List ℕ) → is_dot byte ≡ false → rank_of_letter byte ≡ None → groups_cards (suit ∷ suits) (groups_of (byte ∷ bytes)) ≡ None
groups_cards-stray suit suits byte bytes e r =
    let found = some_group bytes in
    ap (groups_cards (suit ∷ suits)) (slice_split-cons_no is_dot byte bytes e ∙ ap (onto_first byte) found.2)
    ∙ ap (λ x. put_all (put_card suit x (group_cards suit found.0)) (groups_cards suits found.1)) r

-- the groups from the suit with this number on
abbrev pub cards_from : ℕ → List ℕ → Option (List Card)
cards_from n text = groups_cards (drop n suits_in_order) (groups_of text)

suits_from : (n : ℕ) → n < 4 → drop n suits_in_order ≡ suit_at n ∷ drop (n + 1) suits_in_order
suits_from zero h = refl
suits_from (suc zero) h = refl
suits_from (suc (suc zero)) h = refl
suits_from (suc (suc (suc zero))) h = refl
suits_from (suc (suc (suc (suc n)))) h = absurd (omega arith)

pub cards_from-dot : (n byte : ℕ) (bytes : List ℕ) → n < 4 → is_dot byte ≡ true → cards_from n (byte ∷ bytes) ≡ cards_from (n + 1) bytes
cards_from-dot n byte bytes h e =
    ap (λ s. groups_cards s (groups_of (byte ∷ bytes))) (suits_from n h) ∙ groups_cards-dot (suit_at n) (drop (n + 1) suits_in_order) byte bytes e

pub cards_from-past : (bytes : List ℕ) → cards_from 4 bytes ≡ None
cards_from-past bytes = groups_cards-past bytes

pub cards_from-letter : (n byte : ℕ) (bytes : List ℕ) (rank : Rank) → n < 4 → is_dot byte ≡ false → rank_of_letter byte ≡ Some rank → cards_from n (byte ∷ bytes) ≡ put_all (Some (card_of (suit_at n) rank ∷ [])) (cards_from n bytes)
cards_from-letter n byte bytes rank h e r =
    ap (λ s. groups_cards s (groups_of (byte ∷ bytes))) (suits_from n h)
    ∙ (groups_cards-letter (suit_at n) (drop (n + 1) suits_in_order) byte bytes rank e r
    ∙ ap (λ s. put_all (Some (card_of (suit_at n) rank ∷ [])) (groups_cards s (groups_of bytes))) (sym (suits_from n h)))

pub cards_from-stray : (n byte : ℕ) (bytes : List ℕ) → n < 4 → is_dot byte ≡ false → rank_of_letter byte ≡ None → cards_from n (byte ∷ bytes) ≡ None
cards_from-stray n byte bytes h e r =
    ap (λ s. groups_cards s (groups_of (byte ∷ bytes))) (suits_from n h) ∙ groups_cards-stray (suit_at n) (drop (n + 1) suits_in_order) byte bytes e r

-- ---- what was put so far
pub reads_none : (named : Option (List Card)) (seat : Seat) (old new : Dealing) → named ≡ None → ReadsHand false named seat old new
reads_none (Some cards) seat old new e = absurd (cc)
reads_none None seat old new e = tt

pub reads_some : (named : Option (List Card)) (cards : List Card) (seat : Seat) (old new : Dealing) → named ≡ Some cards → AddsCards old new seat cards → ReadsHand true named seat old new
reads_some (Some others) cards seat old new e puts = let same : others ≡ cards = cc in subst (λ x. AddsCards old new seat x) (sym same) puts
reads_some None cards seat old new e puts = absurd (cc)

pub puts_none : (old : Dealing) (seat : Seat) → AddsCards old old seat []
puts_none old seat = λ held r. rw append-nil r

pub puts_more : (old mid new : Dealing) (seat : Seat) (cards : List Card) (card : Card) → AddsCards old mid seat cards → ((held : List Holding) → Represents mid held → Represents new (held ++ held_by seat card ∷ [])) → AddsCards old new seat (cards ++ card ∷ [])
puts_more old mid new seat cards card puts adds = λ held r.
    let same : (held ++ map (held_by seat) cards) ++ held_by seat card ∷ [] ≡ held ++ map (held_by seat) (cards ++ card ∷ []) =
    append_assoc held (map (held_by seat) cards) (held_by seat card ∷ []) ∙ ap (λ x. held ++ x) (sym (map_push (held_by seat) cards card)) in
    subst (Represents new) same (adds (held ++ map (held_by seat) cards) (puts held r))

pub reads_at_end : (n : ℕ) (cards : List Card) (named : Option (List Card)) (seat : Seat) (old new : Dealing) → n < 4 → put_all (Some cards) (cards_from n []) ≡ named → AddsCards old new seat cards → ReadsHand (eqb n 3) named seat old new
reads_at_end zero cards named seat old new h e puts = reads_none named seat old new (sym e)
reads_at_end (suc zero) cards named seat old new h e puts = reads_none named seat old new (sym e)
reads_at_end (suc (suc zero)) cards named seat old new h e puts = reads_none named seat old new (sym e)
reads_at_end (suc (suc (suc zero))) cards named seat old new h e puts = reads_some named cards seat old new (sym e ∙ ap Some (append-nil cards)) puts
reads_at_end (suc (suc (suc (suc n)))) cards named seat old new h e puts = absurd (omega arith)
