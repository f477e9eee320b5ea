-- Six letters are enough to know what a line says.
use Rattle.std.proofs.Common.{◌≡◌, ℕ, ◌<◌, ◌≤◌, List, [], ◌∷◌, ◌++◌, length, take, Option, None, Some, refl, sym, ◌∙◌, ap, subst, arith, length-append, inl, inr}
use Rattle.std.specs.Prelude.{MatchOption}
use Rattle.std.proofs.lemmas.List.{take_all, take_at, length-take}
use Rattle.cards.specs.declared.suits.Suit.{Suit}
use Rattle.cards.specs.declared.suits.Suit.TheVariants.{Spades, Hearts, Diamonds, Clubs}
use Rattle.cards.specs.declared.pack.Rank.{Rank}
use Rattle.cards.specs.declared.pack.Rank.TheVariants.{Two, Three, Four, Five, Six, Seven, Eight, Nine, Ten, Jack, Queen, King, Ace}
use Rattle.cards.specs.declared.pack.Card.{Card}
use Rattle.cards.specs.Pack.{suit_letter, rank_letter}
use Rattle.play_dialogues.specs.declared.words.Typed.{Typed}
use Rattle.play_dialogues.specs.declared.words.Typed.TheVariants as typed
use Rattle.play_dialogues.specs.Words.{NamesRank, NamesBySuit, NamesByRank, NamesCard, Says}

length-suit_letter : (suit : Suit) → length (suit_letter suit) ≡ 1
length-suit_letter Spades = refl
length-suit_letter Hearts = refl
length-suit_letter Diamonds = refl
length-suit_letter Clubs = refl

length-rank_letter : (rank : Rank) → length (rank_letter rank) ≡ 1
length-rank_letter Two = refl
length-rank_letter Three = refl
length-rank_letter Four = refl
length-rank_letter Five = refl
length-rank_letter Six = refl
length-rank_letter Seven = refl
length-rank_letter Eight = refl
length-rank_letter Nine = refl
length-rank_letter Ten = refl
length-rank_letter Jack = refl
length-rank_letter Queen = refl
length-rank_letter King = refl
length-rank_letter Ace = refl

rank_is_short : (letters : List ℕ) (rank : Rank) → NamesRank letters rank → length letters ≤ 2
rank_is_short letters rank (inl is) = omega (arith, ap length is, length-rank_letter rank)
rank_is_short letters rank (inr ten) = omega (arith, ap length ten.1)

-- a short word is all of the letters where it is their beginning
short_is_all : (letters word : List ℕ) → length word < 6 → take 6 letters ≡ word → letters ≡ word
short_is_all letters word short is =
    sym (take_all 6 letters (omega (arith, short, ap length is, length-take 6 letters))) ∙ is

-- and their beginning where it is all
all_is_short : (letters word : List ℕ) → length word < 6 → letters ≡ word → take 6 letters ≡ word
all_is_short letters word short is = ap (take 6) is ∙ take_all 6 word (omega (arith, short))

by_suit_is_short : (rank : List ℕ) (card : Card) → NamesRank rank card.rank → length (suit_letter card.suit ++ rank) < 6
by_suit_is_short rank card names =
    omega (arith, length-append (suit_letter card.suit) rank, length-suit_letter card.suit, rank_is_short rank card.rank names)

by_rank_is_short : (rank : List ℕ) (card : Card) → NamesRank rank card.rank → length (rank ++ suit_letter card.suit) < 6
by_rank_is_short rank card names =
    omega (arith, length-append rank (suit_letter card.suit), length-suit_letter card.suit, rank_is_short rank card.rank names)

pub card_of_all : (letters : List ℕ) (card : Card) → NamesCard (take 6 letters) card → NamesCard letters card
card_of_all letters card (inl names) =
    inl (names.0, names.1, short_is_all letters _ (by_suit_is_short names.0 card names.1) names.2)
card_of_all letters card (inr names) =
    inr (names.0, names.1, short_is_all letters _ (by_rank_is_short names.0 card names.1) names.2)

pub card_of_six : (letters : List ℕ) (card : Card) → NamesCard letters card → NamesCard (take 6 letters) card
card_of_six letters card (inl names) =
    inl (names.0, names.1, all_is_short letters _ (by_suit_is_short names.0 card names.1) names.2)
card_of_six letters card (inr names) =
    inr (names.0, names.1, all_is_short letters _ (by_rank_is_short names.0 card names.1) names.2)

pub says_all : (letters : List ℕ) (typed : Typed) → Says (take 6 letters) typed → Says letters typed
says_all letters (typed.Card card) says = card_of_all letters card says
says_all letters typed.Empty says = short_is_all letters _ (omega arith) says
says_all letters typed.Undo says = short_is_all letters _ (omega arith) says
says_all letters typed.Hands says = short_is_all letters _ (omega arith) says
says_all letters typed.Quit says = short_is_all letters _ (omega arith) says
says_all letters typed.Unknown says = record {
  some = λ is. says.some (all_is_short letters _ (omega arith) is);
  no_card = λ card names. says.no_card card (card_of_six letters card names);
  not_undo = λ is. says.not_undo (all_is_short letters _ (omega arith) is);
  not_hands = λ is. says.not_hands (all_is_short letters _ (omega arith) is);
  not_quit = λ is. says.not_quit (all_is_short letters _ (omega arith) is);
}

append_last : (xs ys : List ℕ) (x y : ℕ) → xs ++ x ∷ [] ≡ ys ++ y ∷ [] → xs ≡ ys
append_last xs ys x y is =
    let same : length xs ≡ length ys = omega (arith, ap length is, length-append xs (x ∷ []), length-append ys (y ∷ [])) in
    sym (take_at xs (x ∷ []) (length xs) refl)
    ∙ (ap (take (length xs)) is ∙ take_at ys (y ∷ []) (length xs) (sym same))

-- ---- what stands behind a suit, and before it
behind_suit : (suit : Suit) (first : ℕ) (rest rank : List ℕ) → first ∷ rest ≡ suit_letter suit ++ rank → rank ≡ rest
behind_suit Spades first rest rank is = cc
behind_suit Hearts first rest rank is = cc
behind_suit Diamonds first rest rank is = cc
behind_suit Clubs first rest rank is = cc

before_suit : (suit : Suit) (last : ℕ) (rest rank : List ℕ) → rest ++ last ∷ [] ≡ rank ++ suit_letter suit → rank ≡ rest
before_suit Spades last rest rank is = sym (append_last rest rank last _ is)
before_suit Hearts last rest rank is = sym (append_last rest rank last _ is)
before_suit Diamonds last rest rank is = sym (append_last rest rank last _ is)
before_suit Clubs last rest rank is = sym (append_last rest rank last _ is)

pub no_rank_behind : (letters : List ℕ) (first : ℕ) (rest : List ℕ) → letters ≡ first ∷ rest →
    ((rank : Rank) → NamesRank rest rank → ⊥) → (card : Card) → NamesBySuit letters card → ⊥
no_rank_behind letters first rest is none card names =
    none card.rank
    (subst (λ (l : List ℕ). NamesRank l card.rank) (behind_suit card.suit first rest names.0 (sym is ∙ names.2)) names.1)

pub no_rank_before : (letters : List ℕ) (last : ℕ) (rest : List ℕ) → letters ≡ rest ++ last ∷ [] →
    ((rank : Rank) → NamesRank rest rank → ⊥) → (card : Card) → NamesByRank letters card → ⊥
no_rank_before letters last rest is none card names =
    none card.rank
    (subst (λ (l : List ℕ). NamesRank l card.rank) (before_suit card.suit last rest names.0 (sym is ∙ names.2)) names.1)

-- a card that isn't named in one way is named as in the other
pub named_otherwise : (letters : List ℕ) (found : Option Card) →
    ((card : Card) → NamesBySuit letters card → ⊥) →
    MatchOption found ((card : Card) → NamesByRank letters card → ⊥) (λ card. NamesByRank letters card) →
    MatchOption found ((card : Card) → NamesCard letters card → ⊥) (λ card. NamesCard letters card)
named_otherwise letters None none none' = λ card names. elim names [ inl by_suit ↦ none card by_suit | inr by_rank ↦ none' card by_rank ]
named_otherwise letters (Some card) none names = inr names
