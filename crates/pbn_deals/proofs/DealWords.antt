-- The text of a deal, cut at its blanks and dots.
use Rattle.std.proofs.Common.{◌≡◌, ◌≢◌, ℕ, Bool, true, false, cond, eqb, List, [], ◌∷◌, ◌++◌, map, Option, Some, refl, sym, ◌∙◌, ap, subst}
use Rattle.std.specs.Prelude.{if◌then◌else◌, filter}
use Rattle.std.specs.List.{slice_split, AllByRecursion, All, flat_map, list_any}
use Rattle.std.proofs.lemmas.List.Elements.{All-from_recursion, All-nil, All-cons, All-append, All-weaker}
use Rattle.std.proofs.lemmas.List.Splits.{slice_split_at, slice_split_none}
use Rattle.std.proofs.lemmas.Bool.{eqb-false}
use Rattle.cards.specs.declared.suits.Suit.{Suit}
use Rattle.cards.specs.declared.suits.Suit.TheVariants.{Spades, Hearts, Diamonds, Clubs}
use Rattle.cards.specs.declared.seats.Seat.{Seat}
use Rattle.cards.specs.declared.seats.Seat.TheVariants.{North, East, South, West}
use Rattle.cards.specs.declared.pack.Card.{Card}
use Rattle.cards.specs.declared.pack.Rank.{Rank}
use Rattle.cards.specs.declared.pack.Rank.TheVariants.{Two, Three, Four, Five, Six, Seven, Eight, Nine, Ten, Jack, Queen, King, Ace}
use Rattle.cards.specs.Pack.{rank_letter, card_of}
use Rattle.cards.specs.Deal.{Deal, holder_of, is_held_by}
use Rattle.pbn_deals.specs.Letters.{is_blank, is_dot}
use Rattle.pbn_deals.specs.Dealing.{Holding, held_by}
use Rattle.pbn_deals.specs.DealValue.{naming_of, naming_with, words_of, is_word, put_card, put_all, group_cards, groups_cards, suits_in_order, is_unknown, hand_cards, in_hand, hands_held, full}
use Rattle.pbn_deals.specs.DealText.{ranks_falling, group_text, hand_text, deal_text}

-- whether the seat holds the suit's card of a rank
abbrev pub held : Deal → Seat → Suit → Rank → Bool
held deal seat suit rank = is_held_by seat (holder_of deal (card_of suit rank))

-- the seat's cards in a suit, as they are printed
unfoldable pub suit_cards : Deal → Seat → Suit → List Card
suit_cards deal seat suit = map (card_of suit) (filter (held deal seat suit) ranks_falling)

-- the seat's cards
abbrev pub hand_of : Deal → Seat → List Card
hand_of deal seat = suit_cards deal seat Spades ++ (suit_cards deal seat Hearts ++ (suit_cards deal seat Diamonds ++ (suit_cards deal seat Clubs ++ [])))

-- the cards of the four seats
abbrev pub held_of : Deal → List Holding
held_of deal = map (held_by North) (hand_of deal North) ++ (map (held_by East) (hand_of deal East) ++ (map (held_by South) (hand_of deal South) ++ (map (held_by West) (hand_of deal West) ++ [])))

pub for_each_rank : (P : Rank → Type 0) → P Two → P Three → P Four → P Five → P Six → P Seven → P Eight → P Nine → P Ten → P Jack → P Queen → P King → P Ace → (rank : Rank) → P rank
for_each_rank P a b c d e f g h i j k l m Two = a
for_each_rank P a b c d e f g h i j k l m Three = b
for_each_rank P a b c d e f g h i j k l m Four = c
for_each_rank P a b c d e f g h i j k l m Five = d
for_each_rank P a b c d e f g h i j k l m Six = e
for_each_rank P a b c d e f g h i j k l m Seven = f
for_each_rank P a b c d e f g h i j k l m Eight = g
for_each_rank P a b c d e f g h i j k l m Nine = h
for_each_rank P a b c d e f g h i j k l m Ten = i
for_each_rank P a b c d e f g h i j k l m Jack = j
for_each_rank P a b c d e f g h i j k l m Queen = k
for_each_rank P a b c d e f g h i j k l m King = l
for_each_rank P a b c d e f g h i j k l m Ace = m

-- ---- a group
-- the letters of the ranks that pass
letters : (Rank → Bool) → List Rank → List ℕ
letters h ranks = flat_map (λ rank. if h rank then rank_letter rank else []) ranks

letter_step : (suit : Suit) (text : List ℕ) (cards : List Card) → group_cards suit text ≡ Some cards → (rank : Rank) → group_cards suit (rank_letter rank ++ text) ≡ Some (card_of suit rank ∷ cards)
letter_step suit text cards e Two = ap (put_card suit (Some Two)) e
letter_step suit text cards e Three = ap (put_card suit (Some Three)) e
letter_step suit text cards e Four = ap (put_card suit (Some Four)) e
letter_step suit text cards e Five = ap (put_card suit (Some Five)) e
letter_step suit text cards e Six = ap (put_card suit (Some Six)) e
letter_step suit text cards e Seven = ap (put_card suit (Some Seven)) e
letter_step suit text cards e Eight = ap (put_card suit (Some Eight)) e
letter_step suit text cards e Nine = ap (put_card suit (Some Nine)) e
letter_step suit text cards e Ten = ap (put_card suit (Some Ten)) e
letter_step suit text cards e Jack = ap (put_card suit (Some Jack)) e
letter_step suit text cards e Queen = ap (put_card suit (Some Queen)) e
letter_step suit text cards e King = ap (put_card suit (Some King)) e
letter_step suit text cards e Ace = ap (put_card suit (Some Ace)) e

letters-named : (suit : Suit) (h : Rank → Bool) (ranks : List Rank) → group_cards suit (letters h ranks) ≡ Some (map (card_of suit) (filter h ranks))
unfolding letters
letters-named suit h [] = refl
letters-named suit h (rank ∷ ranks) = go (letters-named suit h ranks) (h rank)
  where
    go : group_cards suit (letters h ranks) ≡ Some (map (card_of suit) (filter h ranks)) → (b : Bool) → group_cards suit ((if b then rank_letter rank else []) ++ letters h ranks) ≡ Some (map (card_of suit) (cond b (rank ∷ filter h ranks) (filter h ranks)))
    go more true = letter_step suit (letters h ranks) (map (card_of suit) (filter h ranks)) more rank
    go more false = more

pub group-named : (deal : Deal) (seat : Seat) (suit : Suit) → group_cards suit (group_text deal seat suit) ≡ Some (suit_cards deal seat suit)
unfolding group_text suit_cards letters
group-named deal seat suit = letters-named suit (held deal seat suit) ranks_falling

-- ---- bytes that a test refuses
abbrev pub Fails : (ℕ → Bool) → List ℕ → Type 0
Fails p text = All (λ byte. p byte ≡ false) text

abbrev pub FailsLetters : (ℕ → Bool) → Type 0
FailsLetters p = (rank : Rank) → AllByRecursion (λ byte. p byte ≡ false) (rank_letter rank)

letters-fail : (p : ℕ → Bool) → FailsLetters p → (h : Rank → Bool) (ranks : List Rank) → Fails p (letters h ranks)
unfolding letters
letters-fail p each h [] = All-nil (λ byte. p byte ≡ false)
letters-fail p each h (rank ∷ ranks) = All-append (λ byte. p byte ≡ false) (if h rank then rank_letter rank else []) (letters h ranks) (go (h rank)) (letters-fail p each h ranks)
  where
    go : (b : Bool) → Fails p (if b then rank_letter rank else [])
    go true = All-from_recursion (λ byte. p byte ≡ false) (rank_letter rank) (each rank)
    go false = All-nil (λ byte. p byte ≡ false)

pub group-fails : (p : ℕ → Bool) → FailsLetters p → (deal : Deal) (seat : Seat) (suit : Suit) → Fails p (group_text deal seat suit)
unfolding group_text letters
group-fails p each deal seat suit = letters-fail p each (held deal seat suit) ranks_falling

no_dot : FailsLetters is_dot
no_dot = for_each_rank (λ rank. AllByRecursion (λ byte. is_dot byte ≡ false) (rank_letter rank)) (refl, tt) (refl, tt) (refl, tt) (refl, tt) (refl, tt) (refl, tt) (refl, tt) (refl, tt) (refl, tt) (refl, tt) (refl, tt) (refl, tt) (refl, tt)

no_blank : FailsLetters is_blank
no_blank = for_each_rank (λ rank. AllByRecursion (λ byte. is_blank byte ≡ false) (rank_letter rank)) (refl, tt) (refl, tt) (refl, tt) (refl, tt) (refl, tt) (refl, tt) (refl, tt) (refl, tt) (refl, tt) (refl, tt) (refl, tt) (refl, tt) (refl, tt)

no_feed : FailsLetters (λ byte. eqb byte 10)
no_feed = for_each_rank (λ rank. AllByRecursion (λ byte. eqb byte 10 ≡ false) (rank_letter rank)) (refl, tt) (refl, tt) (refl, tt) (refl, tt) (refl, tt) (refl, tt) (refl, tt) (refl, tt) (refl, tt) (refl, tt) (refl, tt) (refl, tt) (refl, tt)

no_quote : FailsLetters (λ byte. eqb byte 34)
no_quote = for_each_rank (λ rank. AllByRecursion (λ byte. eqb byte 34 ≡ false) (rank_letter rank)) (refl, tt) (refl, tt) (refl, tt) (refl, tt) (refl, tt) (refl, tt) (refl, tt) (refl, tt) (refl, tt) (refl, tt) (refl, tt) (refl, tt) (refl, tt)

-- ---- four texts with a byte between two
abbrev joined : ℕ → List ℕ → List ℕ → List ℕ → List ℕ → List ℕ
joined between a b c d = a ++ (between ∷ (b ++ (between ∷ (c ++ (between ∷ d)))))

joined-fails : (p : ℕ → Bool) (between : ℕ) (a b c d : List ℕ) → p between ≡ false → Fails p a → Fails p b → Fails p c → Fails p d → Fails p (joined between a b c d)
joined-fails p between a b c d e fa fb fc fd =
    let P = λ (byte : ℕ). p byte ≡ false in
    All-append P a _ fa (All-cons P between _ e (All-append P b _ fb (All-cons P between _ e (All-append P c _ fc (All-cons P between d e fd)))))

joined-split : (p : ℕ → Bool) (between : ℕ) (a b c d : List ℕ) → p between ≡ true → Fails p a → Fails p b → Fails p c → Fails p d → slice_split p (joined between a b c d) ≡ a ∷ b ∷ c ∷ d ∷ []
joined-split p between a b c d e fa fb fc fd =
    slice_split_at p a between (b ++ (between ∷ (c ++ (between ∷ d)))) fa e
    ∙ (ap (λ (parts : List (List ℕ)). a ∷ parts) (slice_split_at p b between (c ++ (between ∷ d)) fb e)
    ∙ (ap (λ (parts : List (List ℕ)). a ∷ b ∷ parts) (slice_split_at p c between d fc e)
    ∙ ap (λ (parts : List (List ℕ)). a ∷ b ∷ c ∷ parts) (slice_split_none p d fd)))

-- ---- a hand
hand_text-is : (deal : Deal) (seat : Seat) → hand_text deal seat ≡ joined 46 (group_text deal seat Spades) (group_text deal seat Hearts) (group_text deal seat Diamonds) (group_text deal seat Clubs)
unfolding hand_text
hand_text-is deal seat = refl

known : (a b rest : List ℕ) → is_unknown (a ++ (46 ∷ (b ++ (46 ∷ rest)))) ≡ false
known [] [] rest = refl
known [] (x ∷ b) rest = refl
known (x ∷ []) b rest = refl
known (x ∷ y ∷ a) b rest = refl

some_bytes : (a rest : List ℕ) → is_word (a ++ (46 ∷ rest)) ≡ true
some_bytes [] rest = refl
some_bytes (x ∷ a) rest = refl

pub hand-known : (deal : Deal) (seat : Seat) → is_unknown (hand_text deal seat) ≡ false
hand-known deal seat = ap is_unknown (hand_text-is deal seat) ∙ known (group_text deal seat Spades) (group_text deal seat Hearts) _

pub hand-word : (deal : Deal) (seat : Seat) → is_word (hand_text deal seat) ≡ true
hand-word deal seat = ap is_word (hand_text-is deal seat) ∙ some_bytes (group_text deal seat Spades) _

pub hand-fails : (p : ℕ → Bool) → FailsLetters p → p 46 ≡ false → (deal : Deal) (seat : Seat) → Fails p (hand_text deal seat)
hand-fails p each e deal seat =
    let group = group-fails p each deal seat in
    subst (λ (text : List ℕ). Fails p text) (sym (hand_text-is deal seat))
    (joined-fails p 46 (group_text deal seat Spades) (group_text deal seat Hearts) (group_text deal seat Diamonds) (group_text deal seat Clubs) e (group Spades) (group Hearts) (group Diamonds) (group Clubs))

put_four : (a b c d : Option (List Card)) (ca cb cc cd : List Card) → a ≡ Some ca → b ≡ Some cb → c ≡ Some cc → d ≡ Some cd → put_all a (put_all b (put_all c (put_all d (Some [])))) ≡ Some (ca ++ (cb ++ (cc ++ (cd ++ []))))
put_four a b c d ca cb cc cd ea eb ec ed = rw (ea, eb, ec, ed) refl

cards_if_known : (word : List ℕ) (cards : List Card) → is_unknown word ≡ false → groups_cards suits_in_order (slice_split is_dot word) ≡ Some cards → hand_cards word ≡ Some cards
cards_if_known word cards u e = ap (λ (b : Bool). if b then Some [] else groups_cards suits_in_order (slice_split is_dot word)) u ∙ e

pub hand-named : (deal : Deal) (seat : Seat) → hand_cards (hand_text deal seat) ≡ Some (hand_of deal seat)
hand-named deal seat =
    let dots = group-fails is_dot no_dot deal seat in
    let split : slice_split is_dot (hand_text deal seat) ≡ group_text deal seat Spades ∷ group_text deal seat Hearts ∷ group_text deal seat Diamonds ∷ group_text deal seat Clubs ∷ [] =
    ap (slice_split is_dot) (hand_text-is deal seat)
    ∙ joined-split is_dot 46 (group_text deal seat Spades) (group_text deal seat Hearts) (group_text deal seat Diamonds) (group_text deal seat Clubs) refl (dots Spades) (dots Hearts) (dots Diamonds) (dots Clubs) in
    cards_if_known (hand_text deal seat) (hand_of deal seat) (hand-known deal seat)
    (ap (groups_cards suits_in_order) split
    ∙ put_four _ _ _ _ _ _ _ _ (group-named deal seat Spades) (group-named deal seat Hearts) (group-named deal seat Diamonds) (group-named deal seat Clubs))

-- ---- a deal
hands_text : Deal → List ℕ
hands_text deal = joined 32 (hand_text deal North) (hand_text deal East) (hand_text deal South) (hand_text deal West)

deal_text-is : (deal : Deal) → deal_text deal ≡ 78 ∷ 58 ∷ hands_text deal
unfolding deal_text hands_text
deal_text-is deal = refl

hands_text-fails : (p : ℕ → Bool) → FailsLetters p → p 46 ≡ false → p 32 ≡ false → (deal : Deal) → Fails p (hands_text deal)
unfolding hands_text
hands_text-fails p each e e' deal =
    let hand = hand-fails p each e deal in
    joined-fails p 32 (hand_text deal North) (hand_text deal East) (hand_text deal South) (hand_text deal West) e' (hand North) (hand East) (hand South) (hand West)

deal-fails : (p : ℕ → Bool) → FailsLetters p → p 46 ≡ false → p 32 ≡ false → p 78 ≡ false → p 58 ≡ false → (deal : Deal) → Fails p (deal_text deal)
deal-fails p each e e' n colon deal =
    let P = λ (byte : ℕ). p byte ≡ false in
    subst (λ (text : List ℕ). Fails p text) (sym (deal_text-is deal))
    (All-cons P 78 (58 ∷ hands_text deal) n (All-cons P 58 (hands_text deal) colon (hands_text-fails p each e e' deal)))

pub deal-one_line : (deal : Deal) → All (λ byte. byte ≢ 10) (deal_text deal)
deal-one_line deal = All-weaker (λ byte. eqb byte 10 ≡ false) (λ byte. byte ≢ 10) (λ byte h. eqb-false byte 10 h) (deal_text deal) (deal-fails (λ byte. eqb byte 10) no_feed refl refl refl refl deal)

pub deal-no_quote : (deal : Deal) → All (λ byte. byte ≢ 34) (deal_text deal)
deal-no_quote deal = All-weaker (λ byte. eqb byte 34 ≡ false) (λ byte. byte ≢ 34) (λ byte h. eqb-false byte 34 h) (deal_text deal) (deal-fails (λ byte. eqb byte 34) no_quote refl refl refl refl deal)

filter_four : (a b c d : List ℕ) → is_word a ≡ true → is_word b ≡ true → is_word c ≡ true → is_word d ≡ true → filter is_word (a ∷ b ∷ c ∷ d ∷ []) ≡ a ∷ b ∷ c ∷ d ∷ []
filter_four a b c d ea eb ec ed = rw (ea, eb, ec, ed) refl

deal-words : (deal : Deal) → words_of (hands_text deal) ≡ hand_text deal North ∷ hand_text deal East ∷ hand_text deal South ∷ hand_text deal West ∷ []
unfolding hands_text
deal-words deal =
    let blanks = hand-fails is_blank no_blank refl deal in
    let word = hand-word deal in
    ap (filter is_word) (joined-split is_blank 32 (hand_text deal North) (hand_text deal East) (hand_text deal South) (hand_text deal West) refl (blanks North) (blanks East) (blanks South) (blanks West))
    ∙ filter_four (hand_text deal North) (hand_text deal East) (hand_text deal South) (hand_text deal West) (word North) (word East) (word South) (word West)

name_four : (a b c d : Option (List Card)) (ca cb cc cd : List Card) → a ≡ Some ca → b ≡ Some cb → c ≡ Some cc → d ≡ Some cd → put_all (in_hand North a) (put_all (in_hand East b) (put_all (in_hand South c) (put_all (in_hand West d) (Some [])))) ≡ Some (map (held_by North) ca ++ (map (held_by East) cb ++ (map (held_by South) cc ++ (map (held_by West) cd ++ []))))
name_four a b c d ca cb cc cd ea eb ec ed = rw (ea, eb, ec, ed) refl

any_four : (a b c d : List ℕ) → is_unknown a ≡ false → is_unknown b ≡ false → is_unknown c ≡ false → is_unknown d ≡ false → list_any is_unknown (a ∷ b ∷ c ∷ d ∷ []) ≡ false
any_four a b c d ea eb ec ed = rw (ea, eb, ec, ed) refl

abbrev pub four_seats : List Seat
four_seats = North ∷ East ∷ South ∷ West ∷ []

pub deal-named : (deal : Deal) → naming_of (deal_text deal) ≡ full (held_of deal)
deal-named deal =
    let words = deal-words deal in
    let named = hand-named deal in
    let known' = hand-known deal in
    ap naming_of (deal_text-is deal)
    ∙ (ap (λ (parts : List (List ℕ)). naming_with (hands_held four_seats parts) (list_any is_unknown parts)) words
    ∙ (ap (λ (o : Option (List Holding)). naming_with o (list_any is_unknown (hand_text deal North ∷ hand_text deal East ∷ hand_text deal South ∷ hand_text deal West ∷ [])))
    (name_four _ _ _ _ _ _ _ _ (named North) (named East) (named South) (named West))
    ∙ ap (λ (b : Bool). naming_with (Some (held_of deal)) b)
    (any_four (hand_text deal North) (hand_text deal East) (hand_text deal South) (hand_text deal West) (known' North) (known' East) (known' South) (known' West))))
