-- The text of cards has one reading.
use Rattle.std.proofs.Common.{◌≡◌, ◌≢◌, ℕ, ◌==◌, ◌+◌, ◌≤◌, Bool, true, false, codes, List, [], ◌∷◌, ◌++◌, length, get_or, if◌then◌else◌, refl, sym, ◌∙◌, ap, arith, append_assoc}
use Rattle.std.proofs.lemmas.List.{append_cancel_left, length_push}
use Rattle.std.specs.Fmt.{decimal}
use Rattle.std.proofs.lemmas.Fmt.{decimal_digit}
use Rattle.std.proofs.lemmas.List.Elements.{All-cons, All-nil, All-append, All-from_recursion}
use Rattle.cards.specs.declared.suits.Suit.{Suit}
use Rattle.cards.specs.declared.suits.Suit.TheVariants.{Spades, Hearts, Diamonds, Clubs}
use Rattle.cards.specs.declared.pack.Rank.{Rank}
use Rattle.cards.specs.declared.pack.Rank.TheVariants.{Two, Three, Four, Five, Six, Seven, Eight, Nine, Ten, Jack, Queen, King, Ace}
use Rattle.cards.specs.declared.pack.Card.{Card}
use Rattle.cards.specs.Pack.{suit_letter, rank_letter, card_of}
use Rattle.cards.specs.CardTexts.{card_text, cards_text}
use Rattle.pbn_deals.specs.Reading.{Lacks}
use Rattle.evidence.proofs.WordLemmas.{decimal-lacks}
use Rattle.certificate_graph.proofs.OneSpelling.{heads, tails, one_suit}
use Rattle.card_evidence.specs.SectionTexts.{played_word, played_line}
use Rattle.card_evidence.specs.Readings.{AddsCards, AddsOrLacksCards}
use Rattle.card_evidence.proofs.LineLemmas.{one_line}

-- ---- letters
-- the rank whose letter is this byte
abbrev rank_with : ℕ → Rank
rank_with b =
    if b == 50 then Two else (if b == 51 then Three else (if b == 52 then Four else (if b == 53 then Five else
    (if b == 54 then Six else (if b == 55 then Seven else (if b == 56 then Eight else (if b == 57 then Nine else
    (if b == 84 then Ten else (if b == 74 then Jack else (if b == 81 then Queen else (if b == 75 then King else Ace)))))))))))

rank_back : (rank : Rank) (rest : List ℕ) → rank_with (get_or (rank_letter rank ++ rest) 0 0) ≡ rank
rank_back Two rest = refl
rank_back Three rest = refl
rank_back Four rest = refl
rank_back Five rest = refl
rank_back Six rest = refl
rank_back Seven rest = refl
rank_back Eight rest = refl
rank_back Nine rest = refl
rank_back Ten rest = refl
rank_back Jack rest = refl
rank_back Queen rest = refl
rank_back King rest = refl
rank_back Ace rest = refl

one_rank : (r q : Rank) (a b : List ℕ) → rank_letter r ++ a ≡ rank_letter q ++ b → (r ≡ q) × (a ≡ b)
one_rank r q a b e =
    let same : r ≡ q = sym (rank_back r a) ∙ (ap (λ (t : List ℕ). rank_with (get_or t 0 0)) e ∙ rank_back q b) in
    (same, append_cancel_left (rank_letter q) a b (ap (λ (p : Rank). rank_letter p ++ a) (sym same) ∙ e))

-- ---- one card
pub one_card : (c d : Card) (a b : List ℕ) → card_text c ++ a ≡ card_text d ++ b → (c ≡ d) × (a ≡ b)
one_card c d a b e =
    let suits = one_suit c.suit d.suit (rank_letter c.rank ++ a) (rank_letter d.rank ++ b)
    (sym (append_assoc (suit_letter c.suit) (rank_letter c.rank) a) ∙ (e ∙ append_assoc (suit_letter d.suit) (rank_letter d.rank) b)) in
    let ranks = one_rank c.rank d.rank a b suits.1 in
    (ap (λ s. card_of s c.rank) suits.0 ∙ ap (λ r. card_of d.suit r) ranks.0, ranks.1)

-- ---- cards played
-- the cards of a text, as they are added
pub added_cards : (text rest : List ℕ) (old pushed new : List Card) (card : Card) → text ≡ 32 ∷ (card_text card ++ rest) → pushed ≡ old ++ card ∷ [] → AddsCards rest pushed new → AddsCards text old new
added_cards text rest old pushed new card cut push adds = record {
  more = card ∷ adds.more;
  text_is = cut ∙ ap (λ (t : List ℕ). 32 ∷ (card_text card ++ t)) adds.text_is;
  added = adds.added ∙ (ap (λ (l : List Card). l ++ adds.more) push ∙ append_assoc old (card ∷ []) adds.more);
}

-- no card is at the beginning of a text that is not empty
pub no_card : (text : List ℕ) (more : List Card) → text ≢ [] → ((card : Card) (rest : List ℕ) → text ≢ 32 ∷ (card_text card ++ rest)) → text ≢ cards_text more
no_card text [] some none e = some e
no_card text (card ∷ cards) some none e = none card (cards_text cards) e

pub lacked_cards : (text rest : List ℕ) (old pushed more : List Card) (card : Card) → text ≢ [] → text ≡ 32 ∷ (card_text card ++ rest) → pushed ≡ old ++ card ∷ []
    → ((more : List Card) → length pushed + length more ≤ 3 → rest ≢ cards_text more) → length old + length more ≤ 3 → text ≢ cards_text more
lacked_cards text rest old pushed [] card some cut push none few e = some e
lacked_cards text rest old pushed (first ∷ cards) card some cut push none few e =
    let long : length pushed ≡ length old + 1 = ap length push ∙ length_push old card in
    none cards (omega (arith, long)) (one_card card first rest (cards_text cards) (tails 32 32 _ _ (sym cut ∙ e))).1

-- what is read of a text of cards, after the first of them was read
pub cards_read : (b : Bool) (text rest : List ℕ) (old pushed new : List Card) (card : Card) → text ≢ [] → text ≡ 32 ∷ (card_text card ++ rest) → pushed ≡ old ++ card ∷ []
    → AddsOrLacksCards b rest pushed new → AddsOrLacksCards b text old new
cards_read true text rest old pushed new card some cut push adds = added_cards text rest old pushed new card cut push adds
cards_read false text rest old pushed new card some cut push none = λ more few. lacked_cards text rest old pushed more card some cut push none few

pub one_cards : (cards others : List Card) → cards_text cards ≡ cards_text others → cards ≡ others
one_cards [] [] e = refl
one_cards [] (d ∷ ds) e = absurd (let long : 0 ≡ length (cards_text (d ∷ ds)) = ap length e in omega arith)
one_cards (c ∷ cs) [] e = absurd (let long : length (cards_text (c ∷ cs)) ≡ 0 = ap length e in omega arith)
one_cards (c ∷ cs) (d ∷ ds) e =
    let first = one_card c d (cards_text cs) (cards_text ds) (tails 32 32 _ _ e) in
    ap (λ (x : Card). x ∷ cs) first.0 ∙ ap (λ (xs : List Card). d ∷ xs) (one_cards cs ds first.1)

-- ---- the cards played, after their number
pub played-digit : (cards : List Card) → length cards ≤ 3 → played_word cards ≡ (48 + length cards) ∷ cards_text cards
played-digit cards few = ap (λ (t : List ℕ). t ++ cards_text cards) (decimal_digit (length cards) (omega arith))

-- a word that is cut behind its first digit
module _ (word rest : List ℕ) (digit : ℕ) (cut : word ≡ digit ∷ rest) where
  pub played_read : (old new : List Card) → old ≡ [] → AddsCards rest old new → digit ≡ 48 + length new → length new ≤ 3 → word ≡ played_word new
  played_read old new none adds count few =
      let same : new ≡ adds.more = adds.added ∙ ap (λ (l : List Card). l ++ adds.more) none in
      cut
      ∙ (ap (λ (t : List ℕ). digit ∷ t) (adds.text_is ∙ ap cards_text (sym same))
      ∙ (ap (λ (d : ℕ). d ∷ cards_text new) count ∙ sym (played-digit new few)))

  pub played_parts : (cards : List Card) → length cards ≤ 3 → word ≡ played_word cards → (digit ≡ 48 + length cards) × (rest ≡ cards_text cards)
  played_parts cards few e =
      let whole : digit ∷ rest ≡ (48 + length cards) ∷ cards_text cards = sym cut ∙ (e ∙ played-digit cards few) in
      (heads digit (48 + length cards) rest (cards_text cards) whole, tails digit (48 + length cards) rest (cards_text cards) whole)

  pub played_count : (old new cards : List Card) → old ≡ [] → AddsCards rest old new → length cards ≤ 3 → word ≡ played_word cards → digit ≡ 48 + length new
  played_count old new cards none adds few e =
      let parts = played_parts cards few e in
      let same : new ≡ cards = adds.added ∙ (ap (λ (l : List Card). l ++ adds.more) none ∙ one_cards adds.more cards (sym adds.text_is ∙ parts.1)) in
      parts.0 ∙ ap (λ (l : List Card). 48 + length l) (sym same)

suit-lacks : (suit : Suit) → Lacks 10 (suit_letter suit)
suit-lacks Spades = All-from_recursion (λ x. x ≢ 10) (codes "S") (omega arith, tt)
suit-lacks Hearts = All-from_recursion (λ x. x ≢ 10) (codes "H") (omega arith, tt)
suit-lacks Diamonds = All-from_recursion (λ x. x ≢ 10) (codes "D") (omega arith, tt)
suit-lacks Clubs = All-from_recursion (λ x. x ≢ 10) (codes "C") (omega arith, tt)

rank-lacks : (rank : Rank) → Lacks 10 (rank_letter rank)
rank-lacks Two = All-from_recursion (λ x. x ≢ 10) (codes "2") (omega arith, tt)
rank-lacks Three = All-from_recursion (λ x. x ≢ 10) (codes "3") (omega arith, tt)
rank-lacks Four = All-from_recursion (λ x. x ≢ 10) (codes "4") (omega arith, tt)
rank-lacks Five = All-from_recursion (λ x. x ≢ 10) (codes "5") (omega arith, tt)
rank-lacks Six = All-from_recursion (λ x. x ≢ 10) (codes "6") (omega arith, tt)
rank-lacks Seven = All-from_recursion (λ x. x ≢ 10) (codes "7") (omega arith, tt)
rank-lacks Eight = All-from_recursion (λ x. x ≢ 10) (codes "8") (omega arith, tt)
rank-lacks Nine = All-from_recursion (λ x. x ≢ 10) (codes "9") (omega arith, tt)
rank-lacks Ten = All-from_recursion (λ x. x ≢ 10) (codes "T") (omega arith, tt)
rank-lacks Jack = All-from_recursion (λ x. x ≢ 10) (codes "J") (omega arith, tt)
rank-lacks Queen = All-from_recursion (λ x. x ≢ 10) (codes "Q") (omega arith, tt)
rank-lacks King = All-from_recursion (λ x. x ≢ 10) (codes "K") (omega arith, tt)
rank-lacks Ace = All-from_recursion (λ x. x ≢ 10) (codes "A") (omega arith, tt)

pub cards-lack : (cards : List Card) → Lacks 10 (cards_text cards)
cards-lack [] = All-nil (λ x. x ≢ 10)
cards-lack (card ∷ more) =
    All-cons (λ x. x ≢ 10) 32 _ (omega arith)
    (All-append (λ x. x ≢ 10) (card_text card) (cards_text more)
    (All-append (λ x. x ≢ 10) (suit_letter card.suit) (rank_letter card.rank) (suit-lacks card.suit) (rank-lacks card.rank)) (cards-lack more))

pub played-lacks : (cards : List Card) → length cards ≤ 3 → Lacks 10 (played_word cards)
played-lacks cards few = All-append (λ x. x ≢ 10) (decimal (length cards)) (cards_text cards) (decimal-lacks 10 (length cards) (omega arith) (omega arith)) (cards-lack cards)

pub one_played_line : (cards others : List Card) (rest more : List ℕ) → length cards ≤ 3 → length others ≤ 3 → played_line cards rest ≡ played_line others more → (cards ≡ others) × (rest ≡ more)
one_played_line cards others rest more few low e =
    let same = one_line (codes "played ") (played_word cards) (played_word others) rest more (played-lacks cards few) (played-lacks others low) e in
    (one_cards cards others (tails _ _ _ _ (sym (played-digit cards few) ∙ (same.0 ∙ played-digit others low))), same.1)
