-- Owners in the first places of thirteen, and the holders of a suit's cards met one by one.
use Rattle.std.proofs.Common.{◌≡◌, ℕ, ◌+◌, ◌-◌, ◌<◌, ◌≤◌, eqb, List, [], ◌∷◌, ◌++◌, length, get_or, take, drop, None, Some, ◌↔◌, IsTrue, refl, sym, ◌∙◌, ap, arith}
use Rattle.std.specs.Option.{option_to_list}
use Rattle.std.specs.List.{filter_map}
use Rattle.std.proofs.lemmas.Bool.{eqb-true, eq-eqb}
use Rattle.std.proofs.lemmas.List.{length-take, length-take-le, take_all, take_more, append-nil, append_assoc, get_or_at}
use Rattle.std.proofs.lemmas.List.Prefix.{front_fits, front_reads}
use Rattle.cards.specs.declared.seats.Seat.{Seat}
use Rattle.cards.specs.declared.seats.Seat.TheVariants.{North}
use Rattle.std.specs.Prelude.{count_ones, slice_index}
use Rattle.cards.specs.declared.seats.Seat.TheVariants.{East, South, West}
use Rattle.cards.specs.declared.suits.Suit.{Suit}
use Rattle.cards.specs.Deal.{Deal}
use Rattle.patterns.specs.Shapes.{BeginsWith, SuitShape}
use Rattle.patterns.specs.Holders.{suit_of_layout}
use Rattle.cards.specs.Hands.{holder_by_words}
use Rattle.patterns.specs.Holdings.{TellHolders, falling_numbers, holders_in}
use Rattle.patterns.proofs.HoldingLaws.{holders_above, holders_above-more, holders_in-split, length-holders_above, take-more, take-full, holders_in-is, count_ones-is}

-- all owners were met
pub all_met : (words : List ℕ) (owners : List Seat) (n seen count : ℕ) → holders_above words n ≡ take seen owners → seen ≡ count → count ≡ length owners → BeginsWith (holders_in words) owners
all_met words owners n seen count so_far all len =
    let rest = filter_map (holder_by_words words) (drop n falling_numbers) in
    (rest, holders_in-split words n ∙ ap (λ xs. xs ++ rest) (so_far ∙ take_all seen owners (omega arith)))

-- the next card is another seat's
pub other_met : (words : List ℕ) (owners : List Seat) (n seen : ℕ) (seat : Seat) → n < 13 → seen < length owners → holders_above words n ≡ take seen owners →
    holder_by_words words (12 - n) ≡ Some seat → ¬ (seat ≡ get_or owners seen North) → ¬ BeginsWith (holders_in words) owners
other_met words owners n seen seat less fewer so_far held apart begins =
    let rest = filter_map (holder_by_words words) (drop (n + 1) falling_numbers) in
    let front : holders_above words (n + 1) ≡ take seen owners ++ seat ∷ [] =
    holders_above-more words n less ∙ (ap (λ xs. xs ++ option_to_list (holder_by_words words (12 - n))) so_far ∙ ap (λ o. take seen owners ++ option_to_list o) held) in
    let whole : holders_in words ≡ take seen owners ++ seat ∷ rest =
    holders_in-split words (n + 1) ∙ (ap (λ xs. xs ++ rest) front ∙ append_assoc (take seen owners) (seat ∷ []) rest) in
    let here : get_or (holders_in words) seen North ≡ seat =
    ap (λ xs. get_or xs seen North) whole ∙ get_or_at (take seen owners) seat rest North seen (length-take-le seen owners (omega arith)) in
    let there : get_or (holders_in words) seen North ≡ get_or owners seen North =
    front_reads North (holders_in words) owners begins.0 begins.1 seen fewer in
    apart (sym here ∙ there)

-- the next card is the next owner's
pub owner_met : (words : List ℕ) (owners : List Seat) (n seen : ℕ) → n < 13 → seen < length owners → holders_above words n ≡ take seen owners →
    holder_by_words words (12 - n) ≡ Some (get_or owners seen North) → holders_above words (n + 1) ≡ take (seen + 1) owners
owner_met words owners n seen less within so_far held =
    holders_above-more words n less
    ∙ (ap (λ xs. xs ++ option_to_list (holder_by_words words (12 - n))) so_far
    ∙ (ap (λ o. take seen owners ++ option_to_list o) held ∙ sym (take_more owners seen North within)))

-- nobody holds the next card
pub nobody_met : (words : List ℕ) (owners : List Seat) (n seen : ℕ) → n < 13 → holders_above words n ≡ take seen owners →
    holder_by_words words (12 - n) ≡ None → holders_above words (n + 1) ≡ take seen owners
nobody_met words owners n seen less so_far free =
    holders_above-more words n less
    ∙ (ap (λ o. holders_above words n ++ option_to_list o) free ∙ (append-nil (holders_above words n) ∙ so_far))

-- all cards were met
pub all_cards_met : (words : List ℕ) (owners : List Seat) (n seen count : ℕ) → n ≡ 13 → count ≡ length owners → seen ≤ count → holders_above words n ≡ take seen owners →
    IsTrue (eqb seen count) ↔ BeginsWith (holders_in words) owners
unfolding holders_in
all_cards_met words owners n seen count end len fewer so_far = (
  λ h. all_met words owners n seen count so_far (eqb-true seen count h) len,
  λ begins.
      let whole : holders_in words ≡ take seen owners = sym (ap (holders_above words) end) ∙ so_far in
      let fits = front_fits (holders_in words) owners begins.0 begins.1 in
      let seen_len = length-take-le seen owners (omega arith) in
      let whole_len = ap length whole in
      eq-eqb seen count (omega (arith, fits, seen_len, whole_len)),
)

-- a list of owners grows up to the depth
pub owner_listed : (words : List ℕ) (depth n : ℕ) (owners : List Seat) (seat : Seat) → n < 13 → owners ≡ take depth (holders_above words n) → length owners < depth →
    holder_by_words words (12 - n) ≡ Some seat → owners ++ seat ∷ [] ≡ take depth (holders_above words (n + 1))
owner_listed words depth n owners seat less are short held =
    let short' : length (take depth (holders_above words n)) < depth = rw (← are) short in
    ap (λ xs. xs ++ seat ∷ []) are
    ∙ (sym (take-more depth (holders_above words n) (seat ∷ []) short' (omega arith))
    ∙ ap (take depth) (sym (holders_above-more words n less ∙ ap (λ o. holders_above words n ++ option_to_list o) held)))

pub nobody_listed : (words : List ℕ) (depth n : ℕ) (owners : List Seat) → n < 13 → owners ≡ take depth (holders_above words n) →
    holder_by_words words (12 - n) ≡ None → owners ≡ take depth (holders_above words (n + 1))
nobody_listed words depth n owners less are free =
    are ∙ ap (take depth) (sym (holders_above-more words n less ∙ (ap (λ o. holders_above words n ++ option_to_list o) free ∙ append-nil (holders_above words n))))

pub list_is_full : (words : List ℕ) (depth n : ℕ) (owners : List Seat) → n < 13 → owners ≡ take depth (holders_above words n) → depth ≤ length owners →
    owners ≡ take depth (holders_above words (n + 1))
list_is_full words depth n owners less are full =
    let full' : depth ≤ length (take depth (holders_above words n)) = rw (← are) full in
    are ∙ (sym (take-full depth (holders_above words n) (option_to_list (holder_by_words words (12 - n))) full') ∙ ap (take depth) (sym (holders_above-more words n less)))

-- there is room in the list
pub list_has_room : (words : List ℕ) (depth n : ℕ) (owners : List Seat) → n < 13 → owners ≡ take depth (holders_above words n) → length owners < 13
list_has_room words depth n owners less are =
    let above = length-holders_above words n (omega arith) in
    let taken = length-take depth (holders_above words n) in
    let len = ap length are in
    omega (arith, above, taken, len)

-- and no more than thirteen
pub listed_fits : (words : List ℕ) (depth n : ℕ) (owners : List Seat) → n ≤ 13 → owners ≡ take depth (holders_above words n) → length owners ≤ 13
listed_fits words depth n owners less are =
    let above = length-holders_above words n less in
    let taken = length-take depth (holders_above words n) in
    let len = ap length are in
    omega (arith, above, taken, len)

-- the owners at the end
pub listed : (words : List ℕ) (depth n : ℕ) (owners : List Seat) → n ≡ 13 → owners ≡ take depth (holders_above words n) → owners ≡ take depth (holders_in words)
unfolding holders_in
listed words depth n owners end are = are ∙ ap (λ k. take depth (holders_above words k)) end

abbrev pub made_of : List ℕ → List Seat → SuitShape
made_of lens owners = record { lens = lens; owners = owners }

-- four counts, and the owners, are the suit of the layout
pub told_suit : (words : List ℕ) (deal : Deal) (suit : Suit) (depth : ℕ) (owners : List Seat) → TellHolders words deal suit → owners ≡ take depth (holders_in words) →
    made_of (count_ones (slice_index words 0) ∷ count_ones (slice_index words 1) ∷ count_ones (slice_index words 2) ∷ count_ones (slice_index words 3) ∷ []) owners ≡ suit_of_layout deal suit depth
told_suit words deal suit depth owners told are =
    let ones = count_ones-is words deal suit told in
    rw (ones North, ones East, ones South, ones West, are, holders_in-is words deal suit told) refl
