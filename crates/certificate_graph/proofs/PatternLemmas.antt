-- Suits and patterns at the beginning of a text.
use Rattle.std.proofs.Common.{◌≡◌, ℕ, ◌+◌, ◌-◌, ◌*◌, ◌^◌, ◌%◌, ◌<◌, ◌≤◌, List, [], ◌∷◌, ◌++◌, length, take, drop, get_or, refl, sym, ◌∙◌, ap, ap₂, subst, append_assoc, length-append, arith, lit≤}
use Rattle.std.specs.Prelude.{slice_index}
use Rattle.std.specs.Char.{digit_value}
use Rattle.std.specs.Int.{IsInRange}
use Rattle.std.proofs.lemmas.List.{take_all}
use Rattle.cards.specs.declared.seats.Seat.{Seat}
use Rattle.cards.specs.declared.seats.Seat.TheVariants.{North, East, South, West}
use Rattle.cards.specs.declared.suits.Suit.TheVariants.{Spades, Hearts, Diamonds, Clubs}
use Rattle.cards.specs.Seats.{seat_number}
use Rattle.patterns.specs.Shapes.{SuitShape}
use Rattle.patterns.specs.Words.{IsSuitWord, owner_count, suit_in}
use Rattle.patterns.proofs.MoreOwners.{lengthened}
use Rattle.patterns.proofs.SuitWords.{suit_with, length-owners_in_of}
use Rattle.certificate_graph.specs.Texts.{owners_text}
use Rattle.certificate_graph.specs.Readings.{Always, seat_text, len_text, Lacks, IsLen, Begins, LacksOwners, BeginsTwo, LacksTwo, BeginsLens, LacksLens, BeginsSuit, LacksSuit, BeginsTwoSuits, LacksTwoSuits, LacksPattern}
use Rattle.certificate_graph.specs.Suits.{IsWordOf, HasOwners, HasDigit}
use Rattle.certificate_graph.proofs.OneSpelling.{one_seat}
use Rattle.certificate_graph.proofs.OneNode.{one_len, one_suit_form}
use Rattle.certificate_graph.proofs.LeafLemmas.{LacksByte}
use Rattle.certificate_graph.proofs.NumberLemmas.{digit_text}

-- ---- owners
pub owners_by_seat : (room : ℕ) (text : List ℕ) → LacksByte 32 text → Lacks Always seat_text text → LacksOwners room text
owners_by_seat room text blank lacks [] rest few e = blank rest e
owners_by_seat room text blank lacks (owner ∷ more) rest few e = lacks owner (owners_text more (32 ∷ rest)) tt e

pub owners_by_more : (room : ℕ) (text : List ℕ) (owner : Seat) (after : List ℕ) → LacksByte 32 text → text ≡ seat_text owner after → LacksOwners (room - 1) after → LacksOwners room text
owners_by_more room text owner after blank first lacks [] rest few e = blank rest e
owners_by_more room text owner after blank first lacks (other ∷ more) rest few e =
    let same = one_seat owner other after _ (sym first ∙ e) in
    lacks more rest (omega arith) same.1

-- an owner more in a word
pub record OwnerAdded (word next : ℕ) (owner : Seat) : Type 0 where
  pub fits : next < 2 ^ 64
  pub is_word : IsSuitWord next
  pub lens : (suit_in next).lens ≡ (suit_in word).lens
  pub owners : (suit_in next).owners ≡ (suit_in word).owners ++ owner ∷ []
  pub count : owner_count next ≡ owner_count word + 1

pub owner_added : (word count number : ℕ) (owner : Seat) → IsSuitWord word → count ≡ owner_count word → number ≡ seat_number owner → count < 13 →
    OwnerAdded word (word + 65536 + number * 2 ^ (20 + 2 * count) % 2 ^ 64) owner
owner_added word count number owner is counted numbered few =
    let once : 1 * number ≡ number = omega arith in
    let more = lengthened word 1 count number owner is counted numbered (omega (arith, length-owners_in_of word)) in
    let next = word + 65536 + number * 2 ^ (20 + 2 * count) % 2 ^ 64 in
    let same : word + 65536 + 1 * number * 2 ^ (20 + 2 * count) % 2 ^ 64 ≡ next = ap (λ n. word + 65536 + n * 2 ^ (20 + 2 * count) % 2 ^ 64) once in
    let owners : (suit_in next).owners ≡ (suit_in word).owners ++ owner ∷ [] = subst (λ n. (suit_in n).owners ≡ (suit_in word).owners ++ owner ∷ []) same more.owners in
    record {
      fits = subst (λ n. n < 2 ^ 64) same more.sum;
      is_word = subst IsSuitWord same more.is_word;
      lens = subst (λ n. (suit_in n).lens ≡ (suit_in word).lens) same more.lens;
      owners = owners;
      count = omega (arith, length-owners_in_of word, length-owners_in_of next, ap length owners, length-append (suit_in word).owners (owner ∷ []));
    }

pub owners_more : (word next final : ℕ) (owner : Seat) (more : List Seat) → OwnerAdded word next owner → HasOwners next more final → HasOwners word (owner ∷ more) final
owners_more word next final owner more added has = record {
  is_word = has.is_word;
  lens_are = has.lens_are ∙ added.lens;
  owners_are = has.owners_are ∙ (ap (λ l. l ++ more) added.owners ∙ append_assoc (suit_in word).owners (owner ∷ []) more);
}

-- ---- lengths
pub two_by_second : (first second : ℕ) (text : List ℕ) (one : ℕ) (after : List ℕ) → 10 ≤ digit_value first → Begins IsLen (len_text first) text one after → Lacks IsLen (len_text second) after → LacksTwo first second text
two_by_second first second text one after stops begins lacks x y rest two =
    let same = one_len one x first after _ begins.good two.low stops (sym begins.is ∙ two.is) in
    lacks y rest two.also same.1

pub lens_by_first : (text : List ℕ) → LacksTwo 46 46 text → LacksLens text
lens_by_first text lacks lens rest begins = lacks _ _ _ (record { low = begins.low North; also = begins.low East; is = begins.is })

pub lens_by_second : (text : List ℕ) (one other : ℕ) (after : List ℕ) → BeginsTwo 46 46 text one other after → LacksTwo 46 47 after → LacksLens text
lens_by_second text one other after two lacks lens rest begins =
    let first = one_len one (slice_index lens 0) 46 _ _ two.low (begins.low North) (lit≤ tt) (sym two.is ∙ begins.is) in
    let second = one_len other (slice_index lens 1) 46 _ _ two.also (begins.low East) (lit≤ tt) first.1 in
    lacks _ _ rest (record { low = begins.low South; also = begins.low West; is = second.1 })

pub lens_low : (a b c d : ℕ) → a ≤ 13 → b ≤ 13 → c ≤ 13 → d ≤ 13 → (seat : Seat) → slice_index (a ∷ b ∷ c ∷ d ∷ []) (seat_number seat) ≤ 13
lens_low a b c d p q r s North = p
lens_low a b c d p q r s East = q
lens_low a b c d p q r s South = r
lens_low a b c d p q r s West = s

-- four lengths of one digit each
short_lens : (a b c d e f g h : ℕ) (rest more : List ℕ) → rest ≡ more → IsInRange 48 57 a → b ≡ 46 → IsInRange 48 57 c → d ≡ 46 → IsInRange 48 57 e → f ≡ 46 → IsInRange 48 57 g → h ≡ 47 →
    BeginsLens (a ∷ b ∷ c ∷ d ∷ e ∷ f ∷ g ∷ h ∷ rest) ((a - 48) ∷ (c - 48) ∷ (e - 48) ∷ (g - 48) ∷ []) more
short_lens a b c d e f g h rest more same ha hb hc hd he hf hg hh = record {
  four = refl;
  low = lens_low (a - 48) (c - 48) (e - 48) (g - 48) (omega (arith, ha)) (omega (arith, hc)) (omega (arith, he)) (omega (arith, hg));
  is = digit_text a b 46 _ _ ha hb (digit_text c d 46 _ _ hc hd (digit_text e f 46 _ _ he hf (digit_text g h 47 _ _ hg hh same)));
}

pub lens_by_digits : (text : List ℕ) → 8 ≤ length text → HasDigit text 0 46 → HasDigit text 2 46 → HasDigit text 4 46 → HasDigit text 6 47 →
    BeginsLens text ((get_or text 0 0 - 48) ∷ (get_or text 2 0 - 48) ∷ (get_or text 4 0 - 48) ∷ (get_or text 6 0 - 48) ∷ []) (take (length text - 8) (drop 8 text))
lens_by_digits [] long north east south west = absurd (omega arith)
lens_by_digits (a ∷ []) long north east south west = absurd (omega arith)
lens_by_digits (a ∷ b ∷ []) long north east south west = absurd (omega arith)
lens_by_digits (a ∷ b ∷ c ∷ []) long north east south west = absurd (omega arith)
lens_by_digits (a ∷ b ∷ c ∷ d ∷ []) long north east south west = absurd (omega arith)
lens_by_digits (a ∷ b ∷ c ∷ d ∷ e ∷ []) long north east south west = absurd (omega arith)
lens_by_digits (a ∷ b ∷ c ∷ d ∷ e ∷ f ∷ []) long north east south west = absurd (omega arith)
lens_by_digits (a ∷ b ∷ c ∷ d ∷ e ∷ f ∷ g ∷ []) long north east south west = absurd (omega arith)
lens_by_digits (a ∷ b ∷ c ∷ d ∷ e ∷ f ∷ g ∷ h ∷ rest) long north east south west =
    short_lens a b c d e f g h rest _ (sym (take_all _ rest (omega arith)))
    north.digit north.before east.digit east.before south.digit south.before west.digit west.before

pub suit_by_owners : (text lens after : List ℕ) → BeginsLens text lens after → LacksOwners 13 after → LacksSuit text
suit_by_owners text lens after first lacks suit rest begins =
    let north = one_len _ _ 46 _ _ (first.low North) (begins.form.lens North) (lit≤ tt) (sym first.is ∙ begins.is) in
    let east = one_len _ _ 46 _ _ (first.low East) (begins.form.lens East) (lit≤ tt) north.1 in
    let south = one_len _ _ 46 _ _ (first.low South) (begins.form.lens South) (lit≤ tt) east.1 in
    let west = one_len _ _ 47 _ _ (first.low West) (begins.form.lens West) (lit≤ tt) south.1 in
    lacks suit.owners rest begins.form.owners west.1

pub suit_read : (text lens after : List ℕ) (owners : List Seat) (rest : List ℕ) → BeginsLens text lens after → length owners ≤ 13 → after ≡ owners_text owners (32 ∷ rest) → BeginsSuit text (record { lens = lens; owners = owners }) rest
suit_read text lens after owners rest first few e = record {
  form = record { four = first.four; lens = first.low; owners = few };
  is = first.is ∙ ap (λ t. len_text 46 (slice_index lens 0) (len_text 46 (slice_index lens 1) (len_text 46 (slice_index lens 2) (len_text 47 (slice_index lens 3) t)))) e;
}

-- a suit, from the word of its lengths
pub suit_begun : (text lens after : List ℕ) (word final : ℕ) (owners : List Seat) (rest : List ℕ) → BeginsLens text lens after → IsWordOf word lens [] →
    length owners ≤ 13 → after ≡ owners_text owners (32 ∷ rest) → HasOwners word owners final → IsSuitWord final × BeginsSuit text (suit_in final) rest
suit_begun text lens after word final owners rest first of_lens few e has =
    let same : suit_in final ≡ suit_with lens owners =
    ap₂ suit_with (has.lens_are ∙ of_lens.lens_are) (has.owners_are ∙ ap (λ l. l ++ owners) of_lens.owners_are) in
    (has.is_word, subst (λ suit. BeginsSuit text suit rest) (sym same) (suit_read text lens after owners rest first few e))

pub two_suits_by_second : (text : List ℕ) (suit : SuitShape) (after : List ℕ) → BeginsSuit text suit after → LacksSuit after → LacksTwoSuits text
two_suits_by_second text suit after one lacks first second rest begins =
    let same = one_suit_form suit first after _ one.form begins.form (sym one.is ∙ begins.is) in
    lacks second rest (record { form = begins.also; is = same.1 })

-- ---- patterns
pub pattern_by_first : (text : List ℕ) → LacksTwoSuits text → LacksPattern text
pattern_by_first text lacks pattern rest begins =
    lacks pattern.spades pattern.hearts _ (record { form = begins.form Spades; also = begins.form Hearts; is = begins.is })

pub pattern_by_second : (text : List ℕ) (spades hearts : SuitShape) (after : List ℕ) → BeginsTwoSuits text spades hearts after → LacksTwoSuits after → LacksPattern text
pattern_by_second text spades hearts after two lacks pattern rest begins =
    let first = one_suit_form spades pattern.spades _ _ two.form (begins.form Spades) (sym two.is ∙ begins.is) in
    let second = one_suit_form hearts pattern.hearts after _ two.also (begins.form Hearts) first.1 in
    lacks pattern.diamonds pattern.clubs rest (record { form = begins.form Diamonds; also = begins.form Clubs; is = second.1 })
