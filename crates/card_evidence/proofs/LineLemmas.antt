-- Lines of a name and a word.
use Rattle.std.proofs.Common.{◌≡◌, ◌≢◌, ℕ, ◌<◌, ◌≤◌, ◌^◌, List, ◌∷◌, ◌++◌, Option, None, Some, Bor, codes, sym, ◌∙◌, ap, arith}
use Rattle.std.specs.Prelude.{MatchOption}
use Rattle.std.specs.Fmt.{decimal}
use Rattle.std.proofs.lemmas.Fmt.{decimal_injective}
use Rattle.std.proofs.lemmas.List.{append_cancel_left}
use Rattle.pbn_deals.specs.Reading.{Lacks}
use Rattle.cards.specs.declared.seats.Seat.{Seat}
use Rattle.cards.specs.declared.suits.Trump.{Trump}
use Rattle.certificate_graph.specs.Texts.{trump_text}
use Rattle.certificate_graph.proofs.OneSpelling.{tails, one_seat}
use Rattle.evidence.proofs.CutLemmas.{one_front}
use Rattle.evidence.proofs.HeadLemmas.{no_byte}
use Rattle.evidence.proofs.SectionLemmas.{one_trump}
use Rattle.evidence.proofs.WordLemmas.{decimal-lacks, trump-lacks}
use Rattle.card_evidence.specs.SectionTexts.{line_text, leader_line}
use Rattle.card_evidence.specs.Readings.{ReadsLine}

-- two lines of a name have one word and one rest
pub one_line : (name word other rest more : List ℕ) → Lacks 10 word → Lacks 10 other → line_text name word rest ≡ line_text name other more → (word ≡ other) × (rest ≡ more)
one_line name word other rest more lacks lack e = one_front 10 word other rest more lacks lack (append_cancel_left name _ _ e)

-- what is read of a line
pub line_read : (name text rest : List ℕ) (r : Option (Bor (List ℕ) × Bor (List ℕ))) → text ≡ name ++ rest
    → MatchOption r (Lacks 10 rest) (λ found. (rest ≡ found.0.now ++ (10 ∷ found.1.now)) × Lacks 10 found.0.now)
    → ReadsLine name text r
line_read name text rest None e lacks = λ word more lack h. no_byte 10 rest word more lacks (append_cancel_left name _ _ (sym e ∙ h))
line_read name text rest (Some found) e cut = (cut.1, e ∙ ap (λ (t : List ℕ). name ++ t) cut.0)

-- values of which each is the word of a line
module _ {X : Type 0} (Is : X → Type 0) (spelled : X → List ℕ) (lacks : (x : X) → Is x → Lacks 10 (spelled x)) (name text : List ℕ) where
  pub no_line : ((word rest : List ℕ) → Lacks 10 word → text ≢ line_text name word rest) → (x : X) (rest : List ℕ) → Is x → text ≢ line_text name (spelled x) rest
  no_line none x rest is = none (spelled x) rest (lacks x is)

  pub other_word : (word after : List ℕ) → Lacks 10 word × (text ≡ line_text name word after) → ((x : X) → Is x → word ≢ spelled x) → (x : X) (rest : List ℕ) → Is x → text ≢ line_text name (spelled x) rest
  other_word word after read none x rest is e =
      none x is (one_line name word (spelled x) after rest read.0 (lacks x is) (sym read.1 ∙ e)).0

-- ---- numbers up to 13
short_fits : (n : ℕ) → n ≤ 13 → n < 2 ^ 64
short_fits n few = omega arith

pub number-lacks : (n : ℕ) → n ≤ 13 → Lacks 10 (decimal n)
number-lacks n few = decimal-lacks 10 n (omega arith) (short_fits n few)

pub one_number_line : (name : List ℕ) (m n : ℕ) (rest more : List ℕ) → m ≤ 13 → n ≤ 13 → line_text name (decimal m) rest ≡ line_text name (decimal n) more → (m ≡ n) × (rest ≡ more)
one_number_line name m n rest more few low e =
    let same = one_line name (decimal m) (decimal n) rest more (number-lacks m few) (number-lacks n low) e in
    (decimal_injective m n (short_fits m few) (short_fits n low) same.0, same.1)

-- ---- trumps and leaders
pub one_trump_line : (t u : Trump) (rest more : List ℕ) → trump_text t rest ≡ trump_text u more → (t ≡ u) × (rest ≡ more)
one_trump_line t u rest more e =
    let same = one_line (codes "trump ") _ _ rest more (trump-lacks t) (trump-lacks u) e in
    (one_trump t u same.0, same.1)

pub one_leader_line : (s t : Seat) (rest more : List ℕ) → leader_line s rest ≡ leader_line t more → (s ≡ t) × (rest ≡ more)
one_leader_line s t rest more e =
    let same = one_seat s t (10 ∷ rest) (10 ∷ more) (append_cancel_left (codes "leader ") _ _ e) in
    (same.0, tails 10 10 rest more same.1)
