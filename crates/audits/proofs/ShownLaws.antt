-- What a section shows, by its claims.
use Rattle.std.proofs.Common.{◌≡◌, ℕ, zero, suc, List, [], ◌∷◌, ◌++◌, Option, None, Some, Result, Ok, Err, ◌⊎◌, inl, inr, refl, sym, ◌∙◌, ap, subst, arith}
use Rattle.std.specs.Prelude.{Contains}
use Rattle.std.proofs.lemmas.List.Elements.{Contains-append_left, Contains-append_cases, Contains-push}
use Rattle.cards.specs.declared.seats.Seat.{Seat}
use Rattle.cards.specs.declared.seats.Side.{Side}
use Rattle.cards.specs.declared.seats.Side.TheVariants.{NorthSouth, EastWest}
use Rattle.cards.specs.declared.suits.Trump.{Trump}
use Rattle.cards.specs.Deal.{Deal}
use Rattle.cards.specs.Seats.{side_of, other_side}
use Rattle.certificate_graph.specs.declared.bundles.Claim.{Claim}
use Rattle.certificate_graph.specs.Graphs.{GraphShape}
use Rattle.checker.specs.declared.claims.Claimed.{Claimed}
use Rattle.checker.specs.declared.entries.Shown.{Shown}
use Rattle.checker.specs.Roots.{RootedShape}
use Rattle.checker.specs.Witnesses.{rooted_shape}
use Rattle.checker.specs.declared.entry_faults.EntryFault.{EntryFault}
use Rattle.checker.specs.EntryFaults.{EntryAnswers}
use Rattle.checker.specs.Laws.{HasOneEntryAnswer}
use Rattle.pbn_deals.specs.declared.boards.Board.{Board}
use Rattle.lease_book.specs.declared.entries.Entry.{Entry}
use Rattle.lease_book.specs.Histories.{deal_of}
use Rattle.evidence.specs.Sections.{SectionShape}
use Rattle.checker.specs.declared.pairs.CheckedPair.{CheckedPair}
use Rattle.checker.specs.Pairs.{graph_in, IsClaimedOf}
use Rattle.audits.specs.Shown.{graph_of, IsClaimShown, ShowsFor, ShowsNothing, FirstShows, NoneShow, ShowsTricks}
use Rattle.audits.specs.Firsts.{AreShownBy}
use Rattle.std.proofs.lemmas.Option.{same_Some}

-- ---- lists of sections
module _ (deal : Option Deal) (entry : Entry) where
  pub first_now : (k : ℕ) (before : List SectionShape) (section : SectionShape) → NoneShow deal entry before → ShowsFor deal entry k section → FirstShows deal entry k (before ++ section ∷ [])
  first_now k [] section none shows = inl shows
  first_now k (first ∷ before) section none shows = inr (none.0, first_now k before section none.1 shows)

  pub first_still : (k : ℕ) (before later : List SectionShape) → FirstShows deal entry k before → FirstShows deal entry k (before ++ later)
  first_still k [] later first = absurd first
  first_still k (section ∷ before) later (inl shows) = inl shows
  first_still k (section ∷ before) later (inr (none, first)) = inr (none, first_still k before later first)

  pub none_more : (before : List SectionShape) (section : SectionShape) → NoneShow deal entry before → ShowsNothing deal entry section → NoneShow deal entry (before ++ section ∷ [])
  none_more [] section none shows = (shows, tt)
  none_more (first ∷ before) section none shows = (none.0, none_more before section none.1 shows)

-- ---- a claim more
abbrev pub with_claims : SectionShape → List Claim → SectionShape
with_claims section claims = record { deal = section.deal; trump = section.trump; claims = claims; ns = section.ns; ew = section.ew }

-- of the deal of no board, or without claims, a section shows nothing
pub foreign_shows_nothing : (boards : List Board) (section : SectionShape) → ((number : ℕ) → deal_of boards number ≡ Some section.deal → ⊥) → (entry : Entry) → ShowsNothing (deal_of boards entry.board) entry section
foreign_shows_nothing boards section none entry k shows = go (deal_of boards entry.board) refl shows
  where
    go : (o : Option Deal) → deal_of boards entry.board ≡ o → ShowsFor o entry k section → ⊥
    go None is shows = shows
    go (Some deal) is shows = none entry.board (is ∙ ap (λ (d : Deal). Some d) (sym shows.deal_is))

module _ (section : SectionShape) (claims : List Claim) (claim : Claim) where
  abbrev fewer : SectionShape
  fewer = with_claims section claims

  abbrev more : SectionShape
  more = with_claims section (claims ++ claim ∷ [])

  still_shows : (o : Option Deal) (entry : Entry) (k : ℕ) → ShowsFor o entry k fewer → ShowsFor o entry k more
  still_shows None entry k shows = shows
  still_shows (Some deal) entry k shows =
      record {
        deal_is = shows.deal_is;
        trump_is = shows.trump_is;
        claim = shows.claim;
        claimed = Contains-append_left claims (claim ∷ []) shows.claim shows.claimed;
        declarer_is = shows.declarer_is;
        tricks_are = shows.tricks_are;
        shown = shows.shown;
      }

  -- the claim shows it
  record IsByClaim (o : Option Deal) (entry : Entry) (k : ℕ) : Type 0 where
    pub deal_is : o ≡ Some section.deal
    pub trump_is : section.trump ≡ entry.trump
    pub declarer_is : claim.declarer ≡ entry.declarer
    pub tricks_are : claim.k ≡ k
    pub shown : IsClaimShown section claim

  only_one : (other : Claim) → Contains (claim ∷ []) other → claim ≡ other
  only_one other (zero, within, is) = is
  only_one other (suc number, within, is) = absurd (omega (arith, within))

  -- what the section shows it showed before, or the claim does
  shows_by : (o : Option Deal) (entry : Entry) (k : ℕ) → ShowsFor o entry k more → ShowsFor o entry k fewer ⊎ IsByClaim o entry k
  shows_by None entry k shows = inl shows
  shows_by (Some deal) entry k shows = go (Contains-append_cases claims (claim ∷ []) shows.claim shows.claimed)
    where
      go : Contains claims shows.claim ⊎ Contains (claim ∷ []) shows.claim → ShowsFor (Some deal) entry k fewer ⊎ IsByClaim (Some deal) entry k
      go (inl older) =
          inl (record {
            deal_is = shows.deal_is;
            trump_is = shows.trump_is;
            claim = shows.claim;
            claimed = older;
            declarer_is = shows.declarer_is;
            tricks_are = shows.tricks_are;
            shown = shows.shown;
          })
      go (inr own) =
          let same = only_one shows.claim own in
          inr (record {
            deal_is = ap (λ (d : Deal). Some d) (sym shows.deal_is);
            trump_is = shows.trump_is;
            declarer_is = ap (λ (c : Claim). c.declarer) same ∙ shows.declarer_is;
            tricks_are = ap (λ (c : Claim). c.k) same ∙ shows.tricks_are;
            shown = subst (λ (c : Claim). IsClaimShown section c) (sym same) shows.shown;
          })

  claim_shows : (entry : Entry) (k : ℕ) → section.trump ≡ entry.trump → claim.declarer ≡ entry.declarer → claim.k ≡ k → IsClaimShown section claim → ShowsFor (Some section.deal) entry k more
  claim_shows entry k trump_is declarer_is tricks_are shown =
      record {
        deal_is = refl;
        trump_is = trump_is;
        claim = claim;
        claimed = Contains-push claims claim;
        declarer_is = declarer_is;
        tricks_are = tricks_are;
        shown = shown;
      }

-- ---- the graphs of a bundle
in_pair : (pair : CheckedPair) (deal : Deal) (trump : Trump) (claims : List Claim) (side : Side)
    → graph_in pair side ≡ graph_of (record { deal = deal; trump = trump; claims = claims; ns = pair.ns.value; ew = pair.ew.value }) side
in_pair pair d t claims NorthSouth = refl
in_pair pair d t claims EastWest = refl

-- what the checked graphs of a pair are evidence of
abbrev pub section_of : Deal → Trump → CheckedPair → List Claim → SectionShape
section_of deal trump pair claims = record { deal = deal; trump = trump; claims = claims; ns = pair.ns.value; ew = pair.ew.value }

-- the pieces of a section are it
pub same_section : (section : SectionShape) (deal : Deal) (trump : Trump) (pair : CheckedPair) (claims : List Claim) → deal ≡ section.deal → trump ≡ section.trump → claims ≡ section.claims
    → pair.ns.value ≡ section.ns → pair.ew.value ≡ section.ew → section_of deal trump pair claims ≡ section
same_section section d trump pair claims deal_is trump_is claims_are ns_is ew_is =
    ap (λ (x : Deal). record { deal = x; trump = trump; claims = claims; ns = pair.ns.value; ew = pair.ew.value }) deal_is
    ∙ ap (λ (t : Trump). record { deal = section.deal; trump = t; claims = claims; ns = pair.ns.value; ew = pair.ew.value }) trump_is
    ∙ ap (λ (cs : List Claim). record { deal = section.deal; trump = section.trump; claims = cs; ns = pair.ns.value; ew = pair.ew.value }) claims_are
    ∙ ap (λ (g : GraphShape). record { deal = section.deal; trump = section.trump; claims = section.claims; ns = g; ew = pair.ew.value }) ns_is
    ∙ ap (λ (g : GraphShape). record { deal = section.deal; trump = section.trump; claims = section.claims; ns = section.ns; ew = g }) ew_is

-- ---- the values that a section shows
same_shown : (one other : Shown) → one.layout ≡ other.layout → one.declarer ≡ other.declarer → one.trump ≡ other.trump → one.k ≡ other.k → one ≡ other
same_shown one other layout declarer trump k =
    ap (λ (d : Deal). record { layout = d; declarer = one.declarer; trump = one.trump; k = one.k }) layout
    ∙ ap (λ (s : Seat). record { layout = other.layout; declarer = s; trump = one.trump; k = one.k }) declarer
    ∙ ap (λ (t : Trump). record { layout = other.layout; declarer = other.declarer; trump = t; k = one.k }) trump
    ∙ ap (λ (n : ℕ). record { layout = other.layout; declarer = other.declarer; trump = other.trump; k = n }) k

-- an entry of this declarer and denomination, on whatever board
abbrev any_entry : Shown → Entry
any_entry shown = record { board = 0; declarer = shown.declarer; trump = shown.trump }

module _ (section : SectionShape) (claims : List Claim) (claim : Claim) (all : List Shown) (are : AreShownBy (with_claims section claims) all) where
  pub judged_more : (value : Shown) → value ≡ record { layout = section.deal; declarer = claim.declarer; trump = section.trump; k = claim.k } → IsClaimShown section claim
      → AreShownBy (with_claims section (claims ++ claim ∷ [])) (all ++ value ∷ [])
  judged_more value is shows_claim shown = (λ among. there (Contains-append_cases all (value ∷ []) shown among), λ shows. here (shows_by section claims claim (Some shown.layout) (any_entry shown) shown.k shows))
    where
      only : Contains (value ∷ []) shown → value ≡ shown
      only (zero, within, same) = same
      only (suc number, within, same) = absurd (omega (arith, within))

      there : Contains all shown ⊎ Contains (value ∷ []) shown → ShowsTricks (with_claims section (claims ++ claim ∷ [])) shown.layout shown.declarer shown.trump shown.k
      there (inl older) = still_shows section claims claim (Some shown.layout) (any_entry shown) shown.k ((are shown).0 older)
      there (inr own) =
          subst (λ (s : Shown). ShowsTricks (with_claims section (claims ++ claim ∷ [])) s.layout s.declarer s.trump s.k) (sym is ∙ only own)
          (claim_shows section claims claim (record { board = 0; declarer = claim.declarer; trump = section.trump }) claim.k refl refl refl shows_claim)

      here : ShowsTricks (with_claims section claims) shown.layout shown.declarer shown.trump shown.k ⊎ IsByClaim section claims claim (Some shown.layout) (any_entry shown) shown.k → Contains (all ++ value ∷ []) shown
      here (inl older) = Contains-append_left all (value ∷ []) shown ((are shown).1 older)
      here (inr by) =
          let same : value ≡ shown =
          is ∙ same_shown (record { layout = section.deal; declarer = claim.declarer; trump = section.trump; k = claim.k }) shown (sym (same_Some shown.layout section.deal by.deal_is)) by.declarer_is by.trump_is by.tricks_are in
          subst (λ (s : Shown). Contains (all ++ value ∷ []) s) same (Contains-push all value)

  pub judged_less : (IsClaimShown section claim → ⊥) → AreShownBy (with_claims section (claims ++ claim ∷ [])) all
  judged_less not shown = (λ among. still_shows section claims claim (Some shown.layout) (any_entry shown) shown.k ((are shown).0 among), λ shows. here (shows_by section claims claim (Some shown.layout) (any_entry shown) shown.k shows))
    where
      here : ShowsTricks (with_claims section claims) shown.layout shown.declarer shown.trump shown.k ⊎ IsByClaim section claims claim (Some shown.layout) (any_entry shown) shown.k → Contains all shown
      here (inl older) = (are shown).1 older
      here (inr by) = absurd (not by.shown)

-- ---- a claim that is checked
apart : (shown : Shown) (fault : EntryFault) → Ok shown ≡ Err fault → ⊥
apart shown fault same = cc

module _ (one_answer : HasOneEntryAnswer) (deal : Deal) (trump : Trump) (pair : CheckedPair) (claims : List Claim) (claim : Claim) (claimed : Claimed) (is : IsClaimedOf pair claim claimed)
    (all : List Shown) (are : AreShownBy (section_of deal trump pair claims) all) where
  abbrev declarers : RootedShape
  declarers = record { graph = graph_of (section_of deal trump pair []) (side_of claim.declarer); root = claim.declarer_root }

  abbrev defenders : RootedShape
  defenders = record { graph = graph_of (section_of deal trump pair []) (other_side (side_of claim.declarer)); root = claim.defenders_root }

  answers_then : (checked : Result Shown EntryFault) → EntryAnswers deal claim.declarer trump claimed.k (rooted_shape claimed.declarer) (rooted_shape claimed.defenders) checked
      → EntryAnswers deal claim.declarer trump claim.k declarers defenders checked
  answers_then checked answers =
      subst (λ (e : RootedShape). EntryAnswers deal claim.declarer trump claim.k declarers e checked) defenders_are
      (subst (λ (d : RootedShape). EntryAnswers deal claim.declarer trump claim.k d (rooted_shape claimed.defenders) checked) declarers_are
      (subst (λ (k : ℕ). EntryAnswers deal claim.declarer trump k (rooted_shape claimed.declarer) (rooted_shape claimed.defenders) checked) is.k answers))
    where
      declarers_are : rooted_shape claimed.declarer ≡ declarers
      declarers_are =
          ap (λ (g : GraphShape). record { graph = g; root = claimed.declarer.root }) (is.declarer ∙ in_pair pair deal trump [] (side_of claim.declarer))
          ∙ ap (λ (r : Option ℕ). record { graph = graph_of (section_of deal trump pair []) (side_of claim.declarer); root = r }) is.declarer_root

      defenders_are : rooted_shape claimed.defenders ≡ defenders
      defenders_are =
          ap (λ (g : GraphShape). record { graph = g; root = claimed.defenders.root }) (is.defenders ∙ in_pair pair deal trump [] (other_side (side_of claim.declarer)))
          ∙ ap (λ (r : Option ℕ). record { graph = graph_of (section_of deal trump pair []) (other_side (side_of claim.declarer)); root = r }) is.defenders_root

  -- a claim that is shown
  pub proof_added : (value : Shown) → EntryAnswers deal claim.declarer trump claimed.k (rooted_shape claimed.declarer) (rooted_shape claimed.defenders) (Ok value)
      → AreShownBy (section_of deal trump pair (claims ++ claim ∷ [])) (all ++ value ∷ [])
  proof_added value answers =
      let same = answers_then (Ok value) answers in
      judged_more (section_of deal trump pair []) claims claim all are value same.0 same.1

  -- and one that is not
  pub none_added : (fault : EntryFault) → EntryAnswers deal claim.declarer trump claimed.k (rooted_shape claimed.declarer) (rooted_shape claimed.defenders) (Err fault)
      → AreShownBy (section_of deal trump pair (claims ++ claim ∷ [])) all
  none_added fault answers =
      let value : Shown = record { layout = deal; declarer = claim.declarer; trump = trump; k = claim.k } in
      judged_less (section_of deal trump pair []) claims claim all are
      (λ shown. apart value fault (one_answer deal claim.declarer trump claim.k declarers defenders (Ok value) (Err fault) (refl, shown) (answers_then (Err fault) answers)))
