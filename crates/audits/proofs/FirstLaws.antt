-- A section more, and the first value of each entry.
use Rattle.std.proofs.Common.{◌≡◌, ℕ, zero, suc, ◌<◌, Bool, true, false, cond, List, [], ◌∷◌, ◌++◌, length, get_or, set, Option, None, Some, is_some, refl, sym, ◌∙◌, ap, subst, arith}
use Rattle.std.specs.Prelude.{Contains, MatchOption, nat_eq}
use Rattle.std.specs.List.{find}
use Rattle.std.specs.Option.{option_or}
use Rattle.std.proofs.lemmas.Bool.{both_ways, eqb-true, eq-eqb}
use Rattle.std.proofs.lemmas.Option.{none-some, same_Some}
use Rattle.std.proofs.lemmas.List.{get_or-set_same, get_or-set_other}
use Rattle.std.proofs.lemmas.List.Elements.{All-contains}
use Rattle.std.proofs.lemmas.List.Folds.{find-append}
use Rattle.cards.specs.declared.seats.Seat.{Seat}
use Rattle.cards.specs.declared.suits.Trump.{Trump}
use Rattle.cards.specs.Deal.{Deal}
use Rattle.certificate_graph.specs.declared.bundles.Claim.{Claim}
use Rattle.checker.specs.declared.entries.Shown.{Shown}
use Rattle.pbn_deals.specs.declared.boards.Board.{Board}
use Rattle.lease_book.specs.declared.entries.Entry.{Entry}
use Rattle.lease_book.specs.Entries.{place_of}
use Rattle.lease_book.specs.Histories.{deal_of}
use Rattle.lease_book.specs.Twins.{is_first}
use Rattle.lease_book.proofs.EntryLaws.{same_entry}
use Rattle.lease_book.proofs.HistoryLaws.{option_or_none}
use Rattle.lease_book.proofs.TwinLaws.{first_is, first_itself}
use Rattle.evidence.specs.Sections.{SectionShape}
use Rattle.audits.specs.Shown.{ShowsTricks, ShowsFor, ShowsNothing, FirstShows, NoneShow}
use Rattle.audits.specs.Firsts.{AreShownBy, IsFor, AreFirstShown, AllKnown, AddsSection, AddsProofs, entry_on, is_at}
use Rattle.audits.proofs.ShownLaws.{first_now, first_still, none_more}

-- ---- lists
option_or_assoc : (a b c : Option Shown) → option_or a (option_or b c) ≡ option_or (option_or a b) c
option_or_assoc None b c = refl
option_or_assoc (Some x) b c = refl

found_in : (test : Shown → Bool) (all : List Shown) (shown : Shown) → find test all ≡ Some shown → Contains all shown × (test shown ≡ true)
found_in test [] shown h = cc
found_in test (first ∷ rest) shown h = go (test first) refl (found_in test rest shown) h
  where
    go : (b : Bool) → test first ≡ b → (find test rest ≡ Some shown → Contains rest shown × (test shown ≡ true)) → cond b (Some first) (find test rest) ≡ Some shown → Contains (first ∷ rest) shown × (test shown ≡ true)
    go true e later h =
        let same = same_Some first shown h in
        ((zero, omega arith, same), ap test (sym same) ∙ e)
    go false e later h =
        let found = later h in
        let within = (found.0).1 in
        ((suc (found.0).0, omega (arith, within), (found.0).2), found.1)

found_none : (test : Shown → Bool) (all : List Shown) (shown : Shown) → find test all ≡ None → Contains all shown → test shown ≡ true → ⊥
found_none test [] shown h (n, within, is) passes = absurd (omega (arith, within))
found_none test (first ∷ rest) shown h (n, within, is) passes = go (test first) refl h n within is (λ none among. found_none test rest shown none among passes)
  where
    go : (b : Bool) → test first ≡ b → cond b (Some first) (find test rest) ≡ None → (n : ℕ) → n < length (first ∷ rest) → get_or (first ∷ rest) n shown ≡ shown
        → (find test rest ≡ None → Contains rest shown → ⊥) → ⊥
    go true e h n within is later = none-some first (sym h)
    go false e h zero within is later = both_ways (test first) e (ap test is ∙ passes)
    go false e h (suc n) within is later = later h (n, omega (arith, within), is)

-- ---- proofs that are noted
pub adds_one : (board : ℕ) (old middle new : List (Option Shown)) (all : List Shown) (shown : Shown) → AddsProofs board old middle all → place_of (entry_on board shown) < length middle
    → new ≡ set middle (place_of (entry_on board shown)) (option_or (get_or middle (place_of (entry_on board shown)) None) (Some shown)) → AddsProofs board old new (all ++ shown ∷ [])
adds_one board old middle new all shown adds there is place = go (nat_eq own place) refl
  where
    own : ℕ
    own = place_of (entry_on board shown)

    value : Option Shown
    value = option_or (get_or middle own None) (Some shown)

    last : find (is_at board place) (all ++ shown ∷ []) ≡ option_or (find (is_at board place) all) (cond (nat_eq own place) (Some shown) None)
    last = find-append (is_at board place) all (shown ∷ [])

    go : (b : Bool) → nat_eq own place ≡ b → get_or new place None ≡ option_or (get_or old place None) (find (is_at board place) (all ++ shown ∷ []))
    go true e =
        let same : own ≡ place = eqb-true own place e in
        ap (λ (l : List (Option Shown)). get_or l place None) is
        ∙ ap (λ (n : ℕ). get_or (set middle own value) n None) (sym same)
        ∙ get_or-set_same middle own value None there
        ∙ ap (λ (n : ℕ). option_or (get_or middle n None) (Some shown)) same
        ∙ ap (λ (o : Option Shown). option_or o (Some shown)) (adds place)
        ∙ sym (option_or_assoc (get_or old place None) (find (is_at board place) all) (Some shown))
        ∙ ap (option_or (get_or old place None)) (sym (last ∙ ap (λ (b : Bool). option_or (find (is_at board place) all) (cond b (Some shown) None)) e))
    go false e =
        ap (λ (l : List (Option Shown)). get_or l place None) is
        ∙ get_or-set_other middle own place value None (λ same. both_ways (nat_eq own place) e (eq-eqb own place (sym same)))
        ∙ adds place
        ∙ ap (option_or (get_or old place None)) (sym (last ∙ ap (λ (b : Bool). option_or (find (is_at board place) all) (cond b (Some shown) None)) e ∙ option_or_none (find (is_at board place) all)))

-- ---- a section more
-- before the first section nothing is there
pub first_of_none : (boards : List Board) → AreFirstShown boards [] []
first_of_none boards entry first = tt

-- where no section of the deal comes, nothing changes
pub first_passed : (boards : List Board) (section : SectionShape) (firsts : List (Option Shown)) → ((entry : Entry) → ShowsNothing (deal_of boards entry.board) entry section) → AddsSection boards section firsts firsts
first_passed boards section firsts nothing before are entry first = go (get_or firsts (place_of entry) None) (are entry first)
  where
    deal : Option Deal
    deal = deal_of boards entry.board

    go : (o : Option Shown) → MatchOption o (NoneShow deal entry before) (λ s. IsFor boards entry s × FirstShows deal entry s.k before)
        → MatchOption o (NoneShow deal entry (before ++ section ∷ [])) (λ s. IsFor boards entry s × FirstShows deal entry s.k (before ++ section ∷ []))
    go None none = none_more deal entry before section none (nothing entry)
    go (Some s) (is, shows) = (is, first_still deal entry s.k before (section ∷ []) shows)

module _ (boards : List Board) (section : SectionShape) (board : ℕ) (on : deal_of boards board ≡ Some section.deal) (board_first : is_first boards board ≡ true) where
  -- the boards of a section and of an entry that it shows are one
  same_board : (entry : Entry) (deal : Deal) → is_first boards entry.board ≡ true → deal_of boards entry.board ≡ Some deal → section.deal ≡ deal → board ≡ entry.board
  same_board entry deal first has same =
      let one = first_is boards board deal (on ∙ ap (λ (d : Deal). Some d) same) in
      let other = first_is boards entry.board deal has in
      sym (first_itself boards board board_first) ∙ one ∙ sym other ∙ first_itself boards entry.board first

  -- the claims of a section whose entries all have values
  pub first_known : (firsts : List (Option Shown)) → AllKnown firsts board section.trump section.claims → AddsSection boards section firsts firsts
  first_known firsts known before are entry first = go (get_or firsts (place_of entry) None) refl (are entry first)
    where
      deal : Option Deal
      deal = deal_of boards entry.board

      nothing : get_or firsts (place_of entry) None ≡ None → (o : Option Deal) → deal_of boards entry.board ≡ o → (k : ℕ) → ShowsFor o entry k section → ⊥
      nothing none None is k shows = shows
      nothing none (Some dealt) is k shows =
          let same = same_board entry dealt first is shows.deal_is in
          let own : Entry = record { board = board; declarer = shows.claim.declarer; trump = section.trump } in
          let own_is : own ≡ entry =
          ap (λ (b : ℕ). record { board = b; declarer = shows.claim.declarer; trump = section.trump }) same
          ∙ ap (λ (s : Seat). record { board = entry.board; declarer = s; trump = section.trump }) shows.declarer_is
          ∙ ap (λ (t : Trump). record { board = entry.board; declarer = entry.declarer; trump = t }) shows.trump_is in
          both_ways (is_some (get_or firsts (place_of own) None))
          (ap (λ (e : Entry). is_some (get_or firsts (place_of e) None)) own_is ∙ ap (λ (o : Option Shown). is_some o) none)
          (All-contains (λ (claim : Claim). is_some (get_or firsts (place_of (record { board = board; declarer = claim.declarer; trump = section.trump })) None) ≡ true) section.claims shows.claim known shows.claimed)

      go : (o : Option Shown) → get_or firsts (place_of entry) None ≡ o → MatchOption o (NoneShow deal entry before) (λ s. IsFor boards entry s × FirstShows deal entry s.k before)
          → MatchOption o (NoneShow deal entry (before ++ section ∷ [])) (λ s. IsFor boards entry s × FirstShows deal entry s.k (before ++ section ∷ []))
      go None e none = none_more deal entry before section none (nothing e deal refl)
      go (Some s) e (is, shows) = (is, first_still deal entry s.k before (section ∷ []) shows)

  -- what a section shows, where nothing was
  pub first_added : (old new : List (Option Shown)) (all : List Shown) → AreShownBy section all → AddsProofs board old new all → AddsSection boards section old new
  first_added old new all shown_by adds before are entry first =
      subst (λ (o : Option Shown). MatchOption o (NoneShow deal entry (before ++ section ∷ [])) (λ s. IsFor boards entry s × FirstShows deal entry s.k (before ++ section ∷ []))) (sym (adds (place_of entry)))
      (go (get_or old (place_of entry) None) (are entry first) (find (is_at board (place_of entry)) all) refl)
    where
      deal : Option Deal
      deal = deal_of boards entry.board

      nothing : find (is_at board (place_of entry)) all ≡ None → (o : Option Deal) → deal_of boards entry.board ≡ o → (k : ℕ) → ShowsFor o entry k section → ⊥
      nothing none None is k shows = shows
      nothing none (Some dealt) is k shows =
          let value : Shown = record { layout = dealt; declarer = entry.declarer; trump = entry.trump; k = k } in
          let same = same_board entry dealt first is shows.deal_is in
          found_none (is_at board (place_of entry)) all value none ((shown_by value).1 shows)
          (eq-eqb (place_of (entry_on board value)) (place_of entry) (ap (λ (b : ℕ). place_of (record { board = b; declarer = entry.declarer; trump = entry.trump })) same))

      go : (o : Option Shown) → MatchOption o (NoneShow deal entry before) (λ s. IsFor boards entry s × FirstShows deal entry s.k before)
          → (f : Option Shown) → find (is_at board (place_of entry)) all ≡ f
          → MatchOption (option_or o f) (NoneShow deal entry (before ++ section ∷ [])) (λ s. IsFor boards entry s × FirstShows deal entry s.k (before ++ section ∷ []))
      go (Some s) (is, shows) f e = (is, first_still deal entry s.k before (section ∷ []) shows)
      go None none None e = none_more deal entry before section none (nothing e deal refl)
      go None none (Some s) e =
          let found = found_in (is_at board (place_of entry)) all s e in
          let same : entry_on board s ≡ entry = same_entry (entry_on board s) entry (eqb-true (place_of (entry_on board s)) (place_of entry) found.1) in
          let shows = (shown_by s).0 found.0 in
          let deal_is : deal ≡ Some s.layout = ap (λ (e : Entry). deal_of boards e.board) (sym same) ∙ on ∙ ap (λ (d : Deal). Some d) shows.deal_is in
          let for_entry : ShowsFor (Some s.layout) entry s.k section = subst (λ (e : Entry). ShowsTricks section s.layout e.declarer e.trump s.k) same shows in (
            record { deal_is = deal_is; declarer_is = ap (λ (e : Entry). e.declarer) same; trump_is = ap (λ (e : Entry). e.trump) same },
            first_now deal entry s.k before section none (subst (λ (o : Option Deal). ShowsFor o entry s.k section) (sym deal_is) for_entry),
          )
