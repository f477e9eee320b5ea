-- The judgement of each entry, and of all.
use Rattle.std.proofs.Common.{◌≡◌, ℕ, ◌+◌, ◌<◌, ◌≤◌, List, [], ◌∷◌, ◌++◌, length, take, Option, Some, sym, ◌∙◌, ap, subst, arith, inl, inr, length-append, length-take, below_more}
use Rattle.std.proofs.lemmas.Bool.{cases_lt}
use Rattle.std.proofs.Math.ListN.{get_or-map, get_or-append, get_or-eq_default}
use Rattle.std.proofs.lemmas.List.{length-map, take_all, get_or_push}
use Rattle.std.specs.Prelude.{IfSome}
use Rattle.cards.specs.declared.seats.Side.{Side}
use Rattle.cards.specs.declared.seats.Side.TheVariants.{NorthSouth, EastWest}
use Rattle.cards.specs.declared.pack.Card.{Card}
use Rattle.cards.specs.Seats.{other_side}
use Rattle.cards.specs.Deal.{size_of, IsLayout}
use Rattle.play_rules.specs.History.{Opening, tricks_of}
use Rattle.play_rules.specs.Legal.{IsLegalHistory, cards_in_play}
use Rattle.play_rules.specs.Position.{IsReached}
use Rattle.strategies.proofs.LawProofs.{what_is_won, share}
use Rattle.play_claims.specs.declared.claims.PlayClaim.{PlayClaim}
use Rattle.play_values.specs.PlayValues.{Recorded, first_cards, IsPlayValue, IsValueAt}
use Rattle.certified_plays.specs.declared.proofs.PlayProofs.{PlayProofs}
use Rattle.certified_plays.specs.declared.faults.ValueFault.{ValueFault}
use Rattle.certified_plays.specs.declared.faults.ValueFault.TheVariants as faults
use Rattle.certified_plays.specs.declared.faults.PlayEntry.{PlayEntry}
use Rattle.certified_plays.specs.declared.faults.PlayEntry.TheVariants.{Known, Unknown}
use Rattle.certified_plays.specs.Judging.{IsClaimFault, IsValueFault, IsJudged, claim_after}
use Rattle.certified_plays.specs.Values.{ShownPlay, AreJudged, AreShownValues, entry_at, known_in}

-- ---- after the last card
-- the tricks won by both sides are all
won_by_both : (opening : Opening) (side : Side) (history : List Card) → IsLegalHistory opening history → length history ≡ cards_in_play opening → tricks_of side opening.trump opening.leader history + tricks_of (other_side side) opening.trump opening.leader history ≡ size_of opening.deal
won_by_both opening NorthSouth history legal all = share opening history (record { legal = legal; whole = all })
won_by_both opening EastWest history legal all = omega (arith, share opening history (record { legal = legal; whole = all }))

-- the tricks won are the value
over_value : (opening : Opening) (declarers : Side) (history : List Card) → IsLayout opening.deal → IsLegalHistory opening history → length history ≡ cards_in_play opening → IsPlayValue opening declarers history (tricks_of declarers opening.trump opening.leader history)
over_value opening declarers history layout legal all =
    let both = won_by_both opening declarers history legal all in
    record {
      within = omega (arith, both);
      declarers_win = what_is_won opening declarers _ history layout legal (omega arith);
      defenders_win = what_is_won opening (other_side declarers) _ history layout legal (omega (arith, both));
    }

pub over_is_judged : (proofs : PlayProofs) (claims : List (Option PlayClaim)) (play : Recorded) (count tricks : ℕ) → count ≤ length play.position.history → IsReached play.position → length (first_cards play count) ≡ cards_in_play play.position.opening →
    tricks ≡ tricks_of play.declarers play.position.opening.trump play.position.opening.leader play.position.history → IsJudged proofs claims play count (Known tricks)
over_is_judged proofs claims play count tricks within reached all is =
    let history = play.position.history in
    let opening = play.position.opening in
    let whole : length history ≤ count = omega (arith, all, reached.within, length-take count history) in
    let same : take count history ≡ history = take_all count history whole in
    let value = over_value opening play.declarers history reached.layout reached.legal (ap length (sym same) ∙ all) in (
      subst (λ (n : ℕ). IsPlayValue opening play.declarers (take count history) n) (sym is) (subst (λ (h : List Card). IsPlayValue opening play.declarers h (tricks_of play.declarers opening.trump opening.leader history)) (sym same) value),
      λ left. absurd (omega (arith, left, all)),
    )

-- ---- one entry
pub fault_of_claim : (proofs : PlayProofs) (claims : List (Option PlayClaim)) (play : Recorded) (count : ℕ) (claim : PlayClaim) (fault : ValueFault) → claim_after claims count ≡ Some claim → IsClaimFault proofs play.position.opening (first_cards play count) claim fault → IsValueFault proofs claims play count fault
fault_of_claim proofs claims play count claim faults.ClaimMissing there is = absurd is
fault_of_claim proofs claims play count claim faults.TricksTooLarge there is = (claim, there, is)
fault_of_claim proofs claims play count claim (faults.NorthSouth fault) there is = (claim, there, is)
fault_of_claim proofs claims play count claim (faults.EastWest fault) there is = (claim, there, is)

known_value : (proofs : PlayProofs) (claims : List (Option PlayClaim)) (play : Recorded) (count : ℕ) (entry : PlayEntry) → IsJudged proofs claims play count entry → IfSome (known_in entry) (IsValueAt play count)
known_value proofs claims play count (Known tricks) judged = judged.0
known_value proofs claims play count (Unknown fault) judged = tt

-- ---- all entries
-- the entries so far are judged
pub record AreJudgedTo (proofs : PlayProofs) (claims : List (Option PlayClaim)) (play : Recorded) (entries : List PlayEntry) (count : ℕ) : Type 0 where
  pub size : length entries ≡ count
  pub judged : (k : ℕ) → k < count → IsJudged proofs claims play k (entry_at entries k)

pub one_more_judged : (proofs : PlayProofs) (claims : List (Option PlayClaim)) (play : Recorded) (entries more : List PlayEntry) (count : ℕ) (entry : PlayEntry) → AreJudgedTo proofs claims play entries count → IsJudged proofs claims play count entry → more ≡ entries ++ entry ∷ [] →
    AreJudgedTo proofs claims play more (count + 1)
one_more_judged proofs claims play entries more count entry before judged is = record {
  size = ap length is ∙ (length-append entries (entry ∷ []) ∙ omega (arith, before.size));
  judged = below_more (λ k. IsJudged proofs claims play k (entry_at more k)) count
      (λ k h. subst (IsJudged proofs claims play k) (sym (ap (λ (list : List PlayEntry). entry_at list k) is ∙ get_or-append entries (entry ∷ []) (Unknown faults.ClaimMissing) k (omega (arith, h, before.size)))) (before.judged k h))
      (subst (IsJudged proofs claims play count) (sym (ap (λ (list : List PlayEntry). entry_at list count) is ∙ get_or_push entries entry (Unknown faults.ClaimMissing) count before.size)) judged);
}

entry_known : (proofs : PlayProofs) (claims : List (Option PlayClaim)) (play : Recorded) (entries : List PlayEntry) (count : ℕ) → AreJudgedTo proofs claims play entries (length play.position.history + 1) → IfSome (known_in (entry_at entries count)) (IsValueAt play count)
entry_known proofs claims play entries count judged =
    elim (cases_lt count (length play.position.history + 1)) [
      | inl h ↦ known_value proofs claims play count (entry_at entries count) (judged.judged count h)
      | inr h ↦ subst (λ (entry : PlayEntry). IfSome (known_in entry) (IsValueAt play count)) (sym (get_or-eq_default entries (Unknown faults.ClaimMissing) (omega (arith, h, judged.size)))) tt
    ]

pub all_values : (proofs : PlayProofs) (claims : List (Option PlayClaim)) (play : Recorded) (entries : List PlayEntry) → AreJudgedTo proofs claims play entries (length play.position.history + 1) → AreShownValues play entries
all_values proofs claims play entries judged = record {
  count = length-map entries known_in ∙ judged.size;
  each = λ count. subst (λ (value : Option ℕ). IfSome value (IsValueAt play count)) (sym (get_or-map known_in entries count (Unknown faults.ClaimMissing))) (entry_known proofs claims play entries count judged);
}

pub all_judged : (proofs : PlayProofs) (claims : List (Option PlayClaim)) (play : Recorded) (shown : ShownPlay) (entries : List PlayEntry) → shown.play ≡ play → shown.entries ≡ entries → AreJudgedTo proofs claims play entries (length play.position.history + 1) → AreJudged proofs claims play shown
all_judged proofs claims play shown entries same_play same judged = (
  same_play,
  λ count h. subst (λ (list : List PlayEntry). IsJudged proofs claims play count (entry_at list count)) (sym same) (judged.judged count (omega (arith, h))),
)
