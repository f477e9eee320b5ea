-- What a card makes of a trick.
use Rattle.std.proofs.Common.{◌≡◌, ℕ, ◌*◌, ◌%◌, ◌^◌, ◌<◌, ◌≤◌, inl, inr, refl, ◌∙◌, ap, arith, Decides, ltb}
use Rattle.std.specs.Int.{bit_at}
use Rattle.std.specs.Int.RustNames.{bit_or}
use Rattle.std.specs.Int.Bits.{bit_and}
use Rattle.std.proofs.lemmas.Bool.{cases_lt}
use Rattle.std.proofs.lemmas.Bool.Decides.{Decides-ltb, Decides-like}
use Rattle.std.proofs.lemmas.Nat.Bits.{bit_at_or, bit_at-lt}
use Rattle.partition_search.specs.declared.positions.Trick.{Trick}
use Rattle.partition_search.specs.Cards.{ShareCard}
use Rattle.partition_search.specs.Tricks.{AreLegal, IsAfter, LiesAbove, Takes, Ruffs}
use Rattle.partition_search.proofs.SetLaws.{both_have, shared, none_shared, share_card, and_card, with_place}

-- ---- what may be played

pub follows_suit : (led hand : ℕ) → (bit_and hand led ≡ 0 → ⊥) → hand < 2 ^ 64 → AreLegal led hand (bit_and hand led)
follows_suit led hand some fits = record { follows = λ _ bit. both_have hand led bit; free = λ none. absurd (none (shared hand led fits some)) }

pub plays_all : (led hand : ℕ) → bit_and hand led ≡ 0 → AreLegal led hand hand
plays_all led hand none = record { follows = λ share. absurd (none_shared hand led none share); free = λ _. refl }

-- ---- whether a card wins

module _ (trick : Trick) (trumps card bit : ℕ) (is : card ≡ 2 ^ bit) (lies : LiesAbove trick trumps card) where
  either : bit_and card (bit_or trick.deciding trumps) ≡ bit_at (bit_or trick.deciding trumps) bit * 2 ^ bit
  either = and_card card bit (bit_or trick.deciding trumps) is

  is_whole : bit_at (bit_or trick.deciding trumps) bit ≡ 1 → bit_and card (bit_or trick.deciding trumps) ≡ card
  is_whole one = either ∙ ap (λ n. n * 2 ^ bit) one ∙ omega (arith, is)

  wins : trick.best < bit_and card (bit_or trick.deciding trumps) → Takes trick trumps card
  wins higher = elim (cases_lt 0 (bit_at trick.deciding bit)) [
    | inl deciding ↦
        let has : bit_at trick.deciding bit ≡ 1 = omega (arith, deciding, bit_at-lt trick.deciding bit) in
        inl (record { same_suit = (share_card card bit trick.deciding is).1 has; higher = omega (arith, higher, is_whole (omega (arith, has, bit_at_or trick.deciding trumps bit, bit_at-lt trumps bit))) })
    | inr other ↦
        let trump : bit_at trumps bit ≡ 1 = elim (cases_lt 0 (bit_at trumps bit)) [
          | inl has ↦ omega (arith, has, bit_at-lt trumps bit)
          | inr none ↦
              let neither : bit_at (bit_or trick.deciding trumps) bit ≡ 0 = omega (arith, other, none, bit_at_or trick.deciding trumps bit) in
              absurd (omega (arith, higher, either, ap (λ n. n * 2 ^ bit) neither))
        ] in
        inr (record {
          other_suit = λ share. omega (arith, other, (share_card card bit trick.deciding is).0 share);
          trump = (share_card card bit trumps is).1 trump;
        })
  ]

  takes : Takes trick trumps card → trick.best < bit_and card (bit_or trick.deciding trumps)
  takes by = elim by [
    | inl tops ↦
        let has = (share_card card bit trick.deciding is).0 tops.same_suit in
        omega (arith, tops.higher, is_whole (omega (arith, has, bit_at_or trick.deciding trumps bit, bit_at-lt trumps bit)))
    | inr ruffs ↦
        let has = (share_card card bit trumps is).0 ruffs.trump in
        omega (arith, lies ruffs, is_whole (omega (arith, has, bit_at_or trick.deciding trumps bit, bit_at-lt trick.deciding bit)))
  ]

  pub takes-Decides : Decides (ltb trick.best (bit_and card (bit_or trick.deciding trumps))) (Takes trick trumps card)
  takes-Decides = Decides-like _ wins takes (Decides-ltb trick.best (bit_and card (bit_or trick.deciding trumps)))

-- ---- the trick after a card

module _ (old : Trick) (seat card trumps player bit : ℕ) (fits : card < 2 ^ 64) (player_is : player ≡ seat % 4) (bit_is : bit ≡ 2 ^ (seat % 4)) where
  pub after_higher : (bit_and card old.deciding ≡ 0 → ⊥) → old.best < card →
      IsAfter old (record { led = old.led; deciding = old.deciding; best = card; winner = player; contenders = bit_or old.contenders bit }) seat card trumps
  after_higher some higher =
      let share = shared card old.deciding fits some in record {
        led = refl;
        takes = λ _. (refl, player_is);
        stays = λ not. absurd (not (inl (record { same_suit = share; higher = higher })));
        ruffs = λ ruffs. absurd (ruffs.other_suit share);
        decides = λ _. refl;
        follows = λ _ other. with_place old.contenders (seat % 4) bit bit_is other;
        discards = λ other _. absurd (other share);
      }

  pub after_lower : (bit_and card old.deciding ≡ 0 → ⊥) → card ≤ old.best →
      IsAfter old (record { led = old.led; deciding = old.deciding; best = old.best; winner = old.winner; contenders = bit_or old.contenders bit }) seat card trumps
  after_lower some lower =
      let share = shared card old.deciding fits some in record {
        led = refl;
        takes = λ by. absurd (elim by [ inl tops ↦ omega (arith, tops.higher, lower) | inr ruffs ↦ ruffs.other_suit share ]);
        stays = λ _. (refl, refl);
        ruffs = λ ruffs. absurd (ruffs.other_suit share);
        decides = λ _. refl;
        follows = λ _ other. with_place old.contenders (seat % 4) bit bit_is other;
        discards = λ other _. absurd (other share);
      }

  pub after_ruff : bit_and card old.deciding ≡ 0 → (bit_and card trumps ≡ 0 → ⊥) →
      IsAfter old (record { led = old.led; deciding = trumps; best = card; winner = player; contenders = bit }) seat card trumps
  after_ruff none some =
      let other : ShareCard card old.deciding → ⊥ = none_shared card old.deciding none in
      let trump = shared card trumps fits some in
      let ruffs : Ruffs old trumps card = record { other_suit = other; trump = trump } in record {
        led = refl;
        takes = λ _. (refl, player_is);
        stays = λ not. absurd (not (inr ruffs));
        ruffs = λ _. (refl, bit_is);
        decides = λ not. absurd (not ruffs);
        follows = λ share. absurd (other share);
        discards = λ _ not. absurd (not trump);
      }

  pub after_discard : bit_and card old.deciding ≡ 0 → bit_and card trumps ≡ 0 → IsAfter old old seat card trumps
  after_discard none no_trump =
      let other : ShareCard card old.deciding → ⊥ = none_shared card old.deciding none in record {
        led = refl;
        takes = λ by. absurd (elim by [ inl tops ↦ other tops.same_suit | inr ruffs ↦ none_shared card trumps no_trump ruffs.trump ]);
        stays = λ _. (refl, refl);
        ruffs = λ ruffs. absurd (none_shared card trumps no_trump ruffs.trump);
        decides = λ _. refl;
        follows = λ share. absurd (other share);
        discards = λ _ _. refl;
      }
