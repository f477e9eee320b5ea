-- Two putters and two takers after their work.
use Rattle.std.proofs.Common.{◌≡◌, List, [], ◌∷◌, All, length, sym, ap, ◌∙◌, subst}
use Rattle.std.proofs.lemmas.List.Elements.{All-nil, All-cons, All-head, All-tail}
use Rattle.farm_relay.specs.declared.putters.Putter.{Putter}
use Rattle.farm_relay.specs.declared.takers.Taker.{Taker}
use Rattle.farm_relay.specs.declared.relays.Relay.{Relay}
use Rattle.farm_relay.proofs.RelayLaws.{still_putter, still_taker}
use Rattle.farm_relay.specs.Relays.{IsPutterOf, IsTakerOf, AreAllOf, PutsAtSame, TakesAtSame}

both_still : {X : Type 0} (P : X → Type 0) (old new : List X) (a b a' b' : X) → old ≡ a ∷ b ∷ [] → new ≡ a' ∷ b' ∷ [] → (P a → P a') → (P b → P b') → All P old → All P new
both_still {X = X} P old new a b a' b' was is first second all =
    let all' : All P (a ∷ b ∷ []) = subst (λ (l : List X). All P l) was all in
    let rest : All P (b ∷ []) = All-tail P a (b ∷ []) all' in
    subst (λ (l : List X). All P l) (sym is) (All-cons P a' (b' ∷ []) (first (All-head P a (b ∷ []) all')) (All-cons P b' [] (second (All-head P b [] rest)) (All-nil P)))

module _ {T : Type 0} (relay : Relay T) where
  pub still_all : (ps ps' : List (Putter T)) (ts ts' : List (Taker T)) (low high low' high' : Putter T) (one other one' other' : Taker T)
      → ps ≡ low ∷ high ∷ [] → ps' ≡ low' ∷ high' ∷ [] → ts ≡ one ∷ other ∷ [] → ts' ≡ one' ∷ other' ∷ []
      → PutsAtSame low low' → PutsAtSame high high' → TakesAtSame one one' → TakesAtSame other other'
      → AreAllOf relay ps ts → AreAllOf relay ps' ts'
  still_all ps ps' ts ts' low high low' high' one other one' other' puts puts' takes takes' l h o o' all = record {
    putters_are = both_still (IsPutterOf relay) ps ps' low high low' high' puts puts' (still_putter relay low low' l) (still_putter relay high high' h) all.putters_are;
    takers_are = both_still (IsTakerOf relay) ts ts' one other one' other' takes takes' (still_taker relay one one' o) (still_taker relay other other' o') all.takers_are;
    all_putters = ap (λ (x : List (Putter T)). length x) puts' ∙ sym (ap (λ (x : List (Putter T)). length x) puts) ∙ all.all_putters;
    all_takers = ap (λ (x : List (Taker T)). length x) takes' ∙ sym (ap (λ (x : List (Taker T)). length x) takes) ∙ all.all_takers;
  }
