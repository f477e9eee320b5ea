-- What a bundle shows of a play.
use Rattle.std.proofs.Common.{◌≡◌, List, Option, subst}
use Rattle.play_claims.specs.declared.claims.PlayBundle.{PlayBundle}
use Rattle.play_claims.specs.declared.claims.PlayClaim.{PlayClaim}
use Rattle.play_values.specs.PlayValues.{Recorded}
use Rattle.certified_plays.specs.declared.proofs.PlayProofs.{PlayProofs}
use Rattle.certified_plays.specs.Values.{ShownPlay, AreShownValues, AreJudged}
use Rattle.certified_plays.specs.Searches.{AreProofsOf, ShowsPlay}

pub shows_play : (bundle : PlayBundle) (play : Recorded) (shown : ShownPlay) (proofs : PlayProofs) (claims : List (Option PlayClaim)) → claims ≡ bundle.claims.items → AreProofsOf bundle proofs → AreJudged proofs claims play shown → AreShownValues shown.play shown.entries → ShowsPlay bundle play shown
shows_play bundle play shown proofs claims same proofs_are judged are = record {
  proofs = proofs;
  proofs_are = proofs_are;
  judged = subst (λ (those : List (Option PlayClaim)). AreJudged proofs those play shown) same judged;
  are = are;
}
