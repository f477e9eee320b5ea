-- The text begins with the line of no trump so far.
use Rattle.std.proofs.Common.{◌≡◌, ◌≢◌, ◌<◌, List, ℕ}
use Rattle.cards.specs.declared.suits.Trump.{Trump}
use Rattle.certificate_graph.specs.Texts.{trump_text}
use Rattle.certificate_graph.proofs.HeadLemmas.{trump_place, trumps}
use Rattle.certificate_graph.proofs.head_reading.read_trump.Given as goal

abbrev pub invariant-loop-trump : goal.invariant-loop-trump
invariant-loop-trump l = record {
  items : l.trump-items ≡ trumps;
  none : (trump : Trump) (rest : List ℕ) → trump_place trump < l.trump-index → l.text ≢ trump_text trump rest;
}
