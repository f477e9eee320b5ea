-- No byte so far was NUL.
use Rattle.std.proofs.Common.{◌≡◌, ◌++◌, take, drop}
use Rattle.dds_calls.specs.Texts.{before_nul}
use Rattle.dds_calls.proofs.texts.before_nul.Given as goal

abbrev pub invariant-loop-place : goal.invariant-loop-place
invariant-loop-place l = before_nul l.text ≡ take l.place l.text ++ before_nul (drop l.place l.text)
