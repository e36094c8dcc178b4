use Rattle.std.proofs.Common.{◌≡◌, ◌++◌, take, drop}
use Rattle.policy.specs.Runs.{replaced}
use Rattle.policy.proofs.places.replace.Given as goal

abbrev pub invariant-loop-place : goal.invariant-loop-place
invariant-loop-place l = l.pages ≡ replaced l.gone l.page (take l.place-index l.initial.pages) ++ drop l.place-index l.initial.pages
