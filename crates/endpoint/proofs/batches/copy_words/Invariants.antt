-- `copy_words` meets its contract: the words passed are at the front. Assumes nothing.
use mathlib.Core.List.{◌++◌}
use mathlib.Core.Path.{◌≡◌}
use lib.ListN.{length, drop}
use Rattle.endpoint.specs.Pass.{words_after}
use Rattle.endpoint.proofs.batches.copy_words.Given as goal

abbrev pub invariant-loop-j : goal.invariant-loop-j
invariant-loop-j l = (length l.out ≡ length l.fn.out) × (l.out ≡ words_after l.area l.slot l.q l.given l.j ++ drop l.j l.fn.out)
