-- `Cut::well_formed` meets its contract: the test of the word is the test of each count. Assumes nothing.
use Prim.Native.Nat.{ℕ}
use mir.Val.{Fits}
use mir.Syntax.{w8}
use lib.ListN.{get_or}
use Rattle.views.specs.Sets.{has}
use Rattle.views.specs.Cuts.{cut_ok}
use Rattle.views.proofs.Words.{word_fits_lem}
use borrow.Author.Rules.{rules}
use Rattle.views.proofs.Cut.well_formed.Goals as goal

pub returns : goal.returns
unfolding cut_ok
returns c =
    let counts = c.args.self.counts in
    let bytes : (k : ℕ) → Fits w8 (get_or counts k 0) = λ k. search rules in
    rw (c.packed-c.ensures, c.tops-h.ensures) (word_fits_lem (has c.args.set) (λ k. get_or counts k 0) (λ k. (bytes k).fits))
