-- `take::cut_of` meets its contract: the places passed are filled, and each cast loses nothing, since the fields are narrow. Assumes nothing.
use borrow.Author.Rules.{rules}
use native.Mathlib.Omega.{arith}
use Prim.Native.Nat.{◌+◌}
use lib.ListN.{get_or}
use lib.Dec.{ltb}
use borrow.Author.Tests.{ltb-true}
use Rattle.below.proofs.All.{all_each}
use Rattle.below.proofs.Lists.{fills, filled_none, filled_end}
use Rattle.messages.specs.Fields.{narrow_counts, message_of}
use Rattle.messages.proofs.take.cut_of.Goals as goal

pub loop-n-init : goal.loop-n-init
loop-n-init c = filled_none _ 0 8

pub overflow_cast-counts : goal.overflow_cast-counts
unfolding narrow_counts
overflow_cast-counts c =
    record {
      fits = ltb-true _ _
          (all_each (λ k. ltb (get_or c.args.fields.now (16 + k) 0) 256) 8 c.loop-n.n (omega arith) c.requires);
    }

pub loop-n-preserved : goal.loop-n-preserved
loop-n-preserved c = search (rules, fills)

pub returns : goal.returns
unfolding message_of
returns c = rw (filled_end (λ k. get_or c.args.fields.now (16 + k) 0) 0 8 c.loop-n.counts c.loop-n.n (omega arith) (omega arith) c.loop-n.invariant)
