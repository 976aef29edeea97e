-- `take::view_of` meets its contract: the places passed are filled, and each cast loses nothing, since the fields are narrow. Assumes nothing.
use borrow.Author.Rules.{rules}
use native.Mathlib.Omega.{arith}
use Prim.Native.Nat.{◌+◌, ◌^◌}
use mathlib.Core.Bool.{◌&&◌}
use lib.ListN.{get_or}
use lib.Dec.{ltb}
use borrow.Author.Tests.{ltb-true}
use Rattle.below.proofs.Tests.{and_left, and_right}
use Rattle.below.proofs.All.{all_each}
use Rattle.below.proofs.Lists.{fills, filled_none, filled_end}
use Rattle.messages.specs.Fields.{narrow_starts, message_of}
use Rattle.messages.specs.Fits.{narrow_view}
use Rattle.messages.proofs.take.view_of.Goals as goal

pub loop-n-init : goal.loop-n-init
loop-n-init c = filled_none _ 0 8

pub overflow_cast-starts : goal.overflow_cast-starts
unfolding narrow_view narrow_starts
overflow_cast-starts c =
    let fs = c.args.fields.now in
    record {
      fits = ltb-true _ _
          (all_each (λ k. ltb (get_or fs (8 + k) 0) (2 ^ 32)) 8 c.loop-n.n (omega arith)
          (and_right (ltb (get_or fs 7 0) 256) (narrow_starts fs)
          (and_right (ltb (get_or fs 6 0) (2 ^ 32)) (ltb (get_or fs 7 0) 256 && narrow_starts fs) c.requires)));
    }

pub loop-n-preserved : goal.loop-n-preserved
loop-n-preserved c = search (rules, fills)

pub overflow_cast-result : goal.overflow_cast-result
unfolding narrow_view
overflow_cast-result c =
    let fs = c.args.fields.now in
    record { fits = ltb-true _ _ (and_left (ltb (get_or fs 6 0) (2 ^ 32)) (ltb (get_or fs 7 0) 256 && narrow_starts fs) c.requires) }

pub overflow_cast-result-2 : goal.overflow_cast-result-2
unfolding narrow_view
overflow_cast-result-2 c =
    let fs = c.args.fields.now in
    record {
      fits = ltb-true _ _
          (and_left (ltb (get_or fs 7 0) 256) (narrow_starts fs)
          (and_right (ltb (get_or fs 6 0) (2 ^ 32)) (ltb (get_or fs 7 0) 256 && narrow_starts fs) c.requires));
    }

pub returns : goal.returns
unfolding message_of
returns c = rw (filled_end (λ k. get_or c.args.fields.now (8 + k) 0) 0 8 c.loop-n.starts c.loop-n.n (omega arith) (omega arith) c.loop-n.invariant)
