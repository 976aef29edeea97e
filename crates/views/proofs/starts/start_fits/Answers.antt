-- `starts::start_fits` meets its contract: the shift and the remainder are the bit, and two tests agree. Assumes nothing.
use Prim.Native.Nat.{◌/◌, ◌%◌, ◌^◌}
use mathlib.Core.Bool.{Bool, true, false, beq, not, cond}
use mathlib.Core.Path.{◌≡◌, refl}
use lib.Dec.{eqb}
use Rattle.below.specs.Bits.{bit}
use Rattle.views.specs.Sets.{has}
use Rattle.views.proofs.starts.start_fits.Goals as goal

-- z says that the start number is 0, b that it is a member's
agree : (z b : Bool) → beq (not z) b ≡ cond b (not z) z
agree true true = refl
agree true false = refl
agree false true = refl
agree false false = refl

pub returns : goal.returns
unfolding has bit
returns c = agree (eqb c.args.start 0) (eqb (c.args.set / 2 ^ c.args.n % 2) 1)
