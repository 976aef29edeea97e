-- What is known of an end-point that calls lead to, whatever their inputs: one record, which each call keeps. So none is ever refused for being unsound.
-- Assumes nothing.
use Prim.Native.Nat.{ℕ, zero, suc, ◌≤◌}
use mathlib.Core.Bool.{Bool, true, false, cond}
use mathlib.Core.List.{List, []}
use mathlib.Core.Path.{◌≡◌, refl}
use lib.Dec.{eqb}
use Rattle.endpoint.specs.declared.EndPoint.{EndPoint}
use Rattle.endpoint.specs.Fresh.{fresh}
use Rattle.endpoint.specs.Sound.{sound}
use Rattle.endpoint.specs.Give.{give_one, give_many, batch_number, batch}
use Rattle.endpoint.specs.Steps.{Event, give_out, checks, effect, step}
use Rattle.endpoint.specs.Reached.{Reached, start, stepped, batched}
use Rattle.endpoint.proofs.Parts.{Shaped}
use Rattle.endpoint.proofs.Start.{fresh_sound, fresh_shaped}
use Rattle.endpoint.proofs.Kept.{step_kept}

pub record Known (e : EndPoint) : Type 0 where
  -- it is sound
  pub sound_now : sound e ≡ true
  -- and of the code's types: its arrays have their lengths
  pub shaped : Shaped e

pub fresh_known : (p : ℕ) → p ≤ 7 → Known (fresh p)
fresh_known p l = record { sound_now = fresh_sound p l; shaped = fresh_shaped p }

pub step_known : (ev : Event) (e : EndPoint) (area : List ℕ) → Known e → Known (step ev e area).ep
step_known ev e area k = let s = step_kept ev e area k.shaped k.sound_now in record { sound_now = s.0; shaped = s.1 }

-- a batch is so many give-outs
one_known : (e : EndPoint) (area : List ℕ) (q : ℕ) → Known e → Known (give_one e area q).ep
unfolding give_one step checks effect
one_known e area q k = step_known (give_out q) e area k

many_known : (e : EndPoint) (area : List ℕ) (q n : ℕ) → Known e → Known (give_many e area q n).ep
unfolding give_many
many_known e area q zero k = k
many_known e area q (suc n) k = go (eqb (give_one e area q).number 0) refl (many_known (give_one e area q).ep area q n (one_known e area q k))
  where
    go : (b : Bool) → eqb (give_one e area q).number 0 ≡ b → Known (give_many (give_one e area q).ep area q n).ep → Known (give_many e area q (suc n)).ep
    go true t m = rw (give_many, t) m
    go false t m = rw (give_many, t) k

pub batch_known : (e : EndPoint) (area : List ℕ) (q room : ℕ) → Known e → Known (batch e area q room).ep
unfolding batch
batch_known e area q room k = go (eqb (batch_number e area q) 0)
  where
    go : (b : Bool) → Known (cond b (give_many e area q room) (record { ep = e; words = [] })).ep
    go true = many_known e area q room k
    go false = k

pub reached_known : (p : ℕ) → p ≤ 7 → {e : EndPoint} → Reached p e → Known e
reached_known p l start = fresh_known p l
reached_known p l (stepped {e} ev area r) = step_known ev e area (reached_known p l r)
reached_known p l (batched {e} area q room r) = batch_known e area q room (reached_known p l r)

-- whatever the inputs were
pub calls_sound : (p : ℕ) → p ≤ 7 → {e : EndPoint} → Reached p e → sound e ≡ true
calls_sound p l r = (reached_known p l r).sound_now
