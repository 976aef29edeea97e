-- An end-point that calls lead to: from the fresh one of a number, any list of steps and batches, each with any input and any area. Assumes nothing.
use Prim.Native.Nat.{ℕ}
use mathlib.Core.List.{List}
use Rattle.endpoint.specs.declared.EndPoint.{EndPoint}
use Rattle.endpoint.specs.Fresh.{fresh}
use Rattle.endpoint.specs.Give.{batch}
use Rattle.endpoint.specs.Steps.{Event, step}

pub data Reached (p : ℕ) : EndPoint → Type 0 where
  start : Reached p (fresh p)
  stepped : {e : EndPoint} (ev : Event) (area : List ℕ) → Reached p e → Reached p (step ev e area).ep
  batched : {e : EndPoint} (area : List ℕ) (q room : ℕ) → Reached p e → Reached p (batch e area q room).ep
