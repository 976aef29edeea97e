-- A refused step changes nothing in the group: the desk is as before, and no message goes out. Assumes nothing.
use Prim.Native.Nat.{ℕ}
use mathlib.Core.Bool.{Bool, true, false}
use mathlib.Core.List.{List}
use mathlib.Core.Path.{◌≡◌, refl}
use lib.Dec.{eqb}
use Rattle.below.proofs.Tests.{clash}
use Rattle.endpoint.specs.declared.EndPoint.{EndPoint}
use Rattle.endpoint.specs.Numbers.{verdict, settle, settle_area}
use Rattle.endpoint.specs.Change.{announces, passes, syncs}
use Rattle.endpoint.specs.Forward.{forwards}
use Rattle.endpoint.specs.Give.{gives_next}
use Rattle.endpoint.specs.Steps.{Event, send, block_ok, start_change, membership_view, receive, ask_to_block, declare, announce, pass_out, sync, forward, give_out, install, checks, effect, step, area_after}
use Rattle.group.specs.Group.{Desk, answer, desk_after, is_accepted, sent_to}

-- an effect is accepted
effect_accepted : (ev : Event) (e : EndPoint) (area : List ℕ) → (effect ev e area).number ≡ 0
unfolding effect announces passes syncs forwards gives_next
effect_accepted (send w) e area = refl
effect_accepted block_ok e area = refl
effect_accepted (start_change n s) e area = refl
effect_accepted (membership_view v) e area = refl
effect_accepted (receive q m) e area = refl
effect_accepted ask_to_block e area = refl
effect_accepted declare e area = refl
effect_accepted announce e area = refl
effect_accepted pass_out e area = refl
effect_accepted sync e area = refl
effect_accepted (forward q r) e area = refl
effect_accepted (give_out q) e area = refl
effect_accepted install e area = refl

module _ (ev : Event) (d : Desk) (h : is_accepted ev d ≡ false) where
  -- so a check applied
  stopped : eqb (verdict (checks ev d.ep d.area)) 0 ≡ false
  unfolding is_accepted answer step settle
  stopped = go (eqb (verdict (checks ev d.ep d.area)) 0) refl
    where
      go : (b : Bool) → eqb (verdict (checks ev d.ep d.area)) 0 ≡ b → eqb (verdict (checks ev d.ep d.area)) 0 ≡ false
      go false e = e
      go true e = clash (rw (e, effect_accepted ev d.ep d.area) refl) h

  pub refused_desk : desk_after ev d ≡ d
  unfolding desk_after answer step settle area_after settle_area
  refused_desk = rw stopped

  pub refused_sends : (q : ℕ) → sent_to (answer ev d) q ≡ false
  unfolding sent_to answer step settle
  refused_sends q = rw stopped
