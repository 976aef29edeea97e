-- "The lowest number that applies is given; a check is made only when all lower ones passed"; "a refusal gives only its number; the end-point and every lent area are as before".
--   verdict-given, verdict-lowest : the number given applies, and no lower one does, for any table that rises.
--   checks-rise : the table of each of the thirteen steps rises.
--   refused_keeps, accepted_effect : what a refused and an accepted step leave, by one lemma over the table.
-- Assumes nothing.
use Prim.Native.Nat.{ℕ, ◌≤◌, ◌<◌}
use native.Mathlib.Omega.{arith}
use mathlib.Core.Bool.{Bool, true, false, cond}
use mathlib.Core.List.{List, [], ◌∷◌}
use mathlib.Core.Path.{◌≡◌, refl, sym, ◌∙◌}
use lib.Dec.{eqb, lit<}
use borrow.Author.Tests.{eq-eqb, ne_eqb, eqb-true}
use Rattle.endpoint.specs.declared.EndPoint.{EndPoint}
use Rattle.endpoint.specs.Numbers.{Check, verdict, settle, settle_area}
use Rattle.endpoint.specs.Application.{send_checks, block_ok_checks}
use Rattle.endpoint.specs.Membership.{start_checks, membership_checks}
use Rattle.endpoint.specs.Receive.{view_checks, word_checks, sync_checks, forward_checks, by_kind, receive_checks}
use Rattle.endpoint.specs.Change.{ask_checks, declare_checks, announce_checks, announces, pass_checks, passes, sync_out_checks, syncs}
use Rattle.endpoint.specs.Forward.{forward_out_checks, forwards}
use Rattle.endpoint.specs.Give.{give_checks, gives_next}
use Rattle.endpoint.specs.Install.{install_checks}
use Rattle.endpoint.specs.Steps.{Event, send, block_ok, start_change, membership_view, receive, ask_to_block, declare, announce, pass_out, sync, forward, give_out, install, checks, effect, stored, step, area_after}

-- a check of this number applies
pub data Applies (n : ℕ) : List Check → Type 0 where
  here : {c : Check} {cs : List Check} → c.number ≡ n → c.applies ≡ true → Applies n (c ∷ cs)
  there : {c : Check} {cs : List Check} → Applies n cs → Applies n (c ∷ cs)

-- the numbers rise, from above n
abbrev pub Rising : ℕ → List Check → Type 0
Rising n [] = Unit {0}
Rising n (c ∷ cs) = (n < c.number) × Rising c.number cs

-- ---- the number given

-- it applies
pub verdict_given : (cs : List Check) → (verdict cs ≡ 0 → ⊥) → Applies (verdict cs) cs
unfolding verdict
verdict_given [] h = absurd (h refl)
verdict_given (c ∷ cs) h = go c.applies refl (verdict_given cs) h
  where
    go : (b : Bool) → c.applies ≡ b → ((verdict cs ≡ 0 → ⊥) → Applies (verdict cs) cs) → (cond b c.number (verdict cs) ≡ 0 → ⊥) → Applies (cond b c.number (verdict cs)) (c ∷ cs)
    go true e rest k = here refl e
    go false e rest k = there (rest k)

-- each that applies is above n
applies_above : (cs : List Check) (n m : ℕ) → Rising n cs → Applies m cs → n < m
applies_above [] n m r x = elim x [ ]
applies_above (c ∷ cs) n m r (here e a) = rw (← e) r.0
applies_above (c ∷ cs) n m r (there a) = omega (arith, r.0, applies_above cs c.number m r.1 a)

-- and no lower number applies
pub verdict_lowest : (cs : List Check) (n m : ℕ) → Rising n cs → Applies m cs → (verdict cs ≤ m) × (verdict cs ≡ 0 → ⊥)
unfolding verdict
verdict_lowest [] n m r x = elim x [ ]
verdict_lowest (c ∷ cs) n m r (here e a) = (rw (a, e) (omega arith), λ z. let q : c.number ≡ 0 = rw a at z in omega (arith, r.0))
verdict_lowest (c ∷ cs) n m r (there a) = go c.applies (verdict_lowest cs c.number m r.1 a)
  where
    go : (b : Bool) → (verdict cs ≤ m) × (verdict cs ≡ 0 → ⊥) → (cond b c.number (verdict cs) ≤ m) × (cond b c.number (verdict cs) ≡ 0 → ⊥)
    go true p = (omega (arith, applies_above cs c.number m r.1 a), λ z. omega (arith, r.0))
    go false p = p

-- accepted: none applies
pub verdict_none : (cs : List Check) (n m : ℕ) → Rising n cs → verdict cs ≡ 0 → Applies m cs → ⊥
verdict_none cs n m r z a = (verdict_lowest cs n m r a).1 z

-- ---- the thirteen tables rise

by_kind_rises : (k n : ℕ) (v w s f : List Check) → Rising n v → Rising n w → Rising n s → Rising n f → Rising n (by_kind k v w s f)
by_kind_rises k n v w s f a b c d = go (eqb k 1) (eqb k 2) (eqb k 3)
  where
    go : (x y z : Bool) → Rising n (cond x v (cond y w (cond z s f)))
    go true y z = a
    go false true z = b
    go false false true = c
    go false false false = d

pub checks_rise : (ev : Event) (e : EndPoint) (area : List ℕ) → Rising 0 (checks ev e area)
unfolding checks send_checks block_ok_checks start_checks membership_checks receive_checks view_checks word_checks sync_checks forward_checks ask_checks declare_checks announce_checks pass_checks sync_out_checks forward_out_checks give_checks install_checks
checks_rise (send w) e area = (lit< tt, (lit< tt, (lit< tt, tt)))
checks_rise block_ok e area = (lit< tt, (lit< tt, tt))
checks_rise (start_change n s) e area = (lit< tt, (lit< tt, (lit< tt, tt)))
checks_rise (membership_view v) e area = (lit< tt, (lit< tt, (lit< tt, (lit< tt, tt))))
checks_rise (receive q m) e area = (
  lit< tt,
  by_kind_rises m.kind 1 (view_checks e q m.view) (word_checks e area q m.word) (sync_checks e q m) (forward_checks e area q m)
      (lit< tt, (lit< tt, (lit< tt, tt)))
      (lit< tt, (lit< tt, (lit< tt, tt)))
      (lit< tt, (lit< tt, tt))
      (lit< tt, (lit< tt, tt)),
)
checks_rise ask_to_block e area = (lit< tt, (lit< tt, tt))
checks_rise declare e area = (lit< tt, tt)
checks_rise announce e area = (lit< tt, (lit< tt, (lit< tt, tt)))
checks_rise pass_out e area = (lit< tt, (lit< tt, (lit< tt, tt)))
checks_rise sync e area = (lit< tt, (lit< tt, (lit< tt, tt)))
checks_rise (forward q r) e area = (lit< tt, (lit< tt, (lit< tt, (lit< tt, tt))))
checks_rise (give_out q) e area = (lit< tt, (lit< tt, (lit< tt, (lit< tt, tt))))
checks_rise install e area = (lit< tt, (lit< tt, (lit< tt, (lit< tt, (lit< tt, (lit< tt, tt))))))

-- ---- what a step leaves

-- an effect's own number is 0
pub effect_accepts : (ev : Event) (e : EndPoint) (area : List ℕ) → (effect ev e area).number ≡ 0
unfolding effect announces passes syncs forwards gives_next
effect_accepts (send w) e area = refl
effect_accepts block_ok e area = refl
effect_accepts (start_change n s) e area = refl
effect_accepts (membership_view v) e area = refl
effect_accepts (receive q m) e area = refl
effect_accepts ask_to_block e area = refl
effect_accepts declare e area = refl
effect_accepts announce e area = refl
effect_accepts pass_out e area = refl
effect_accepts sync e area = refl
effect_accepts (forward q r) e area = refl
effect_accepts (give_out q) e area = refl
effect_accepts install e area = refl

module _ (ev : Event) (e : EndPoint) (area : List ℕ) where
  -- the number of a step is its table's verdict
  pub step_number : (step ev e area).number ≡ verdict (checks ev e area)
  unfolding step settle
  step_number = go (eqb (verdict (checks ev e area)) 0) refl
    where
      go : (b : Bool) → eqb (verdict (checks ev e area)) 0 ≡ b → (step ev e area).number ≡ verdict (checks ev e area)
      go true t = rw t (effect_accepts ev e area ∙ sym (eqb-true (verdict (checks ev e area)) 0 t))
      go false t = rw t refl

  -- refused: the end-point and the area are as before
  pub refused_keeps : ((step ev e area).number ≡ 0 → ⊥) → ((step ev e area).ep ≡ e) × (area_after ev e area ≡ area)
  unfolding step settle area_after settle_area
  refused_keeps h =
      let t : eqb (verdict (checks ev e area)) 0 ≡ false = ne_eqb (verdict (checks ev e area)) 0 (λ z. h (step_number ∙ z)) in
      (rw t refl, rw t refl)

  -- accepted: the effect, and no check applies
  pub accepted_effect : (step ev e area).number ≡ 0 → (step ev e area ≡ effect ev e area) × (area_after ev e area ≡ stored ev e area)
  unfolding step settle area_after settle_area
  accepted_effect z =
      let t : eqb (verdict (checks ev e area)) 0 ≡ true = eq-eqb (verdict (checks ev e area)) 0 (sym step_number ∙ z) in
      (rw t refl, rw t refl)

  pub accepted_none : (n : ℕ) → (step ev e area).number ≡ 0 → Applies n (checks ev e area) → ⊥
  accepted_none n z a = verdict_none (checks ev e area) 0 n (checks_rise ev e area) (sym step_number ∙ z) a
