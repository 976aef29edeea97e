-- A table asked for a check by its number, and each step's table by the step's order. In order: a table's numbers, and that none of its checks applies; the number
-- given is the first check's that applies; each table has the numbers of its step in the step's order, and they rise; so an accepted step is clear, and
-- "the lowest number that applies is given". Assumes nothing.
use Prim.Native.Nat.{ℕ, ◌≤◌}
use native.Mathlib.Omega.{arith}
use mathlib.Core.Bool.{Bool, true, false, cond, ◌&&◌}
use mathlib.Core.List.{List, [], ◌∷◌, ◌++◌}
use mathlib.Core.Path.{◌≡◌, refl, sym, ap, ◌∙◌}
use lib.Dec.{eqb, ltb}
use borrow.Author.Tests.{ltb-true}
use Rattle.below.proofs.Tests.{and_left, and_right}
use Rattle.endpoint.specs.declared.EndPoint.{EndPoint}
use Rattle.endpoint.specs.Numbers.{Check, verdict}
use Rattle.endpoint.specs.Application.{send_checks, block_ok_checks}
use Rattle.endpoint.specs.Membership.{start_checks, membership_checks}
use Rattle.endpoint.specs.Receive.{by_kind, receive_checks, view_checks, word_checks, sync_checks, forward_checks}
use Rattle.endpoint.specs.Change.{ask_checks, declare_checks, announce_checks, pass_checks, sync_out_checks}
use Rattle.endpoint.specs.Forward.{forward_out_checks}
use Rattle.endpoint.specs.Give.{give_checks}
use Rattle.endpoint.specs.Install.{install_checks}
use Rattle.endpoint.specs.Steps.{Event, send, block_ok, start_change, membership_view, receive, ask_to_block, declare, announce, pass_out, sync, forward, give_out, install, checks, step}
use Rattle.endpoint.specs.Order.{order}
use Rattle.endpoint.proofs.Verdicts.{Applies, checks_rise, verdict_lowest, step_number}

-- ---- a table asked by its numbers

-- its numbers, in its order
abbrev pub numbers_of : List Check → List ℕ
numbers_of [] = []
numbers_of (c ∷ cs) = c.number ∷ numbers_of cs

-- whether its check of this number applies
abbrev pub applying : ℕ → List Check → Bool
applying n [] = false
applying n (c ∷ cs) = cond (eqb n c.number) c.applies (applying n cs)

-- none applies
abbrev pub Clear : List Check → Type 0
Clear cs = (n : ℕ) → applying n cs ≡ false

-- each is a number of the scope's list: 0 is for accepted alone
abbrev pub positive : List ℕ → Bool
positive [] = true
positive (n ∷ ns) = ltb 0 n && positive ns

-- they rise, from above n
abbrev pub rises : ℕ → List ℕ → Bool
rises n [] = true
rises n (m ∷ ms) = ltb n m && rises m ms

-- ---- the number given, for any table

-- it is that of the first check that applies: none before it in the table does
pub verdict_first : (before : List Check) (c : Check) (after : List Check) → verdict before ≡ 0 → positive (numbers_of before) ≡ true → c.applies ≡ true
    → verdict (before ++ (c ∷ after)) ≡ c.number
unfolding verdict
verdict_first [] c after z p a = rw a
verdict_first (b ∷ bs) c after z p a =
    go b.applies z (λ y. verdict_first bs c after y (and_right (ltb 0 b.number) (positive (numbers_of bs)) p) a)
  where
    go : (x : Bool) → cond x b.number (verdict bs) ≡ 0 → (verdict bs ≡ 0 → verdict (bs ++ (c ∷ after)) ≡ c.number)
        → cond x b.number (verdict (bs ++ (c ∷ after))) ≡ c.number
    go true y rest = absurd (omega (arith, ltb-true 0 b.number (and_left (ltb 0 b.number) (positive (numbers_of bs)) p)))
    go false y rest = rest y

-- accepted: no check applies
pub verdict_clear : (cs : List Check) → positive (numbers_of cs) ≡ true → verdict cs ≡ 0 → Clear cs
unfolding verdict
verdict_clear [] p z n = refl
verdict_clear (c ∷ cs) p z n =
    go c.applies refl z (eqb n c.number) (λ q. verdict_clear cs (and_right (ltb 0 c.number) (positive (numbers_of cs)) p) q n)
  where
    go : (b : Bool) → c.applies ≡ b → cond b c.number (verdict cs) ≡ 0 → (f : Bool) → (verdict cs ≡ 0 → applying n cs ≡ false)
        → cond f c.applies (applying n cs) ≡ false
    go true e q f rest = absurd (omega (arith, ltb-true 0 c.number (and_left (ltb 0 c.number) (positive (numbers_of cs)) p)))
    go false e q true rest = e
    go false e q false rest = rest q

-- ---- the thirteen tables

-- the four of a receive
by_kind_lem : {A : Type 0} (P : A → Type 0) (k : ℕ) {v w s f : A} → P v → P w → P s → P f → P (by_kind k v w s f)
by_kind_lem P k {v} {w} {s} {f} a b c d = go (eqb k 1) (eqb k 2) (eqb k 3)
  where
    go : (x y z : Bool) → P (cond x v (cond y w (cond z s f)))
    go true y z = a
    go false true z = b
    go false false true = c
    go false false false = d

numbers_by_kind : (k : ℕ) (v w s f : List Check) → numbers_of (by_kind k v w s f) ≡ by_kind k (numbers_of v) (numbers_of w) (numbers_of s) (numbers_of f)
numbers_by_kind k v w s f = go (eqb k 1) (eqb k 2) (eqb k 3)
  where
    go : (x y z : Bool) → numbers_of (cond x v (cond y w (cond z s f))) ≡ cond x (numbers_of v) (cond y (numbers_of w) (cond z (numbers_of s) (numbers_of f)))
    go true y z = refl
    go false true z = refl
    go false false true = refl
    go false false false = refl

-- all tables, opened by one name
unfoldable tables : Unit {0}
unfolding send_checks block_ok_checks start_checks membership_checks receive_checks view_checks word_checks sync_checks forward_checks
tables = tt

unfoldable own_tables : Unit {0}
unfolding ask_checks declare_checks announce_checks pass_checks sync_out_checks forward_out_checks give_checks install_checks
own_tables = tt

-- each table has the numbers of its step, in the step's order
pub checks_order : (ev : Event) (e : EndPoint) (area : List ℕ) → numbers_of (checks ev e area) ≡ order ev
unfolding order checks tables own_tables
checks_order (send w) e area = refl
checks_order block_ok e area = refl
checks_order (start_change n s) e area = refl
checks_order (membership_view v) e area = refl
checks_order (receive q m) e area = ap (λ (ns : List ℕ). 1 ∷ ns) (numbers_by_kind m.kind _ _ _ _)
checks_order ask_to_block e area = refl
checks_order declare e area = refl
checks_order announce e area = refl
checks_order pass_out e area = refl
checks_order sync e area = refl
checks_order (forward q r) e area = refl
checks_order (give_out q) e area = refl
checks_order install e area = refl

pub order_positive : (ev : Event) → positive (order ev) ≡ true
unfolding order
order_positive (send w) = refl
order_positive block_ok = refl
order_positive (start_change n s) = refl
order_positive (membership_view v) = refl
order_positive (receive q m) = by_kind_lem (λ (ns : List ℕ). positive ns ≡ true) m.kind refl refl refl refl
order_positive ask_to_block = refl
order_positive declare = refl
order_positive announce = refl
order_positive pass_out = refl
order_positive sync = refl
order_positive (forward q r) = refl
order_positive (give_out q) = refl
order_positive install = refl

-- today the order of each is that of the numbers themselves
pub order_rises : (ev : Event) → rises 0 (order ev) ≡ true
unfolding order
order_rises (send w) = refl
order_rises block_ok = refl
order_rises (start_change n s) = refl
order_rises (membership_view v) = refl
order_rises (receive q m) = by_kind_lem (λ (ns : List ℕ). rises 1 ns ≡ true) m.kind refl refl refl refl
order_rises ask_to_block = refl
order_rises declare = refl
order_rises announce = refl
order_rises pass_out = refl
order_rises sync = refl
order_rises (forward q r) = refl
order_rises (give_out q) = refl
order_rises install = refl

-- ---- a step

module _ (ev : Event) (e : EndPoint) (area : List ℕ) where
  -- accepted: no check applies
  pub step_clear : (step ev e area).number ≡ 0 → Clear (checks ev e area)
  step_clear z = verdict_clear (checks ev e area) (rw (checks_order ev e area) (order_positive ev)) (sym (step_number ev e area) ∙ z)

  -- "The lowest number that applies is given"
  pub step_lowest : (n : ℕ) → Applies n (checks ev e area) → ((step ev e area).number ≤ n) × ((step ev e area).number ≡ 0 → ⊥)
  step_lowest n a = rw (step_number ev e area) (verdict_lowest (checks ev e area) 0 n (checks_rise ev e area) a)
