-- What the checks and the methods need of the definitions, in the shape in which the code has it: a table whose first check failed or passed; the marks of a
-- view from what a search of the slots gave; what soundness says of numbers; an end-point and an area that are fit.
-- Assumes nothing.
use Prim.Native.Nat.{ℕ, ◌≤◌, ◌<◌}
use native.Mathlib.Omega.{arith}
use mathlib.Core.Bool.{Bool, true, false, not, ◌&&◌, ◌||◌}
use mathlib.Core.List.{List, ◌∷◌}
use mathlib.Core.Path.{◌≡◌, refl, ap, ◌∙◌}
use lib.Dec.{eqb, leb}
use lib.ListN.{length, get_or}
use borrow.Author.Tests.{leb-true, eqb-true, eq-eqb}
use Rattle.below.specs.Below as Below
use Rattle.below.proofs.Tests.{clash, and_left, and_right}
use Rattle.below.proofs.All.{all_each}
use Rattle.views.specs.declared.View.{View}
use Rattle.views.specs.declared.Cut.{Cut}
use Rattle.marks.specs.declared.Marks.{Marks}
use Rattle.marks.specs.Marks.{no_marks}
use Rattle.slots.specs.declared.Slots.{Slots}
use Rattle.slots.specs.Slots.{slot_in, slot_of, has_slot, run, marks_at, all_used, slots_differ, no_gaps}
use Rattle.slots.proofs.Tags.{slot_in_lem}
use Rattle.slots.proofs.Finding.{slot_of_lem}
use Rattle.endpoint.specs.declared.EndPoint.{EndPoint}
use Rattle.endpoint.specs.Numbers.{Check, check, verdict}
use Rattle.parts.specs.Counts.{cut_of}
use Rattle.endpoint.specs.Application.{unfit}
use Rattle.endpoint.specs.Change.{own_cut}
use Rattle.endpoint.specs.Spent.{spent}
use Rattle.endpoint.specs.Pass.{Fits}
use Rattle.endpoint.specs.Sound.{sound, slots_ok, given_ok}
use Rattle.endpoint.proofs.Parts.{parts_of}

-- ---- tables

pub first_not : (n : ℕ) (b : Bool) (cs : List Check) → b ≡ false → verdict (check n b ∷ cs) ≡ verdict cs
unfolding verdict
first_not n b cs t = rw t

-- no check applies: the first does not, and none of the others does
pub none_applies : (n : ℕ) (b : Bool) (cs : List Check) → 0 < n → verdict (check n b ∷ cs) ≡ 0 → (b ≡ false) × (verdict cs ≡ 0)
unfolding verdict
none_applies n true cs l z = absurd (omega arith)
none_applies n false cs l z = (refl, z)

-- ---- what a search of the slots gave

module _ (ss : Slots) (v : View) (s : ℕ) (found : s ≡ slot_in ss.tags v) where
  pub slot_is : s ≡ slot_of ss v
  slot_is = found ∙ slot_in_lem ss v

  pub marks_is : (m : Marks) → m ≡ get_or ss.marks s no_marks → m ≡ marks_at ss (slot_of ss v)
  unfolding marks_at
  marks_is m e = e ∙ ap (λ k. get_or ss.marks k no_marks) slot_is

-- ---- what soundness says of numbers

pub fit_of : (e : EndPoint) (area : List ℕ) → unfit e area ≡ false → (sound e ≡ true) × (length area ≡ 4096)
unfolding unfit
fit_of e area t = go (sound e) (eqb (length area) 4096) refl refl t
  where
    go : (a b : Bool) → sound e ≡ a → eqb (length area) 4096 ≡ b → (not a || not b) ≡ false → (sound e ≡ true) × (length area ≡ 4096)
    go true true p q z = (p, eqb-true (length area) 4096 q)
    go true false p q z = clash refl z
    go false b p q z = clash refl z

module _ (e : EndPoint) (s : sound e ≡ true) where
  pub me_low : e.me < 8
  me_low = omega (arith, (parts_of e s).low)

  pub given_low : (r : ℕ) → r < 8 → get_or e.given r 0 ≤ run e.slots e.current r
  unfolding given_ok
  given_low r l =
      leb-true (get_or e.given r 0) (run e.slots e.current r)
      (all_each (λ r. leb (get_or e.given r 0) (run e.slots e.current r)) 8 r l
      (and_left (Below.all_below (λ r. leb (get_or e.given r 0) (run e.slots e.current r)) 8) (leb e.passed (run e.slots e.current e.me)) (parts_of e s).given))

  pub current_slot : slot_of e.slots e.current < 4
  unfolding slots_ok
  current_slot =
      let d = has_slot e.slots e.current in
      let live = all_used (λ v. not (spent e v)) e.slots in
      let a = and_right (no_gaps e.slots e.me) (slots_differ e.slots && (live && d)) (parts_of e s).slots in
      (slot_of_lem e.slots e.current (and_right live d (and_right (slots_differ e.slots) (live && d) a))).0

-- p's own cut, from the marks that a search of the slots gave
pub cut_is : (e : EndPoint) (s : ℕ) (m : Marks) (x : Cut) → s ≡ slot_in e.slots.tags e.current → m ≡ get_or e.slots.marks s no_marks
    → x ≡ cut_of e.current.set m → x ≡ own_cut e
unfolding cut_of own_cut run
cut_is e s m x p q h = h ∙ ap (cut_of e.current.set) (marks_is e.slots e.current s p m q)

-- ---- what is known of an end-point and an area that are fit

pub fits : (e : EndPoint) (area : List ℕ) (s : ℕ) → sound e ≡ true → length area ≡ 4096 → s ≡ slot_of e.slots e.current → Fits e area s
unfolding unfit
fits e area s a b i =
    record {
      fit = rw (a, eq-eqb (length area) 4096 b);
      sound_now = a;
      whole = b;
      slot = i;
      slot_low = omega (arith, current_slot e a);
      me_low = me_low e a;
    }
