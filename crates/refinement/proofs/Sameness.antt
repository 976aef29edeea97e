-- Two views are the same exactly when their normal forms are equal. Assumes nothing.
use Prim.Native.Nat.{ℕ, zero, suc, ◌<◌}
use native.Mathlib.Omega.{arith}
use mathlib.Core.Bool.{Bool, true, false, ◌&&◌}
use mathlib.Core.Path.{◌≡◌, refl, sym, ap, ◌∙◌}
use lib.Dec.{ltb}
use borrow.Author.Tests.{ltb-true, lt-ltb}
use Rattle.below.proofs.Tests.{both, and_both, and_left, and_right}
use Rattle.views.specs.declared.View.{View}
use Rattle.views.specs.Sets.{has}
use Rattle.views.specs.Views.{start_of, same}
use Rattle.views.proofs.Sameness.{same_parts, same_of}
use Rattle.refinement.specs.Views.{Normal, normal, view_of, member, start_in, equal, equal_true, equal_self}

pub normal_view : (x : Normal) → normal (view_of x) ≡ x
unfolding normal view_of start_of
normal_view x = refl

pub same_normal : (v w : View) → same v w ≡ true → normal v ≡ normal w
unfolding normal
same_normal v w e =
    let k = same_parts v w e in
    let s : (n : ℕ) → n < 8 → start_of v n ≡ start_of w n = k.starts in
    λ i. record { id = k.ids i; set = k.sets i; start0 = s 0 (omega arith) i; start1 = s 1 (omega arith) i; start2 = s 2 (omega arith) i; start3 = s 3 (omega arith) i; start4 = s 4 (omega arith) i; start5 = s 5 (omega arith) i; start6 = s 6 (omega arith) i; start7 = s 7 (omega arith) i }

pub start_normal : (v : View) (n : ℕ) → n < 8 → start_in (normal v) n ≡ start_of v n
unfolding start_in normal
start_normal v zero l = refl
start_normal v (suc zero) l = refl
start_normal v (suc (suc zero)) l = refl
start_normal v (suc (suc (suc zero))) l = refl
start_normal v (suc (suc (suc (suc zero)))) l = refl
start_normal v (suc (suc (suc (suc (suc zero))))) l = refl
start_normal v (suc (suc (suc (suc (suc (suc zero)))))) l = refl
start_normal v (suc (suc (suc (suc (suc (suc (suc zero))))))) l = refl
start_normal v (suc (suc (suc (suc (suc (suc (suc (suc n)))))))) l = absurd (omega arith)

pub view_normal : (v : View) → same (view_of (normal v)) v ≡ true
unfolding view_of start_of start_in normal
view_normal v = same_of (view_of (normal v)) v (record { ids = refl; sets = refl; starts = λ n l. start_normal v n l })

normal_id : (v w : View) → normal v ≡ normal w → v.id ≡ w.id
unfolding normal
normal_id v w q = ap (λ (x : Normal). x.id) q

normal_set : (v w : View) → normal v ≡ normal w → v.set ≡ w.set
unfolding normal
normal_set v w q = ap (λ (x : Normal). x.set) q

pub normal_same : (v w : View) → normal v ≡ normal w → same v w ≡ true
normal_same v w e = same_of v w (record {
  ids = normal_id v w e;
  sets = normal_set v w e;
  starts = λ n l. sym (start_normal v n l) ∙ ap (λ (x : Normal). start_in x n) e ∙ start_normal w n l;
})

-- so the tests agree
pub same_equal : (v w : View) → equal (normal v) (normal w) ≡ same v w
same_equal v w = both (equal (normal v) (normal w)) (same v w) (λ e. normal_same v w (equal_true (normal v) (normal w) e)) (λ e. rw (same_normal v w e) (equal_self (normal w)))

-- a normal form is v's exactly where its view is the same as v
pub is_normal : (x : Normal) (v : View) → same (view_of x) v ≡ true → x ≡ normal v
is_normal x v e = sym (normal_view x) ∙ same_normal (view_of x) v e

pub not_normal : (x : Normal) (v : View) → (x ≡ normal v → ⊥) → same (view_of x) v ≡ false
not_normal x v n = go (same (view_of x) v) refl
  where
    go : (b : Bool) → same (view_of x) v ≡ b → same (view_of x) v ≡ false
    go true e = absurd (n (is_normal x v e))
    go false e = e

-- ---- members

pub member_low : (s n : ℕ) → member s n ≡ true → n < 8
unfolding member
member_low s n e = ltb-true n 8 (and_left (ltb n 8) (has s n) e)

pub member_has : (s n : ℕ) → member s n ≡ true → has s n ≡ true
unfolding member
member_has s n e = and_right (ltb n 8) (has s n) e

pub member_of : (s n : ℕ) → n < 8 → has s n ≡ true → member s n ≡ true
unfolding member
member_of s n l e = and_both (lt-ltb n 8 l) e

pub member_is : (s n : ℕ) → n < 8 → member s n ≡ has s n
unfolding member
member_is s n l = rw (lt-ltb n 8 l)

pub not_member : (s n : ℕ) → has s n ≡ false → member s n ≡ false
unfolding member
not_member s n e = go (ltb n 8) (has s n) e
  where
    go : (a b : Bool) → b ≡ false → (a && b) ≡ false
    go true b q = q
    go false b q = refl
