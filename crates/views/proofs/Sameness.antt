-- The laws of sameness: what it says of the three parts; it is an equivalence; two views are the same exactly when they are equal, given eight start numbers each;
-- and what code tests by `==`.
-- Assumes nothing.
use Prim.Native.Nat.{ℕ, ◌<◌}
use mathlib.Core.Bool.{Bool, true, false, ◌&&◌}
use mathlib.Core.List.{List}
use mathlib.Core.Path.{◌≡◌, refl, sym, ap, subst, ◌∙◌}
use native.Mathlib.Omega.{arith}
use lib.Dec.{eqb}
use lib.ListN.{length, get_or, replicate}
use lib.Pointwise.{pointwise, bytes_decides}
use Rattle.std.proofs.lemmas.List.{get_or-replicate}
use lib.Seq.{ext_get_or}
use borrow.Author.Tests.{eq-eqb, eqb-true}
use Rattle.below.proofs.Tests.{and_both, and_left, and_right, both}
use Rattle.below.proofs.All.{all_each, all_of, all_same}
use Rattle.views.specs.declared.View.{View}
use Rattle.views.specs.Views.{start_of, all_zero, starts_same, same}

pub starts_eq : (a b : List ℕ) → length a ≡ 8 → length b ≡ 8 → starts_same a b ≡ true → a ≡ b
unfolding starts_same
starts_eq a b p q e =
    ext_get_or 0 a b (p ∙ sym q) (λ i l. eqb-true (get_or a i 0) (get_or b i 0) (all_each (λ n. eqb (get_or a n 0) (get_or b n 0)) 8 i (omega arith) e))

pub starts_refl : (a : List ℕ) → starts_same a a ≡ true
unfolding starts_same
starts_refl a = all_of (λ n. eqb (get_or a n 0) (get_or a n 0)) 8 (λ n l. eq-eqb (get_or a n 0) (get_or a n 0) refl)

pub same_refl : (v : View) → same v v ≡ true
unfolding same
same_refl v = and_both (eq-eqb v.id v.id refl) (and_both (eq-eqb v.set v.set refl) (starts_refl v.starts))

-- ---- by its parts

pub record Same (a b : View) : Type 0 where
  pub ids : a.id ≡ b.id
  pub sets : a.set ≡ b.set
  pub starts : (n : ℕ) → n < 8 → start_of a n ≡ start_of b n

pub same_parts : (a b : View) → same a b ≡ true → Same a b
unfolding same starts_same start_of
same_parts a b e =
    let r = and_right (eqb a.id b.id) (eqb a.set b.set && starts_same a.starts b.starts) e in
    record {
      ids = eqb-true a.id b.id (and_left (eqb a.id b.id) (eqb a.set b.set && starts_same a.starts b.starts) e);
      sets = eqb-true a.set b.set (and_left (eqb a.set b.set) (starts_same a.starts b.starts) r);
      starts = λ n l. eqb-true (get_or a.starts n 0) (get_or b.starts n 0) (all_each (λ k. eqb (get_or a.starts k 0) (get_or b.starts k 0)) 8 n l (and_right (eqb a.set b.set) (starts_same a.starts b.starts) r));
    }

pub same_of : (a b : View) → Same a b → same a b ≡ true
unfolding same starts_same start_of
same_of a b p =
    and_both (eq-eqb a.id b.id p.ids) (and_both (eq-eqb a.set b.set p.sets)
    (all_of (λ k. eqb (get_or a.starts k 0) (get_or b.starts k 0)) 8 (λ n l. eq-eqb (get_or a.starts n 0) (get_or b.starts n 0) (p.starts n l))))

pub same_sym : (a b : View) → same a b ≡ true → same b a ≡ true
same_sym a b e = let p = same_parts a b e in same_of b a (record { ids = sym p.ids; sets = sym p.sets; starts = λ n l. sym (p.starts n l) })

pub same_trans : (a b c : View) → same a b ≡ true → same b c ≡ true → same a c ≡ true
same_trans a b c e f =
    let p = same_parts a b e in
    let q = same_parts b c f in
    same_of a c (record { ids = p.ids ∙ q.ids; sets = p.sets ∙ q.sets; starts = λ n l. p.starts n l ∙ q.starts n l })

-- the same views are the same as the same views
pub same_left : (a b c : View) → same a b ≡ true → same a c ≡ same b c
same_left a b c e = both (same a c) (same b c) (λ f. same_trans b a c (same_sym a b e) f) (λ f. same_trans a b c e f)

-- two views that are the same are told from a third alike
pub same_alike : (x a b : View) → same a b ≡ true → same x a ≡ same x b
same_alike x a b e = both (same x a) (same x b) (λ t. same_trans x a b t e) (λ t. same_trans x b a t (same_sym a b e))

-- ---- and equality

pub same_eq : (a b : View) → length a.starts ≡ 8 → length b.starts ≡ 8 → same a b ≡ true → a ≡ b
unfolding same
same_eq a b p q e =
    let i : a.id ≡ b.id = eqb-true a.id b.id (and_left (eqb a.id b.id) (eqb a.set b.set && starts_same a.starts b.starts) e) in
    let r = and_right (eqb a.id b.id) (eqb a.set b.set && starts_same a.starts b.starts) e in
    let s : a.set ≡ b.set = eqb-true a.set b.set (and_left (eqb a.set b.set) (starts_same a.starts b.starts) r) in
    let t : a.starts ≡ b.starts = starts_eq a.starts b.starts p q (and_right (eqb a.set b.set) (starts_same a.starts b.starts) r) in
    λ j. record { starts = t j; id = i j; set = s j }

-- ---- what code tests by `==`: rows of eight, and views

pub starts_tested : (a b : List ℕ) → length a ≡ 8 → length b ≡ 8 → pointwise eqb a b ≡ starts_same a b
starts_tested a b p q =
    both (pointwise eqb a b) (starts_same a b)
    (λ e. subst (λ c. starts_same a c ≡ true) ((bytes_decides a b).0 e) (starts_refl a))
    (λ e. (bytes_decides a b).1 (starts_eq a b p q e))

pub zero_tested : (a : List ℕ) → length a ≡ 8 → pointwise eqb a (replicate 8 0) ≡ all_zero a
unfolding starts_same all_zero
zero_tested a p =
    starts_tested a (replicate 8 0) p refl
    ∙ all_same (λ n. eqb (get_or a n 0) (get_or (replicate 8 0) n 0)) (λ n. eqb (get_or a n 0) 0) 8 (λ n l. ap (eqb (get_or a n 0)) (get_or-replicate 8 n 0 0 l))

pub views_tested : (a b : View) → length a.starts ≡ 8 → length b.starts ≡ 8 → (pointwise eqb a.starts b.starts && (eqb a.id b.id && eqb a.set b.set)) ≡ same a b
unfolding same
views_tested a b p q = rw (starts_tested a.starts b.starts p q) (go (starts_same a.starts b.starts) (eqb a.id b.id) (eqb a.set b.set))
  where
    go : (x y z : Bool) → (x && (y && z)) ≡ (y && (z && x))
    go true true true = refl
    go true true false = refl
    go true false z = refl
    go false true true = refl
    go false true false = refl
    go false false z = refl
