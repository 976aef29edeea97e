-- The views of the scope in a normal form, where two that are the same are equal: an id, a set, and the start numbers of members 0 to 7 one by one.
-- And the automaton's domain over them: members are 0 to 7, words are numbers. Assumes nothing.
use Rattle.std.specs.Prelude.{ℕ, Bool, true, ◌&&◌, List, [], ◌∷◌, ◌≡◌, refl, eqb, ltb, get_or}
use Rattle.std.proofs.Common.{eqb-true, eq-eqb}
use Rattle.below.proofs.Tests.{and_both, and_left, and_right}
use Rattle.automaton.specs.Domain.{Domain}
use Rattle.views.specs.declared.View.{View}
use Rattle.views.specs.Sets.{has}
use Rattle.views.specs.Views.{start_of}

pub record Normal : Type 0 where
  pub id : ℕ
  pub set : ℕ
  pub start0 : ℕ
  pub start1 : ℕ
  pub start2 : ℕ
  pub start3 : ℕ
  pub start4 : ℕ
  pub start5 : ℕ
  pub start6 : ℕ
  pub start7 : ℕ

-- a view's normal form
unfoldable pub normal : View → Normal
normal v =
    record {
      id = v.id;
      set = v.set;
      start0 = start_of v 0;
      start1 = start_of v 1;
      start2 = start_of v 2;
      start3 = start_of v 3;
      start4 = start_of v 4;
      start5 = start_of v 5;
      start6 = start_of v 6;
      start7 = start_of v 7;
    }

-- the view of a normal form
abbrev pub starts : Normal → List ℕ
starts x = x.start0 ∷ x.start1 ∷ x.start2 ∷ x.start3 ∷ x.start4 ∷ x.start5 ∷ x.start6 ∷ x.start7 ∷ []

unfoldable pub view_of : Normal → View
view_of x = record { starts = starts x; id = x.id; set = x.set }

-- n is a member: one of 0 to 7
unfoldable pub member : ℕ → ℕ → Bool
member s n = ltb n 8 && has s n

unfoldable pub start_in : Normal → ℕ → ℕ
start_in x n = get_or (starts x) n 0

unfoldable pub equal : Normal → Normal → Bool
equal x y =
    eqb x.id y.id
    && (eqb x.set y.set
    && (eqb x.start0 y.start0
    && (eqb x.start1 y.start1
    && (eqb x.start2 y.start2
    && (eqb x.start3 y.start3
    && (eqb x.start4 y.start4 && (eqb x.start5 y.start5 && (eqb x.start6 y.start6 && eqb x.start7 y.start7))))))))

pub equal_true : (x y : Normal) → equal x y ≡ true → x ≡ y
unfolding equal
equal_true x y e =
    let c7 = eqb x.start7 y.start7 in
    let c6 = eqb x.start6 y.start6 && c7 in
    let c5 = eqb x.start5 y.start5 && c6 in
    let c4 = eqb x.start4 y.start4 && c5 in
    let c3 = eqb x.start3 y.start3 && c4 in
    let c2 = eqb x.start2 y.start2 && c3 in
    let c1 = eqb x.start1 y.start1 && c2 in
    let c0 = eqb x.start0 y.start0 && c1 in
    let cs = eqb x.set y.set && c0 in
    let es = and_right (eqb x.id y.id) cs e in
    let e0 = and_right (eqb x.set y.set) c0 es in
    let e1 = and_right (eqb x.start0 y.start0) c1 e0 in
    let e2 = and_right (eqb x.start1 y.start1) c2 e1 in
    let e3 = and_right (eqb x.start2 y.start2) c3 e2 in
    let e4 = and_right (eqb x.start3 y.start3) c4 e3 in
    let e5 = and_right (eqb x.start4 y.start4) c5 e4 in
    let e6 = and_right (eqb x.start5 y.start5) c6 e5 in
    let e7 = and_right (eqb x.start6 y.start6) c7 e6 in
    let fi : x.id ≡ y.id = eqb-true x.id y.id (and_left (eqb x.id y.id) cs e) in
    let fs : x.set ≡ y.set = eqb-true x.set y.set (and_left (eqb x.set y.set) c0 es) in
    let f0 : x.start0 ≡ y.start0 = eqb-true x.start0 y.start0 (and_left (eqb x.start0 y.start0) c1 e0) in
    let f1 : x.start1 ≡ y.start1 = eqb-true x.start1 y.start1 (and_left (eqb x.start1 y.start1) c2 e1) in
    let f2 : x.start2 ≡ y.start2 = eqb-true x.start2 y.start2 (and_left (eqb x.start2 y.start2) c3 e2) in
    let f3 : x.start3 ≡ y.start3 = eqb-true x.start3 y.start3 (and_left (eqb x.start3 y.start3) c4 e3) in
    let f4 : x.start4 ≡ y.start4 = eqb-true x.start4 y.start4 (and_left (eqb x.start4 y.start4) c5 e4) in
    let f5 : x.start5 ≡ y.start5 = eqb-true x.start5 y.start5 (and_left (eqb x.start5 y.start5) c6 e5) in
    let f6 : x.start6 ≡ y.start6 = eqb-true x.start6 y.start6 (and_left (eqb x.start6 y.start6) c7 e6) in
    let f7 : x.start7 ≡ y.start7 = eqb-true x.start7 y.start7 e7 in
    λ i. record { id = fi i; set = fs i; start0 = f0 i; start1 = f1 i; start2 = f2 i; start3 = f3 i; start4 = f4 i; start5 = f5 i; start6 = f6 i; start7 = f7 i }

pub equal_self : (x : Normal) → equal x x ≡ true
unfolding equal
equal_self x =
    let s : (n : ℕ) → eqb n n ≡ true = λ n. eq-eqb n n refl in
    and_both (s x.id)
    (and_both (s x.set)
    (and_both (s x.start0)
    (and_both (s x.start1)
    (and_both (s x.start2)
    (and_both (s x.start3) (and_both (s x.start4) (and_both (s x.start5) (and_both (s x.start6) (s x.start7)))))))))

abbrev pub views : Domain
views =
    record {
      View = Normal;
      Word = ℕ;
      id = λ x. x.id;
      has = λ x n. member x.set n;
      start = start_in;
      same = equal;
      same_true = equal_true;
      same_self = equal_self;
    }
