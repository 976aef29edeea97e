-- One pass over all that is held tells `records_fit`: a law that joins two tests of the numbers below n; each record's test in the pass, which the code makes;
-- each sender's, and all; then the needs of the pass's loops, by what its tests of one record x gave. Assumes nothing.
use Prim.Native.Nat.{ℕ, ◌+◌, ◌-◌, ◌≤◌, ◌<◌}
use native.Mathlib.Omega.{arith}
use mathlib.Core.Bool.{Bool, true, false, ◌&&◌, not, cond, and_comm, and-false}
use mathlib.Core.Path.{◌≡◌, refl, sym, ap, ◌∙◌}
use mathlib.Core.Logic.{⊎_elim}
use lib.Dec.{eqb, leb}
use lib.ListN.{length}
use borrow.Author.Tests.{le-leb, leb-true, lt-leb, eq-eqb, ne_eqb, eqb-true}
use Rattle.below.specs.Below.{all_below}
use Rattle.below.proofs.Tests.{side, both, and_both, and_left, and_right, not_is, is_not}
use Rattle.below.proofs.All.{all_more, all_stop, all_each, all_of, all_done}
use Rattle.records.specs.declared.Record.{Record}
use Rattle.records.specs.declared.Records.{Records}
use Rattle.records.specs.Records.{record_at, record_count, record_ok, records_well_formed, records_rise, records_at_most, records_fit}
use Rattle.records.proofs.Rule.{rise_next, rise_of, at_most_of}
use Rattle.records.proofs.Past.{count_past}

-- ---- tests of the numbers below n

-- two at once
pub all_and : (f g : ℕ → Bool) (n : ℕ) → (all_below f n && all_below g n) ≡ all_below (λ k. f k && g k) n
all_and f g n =
    both (all_below f n && all_below g n) (all_below (λ k. f k && g k) n)
    (λ e. all_of (λ k. f k && g k) n (λ k l. and_both (all_each f n k l (and_left (all_below f n) (all_below g n) e)) (all_each g n k l (and_right (all_below f n) (all_below g n) e))))
    (λ e. and_both
    (all_of f n (λ k l. and_left (f k) (g k) (all_each (λ j. f j && g j) n k l e)))
    (all_of g n (λ k l. and_right (f k) (g k) (all_each (λ j. f j && g j) n k l e))))

-- one that is made only where b holds
pub all_where : (b : Bool) (f : ℕ → Bool) (n : ℕ) → all_below (λ k. cond b (f k) true) n ≡ cond b (all_below f n) true
all_where true f n = refl
all_where false f n = all_of (λ k. true) n (λ k l. refl)

-- ---- each record

-- the least number with which record k rises: one more than that of the record before it
unfoldable pub least_at : Records → ℕ → ℕ → ℕ
least_at rs r k = cond (eqb k 0) 0 ((record_at rs r (k - 1)).number + 1)

-- record k of r rises, and where r is p it is not above n
unfoldable pub in_order : Records → ℕ → ℕ → ℕ → ℕ → Bool
in_order rs p n r k = leb (least_at rs r k) (record_at rs r k).number && cond (eqb r p) (leb (record_at rs r k).number n) true

unfoldable pub passes : Records → ℕ → ℕ → ℕ → ℕ → Bool
passes rs p n r k = in_order rs p n r k && record_ok (record_at rs r k)

module _ (rs : Records) (r : ℕ) where
  pub least_first : least_at rs r 0 ≡ 0
  unfolding least_at
  least_first = refl

  pub least_next : (k : ℕ) → least_at rs r (k + 1) ≡ (record_at rs r k).number + 1
  unfolding least_at
  least_next k =
      let q : k + 1 - 1 ≡ k = omega arith in
      rw (ne_eqb (k + 1) 0 (omega arith), q)

  rise_each : records_rise rs r ≡ true → (k : ℕ) → k < record_count rs r → least_at rs r k ≤ (record_at rs r k).number
  rise_each e k l =
      ⊎_elim
      (λ (q : k < 1). let z : k ≡ 0 = omega arith in rw z (omega (arith, least_first)))
      (λ (q : 1 ≤ k). let z : k - 1 + 1 ≡ k = omega arith in
      rw z at (let t : least_at rs r (k - 1 + 1) ≤ (record_at rs r (k - 1 + 1)).number = omega (arith, least_next (k - 1), rise_next rs r e (k - 1) (omega arith)) in t))
      (side k 1)

  rise_pass : record_count rs r ≤ 4 → all_below (λ k. leb (least_at rs r k) (record_at rs r k).number) (record_count rs r) ≡ records_rise rs r
  rise_pass c =
      both (all_below (λ k. leb (least_at rs r k) (record_at rs r k).number) (record_count rs r)) (records_rise rs r)
      (λ e. rise_of rs r c (λ k l. omega (
        arith,
        least_next k,
        leb-true (least_at rs r (k + 1)) (record_at rs r (k + 1)).number
            (all_each (λ j. leb (least_at rs r j) (record_at rs r j).number) (record_count rs r) (k + 1) l e),
      )))
      (λ e. all_of (λ k. leb (least_at rs r k) (record_at rs r k).number) (record_count rs r)
      (λ k l. le-leb (least_at rs r k) (record_at rs r k).number (rise_each e k l)))

-- ---- each sender, and all

unfoldable pub sender_fits : Records → ℕ → ℕ → ℕ → Bool
sender_fits rs p n r = records_well_formed rs r && (records_rise rs r && cond (eqb r p) (records_at_most rs r n) true)

module _ (rs : Records) (p n : ℕ) where
  pub sender_pass : (r : ℕ) → record_count rs r ≤ 4 → all_below (passes rs p n r) (record_count rs r) ≡ sender_fits rs p n r
  unfolding passes in_order sender_fits records_well_formed records_at_most
  sender_pass r c =
      sym (all_and (in_order rs p n r) (λ k. record_ok (record_at rs r k)) (record_count rs r))
      ∙ and_comm (all_below (in_order rs p n r) (record_count rs r)) (records_well_formed rs r)
      ∙ ap (λ b. records_well_formed rs r && b)
      (sym (all_and (λ k. leb (least_at rs r k) (record_at rs r k).number) (λ k. cond (eqb r p) (leb (record_at rs r k).number n) true) (record_count rs r))
      ∙ rw (rise_pass rs r c, all_where (eqb r p) (λ k. leb (record_at rs r k).number n) (record_count rs r)))

  pub sender_many : (r : ℕ) → 4 < record_count rs r → sender_fits rs p n r ≡ false
  unfolding sender_fits records_rise
  sender_many r c = rw (lt-leb (record_count rs r) 4 c) (and-false (records_well_formed rs r))

  own_each : length rs.counts ≡ 8 → all_below (λ r. cond (eqb r p) (records_at_most rs r n) true) 8 ≡ records_at_most rs p n
  own_each w =
      both (all_below (λ r. cond (eqb r p) (records_at_most rs r n) true) 8) (records_at_most rs p n)
      (λ e. ⊎_elim
      (λ l. rw (eq-eqb p p refl) at (all_each (λ r. cond (eqb r p) (records_at_most rs r n) true) 8 p l e))
      (λ l. at_most_of rs p n (λ k m. absurd (omega (arith, count_past rs p w l))))
      (side p 8))
      (λ e. all_of (λ r. cond (eqb r p) (records_at_most rs r n) true) 8 (λ r l. go r e (eqb r p) refl))
    where
      go : (r : ℕ) → records_at_most rs p n ≡ true → (b : Bool) → eqb r p ≡ b → cond b (records_at_most rs r n) true ≡ true
      go r e true q = rw (eqb-true r p q) e
      go r e false q = refl

  pub fit_pass : length rs.counts ≡ 8 → all_below (sender_fits rs p n) 8 ≡ records_fit rs p n
  unfolding sender_fits
  fit_pass w =
      sym (all_and (records_well_formed rs) (λ r. records_rise rs r && cond (eqb r p) (records_at_most rs r n) true) 8)
      ∙ ap (λ b. all_below (records_well_formed rs) 8 && b)
      (sym (all_and (records_rise rs) (λ r. cond (eqb r p) (records_at_most rs r n) true) 8)
      ∙ ap (λ b. all_below (records_rise rs) 8 && b) (own_each w))

-- ---- the pass of the code, at record k of sender r: x is that record, and least the least number with which it rises

module _ (rs : Records) (p n r : ℕ) (w : length rs.counts ≡ 8) where
  pub pass_many : r < 8 → 4 < record_count rs r → false ≡ records_fit rs p n
  pass_many l c = sym (all_stop (sender_fits rs p n) 8 r l (sender_many rs p n r c)) ∙ fit_pass rs p n w

  -- a sender of whom all passed, and all senders
  pub pass_sender : (k : ℕ) → k ≤ record_count rs r → record_count rs r ≤ k → record_count rs r ≤ 4
      → all_below (passes rs p n r) k ≡ true → all_below (sender_fits rs p n) r ≡ true → all_below (sender_fits rs p n) (r + 1) ≡ true
  pass_sender k a b c e f =
      all_more (sender_fits rs p n) r f (sym (sender_pass rs p n r c) ∙ all_done (passes rs p n r) (record_count rs r) k a b e)

  pub pass_end : r ≤ 8 → 8 ≤ r → all_below (sender_fits rs p n) r ≡ true → true ≡ records_fit rs p n
  pass_end a b e = sym (all_done (sender_fits rs p n) 8 r a b e) ∙ fit_pass rs p n w

  module _ (k least : ℕ) (x : Record) (o : Bool) (this : x ≡ record_at rs r k) (from : least ≡ least_at rs r k)
      (told : o ≡ (leb least x.number && cond (eqb r p) (leb x.number n) true && record_ok x)) where
    test_is : o ≡ passes rs p n r k
    unfolding passes in_order
    test_is = told ∙ rw (this, from)

    pub pass_stop : r < 8 → record_count rs r ≤ 4 → k < record_count rs r → not o ≡ true → false ≡ records_fit rs p n
    pass_stop l c m t =
        sym (all_stop (sender_fits rs p n) 8 r l (sym (sender_pass rs p n r c) ∙ all_stop (passes rs p n r) (record_count rs r) k m (sym test_is ∙ not_is o t))) ∙ fit_pass rs p n w

    pub pass_more : not o ≡ false → all_below (passes rs p n r) k ≡ true → all_below (passes rs p n r) (k + 1) ≡ true
    pass_more t e = all_more (passes rs p n r) k e (sym test_is ∙ is_not o t)

pub ruleset passing = (least_first, least_next, pass_many, pass_sender, pass_end, pass_stop, pass_more)
