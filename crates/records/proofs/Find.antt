-- The newest of a sender's records and the one with a number: `newest`, `holds_record`, `find_record`, `the_record`.
-- What is held, what is not; then the newest; then each of them after one more record.
-- Assumes nothing.
use Prim.Native.Nat.{ℕ, zero, suc, ◌+◌, ◌-◌, ◌≤◌, ◌<◌}
use native.Mathlib.Nat.{add-zero}
use native.Mathlib.Omega.{arith}
use mathlib.Core.Bool.{true, false}
use mathlib.Core.Path.{◌≡◌, ap, ◌∙◌}
use mathlib.Core.Logic.{◌≢◌}
use lib.Dec.{eqb}
use borrow.Author.Tests.{lt-ltb, ltb-true, ltb-false, eq-eqb, ne_eqb, eqb-true, eqb-false}
use Rattle.below.specs.Below.{all_below}
use Rattle.below.proofs.All.{all_each}
use Rattle.below.proofs.First.{first_here, first_before, first_is}
use Rattle.records.specs.declared.Record.{Record}
use Rattle.records.specs.declared.Records.{Records}
use Rattle.records.specs.Records.{record_at, record_count, find_record, holds_record, the_record, newest, store_record, record_ok, records_well_formed, records_rise, records_at_most}
use Rattle.records.proofs.Store.{Shaped, Each, each_says, store_kept}
use Rattle.records.proofs.Rule.{rise_next, at_most_each}

-- ---- a record that is held, and one that is not

module _ (rs : Records) (r n : ℕ) where
  pub held_at : holds_record rs r n ≡ true → (find_record rs r n < record_count rs r) × ((the_record rs r n).number ≡ n)
  unfolding holds_record the_record find_record
  held_at e =
      let l : find_record rs r n < record_count rs r = ltb-true (find_record rs r n) (record_count rs r) e in
      (l, eqb-true (the_record rs r n).number n (first_here (λ k. eqb (record_at rs r k).number n) (record_count rs r) l))

  pub absent_each : holds_record rs r n ≡ false → Each (λ y. y.number ≢ n) rs r
  unfolding holds_record find_record
  absent_each e k l =
      let g : record_count rs r ≤ find_record rs r n = ltb-false (find_record rs r n) (record_count rs r) e in
      eqb-false (record_at rs r k).number n (first_before (λ j. eqb (record_at rs r j).number n) (record_count rs r) k (omega arith))

  -- what each held record has, the one with the number has
  pub named_has : (P : Record → Type 0) → Each P rs r → holds_record rs r n ≡ true → P (the_record rs r n)
  unfolding the_record
  named_has P h e = h (find_record rs r n) (held_at e).0

  pub named_ok : r < 8 → all_below (records_well_formed rs) 8 ≡ true → holds_record rs r n ≡ true → record_ok (the_record rs r n) ≡ true
  unfolding records_well_formed
  named_ok b e = named_has (λ y. record_ok y ≡ true) (each_says record_ok rs r (all_each (records_well_formed rs) 8 r b e))

-- ---- the newest

module _ (rs : Records) (r : ℕ) where
  pub newest_none : record_count rs r ≡ 0 → newest rs r ≡ 0
  unfolding newest
  newest_none e = rw (eq-eqb (record_count rs r) 0 e)

  pub newest_last : (k : ℕ) → record_count rs r ≡ k + 1 → newest rs r ≡ (record_at rs r k).number
  unfolding newest
  newest_last k e =
      let q : record_count rs r - 1 ≡ k = omega arith in
      rw (ne_eqb (record_count rs r) 0 (omega arith), q)

  -- numbers rise over any distance
  rise_far : records_rise rs r ≡ true → (k d : ℕ) → k + d < record_count rs r → (record_at rs r k).number ≤ (record_at rs r (k + d)).number
  rise_far e k zero l = rw add-zero (omega arith)
  rise_far e k (suc d) l =
      let m : k + suc d ≡ k + d + 1 = omega arith in
      rw m (omega (arith, rise_far e k d (omega arith), rise_next rs r e (k + d) (omega arith)))

  pub newest_top : records_rise rs r ≡ true → Each (λ y. y.number ≤ newest rs r) rs r
  newest_top e k l =
      let d = record_count rs r - (k + 1) in
      rw (newest_last (k + d) (omega arith)) (rise_far e k d (omega arith))

  -- a number above each held one, as `rise_store` and `named_store` ask it: of a received record, and of an own one
  pub newest_below : (n : ℕ) → records_rise rs r ≡ true → newest rs r < n → Each (λ y. y.number < n) rs r
  newest_below n e h k l = omega (arith, newest_top e k l)

  pub absent_below : (n : ℕ) → records_at_most rs r n ≡ true → holds_record rs r n ≡ false → Each (λ y. y.number < n) rs r
  absent_below n e h k l = omega (arith, at_most_each rs r n e k l, absent_each rs r n h k l)

-- ---- after one more record it is the newest, and is the one with its number

module _ (rs : Records) (r : ℕ) (x : Record) (w : Shaped rs) (b : r < 8) (c : record_count rs r ≤ 4) where
  pub newest_store : newest (store_record rs r x) r ≡ x.number
  newest_store = let t = store_kept rs r x w b c in newest_last (store_record rs r x) r t.kept t.count ∙ ap (λ y. y.number) t.last

  module _ (above : Each (λ y. y.number < x.number) rs r) where
    find_store : find_record (store_record rs r x) r x.number ≡ (store_kept rs r x w b c).kept
    unfolding find_record
    find_store =
        let t = store_kept rs r x w b c in
        first_is (λ k. eqb (record_at (store_record rs r x) r k).number x.number) (record_count (store_record rs r x) r) t.kept
        (omega (arith, t.count))
        (λ k l. ne_eqb (record_at (store_record rs r x) r k).number x.number (rw (t.before k l) (λ q. omega (arith, above (k + t.gone) (omega (arith, t.was))))))
        (λ _. eq-eqb (record_at (store_record rs r x) r t.kept).number x.number (ap (λ y. y.number) t.last))

    pub held_store : holds_record (store_record rs r x) r x.number ≡ true
    unfolding holds_record
    held_store =
        let t = store_kept rs r x w b c in
        lt-ltb (find_record (store_record rs r x) r x.number) (record_count (store_record rs r x) r) (omega (arith, find_store, t.count))

    pub named_store : the_record (store_record rs r x) r x.number ≡ x
    unfolding the_record
    named_store = ap (record_at (store_record rs r x) r) find_store ∙ (store_kept rs r x w b c).last
