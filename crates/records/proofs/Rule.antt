-- The tests of what is held, over `store_record` and over no records: well formed, rising in number, none above n.
-- First what a rising sender's test says; then each test after one more record; then all of no records.
-- A new record's number is above each held one of its sender: of a received record `newest_below` says so, of an own one `absent_below`, both of Find.
-- Assumes nothing. What `store_record` does to the records themselves is in Store.
use Prim.Native.Nat.{ℕ, ◌+◌, ◌-◌, ◌≤◌, ◌<◌}
use native.Mathlib.Nat.{eq-or-lt_of_le}
use native.Mathlib.Omega.{arith}
use mathlib.Core.Bool.{Bool, true}
use mathlib.Core.Path.{◌≡◌}
use mathlib.Core.Logic.{⊎_elim, ◌≢◌}
use lib.Dec.{ltb, leb}
use lib.ListN.{length-replicate, get_or-replicate}
use borrow.Author.Tests.{lt-ltb, ltb-true, le-leb, leb-true}
use Rattle.below.specs.Below.{all_below}
use Rattle.below.proofs.Tests.{and_both, and_left, and_right}
use Rattle.below.proofs.All.{all_none, all_each, all_of}
use Rattle.records.specs.declared.Record.{Record}
use Rattle.records.specs.declared.Records.{Records}
use Rattle.records.specs.Records.{no_record, no_records, record_at, record_count, store_record, record_ok, records_well_formed, records_rise, records_at_most}
use Rattle.records.proofs.Store.{Shaped, Each, each, each_of, each_says, same_or_not, count_other, record_other, Kept, store_kept, store_each, store_each_other}

-- ---- a sender's records rise: at most four, each number below the next; and back

abbrev pub Rising : Records → ℕ → Type 0
Rising rs r = (k : ℕ) → k + 1 < record_count rs r → (record_at rs r k).number < (record_at rs r (k + 1)).number

module _ (rs : Records) (r : ℕ) where
  pub rise_few : records_rise rs r ≡ true → record_count rs r ≤ 4
  unfolding records_rise
  rise_few e = leb-true (record_count rs r) 4 (and_left (leb (record_count rs r) 4) _ e)

  pub rise_next : records_rise rs r ≡ true → Rising rs r
  unfolding records_rise
  rise_next e k l =
      ltb-true (record_at rs r k).number (record_at rs r (k + 1)).number
      (all_each (λ j. ltb (record_at rs r j).number (record_at rs r (j + 1)).number) (record_count rs r - 1) k (omega arith)
      (and_right (leb (record_count rs r) 4) _ e))

  pub rise_of : record_count rs r ≤ 4 → Rising rs r → records_rise rs r ≡ true
  unfolding records_rise
  rise_of c h =
      and_both (le-leb (record_count rs r) 4 c)
      (all_of (λ j. ltb (record_at rs r j).number (record_at rs r (j + 1)).number) (record_count rs r - 1)
      (λ k l. lt-ltb (record_at rs r k).number (record_at rs r (k + 1)).number (h k (omega arith))))

  -- each of all senders has at most four
  pub each_few : r < 8 → all_below (records_rise rs) 8 ≡ true → record_count rs r ≤ 4
  each_few b e = rise_few (all_each (records_rise rs) 8 r b e)

-- ---- none above n

module _ (rs : Records) (r n : ℕ) where
  pub at_most_each : records_at_most rs r n ≡ true → Each (λ y. y.number ≤ n) rs r
  unfolding records_at_most
  at_most_each e k l = leb-true (record_at rs r k).number n (each_says (λ y. leb y.number n) rs r e k l)

  pub at_most_of : Each (λ y. y.number ≤ n) rs r → records_at_most rs r n ≡ true
  unfolding records_at_most
  at_most_of h = each_of (λ y. leb y.number n) rs r (λ k l. le-leb (record_at rs r k).number n (h k l))

pub at_most_more : (rs : Records) (r n m : ℕ) → records_at_most rs r n ≡ true → n ≤ m → records_at_most rs r m ≡ true
at_most_more rs r n m e h = at_most_of rs r m (λ k l. omega (arith, at_most_each rs r n e k l))

-- ---- one more record

module _ (rs : Records) (r : ℕ) (x : Record) (w : Shaped rs) (b : r < 8) (rise : all_below (records_rise rs) 8 ≡ true) where
  -- a test of each held record, at sender s
  each_store : (f : Record → Bool) (s : ℕ) → s < 8 → each f rs s ≡ true → (s ≡ r → f x ≡ true) → each f (store_record rs r x) s ≡ true
  each_store f s l e h =
      ⊎_elim
      (λ (q : s ≡ r). rw q (store_each rs r x w b (each_few rs r b rise) f (rw q at e) (h q)))
      (λ q. store_each_other rs r x s q (each_few rs s l rise) f e)
      (same_or_not s r)

  pub well_formed_store : record_ok x ≡ true → all_below (records_well_formed rs) 8 ≡ true → all_below (records_well_formed (store_record rs r x)) 8 ≡ true
  unfolding records_well_formed
  well_formed_store p e =
      all_of (records_well_formed (store_record rs r x)) 8
      (λ s l. each_store record_ok s l (all_each (records_well_formed rs) 8 s l e) (λ q. p))

  pub at_most_store : (s n : ℕ) → s < 8 → records_at_most rs s n ≡ true → (s ≡ r → x.number ≤ n) → records_at_most (store_record rs r x) s n ≡ true
  unfolding records_at_most
  at_most_store s n l e h = each_store (λ y. leb y.number n) s l e (λ q. le-leb x.number n (h q))

  -- r's own: the pairs that stayed, and the last that stayed with the new one
  rise_kept : Each (λ y. y.number < x.number) rs r → Kept rs r x → Rising (store_record rs r x) r
  rise_kept h t k l = ⊎_elim end inner (eq-or-lt_of_le (omega (arith, t.count)))
    where
      end : k + 1 ≡ t.kept → (record_at (store_record rs r x) r k).number < (record_at (store_record rs r x) r (k + 1)).number
      end q = rw (q, t.last, t.before k (omega arith)) (h (k + t.gone) (omega (arith, t.was)))

      inner : k + 1 < t.kept → (record_at (store_record rs r x) r k).number < (record_at (store_record rs r x) r (k + 1)).number
      inner q =
          let m : k + 1 + t.gone ≡ k + t.gone + 1 = omega arith in
          rw (t.before k (omega arith), t.before (k + 1) q, m)
          (rise_next rs r (all_each (records_rise rs) 8 r b rise) (k + t.gone) (omega (arith, t.was)))

  rise_own : Each (λ y. y.number < x.number) rs r → records_rise (store_record rs r x) r ≡ true
  rise_own h =
      let t = store_kept rs r x w b (each_few rs r b rise) in
      rise_of (store_record rs r x) r (omega (arith, t.count, t.room)) (rise_kept h t)

  -- the others': as before
  rising_other : (s : ℕ) → s < 8 → s ≢ r → Rising (store_record rs r x) s
  rising_other s l ne k m =
      let c = each_few rs s l rise in
      let g : k + 1 < record_count rs s = rw (count_other rs r x s ne) at m in
      rw (record_other rs r x s k ne (omega arith), record_other rs r x s (k + 1) ne (omega arith))
      (rise_next rs s (all_each (records_rise rs) 8 s l rise) k g)

  rise_other : (s : ℕ) → s < 8 → s ≢ r → records_rise (store_record rs r x) s ≡ true
  rise_other s l ne = rise_of (store_record rs r x) s (rw (count_other rs r x s ne) (each_few rs s l rise)) (rising_other s l ne)

  pub rise_store : Each (λ y. y.number < x.number) rs r → all_below (records_rise (store_record rs r x)) 8 ≡ true
  rise_store h =
      all_of (records_rise (store_record rs r x)) 8
      (λ s l. ⊎_elim (λ (q : s ≡ r). rw q (rise_own h)) (λ q. rise_other s l q) (same_or_not s r))

-- ---- no records

pub none_shaped : Shaped no_records
none_shaped = record { held_length = length-replicate 32 no_record; counts_length = length-replicate {A = ℕ} 8 0 }

pub none_count : (r : ℕ) → r < 8 → record_count no_records r ≡ 0
unfolding record_count
none_count r l = get_or-replicate 8 r 0 0 l

pub none_well_formed : all_below (records_well_formed no_records) 8 ≡ true
unfolding records_well_formed
none_well_formed = all_of (records_well_formed no_records) 8 (λ r l. rw (none_count r l) (all_none (λ k. record_ok (record_at no_records r k))))

pub none_rise : all_below (records_rise no_records) 8 ≡ true
none_rise =
    all_of (records_rise no_records) 8
    (λ r l. rise_of no_records r (omega (arith, none_count r l)) (λ k m. absurd (omega (arith, none_count r l))))

pub none_at_most : (r n : ℕ) → r < 8 → records_at_most no_records r n ≡ true
none_at_most r n l = at_most_of no_records r n (λ k m. absurd (omega (arith, none_count r l)))
