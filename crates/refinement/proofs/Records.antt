-- The records held, as the automaton sees them: after one is stored, and the agreed count by them. Assumes nothing.
use Prim.Native.Nat.{ℕ, zero, suc, ◌+◌, ◌-◌, ◌≤◌, ◌<◌}
use native.Mathlib.Omega.{arith}
use native.Mathlib.Decide.{ℕ_discrete}
use native.Mathlib.Nat.{eq-or-lt_of_le}
use mathlib.Core.Bool.{Bool, true, false, cond, ◌&&◌}
use mathlib.Core.Option.{Option, none, some, none-ne-some, some-injective}
use mathlib.Core.Path.{◌≡◌, refl, sym, ap, ◌∙◌}
use mathlib.Core.Logic.{◌⊎◌, inl, inr, ⊎_elim}
use lib.Dec.{eqb}
use borrow.Author.Tests.{eq-eqb, ne_eqb, lt-ltb}
use Rattle.below.specs.Below.{first_below}
use Rattle.below.proofs.Tests.{side}
use Rattle.below.proofs.First.{first_is, first_same}
use Rattle.automaton.specs.Actions.{Stored}
use Rattle.automaton.specs.State as Automaton
use Rattle.automaton.specs.Agreed as Rule
use Rattle.views.specs.declared.View.{View}
use Rattle.views.specs.Sets.{has}
use Rattle.views.specs.Views.{start_of, same}
use Rattle.views.specs.Cuts.{count_of}
use Rattle.records.specs.declared.Record.{Record}
use Rattle.records.specs.declared.Records.{Records}
use Rattle.records.specs.Records.{record_at, record_count, find_record, holds_record, the_record, store_record, records_rise}
use Rattle.records.proofs.Store.{Shaped, Each, store_kept, store_shaped, count_other, record_other}
use Rattle.records.proofs.Rule.{rise_next, rise_few}
use Rattle.records.proofs.Find.{held_at, held_store, named_store}
use Rattle.records.proofs.Past.{holds_past}
use Rattle.agreement.specs.Named.{named_held, named, in_both, in_t, named_cut, agreed}
use Rattle.agreement.proofs.Numbers.{largest_same}
use Rattle.refinement.specs.Views.{normal, member, start_in, views}
use Rattle.refinement.specs.Abstract.{seen, record_in}
use Rattle.refinement.proofs.Sameness.{start_normal, same_equal, member_is}

module _ (rs : Records) (m j : ℕ) where
  pub record_held : holds_record rs m j ≡ true → record_in rs m j ≡ some (seen (the_record rs m j))
  unfolding record_in
  record_held h = rw h

  pub record_none : holds_record rs m j ≡ false → record_in rs m j ≡ none
  unfolding record_in
  record_none h = rw h

  pub record_is : (y : Automaton.Record views) → record_in rs m j ≡ some y → (holds_record rs m j ≡ true) × (y ≡ seen (the_record rs m j))
  record_is y e = go (holds_record rs m j) refl
    where
      go : (b : Bool) → holds_record rs m j ≡ b → (holds_record rs m j ≡ true) × (y ≡ seen (the_record rs m j))
      go true h = (h, some-injective y (seen (the_record rs m j)) (sym e ∙ record_held h))
      go false h = absurd (none-ne-some y (sym (record_none h) ∙ e))

-- a sender's records rise, so a number is found where it stands
module _ (rs : Records) (r : ℕ) (rise : records_rise rs r ≡ true) where
  rise_far : (k d : ℕ) → k + suc d < record_count rs r → (record_at rs r k).number < (record_at rs r (k + suc d)).number
  rise_far k zero l = rise_next rs r rise k l
  rise_far k (suc d) l =
      let e : k + suc (suc d) ≡ k + suc d + 1 = omega arith in
      rw e (omega (arith, rise_far k d (omega arith), rise_next rs r rise (k + suc d) (omega arith)))

  rise_lt : (k i : ℕ) → k < i → i < record_count rs r → (record_at rs r k).number < (record_at rs r i).number
  rise_lt k i l h =
      let d : ℕ = i - (suc k) in
      let e : i ≡ k + suc d = omega arith in
      rw e (rise_far k d (omega arith))

  pub find_here : (k j : ℕ) → k < record_count rs r → (record_at rs r k).number ≡ j → find_record rs r j ≡ k
  unfolding find_record
  find_here k j l e =
      first_is (λ i. eqb (record_at rs r i).number j) (record_count rs r) k (omega arith)
      (λ i h. ne_eqb (record_at rs r i).number j (λ q. omega (arith, rise_lt i k h l)))
      (λ h. eq-eqb (record_at rs r k).number j e)

  pub the_here : (k j : ℕ) → k < record_count rs r → (record_at rs r k).number ≡ j → (holds_record rs r j ≡ true) × (the_record rs r j ≡ record_at rs r k)
  unfolding holds_record the_record
  the_here k j l e = (lt-ltb (find_record rs r j) (record_count rs r) (rw (find_here k j l e) l), ap (record_at rs r) (find_here k j l e))

the_find : (rs : Records) (r j : ℕ) → the_record rs r j ≡ record_at rs r (find_record rs r j)
unfolding the_record
the_find rs r j = refl

-- ---- one is stored

module _ (rs : Records) (r : ℕ) (x : Record) (w : Shaped rs) (b : r < 8) (rise : (m : ℕ) → m < 8 → records_rise rs m ≡ true) (above : Each (λ y. y.number < x.number) rs r) where
  abbrev rs' : Records
  rs' = store_record rs r x

  few : record_count rs r ≤ 4
  few = rise_few rs r (rise r b)

  -- another sender's
  other_find : (m j : ℕ) → m < 8 → (m ≡ r → ⊥) → find_record rs' m j ≡ find_record rs m j
  unfolding find_record
  other_find m j l ne =
      ap (λ (n : ℕ). first_below (λ k. eqb (record_at rs' m k).number j) n) (count_other rs r x m ne)
      ∙ first_same (λ k. eqb (record_at rs' m k).number j) (λ k. eqb (record_at rs m k).number j) (record_count rs m)
      (λ k h. rw (record_other rs r x m k ne (omega (arith, rise_few rs m (rise m l)))) refl)

  pub other_record : (m j : ℕ) → m < 8 → (m ≡ r → ⊥) → record_in rs' m j ≡ record_in rs m j
  unfolding record_in holds_record the_record
  other_record m j l ne = go (holds_record rs m j) refl
    where
      same_holds : holds_record rs' m j ≡ holds_record rs m j
      same_holds = rw (other_find m j l ne, count_other rs r x m ne)

      go : (c : Bool) → holds_record rs m j ≡ c → record_in rs' m j ≡ record_in rs m j
      go true h =
          let k = (held_at rs m j h).0 in
          record_held rs' m j (same_holds ∙ h)
          ∙ ap (λ (y : Record). some (seen y)) (ap (record_at rs' m) (other_find m j l ne) ∙ record_other rs r x m (find_record rs m j) ne (omega (arith, rise_few rs m (rise m l), k)))
          ∙ sym (record_held rs m j h)
      go false h = record_none rs' m j (same_holds ∙ h) ∙ sym (record_none rs m j h)

  pub new_record : record_in rs' r x.number ≡ some (seen x)
  new_record = record_held rs' r x.number (held_store rs r x w b few above) ∙ ap (λ (y : Record). some (seen y)) (named_store rs r x w b few above)

  pub stored_records : Stored views (record_in rs) (record_in rs') r x.number (seen x)
  stored_records q j y e = go (ℕ_discrete q r)
    where
      B : Type 0
      B = (record_in rs q j ≡ some y) ⊎ ((q ≡ r) × (j ≡ x.number) × (y ≡ seen x))

      own : record_in rs' r j ≡ some y → (record_in rs r j ≡ some y) ⊎ ((j ≡ x.number) × (y ≡ seen x))
      own h =
          let p = record_is rs' r j y h in
          let k = held_at rs' r j p.0 in
          let t = store_kept rs r x w b few in
          ⊎_elim
          (λ (i : find_record rs' r j ≡ t.kept).
          let z = the_last t.kept i t.last in
          inr (sym k.1 ∙ ap (λ (a : Record). a.number) z, p.1 ∙ ap seen z))
          (λ i.
          let z = the_before (find_record rs' r j + t.gone) (t.before (find_record rs' r j) i) in
          let f = the_here rs r (rise r b) (find_record rs' r j + t.gone) j (omega (arith, t.was)) (sym (ap (λ (a : Record). a.number) z) ∙ k.1) in
          inl (record_held rs r j f.0 ∙ ap (λ (a : Record). some (seen a)) (f.1 ∙ sym z) ∙ sym (ap some p.1)))
          (eq-or-lt_of_le (let g : find_record rs' r j ≤ t.kept = omega (arith, t.count, k.0) in g))
        where
          the_last : (n : ℕ) → find_record rs' r j ≡ n → record_at rs' r n ≡ x → the_record rs' r j ≡ x
          the_last n i l = the_at n i ∙ l
            where
              the_at : (n : ℕ) → find_record rs' r j ≡ n → the_record rs' r j ≡ record_at rs' r n
              the_at n i = the_find rs' r j ∙ ap (record_at rs' r) i

          the_before : (n : ℕ) → record_at rs' r (find_record rs' r j) ≡ record_at rs r n → the_record rs' r j ≡ record_at rs r n
          the_before n i = the_find rs' r j ∙ i

      past : 8 ≤ q → B
      past g = absurd (none-ne-some y (sym (record_none rs' q j (holds_past rs' q (store_shaped rs r x w).counts_length g j)) ∙ e))

      go : Dec (q ≡ r) → B
      go (yes f) = ⊎_elim (λ h. inl (rw f h)) (λ h. inr (f, h.0, h.1)) (own (rw f at e))
      go (no f) = ⊎_elim (λ l. inl (sym (other_record q j l f) ∙ e)) past (side q 8)

-- ---- the agreed count

-- what one member adds
none_adds : (b s : Bool) (n : ℕ) → cond (b && (false && s)) n 0 ≡ 0
none_adds true s n = refl
none_adds false s n = refl

nothing_adds : (b : Bool) → ◌≡◌ {A = ℕ} (cond (b && false) 0 0) 0
nothing_adds true = refl
nothing_adds false = refl

module _ (current membership : View) (rs : Records) (r m : ℕ) (l : m < 8) where
  abbrev named' : Option (Automaton.Record views)
  named' = record_in rs m (start_in (normal membership) m)

  abbrev the : Record
  the = the_record rs m (start_of membership m)

  member_adds : (b : Bool) → holds_record rs m (start_of membership m) ≡ b
      → cond (in_t current membership rs m) (named_cut membership rs m r) 0
      ≡ cond (Rule.in_t views (normal current) (normal membership) named' m) (Rule.commits views named' r) 0
  unfolding Rule.in_t Rule.carries Rule.commits in_t in_both named_held named named_cut seen normal
  member_adds true h =
      rw (start_normal membership m l, record_held rs m (start_of membership m) h, h, member_is current.set m l, member_is membership.set m l, same_equal the.view current) refl
  member_adds false h =
      rw (start_normal membership m l, record_none rs m (start_of membership m) h, h)
      (none_adds (has current.set m && has membership.set m) (same the.view current) (count_of the.cut r)
      ∙ sym (nothing_adds (member current.set m && member membership.set m)))

pub agreed_is : (current membership : View) (rs : Records) (r : ℕ) → agreed current membership rs r ≡ Rule.agreed views 8 (record_in rs) (normal current) (normal membership) r
unfolding agreed Rule.agreed Rule.named
agreed_is current membership rs r =
    largest_same (λ m. cond (in_t current membership rs m) (named_cut membership rs m r) 0)
    (λ m. cond (Rule.in_t views (normal current) (normal membership) (record_in rs m (start_in (normal membership) m)) m) (Rule.commits views (record_in rs m (start_in (normal membership) m)) r) 0) 8
    (λ m l. member_adds current membership rs r m l (holds_record rs m (start_of membership m)) refl)
