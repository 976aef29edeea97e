-- Soundness is kept by the steps of a change. In order: what the clauses of sound say, one by one; spent as a test over slots;
-- start change, membership view, install, each clause by clause and then in one law: start-kept, membership-kept, install-kept.
-- Each of the three gives the clauses and the shape of the new end-point, from those of the old one and from what the step's checks told.
-- Assumes nothing else.
use Prim.Native.Nat.{ℕ, ◌≤◌, ◌<◌}
use native.Mathlib.Omega.{arith}
use mathlib.Core.Bool.{Bool, true, false, not, ◌&&◌, ◌||◌}
use mathlib.Core.Logic.{◌⊎◌, inl, inr}
use mathlib.Core.Path.{◌≡◌, refl, ap, ◌∙◌}
use lib.Dec.{eqb, ltb, leb}
use lib.ListN.{length, get_or, replicate, length-replicate, get_or-replicate}
use borrow.Author.Tests.{eqb-true, ltb-true, le-leb}
use Rattle.below.specs.Below.{all_below}
use Rattle.below.proofs.Tests.{clash, both, and_both, and_left, and_right, not_no}
use Rattle.below.proofs.All.{all_each, all_of}
use Rattle.views.specs.declared.View.{View}
use Rattle.views.specs.Sets.{has}
use Rattle.views.specs.Views.{start_of, view_ok, same}
use Rattle.views.proofs.Sameness.{same_parts, same_refl}
use Rattle.records.specs.Records.{records_well_formed, records_rise, records_at_most}
use Rattle.records.proofs.Rule.{at_most_more}
use Rattle.slots.specs.declared.Slots.{Slots}
use Rattle.slots.specs.Slots.{has_slot, run, freed, has_free, all_used, slots_differ, no_gaps}
use Rattle.slots.proofs.Finding.{Shaped as SlotsShaped, Respects, flags}
use Rattle.slots.proofs.Freeing.{freed_shaped, freed_flags, freed_all_used, freed_gone, freed_differ, freed_gaps, freed_has, freed_run, free_after}
use Rattle.slots.proofs.With.{with_has, with_shaped, with_flags, with_all_used, with_differ, with_gaps, with_other}
use Rattle.endpoint.specs.declared.EndPoint.{EndPoint}
use Rattle.endpoint.specs.State.{is_pending}
use Rattle.agreement.specs.Due.{no_marks}
use Rattle.slots.specs.Spent.{spent_by}
use Rattle.endpoint.specs.Spent.{spent}
use Rattle.endpoint.specs.Ready.{ready}
use Rattle.agreement.specs.Due.{forward_mark}
use Rattle.endpoint.specs.Sound.{heard_from, all_others, flags_ok, views_ok, own_member, counts_ok, records_ok, slots_ok, heard_ok, given_ok}
use Rattle.endpoint.specs.Membership.{after_start, after_membership}
use Rattle.endpoint.specs.Install.{slots_after, after_install}
use Rattle.endpoint.proofs.Spending.{spent_why, spent_of, spent_same, spent_start, spent_install}
use Rattle.endpoint.proofs.Parts.{Parts, Shaped, others_each, others_of}

-- ---- what the clauses say, one by one

sides_3 : (a b c : Bool) → (a && (b && c)) ≡ true → (a ≡ true) × (b ≡ true) × (c ≡ true)
sides_3 a b c t = let r = and_right a (b && c) t in (and_left a (b && c) t, and_left b c r, and_right b c r)

sides_4 : (a b c d : Bool) → (a && (b && (c && d))) ≡ true → (a ≡ true) × (b ≡ true) × (c ≡ true) × (d ≡ true)
sides_4 a b c d t =
    let r = sides_3 b c d (and_right a (b && (c && d)) t) in
    (and_left a (b && (c && d)) t, r.0, r.1, r.2)

sides_5 : (a b c d f : Bool) → (a && (b && (c && (d && f)))) ≡ true → (a ≡ true) × (b ≡ true) × (c ≡ true) × (d ≡ true) × (f ≡ true)
sides_5 a b c d f t =
    let r = sides_4 b c d f (and_right a (b && (c && (d && f))) t) in
    (and_left a (b && (c && (d && f))) t, r.0, r.1, r.2, r.3)

module _ (e : EndPoint) (p : Parts e) where
  flags_each : (leb e.change.opened 1 ≡ true) × (leb e.change.pending 1 ≡ true) × (leb e.change.block 2 ≡ true) × (leb e.told 1 ≡ true) × (flags e.slots ≡ true)
  unfolding flags_ok
  flags_each = sides_5 (leb e.change.opened 1) (leb e.change.pending 1) (leb e.change.block 2) (leb e.told 1) (flags e.slots) p.flags

  views_each : (view_ok e.current ≡ true) × (view_ok e.membership ≡ true) × (all_others e (λ q. view_ok (heard_from e q)) ≡ true) × (all_used view_ok e.slots ≡ true)
  unfolding views_ok
  views_each = sides_4 (view_ok e.current) (view_ok e.membership) (all_others e (λ q. view_ok (heard_from e q))) (all_used view_ok e.slots) p.views

  member_each : (has e.current.set e.me ≡ true) × (has e.membership.set e.me ≡ true)
  unfolding own_member
  member_each = (
    and_left (has e.current.set e.me) (has e.membership.set e.me) p.member,
    and_right (has e.current.set e.me) (has e.membership.set e.me) p.member,
  )

  counts_each : (leb e.passed 128 ≡ true) × (all_others e (λ q. leb (get_or e.received q 0) 128) ≡ true)
      × (all_below (λ r. leb (get_or e.given r 0) 128) 8 ≡ true) × (all_below (λ q. all_below (λ r. leb (forward_mark e.forwarded q r) 128) 8) 8 ≡ true)
  unfolding counts_ok
  counts_each =
      sides_4 (leb e.passed 128) (all_others e (λ q. leb (get_or e.received q 0) 128))
      (all_below (λ r. leb (get_or e.given r 0) 128) 8) (all_below (λ q. all_below (λ r. leb (forward_mark e.forwarded q r) 128) 8) 8) p.counts

  records_each : (all_below (records_well_formed e.records) 8 ≡ true) × (all_below (records_rise e.records) 8 ≡ true) × (records_at_most e.records e.me e.change.number ≡ true)
  unfolding records_ok
  records_each = sides_3 (all_below (records_well_formed e.records) 8) (all_below (records_rise e.records) 8) (records_at_most e.records e.me e.change.number) p.records

  slots_each : (no_gaps e.slots e.me ≡ true) × (slots_differ e.slots ≡ true) × (all_used (λ v. not (spent e v)) e.slots ≡ true) × (has_slot e.slots e.current ≡ true)
  unfolding slots_ok
  slots_each = sides_4 (no_gaps e.slots e.me) (slots_differ e.slots) (all_used (λ v. not (spent e v)) e.slots) (has_slot e.slots e.current) p.slots

  given_each : (all_below (λ r. leb (get_or e.given r 0) (run e.slots e.current r)) 8 ≡ true) × (leb e.passed (run e.slots e.current e.me) ≡ true)
  unfolding given_ok
  given_each = (
    and_left (all_below (λ r. leb (get_or e.given r 0) (run e.slots e.current r)) 8) (leb e.passed (run e.slots e.current e.me)) p.given,
    and_right (all_below (λ r. leb (get_or e.given r 0) (run e.slots e.current r)) 8) (leb e.passed (run e.slots e.current e.me)) p.given,
  )

-- an announced view is accounted for: it needs no slot, or has one
abbrev accounted : EndPoint → View → Bool
accounted e v = eqb v.id 0 || (same v e.current || (spent e v || has_slot e.slots v))

heard_each : (e : EndPoint) → Parts e → (q : ℕ) → q < 8 → (q ≡ e.me → ⊥) → accounted e (heard_from e q) ≡ true
unfolding heard_ok
heard_each e p = others_each e (λ q. accounted e (heard_from e q)) p.heard

-- from the old reasons to the new ones: id 0 (i), current (c), spent (s), a slot (h)
reasons_kept : (i c s h c' s' h' : Bool) → (i || (c || (s || h))) ≡ true → (c ≡ true → (c' || s') ≡ true) → (s ≡ true → s' ≡ true) → (h ≡ true → s' ≡ false → h' ≡ true)
    → (i || (c' || (s' || h'))) ≡ true
reasons_kept true c s h c' s' h' t f g k = refl
reasons_kept false c s h true s' h' t f g k = refl
reasons_kept false c s h false true h' t f g k = refl
reasons_kept false true s h false false h' t f g k = clash (f refl) refl
reasons_kept false false true h false false h' t f g k = clash (g refl) refl
reasons_kept false false false true false false h' t f g k = k refl refl
reasons_kept false false false false false false h' t f g k = clash t refl

-- ---- spent as a test over slots: it respects sameness, and is not said of the current view

module _ (me : ℕ) (current : View) (latest : ℕ) (pending : Bool) where
  spent_respects : me ≤ 7 → Respects (spent_by me current latest pending)
  spent_respects l v w t = spent_same me current latest pending v w (omega arith) t

  spent_not_current : spent_by me current latest pending current ≡ false
  spent_not_current =
      both (spent_by me current latest pending current) false
      (λ t. clash (same_refl current) (spent_why me current latest pending current t).0) (λ t. clash t refl)

-- ---- start change

-- what a start change frees
abbrev start_frees : EndPoint → ℕ → View → Bool
start_frees e n = spent_by e.me e.current n true

module _ (e : EndPoint) (n s : ℕ) (shape : Shaped e) (p : Parts e) (rises : e.change.number < n) where
  start_respects : Respects (start_frees e n)
  start_respects = spent_respects e.me e.current n true p.low

  start_current : start_frees e n e.current ≡ false
  start_current = spent_not_current e.me e.current n true

  start_flags : flags_ok (after_start e n s) ≡ true
  unfolding flags_ok after_start
  start_flags =
      let f = flags_each e p in
      and_both f.2 (and_both f.3 (freed_flags (start_frees e n) e.slots shape.slots_shaped f.4))

  start_views : views_ok (after_start e n s) ≡ true
  unfolding views_ok after_start all_others heard_from
  start_views =
      let v = views_each e p in
      and_both v.0 (and_both v.1 (and_both v.2 (freed_all_used (start_frees e n) e.slots shape.slots_shaped view_ok v.3)))

  start_member : own_member (after_start e n s) ≡ true
  unfolding own_member after_start
  start_member = p.member

  start_counts : counts_ok (after_start e n s) ≡ true
  unfolding counts_ok after_start all_others forward_mark
  start_counts = p.counts

  start_records : records_ok (after_start e n s) ≡ true
  unfolding records_ok after_start
  start_records =
      let r = records_each e p in
      and_both r.0 (and_both r.1 (at_most_more e.records e.me e.change.number n r.2 (omega arith)))

  start_slots : slots_ok (after_start e n s) ≡ true
  unfolding slots_ok after_start spent
  start_slots =
      let t = slots_each e p in
      and_both (freed_gaps (start_frees e n) e.slots shape.slots_shaped e.me t.0)
      (and_both (freed_differ (start_frees e n) e.slots shape.slots_shaped t.1)
      (and_both (freed_gone (start_frees e n) e.slots shape.slots_shaped)
      (freed_has (start_frees e n) e.slots shape.slots_shaped start_respects e.current start_current ∙ t.3)))

  start_heard_view : (v : View) → accounted e v ≡ true → accounted (after_start e n s) v ≡ true
  unfolding after_start spent
  start_heard_view v t =
      reasons_kept (eqb v.id 0) (same v e.current) (spent e v) (has_slot e.slots v)
      (same v e.current) (start_frees e n v) (has_slot (freed (start_frees e n) e.slots) v) t
      (λ c. rw c refl)
      (λ c. spent_start e.me e.current e.change.number n (is_pending e) v rises c)
      (λ h g. freed_has (start_frees e n) e.slots shape.slots_shaped start_respects v g ∙ h)

  start_heard : heard_ok (after_start e n s) ≡ true
  unfolding heard_ok after_start heard_from
  start_heard =
      others_of (after_start e n s) (λ q. accounted (after_start e n s) (heard_from (after_start e n s) q))
      (λ q l m. start_heard_view (heard_from e q) (heard_each e p q l m))

  start_given : given_ok (after_start e n s) ≡ true
  unfolding given_ok after_start
  start_given =
      let g = given_each e p in
      let stays = freed_run (start_frees e n) e.slots shape.slots_shaped start_respects e.current start_current in
      and_both
      (all_of (λ r. leb (get_or e.given r 0) (run (freed (start_frees e n) e.slots) e.current r)) 8
      (λ r l. rw (stays r) (all_each (λ r. leb (get_or e.given r 0) (run e.slots e.current r)) 8 r l g.0)))
      (rw (stays e.me) g.1)

  start_parts : Parts (after_start e n s)
  unfolding after_start
  start_parts = record {
    low = p.low;
    flags = start_flags;
    views = start_views;
    member = start_member;
    counts = start_counts;
    records = start_records;
    slots = start_slots;
    heard = start_heard;
    given = start_given;
  }

  start_shaped : Shaped (after_start e n s)
  unfolding after_start
  start_shaped = record {
    slots_shaped = freed_shaped (start_frees e n) e.slots shape.slots_shaped;
    records_shaped = shape.records_shaped;
    heard_length = shape.heard_length;
    received_length = shape.received_length;
    given_length = shape.given_length;
    forwarded_length = shape.forwarded_length;
    rows_length = shape.rows_length;
  }

  pub start_kept : Parts (after_start e n s) × Shaped (after_start e n s)
  start_kept = (start_parts, start_shaped)

-- ---- membership view

-- the eight rows of forward marks after it: all 0
zero_row_lem : (q : ℕ) → q < 8 → (get_or (replicate 8 no_marks) q no_marks).marks ≡ replicate 8 0
zero_row_lem q l = ap (λ row. row.marks) (get_or-replicate 8 q no_marks no_marks l)

zero_marks : all_below (λ q. all_below (λ r. leb (get_or (get_or (replicate 8 no_marks) q no_marks).marks r 0) 128) 8) 8 ≡ true
zero_marks =
    all_of (λ q. all_below (λ r. leb (get_or (get_or (replicate 8 no_marks) q no_marks).marks r 0) 128) 8) 8
    (λ q l. all_of (λ r. leb (get_or (get_or (replicate 8 no_marks) q no_marks).marks r 0) 128) 8
    (λ r m. ap (λ xs. leb (get_or xs r 0) 128) (zero_row_lem q l) ∙ ap (λ k. leb k 128) (get_or-replicate 8 r 0 0 m)))

module _ (e : EndPoint) (v : View) (shape : Shaped e) (p : Parts e) (ok : view_ok v ≡ true) (own : has v.set e.me ≡ true) where
  membership_flags : flags_ok (after_membership e v) ≡ true
  unfolding flags_ok after_membership
  membership_flags = let f = flags_each e p in and_both f.1 (and_both f.2 (and_both f.3 f.4))

  membership_views : views_ok (after_membership e v) ≡ true
  unfolding views_ok after_membership all_others heard_from
  membership_views = let t = views_each e p in and_both t.0 (and_both ok (and_both t.2 t.3))

  membership_member : own_member (after_membership e v) ≡ true
  unfolding own_member after_membership
  membership_member = and_both (member_each e p).0 own

  membership_counts : counts_ok (after_membership e v) ≡ true
  unfolding counts_ok after_membership all_others forward_mark
  membership_counts = let c = counts_each e p in and_both c.0 (and_both c.1 (and_both c.2 zero_marks))

  membership_parts : Parts (after_membership e v)
  unfolding after_membership records_ok slots_ok heard_ok given_ok spent all_others heard_from
  membership_parts = record {
    low = p.low;
    flags = membership_flags;
    views = membership_views;
    member = membership_member;
    counts = membership_counts;
    records = p.records;
    slots = p.slots;
    heard = p.heard;
    given = p.given;
  }

  membership_shaped : Shaped (after_membership e v)
  unfolding after_membership
  membership_shaped = record {
    slots_shaped = shape.slots_shaped;
    records_shaped = shape.records_shaped;
    heard_length = shape.heard_length;
    received_length = shape.received_length;
    given_length = shape.given_length;
    forwarded_length = length-replicate 8 no_marks;
    rows_length = λ q l. ap length (zero_row_lem q l) ∙ length-replicate {A = ℕ} 8 0;
  }

  pub membership_kept : Parts (after_membership e v) × Shaped (after_membership e v)
  membership_kept = (membership_parts, membership_shaped)

-- ---- install

-- what an install frees
abbrev install_frees : EndPoint → View → Bool
install_frees e = spent_by e.me e.membership e.change.number false

-- the slots with those freed
abbrev slots_freed : EndPoint → Slots
slots_freed e = freed (install_frees e) e.slots

ready_each : (e : EndPoint) → ready e ≡ true → (is_pending e ≡ true) × (e.current.id < e.membership.id) × (start_of e.membership e.me ≡ e.change.number)
unfolding ready
ready_each e r =
    let t = sides_3 (is_pending e) (ltb e.current.id e.membership.id) (eqb (start_of e.membership e.me) e.change.number) r in
    (t.0, ltb-true e.current.id e.membership.id t.1, eqb-true (start_of e.membership e.me) e.change.number t.2)

zero_counts : (f : ℕ → ℕ) → all_below (λ r. leb (get_or (replicate 8 0) r 0) (f r)) 8 ≡ true
zero_counts f = all_of (λ r. leb (get_or (replicate 8 0) r 0) (f r)) 8 (λ r l. ap (λ k. leb k (f r)) (get_or-replicate 8 r 0 0 l) ∙ le-leb 0 (f r) (omega arith))

module _ (e : EndPoint) (shape : Shaped e) (p : Parts e) (is_ready : ready e ≡ true) where
  install_respects : Respects (install_frees e)
  install_respects = spent_respects e.me e.membership e.change.number false p.low

  install_current : install_frees e e.membership ≡ false
  install_current = spent_not_current e.me e.membership e.change.number false

  -- the old current view is spent, and so is each view that is the same
  old_spent : (v : View) → same v e.current ≡ true → install_frees e v ≡ true
  old_spent v t =
      let l = (ready_each e is_ready).1 in
      let i = (same_parts v e.current t).ids in
      spent_of e.me e.membership e.change.number false v
      (both (same v e.membership) false (λ u. let j = (same_parts v e.membership u).ids in absurd (omega arith)) (λ u. clash u refl))
      (inl (omega arith))

  freed_ok : SlotsShaped (slots_freed e)
  freed_ok = freed_shaped (install_frees e) e.slots shape.slots_shaped

  -- so there is room for the new one
  room : (has_slot (slots_freed e) e.membership ≡ true) ⊎ (has_free (slots_freed e) ≡ true)
  room =
      inr (free_after (install_frees e) e.slots shape.slots_shaped install_respects e.current (slots_each e p).3
      (old_spent e.current (same_refl e.current)))

  install_flags : flags_ok (after_install e) ≡ true
  unfolding flags_ok after_install slots_after
  install_flags =
      let f = flags_each e p in
      and_both f.0 (with_flags e.membership (slots_freed e) freed_ok room (freed_flags (install_frees e) e.slots shape.slots_shaped f.4))

  install_views : views_ok (after_install e) ≡ true
  unfolding views_ok after_install slots_after all_others heard_from
  install_views =
      let t = views_each e p in
      and_both t.1 (and_both t.1 (and_both t.2
      (with_all_used e.membership (slots_freed e) freed_ok room view_ok (freed_all_used (install_frees e) e.slots shape.slots_shaped view_ok t.3) t.1)))

  install_member : own_member (after_install e) ≡ true
  unfolding own_member after_install
  install_member = let m = (member_each e p).1 in and_both m m

  install_counts : counts_ok (after_install e) ≡ true
  unfolding counts_ok after_install all_others forward_mark
  install_counts = let c = counts_each e p in and_both c.1 (and_both (zero_counts (λ r. 128)) c.3)

  install_slots : slots_ok (after_install e) ≡ true
  unfolding slots_ok after_install slots_after spent
  install_slots =
      let t = slots_each e p in
      and_both
      (with_gaps e.membership (slots_freed e) freed_ok room e.me (freed_gaps (install_frees e) e.slots shape.slots_shaped e.me t.0))
      (and_both (with_differ e.membership (slots_freed e) freed_ok room (freed_differ (install_frees e) e.slots shape.slots_shaped t.1))
      (and_both
      (with_all_used e.membership (slots_freed e) freed_ok room (λ v. not (install_frees e v)) (freed_gone (install_frees e) e.slots shape.slots_shaped)
      (not_no (install_frees e e.membership) install_current))
      (with_has e.membership (slots_freed e) freed_ok room)))

  install_heard_view : (v : View) → accounted e v ≡ true → accounted (after_install e) v ≡ true
  unfolding after_install slots_after spent
  install_heard_view v t =
      let r = ready_each e is_ready in
      reasons_kept (eqb v.id 0) (same v e.current) (spent e v) (has_slot e.slots v)
      (same v e.membership) (install_frees e v) (has_slot (slots_after e) v) t
      (λ c. or_second (same v e.membership) (install_frees e v) (old_spent v c))
      (λ c. spent_install e.me e.current e.membership e.change.number v (omega arith) r.1 r.2 (rw r.0 at c))
      (λ h g. (with_other e.membership (slots_freed e) freed_ok room v
      (freed_has (install_frees e) e.slots shape.slots_shaped install_respects v g ∙ h)).1)
    where
      or_second : (a b : Bool) → b ≡ true → (a || b) ≡ true
      or_second true b c = refl
      or_second false b c = c

  install_heard : heard_ok (after_install e) ≡ true
  unfolding heard_ok after_install heard_from
  install_heard =
      others_of (after_install e) (λ q. accounted (after_install e) (heard_from (after_install e) q))
      (λ q l m. install_heard_view (heard_from e q) (heard_each e p q l m))

  install_given : given_ok (after_install e) ≡ true
  unfolding given_ok after_install
  install_given =
      and_both (zero_counts (run (slots_after e) e.membership))
      (le-leb 0 (run (slots_after e) e.membership e.me) (omega arith))

  install_parts : Parts (after_install e)
  unfolding after_install records_ok
  install_parts = record {
    low = p.low;
    flags = install_flags;
    views = install_views;
    member = install_member;
    counts = install_counts;
    records = p.records;
    slots = install_slots;
    heard = install_heard;
    given = install_given;
  }

  install_shaped : Shaped (after_install e)
  unfolding after_install slots_after
  install_shaped = record {
    slots_shaped = with_shaped e.membership (slots_freed e) freed_ok room;
    records_shaped = shape.records_shaped;
    heard_length = shape.heard_length;
    received_length = shape.received_length;
    given_length = length-replicate {A = ℕ} 8 0;
    forwarded_length = shape.forwarded_length;
    rows_length = shape.rows_length;
  }

  pub install_kept : Parts (after_install e) × Shaped (after_install e)
  install_kept = (install_parts, install_shaped)
