-- The steps that store keep an end-point sound: a send, and a received word, forward and view. In order: what such a step has to give (Stores), that the
-- end-point before has it, and that it is enough; what marking a word, taking a slot, a received count and an announced view keep; the four steps.
-- Assumes Shaped and Parts, and of each step what its checks have told. Only the slots, the announced views and the received counts change.
use Prim.Native.Nat.{ℕ, ◌+◌, ◌≤◌, ◌<◌}
use native.Mathlib.Omega.{arith}
use mathlib.Core.Bool.{Bool, true, false, not, cond, ◌&&◌, ◌||◌}
use mathlib.Core.List.{List}
use mathlib.Core.Logic.{⊎_elim}
use mathlib.Core.Path.{◌≡◌, refl, ap, ◌∙◌}
use lib.Dec.{eqb, leb}
use lib.ListN.{length, get_or, set, length-set}
use lib.Seq.{get_or-set_same, get_or-set_other}
use borrow.Author.Tests.{leb-true, le-leb}
use Rattle.below.specs.Below.{all_below}
use Rattle.below.proofs.Tests.{not_is, is_not, not_no, and_both, and_left, and_right}
use Rattle.below.proofs.All.{all_each, all_of}
use Rattle.views.specs.declared.View.{View}
use Rattle.views.specs.Views.{initial, view_ok, same}
use Rattle.messages.specs.declared.Message.{Message}
use Rattle.slots.specs.declared.Slots.{Slots}
use Rattle.slots.specs.Slots.{has_slot, run, mark_word, has_free, taken, all_used, slots_differ, no_gaps}
use Rattle.slots.proofs.Finding as Find
use Rattle.slots.proofs.Finding.{flags, at_or_not, run_low}
use Rattle.slots.proofs.Marking.{mark_has, mark_all_used, mark_differ, mark_flags, mark_shaped, mark_run, mark_gaps_other, mark_gaps_own}
use Rattle.slots.proofs.Taking.{taken_shaped, taken_flags, taken_has, taken_all_used, taken_gaps, taken_differ, taken_other, taken_run_other}
use Rattle.endpoint.specs.declared.EndPoint.{EndPoint}
use Rattle.endpoint.specs.State.{with_slots, with_heard}
use Rattle.endpoint.specs.Spent.{spent}
use Rattle.agreement.specs.Due.{forward_mark}
use Rattle.endpoint.specs.Sound.{heard_from, all_others, flags_ok, views_ok, own_member, counts_ok, records_ok, slots_ok, heard_ok, given_ok}
use Rattle.endpoint.specs.Application.{own_run, after_send}
use Rattle.endpoint.specs.Receive.{store_word, needs_slot, after_view, next_word, live, after_word, after_forward}
use Rattle.endpoint.proofs.Parts.{Parts, Shaped, others_each, others_of}

-- ---- what a step that stores has to give

-- an announced view is initial, current, spent or in a slot
abbrev pub placed : EndPoint → Slots → View → Bool
placed e ss v = eqb v.id 0 || (same v e.current || (spent e v || has_slot ss v))

-- the slots ss, the announced views vs and the received counts cs, for e's own
pub record Stores (e : EndPoint) (ss : Slots) (vs : List View) (cs : List ℕ) : Type 0 where
  pub slots_shaped : Find.Shaped ss
  pub heard_length : length vs ≡ 8
  pub received_length : length cs ≡ 8
  pub slot_flags : flags ss ≡ true
  pub slot_views : all_used view_ok ss ≡ true
  pub slot_gaps : no_gaps ss e.me ≡ true
  pub slot_differ : slots_differ ss ≡ true
  pub slot_live : all_used (λ v. not (spent e v)) ss ≡ true
  pub slot_current : has_slot ss e.current ≡ true
  pub slot_runs : (r : ℕ) → run e.slots e.current r ≤ run ss e.current r
  pub heard_well : (q : ℕ) → q < 8 → (q ≡ e.me → ⊥) → view_ok (get_or vs q (initial q)) ≡ true
  pub heard_placed : (q : ℕ) → q < 8 → (q ≡ e.me → ⊥) → placed e ss (get_or vs q (initial q)) ≡ true
  pub received_low : (q : ℕ) → q < 8 → (q ≡ e.me → ⊥) → get_or cs q 0 ≤ 128

-- the end-point with them
abbrev pub storing : EndPoint → Slots → List View → List ℕ → EndPoint
storing e ss vs cs = with_heard vs cs (with_slots ss e)

module _ (e : EndPoint) (shape : Shaped e) (p : Parts e) where
  -- e's own are such
  pub stores_now : Stores e e.slots e.heard e.received
  unfolding flags_ok views_ok counts_ok slots_ok heard_ok heard_from
  stores_now =
      let f0 = leb e.change.opened 1 in
      let f1 = leb e.change.pending 1 in
      let f2 = leb e.change.block 2 in
      let f3 = leb e.told 1 in
      let f4 = flags e.slots in
      let v0 = view_ok e.current in
      let v1 = view_ok e.membership in
      let v2 = all_others e (λ q. view_ok (heard_from e q)) in
      let v3 = all_used view_ok e.slots in
      let vr = and_right v1 (v2 && v3) (and_right v0 (v1 && (v2 && v3)) p.views) in
      let c0 = leb e.passed 128 in
      let c1 = all_others e (λ q. leb (get_or e.received q 0) 128) in
      let c2 = all_below (λ r. leb (get_or e.given r 0) 128) 8 in
      let c3 = all_below (λ q. all_below (λ r. leb (forward_mark e.forwarded q r) 128) 8) 8 in
      let s0 = no_gaps e.slots e.me in
      let s1 = slots_differ e.slots in
      let s2 = all_used (λ v. not (spent e v)) e.slots in
      let s3 = has_slot e.slots e.current in
      let sr = and_right s0 (s1 && (s2 && s3)) p.slots in
      record {
        slots_shaped = shape.slots_shaped;
        heard_length = shape.heard_length;
        received_length = shape.received_length;
        slot_flags = and_right f3 f4 (and_right f2 (f3 && f4) (and_right f1 (f2 && (f3 && f4)) (and_right f0 (f1 && (f2 && (f3 && f4))) p.flags)));
        slot_views = and_right v2 v3 vr;
        slot_gaps = and_left s0 (s1 && (s2 && s3)) p.slots;
        slot_differ = and_left s1 (s2 && s3) sr;
        slot_live = and_left s2 s3 (and_right s1 (s2 && s3) sr);
        slot_current = and_right s2 s3 (and_right s1 (s2 && s3) sr);
        slot_runs = λ r. omega arith;
        heard_well = others_each e (λ q. view_ok (heard_from e q)) (and_left v2 v3 vr);
        heard_placed = others_each e (λ q. placed e e.slots (heard_from e q)) p.heard;
        received_low = λ q l n. leb-true (get_or e.received q 0) 128 (others_each e (λ k. leb (get_or e.received k 0) 128)
            (and_left c1 (c2 && c3) (and_right c0 (c1 && (c2 && c3)) p.counts)) q l n);
      }

  -- and with such ones it stays sound
  module _ (ss : Slots) (vs : List View) (cs : List ℕ) (t : Stores e ss vs cs) where
    kept_flags : flags_ok (storing e ss vs cs) ≡ true
    unfolding flags_ok
    kept_flags =
        let f0 = leb e.change.opened 1 in
        let f1 = leb e.change.pending 1 in
        let f2 = leb e.change.block 2 in
        let f3 = leb e.told 1 in
        let f4 = flags e.slots in
        let a = and_right f0 (f1 && (f2 && (f3 && f4))) p.flags in
        let b = and_right f1 (f2 && (f3 && f4)) a in
        and_both (and_left f0 (f1 && (f2 && (f3 && f4))) p.flags)
        (and_both (and_left f1 (f2 && (f3 && f4)) a)
        (and_both (and_left f2 (f3 && f4) b) (and_both (and_left f3 f4 (and_right f2 (f3 && f4) b)) t.slot_flags)))

    kept_views : views_ok (storing e ss vs cs) ≡ true
    unfolding views_ok heard_from
    kept_views =
        let v0 = view_ok e.current in
        let v1 = view_ok e.membership in
        let v2 = all_others e (λ q. view_ok (heard_from e q)) in
        let v3 = all_used view_ok e.slots in
        and_both (and_left v0 (v1 && (v2 && v3)) p.views)
        (and_both (and_left v1 (v2 && v3) (and_right v0 (v1 && (v2 && v3)) p.views))
        (and_both (others_of (storing e ss vs cs) (λ q. view_ok (get_or vs q (initial q))) t.heard_well) t.slot_views))

    kept_counts : counts_ok (storing e ss vs cs) ≡ true
    unfolding counts_ok forward_mark
    kept_counts =
        let c0 = leb e.passed 128 in
        let c1 = all_others e (λ q. leb (get_or e.received q 0) 128) in
        let c2 = all_below (λ r. leb (get_or e.given r 0) 128) 8 in
        let c3 = all_below (λ q. all_below (λ r. leb (forward_mark e.forwarded q r) 128) 8) 8 in
        and_both (and_left c0 (c1 && (c2 && c3)) p.counts)
        (and_both (others_of (storing e ss vs cs) (λ q. leb (get_or cs q 0) 128) (λ q l n. le-leb (get_or cs q 0) 128 (t.received_low q l n)))
        (and_right c1 (c2 && c3) (and_right c0 (c1 && (c2 && c3)) p.counts)))

    kept_slots : slots_ok (storing e ss vs cs) ≡ true
    unfolding slots_ok spent
    kept_slots = and_both t.slot_gaps (and_both t.slot_differ (and_both t.slot_live t.slot_current))

    kept_heard : heard_ok (storing e ss vs cs) ≡ true
    unfolding heard_ok heard_from spent
    kept_heard = others_of (storing e ss vs cs) (λ q. placed e ss (get_or vs q (initial q))) t.heard_placed

    kept_given : given_ok (storing e ss vs cs) ≡ true
    unfolding given_ok
    kept_given =
        let g0 = all_below (λ r. leb (get_or e.given r 0) (run e.slots e.current r)) 8 in
        let g1 = leb e.passed (run e.slots e.current e.me) in
        and_both
        (all_of (λ r. leb (get_or e.given r 0) (run ss e.current r)) 8
        (λ r l. grown (get_or e.given r 0) r (all_each (λ r. leb (get_or e.given r 0) (run e.slots e.current r)) 8 r l (and_left g0 g1 p.given))))
        (grown e.passed e.me (and_right g0 g1 p.given))
      where
        grown : (k r : ℕ) → leb k (run e.slots e.current r) ≡ true → leb k (run ss e.current r) ≡ true
        grown k r h = le-leb k (run ss e.current r) (omega (arith, leb-true k (run e.slots e.current r) h, t.slot_runs r))

    kept_same : (own_member (storing e ss vs cs) ≡ true) × (records_ok (storing e ss vs cs) ≡ true)
    unfolding own_member records_ok
    kept_same = (p.member, p.records)

    pub stores_kept : Parts (storing e ss vs cs) × Shaped (storing e ss vs cs)
    stores_kept = (
      record {
        low = p.low;
        flags = kept_flags;
        views = kept_views;
        member = kept_same.0;
        counts = kept_counts;
        records = kept_same.1;
        slots = kept_slots;
        heard = kept_heard;
        given = kept_given;
      },
      record {
        slots_shaped = t.slots_shaped;
        records_shaped = shape.records_shaped;
        heard_length = t.heard_length;
        received_length = t.received_length;
        given_length = shape.given_length;
        forwarded_length = shape.forwarded_length;
        rows_length = shape.rows_length;
      },
    )

-- ---- what each change of them keeps

-- a view in a slot is placed
placed_slot : (e : EndPoint) (ss : Slots) (v : View) → has_slot ss v ≡ true → placed e ss v ≡ true
placed_slot e ss v h = go (eqb v.id 0) (same v e.current) (spent e v)
  where
    go : (a b c : Bool) → (a || (b || (c || has_slot ss v))) ≡ true
    go true b c = refl
    go false true c = refl
    go false false true = refl
    go false false false = h

-- and so is one that needs none
placed_unneeded : (e : EndPoint) (v : View) → needs_slot e v ≡ false → placed e e.slots v ≡ true
unfolding needs_slot
placed_unneeded e v h = go (eqb v.id 0) (same v e.current) (spent e v) (has_slot e.slots v) h
  where
    go : (i a b c : Bool) → (not a && (not b && not c)) ≡ false → (i || (a || (b || c))) ≡ true
    go true a b c x = refl
    go false true b c x = refl
    go false false true c x = refl
    go false false false c x = is_not c x

-- a view that needs one is not spent and has none
needs_parts : (e : EndPoint) (v : View) → needs_slot e v ≡ true → (spent e v ≡ false) × (has_slot e.slots v ≡ false)
unfolding needs_slot
needs_parts e v h =
    let a = not (same v e.current) in
    let b = not (spent e v) in
    let c = not (has_slot e.slots v) in
    let y = and_right a (b && c) h in
    (not_is (spent e v) (and_left b c y), not_is (has_slot e.slots v) (and_right b c y))

-- where each view keeps its slot, it stays placed
placed_kept : (e : EndPoint) (ss ss' : Slots) (v : View) → (has_slot ss v ≡ true → has_slot ss' v ≡ true) → placed e ss v ≡ true → placed e ss' v ≡ true
placed_kept e ss ss' v f h = go (eqb v.id 0) (same v e.current) (spent e v) (has_slot ss v) (has_slot ss' v) f h
  where
    go : (a b c d d' : Bool) → (d ≡ true → d' ≡ true) → (a || (b || (c || d))) ≡ true → (a || (b || (c || d'))) ≡ true
    go true b c d d' k x = refl
    go false true c d d' k x = refl
    go false false true d d' k x = refl
    go false false false d d' k x = k x

module _ (e : EndPoint) (ss : Slots) (vs : List View) (cs : List ℕ) (t : Stores e ss vs cs) where
  -- word i of r in v marked: what is left to show is that p's own words keep no gap
  marked_gaps : (v : View) (r i : ℕ) → no_gaps (mark_word ss v r i) e.me ≡ true → Stores e (mark_word ss v r i) vs cs
  marked_gaps v r i g =
      record {
        slots_shaped = mark_shaped ss v r i t.slots_shaped;
        heard_length = t.heard_length;
        received_length = t.received_length;
        slot_flags = mark_flags ss v r i ∙ t.slot_flags;
        slot_views = mark_all_used ss v r i view_ok ∙ t.slot_views;
        slot_gaps = g;
        slot_differ = mark_differ ss v r i ∙ t.slot_differ;
        slot_live = mark_all_used ss v r i (λ v. not (spent e v)) ∙ t.slot_live;
        slot_current = mark_has ss v r i e.current ∙ t.slot_current;
        slot_runs = λ s. omega (arith, t.slot_runs s, mark_run ss v r i e.current s);
        heard_well = t.heard_well;
        heard_placed = λ q l n. placed_kept e ss (mark_word ss v r i) (get_or vs q (initial q)) (λ h. mark_has ss v r i (get_or vs q (initial q)) ∙ h) (t.heard_placed q l n);
        received_low = t.received_low;
      }

  -- another's word, whatever its index and whether or not v has a slot
  pub marked_other : (v : View) (r i : ℕ) → (r ≡ e.me → ⊥) → Stores e (mark_word ss v r i) vs cs
  marked_other v r i d = marked_gaps v r i (mark_gaps_other ss v r i e.me d ∙ t.slot_gaps)

  -- p's own next word
  pub marked_own : (v : View) (i : ℕ) → e.me < 8 → i ≡ run ss v e.me + 1 → i ≤ 128 → has_slot ss v ≡ true → Stores e (mark_word ss v e.me i) vs cs
  marked_own v i l q b h = marked_gaps v e.me i (mark_gaps_own ss v e.me i t.slots_shaped l t.slot_gaps q b h)

  -- a slot taken, for a view without one that is not spent
  pub taken_stores : (v : View) → view_ok v ≡ true → spent e v ≡ false → has_slot ss v ≡ false → has_free ss ≡ true → Stores e (taken v ss) vs cs
  taken_stores v w n none free =
      let shape = t.slots_shaped in
      record {
        slots_shaped = taken_shaped v ss shape free;
        heard_length = t.heard_length;
        received_length = t.received_length;
        slot_flags = taken_flags v ss shape free t.slot_flags;
        slot_views = taken_all_used v ss shape free view_ok t.slot_views w;
        slot_gaps = taken_gaps v ss shape free e.me t.slot_gaps;
        slot_differ = taken_differ v ss shape free none t.slot_differ;
        slot_live = taken_all_used v ss shape free (λ v. not (spent e v)) t.slot_live (not_no (spent e v) n);
        slot_current = (taken_other v ss shape free none e.current t.slot_current).1;
        slot_runs = λ r. rw (taken_run_other v ss shape free none e.current t.slot_current r) (t.slot_runs r);
        heard_well = t.heard_well;
        heard_placed = λ q l m. placed_kept e ss (taken v ss) (get_or vs q (initial q)) (λ h. (taken_other v ss shape free none (get_or vs q (initial q)) h).1) (t.heard_placed q l m);
        received_low = t.received_low;
      }

  -- a count received from q
  pub received_stores : (q n : ℕ) → q < 8 → n ≤ 128 → Stores e ss vs (set cs q n)
  received_stores q n l b =
      record {
        slots_shaped = t.slots_shaped;
        heard_length = t.heard_length;
        received_length = length-set cs q n ∙ t.received_length;
        slot_flags = t.slot_flags;
        slot_views = t.slot_views;
        slot_gaps = t.slot_gaps;
        slot_differ = t.slot_differ;
        slot_live = t.slot_live;
        slot_current = t.slot_current;
        slot_runs = t.slot_runs;
        heard_well = t.heard_well;
        heard_placed = t.heard_placed;
        received_low = λ k m d. ⊎_elim
            (λ (x : k ≡ q). rw (x, get_or-set_same cs q n 0 (omega (arith, t.received_length))) b)
            (λ x. rw (get_or-set_other cs q k n 0 x) (t.received_low k m d))
            (at_or_not k q);
      }

  -- a view announced by q
  pub heard_stores : (q : ℕ) (v : View) → q < 8 → view_ok v ≡ true → placed e ss v ≡ true → Stores e ss (set vs q v) cs
  heard_stores q v l w h =
      record {
        slots_shaped = t.slots_shaped;
        heard_length = length-set vs q v ∙ t.heard_length;
        received_length = t.received_length;
        slot_flags = t.slot_flags;
        slot_views = t.slot_views;
        slot_gaps = t.slot_gaps;
        slot_differ = t.slot_differ;
        slot_live = t.slot_live;
        slot_current = t.slot_current;
        slot_runs = t.slot_runs;
        heard_well = λ k m d. ⊎_elim (λ x. rw (new k x) w) (λ x. rw (old k x) (t.heard_well k m d)) (at_or_not k q);
        heard_placed = λ k m d. ⊎_elim
            (λ x. ap (placed e ss) (new k x) ∙ h)
            (λ x. ap (placed e ss) (old k x) ∙ t.heard_placed k m d)
            (at_or_not k q);
        received_low = t.received_low;
      }
    where
      new : (k : ℕ) → k ≡ q → get_or (set vs q v) k (initial k) ≡ v
      new k x = rw x (get_or-set_same vs q v (initial q) (omega (arith, t.heard_length)))

      old : (k : ℕ) → (k ≡ q → ⊥) → get_or (set vs q v) k (initial k) ≡ get_or vs k (initial k)
      old k x = get_or-set_other vs q k v (initial k) x

-- ---- the four steps

-- p's own next word in the current view, not the 129th
pub send_kept : (e : EndPoint) → Shaped e → Parts e → (own_run e ≡ 128 → ⊥) → Parts (after_send e) × Shaped (after_send e)
unfolding after_send own_run
send_kept e shape p n =
    let t = stores_now e shape p in
    let i = run e.slots e.current e.me + 1 in
    let l = p.low in
    let b = run_low e.slots e.current e.me in
    stores_kept e shape p (mark_word e.slots e.current e.me i) e.heard e.received
    (marked_own e e.slots e.heard e.received t e.current i (omega arith) refl (omega arith) t.slot_current)

-- q's next word in its announced view, if that is not spent
pub word_kept : (e : EndPoint) (q : ℕ) → Shaped e → Parts e → q < 8 → (q ≡ e.me → ⊥) → ((heard_from e q).id ≡ 0 → ⊥)
    → (live e q ≡ true → get_or e.received q 0 ≡ 128 → ⊥) → Parts (after_word e q) × Shaped (after_word e q)
unfolding after_word store_word next_word
word_kept e q shape p l d i n = go (live e q) refl
  where
    go : (b : Bool) → live e q ≡ b
        → Parts (cond b (with_heard e.heard (set e.received q (next_word e q)) (store_word e (heard_from e q) q (next_word e q))) e)
        × Shaped (cond b (with_heard e.heard (set e.received q (next_word e q)) (store_word e (heard_from e q) q (next_word e q))) e)
    go false x = (p, shape)
    go true x =
        let k = get_or e.received q 0 in
        let ss = mark_word e.slots (heard_from e q) q (k + 1) in
        let t = stores_now e shape p in
        let c = t.received_low q l d in
        let m : k ≡ 128 → ⊥ = n x in
        let h : k + 1 ≤ 128 = omega arith in
        stores_kept e shape p ss e.heard (set e.received q (k + 1))
        (received_stores e ss e.heard e.received (marked_other e e.slots e.heard e.received t (heard_from e q) q (k + 1) d) q (k + 1) l h)

-- another's word in the current view, at any index
pub forward_kept : (e : EndPoint) (m : Message) → Shaped e → Parts e → (m.sender ≡ e.me → ⊥)
    → Parts (after_forward e m) × Shaped (after_forward e m)
unfolding after_forward store_word
forward_kept e m shape p d = go (same m.view e.current)
  where
    go : (b : Bool) → Parts (cond b (store_word e e.current m.sender m.index) e) × Shaped (cond b (store_word e e.current m.sender m.index) e)
    go false = (p, shape)
    go true =
        stores_kept e shape p (mark_word e.slots e.current m.sender m.index) e.heard e.received
        (marked_other e e.slots e.heard e.received (stores_now e shape p) e.current m.sender m.index d)

-- q's announced view, with a slot if it needs one
pub view_kept : (e : EndPoint) (q : ℕ) (v : View) → Shaped e → Parts e → q < 8 → (q ≡ e.me → ⊥) → view_ok v ≡ true
    → ((needs_slot e v && not (has_free e.slots)) ≡ false) → Parts (after_view e q v) × Shaped (after_view e q v)
unfolding after_view
view_kept e q v shape p l d w f =
    stores_kept e shape p new (set e.heard q v) (set e.received q 0)
    (heard_stores e new e.heard (set e.received q 0)
    (received_stores e new e.heard e.received fit.0 q 0 l (omega arith)) q v l w fit.1)
  where
    new : Slots
    new = cond (needs_slot e v) (taken v e.slots) e.slots

    Fit : Slots → Type 0
    Fit ss = Stores e ss e.heard e.received × (placed e ss v ≡ true)

    go : (b : Bool) → needs_slot e v ≡ b → Fit (cond b (taken v e.slots) e.slots)
    go false x = (stores_now e shape p, placed_unneeded e v x)
    go true x =
        let t = stores_now e shape p in
        let n = needs_parts e v x in
        let free : has_free e.slots ≡ true = is_not (has_free e.slots) (rw x at f) in (
          taken_stores e e.slots e.heard e.received t v w n.0 n.1 free,
          placed_slot e (taken v e.slots) v (taken_has v e.slots t.slots_shaped free),
        )

    fit : Fit new
    fit = go (needs_slot e v) refl
