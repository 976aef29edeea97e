-- Soundness is kept by the steps that leave views and slots as they are. In order: the tools (a list with one place written; the parts of a clause;
-- the end-point with those parts anew that such a step may change), then the steps: block-ok, ask to block, declare, announce; pass out; a received sync, sync;
-- forward; give out. Each step's law takes what its checks have found, and gives the clauses and the shape of the end-point after it. Assumes nothing.
use Prim.Native.Nat.{ℕ, ◌+◌, ◌≤◌, ◌<◌}
use native.Mathlib.Nat.{eq-or-lt_of_le}
use native.Mathlib.Omega.{arith}
use mathlib.Core.Bool.{Bool, true, false, cond}
use mathlib.Core.List.{List}
use mathlib.Core.Logic.{⊎_elim}
use mathlib.Core.Path.{◌≡◌, refl, sym, ◌∙◌}
use lib.Dec.{leb}
use lib.ListN.{length, get_or, set, length-set}
use lib.Seq.{get_or-set_same, get_or-set_other}
use borrow.Author.Tests.{leb-true, le-leb}
use Rattle.below.specs.Below.{all_below}
use Rattle.below.proofs.Tests.{clash, and_both, and_left, and_right}
use Rattle.below.proofs.All.{all_each, all_of}
use Rattle.below.proofs.Lists.{list_at}
use Rattle.views.specs.Sets.{has}
use Rattle.views.specs.declared.View.{View}
use Rattle.views.specs.Views.{view_ok}
use Rattle.views.specs.Cuts.{count_fits, cut_ok}
use Rattle.marks.proofs.Slot.{run_in_end}
use Rattle.messages.specs.declared.Message.{Message}
use Rattle.records.specs.declared.Record.{Record}
use Rattle.records.specs.declared.Records.{Records}
use Rattle.records.specs.Records.{newest, holds_record, record_ok, records_rise, store_record}
use Rattle.records.proofs.Store as Store
use Rattle.records.proofs.Store.{Each, store_shaped}
use Rattle.records.proofs.Rule.{well_formed_store, rise_store, at_most_store}
use Rattle.records.proofs.Find.{newest_below, absent_below}
use Rattle.slots.specs.declared.Slots.{Slots}
use Rattle.slots.specs.Slots.{marks_at, slot_of, held_word, run}
use Rattle.slots.proofs.Finding.{at_or_not, run_low}
use Rattle.agreement.specs.declared.Row.{Row}
use Rattle.endpoint.specs.declared.EndPoint.{EndPoint}
use Rattle.endpoint.specs.State.{with_block, with_records}
use Rattle.agreement.specs.Due.{no_marks}
use Rattle.endpoint.specs.Spent.{spent}
use Rattle.agreement.specs.Due.{forward_mark}
use Rattle.endpoint.specs.Due.{lowest_due}
use Rattle.endpoint.specs.Sound.{heard_from, all_others, flags_ok, views_ok, own_member, counts_ok, records_ok, slots_ok, heard_ok, given_ok}
use Rattle.endpoint.specs.Application.{own_run, after_block_ok}
use Rattle.endpoint.specs.Change.{after_ask, after_declare, announces, passes, own_cut, own_record, syncs}
use Rattle.endpoint.specs.Receive.{carried, after_sync}
use Rattle.endpoint.specs.Forward.{due_index, raised, forwards}
use Rattle.endpoint.specs.Give.{next_given, gives_next}
use Rattle.endpoint.proofs.Parts.{Parts, Shaped}

-- ---- a list with place q written

module _ {A : Type 0} (xs : List A) (q : ℕ) (x d : A) (l : q < length xs) where
  -- what holds of x there and of the old elements holds of the new ones
  set_at : (P : ℕ → A → Type 0) → P q x → (r : ℕ) → P r (get_or xs r d) → P r (get_or (set xs q x) r d)
  set_at P h r o =
      ⊎_elim
      (λ (e : r ≡ q). rw (e, get_or-set_same xs q x d l) h)
      (λ n. rw (get_or-set_other xs q r x d n) o)
      (at_or_not r q)

  set_all : (f : ℕ → A → Bool) (n : ℕ) → f q x ≡ true → all_below (λ r. f r (get_or xs r d)) n ≡ true → all_below (λ r. f r (get_or (set xs q x) r d)) n ≡ true
  set_all f n h o = all_of (λ r. f r (get_or (set xs q x) r d)) n (λ r m. set_at (λ k y. f k y ≡ true) h r (all_each (λ k. f k (get_or xs k d)) n r m o))

-- ---- a clause is a conjunction: its parts from a whole one, and a whole one from its parts

ruleset clauses = (and_both, and_left, and_right)

-- ---- the end-point with other records, forward marks, given-out counts, block state, declared set, flag of the announced view, and count of own words passed out

abbrev anew : Records → List Row → List ℕ → ℕ → ℕ → ℕ → ℕ → EndPoint → EndPoint
anew rs rows counts b s t n e = record { current = e.current; membership = e.membership; heard = e.heard; records = rs; slots = e.slots; forwarded = rows; received = e.received; given = counts; change = with_block b e.change; me = e.me; declared = s; told = t; passed = n }

-- its clauses that read one of those parts, and its arrays' lengths, give it whole
module _ (e : EndPoint) (w : Shaped e) (p : Parts e) {rs : Records} {rows : List Row} {counts : List ℕ} {b s t n : ℕ} where
  anew_kept : flags_ok (anew rs rows counts b s t n e) ≡ true → counts_ok (anew rs rows counts b s t n e) ≡ true
      → records_ok (anew rs rows counts b s t n e) ≡ true → given_ok (anew rs rows counts b s t n e) ≡ true
      → Store.Shaped rs → length rows ≡ 8 → ((q : ℕ) → q < 8 → length (get_or rows q no_marks).marks ≡ 8) → length counts ≡ 8
      → Parts (anew rs rows counts b s t n e) × Shaped (anew rs rows counts b s t n e)
  unfolding views_ok own_member slots_ok heard_ok all_others heard_from spent
  anew_kept f c r g x l m y = (
    record {
      low = p.low;
      flags = f;
      views = p.views;
      member = p.member;
      counts = c;
      records = r;
      slots = p.slots;
      heard = p.heard;
      given = g;
    },
    record {
      slots_shaped = w.slots_shaped;
      records_shaped = x;
      heard_length = w.heard_length;
      received_length = w.received_length;
      given_length = y;
      forwarded_length = l;
      rows_length = m;
    },
  )

-- ---- block-ok, ask to block, declare, announce: the block state, the declared set, the flag of the announced view

module _ (e : EndPoint) (w : Shaped e) (p : Parts e) where
  flags_kept : {b s t : ℕ} → (leb e.change.block 2 ≡ true → leb b 2 ≡ true) → (leb e.told 1 ≡ true → leb t 1 ≡ true)
      → Parts (anew e.records e.forwarded e.given b s t e.passed e) × Shaped (anew e.records e.forwarded e.given b s t e.passed e)
  unfolding flags_ok counts_ok records_ok given_ok all_others forward_mark
  flags_kept i j =
      let h = p.flags in
      anew_kept e w p (search (clauses, i, j)) p.counts p.records p.given
      w.records_shaped w.forwarded_length w.rows_length w.given_length

  pub block_ok_kept : Parts (after_block_ok e) × Shaped (after_block_ok e)
  unfolding after_block_ok
  block_ok_kept = flags_kept (λ x. refl) (λ x. x)

  pub ask_kept : Parts (after_ask e) × Shaped (after_ask e)
  unfolding after_ask
  ask_kept = flags_kept (λ x. refl) (λ x. x)

  pub declare_kept : Parts (after_declare e) × Shaped (after_declare e)
  unfolding after_declare
  declare_kept = flags_kept (λ x. x) (λ x. x)

  pub announce_kept : Parts (announces e).ep × Shaped (announces e).ep
  unfolding announces
  announce_kept = flags_kept (λ x. x) (λ x. refl)

-- ---- pass out: the count of own words passed out

pub pass_kept : (e : EndPoint) (area : List ℕ) → Shaped e → Parts e → e.passed < own_run e → Parts (passes e area).ep × Shaped (passes e area).ep
unfolding passes flags_ok counts_ok records_ok given_ok all_others forward_mark own_run
pass_kept e area w p l =
    let g = p.given in
    let c = p.counts in
    let i : leb (e.passed + 1) 128 ≡ true = le-leb (e.passed + 1) 128 (omega (arith, run_low e.slots e.current e.me)) in
    let j : leb (e.passed + 1) (run e.slots e.current e.me) ≡ true = le-leb (e.passed + 1) (run e.slots e.current e.me) (omega arith) in
    anew_kept e w p p.flags (search clauses) p.records (search clauses)
    w.records_shaped w.forwarded_length w.rows_length w.given_length

-- ---- a received sync, and a sync: the records

module _ (e : EndPoint) (w : Shaped e) (p : Parts e) where
  -- one more record of sender r, numbered above r's others, and not above the latest start number where r is p
  records_kept : (r : ℕ) (x : Record) → r < 8 → record_ok x ≡ true → Each (λ y. y.number < x.number) e.records r → (e.me ≡ r → x.number ≤ e.change.number)
      → Parts (with_records (store_record e.records r x) e) × Shaped (with_records (store_record e.records r x) e)
  unfolding flags_ok counts_ok records_ok given_ok all_others forward_mark
  records_kept r x l o a n =
      let h = p.records in
      let rise : all_below (records_rise e.records) 8 ≡ true = search clauses in
      anew_kept e w p p.flags p.counts
      (and_both (well_formed_store e.records r x w.records_shaped l rise o (search clauses))
      (and_both (rise_store e.records r x w.records_shaped l rise a)
      (at_most_store e.records r x w.records_shaped l rise e.me e.change.number (omega (arith, p.low)) (search clauses) n)))
      p.given
      (store_shaped e.records r x w.records_shaped) w.forwarded_length w.rows_length w.given_length

pub synced_kept : (e : EndPoint) (q : ℕ) (m : Message) → Shaped e → Parts e → q < 8 → (q ≡ e.me → ⊥) → record_ok (carried m) ≡ true → newest e.records q < m.number
    → Parts (after_sync e q m) × Shaped (after_sync e q m)
unfolding after_sync records_ok
synced_kept e q m w p l n o a =
    let h = p.records in
    records_kept e w p q (carried m) l o
    (newest_below e.records q m.number (all_each (records_rise e.records) 8 q l (search clauses)) a)
    (λ z. absurd (n (sym z)))

-- the own cut fits the current set: a member's run is at most 128
pub own_cut_ok : (e : EndPoint) → cut_ok e.current.set (own_cut e) ≡ true
unfolding cut_ok own_cut
own_cut_ok e =
    all_of (λ n. count_fits (has e.current.set n) (get_or (own_cut e).counts n 0)) 8
    (λ n l. rw (list_at count 8 n 0 l) (fits (has e.current.set n) (run e.slots e.current n) (run_low e.slots e.current n)))
  where
    count : ℕ → ℕ
    count r = cond (has e.current.set r) (run e.slots e.current r) 0

    fits : (b : Bool) (k : ℕ) → k ≤ 128 → count_fits b (cond b k 0) ≡ true
    fits true k l = le-leb k 128 l
    fits false k l = refl

pub sync_kept : (e : EndPoint) → Shaped e → Parts e → holds_record e.records e.me e.change.number ≡ false → Parts (syncs e).ep × Shaped (syncs e).ep
unfolding syncs views_ok records_ok record_ok
sync_kept e w p n =
    let h = p.records in
    let v = p.views in
    records_kept e w p e.me (own_record e) (omega (arith, p.low)) (and_both {a = view_ok e.current} (search clauses) (own_cut_ok e))
    (absent_below e.records e.me e.change.number (search clauses) n)
    (λ z. omega arith)

-- ---- forward: a forward mark

pub forwarded_kept : (e : EndPoint) (area : List ℕ) (q r : ℕ) → Shaped e → Parts e → q < 8 → r < 8 → lowest_due e q r < 128
    → Parts (forwards e area q r).ep × Shaped (forwards e area q r).ep
unfolding forwards raised due_index flags_ok counts_ok records_ok given_ok all_others forward_mark
forwarded_kept e area q r w p i j l =
    let c = p.counts in
    let m = marks in
    anew_kept e w p p.flags (search clauses) p.records p.given
    w.records_shaped (length-set e.forwarded q row ∙ w.forwarded_length) lengths w.given_length
  where
    old : Row
    old = get_or e.forwarded q no_marks

    row : Row
    row = record { marks = set old.marks r (lowest_due e q r + 1) }

    row_low : Row → Bool
    row_low x = all_below (λ k. leb (get_or x.marks k 0) 128) 8

    within_rows : q < length e.forwarded
    within_rows = omega (arith, w.forwarded_length)

    was : all_below (λ k. row_low (get_or e.forwarded k no_marks)) 8 ≡ true
    was = let c = p.counts in search clauses

    row_low_lem : row_low row ≡ true
    row_low_lem =
        set_all old.marks r (lowest_due e q r + 1) 0 (omega (arith, w.rows_length q i)) (λ k y. leb y 128) 8
        (le-leb (lowest_due e q r + 1) 128 (omega arith))
        (all_each (λ k. row_low (get_or e.forwarded k no_marks)) 8 q i was)

    marks : all_below (λ k. row_low (get_or (set e.forwarded q row) k no_marks)) 8 ≡ true
    marks = set_all e.forwarded q row no_marks within_rows (λ k y. row_low y) 8 row_low_lem was

    lengths : (k : ℕ) → k < 8 → length (get_or (set e.forwarded q row) k no_marks).marks ≡ 8
    lengths k m =
        set_at e.forwarded q row no_marks within_rows (λ x y. length y.marks ≡ 8)
        (length-set old.marks r (lowest_due e q r + 1) ∙ w.rows_length q i) k (w.rows_length k m)

-- ---- give out: a given-out count

-- the word after a count within the run, where it is held, is within the run
held_next : (ss : Slots) (v : View) (r n : ℕ) → n ≤ run ss v r → held_word ss v r (n + 1) ≡ true → n + 1 ≤ run ss v r
unfolding run held_word
held_next ss v r n l h =
    ⊎_elim
    (λ (e : n ≡ run ss v r). clash (rw e at h) (run_in_end (marks_at ss (slot_of ss v)) r))
    (λ m. omega arith)
    (eq-or-lt_of_le l)

pub given_kept : (e : EndPoint) (area : List ℕ) (q : ℕ) → Shaped e → Parts e → q < 8 → held_word e.slots e.current q (next_given e q) ≡ true
    → Parts (gives_next e area q).ep × Shaped (gives_next e area q).ep
unfolding gives_next next_given flags_ok counts_ok records_ok given_ok all_others forward_mark
given_kept e area q w p l h =
    let c = p.counts in
    let g = p.given in
    let k = get_or e.given q 0 in
    let low : all_below (λ r. leb (get_or e.given r 0) 128) 8 ≡ true = search clauses in
    let ran : all_below (λ r. leb (get_or e.given r 0) (run e.slots e.current r)) 8 ≡ true = search clauses in
    let i : k + 1 ≤ run e.slots e.current q =
    held_next e.slots e.current q k (leb-true k (run e.slots e.current q) (all_each (λ r. leb (get_or e.given r 0) (run e.slots e.current r)) 8 q l ran)) h
    in
    let b : q < length e.given = omega (arith, w.given_length) in
    let low' : all_below (λ r. leb (get_or (set e.given q (k + 1)) r 0) 128) 8 ≡ true =
    set_all e.given q (k + 1) 0 b (λ r y. leb y 128) 8 (le-leb (k + 1) 128 (omega (arith, run_low e.slots e.current q))) low
    in
    let ran' : all_below (λ r. leb (get_or (set e.given q (k + 1)) r 0) (run e.slots e.current r)) 8 ≡ true =
    set_all e.given q (k + 1) 0 b (λ r y. leb y (run e.slots e.current r)) 8 (le-leb (k + 1) (run e.slots e.current q) i) ran
    in
    anew_kept e w p p.flags (search clauses) p.records (search clauses)
    w.records_shaped w.forwarded_length w.rows_length (length-set e.given q (k + 1) ∙ w.given_length)
