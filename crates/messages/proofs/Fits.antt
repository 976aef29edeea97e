-- The writer's tests by part say that the fields are narrow and their message well formed: part by part, then together; and what the writer answers by them. Assumes nothing.
use Prim.Native.Nat.{ℕ, ◌+◌, ◌%◌, ◌^◌, ◌≤◌, ◌<◌}
use native.Mathlib.Nat.{mod-eq_of_lt}
use native.Mathlib.Omega.{arith}
use mathlib.Core.Bool.{Bool, true, false, cond, ◌&&◌}
use mathlib.Core.List.{List}
use mathlib.Core.Logic.{⊎_elim}
use mathlib.Core.Path.{◌≡◌, refl, sym, ap, ◌∙◌}
use lib.Dec.{eqb, ltb, leb}
use lib.ListN.{length, get_or}
use lib.Seq.{sets}
use borrow.Author.Tests.{eq-eqb, eqb-true, ltb-true, lt-ltb, leb-true, leb-false, le-leb}
use Rattle.below.specs.Below.{all_below, join_below, list_below}
use Rattle.below.specs.Bits.{bit}
use Rattle.below.proofs.All.{all_each, all_of}
use Rattle.below.proofs.Tests.{and_both, and_left, and_right, both}
use Rattle.views.specs.Sets.{has}
use Rattle.views.specs.Views.{all_zero, view_ok}
use Rattle.views.specs.Cuts.{cut_ok}
use Rattle.messages.specs.Bytes.{le}
use Rattle.messages.specs.Layouts.{has_number, has_place, has_view, has_cut, has_set, place_fits, blank_view, word_fits, body, length_of, fields_fit, well_formed}
use Rattle.messages.specs.Fields.{narrow_starts, narrow_counts, narrow_bytes, narrow, is_row, message_of}
use Rattle.messages.specs.Fits.{below_or_zero, numbers_fit, zero_row, cut_fields_fit, narrow_view, view_fields_fit, fields_are}
use Rattle.messages.proofs.Tested.{PartsFit, parts_fit, write_whole}
use Rattle.messages.proofs.Rows.{Narrow, narrow_each, write_row, unwritten_malformed, unwritten_short}
use Rattle.messages.specs.declared.Refusal.TheVariants.{Malformed, NoRoom}
use Rattle.messages.specs.declared.kind.Kind.{Kind}
use Rattle.messages.specs.declared.kind.Kind.TheVariants.{View as ViewKind, Word, Sync, Forward, StartChange, MembershipView}
use Rattle.messages.specs.Kinds.{code_of}
use Rattle.messages.specs.Refusals.{IsTestedAs, Fits, IsWritten}
use Rattle.std.specs.Prelude.{Ok, Err}

-- ---- a number

zero_low : (x top : ℕ) → 1 ≤ top → eqb x 0 ≡ true → ltb x top ≡ true
zero_low x top l e = let z : x ≡ 0 = eqb-true x 0 e in lt-ltb x top (omega arith)

low_of : (b : Bool) (x top : ℕ) → 1 ≤ top → below_or_zero b top x ≡ true → (ltb x top ≡ true) × (cond b true (eqb x 0) ≡ true)
low_of true x top l e = (e, refl)
low_of false x top l e = (zero_low x top l e, e)

of_low : (b : Bool) (x top : ℕ) → ltb x top ≡ true → cond b true (eqb x 0) ≡ true → below_or_zero b top x ≡ true
of_low true x top p q = p
of_low false x top p q = q

place_low : (b : Bool) (s i : ℕ) → cond b (leb s 7 && (leb 1 i && leb i 128)) (eqb s 0 && eqb i 0) ≡ true → (ltb s 256 ≡ true) × (ltb i 256 ≡ true)
place_low true s i e =
    let p : s ≤ 7 = leb-true s 7 (and_left (leb s 7) (leb 1 i && leb i 128) e) in
    let q : i ≤ 128 = leb-true i 128 (and_right (leb 1 i) (leb i 128) (and_right (leb s 7) (leb 1 i && leb i 128) e)) in
    (lt-ltb s 256 (omega arith), lt-ltb i 256 (omega arith))
place_low false s i e = (zero_low s 256 (omega arith) (and_left (eqb s 0) (eqb i 0) e), zero_low i 256 (omega arith) (and_right (eqb s 0) (eqb i 0) e))

-- ---- a row, the cut, the view

module _ (fs : List ℕ) where
  row_low_lem : (at top : ℕ) → 1 ≤ top → zero_row fs at ≡ true → all_below (λ n. ltb (get_or fs (at + n) 0) top) 8 ≡ true
  unfolding zero_row
  row_low_lem at top l e =
      all_of (λ n. ltb (get_or fs (at + n) 0) top) 8 (λ n h. zero_low (get_or fs (at + n) 0) top l (all_each (λ k. eqb (get_or fs (at + k) 0) 0) 8 n h e))

  no_cut_lem : zero_row fs 16 ≡ cut_ok 0 (message_of fs).cut
  unfolding zero_row cut_ok all_below has bit message_of list_below join_below
  no_cut_lem = refl

  no_starts : zero_row fs 8 ≡ all_zero (message_of fs).view.starts
  unfolding zero_row all_zero all_below message_of list_below join_below
  no_starts = refl

  cut_of : (b : Bool) → get_or fs 7 0 < 256 → cond b (narrow_counts fs && cut_ok (get_or fs 7 0 % 256) (message_of fs).cut) (zero_row fs 16) ≡ true
      → (narrow_counts fs ≡ true) × (cut_ok (cond b (get_or fs 7 0) 0) (message_of fs).cut ≡ true)
  unfolding narrow_counts
  cut_of true l e =
      let c = cut_ok (get_or fs 7 0 % 256) (message_of fs).cut in
      (and_left (narrow_counts fs) c e, rw (sym (mod-eq_of_lt l)) (and_right (narrow_counts fs) c e))
  cut_of false l e = (row_low_lem 16 256 (omega arith) e, sym no_cut_lem ∙ e)

  of_cut : (b : Bool) → get_or fs 7 0 < 256 → narrow_counts fs ≡ true → cut_ok (cond b (get_or fs 7 0) 0) (message_of fs).cut ≡ true
      → cond b (narrow_counts fs && cut_ok (get_or fs 7 0 % 256) (message_of fs).cut) (zero_row fs 16) ≡ true
  of_cut true l p q = and_both p (rw (mod-eq_of_lt l) q)
  of_cut false l p q = no_cut_lem ∙ q

  view_of : (b : Bool) → cond b (narrow_view fs && view_ok (message_of fs).view) (eqb (get_or fs 6 0) 0 && (eqb (get_or fs 7 0) 0 && zero_row fs 8)) ≡ true
      → (narrow_view fs ≡ true) × (cond b (view_ok (message_of fs).view) (blank_view (message_of fs).view) ≡ true)
  unfolding narrow_view narrow_starts blank_view message_of
  view_of true e = (and_left (narrow_view fs) (view_ok (message_of fs).view) e, and_right (narrow_view fs) (view_ok (message_of fs).view) e)
  view_of false e =
      let p = and_left (eqb (get_or fs 6 0) 0) (eqb (get_or fs 7 0) 0 && zero_row fs 8) e in
      let q = and_right (eqb (get_or fs 6 0) 0) (eqb (get_or fs 7 0) 0 && zero_row fs 8) e in
      let r = and_left (eqb (get_or fs 7 0) 0) (zero_row fs 8) q in
      let s = and_right (eqb (get_or fs 7 0) 0) (zero_row fs 8) q in (
        and_both (zero_low (get_or fs 6 0) (2 ^ 32) (omega arith) p) (and_both (zero_low (get_or fs 7 0) 256 (omega arith) r) (row_low_lem 8 (2 ^ 32) (omega arith) s)),
        and_both p (and_both r (sym no_starts ∙ s)),
      )

  of_view_lem : (b : Bool) → narrow_view fs ≡ true → cond b (view_ok (message_of fs).view) (blank_view (message_of fs).view) ≡ true
      → cond b (narrow_view fs && view_ok (message_of fs).view) (eqb (get_or fs 6 0) 0 && (eqb (get_or fs 7 0) 0 && zero_row fs 8)) ≡ true
  unfolding blank_view message_of
  of_view_lem true p q = and_both p q
  of_view_lem false p q = rw no_starts q

-- ---- all parts together

module _ (fs : List ℕ) where
  are_narrow : 1 ≤ get_or fs 0 0 → get_or fs 0 0 ≤ 6 → fields_are fs (get_or fs 0 0) ≡ true → (narrow fs && well_formed (message_of fs)) ≡ true
  unfolding fields_are numbers_fit cut_fields_fit view_fields_fit narrow narrow_bytes narrow_view well_formed fields_fit message_of
  are_narrow low high e =
      let k = get_or fs 0 0 in
      let n = below_or_zero (has_number k) (2 ^ 32) (get_or fs 1 0) in
      let p = place_fits k (get_or fs 3 0) (get_or fs 4 0) in
      let w = word_fits k (get_or fs 5 0) in
      let s = below_or_zero (has_set k) 256 (get_or fs 2 0) in
      let numbers = and_left (n && (p && (w && s))) (cut_fields_fit fs k && view_fields_fit fs k) e in
      let rows = and_right (n && (p && (w && s))) (cut_fields_fit fs k && view_fields_fit fs k) e in
      let rest = and_right n (p && (w && s)) numbers in
      let last = and_right p (w && s) rest in
      let number = low_of (has_number k) (get_or fs 1 0) (2 ^ 32) (omega arith) (and_left n (p && (w && s)) numbers) in
      let place = place_low (has_place k) (get_or fs 3 0) (get_or fs 4 0) (and_left p (w && s) rest) in
      let set = low_of (has_set k) (get_or fs 2 0) 256 (omega arith) (and_right w s last) in
      let view = view_of fs (has_view k) (and_right (cut_fields_fit fs k) (view_fields_fit fs k) rows) in
      let id = and_left (ltb (get_or fs 6 0) (2 ^ 32)) (ltb (get_or fs 7 0) 256 && narrow_starts fs) view.0 in
      let members = and_right (ltb (get_or fs 6 0) (2 ^ 32)) (ltb (get_or fs 7 0) 256 && narrow_starts fs) view.0 in
      let view-set = and_left (ltb (get_or fs 7 0) 256) (narrow_starts fs) members in
      let starts = and_right (ltb (get_or fs 7 0) 256) (narrow_starts fs) members in
      let cut = cut_of fs (has_cut k) (ltb-true (get_or fs 7 0) 256 view-set) (and_left (cut_fields_fit fs k) (view_fields_fit fs k) rows) in
      and_both
      (and_both (and_both (lt-ltb k 256 (omega arith)) (and_both set.0 (and_both place.0 (and_both place.1 view-set)))) (and_both (and_both number.0 id) (and_both starts cut.0)))
      (and_both
      (and_both (and_both (le-leb 1 k low) (le-leb k 6 high)) (and_both number.1 (and_both (and_left p (w && s) rest) (and_both (and_left w s last) set.1))))
      (and_both cut.1 view.1))

  pub counts_narrow : Narrow fs → narrow_counts fs ≡ true
  unfolding narrow_counts
  counts_narrow a = all_of (λ n. ltb (get_or fs (16 + n) 0) 256) 8 (λ n h. lt-ltb (get_or fs (16 + n) 0) 256 (a.counts_low n h))

  pub view_narrow : Narrow fs → narrow_view fs ≡ true
  unfolding narrow_view narrow_starts
  view_narrow a =
      and_both (lt-ltb (get_or fs 6 0) (2 ^ 32) a.id_low)
      (and_both (lt-ltb (get_or fs 7 0) 256 a.view_set_low) (all_of (λ n. ltb (get_or fs (8 + n) 0) (2 ^ 32)) 8 (λ n h. lt-ltb (get_or fs (8 + n) 0) (2 ^ 32) (a.starts_low n h))))

  narrow_are : (narrow fs && well_formed (message_of fs)) ≡ true → fields_are fs (get_or fs 0 0) ≡ true
  unfolding fields_are numbers_fit cut_fields_fit view_fields_fit message_of
  narrow_are e =
      let k = get_or fs 0 0 in
      let a : Narrow fs = narrow_each fs (and_left (narrow fs) (well_formed (message_of fs)) e) in
      let f : PartsFit (message_of fs) = parts_fit (message_of fs) (and_right (narrow fs) (well_formed (message_of fs)) e) in
      and_both
      (and_both (of_low (has_number k) (get_or fs 1 0) (2 ^ 32) (lt-ltb (get_or fs 1 0) (2 ^ 32) a.number_low) f.number_fit) (and_both f.place_fit (and_both f.word_fit (of_low (has_set k) (get_or fs 2 0) 256 (lt-ltb (get_or fs 2 0) 256 a.set_low) f.set_fit))))
      (and_both (of_cut fs (has_cut k) a.view_set_low (counts_narrow a) f.cut_fit) (of_view_lem fs (has_view k) (view_narrow a) f.view_fit))

-- ---- the fields' kind k, tested as another kind is

code_range : (kind : Kind) → (1 ≤ code_of kind) × (code_of kind ≤ 6)
code_range ViewKind = (omega arith, omega arith)
code_range Word = (omega arith, omega arith)
code_range Sync = (omega arith, omega arith)
code_range Forward = (omega arith, omega arith)
code_range StartChange = (omega arith, omega arith)
code_range MembershipView = (omega arith, omega arith)

module _ (fs : List ℕ) (kind : Kind) (t : IsTestedAs fs kind) where
  tested_alike : fields_are fs (code_of kind) ≡ fields_are fs (get_or fs 0 0)
  unfolding fields_are numbers_fit cut_fields_fit view_fields_fit
  tested_alike = ⊎_elim (λ e. ap (fields_are fs) (sym e)) (λ q. rw (q.0, q.1) refl) t

  tested_long : length_of (code_of kind) ≡ length_of (get_or fs 0 0)
  unfolding length_of
  tested_long = ⊎_elim (λ e. ap length_of (sym e)) (λ q. rw (q.0, q.1) refl) t

  tests : fields_are fs (code_of kind) ≡ (narrow fs && well_formed (message_of fs))
  tests =
      let l : 1 ≤ get_or fs 0 0 = ⊎_elim (λ e. rw e (code_range kind).0) (λ q. rw q.0 (omega arith)) t in
      let h : get_or fs 0 0 ≤ 6 = ⊎_elim (λ e. rw e (code_range kind).1) (λ q. rw q.0 (omega arith)) t in
      tested_alike ∙ both (fields_are fs (get_or fs 0 0)) (narrow fs && well_formed (message_of fs)) (are_narrow fs l h) (narrow_are fs)

  module _ (area : List ℕ) (long : length fs ≡ 24) where
    pub unfit : fields_are fs (code_of kind) ≡ false → IsWritten {T = Unit {0}} (Err Malformed) fs area area
    unfolding is_row
    unfit e =
        let f : (narrow fs && well_formed (message_of fs)) ≡ false = sym tests ∙ e in
        let p = unwritten_malformed fs area long f in
        record { number = p.0; left = p.1; reason = rw (eq-eqb (length fs) 24 long, f) refl }

    pub unroomed : fields_are fs (code_of kind) ≡ true → leb (length_of (code_of kind)) (length area) ≡ false → IsWritten {T = Unit {0}} (Err NoRoom) fs area area
    unfolding is_row
    unroomed e h =
        let f : (narrow fs && well_formed (message_of fs)) ≡ true = sym tests ∙ e in
        let p = unwritten_short fs area (length_of (code_of kind)) long (leb-false (length_of (code_of kind)) (length area) h) tested_long in
        record { number = p.0; left = p.1; reason = rw (eq-eqb (length fs) 24 long, f) refl }

    pub fits : fields_are fs (code_of kind) ≡ true → leb (length_of (code_of kind)) (length area) ≡ true → Fits fs kind area
    fits e h = record { fit = sym tests ∙ e; room = leb-true (length_of (code_of kind)) (length area) h }

-- what a message that fits says of its fields
pub fit_low : (fs : List ℕ) → (narrow fs && well_formed (message_of fs)) ≡ true → Narrow fs
fit_low fs e = narrow_each fs (and_left (narrow fs) (well_formed (message_of fs)) e)

pub fit_written : (fs area : List ℕ) (k : ℕ) (x y : List ℕ) → (narrow fs && well_formed (message_of fs)) ≡ true → length fs ≡ 24 → get_or fs 0 0 ≡ k → length_of k ≤ length area
    → x ≡ sets area 0 (le 1 k) → y ≡ sets x 1 (body (message_of fs)) → IsWritten {T = Unit {0}} (Ok tt) fs area y
unfolding message_of
fit_written fs area k x y e l f h p q =
    let w = and_right (narrow fs) (well_formed (message_of fs)) e in
    let r = write_row fs area 0 y l (and_left (narrow fs) (well_formed (message_of fs)) e)
    (write_whole (message_of fs) area (length_of k) x y (fit_low fs e).kind_low w h (rw f refl) (rw f p) q) in
    record { number = r.0; left = r.1; reason = tt }
