-- A batch in one pass is so many single give-outs. In order: where the give-outs end; the end-point after some of them is sound; the words;
-- the batch by induction on its room; what the method has to show of its answer; the words that it copies. Assumes nothing.
use Prim.Native.Nat.{ℕ, zero, suc, ◌+◌, ◌-◌, ◌*◌, ◌≤◌, ◌<◌, min}
use native.Mathlib.Nat.{eq-or-lt_of_le, le_antisymm}
use native.Mathlib.Numerals.{add-one}
use native.Mathlib.Omega.{arith}
use mathlib.Core.Bool.{Bool, true, false, not, cond, ◌&&◌, ◌||◌}
use mathlib.Core.List.{List, [], ◌∷◌, ◌++◌, append_assoc}
use mathlib.Core.Logic.{⊎_elim}
use mathlib.Core.Path.{◌≡◌, refl, sym, ap, subst, ◌∙◌}
use lib.Dec.{eqb, ltb, leb}
use lib.ListN.{length, get_or, set, take, drop, length-set, length-drop}
use lib.Seq.{get_or-set_same, get_or-set_other, set-get_or, set-set, set_at, drop-cons, take-suc}
use Rattle.std.proofs.lemmas.List.{get_or-drop}
use borrow.Author.Tests.{eqb-true, leb-true, le-leb, ltb-true, ltb-false, lt-ltb, le-ltb, lt-leb, eq-eqb, ne_eqb}
use Rattle.below.specs.Below.{all_below, join_below, list_below}
use Rattle.below.proofs.Tests.{clash, is_not, and_both, and_left, and_right, side}
use Rattle.below.proofs.All.{all_each, all_of}
use Rattle.below.proofs.Lists.{list_length}
use Rattle.views.specs.Sets.{has}
use Rattle.views.specs.declared.View.{View}
use Rattle.marks.proofs.Slot.{run_in_each, run_in_end}
use Rattle.records.specs.Records.{holds_record}
use Rattle.slots.specs.declared.Slots.{Slots}
use Rattle.slots.specs.Slots.{place, marks_at, slot_of, has_slot, all_used, slots_differ, no_gaps, held_word, run}
use Rattle.slots.proofs.Finding.{at_or_not, run_low, slot_of_lem}
use Rattle.agreement.specs.Due.{forward_mark}
use Rattle.endpoint.specs.declared.EndPoint.{EndPoint}
use Rattle.endpoint.specs.declared.Answer.{Answer}
use Rattle.endpoint.specs.State.{with_given, is_pending}
use Rattle.endpoint.specs.Spent.{spent}
use Rattle.endpoint.specs.Ready.{ready, agreed}
use Rattle.endpoint.specs.Sound.{heard_from, all_others, flags_ok, views_ok, own_member, counts_ok, records_ok, slots_ok, heard_ok, given_ok, sound}
use Rattle.endpoint.specs.Application.{unfit}
use Rattle.endpoint.specs.Numbers.{check, verdict, settle, refused_with}
use Rattle.endpoint.specs.Give.{Given, next_given, limit, nothing_next, beyond_cut, give_checks, gives_next, give_one, give_many, batch_number, batch, batch_area, batch_answer}
use Rattle.endpoint.proofs.Parts.{neither, parts_of, sound_of}
use Rattle.endpoint.specs.Pass.{batch_checks, capped, last_given, words_after}
use Rattle.endpoint.proofs.Planning.{none_applies, given_low}

-- ---- where the give-outs end

-- of two bounds the lower counts
min_ltb : (a b n : ℕ) → ltb (min a b) n ≡ (ltb a n || ltb b n)
min_ltb a b n = go (ltb a n) (ltb b n) refl refl
  where
    go : (x y : Bool) → ltb a n ≡ x → ltb b n ≡ y → ltb (min a b) n ≡ (x || y)
    go true y p r = lt-ltb (min a b) n (omega (arith, ltb-true a n p))
    go false true p r = lt-ltb (min a b) n (omega (arith, ltb-true b n r))
    go false false p r = le-ltb (min a b) n (omega (arith, ltb-false a n p, ltb-false b n r))

not_leb : (n k : ℕ) → not (leb n k) ≡ ltb k n
not_leb n k = ⊎_elim (λ l. rw (lt-ltb k n l, lt-leb n k l)) (λ l. rw (le-ltb k n l, le-leb n k l)) (side k n)

-- the tests of 10 and 11 at word n are one test against the last
ends_at : (own p h : Bool) (r k m n : ℕ)
    → ((not (leb n r) || (own && ltb k n)) || (p && (h && ltb m n))) ≡ ltb (capped m (p && h) (capped k own r)) n
ends_at own p h r k m n = rw (not_leb n r) (go own p h)
  where
    or_none : (b : Bool) → (b || false) ≡ b
    or_none true = refl
    or_none false = refl

    go : (own p h : Bool) → ((ltb r n || (own && ltb k n)) || (p && (h && ltb m n))) ≡ ltb (capped m (p && h) (capped k own r)) n
    go true true true = rw (min_ltb (min r k) m n, min_ltb r k n)
    go true true false = rw (min_ltb r k n) (or_none (ltb r n || ltb k n))
    go true false h = rw (min_ltb r k n) (or_none (ltb r n || ltb k n))
    go false true true = rw (min_ltb r m n) (ap (λ b. b || ltb m n) (or_none (ltb r n)))
    go false true false = or_none (ltb r n || false) ∙ or_none (ltb r n)
    go false false h = or_none (ltb r n || false) ∙ or_none (ltb r n)

-- the word after a count within the run is held where the run goes on
held_is_run : (ss : Slots) (v : View) (r n : ℕ) → n ≤ run ss v r → held_word ss v r (n + 1) ≡ leb (n + 1) (run ss v r)
unfolding run held_word
held_is_run ss v r n l =
    ⊎_elim
    (λ (e : n ≡ run ss v r). rw e (run_in_end (marks_at ss (slot_of ss v)) r ∙ sym (lt-leb (run ss v r + 1) (run ss v r) (omega arith))))
    (λ m. run_in_each (marks_at ss (slot_of ss v)) r (n + 1) (omega arith) (omega arith) ∙ sym (le-leb (n + 1) (run ss v r) (omega arith)))
    (eq-or-lt_of_le l)

ends : (e : EndPoint) (q : ℕ) → sound e ≡ true → q < 8 → (nothing_next e q || beyond_cut e q) ≡ ltb (last_given e q) (next_given e q)
unfolding nothing_next beyond_cut last_given next_given
ends e q s l =
    rw (held_is_run e.slots e.current q (get_or e.given q 0) (given_low e s q l))
    (ends_at (eqb q e.me) (is_pending e) (holds_record e.records e.me e.change.number)
    (run e.slots e.current q) e.passed (limit e q) (get_or e.given q 0 + 1))

-- the last is within the run
pub last_low : (e : EndPoint) (q : ℕ) → last_given e q ≤ run e.slots e.current q
unfolding last_given
last_low e q = go (is_pending e && holds_record e.records e.me e.change.number) (eqb q e.me)
  where
    go : (a b : Bool) → capped (limit e q) a (capped e.passed b (run e.slots e.current q)) ≤ run e.slots e.current q
    go true true = omega arith
    go true false = omega arith
    go false true = omega arith
    go false false = omega arith

-- ---- with another count of q's within the run it is sound

given_all : (xs : List ℕ) (q k : ℕ) (f : ℕ → ℕ) → q < length xs → k ≤ f q → all_below (λ r. leb (get_or xs r 0) (f r)) 8 ≡ true
    → all_below (λ r. leb (get_or (set xs q k) r 0) (f r)) 8 ≡ true
given_all xs q k f l h o =
    all_of (λ r. leb (get_or (set xs q k) r 0) (f r)) 8
    (λ r m.
    ⊎_elim
    (λ (e : r ≡ q). rw (e, get_or-set_same xs q k 0 l) (le-leb k (f q) h))
    (λ n. rw (get_or-set_other xs q r k 0 n) (all_each (λ r. leb (get_or xs r 0) (f r)) 8 r m o))
    (at_or_not r q))

ruleset clauses = (and_both, and_left, and_right)

given_sound : (e : EndPoint) (q k : ℕ) → sound e ≡ true → q < 8 → length e.given ≡ 8 → k ≤ run e.slots e.current q
    → sound (with_given (set e.given q k) e) ≡ true
unfolding flags_ok views_ok own_member counts_ok records_ok slots_ok heard_ok given_ok all_others heard_from spent forward_mark
given_sound e q k s l y h =
    let p = parts_of e s in
    let c = p.counts in
    let g = p.given in
    let b : q < length e.given = omega arith in
    let low : all_below (λ r. leb (get_or e.given r 0) 128) 8 ≡ true = search clauses in
    let ran : all_below (λ r. leb (get_or e.given r 0) (run e.slots e.current r)) 8 ≡ true = search clauses in
    let low' = given_all e.given q k (λ r. 128) b (omega (arith, run_low e.slots e.current q)) low in
    let ran' = given_all e.given q k (run e.slots e.current) b h ran in
    sound_of (with_given (set e.given q k) e)
    (record {
      low = p.low;
      flags = p.flags;
      views = p.views;
      member = p.member;
      counts = search clauses;
      records = p.records;
      slots = p.slots;
      heard = p.heard;
      given = search clauses;
    })

-- ---- the words

-- the next one, then those after it
words_more : (area : List ℕ) (s q i n : ℕ) → get_or area (place s q (i + 1)) 0 ∷ words_after area s q (i + 1) n ≡ words_after area s q i (suc n)
unfolding words_after list_below join_below
words_more area s q i zero = let p : i + 0 + 1 ≡ i + 1 = omega arith in rw p
words_more area s q i (suc n) =
    let p : i + 1 + n + 1 ≡ i + suc n + 1 = omega arith in
    rw p (ap (λ (l : List ℕ). l ++ (get_or area (place s q (i + suc n + 1)) 0 ∷ [])) (words_more area s q i n))

pub words_length : (area : List ℕ) (s q i n : ℕ) → length (words_after area s q i n) ≡ n
unfolding words_after
words_length area s q i n = list_length (λ j. get_or area (place s q (i + j + 1)) 0) n

-- ---- a single give-out from a fit end-point of a member q

module _ (e : EndPoint) (area : List ℕ) (q : ℕ) (s : sound e ≡ true) (whole : length area ≡ 4096) (l : q < 8) (here : has e.current.set q ≡ true) where
  first_passes : (unfit e area || not (leb q 7)) ≡ false
  unfolding unfit
  first_passes = rw (s, eq-eqb (length area) 4096 whole, le-leb q 7 (omega arith))

  one_verdict : verdict (give_checks e area q) ≡ cond (nothing_next e q) 10 (cond (beyond_cut e q) 11 0)
  unfolding give_checks verdict
  one_verdict = rw (first_passes, here)

  one_stops : ltb (last_given e q) (next_given e q) ≡ true → eqb (give_one e area q).number 0 ≡ false
  unfolding give_one settle
  one_stops t = rw one_verdict (go (nothing_next e q) (beyond_cut e q) (ends e q s l ∙ t))
    where
      go : (a b : Bool) → (a || b) ≡ true → eqb (cond (eqb (cond a 10 (cond b 11 0)) 0) (gives_next e area q) (refused_with (cond a 10 (cond b 11 0)) e)).number 0 ≡ false
      go true b p = refl
      go false true p = refl
      go false false p = clash p refl

  one_gives : ltb (last_given e q) (next_given e q) ≡ false → give_one e area q ≡ gives_next e area q
  unfolding give_one settle
  one_gives t = rw one_verdict (go (nothing_next e q) (beyond_cut e q) (ends e q s l ∙ t))
    where
      go : (a b : Bool) → (a || b) ≡ false → cond (eqb (cond a 10 (cond b 11 0)) 0) (gives_next e area q) (refused_with (cond a 10 (cond b 11 0)) e) ≡ gives_next e area q
      go true b p = clash {b = true} refl p
      go false true p = clash {b = true} refl p
      go false false p = refl

-- ---- the batch, by induction on its room

-- after k words of q
abbrev after : EndPoint → List ℕ → ℕ → ℕ → Given
after e area q k =
    record {
      ep = with_given (set e.given q (get_or e.given q 0 + k)) e;
      words = words_after area (slot_of e.slots e.current) q (get_or e.given q 0) k;
    }

none_after : (e : EndPoint) (area : List ℕ) (q k : ℕ) → k ≡ 0 → record { ep = e; words = [] } ≡ after e area q k
unfolding words_after list_below join_below
none_after e area q k z =
    let p : get_or e.given q 0 + 0 ≡ get_or e.given q 0 = omega arith in
    rw (z, p, set-get_or e.given q 0)

-- one more before k words
more_after : (e : EndPoint) (area : List ℕ) (q k n : ℕ) → q < length e.given → n ≡ suc k
    → record { ep = (after (gives_next e area q).ep area q k).ep; words = (gives_next e area q).word ∷ (after (gives_next e area q).ep area q k).words } ≡ after e area q n
unfolding gives_next next_given
more_after e area q k n l z =
    let g = get_or e.given q 0 in
    let p : g + 1 + k ≡ g + suc k = omega arith in
    rw (z, get_or-set_same e.given q (g + 1) 0 l, set-set e.given q (g + 1) (g + 1 + k), p, words_more area (slot_of e.slots e.current) q g k)

-- what the end-point after one give-out keeps
module _ (e : EndPoint) (area : List ℕ) (q : ℕ) where
  next_last : last_given (gives_next e area q).ep q ≡ last_given e q
  unfolding gives_next last_given limit ready agreed
  next_last = refl

  next_given_lem : q < length e.given → get_or (gives_next e area q).ep.given q 0 ≡ get_or e.given q 0 + 1
  unfolding gives_next next_given
  next_given_lem l = get_or-set_same e.given q (get_or e.given q 0 + 1) 0 l

  next_length : length (gives_next e area q).ep.given ≡ length e.given
  unfolding gives_next
  next_length = length-set e.given q (next_given e q)

  next_has : has (gives_next e area q).ep.current.set q ≡ has e.current.set q
  unfolding gives_next
  next_has = refl

  next_sound : sound e ≡ true → q < 8 → length e.given ≡ 8 → next_given e q ≤ run e.slots e.current q → sound (gives_next e area q).ep ≡ true
  unfolding gives_next
  next_sound s l y h = given_sound e q (next_given e q) s l y h

many_stops : (e : EndPoint) (area : List ℕ) (q n : ℕ) → eqb (give_one e area q).number 0 ≡ false → give_many e area q (suc n) ≡ record { ep = e; words = [] }
unfolding give_many
many_stops e area q n t = ap pick t
  where
    pick : Bool → Given
    pick b =
        elim b [
          | true ↦ record { ep = (give_many (give_one e area q).ep area q n).ep; words = (give_one e area q).word ∷ (give_many (give_one e area q).ep area q n).words }
          | false ↦ record { ep = e; words = [] }
        ]

many_goes : (e : EndPoint) (area : List ℕ) (q n : ℕ) → give_one e area q ≡ gives_next e area q
    → give_many e area q (suc n)
    ≡ record { ep = (give_many (gives_next e area q).ep area q n).ep; words = (gives_next e area q).word ∷ (give_many (gives_next e area q).ep area q n).words }
unfolding give_many gives_next
many_goes e area q n t = ap step t
  where
    step : Answer → Given
    step a =
        elim (eqb a.number 0) [
          | true ↦ record { ep = (give_many a.ep area q n).ep; words = a.word ∷ (give_many a.ep area q n).words }
          | false ↦ record { ep = e; words = [] }
        ]

pub many : (area : List ℕ) (q : ℕ) → length area ≡ 4096 → q < 8 → (n : ℕ) (e : EndPoint) → sound e ≡ true → length e.given ≡ 8 → has e.current.set q ≡ true
    → give_many e area q n ≡ after e area q (min n (last_given e q - get_or e.given q 0))
unfolding give_many next_given
many area q whole l zero e s y here = none_after e area q (min 0 (last_given e q - get_or e.given q 0)) (omega arith)
many area q whole l (suc n) e s y here = go (ltb (last_given e q) (next_given e q)) refl (many area q whole l n (gives_next e area q).ep)
  where
    g : ℕ
    g = get_or e.given q 0

    go : (b : Bool) → ltb (last_given e q) (next_given e q) ≡ b
        → (sound (gives_next e area q).ep ≡ true → length (gives_next e area q).ep.given ≡ 8 → has (gives_next e area q).ep.current.set q ≡ true
        → give_many (gives_next e area q).ep area q n ≡ after (gives_next e area q).ep area q (min n (last_given (gives_next e area q).ep q - get_or (gives_next e area q).ep.given q 0)))
        → give_many e area q (suc n) ≡ after e area q (min (suc n) (last_given e q - g))
    go true t rest =
        many_stops e area q n (one_stops e area q s whole l here t)
        ∙ none_after e area q (min (suc n) (last_given e q - g)) (omega (arith, ltb-true (last_given e q) (g + 1) t))
    go false t rest =
        let b : q < length e.given = omega arith in
        let low : g + 1 ≤ last_given e q = ltb-false (last_given e q) (g + 1) t in
        let k = min n (last_given (gives_next e area q).ep q - get_or (gives_next e area q).ep.given q 0) in
        let m : min (suc n) (last_given e q - g) ≡ suc k = omega (arith, next_last e area q, next_given_lem e area q b) in
        many_goes e area q n (one_gives e area q s whole l here t)
        ∙ ap (λ (x : Given). record { ep = x.ep; words = (gives_next e area q).word ∷ x.words })
        (rest (next_sound e area q s l y (omega (arith, last_low e q))) (next_length e area q ∙ y) (next_has e area q ∙ here))
        ∙ more_after e area q k (min (suc n) (last_given e q - g)) b m

-- ---- the method: refused by the number of its checks, or done

-- a give-out's 10 and 11 do not refuse a batch
number_is : (e : EndPoint) (area : List ℕ) (q : ℕ) → batch_number e area q ≡ verdict (batch_checks e area q)
unfolding batch_number give_one give_checks batch_checks settle verdict gives_next
number_is e area q = go (unfit e area || not (leb q 7)) (not (has e.current.set q)) (nothing_next e q) (beyond_cut e q)
  where
    one : Bool → Bool → Bool → Bool → ℕ
    one a b c d = (settle (check 1 a ∷ check 2 b ∷ check 10 c ∷ check 11 d ∷ []) e (gives_next e area q)).number

    go : (a b c d : Bool) → cond (leb (one a b c d) 2) (one a b c d) 0 ≡ verdict (check 1 a ∷ check 2 b ∷ [])
    go true b c d = refl
    go false true c d = refl
    go false false true d = refl
    go false false false true = refl
    go false false false false = refl

-- what no check says
pub record Fit (e : EndPoint) (area : List ℕ) (q : ℕ) : Type 0 where
  pub sound_now : sound e ≡ true
  pub whole : length area ≡ 4096
  pub low : q < 8
  pub here : has e.current.set q ≡ true
  pub slot_low : slot_of e.slots e.current < 4

pub fit_batch : (e : EndPoint) (area : List ℕ) (q : ℕ) → verdict (batch_checks e area q) ≡ 0 → Fit e area q
unfolding batch_checks unfit slots_ok
fit_batch e area q z =
    let a = none_applies 1 (unfit e area || not (leb q 7)) (check 2 (not (has e.current.set q)) ∷ []) (omega arith) z in
    let b = none_applies 2 (not (has e.current.set q)) [] (omega arith) a.1 in
    let c = neither (unfit e area) (not (leb q 7)) a.0 in
    let d = neither (not (sound e)) (not (eqb (length area) 4096)) c.0 in
    let s = is_not (sound e) d.0 in
    let h = has_slot e.slots e.current in
    let live = all_used (λ v. not (spent e v)) e.slots in
    let k = and_right (no_gaps e.slots e.me) (slots_differ e.slots && (live && h)) (parts_of e s).slots in
    record {
      sound_now = s;
      whole = eqb-true (length area) 4096 (is_not (eqb (length area) 4096) d.1);
      low = omega (arith, leb-true q 7 (is_not (leb q 7) c.1));
      here = is_not (has e.current.set q) b.0;
      slot_low = (slot_of_lem e.slots e.current (and_right live h (and_right (slots_differ e.slots) (live && h) k))).0;
    }

-- refused by the number n
module _ (e : EndPoint) (area : List ℕ) (q n : ℕ) (k : verdict (batch_checks e area q) ≡ n) (z : n ≡ 0 → ⊥) where
  batch_none : (room : ℕ) → batch e area q room ≡ record { ep = e; words = [] }
  unfolding batch
  batch_none room =
      let t : eqb (batch_number e area q) 0 ≡ false = ne_eqb (batch_number e area q) 0 (λ m. z (sym k ∙ sym (number_is e area q) ∙ m)) in
      rw t

  pub batch_refused : (room : ℕ) → record { ep = e; count = 0; number = n } ≡ batch_answer e area q room
  batch_refused room = rw (batch_none room, number_is e area q, k)

  pub batch_kept : (out : List ℕ) → out ≡ batch_area e area q out
  unfolding batch_area
  batch_kept out = rw (batch_none (length out))

-- not refused: k words of q are given out, as many as there is room for
module _ (e : EndPoint) (area : List ℕ) (q : ℕ) (z : verdict (batch_checks e area q) ≡ 0) (room k : ℕ) (h : k ≡ min room (last_given e q - get_or e.given q 0)) where
  pub words_fit_lem : get_or e.given q 0 + k ≤ 128
  words_fit_lem =
      let f = fit_batch e area q z in
      omega (arith, last_low e q, run_low e.slots e.current q, given_low e f.sound_now q f.low)

  module _ (y : length e.given ≡ 8) where
    batch_some : batch e area q room ≡ after e area q k
    unfolding batch
    batch_some =
        let t : eqb (batch_number e area q) 0 ≡ true = eq-eqb (batch_number e area q) 0 (number_is e area q ∙ z) in
        let f = fit_batch e area q z in
        rw (t, h) (many area q f.whole f.low room e f.sound_now y f.here)

    pub batch_done : record { ep = with_given (set e.given q (get_or e.given q 0 + k)) e; count = k; number = 0 } ≡ batch_answer e area q room
    batch_done =
        rw (batch_some, number_is e area q, z, words_length area (slot_of e.slots e.current) q (get_or e.given q 0) k)

pub batch_copied : (e : EndPoint) (area : List ℕ) (q : ℕ) → verdict (batch_checks e area q) ≡ 0 → (out : List ℕ) (k : ℕ)
    → k ≡ min (length out) (last_given e q - get_or e.given q 0) → length e.given ≡ 8
    → words_after area (slot_of e.slots e.current) q (get_or e.given q 0) k ++ drop k out ≡ batch_area e area q out
unfolding batch_area
batch_copied e area q z out k h y =
    rw (batch_some e area q z (length out) k h y, words_length area (slot_of e.slots e.current) q (get_or e.given q 0) k)

-- ---- the words of the area that are copied

-- the place n after that of the next word
place_after : (s q i n : ℕ) → place s q (i + 1) + n ≡ place s q (i + n + 1)
unfolding place
place_after s q i n = omega arith

pub words_taken : (area : List ℕ) (s q i n : ℕ) → place s q (i + 1) + n ≤ length area → take n (drop (place s q (i + 1)) area) ≡ words_after area s q i n
unfolding words_after list_below join_below
words_taken area s q i zero l = refl
words_taken area s q i (suc n) l =
    let rest = drop (place s q (i + 1)) area in
    let k : n < length rest = omega (arith, length-drop (place s q (i + 1)) area) in
    take-suc rest n 0 k
    ∙ ap (λ (xs : List ℕ). xs ++ (get_or rest n 0 ∷ [])) (words_taken area s q i n (omega arith))
    ∙ ap (λ (x : ℕ). words_after area s q i n ++ (x ∷ [])) (get_or-drop (place s q (i + 1)) area n 0 ∙ ap (λ k. get_or area k 0) (place_after s q i n))

-- ---- the words that a batch copies, one by one

module _ (area out : List ℕ) (s q i : ℕ) where
  pub copy_none : out ≡ words_after area s q i 0 ++ drop 0 out
  unfolding words_after list_below join_below
  copy_none = refl

  pub copy_more : (m : List ℕ) (j : ℕ) → j < length out → m ≡ words_after area s q i j ++ drop j out
      → set m j (get_or area (place s q (i + 1) + j) 0) ≡ words_after area s q i (j + 1) ++ drop (j + 1) out
  unfolding words_after list_below join_below place
  copy_more m j l h =
      let w = words_after area s q i j in
      let v = get_or area (s * 1024 + q * 128 + (i + j + 1) - 1) 0 in
      let p : s * 1024 + q * 128 + (i + 1) - 1 + j ≡ s * 1024 + q * 128 + (i + j + 1) - 1 = omega arith in
      ap (λ k. set m j (get_or area k 0)) p
      ∙ ap (λ k. set k j v) (h ∙ ap (λ k. w ++ k) (drop-cons out j 0 l))
      ∙ set_at w (get_or out j 0) (drop (suc j) out) v j (words_length area s q i j)
      ∙ subst (λ n. w ++ (v ∷ drop (suc j) out) ≡ words_after area s q i n ++ drop n out) (sym (add-one j)) (sym (append_assoc w (v ∷ []) (drop (suc j) out)))

  pub copy_end : (m : List ℕ) (j n : ℕ) → j ≤ n → n ≤ j → m ≡ words_after area s q i j ++ drop j out → m ≡ words_after area s q i n ++ drop n out
  copy_end m j n a b e = rw (le_antisymm a b) at e
