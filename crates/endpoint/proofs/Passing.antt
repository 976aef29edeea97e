-- Sound in one pass is sound: the parts that the code asks for say each clause, and each clause says them. Assumes nothing.
use Prim.Native.Nat.{ℕ}
use native.Mathlib.Omega.{arith}
use mathlib.Core.Bool.{Bool, true, not, ◌&&◌, ◌||◌}
use mathlib.Core.Path.{◌≡◌, refl, sym}
use lib.Dec.{eqb, leb}
use lib.ListN.{get_or}
use borrow.Author.Tests.{leb-true, le-leb}
use Rattle.below.specs.Below.{all_below}
use Rattle.below.proofs.Tests.{both, and_both, and_left, and_right}
use Rattle.below.proofs.All.{all_each, all_of}
use Rattle.views.specs.declared.View.{View}
use Rattle.views.specs.Sets.{has}
use Rattle.views.specs.Views.{view_ok, same}
use Rattle.records.specs.Records.{records_fit}
use Rattle.slots.specs.Slots as Slots
use Rattle.slots.specs.Slots.{tag_at, marks_at, used, slot_in, slot_of, has_slot, run, all_used, slots_differ, no_gaps}
use Rattle.slots.specs.Fit.{slots_fit}
use Rattle.slots.proofs.Finding.{run_low}
use Rattle.slots.proofs.Sound.{fit_parts}
use Rattle.agreement.specs.Due.{forward_mark}
use Rattle.parts.specs.Others.{placed, other_fits, others_fit}
use Rattle.parts.specs.Counts.{row_fits, rows_fit, given_fit}
use Rattle.endpoint.specs.declared.EndPoint.{EndPoint}
use Rattle.endpoint.specs.State.{is_pending}
use Rattle.endpoint.specs.Spent.{spent}
use Rattle.endpoint.specs.Sound.{heard_from, all_others, flags_ok, views_ok, own_member, counts_ok, records_ok, slots_ok, heard_ok, given_ok, sound}
use Rattle.endpoint.specs.Pass.{flags_fit, words_fit, views_sound}
use Rattle.endpoint.proofs.Parts.{Parts, parts_of, sound_of, others_each, others_of}

-- ---- `&&` taken apart

two : (a b : Bool) → (a && b) ≡ true → (a ≡ true) × (b ≡ true)
two a b t = (and_left a b t, and_right a b t)

three : (a b c : Bool) → (a && (b && c)) ≡ true → (a ≡ true) × ((b ≡ true) × (c ≡ true))
three a b c t = (and_left a (b && c) t, two b c (and_right a (b && c) t))

four : (a b c d : Bool) → (a && (b && (c && d))) ≡ true → (a ≡ true) × ((b ≡ true) × ((c ≡ true) × (d ≡ true)))
four a b c d t = (and_left a (b && (c && d)) t, three b c d (and_right a (b && (c && d)) t))

five : (a b c d f : Bool) → (a && (b && (c && (d && f)))) ≡ true → (a ≡ true) × ((b ≡ true) × ((c ≡ true) × ((d ≡ true) × (f ≡ true))))
five a b c d f t = (and_left a (b && (c && (d && f))) t, four b c d f (and_right a (b && (c && (d && f))) t))

six : (a b c d f g : Bool) → (a && (b && (c && (d && (f && g))))) ≡ true
    → (a ≡ true) × ((b ≡ true) × ((c ≡ true) × ((d ≡ true) × ((f ≡ true) × (g ≡ true)))))
six a b c d f g t = (and_left a (b && (c && (d && (f && g)))) t, five b c d f g (and_right a (b && (c && (d && (f && g)))) t))

module _ (e : EndPoint) where
  -- ---- what the pass asks of each other sender
  abbrev fits : ℕ → Bool
  fits q = other_fits e.me e.current e.change.number (is_pending e) e.slots.tags (heard_from e q) (get_or e.received q 0)

  abbrev settles : ℕ → Bool
  settles q = eqb (heard_from e q).id 0 || (same (heard_from e q) e.current || (spent e (heard_from e q) || has_slot e.slots (heard_from e q)))

  fits_parts : (q : ℕ) → fits q ≡ true → (view_ok (heard_from e q) ≡ true) × ((leb (get_or e.received q 0) 128 ≡ true) × (settles q ≡ true))
  unfolding other_fits placed spent has_slot slot_in slot_of Slots.is_for Slots.used Slots.tag_at
  fits_parts q t = three (view_ok (heard_from e q)) (leb (get_or e.received q 0) 128) (settles q) t

  fits_of : (q : ℕ) → view_ok (heard_from e q) ≡ true → leb (get_or e.received q 0) 128 ≡ true → settles q ≡ true → fits q ≡ true
  unfolding other_fits placed spent has_slot slot_in slot_of Slots.is_for Slots.used Slots.tag_at
  fits_of q a b c = and_both a (and_both b c)

  others_is : others_fit e.me e.current e.change.number (is_pending e) e.slots.tags e.heard e.received ≡ all_others e fits
  unfolding others_fit all_others heard_from
  others_is = refl

  -- ---- what it asks of the words
  abbrev live : View → Bool
  live v = not (spent e v)

  abbrev flagged : Bool
  flagged = all_below (λ s. leb (tag_at e.slots s).used 1) 4

  abbrev given : Bool
  given = all_below (λ r. leb (get_or e.given r 0) (run e.slots e.current r)) 8

  abbrev passed : Bool
  passed = leb e.passed (run e.slots e.current e.me)

  abbrev slotted : Bool
  slotted = flagged && (all_used view_ok e.slots && (all_used live e.slots && (no_gaps e.slots e.me && slots_differ e.slots)))

  slotted_is : slots_fit e.me e.current e.change.number (is_pending e) e.slots ≡ slotted
  unfolding spent
  slotted_is = fit_parts e.me e.current e.change.number (is_pending e) e.slots

  words_is : words_fit e.me e.current e.change.number (is_pending e) e.slots e.given e.passed ≡ (slots_fit e.me e.current e.change.number (is_pending e) e.slots && (has_slot e.slots e.current && (given && passed)))
  unfolding words_fit has_slot slot_in slot_of Slots.is_for Slots.used Slots.tag_at given_fit run marks_at
  words_is = refl

  abbrev marked : Bool
  marked = all_below (λ q. all_below (λ r. leb (forward_mark e.forwarded q r) 128) 8) 8

  marked_is : rows_fit e.forwarded ≡ marked
  unfolding rows_fit row_fits forward_mark
  marked_is = refl

  low_given : given ≡ true → all_below (λ r. leb (get_or e.given r 0) 128) 8 ≡ true
  low_given t =
      all_of (λ r. leb (get_or e.given r 0) 128) 8
      (λ r l. le-leb (get_or e.given r 0) 128
      (omega (arith, leb-true (get_or e.given r 0) (run e.slots e.current r) (all_each (λ r. leb (get_or e.given r 0) (run e.slots e.current r)) 8 r l t), run_low e.slots e.current r)))

  low_passed : passed ≡ true → leb e.passed 128 ≡ true
  low_passed t = le-leb e.passed 128 (omega (arith, leb-true e.passed (run e.slots e.current e.me) t, run_low e.slots e.current e.me))

  -- ---- both ways

  abbrev here : Bool
  here = has e.current.set e.me

  abbrev there : Bool
  there = has e.membership.set e.me

  abbrev viewed : Bool
  viewed = views_sound e.me e.change e.told e.current e.membership

  pass_parts : viewed ≡ true → all_others e fits ≡ true → records_fit e.records e.me e.change.number ≡ true → marked ≡ true
      → (slotted && (has_slot e.slots e.current && (given && passed))) ≡ true → Parts e
  unfolding views_sound flags_ok views_ok own_member counts_ok records_ok slots_ok heard_ok given_ok
  pass_parts v o r m w =
      let vs = six (leb e.me 7) (flags_fit e.change e.told) (view_ok e.current) (view_ok e.membership) here there v in
      let fs = four (leb e.change.opened 1) (leb e.change.pending 1) (leb e.change.block 2) (leb e.told 1) vs.1.0 in
      let ws = four slotted (has_slot e.slots e.current) given passed w in
      let ss = five flagged (all_used view_ok e.slots) (all_used live e.slots) (no_gaps e.slots e.me) (slots_differ e.slots) ws.0 in
      record {
        low = leb-true e.me 7 vs.0;
        flags = and_both fs.0 (and_both fs.1.0 (and_both fs.1.1.0 (and_both fs.1.1.1 ss.0)));
        views = and_both vs.1.1.0 (and_both vs.1.1.1.0 (and_both (others_of e (λ q. view_ok (heard_from e q)) (λ q l n. (fits_parts q (others_each e fits o q l n)).0)) ss.1.0));
        member = and_both vs.1.1.1.1.0 vs.1.1.1.1.1;
        counts = and_both (low_passed ws.1.1.1) (and_both (others_of e (λ q. leb (get_or e.received q 0) 128) (λ q l n. (fits_parts q (others_each e fits o q l n)).1.0)) (and_both (low_given ws.1.1.0) m));
        records = r;
        slots = and_both ss.1.1.1.0 (and_both ss.1.1.1.1 (and_both ss.1.1.0 ws.1.0));
        heard = others_of e settles (λ q l n. (fits_parts q (others_each e fits o q l n)).1.1);
        given = and_both ws.1.1.0 ws.1.1.1;
      }

  parts_pass : Parts e → (viewed && ((all_others e fits && (records_fit e.records e.me e.change.number && marked)) && (slotted && (has_slot e.slots e.current && (given && passed))))) ≡ true
  unfolding views_sound flags_ok views_ok own_member counts_ok records_ok slots_ok heard_ok given_ok
  parts_pass p =
      let fs = five (leb e.change.opened 1) (leb e.change.pending 1) (leb e.change.block 2) (leb e.told 1) flagged p.flags in
      let vs = four (view_ok e.current) (view_ok e.membership) (all_others e (λ q. view_ok (heard_from e q))) (all_used view_ok e.slots) p.views in
      let ms = two here there p.member in
      let cs = four (leb e.passed 128) (all_others e (λ q. leb (get_or e.received q 0) 128)) (all_below (λ r. leb (get_or e.given r 0) 128) 8) marked p.counts in
      let ss = four (no_gaps e.slots e.me) (slots_differ e.slots) (all_used live e.slots) (has_slot e.slots e.current) p.slots in
      let gs = two given passed p.given in
      and_both (and_both (le-leb e.me 7 p.low) (and_both (and_both fs.0 (and_both fs.1.0 (and_both fs.1.1.0 fs.1.1.1.0))) (and_both vs.0 (and_both vs.1.0 (and_both ms.0 ms.1)))))
      (and_both (and_both
      (others_of e fits (λ q l n. fits_of q (others_each e (λ q. view_ok (heard_from e q)) vs.1.1.0 q l n) (others_each e (λ q. leb (get_or e.received q 0) 128) cs.1.0 q l n) (others_each e settles p.heard q l n)))
      (and_both p.records cs.1.1.1))
      (and_both (and_both fs.1.1.1.1 (and_both vs.1.1.1 (and_both ss.1.1.0 (and_both ss.0 ss.1.0)))) (and_both ss.1.1.1 (and_both gs.0 gs.1))))

  pub pass_sound : (views_sound e.me e.change e.told e.current e.membership
      && ((others_fit e.me e.current e.change.number (is_pending e) e.slots.tags e.heard e.received
      && (records_fit e.records e.me e.change.number && rows_fit e.forwarded))
      && words_fit e.me e.current e.change.number (is_pending e) e.slots e.given e.passed)) ≡ sound e
  pass_sound =
      rw (others_is, marked_is, words_is, slotted_is)
      (both (viewed && ((all_others e fits && (records_fit e.records e.me e.change.number && marked)) && (slotted && (has_slot e.slots e.current && (given && passed))))) (sound e)
      (λ t. let a = three (viewed) (all_others e fits && (records_fit e.records e.me e.change.number && marked)) (slotted && (has_slot e.slots e.current && (given && passed))) t in
      let b = three (all_others e fits) (records_fit e.records e.me e.change.number) marked a.1.0 in
      sound_of e (pass_parts a.0 b.0 b.1.0 b.1.1 a.1.1))
      (λ t. parts_pass (parts_of e t)))

pub sound_passed : (e : EndPoint) → sound e ≡ (views_sound e.me e.change e.told e.current e.membership
    && ((others_fit e.me e.current e.change.number (is_pending e) e.slots.tags e.heard e.received
    && (records_fit e.records e.me e.change.number && rows_fit e.forwarded))
    && words_fit e.me e.current e.change.number (is_pending e) e.slots e.given e.passed))
sound_passed e = sym (pass_sound e)
