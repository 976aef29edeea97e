-- Each accepted receive is an action of the automaton: one law a kind of message, then the four in one. Assumes nothing but a sound end-point of the code's types.
use Prim.Native.Nat.{ℕ, suc, ◌+◌, ◌-◌, ◌≤◌, ◌<◌}
use native.Mathlib.Omega.{arith}
use mathlib.Core.Bool.{Bool, true, false, not, cond, ◌&&◌}
use mathlib.Core.List.{List}
use mathlib.Core.Path.{◌≡◌, refl, sym, ap, ◌∙◌, subst}
use mathlib.Core.Logic.{inl, inr}
use lib.Dec.{eqb, ltb, leb}
use lib.ListN.{length, get_or, set}
use lib.Seq.{get_or-set_same, get_or-set_other}
use borrow.Author.Tests.{eqb-false, leb-true, ltb-true}
use Rattle.below.proofs.Tests.{clash, is_not, not_is, and_left, and_right}
use Rattle.automaton.specs.Actions as Actions
use Rattle.views.specs.declared.View.{View}
use Rattle.views.specs.Sets.{has}
use Rattle.views.specs.Views.{same}
use Rattle.views.specs.Cuts.{count_of}
use Rattle.records.specs.Records.{newest}
use Rattle.records.proofs.Find.{newest_below}
use Rattle.slots.specs.Slots.{place, slot_of, has_slot, mark_word, has_free, taken}
use Rattle.slots.specs.Spent.{spent_by}
use Rattle.slots.proofs.Finding.{has_same}
use Rattle.endpoint.specs.declared.EndPoint.{EndPoint}
use Rattle.endpoint.specs.State.{is_pending, with_heard, with_slots}
use Rattle.endpoint.specs.Sound.{heard_from, counts_ok, all_others}
use Rattle.endpoint.specs.Spent.{spent}
use Rattle.endpoint.specs.Steps.{receive, effect, stored}
use Rattle.endpoint.proofs.Parts.{Parts, Shaped, others_each}
use Rattle.endpoint.proofs.Kept.{Passed}
use Rattle.group.specs.Group.{put}
use Rattle.group.specs.Logs.{Log, entry}
use Rattle.refinement.specs.Views.{normal, views}
use Rattle.refinement.specs.Abstract.{Ghost, state, label, message, word_in, seen}
use Rattle.refinement.proofs.Sameness.{same_normal}
use Rattle.refinement.proofs.Words.{stored_put, taken_same}
use Rattle.refinement.proofs.Records.{other_record, stored_records}
use Rattle.refinement.proofs.Parts.{Received, received, kind_four, place_of, heard_has, not_both, current_has, rises, put_there, put_else}
use native.Mathlib.Decide.{ℕ_discrete}
use Rattle.messages.specs.declared.Message.{Message}
use Rattle.endpoint.specs.Receive.{store_word, store_area, needs_slot, view_checks, after_view, next_word, live, word_checks, after_word, area_after_word, sync_checks, carried, after_sync, forward_checks, after_forward, area_after_forward, receive_checks, after_receive, area_after_receive}
use Rattle.views.specs.Views.{initial}
use Rattle.refinement.proofs.Plain.{Counts, Listed, Refined}

-- a step of this end-point to that one, by a message of q
pub record ByMessage (e e' : EndPoint) (area area' : List ℕ) (l : Log) (g : Ghost) (q : ℕ) (m : Actions.Message views) : Type 0 where
  pub after : Ghost
  pub action : Actions.Action views 8 e.me (state e area l g) (state e' area' l after) (Actions.receives q m)
  pub counts : Counts e' after
  pub listed : Listed l after

received_low : (e : EndPoint) → Parts e → (q : ℕ) → q < 8 → (q ≡ e.me → ⊥) → get_or e.received q 0 ≤ 128
unfolding counts_ok
received_low e p q l ne =
    leb-true (get_or e.received q 0) 128
    (others_each e (λ q. leb (get_or e.received q 0) 128)
    (and_left (all_others e (λ q. leb (get_or e.received q 0) 128)) _ (and_right (leb e.passed 128) _ p.counts)) q l ne)

-- ---- a word that is stored

module _ (e : EndPoint) (area : List ℕ) (l : Log) (g : Ghost) (shape : Shaped e) (p : Parts e) (counts : Counts e g) (listed : Listed l g) (q : ℕ) where
  stored_word : (low : q < 8) (other : q ≡ e.me → ⊥) (w : ℕ) → length area ≡ 4096 → spent e (heard_from e q) ≡ false → get_or e.received q 0 < 128 → has_slot e.slots (heard_from e q) ≡ true
      → ByMessage e (with_heard e.heard (set e.received q (get_or e.received q 0 + 1)) (with_slots (mark_word e.slots (heard_from e q) q (get_or e.received q 0 + 1)) e)) area
      (set area (place (slot_of e.slots (heard_from e q)) q (get_or e.received q 0 + 1)) w) l g q (Actions.app_msg w)
  unfolding spent heard_from
  stored_word low other w long live few has = record {
    after = record { came = put q (suc (g.came q)) g.came; made = g.made; moves = g.moves };
    action = Actions.receive_word q w (put q (suc (g.came q)) g.came) _ other (put_there q (suc (g.came q)) g.came) (λ r f. put_else q (suc (g.came q)) g.came r f)
        (inr (subst (λ (z : ℕ). Actions.Put views (word_in e.slots area) (word_in (mark_word e.slots (heard_from e q) q (get_or e.received q 0 + 1)) (set area (place (slot_of e.slots (heard_from e q)) q (get_or e.received q 0 + 1)) w)) (normal (heard_from e q)) q z w)
        (counts q live) (stored_put e.slots shape.slots_shaped area (heard_from e q) q (get_or e.received q 0) w long has low few)));
    counts = λ r h. count_case r h (ℕ_discrete r q);
    listed = listed;
  }
    where
      count_case : (r : ℕ) → spent e (heard_from e r) ≡ false → Dec (r ≡ q) → get_or (set e.received q (get_or e.received q 0 + 1)) r 0 ≡ put q (suc (g.came q)) g.came r
      count_case r h (yes f) =
          rw f (get_or-set_same e.received q (get_or e.received q 0 + 1) 0 (omega (arith, shape.received_length))
          ∙ (let y = counts q live in omega arith) ∙ sym (put_there q (suc (g.came q)) g.came))
      count_case r h (no f) = get_or-set_other e.received q r (get_or e.received q 0 + 1) 0 f ∙ counts r h ∙ sym (put_else q (suc (g.came q)) g.came r f)

  forwarded_word : (other : q ≡ e.me → ⊥) (v : View) (r i w : ℕ) → length area ≡ 4096 → r < 8 → 1 ≤ i → i ≤ 128 → (r ≡ e.me → ⊥) → same v e.current ≡ true
      → ByMessage e (with_slots (mark_word e.slots e.current r i) e) area (set area (place (slot_of e.slots e.current) r i) w) l g q (Actions.fwd_msg r (normal v) (i - 1) w)
  unfolding spent heard_from
  forwarded_word other v r i w long sl lo hi not_me s = record {
    after = g;
    action = Actions.receive_forward q r (normal v) (i - 1) w (word_in (mark_word e.slots e.current r i) (set area (place (slot_of e.slots e.current) r i) w)) other not_me
        (inr (rw (same_normal v e.current s) (subst (λ (z : ℕ). Actions.Put views (word_in e.slots area) (word_in (mark_word e.slots e.current r z) (set area (place (slot_of e.slots e.current) r z) w)) (normal e.current) r (i - 1) w)
        (let b : i - 1 + 1 ≡ i = omega arith in b) (stored_put e.slots shape.slots_shaped area e.current r (i - 1) w long (current_has e p) sl (omega arith)))));
    counts = counts;
    listed = listed;
  }

module _ (e : EndPoint) (area : List ℕ) (l : Log) (g : Ghost) (shape : Shaped e) (p : Parts e) (counts : Counts e g) (listed : Listed l g) (q : ℕ) (low : q < 8) (other : q ≡ e.me → ⊥) where
  -- as many came as before but q's
  abbrev came' : ℕ → Ghost
  came' k = record { came = put q k g.came; made = g.made; moves = g.moves }

  pub ref_view : (v : View) → Passed (view_checks e q v) → ByMessage e (after_view e q v) area area l g q (Actions.view_msg (normal v))
  unfolding view_checks after_view heard_from spent needs_slot
  ref_view v c = record {
    after = came' 0;
    action = Actions.receive_view q (normal v) _ _ _ other (words_same needs refl) (ap normal heard_there) (put_there q 0 g.came)
        (λ r f. ap normal (get_or-set_other e.heard q r v (initial r) f)) (λ r f. put_else q 0 g.came r f);
    counts = λ r k. count_case r k (ℕ_discrete r q);
    listed = listed;
  }
    where
      needs : Bool
      needs = not (same v e.current) && (not (spent e v) && not (has_slot e.slots v))

      heard_there : get_or (set e.heard q v) q (initial q) ≡ v
      heard_there = get_or-set_same e.heard q v (initial q) (omega (arith, shape.heard_length))

      words_same : (b : Bool) → needs ≡ b → Actions.Same views (word_in e.slots area) (word_in (cond needs (taken v e.slots) e.slots) area)
      words_same true n = rw n (taken_same e.slots shape.slots_shaped area v (is_not (has_free e.slots) (not_both needs (not (has_free e.slots)) c.1.1.0 n))
          (not_is (has_slot e.slots v) (and_right (not (spent e v)) (not (has_slot e.slots v)) (and_right (not (same v e.current)) (not (spent e v) && not (has_slot e.slots v)) n))))
      words_same false n = rw n (λ x r i. refl)

      count_case : (r : ℕ) → spent_by e.me e.current e.change.number (is_pending e) (get_or (set e.heard q v) r (initial r)) ≡ false → Dec (r ≡ q) → get_or (set e.received q 0) r 0 ≡ put q 0 g.came r
      count_case r k (yes f) = rw f (get_or-set_same e.received q 0 0 (omega (arith, shape.received_length)) ∙ sym (put_there q 0 g.came))
      count_case r k (no f) = get_or-set_other e.received q r 0 0 f ∙ counts r (rw (get_or-set_other e.heard q r v (initial r) f) at k) ∙ sym (put_else q 0 g.came r f)

  pub ref_word : (w : ℕ) → length area ≡ 4096 → Passed (word_checks e area q w) → ByMessage e (after_word e q) area (area_after_word e area q w) l g q (Actions.app_msg w)
  unfolding word_checks after_word area_after_word store_word store_area next_word live
  ref_word w long c = go (spent e (heard_from e q)) refl
    where
      u : View
      u = heard_from e q

      k : ℕ
      k = get_or e.received q 0

      go : (b : Bool) → spent e (heard_from e q) ≡ b → ByMessage e (after_word e q) area (area_after_word e area q w) l g q (Actions.app_msg w)
      go true s = rw s (record {
        after = came' (suc (g.came q));
        action = Actions.receive_word q w (put q (suc (g.came q)) g.came) _ other (put_there q (suc (g.came q)) g.came) (λ r f. put_else q (suc (g.came q)) g.came r f) (inl (λ x r i. refl));
        counts = λ r h. count_spent r h (ℕ_discrete r q);
        listed = listed;
      })
        where
          count_spent : (r : ℕ) → spent e (heard_from e r) ≡ false → Dec (r ≡ q) → get_or e.received r 0 ≡ put q (suc (g.came q)) g.came r
          count_spent r h (yes f) = clash s (rw f at h)
          count_spent r h (no f) = counts r h ∙ sym (put_else q (suc (g.came q)) g.came r f)
      go false s = rw s (stored_word e area l g shape p counts listed q low other w long s few (heard_has e p q low other c.0 s (λ t. has_same e.slots u e.current t ∙ current_has e p)))
        where
          few : k < 128
          few = let t : eqb k 128 ≡ false = rw s at c.1.0 in let b = received_low e p q low other in omega (arith, eqb-false k 128 t)

  pub ref_syncs : (m : Message) → Passed (sync_checks e q m) → ByMessage e (after_sync e q m) area area l g q (Actions.sync_msg m.number (record { view = normal m.view; cut = λ r. count_of m.cut r }))
  unfolding sync_checks after_sync heard_from spent seen
  ref_syncs m c =
      let above = newest_below e.records q m.number (rises e p q low) (ltb-true (newest e.records q) m.number (is_not (ltb (newest e.records q) m.number) c.1.0)) in
      record {
        after = g;
        action = Actions.receive_sync q m.number (seen (carried m)) _ other (stored_records e.records q (carried m) shape.records_shaped low (rises e p) above)
            (λ j. other_record e.records q (carried m) shape.records_shaped low (rises e p) above e.me j (omega (arith, p.low)) (λ f. other (sym f)));
        counts = counts;
        listed = listed;
      }

  pub ref_forwarded : (m : Message) → length area ≡ 4096 → m.sender < 8 → 1 ≤ m.index → m.index ≤ 128 → Passed (forward_checks e area q m)
      → ByMessage e (after_forward e m) area (area_after_forward e area m) l g q (Actions.fwd_msg m.sender (normal m.view) (m.index - 1) m.word)
  unfolding forward_checks after_forward area_after_forward store_word store_area
  ref_forwarded m long sl lo hi c = go (same m.view e.current) refl
    where
      not_me : m.sender ≡ e.me → ⊥
      not_me =
          let s = not (eqb m.sender e.me) in
          let a = has m.view.set e.me in
          let b = has m.view.set q in
          let d = has m.view.set m.sender in
          let u = is_not (a && (b && (d && s))) c.0 in
          eqb-false m.sender e.me (not_is (eqb m.sender e.me) (and_right d s (and_right b (d && s) (and_right a (b && (d && s)) u))))

      go : (b : Bool) → same m.view e.current ≡ b → ByMessage e (after_forward e m) area (area_after_forward e area m) l g q (Actions.fwd_msg m.sender (normal m.view) (m.index - 1) m.word)
      go true s = rw s (forwarded_word e area l g shape p counts listed q other m.view m.sender m.index m.word long sl lo hi not_me s)
      go false s = rw s (record { after = g; action = Actions.receive_forward q m.sender (normal m.view) (m.index - 1) m.word _ other not_me (inl (λ x r i. refl)); counts = counts; listed = listed })

  -- ---- the four in one

  pub ref_receive : (m : Message) → Passed (receive_checks e area q m) → Refined (receive q m) e area l g
  unfolding receive_checks effect stored entry label after_receive area_after_receive message
  ref_receive m c = from (go (eqb m.kind 1) refl (eqb m.kind 2) refl (eqb m.kind 3) refl c.1)
    where
      R : Received e area q m
      R = received e area q m c.0

      go : (x : Bool) → eqb m.kind 1 ≡ x → (y : Bool) → eqb m.kind 2 ≡ y → (z : Bool) → eqb m.kind 3 ≡ z
          → Passed (cond x (view_checks e q m.view) (cond y (word_checks e area q m.word) (cond z (sync_checks e q m) (forward_checks e area q m))))
          → ByMessage e (cond x (after_view e q m.view) (cond y (after_word e q) (cond z (after_sync e q m) (after_forward e m)))) area
          (cond x area (cond y (area_after_word e area q m.word) (cond z area (area_after_forward e area m)))) l g q
          (cond x (Actions.view_msg (normal m.view)) (cond y (Actions.app_msg m.word) (cond z (Actions.sync_msg m.number (record { view = normal m.view; cut = λ r. count_of m.cut r }))
          (Actions.fwd_msg m.sender (normal m.view) (m.index - 1) m.word))))
      go true a y b z d t = ref_view m.view t
      go false a true b z d t = ref_word m.word R.long t
      go false a false b true d t = ref_syncs m t
      go false a false b false d t =
          let f = place_of m R.well (kind_four m R.well R.kind_low a b d) in
          ref_forwarded m R.long f.0 f.1.0 f.1.1 t

      from : ByMessage e (after_receive e q m) area (area_after_receive e area q m) l g q (message m) → Refined (receive q m) e area l g
      from x = record { after = x.after; action = x.action; counts = x.counts; listed = x.listed }
