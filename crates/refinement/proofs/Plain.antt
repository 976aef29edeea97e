-- Each accepted step that is no receive is an action of the automaton, one law a step. Assumes nothing but a sound end-point of the code's types.
use Prim.Native.Nat.{ℕ, zero, suc, ◌+◌, ◌-◌, ◌≤◌, ◌<◌}
use native.Mathlib.Omega.{arith}
use native.Mathlib.Numerals.{add-one}
use mathlib.Core.Bool.{Bool, true, false, not, cond, ◌&&◌, ◌||◌}
use mathlib.Core.List.{List, [], ◌∷◌, ◌++◌, Memᴰ}
use mathlib.Core.Option.{some}
use mathlib.Core.Path.{◌≡◌, refl, sym, ap, ◌∙◌, subst}
use mathlib.Core.Logic.{inl}
use lib.Dec.{eqb, ltb, leb}
use lib.ListN.{get_or, replicate}
use lib.Seq.{get_or-set_same, get_or-set_other}
use borrow.Author.Tests.{eqb-true, eqb-false, eq-eqb, leb-true, ltb-true}
use Rattle.below.proofs.Tests.{clash, is_not, not_is, and_both, and_left, and_right}
use Rattle.below.proofs.All.{all_each}
use Rattle.below.proofs.First.{first_here}
use Rattle.below.proofs.Lists.{list_at}
use Rattle.automaton.specs.State as Automaton
use Rattle.automaton.specs.Actions as Actions
use Rattle.automaton.specs.Agreed as Rule
use Rattle.views.specs.declared.View.{View}
use Rattle.views.specs.Sets.{has, within, joined}
use Rattle.views.specs.Views.{start_of, same}
use Rattle.views.specs.Cuts.{count_of}
use Rattle.records.specs.Records.{holds_record, the_record}
use Rattle.records.proofs.Find.{absent_below}
use Rattle.slots.specs.declared.Slots.{Slots}
use Rattle.slots.specs.Slots.{place, slot_of, has_slot, held_word, run, freed, has_free, with_slot}
use Rattle.slots.specs.Spent.{spent_by}
use Rattle.slots.proofs.Finding.{run_low, Respects}
use Rattle.slots.proofs.Freeing.{freed_shaped, free_after}
use Rattle.slots.proofs.With.{with_kept, with_new}
use Rattle.views.proofs.Sameness.{same_parts}
use Rattle.agreement.specs.Named as NamedRule
use Rattle.agreement.specs.Due as DueRule
use Rattle.endpoint.specs.declared.EndPoint.{EndPoint}
use Rattle.endpoint.specs.State.{is_pending, is_free, is_blocked, is_told}
use Rattle.endpoint.specs.Sound.{heard_from}
use Rattle.endpoint.specs.Spent.{spent}
use Rattle.endpoint.specs.Ready.{ready, unnamed, agreed, in_t, named_cut}
use Rattle.endpoint.specs.Due.{lowest_due}
use Rattle.endpoint.specs.Application.{unfit, own_run, send_checks, after_send, area_after_send, after_block_ok}
use Rattle.endpoint.specs.Membership.{start_checks, after_start, after_membership}
use Rattle.endpoint.specs.Change.{ask_checks, after_ask, declared_set, after_declare, announce_checks, announces, own_next, pass_checks, passes, own_cut, own_record, sync_out_checks, syncs}
use Rattle.endpoint.specs.Forward.{due_index, forward_out_checks, forwards}
use Rattle.endpoint.specs.Give.{next_given, nothing_next, give_checks, gives_next}
use Rattle.endpoint.specs.Install.{all_members, fewer, more, slots_after, install_checks, after_install}
use Rattle.endpoint.specs.Steps.{Event, send, block_ok, start_change, membership_view, ask_to_block, declare, announce, pass_out, sync, forward, give_out, install, effect, stored}
use Rattle.endpoint.proofs.Parts.{Parts, Shaped}
use Rattle.endpoint.proofs.Kept.{Passed}
use Rattle.endpoint.proofs.Spending.{spent_same, spent_start, spent_install, spent_of}
use Rattle.group.specs.Group.{put, sent_to}
use Rattle.group.specs.Logs.{Log, accepts, gives_out, moves, entry}
use Rattle.refinement.specs.Views.{Normal, normal, view_of, member, start_in, views}
use Rattle.refinement.specs.Abstract.{Ghost, state, label, message, word_in, record_in, seen, block_in}
use Rattle.refinement.proofs.Sameness.{view_normal, not_normal, is_normal, start_normal, member_low, member_has, member_of, same_normal}
use Rattle.refinement.proofs.Words.{word_at, stored_put, freed_same, freed_fewer, taken_same, run_of, run_held}
use Rattle.refinement.proofs.Records.{record_held, record_none, new_record, stored_records, agreed_is}
use Rattle.refinement.proofs.Parts.{or_neither, contra, whole, in_current, in_membership, current_has, at_most, rises, less_in, less_of, within_member, joined_member, put_there, put_else}

-- the words that came of an announced view that is not spent are those that the end-point counts
abbrev pub Counts : EndPoint → Ghost → Type 0
Counts e g = (q : ℕ) → spent e (heard_from e q) ≡ false → get_or e.received q 0 ≡ g.came q

-- the moves in the log are in the list
abbrev pub Listed : Log → Ghost → Type 0
Listed l g = (u u' : View) → l.moved u u' ≡ true → Memᴰ (record { left = normal u; entered = normal u' }) g.moves

-- the step's effect is an action
pub record Refined (ev : Event) (e : EndPoint) (area : List ℕ) (l : Log) (g : Ghost) : Type 0 where
  pub after : Ghost
  pub action : Actions.Action views 8 e.me (state e area l g) (state (effect ev e area).ep (stored ev e area) (entry ev e (effect ev e area) l) after) (label ev (effect ev e area))
  pub counts : Counts (effect ev e area).ep after
  pub listed : Listed (entry ev e (effect ev e area) l) after

pub not_spent : (me : ℕ) (current : View) (n : ℕ) (b : Bool) (v : View) → same v current ≡ true → spent_by me current n b v ≡ false
unfolding spent_by
not_spent me current n b v t = rw t

block_two : (b : ℕ) → eqb b 2 ≡ true → block_in b ≡ Automaton.blocked
unfolding block_in
block_two b t = rw t

own_count : (e : EndPoint) → e.me < 8 → has e.current.set e.me ≡ true → count_of (own_cut e) e.me ≡ run e.slots e.current e.me
unfolding count_of own_cut
own_count e l h = list_at (λ r. cond (has e.current.set r) (run e.slots e.current r) 0) 8 e.me 0 l ∙ rw h refl

due_held : (e : EndPoint) (q r : ℕ) → lowest_due e q r < 128 → held_word e.slots e.current r (lowest_due e q r + 1) ≡ true
unfolding lowest_due DueRule.lowest_due
due_held e q r lt =
    and_right (DueRule.due_above (in_t e) (named_cut e) e.current.set e.me e.forwarded q r (lowest_due e q r + 1)) (held_word e.slots e.current r (lowest_due e q r + 1))
    (first_here (λ k. DueRule.due_above (in_t e) (named_cut e) e.current.set e.me e.forwarded q r (k + 1) && held_word e.slots e.current r (k + 1)) 128 lt)

ready_is : (e : EndPoint) → ready e ≡ true → (is_pending e && (ltb e.current.id e.membership.id && eqb (start_of e.membership e.me) e.change.number)) ≡ true
unfolding ready
ready_is e r = r

asked : (u b : Bool) → cond u b true ≡ true → u ≡ true → b ≡ true
asked true b e q = e
asked false b e q = clash q refl

named_is : (e : EndPoint) → unnamed e ≡ false → (m : ℕ) → m < 8 → has e.current.set m ≡ true → has e.membership.set m ≡ true → holds_record e.records m (start_of e.membership m) ≡ true
unfolding unnamed NamedRule.unnamed NamedRule.named_held NamedRule.in_both
named_is e n m l a b =
    asked (has e.current.set m && has e.membership.set m) (holds_record e.records m (start_of e.membership m))
    (all_each (λ r. cond (has e.current.set r && has e.membership.set r) (holds_record e.records r (start_of e.membership r)) true) 8 m l (is_not _ n))
    (and_both a b)

given_agreed : (e : EndPoint) → fewer e ≡ false → more e ≡ false → (q : ℕ) → q < 8 → has e.current.set q ≡ true → get_or e.given q 0 ≡ NamedRule.agreed e.current e.membership e.records q
unfolding fewer more all_members agreed
given_agreed e f m q l h =
    let a = NamedRule.agreed e.current e.membership e.records q in
    let k = get_or e.given q 0 in
    let x : a ≤ k = leb-true a k (asked (has e.current.set q) (leb a k) (all_each (λ r. cond (has e.current.set r) (leb (NamedRule.agreed e.current e.membership e.records r) (get_or e.given r 0)) true) 8 q l (is_not _ f)) h) in
    let y : k ≤ a = leb-true k a (asked (has e.current.set q) (leb k a) (all_each (λ r. cond (has e.current.set r) (leb (get_or e.given r 0) (NamedRule.agreed e.current e.membership e.records r)) true) 8 q l (is_not _ m)) h) in
    omega arith

older : (e : EndPoint) → e.current.id < e.membership.id → same e.current e.membership ≡ false
older e lt = go (same e.current e.membership) refl
  where
    go : (b : Bool) → same e.current e.membership ≡ b → same e.current e.membership ≡ false
    go true t = absurd (omega (arith, (same_parts e.current e.membership t).ids))
    go false t = t

pub zero_at : (n r : ℕ) → get_or {A = ℕ} (replicate n 0) r 0 ≡ 0
zero_at zero r = refl
zero_at (suc n) zero = refl
zero_at (suc n) (suc r) = zero_at n r

module _ (e : EndPoint) (area : List ℕ) (l : Log) (g : Ghost) (shape : Shaped e) (p : Parts e) (counts : Counts e g) (listed : Listed l g) where
  me_low : e.me < 8
  me_low = omega (arith, p.low)

  pub ref_send : (w : ℕ) → Passed (send_checks e area) → Refined (send w) e area l g
  unfolding send_checks effect stored entry label accepts after_send area_after_send own_run heard_from spent block_in
  ref_send w c = record {
    after = g;
    action = Actions.send w (own_run e) (λ x. cond (same (view_of x) e.current) (l.accepted (view_of x) ++ (w ∷ [])) (l.accepted (view_of x))) _ free (run_of e.slots area e.current e.me)
        (stored_put e.slots shape.slots_shaped area e.current e.me (own_run e) w (whole e area c.0) (current_has e p) me_low few)
        (rw (view_normal e.current) refl) (λ x ne. rw (not_normal x e.current ne) refl);
    counts = counts;
    listed = listed;
  }
    where
      few : run e.slots e.current e.me < 128
      few = omega (arith, run_low e.slots e.current e.me, eqb-false (run e.slots e.current e.me) 128 c.1.1.0)

      free : block_in e.change.block ≡ Automaton.blocked → ⊥
      free = block_not e.change.block c.1.0
        where
          block_not : (b : ℕ) → eqb b 2 ≡ false → cond (eqb b 2) Automaton.blocked (cond (eqb b 0) Automaton.unblocked Automaton.requested) ≡ Automaton.blocked → ⊥
          block_not b n k = go (eqb b 0) (rw n at k)
            where
              go : (z : Bool) → cond z Automaton.unblocked Automaton.requested ≡ Automaton.blocked → ⊥
              go true q = let u : ◌≡◌ {A = ℕ} 0 1 = cc in omega arith
              go false q = let u : ◌≡◌ {A = ℕ} 0 1 = cc in omega arith

  pub ref_block_ok : Refined block_ok e area l g
  unfolding effect stored entry label after_block_ok heard_from spent block_in
  ref_block_ok = record { after = g; action = Actions.block_ok; counts = counts; listed = listed }

  pub ref_ask : Passed (ask_checks e) → Refined ask_to_block e area l g
  unfolding ask_checks effect stored entry label after_ask heard_from spent block_in
  ref_ask c =
      let t = is_not (is_pending e && is_free e) c.1.0 in
      let z : e.change.block ≡ 0 = eqb-true e.change.block 0 (and_right (is_pending e) (is_free e) t) in
      record { after = g; action = Actions.ask_to_block (and_left (is_pending e) (is_free e) t) (ap block_in z); counts = counts; listed = listed }

  pub ref_membership : (v : View) → Refined (membership_view v) e area l g
  unfolding effect stored entry label after_membership heard_from spent
  ref_membership v = record { after = g; action = Actions.membership_view (normal v); counts = counts; listed = listed }

  pub ref_declare : Refined declare e area l g
  unfolding effect stored entry label after_declare declared_set heard_from spent normal
  ref_declare = record { after = g; action = Actions.declare _ (λ q h. go q h (is_pending e)); counts = counts; listed = listed }
    where
      go : (q : ℕ) → member e.current.set q ≡ true → (b : Bool) → member (cond b (joined e.current.set e.change.set) e.current.set) q ≡ true
      go q h true = joined_member e.current.set e.change.set q h
      go q h false = h

  pub ref_announce : Passed (announce_checks e) → Refined announce e area l g
  unfolding announce_checks effect stored entry label announces heard_from spent normal sent_to message
  ref_announce c = record {
    after = g;
    action = Actions.announce _ c.1.1.0 (λ q h. within_member e.current.set e.declared q (is_not (within e.current.set e.declared) c.1.0) h)
        (λ q h ne. less_of e.current.set e.me q h ne);
    counts = counts;
    listed = listed;
  }

  pub ref_pass : Passed (pass_checks e area) → Refined pass_out e area l g
  unfolding pass_checks effect stored entry label passes own_next own_run heard_from spent normal sent_to message
  ref_pass c =
      let told : eqb e.told 1 ≡ true = is_not (is_told e) c.1.0 in
      let lt : e.passed < run e.slots e.current e.me = ltb-true e.passed (own_run e) (is_not (ltb e.passed (own_run e)) c.1.1.0) in
      record {
        after = g;
        action = rw (told, add-one e.passed) (Actions.pass_out _ _ refl (rw (add-one e.passed) at (word_at e.slots area e.current e.me e.passed (run_held e.slots e.current e.me e.passed lt)))
            (λ q h. less_in e.current.set e.me q h) (λ q h ne. less_of e.current.set e.me q h ne));
        counts = counts;
        listed = listed;
      }

  pub ref_start : (n s : ℕ) → Passed (start_checks e n s) → Refined (start_change n s) e area l g
  unfolding start_checks effect stored entry label after_start heard_from spent
  ref_start n s c =
      let lt : e.change.number < n = ltb-true e.change.number n (is_not (ltb e.change.number n) c.1.1.0) in
      record {
        after = g;
        action = Actions.start_change n _ lt (freed_fewer e.slots shape.slots_shaped area gone respects)
            (λ i. freed_same e.slots shape.slots_shaped area gone respects (normal e.current) e.me i live);
        counts = λ q k. counts q (contra (spent e (heard_from e q)) (gone (heard_from e q)) (spent_start e.me e.current e.change.number n (is_pending e) (heard_from e q) lt) k);
        listed = listed;
      }
    where
      gone : View → Bool
      gone = spent_by e.me e.current n true

      respects : Respects gone
      respects v w t = spent_same e.me e.current n true v w me_low t

      live : gone (view_of (normal e.current)) ≡ false
      live = not_spent e.me e.current n true (view_of (normal e.current)) (view_normal e.current)

  pub ref_give : (q : ℕ) → Passed (give_checks e area q) → Refined (give_out q) e area l g
  unfolding give_checks effect stored entry label gives_next gives_out next_given nothing_next heard_from spent normal
  ref_give q c =
      let low : q < 8 = omega (arith, leb-true q 7 (is_not (leb q 7) (or_neither (unfit e area) (not (leb q 7)) c.0).1)) in
      let k : ℕ = get_or e.given q 0 in
      let h = held_word e.slots e.current q (k + 1) in
      let w : ℕ = get_or area (place (slot_of e.slots e.current) q (k + 1)) 0 in
      let held : h ≡ true = is_not h (or_neither (not h) (eqb q e.me && ltb e.passed (k + 1)) c.1.1.0).0 in
      record {
        after = g;
        action = Actions.give_out q w (λ x r. cond (same (view_of x) e.current && eqb r q) (l.given (view_of x) r ++ (w ∷ [])) (l.given (view_of x) r)) _ (member_of e.current.set q low (is_not (has e.current.set q) c.1.0)) (word_at e.slots area e.current q k held)
            (get_or-set_same e.given q (k + 1) 0 (omega (arith, shape.given_length)) ∙ add-one k)
            (λ r f. get_or-set_other e.given q r (k + 1) 0 f)
            (rw (view_normal e.current, eq-eqb q q refl) refl)
            (λ x r ne. else x r ne (same (view_of x) e.current) refl (eqb r q) refl _);
        counts = counts;
        listed = listed;
      }
    where
      else : (x : Normal) (r : ℕ) → (x ≡ normal e.current → r ≡ q → ⊥) → (a : Bool) → same (view_of x) e.current ≡ a → (b : Bool) → eqb r q ≡ b → (ws : List ℕ)
          → cond (same (view_of x) e.current && eqb r q) ws (l.given (view_of x) r) ≡ l.given (view_of x) r
      else x r ne true s true t ws = absurd (ne (is_normal x e.current s) (eqb-true r q t))
      else x r ne true s false t ws = rw (s, t)
      else x r ne false s b t ws = rw s

  pub ref_sync : Passed (sync_out_checks e) → Refined sync e area l g
  unfolding sync_out_checks effect stored entry label syncs heard_from spent sent_to message seen
  ref_sync c =
      let h = holds_record e.records e.me e.change.number in
      let t = is_not (is_pending e && (is_blocked e && not h)) c.1.0 in
      let u = and_right (is_pending e) (is_blocked e && not h) t in
      let lacks : h ≡ false = not_is h (and_right (is_blocked e) (not h) u) in
      let above = absent_below e.records e.me e.change.number (at_most e p) lacks in
      record {
        after = record { came = g.came; made = put e.change.number (some (seen (own_record e))) g.made; moves = g.moves };
        action = Actions.sync _ (seen (own_record e)) _ _ (and_left (is_pending e) (is_blocked e && not h) t) (blocked_is (and_left (is_blocked e) (not h) u))
            (record_none e.records e.me e.change.number lacks) refl
            (subst (λ (k : ℕ). Actions.Run views (word_in e.slots area) (normal e.current) e.me k) (sym own) (run_of e.slots area e.current e.me))
            (put_there e.change.number (some (seen (own_record e))) g.made) (λ j f. put_else e.change.number (some (seen (own_record e))) g.made j f)
            (new_record e.records e.me (own_record e) shape.records_shaped me_low (rises e p) above)
            (stored_records e.records e.me (own_record e) shape.records_shaped me_low (rises e p) above);
        counts = counts;
        listed = listed;
      }
    where
      own : count_of (own_cut e) e.me ≡ run e.slots e.current e.me
      own = own_count e me_low (in_current e p)

      blocked_is : is_blocked e ≡ true → block_in e.change.block ≡ Automaton.blocked
      blocked_is b = block_two e.change.block b

  pub ref_forward : (q r : ℕ) → Passed (forward_out_checks e area q r) → Refined (forward q r) e area l g
  unfolding forward_out_checks effect stored entry label forwards due_index heard_from spent sent_to message
  ref_forward q r c =
      let k : ℕ = lowest_due e q r in
      let z : k + 1 - 1 ≡ k = omega arith in
      let lt : k < 128 = ltb-true k 128 (is_not (ltb k 128) c.1.1.1.0) in
      record {
        after = g;
        action = rw z (Actions.forward _ r (normal e.current) k _ (word_at e.slots area e.current r k (due_held e q r lt)));
        counts = counts;
        listed = listed;
      }

  pub ref_install : Passed (install_checks e) → Refined install e area l g
  unfolding install_checks effect stored entry label after_install slots_after moves heard_from spent block_in normal
  ref_install c = record {
    after = record { came = g.came; made = g.made; moves = record { left = normal e.current; entered = normal e.membership } ∷ g.moves };
    action = Actions.install _ _ newer pending (start_normal e.membership e.me me_low ∙ named_start) (member_of e.current.set e.me me_low (in_current e p))
        (member_of e.membership.set e.me me_low (in_membership e p)) all_named all_given words_fewer zeros;
    counts = λ q k. counts q (contra (spent e (heard_from e q)) (gone (heard_from e q))
        (λ s. spent_install e.me e.current e.membership e.change.number (heard_from e q) me_low newer named_start (rw pending at s)) k);
    listed = λ u u' t. moved_in u u' (same u e.current) refl (same u' e.membership) refl t;
  }
    where
      gone : View → Bool
      gone = spent_by e.me e.membership e.change.number false

      is_ready : (is_pending e && (ltb e.current.id e.membership.id && eqb (start_of e.membership e.me) e.change.number)) ≡ true
      is_ready = ready_is e (is_not (ready e) c.1.0)

      rest : (ltb e.current.id e.membership.id && eqb (start_of e.membership e.me) e.change.number) ≡ true
      rest = and_right (is_pending e) (ltb e.current.id e.membership.id && eqb (start_of e.membership e.me) e.change.number) is_ready

      pending : is_pending e ≡ true
      pending = and_left (is_pending e) (ltb e.current.id e.membership.id && eqb (start_of e.membership e.me) e.change.number) is_ready

      newer : e.current.id < e.membership.id
      newer = ltb-true e.current.id e.membership.id (and_left (ltb e.current.id e.membership.id) (eqb (start_of e.membership e.me) e.change.number) rest)

      named_start : start_of e.membership e.me ≡ e.change.number
      named_start = eqb-true (start_of e.membership e.me) e.change.number (and_right (ltb e.current.id e.membership.id) (eqb (start_of e.membership e.me) e.change.number) rest)

      all_named : (m : ℕ) → member e.current.set m ≡ true → member e.membership.set m ≡ true → (x : Automaton.Record views) × (record_in e.records m (start_in (normal e.membership) m) ≡ some x)
      all_named m a b =
          let low = member_low e.current.set m a in (
            seen (the_record e.records m (start_of e.membership m)),
            ap (record_in e.records m) (start_normal e.membership m low)
                ∙ record_held e.records m (start_of e.membership m) (named_is e c.1.1.0 m low (member_has e.current.set m a) (member_has e.membership.set m b)),
          )

      all_given : (q : ℕ) → member e.current.set q ≡ true → get_or e.given q 0 ≡ Rule.agreed views 8 (record_in e.records) (normal e.current) (normal e.membership) q
      all_given q a = given_agreed e c.1.1.1.1.0 c.1.1.1.1.1.0 q (member_low e.current.set q a) (member_has e.current.set q a) ∙ agreed_is e.current e.membership e.records q

      respects : Respects gone
      respects v w t = spent_same e.me e.membership e.change.number false v w me_low t

      freed' : Slots
      freed' = freed gone e.slots

      room : has_free freed' ≡ true
      room = free_after gone e.slots shape.slots_shaped respects e.current (current_has e p)
          (spent_of e.me e.membership e.change.number false e.current (older e newer) (inl (omega (arith, newer))))

      words_fewer : Actions.Fewer views (word_in e.slots area) (word_in (with_slot e.membership freed') area)
      words_fewer x r i w h = freed_fewer e.slots shape.slots_shaped area gone respects x r i w (go (has_slot freed' e.membership) refl)
        where
          go : (b : Bool) → has_slot freed' e.membership ≡ b → word_in freed' area x r i ≡ some w
          go true k = rw (with_kept e.membership freed' k) at h
          go false k = sym (taken_same freed' (freed_shaped gone e.slots shape.slots_shaped) area e.membership room k x r i) ∙ (rw (with_new e.membership freed' k) at h)

      zeros : (q : ℕ) → get_or {A = ℕ} (replicate 8 0) q 0 ≡ 0
      zeros q = zero_at 8 q

      moved_in : (u u' : View) (a : Bool) → same u e.current ≡ a → (b : Bool) → same u' e.membership ≡ b
          → ((same u e.current && same u' e.membership) || l.moved u u') ≡ true
          → Memᴰ (record { left = normal u; entered = normal u' }) (record { left = normal e.current; entered = normal e.membership } ∷ g.moves)
      moved_in u u' true a true b t = Memᴰ.head (λ i. record { left = same_normal u e.current a i; entered = same_normal u' e.membership b i })
      moved_in u u' true a false b t = Memᴰ.tail (listed u u' (rw (a, b) at t))
      moved_in u u' false a b b' t = Memᴰ.tail (listed u u' (rw a at t))
