-- Every action of an end-point keeps its invariant, if what it receives is right. Assumes nothing.
use mathlib.Core.Path.{◌≡◌, refl, ap, sym, ◌∙◌, subst}
use mathlib.Core.List.Memᴰ
use mathlib.Core.List.{[], ◌∷◌, ◌++◌, Memᴰ}
use mathlib.Core.Bool.{true, false, true≢false, false≢true}
use mathlib.Core.Logic.{◌⊎◌, inl, inr}
use mathlib.Core.Option.{Option, some, some-injective}
use Prim.Native.Nat.{ℕ, suc, ◌≤◌, ◌<◌}
use native.Mathlib.Omega.{arith}
use native.Mathlib.Decide.{ℕ_discrete}
use lib.ListN.{length, length-append}
use Rattle.automaton.specs.Domain.{Domain}
use Rattle.automaton.specs.State.{Record, Records, Move, Words, Log, OutLog, State, blocked, unblocked, with_words, with_accepted, with_start, with_records, with_given, with_entered}
use Rattle.automaton.specs.Agreed.{agreed}
use Rattle.automaton.specs.Actions.{Label, Put, Same, Fewer, Run, Stored, Action, send, ask_to_block, block_ok, start_change, membership_view, declare, receive_view, receive_word, receive_sync, receive_forward, announce, pass_out, sync, forward, give_out, install}
use Rattle.automaton.proofs.Positions.{at, Prefix, at_past, at_end, at_other, at_cases, prefix_length}
use Rattle.automaton.proofs.Views.{same_or_not, newer_other}
use Rattle.automaton.proofs.Agreed.{agreed_same, agreed_each}
use Rattle.automaton.proofs.Held.{put_cases, fewer_none, run_length}
use Rattle.automaton.proofs.Invariant.{Accepted, Holding, Committed, Settled, Invariant}
use Rattle.automaton.proofs.Streams.{RightIn}

-- ---- the words held, where nothing is accepted

module _ {D : Domain} {p : ℕ} {A : Accepted D} {current : D.View} {words : Words D} {accepted : Log D} (h : Holding D p A current words accepted) (words' : Words D) where
  holding_fewer : Fewer D words words' → ((i : ℕ) → words' current p i ≡ words current p i) → Holding D p A current words' accepted
  holding_fewer fewer same = record {
    held = λ v r i w e. h.held v r i w (fewer v r i w e);
    own = λ i. same i ∙ h.own i;
    own_ahead = λ v i l. fewer_none D words words' fewer v p i (h.own_ahead v i l);
    accepted_ahead = h.accepted_ahead;
  }

  holding_same : Same D words words' → Holding D p A current words' accepted
  holding_same e = holding_fewer (λ v r i w k. sym (e v r i) ∙ k) (λ i. e current p i)

  -- a word of another sender is put
  holding_put : (v : D.View) (q k : ℕ) (w : D.Word) → (q ≡ p → ⊥) → Put D words words' v q k w → at (A q v) k ≡ some w → Holding D p A current words' accepted
  holding_put v q k w other put right = record {
    held = λ u r i x e. held_case u r i x (put_cases put u r i x e);
    own = λ i. put.else current p i (λ a b c. other (sym b)) ∙ h.own i;
    own_ahead = λ u i l. put.else u p i (λ a b c. other (sym b)) ∙ h.own_ahead u i l;
    accepted_ahead = h.accepted_ahead;
  }
    where
      held_case : (u : D.View) (r i : ℕ) (x : D.Word) → (words u r i ≡ some x) ⊎ ((u ≡ v) × (r ≡ q) × (i ≡ k) × (x ≡ w)) → at (A r u) i ≡ some x
      held_case u r i x (inl e) = h.held u r i x e
      held_case u r i x (inr e) = let a = e.0 in let b = e.1 in let c = e.2 in let d = e.3 in cc

  holding_either : (v : D.View) (q k : ℕ) (w : D.Word) → (q ≡ p → ⊥) → Same D words words' ⊎ Put D words words' v q k w → at (A q v) k ≡ some w → Holding D p A current words' accepted
  holding_either v q k w other (inl e) right = holding_same e
  holding_either v q k w other (inr put) right = holding_put v q k w other put right

-- a record is stored
stored_held : {D : Domain} {M records records' : Records D} {m k : ℕ} {x : Record D} → ((q j : ℕ) (y : Record D) → records q j ≡ some y → M q j ≡ some y)
    → Stored D records records' m k x → M m k ≡ some x → (q j : ℕ) (y : Record D) → records' q j ≡ some y → M q j ≡ some y
stored_held {D} {M} {records} {records'} {m} {k} {x} held stored right q j y e = go (stored q j y e)
  where
    go : (records q j ≡ some y) ⊎ ((q ≡ m) × (j ≡ k) × (y ≡ x)) → M q j ≡ some y
    go (inl f) = held q j y f
    go (inr f) = let a = f.0 in let b = f.1 in let c = f.2 in cc

-- ---- the actions that do most

module _ {D : Domain} {n p : ℕ} {A : Accepted D} {M : Records D} {s : State D} (h : Invariant D n p A M s) where
  after_send_lem : (w : D.Word) (k : ℕ) (accepted' : Log D) (words' : Words D)
      → (s.block ≡ blocked → ⊥) → Run D s.words s.current p k → Put D s.words words' s.current p k w
      → accepted' s.current ≡ s.accepted s.current ++ (w ∷ []) → ((v : D.View) → (v ≡ s.current → ⊥) → accepted' v ≡ s.accepted v)
      → A p ≡ accepted' → Invariant D n p A M (with_accepted accepted' (with_words words' s))
  after_send_lem w k accepted' words' free run put more else eA = record {
    holding = record {
      held = λ u r i x e. held_case u r i x (put_cases put u r i x e);
      own = λ i. own_case i (ℕ_discrete i k);
      own_ahead = λ v i l. put.else v p i (λ a b c. newer_other D s.current v l a) ∙ h.holding.own_ahead v i l;
      accepted_ahead = λ v l. else v (newer_other D s.current v l) ∙ h.holding.accepted_ahead v l;
    };
    giving = h.giving;
    recording = record { held = h.recording.held; low = h.recording.low; own = h.recording.own; now = λ x e m. absurd (free (h.recording.now x e m).silent) };
    sending = h.sending;
    moving = λ v v' m. let o = h.moving v v' m in
        record { older = o.older; was = o.was; is = o.is; own = o.own; named = o.named; given = o.given; all = ap length (else v (λ e. newer_other D v s.current o.older (sym e))) ∙ o.all };
  }
    where
      length_is : k ≡ length (s.accepted s.current)
      length_is = run_length D s.words s.current p k (s.accepted s.current) h.holding.own run

      last : at (accepted' s.current) k ≡ some w
      last = rw (more, length_is, at_end (s.accepted s.current) w)

      held_case : (u : D.View) (r i : ℕ) (x : D.Word) → (s.words u r i ≡ some x) ⊎ ((u ≡ s.current) × (r ≡ p) × (i ≡ k) × (x ≡ w)) → at (A r u) i ≡ some x
      held_case u r i x (inl e) = h.holding.held u r i x e
      held_case u r i x (inr e) = let a = e.0 in let b = e.1 in let c = e.2 in let d = e.3 in cc last

      own_case : (i : ℕ) → Dec (i ≡ k) → words' s.current p i ≡ at (accepted' s.current) i
      own_case i (yes e) = rw (e, last) put.there
      own_case i (no f) = put.else s.current p i (λ a b c. f c) ∙ h.holding.own i ∙ sym (rw more (at_other (s.accepted s.current) w i (λ e. f (e ∙ sym length_is))))

  -- no record has the new number yet
  after_start_lem : (k : ℕ) (words' : Words D) → s.latest < k → Fewer D s.words words' → ((i : ℕ) → words' s.current p i ≡ s.words s.current p i)
      → Invariant D n p A M (with_start k (with_words words' s))
  after_start_lem k words' l fewer same = record {
    holding = holding_fewer h.holding words' fewer same;
    giving = h.giving;
    recording = record {
      held = h.recording.held;
      low = λ j x e. let o = h.recording.low j x e in omega arith;
      own = λ x e. let o = h.recording.low k x e in absurd (omega arith);
      now = λ x pe e. let o = h.recording.low k x e in absurd (omega arith);
    };
    sending = h.sending;
    moving = h.moving;
  }

  after_sync_lem : (x : Record D) (records' : Records D) (made' : ℕ → Option (Record D))
      → s.pending ≡ true → s.block ≡ blocked → x.view ≡ s.current → Run D s.words s.current p (x.cut p)
      → made' s.latest ≡ some x → ((j : ℕ) → (j ≡ s.latest → ⊥) → made' j ≡ s.made j) → records' p s.latest ≡ some x
      → Stored D s.records records' p s.latest x → M p ≡ made' → Invariant D n p A M (with_records records' made' s)
  after_sync_lem x records' made' pending block view run make else hold stored eM = record {
    holding = h.holding;
    giving = h.giving;
    recording = record {
      held = stored_held h.recording.held stored (ap (λ (f : ℕ → Option (Record D)). f s.latest) eM ∙ make);
      low = λ j y e. low_case j y e (ℕ_discrete j s.latest);
      own = λ y e. hold ∙ sym make ∙ e;
      now = λ y q e. subst (λ (z : Record D). Committed D p s.current s.block s.accepted z) (some-injective x y (sym make ∙ e))
          (record { view = view; all = run_length D s.words s.current p (x.cut p) (s.accepted s.current) h.holding.own run; silent = block });
    };
    sending = h.sending;
    moving = h.moving;
  }
    where
      low_case : (j : ℕ) (y : Record D) → made' j ≡ some y → Dec (j ≡ s.latest) → j ≤ s.latest
      low_case j y e (yes q) = omega arith
      low_case j y e (no f) = h.recording.low j y (sym (else j f) ∙ e)

  after_give : (q : ℕ) (w : D.Word) (gave_out' : OutLog D) (given' : ℕ → ℕ)
      → D.has s.current q ≡ true → s.words s.current q (s.given q) ≡ some w
      → given' q ≡ suc (s.given q) → ((r : ℕ) → (r ≡ q → ⊥) → given' r ≡ s.given r)
      → gave_out' s.current q ≡ s.gave_out s.current q ++ (w ∷ []) → ((v : D.View) (r : ℕ) → (v ≡ s.current → r ≡ q → ⊥) → gave_out' v r ≡ s.gave_out v r)
      → Invariant D n p A M (with_given gave_out' given' s)
  after_give q w gave_out' given' member word one_more given-else more else = record {
    holding = h.holding;
    giving = record {
      first = λ v r. first_case v r (same_or_not D v s.current) (ℕ_discrete r q);
      members = λ v r f. else v r (λ a b. true≢false (sym member ∙ subst (λ (z : D.View). D.has z q ≡ false) a (subst (λ (z : ℕ). D.has v z ≡ false) b f))) ∙ h.giving.members v r f;
      count = λ r. count_case r (ℕ_discrete r q);
      out_ahead = λ v r l. else v r (λ a b. newer_other D s.current v l a) ∙ h.giving.out_ahead v r l;
    };
    recording = h.recording;
    sending = h.sending;
    moving = λ v v' m. let o = h.moving v v' m in
        record { older = o.older; was = o.was; is = o.is; own = o.own; named = o.named; given = λ r a. ap length (else v r (λ e b. newer_other D v s.current o.older (sym e))) ∙ o.given r a; all = o.all };
  }
    where
      new_case : (i : ℕ) (x : D.Word) → (at (s.gave_out s.current q) i ≡ some x) ⊎ ((i ≡ length (s.gave_out s.current q)) × (x ≡ w)) → at (A q s.current) i ≡ some x
      new_case i x (inl e) = h.giving.first s.current q i x e
      new_case i x (inr e) = let a = e.0 in let b = e.1 in let c = h.holding.held s.current q (s.given q) w word in let d = h.giving.count q in cc

      count_case : (r : ℕ) → Dec (r ≡ q) → given' r ≡ length (gave_out' s.current r)
      count_case r (yes e) = rw (e, more, one_more, h.giving.count q, length-append (s.gave_out s.current q) (w ∷ [])) (omega arith)
      count_case r (no f) = rw (else s.current r (λ a b. f b), given-else r f) (h.giving.count r)

      first_case : (v : D.View) (r : ℕ) → Dec (v ≡ s.current) → Dec (r ≡ q) → Prefix (gave_out' v r) (A r v)
      first_case v r (no f) b = rw (else v r (λ a b. f a)) (h.giving.first v r)
      first_case v r (yes a) (no f) = rw (else v r (λ a b. f b)) (h.giving.first v r)
      first_case v r (yes a) (yes b) = rw (a, b, more) (λ i x e. new_case i x (at_cases (s.gave_out s.current q) w i x e))

  -- p's own named record is the one made for this change, so p is in T and all it accepted is within its cut, hence within the agreed count, which is what it gave out
  after_install_lem : (words' : Words D) (given' : ℕ → ℕ) → p < n → D.id s.current < D.id s.membership → s.pending ≡ true → D.start s.membership p ≡ s.latest
      → D.has s.current p ≡ true → D.has s.membership p ≡ true
      → ((m : ℕ) → D.has s.current m ≡ true → D.has s.membership m ≡ true → (x : Record D) × (s.records m (D.start s.membership m) ≡ some x))
      → ((q : ℕ) → D.has s.current q ≡ true → s.given q ≡ agreed D n s.records s.current s.membership q)
      → Fewer D s.words words' → ((q : ℕ) → given' q ≡ 0) → A p ≡ s.accepted → M p ≡ s.made → Invariant D n p A M (with_entered given' (with_words words' s))
  after_install_lem words' given' lt up pending start was is held given fewer none-given eA eM = record {
    holding = record {
      held = λ v r i w e. h.holding.held v r i w (fewer v r i w e);
      own = λ i. fewer_none D s.words words' fewer next p i (h.holding.own_ahead next i up) ∙ sym (rw (h.holding.accepted_ahead next up) (at_past [] i (omega arith)));
      own_ahead = λ v i l. fewer_none D s.words words' fewer v p i (h.holding.own_ahead v i (omega arith));
      accepted_ahead = λ v l. h.holding.accepted_ahead v (omega arith);
    };
    giving = record {
      first = h.giving.first;
      members = h.giving.members;
      count = λ r. none-given r ∙ sym (ap length (h.giving.out_ahead next r up));
      out_ahead = λ v r l. h.giving.out_ahead v r (omega arith);
    };
    recording = record { held = h.recording.held; low = h.recording.low; own = h.recording.own; now = λ x e. absurd (false≢true e) };
    sending = record { unsent = λ e. refl; safe = λ e. absurd (false≢true e) };
    moving = λ v v' m. move_case v v' (Memᴰ.cases_cons m);
  }
    where
      next : D.View
      next = s.membership

      same : (r : ℕ) → agreed D n s.records s.current next r ≡ agreed D n M s.current next r
      same r = agreed_same D n s.current next s.records M r (λ m a b. let x = held m a b in x.1 ∙ sym (h.recording.held m (D.start next m) x.0 x.1))

      own : (x : Record D) × (s.records p (D.start next p) ≡ some x)
      own = held p was is

      made : s.made s.latest ≡ some own.0
      made = sym (ap (λ (f : ℕ → Option (Record D)). f s.latest) eM) ∙ h.recording.held p s.latest own.0 (subst (λ (j : ℕ). s.records p j ≡ some own.0) start own.1)

      now : Committed D p s.current s.block s.accepted own.0
      now = h.recording.now own.0 pending made

      low : own.0.cut p ≤ agreed D n s.records s.current next p
      low = agreed_each D n s.current next p s.records p own.0 lt was is own.1 now.view

      high : length (s.gave_out s.current p) ≤ length (s.accepted s.current)
      high = prefix_length _ _ (subst (λ (f : Log D). Prefix (s.gave_out s.current p) (f s.current)) eA (h.giving.first s.current p))

      all : length (s.accepted s.current) ≡ agreed D n M s.current next p
      all = let a = now.all in let b = given p was in let c = h.giving.count p in let d = same p in let e = low in let f = high in omega arith

      new : Settled D n p M next s.gave_out s.accepted s.current next
      new = record {
        older = up;
        was = was;
        is = is;
        own = (own.0, h.recording.held p (D.start next p) own.0 own.1, now.view);
        named = λ m a b. let x = held m a b in (x.0, h.recording.held m (D.start next m) x.0 x.1);
        given = λ r a. sym (h.giving.count r) ∙ given r a ∙ same r;
        all = all;
      }

      move_case : (v v' : D.View) → (◌≡◌ {A = Move D} (record { left = v; entered = v' }) (record { left = s.current; entered = next })) ⊎ Memᴰ (record { left = v; entered = v' }) s.moves
          → Settled D n p M next s.gave_out s.accepted v v'
      move_case v v' (inl e) = rw (ap (λ (x : Move D). x.left) e, ap (λ (x : Move D). x.entered) e) new
      move_case v v' (inr m) = let o = h.moving v v' m in let k = o.older in
          record { older = omega arith; was = o.was; is = o.is; own = o.own; named = o.named; given = o.given; all = o.all }

-- ---- every action

unblocked_not : unblocked ≡ blocked → ⊥
unblocked_not e = let z : ◌≡◌ {A = ℕ} 0 1 = cc in omega arith

pub kept : {D : Domain} {n p : ℕ} {A : Accepted D} {M : Records D} {s s' : State D} {l : Label D} → p < n → Action D n p s s' l → Invariant D n p A M s
    → A p ≡ s'.accepted → M p ≡ s'.made → RightIn A M s l → Invariant D n p A M s'
kept lt (send w k accepted' words' free run put more else) h eA eM right = after_send_lem h w k accepted' words' free run put more else eA
kept lt (ask_to_block pending free) h eA eM right = record {
  holding = h.holding;
  giving = h.giving;
  sending = h.sending;
  moving = h.moving;
  recording = record { held = h.recording.held; low = h.recording.low; own = h.recording.own; now = λ x e m. absurd (unblocked_not (sym free ∙ (h.recording.now x e m).silent)) };
}
kept lt block_ok h eA eM right = record {
  holding = h.holding;
  giving = h.giving;
  sending = h.sending;
  moving = h.moving;
  recording = record { held = h.recording.held; low = h.recording.low; own = h.recording.own; now = λ x e m. let o = h.recording.now x e m in record { view = o.view; all = o.all; silent = refl } };
}
kept lt (start_change k words' l fewer same) h eA eM right = after_start_lem h k words' l fewer same
kept lt (membership_view v) h eA eM right = record { holding = h.holding; giving = h.giving; recording = h.recording; sending = h.sending; moving = h.moving }
kept lt (declare d covers) h eA eM right = record {
  holding = h.holding;
  giving = h.giving;
  recording = h.recording;
  moving = h.moving;
  sending = record { unsent = h.sending.unsent; safe = λ e. covers };
}
kept lt (receive_view q v heard' received' words' other same a b c d) h eA eM right = record {
  holding = holding_same h.holding words' same;
  giving = h.giving;
  recording = h.recording;
  sending = h.sending;
  moving = h.moving;
}
kept {s = s} lt (receive_word q w received' words' other a b store) h eA eM right = record {
  holding = holding_either h.holding words' (s.heard q) q (s.received q) w other store right;
  giving = h.giving;
  recording = h.recording;
  sending = h.sending;
  moving = h.moving;
}
kept {s = s} lt (receive_sync q k x records' other stored same) h eA eM right = record {
  holding = h.holding;
  giving = h.giving;
  sending = h.sending;
  moving = h.moving;
  recording = record { held = stored_held h.recording.held stored right; low = h.recording.low; own = λ y e. same s.latest ∙ h.recording.own y e; now = h.recording.now };
}
kept lt (receive_forward q r v i w words' other not_own store) h eA eM right = record {
  holding = holding_either h.holding words' v r i w not_own store right;
  giving = h.giving;
  recording = h.recording;
  sending = h.sending;
  moving = h.moving;
}
kept lt (announce d unsaid covers to) h eA eM right = record {
  holding = h.holding;
  giving = h.giving;
  recording = h.recording;
  moving = h.moving;
  sending = record { unsent = λ e. absurd (true≢false e); safe = λ e. covers };
}
kept lt (pass_out d w said word within to) h eA eM right = record {
  holding = h.holding;
  giving = h.giving;
  recording = h.recording;
  moving = h.moving;
  sending = record { unsent = λ e. absurd (true≢false e); safe = λ e. h.sending.safe said };
}
kept lt (sync d x records' made' pending block none-held view run make else hold stored) h eA eM right = after_sync_lem h x records' made' pending block view run make else hold stored eM
kept lt (forward d r v i w word) h eA eM right = h
kept lt (give_out q w gave_out' given' member word one_more given-else more else) h eA eM right = after_give h q w gave_out' given' member word one_more given-else more else
kept lt (install words' given' up pending start was is held given fewer none-given) h eA eM right = after_install_lem h words' given' lt up pending start was is held given fewer none-given eA eM
