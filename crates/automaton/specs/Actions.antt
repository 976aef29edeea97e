-- The actions of one end-point p among n: figures 9, 10 and 11 of the source (Keidar and Khazan), the view step of figure 9 by its sections 3.1, 4.1.1 and 5.2. A constructor an action.
-- A table that an action changes is an argument, with what is known of it place by place; so whoever shows an action may hold its tables in any form.
-- A precondition that no promise rests on is left out, which only adds runs: the limits of deliver (last_sent, the cuts), ForwardStrategyPredicate,
-- who a sync and a forward go to, and a sync's cuts for others. What is asked besides is the scope's: no send while blocked, nothing from oneself, own words and the own latest record not lost.
-- Words held may be freed, where the source frees none. Assumes nothing.
use Rattle.std.specs.Prelude.{◌≡◌, [], ◌∷◌, ◌++◌, Bool, true, false, ◌⊎◌, ℕ, suc, ◌<◌}
use Rattle.std.proofs.Math.Option.{Option, none, some}
use Rattle.automaton.specs.Domain.{Domain}
use Rattle.automaton.specs.State.{Record, Records, Words, Log, OutLog, State, blocked, unblocked, requested, with_words, with_accepted, with_start, with_membership, with_block, with_declared, with_passed, with_heard, with_records, with_given, with_entered}
use Rattle.automaton.specs.Agreed.{agreed}

-- the messages between end-points: view_msg v, app_msg w, sync_msg k x, fwd_msg r v i w
pub data Message (D : Domain) : Type 0 where
  view_msg : D.View → Message D
  app_msg : D.Word → Message D
  sync_msg : ℕ → Record D → Message D
  fwd_msg : ℕ → D.View → ℕ → D.Word → Message D

-- what an action does with the channels: nothing, takes a message of q, sends one to each of a set
pub data Label (D : Domain) : Type 0 where
  quiet : Label D
  receives : ℕ → Message D → Label D
  sends : (ℕ → Bool) → Message D → Label D

-- the words held after are those before and w, of r in v at position k
pub record Put (D : Domain) (words words' : Words D) (v : D.View) (r k : ℕ) (w : D.Word) : Type 0 where
  pub there : words' v r k ≡ some w
  pub else : (u : D.View) (q i : ℕ) → (u ≡ v → q ≡ r → i ≡ k → ⊥) → words' u q i ≡ words u q i

-- the words held are as before
abbrev pub Same : (D : Domain) → Words D → Words D → Type 0
Same D words words' = (v : D.View) (r i : ℕ) → words' v r i ≡ words v r i

-- some words held may be gone, and none is new
abbrev pub Fewer : (D : Domain) → Words D → Words D → Type 0
Fewer D words words' = (v : D.View) (r i : ℕ) (w : D.Word) → words' v r i ≡ some w → words v r i ≡ some w

-- LongestPrefixOf(msgs[r][v]) is k
pub record Run (D : Domain) (words : Words D) (v : D.View) (r k : ℕ) : Type 0 where
  pub below : (i : ℕ) → i < k → words v r i ≡ none → ⊥
  pub stop : words v r k ≡ none

-- the records held after are among those before and x, of m under number k
abbrev pub Stored : (D : Domain) → Records D → Records D → ℕ → ℕ → Record D → Type 0
Stored D records records' m k x = (q j : ℕ) (y : Record D) → records' q j ≡ some y → (records q j ≡ some y) ⊎ ((q ≡ m) × (j ≡ k) × (y ≡ x))

-- each member of v is in the set d; each but p is
abbrev pub Covers : (D : Domain) → D.View → (ℕ → Bool) → Type 0
Covers D v d = (q : ℕ) → D.has v q ≡ true → d q ≡ true

abbrev pub CoversOthers : (D : Domain) → ℕ → D.View → (ℕ → Bool) → Type 0
CoversOthers D p v d = (q : ℕ) → D.has v q ≡ true → (q ≡ p → ⊥) → d q ≡ true

pub data Action (D : Domain) (n p : ℕ) (s : State D) : State D → Label D → Type 0 where
  -- send_p(m): "append m to msgs[p][current_view]"; a blocked application sends nothing
  send : (w : D.Word) (k : ℕ) (accepted' : Log D) (words' : Words D)
      → (s.block ≡ blocked → ⊥)
      → Run D s.words s.current p k
      → Put D s.words words' s.current p k w
      → accepted' s.current ≡ s.accepted s.current ++ (w ∷ [])
      → ((v : D.View) → (v ≡ s.current → ⊥) → accepted' v ≡ s.accepted v)
      → Action D n p s (with_accepted accepted' (with_words words' s)) quiet
  -- block_p(): "start_change ≠ ⊥, block_status = unblocked"
  ask_to_block : s.pending ≡ true → s.block ≡ unblocked → Action D n p s (with_block requested s) quiet
  -- block_ok_p(): "block_status ← blocked"
  block_ok : Action D n p s (with_block blocked s) quiet
  -- mbrshp.start_change_p(id, set): "cid > start_change[p].id"; own words of the current view are not freed
  start_change : (k : ℕ) (words' : Words D)
      → s.latest < k
      → Fewer D s.words words'
      → ((i : ℕ) → words' s.current p i ≡ s.words s.current p i)
      → Action D n p s (with_start k (with_words words' s)) quiet
  -- mbrshp.view_p(v): what section 3.1 asks of v is asked at install
  membership_view : (v : D.View) → Action D n p s (with_membership v s) quiet
  -- co_rfifo.reliable_p(set): "current_view.set ⊆ set"
  declare : (d : ℕ → Bool) → Covers D s.current d → Action D n p s (with_declared d s) quiet
  -- co_rfifo.deliver_q,p(view_msg, v): "view_msg[q] ← v, last_rcvd[q] ← 0"
  receive_view : (q : ℕ) (v : D.View) (heard' : ℕ → D.View) (received' : ℕ → ℕ) (words' : Words D)
      → (q ≡ p → ⊥)
      → Same D s.words words'
      → heard' q ≡ v
      → received' q ≡ 0
      → ((r : ℕ) → (r ≡ q → ⊥) → heard' r ≡ s.heard r)
      → ((r : ℕ) → (r ≡ q → ⊥) → received' r ≡ s.received r)
      → Action D n p s (with_heard heard' received' (with_words words' s)) (receives q (view_msg v))
  -- co_rfifo.deliver_q,p(app_msg, m): "msgs[q][view_msg[q]][last_rcvd[q]+1] ← m", or nothing where the view is past
  receive_word : (q : ℕ) (w : D.Word) (received' : ℕ → ℕ) (words' : Words D)
      → (q ≡ p → ⊥)
      → received' q ≡ suc (s.received q)
      → ((r : ℕ) → (r ≡ q → ⊥) → received' r ≡ s.received r)
      → Same D s.words words' ⊎ Put D s.words words' (s.heard q) q (s.received q) w
      → Action D n p s (with_heard s.heard received' (with_words words' s)) (receives q (app_msg w))
  -- co_rfifo.deliver_q,p(sync_msg, cid, v, cut): "sync_msg[q][cid] ← ⟨v, cut⟩"; no own record goes
  receive_sync : (q k : ℕ) (x : Record D) (records' : Records D)
      → (q ≡ p → ⊥)
      → Stored D s.records records' q k x
      → ((j : ℕ) → records' p j ≡ s.records p j)
      → Action D n p s (with_records records' s.made s) (receives q (sync_msg k x))
  -- co_rfifo.deliver_q,p(fwd_msg, r, v, m, i): "msgs[r][v][i] ← m", or nothing; own words are not forwarded back
  receive_forward : (q r : ℕ) (v : D.View) (i : ℕ) (w : D.Word) (words' : Words D)
      → (q ≡ p → ⊥)
      → (r ≡ p → ⊥)
      → Same D s.words words' ⊎ Put D s.words words' v r i w
      → Action D n p s (with_words words' s) (receives q (fwd_msg r v i w))
  -- co_rfifo.send_p(set, view_msg, v): "view_msg[p] ≠ current_view, current_view.set ⊆ reliable_set, set = current_view.set - {p}"
  announce : (d : ℕ → Bool)
      → s.announced ≡ false
      → Covers D s.current s.declared
      → CoversOthers D p s.current d
      → Action D n p s (with_passed s.passed s) (sends d (view_msg s.current))
  -- co_rfifo.send_p(set, app_msg, m): "view_msg[p] = current_view, set = current_view.set - {p}, m = msgs[p][current_view][last_sent + 1]"
  pass_out : (d : ℕ → Bool) (w : D.Word)
      → s.announced ≡ true
      → s.words s.current p s.passed ≡ some w
      → ((q : ℕ) → d q ≡ true → D.has s.current q ≡ true)
      → CoversOthers D p s.current d
      → Action D n p s (with_passed (suc s.passed) s) (sends d (app_msg w))
  -- co_rfifo.send_p(set, sync_msg, cid, v, cut): "start_change ≠ ⊥, block_status = blocked, sync_msg[p][cid] = ⊥, v = current_view", and the cut for p is LongestPrefixOf(msgs[p][v])
  sync : (d : ℕ → Bool) (x : Record D) (records' : Records D) (made' : ℕ → Option (Record D))
      → s.pending ≡ true
      → s.block ≡ blocked
      → s.records p s.latest ≡ none
      → x.view ≡ s.current
      → Run D s.words s.current p (x.cut p)
      → made' s.latest ≡ some x
      → ((j : ℕ) → (j ≡ s.latest → ⊥) → made' j ≡ s.made j)
      → records' p s.latest ≡ some x
      → Stored D s.records records' p s.latest x
      → Action D n p s (with_records records' made' s) (sends d (sync_msg s.latest x))
  -- co_rfifo.send_p(set, fwd_msg, r, v, m, i): "m = msgs[r][v][i]"
  forward : (d : ℕ → Bool) (r : ℕ) (v : D.View) (i : ℕ) (w : D.Word)
      → s.words v r i ≡ some w
      → Action D n p s s (sends d (fwd_msg r v i w))
  -- deliver_p(q, m): "m = msgs[q][current_view][last_dlvrd[q]+1]", of a member
  give_out : (q : ℕ) (w : D.Word) (gave_out' : OutLog D) (given' : ℕ → ℕ)
      → D.has s.current q ≡ true
      → s.words s.current q (s.given q) ≡ some w
      → given' q ≡ suc (s.given q)
      → ((r : ℕ) → (r ≡ q → ⊥) → given' r ≡ s.given r)
      → gave_out' s.current q ≡ s.gave_out s.current q ++ (w ∷ [])
      → ((v : D.View) (r : ℕ) → (v ≡ s.current → r ≡ q → ⊥) → gave_out' v r ≡ s.gave_out v r)
      → Action D n p s (with_given gave_out' given' s) quiet
  -- view_p(v, T): v is newer and p in both views, "v.startId(p) = start_change.id", each named record of a member of both views is held,
  -- and "last_dlvrd[q] = max over r ∈ T of sync_msg[r][v.startId(r)].cut(q)" for each q of the current view
  install : (words' : Words D) (given' : ℕ → ℕ)
      → D.id s.current < D.id s.membership
      → s.pending ≡ true
      → D.start s.membership p ≡ s.latest
      → D.has s.current p ≡ true
      → D.has s.membership p ≡ true
      → ((m : ℕ) → D.has s.current m ≡ true → D.has s.membership m ≡ true → (x : Record D) × (s.records m (D.start s.membership m) ≡ some x))
      → ((q : ℕ) → D.has s.current q ≡ true → s.given q ≡ agreed D n s.records s.current s.membership q)
      → Fewer D s.words words'
      → ((q : ℕ) → given' q ≡ 0)
      → Action D n p s (with_entered given' (with_words words' s)) quiet
