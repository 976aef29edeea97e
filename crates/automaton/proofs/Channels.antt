-- What holds of the channel from a to b: read from where b stands, it is right, and it ends where a stands if a has announced its view and b is in it.
-- And that an action keeps it, on the sender's side and on the receiver's. Assumes nothing.
use mathlib.Core.Path.{◌≡◌, refl, ap, sym, ◌∙◌, subst}
use mathlib.Core.List.{List, [], ◌∷◌, ◌++◌}
use mathlib.Core.Bool.{Bool, true, false, true≢false, false≢true}
use mathlib.Core.Option.{Option}
use Prim.Native.Nat.{ℕ}
use native.Mathlib.Decide.{ℕ_discrete}
use Rattle.automaton.specs.Domain.{Domain}
use Rattle.automaton.specs.State.{Record, Records, State}
use Rattle.automaton.specs.Actions.{Message, app_msg, Label, quiet, receives, sends, Action, send, ask_to_block, block_ok, start_change, membership_view, declare, receive_view, receive_word, receive_sync, receive_forward, announce, pass_out, sync, forward, give_out, install}
use Rattle.automaton.specs.Group.{Channels, ChannelsAfter}
use Rattle.automaton.proofs.Invariant.{Accepted, Invariant}
use Rattle.automaton.proofs.Streams.{Place, turn, ends, Right, AllRight, place, RightIn, ends_more, all_more}

-- where a sender stands in its own stream
abbrev pub sent : {D : Domain} → State D → Place D
sent s = record { view = s.current; count = s.passed }

abbrev pub EndsAt : {D : Domain} → State D → ℕ → Place D → Type 0
EndsAt {D} s b o = s.announced ≡ true → D.has s.current b ≡ true → o ≡ sent s

pub record Channel (D : Domain) (A : Accepted D) (M : Records D) (a b : ℕ) (sender receiver : State D) (c : List (Message D)) : Type 0 where
  pub right : AllRight A M a (place receiver a) c
  pub end : EndsAt sender b (ends (place receiver a) c)

-- ---- the sender's place

abbrev pub NotTo : {D : Domain} → Label D → ℕ → Type 0
NotTo quiet b = Unit {0}
NotTo (receives q m) b = Unit {0}
NotTo (sends d m) b = d b ≡ false

-- an action that sends b nothing leaves the end of its stream where it was
end_stays : {D : Domain} {n p : ℕ} {s s' : State D} {l : Label D} → Action D n p s s' l → (b : ℕ) → (b ≡ p → ⊥) → NotTo l b → (o : Place D) → EndsAt s b o → EndsAt s' b o
end_stays (send w k accepted' words' free run put more else) b ne not-to o e = e
end_stays (ask_to_block pending free) b ne not-to o e = e
end_stays block_ok b ne not-to o e = e
end_stays (start_change k words' l fewer same) b ne not-to o e = e
end_stays (membership_view next) b ne not-to o e = e
end_stays (declare d covers) b ne not-to o e = e
end_stays (receive_view q next heard' received' words' other same hq rq he re) b ne not-to o e = e
end_stays (receive_word q w received' words' other rq re store) b ne not-to o e = e
end_stays (receive_sync q k x records' other stored same) b ne not-to o e = e
end_stays (receive_forward q r u k w words' other not_own store) b ne not-to o e = e
end_stays (announce d unsaid covers to) b ne not-to o e = λ t m. absurd (true≢false (sym (to b m ne) ∙ not-to))
end_stays (pass_out d w said word within to) b ne not-to o e = λ t m. absurd (true≢false (sym (to b m ne) ∙ not-to))
end_stays (sync d x records' made' pending block none-held view run make else hold stored) b ne not-to o e = e
end_stays (forward d r u k w word) b ne not-to o e = e
end_stays (give_out q w gave_out' given' member word one_more given-else more else) b ne not-to o e = e
end_stays (install words' given' up pending start was is held given fewer none-given) b ne not-to o e = λ t m. absurd (false≢true t)

-- what an action sends b is right, and moves the end to where the sender then stands
end_moves : {D : Domain} {n p : ℕ} {A : Accepted D} {M : Records D} {s s' : State D} {d : ℕ → Bool} {m : Message D} → Action D n p s s' (sends d m) → Invariant D n p A M s
    → M p ≡ s'.made → (b : ℕ) → d b ≡ true → (o : Place D) → EndsAt s b o → Right A M p o m × EndsAt s' b (turn o m)
end_moves {s = s} (announce d unsaid covers to) h eM b t o e = (tt, λ u v i. record { view = s.current; count = sym (h.sending.unsent unsaid) i })
end_moves {p = p} {s = s} (pass_out d w said word within to) h eM b t o e =
    let k : o ≡ sent s = e said (within b t) in
    (rw k (h.holding.held s.current p s.passed w word), λ u v. ap (λ (z : Place _). turn z (app_msg w)) k)
end_moves {D} {s = s} (sync d x records' made' pending block none-held view run make else hold stored) h eM b t o e = (ap (λ (f : ℕ → Option (Record D)). f s.latest) eM ∙ make, e)
end_moves (forward d r u k w word) h eM b t o e = (h.holding.held u r k w word, e)

-- ---- the receiver's place

from_other : {D : Domain} {n p q : ℕ} {s s' : State D} {m : Message D} → Action D n p s s' (receives q m) → q ≡ p → ⊥
from_other (receive_view q next heard' received' words' other same hq rq he re) = other
from_other (receive_word q w received' words' other rq re store) = other
from_other (receive_sync q k x records' other stored same) = other
from_other (receive_forward q r u k w words' other not_own store) = other

-- it moves with what is received
place_moves : {D : Domain} {n p q : ℕ} {s s' : State D} {m : Message D} → Action D n p s s' (receives q m) → place s' q ≡ turn (place s q) m
place_moves (receive_view q next heard' received' words' other same hq rq he re) = λ i. record { view = hq i; count = rq i }
place_moves {s = s} (receive_word q w received' words' other rq re store) = λ i. record { view = s.heard q; count = rq i }
place_moves (receive_sync q k x records' other stored same) = refl
place_moves (receive_forward q r u k w words' other not_own store) = refl

abbrev pub NotFrom : {D : Domain} → Label D → ℕ → Type 0
NotFrom quiet a = Unit {0}
NotFrom (receives q m) a = a ≡ q → ⊥
NotFrom (sends d m) a = Unit {0}

-- and with nothing else
place_stays : {D : Domain} {n p : ℕ} {s s' : State D} {l : Label D} → Action D n p s s' l → (a : ℕ) → NotFrom l a → place s' a ≡ place s a
place_stays (send w k accepted' words' free run put more else) a not-from = refl
place_stays (ask_to_block pending free) a not-from = refl
place_stays block_ok a not-from = refl
place_stays (start_change k words' l fewer same) a not-from = refl
place_stays (membership_view next) a not-from = refl
place_stays (declare d covers) a not-from = refl
place_stays (receive_view q next heard' received' words' other same hq rq he re) a not-from = λ i. record { view = he a not-from i; count = re a not-from i }
place_stays {s = s} (receive_word q w received' words' other rq re store) a not-from = λ i. record { view = s.heard a; count = re a not-from i }
place_stays (receive_sync q k x records' other stored same) a not-from = refl
place_stays (receive_forward q r u k w words' other not_own store) a not-from = refl
place_stays (announce d unsaid covers to) a not-from = refl
place_stays (pass_out d w said word within to) a not-from = refl
place_stays (sync d x records' made' pending block none-held view run make else hold stored) a not-from = refl
place_stays (forward d r u k w word) a not-from = refl
place_stays (give_out q w gave_out' given' member word one_more given-else more else) a not-from = refl
place_stays (install words' given' up pending start was is held given fewer none-given) a not-from = refl

-- ---- the channels of the one who acts

unmoved : {D : Domain} {A : Accepted D} {M : Records D} {a b : ℕ} {t s : State D} {c : List (Message D)} (s' : State D) (c' : List (Message D))
    → place s' a ≡ place s a → c' ≡ c → Channel D A M a b t s c → Channel D A M a b t s' c'
unmoved s' c' e f h = record { right = rw (e, f) h.right; end = rw (e, f) h.end }

module _ {D : Domain} {n p : ℕ} (A : Accepted D) (M : Records D) {s s' : State D} (c c' : Channels D) where
  -- what it receives is right
  pub received_right : {l : Label D} → Action D n p s s' l → ChannelsAfter p l c c' → ((q : ℕ) → (q ≡ p → ⊥) → AllRight A M q (place s q) (c q p)) → RightIn A M s l
  unfolding AllRight
  received_right {l = quiet} action k h = tt
  received_right {l = receives q m} action k h = (subst (λ (z : List (Message D)). AllRight A M q (place s q) z) k.0 (h q (from_other action))).0
  received_right {l = sends d m} action k h = tt

  pub sender_keeps : {l : Label D} → Action D n p s s' l → Invariant D n p A M s → M p ≡ s'.made → ChannelsAfter p l c c'
      → (b : ℕ) → (b ≡ p → ⊥) → (t : State D) → Channel D A M p b s t (c p b) → Channel D A M p b s' t (c' p b)
  sender_keeps {l = quiet} action inv eM k b ne t h = record { right = rw (k p b) h.right; end = end_stays action b ne tt (ends (place t p) (c' p b)) (rw (k p b) h.end) }
  sender_keeps {l = receives q m} action inv eM k b ne t h =
      let f : c' p b ≡ c p b = k.1 p b (λ x y. ne y) in
      record { right = rw f h.right; end = end_stays action b ne tt (ends (place t p) (c' p b)) (rw f h.end) }
  sender_keeps {l = sends d m} action inv eM k b ne t h = go (d b) refl
    where
      o : Place D
      o = ends (place t p) (c p b)

      go : (x : Bool) → d b ≡ x → Channel D A M p b s' t (c' p b)
      go true e =
          let f : c' p b ≡ c p b ++ (m ∷ []) = k.0 b e in
          let u : Right A M p o m × EndsAt s' b (turn o m) = end_moves action inv eM b e o h.end in
          record { right = rw f (all_more A M p (place t p) (c p b) m h.right u.0); end = rw (f, ends_more (place t p) (c p b) m) u.1 }
      go false e =
          let f : c' p b ≡ c p b = k.1 b e in
          record { right = rw f h.right; end = end_stays action b ne e (ends (place t p) (c' p b)) (rw f h.end) }

  pub receiver_keeps : {l : Label D} → Action D n p s s' l → ChannelsAfter p l c c'
      → (a : ℕ) → (a ≡ p → ⊥) → (t : State D) → Channel D A M a p t s (c a p) → Channel D A M a p t s' (c' a p)
  unfolding AllRight ends
  receiver_keeps {l = quiet} action k a ne t h = unmoved s' (c' a p) (place_stays action a tt) (k a p) h
  receiver_keeps {l = sends d m} action k a ne t h = unmoved s' (c' a p) (place_stays action a tt) (k.2 a p ne) h
  receiver_keeps {l = receives q m} action k a ne t h = go (ℕ_discrete a q)
    where
      go : Dec (a ≡ q) → Channel D A M a p t s' (c' a p)
      go (no f) = unmoved s' (c' a p) (place_stays action a f) (k.1 a p (λ x y. f x)) h
      go (yes e) =
          let h' : Channel D A M q p t s (m ∷ c' q p) = rw (e, k.0) at h in
          rw e (record { right = rw (place_moves action) h'.right.1; end = rw (place_moves action) h'.end })
