-- An action only adds to what its end-point accepted, and never makes a second record under one number. Assumes nothing.
use mathlib.Core.Path.{◌≡◌, sym, ◌∙◌, subst}
use mathlib.Core.List.{[], ◌∷◌}
use mathlib.Core.Option.{some, none-ne-some}
use Prim.Native.Nat.{ℕ}
use native.Mathlib.Decide.{ℕ_discrete}
use Rattle.automaton.specs.Domain.{Domain}
use Rattle.automaton.specs.State.{Record, Records, State}
use Rattle.automaton.specs.Actions.{Label, Action, send, ask_to_block, block_ok, start_change, membership_view, declare, receive_view, receive_word, receive_sync, receive_forward, announce, pass_out, sync, forward, give_out, install}
use Rattle.automaton.proofs.Positions.{Prefix, at_append}
use Rattle.automaton.proofs.Views.{same_or_not}
use Rattle.automaton.proofs.Invariant.{Accepted, Invariant}

pub accepted_grows : {D : Domain} {n p : ℕ} {s s' : State D} {l : Label D} → Action D n p s s' l → (v : D.View) → Prefix (s.accepted v) (s'.accepted v)
accepted_grows {D} {s = s} (send w k accepted' words' free run put more else) v = go (same_or_not D v s.current)
  where
    go : Dec (v ≡ s.current) → Prefix (s.accepted v) (accepted' v)
    go (yes e) = rw (e, more) (at_append (s.accepted s.current) (w ∷ []))
    go (no f) = rw (else v f) (λ i x e. e)
accepted_grows (ask_to_block pending free) v = λ i y e. e
accepted_grows block_ok v = λ i y e. e
accepted_grows (start_change k words' l fewer same) v = λ i y e. e
accepted_grows (membership_view next) v = λ i y e. e
accepted_grows (declare d covers) v = λ i y e. e
accepted_grows (receive_view q next heard' received' words' other same hq rq he re) v = λ i y e. e
accepted_grows (receive_word q w received' words' other rq re store) v = λ i y e. e
accepted_grows (receive_sync q k x records' other stored same) v = λ i y e. e
accepted_grows (receive_forward q r u k w words' other not_own store) v = λ i y e. e
accepted_grows (announce d unsaid covers to) v = λ i y e. e
accepted_grows (pass_out d w said word within to) v = λ i y e. e
accepted_grows (sync d x records' made' pending block none-held view run make else hold stored) v = λ i y e. e
accepted_grows (forward d r u k w word) v = λ i y e. e
accepted_grows (give_out q w gave_out' given' member word one_more given-else more else) v = λ i y e. e
accepted_grows (install words' given' up pending start was is held given fewer none-given) v = λ i y e. e

-- a record made under the latest number is held, and a sync is made only where none is
pub made_stays : {D : Domain} {n p : ℕ} {A : Accepted D} {M : Records D} {s s' : State D} {l : Label D} → Action D n p s s' l → Invariant D n p A M s
    → (j : ℕ) (y : Record D) → s.made j ≡ some y → s'.made j ≡ some y
made_stays (send w k accepted' words' free run put more else) h j y e = e
made_stays (ask_to_block pending free) h j y e = e
made_stays block_ok h j y e = e
made_stays (start_change k words' l fewer same) h j y e = e
made_stays (membership_view next) h j y e = e
made_stays (declare d covers) h j y e = e
made_stays (receive_view q next heard' received' words' other same hq rq he re) h j y e = e
made_stays (receive_word q w received' words' other rq re store) h j y e = e
made_stays (receive_sync q k x records' other stored same) h j y e = e
made_stays (receive_forward q r u k w words' other not_own store) h j y e = e
made_stays (announce d unsaid covers to) h j y e = e
made_stays (pass_out d w said word within to) h j y e = e
made_stays {s = s} (sync d x records' made' pending block none-held view run make else hold stored) h j y e = go (ℕ_discrete j s.latest)
  where
    go : Dec (j ≡ s.latest) → made' j ≡ some y
    go (yes q) = absurd (none-ne-some y (sym none-held ∙ h.recording.own y (subst (λ (z : ℕ). s.made z ≡ some y) q e)))
    go (no f) = else j f ∙ e
made_stays (forward d r u k w word) h j y e = e
made_stays (give_out q w gave_out' given' member word one_more given-else more else) h j y e = e
made_stays (install words' given' up pending start was is held given fewer none-given) h j y e = e
