-- The invariant of every end-point and every channel holds in each group that is reached: it holds at the beginning, and every step keeps it. Assumes nothing.
use mathlib.Core.Path.{◌≡◌, refl, ap, sym, ◌∙◌, subst}
use mathlib.Core.List.Memᴰ
use mathlib.Core.List.{List, []}
use mathlib.Core.Bool.{false≢true}
use mathlib.Core.Option.{Option, none, some, none-ne-some}
use Prim.Native.Nat.{ℕ, ◌<◌}
use native.Mathlib.Omega.{arith}
use native.Mathlib.Decide.{ℕ_discrete}
use lib.ListN.{length}
use Rattle.automaton.specs.Domain.{Domain}
use Rattle.automaton.specs.State.{Record, Records, State}
use Rattle.automaton.specs.Actions.{Message, Label, quiet, receives, sends, Action}
use Rattle.automaton.specs.Group.{Group, ChannelsAfter, Step, act, lose, Fresh, Reach, begin, then}
use Rattle.automaton.proofs.Positions.{at_past, Prefix}
use Rattle.automaton.proofs.Invariant.{Accepted, Invariant, Grown, lasts}
use Rattle.automaton.proofs.Streams.{AllRight, place, RightIn, all_lasts, all_less}
use Rattle.automaton.proofs.Acting.{kept}
use Rattle.automaton.proofs.Growing.{accepted_grows, made_stays}
use Rattle.automaton.proofs.Channels.{Channel, received_right, sender_keeps, receiver_keeps}

-- the words that all accepted, and the records that all made
abbrev pub accepted_in : {D : Domain} → Group D → Accepted D
accepted_in g r = (g.member r).accepted

abbrev pub made_in : {D : Domain} → Group D → Records D
made_in g r = (g.member r).made

pub record GroupInvariant (D : Domain) (n : ℕ) (g : Group D) : Type 0 where
  pub each : (p : ℕ) → Invariant D n p (accepted_in g) (made_in g) (g.member p)
  pub channels : (a b : ℕ) → (a ≡ b → ⊥) → Channel D (accepted_in g) (made_in g) a b (g.member a) (g.member b) (g.channel a b)

-- a channel between two that stay, with nothing sent or taken
carried : {D : Domain} {A A' : Accepted D} {M M' : Records D} → Grown D A A' M M' → (a b : ℕ) {sa sa' sb sb' : State D} {c c' : List (Message D)}
    → sa' ≡ sa → sb' ≡ sb → c' ≡ c → Channel D A M a b sa sb c → Channel D A' M' a b sa' sb' c'
carried e a b {sb = sb} {c = c} ea eb ec h = rw (ea, eb, ec) (record { right = all_lasts e a (place sb a) c h.right; end = h.end })

-- ---- an action of p

module _ {D : Domain} {n : ℕ} (g g' : Group D) (I : GroupInvariant D n g) (p : ℕ) (lt : p < n) {l : Label D} (action : Action D n p (g.member p) (g'.member p) l) (others : (q : ℕ) → (q ≡ p → ⊥) → g'.member q ≡ g.member q) where
  grown : Grown D (accepted_in g) (accepted_in g') (made_in g) (made_in g')
  grown = record { accepted = λ r v. accepted_case r v (ℕ_discrete r p); made = λ m j x e. made_case m j x e (ℕ_discrete m p) }
    where
      accepted_case : (r : ℕ) (v : D.View) → Dec (r ≡ p) → Prefix (accepted_in g r v) (accepted_in g' r v)
      accepted_case r v (yes e) = rw e (accepted_grows action v)
      accepted_case r v (no f) = subst (λ (z : State D). Prefix (accepted_in g r v) (z.accepted v)) (sym (others r f)) (λ i w k. k)

      made_case : (m j : ℕ) (x : Record D) → made_in g m j ≡ some x → Dec (m ≡ p) → made_in g' m j ≡ some x
      made_case m j x e (yes q) = rw q (made_stays action (I.each p) j x (subst (λ (z : ℕ). made_in g z j ≡ some x) q e))
      made_case m j x e (no f) = subst (λ (z : State D). z.made j ≡ some x) (sym (others m f)) e

  module _ (carries : ChannelsAfter p l g.channel g'.channel) where
    -- the channels as they were, under what is accepted and made now
    before : (a b : ℕ) → (a ≡ b → ⊥) → Channel D (accepted_in g') (made_in g') a b (g.member a) (g.member b) (g.channel a b)
    before a b ne = carried grown a b refl refl refl (I.channels a b ne)

    after_each : (q : ℕ) → Invariant D n q (accepted_in g') (made_in g') (g'.member q)
    after_each q = go (ℕ_discrete q p)
      where
        right : RightIn (accepted_in g') (made_in g') (g.member p) l
        right = received_right (accepted_in g') (made_in g') g.channel g'.channel action carries (λ q ne. (before q p ne).right)

        go : Dec (q ≡ p) → Invariant D n q (accepted_in g') (made_in g') (g'.member q)
        go (yes e) = rw e (kept lt action (lasts grown (I.each p)) refl refl right)
        go (no f) = rw (others q f) (lasts grown (I.each q))

    after_channels : (a b : ℕ) → (a ≡ b → ⊥) → Channel D (accepted_in g') (made_in g') a b (g'.member a) (g'.member b) (g'.channel a b)
    after_channels a b ne = go (ℕ_discrete a p) (ℕ_discrete b p)
      where
        far : (l : Label D) → ChannelsAfter p l g.channel g'.channel → (a ≡ p → ⊥) → (b ≡ p → ⊥) → g'.channel a b ≡ g.channel a b
        far quiet k fa fb = k a b
        far (receives q m) k fa fb = k.1 a b (λ x y. fb y)
        far (sends d m) k fa fb = k.2 a b fa

        go : Dec (a ≡ p) → Dec (b ≡ p) → Channel D (accepted_in g') (made_in g') a b (g'.member a) (g'.member b) (g'.channel a b)
        go (yes x) (yes y) = absurd (ne (x ∙ sym y))
        go (yes x) (no y) = rw (x, others b y)
            (sender_keeps (accepted_in g') (made_in g') g.channel g'.channel action (lasts grown (I.each p)) refl carries b y (g.member b) (before p b (λ e. y (sym e))))
        go (no x) (yes y) = rw (y, others a x)
            (receiver_keeps (accepted_in g') (made_in g') g.channel g'.channel action carries a x (g.member a) (before a p x))
        go (no x) (no y) = carried grown a b (others a x) (others b y) (far l carries x y) (I.channels a b ne)

-- ---- every step

step_keeps : {D : Domain} {n : ℕ} (g g' : Group D) → Step D n g g' → GroupInvariant D n g → GroupInvariant D n g'
step_keeps g g' (act p l lt action others carries) I = record { each = after_each g g' I p lt action others carries; channels = after_channels g g' I p lt action others carries }
step_keeps {D} g g' (lose p q tail undeclared same cut else) I = record { each = λ r. rw (same r) (lasts still (I.each r)); channels = λ a b ne. go a b ne (ℕ_discrete a p) (ℕ_discrete b q) }
  where
    still : Grown D (accepted_in g) (accepted_in g') (made_in g) (made_in g')
    still = record {
      accepted = λ r v. subst (λ (z : State D). Prefix (accepted_in g r v) (z.accepted v)) (sym (same r)) (λ i w k. k);
      made = λ m j x. subst (λ (z : State D). made_in g m j ≡ some x → z.made j ≡ some x) (sym (same m)) (λ k. k);
    }

    go : (a b : ℕ) → (a ≡ b → ⊥) → Dec (a ≡ p) → Dec (b ≡ q) → Channel D (accepted_in g') (made_in g') a b (g'.member a) (g'.member b) (g'.channel a b)
    go a b ne (no f) y = carried still a b (same a) (same b) (else a b (λ x z. f x)) (I.channels a b ne)
    go a b ne (yes x) (no f) = carried still a b (same a) (same b) (else a b (λ z y. f y)) (I.channels a b ne)
    go a b ne (yes x) (yes y) =
        let h : Channel D (accepted_in g') (made_in g') p q (g.member p) (g.member q) (g.channel p q) = carried still p q refl refl refl (I.channels p q (λ e. ne (x ∙ e ∙ sym y))) in
        rw (x, y, same p, same q) (record {
          right = all_less (accepted_in g') (made_in g') p (place (g.member q) p) (g'.channel p q) tail (rw cut at h.right);
          -- a member of an announced view is declared, and q is not
          end = λ t m. absurd (false≢true (sym undeclared ∙ (I.each p).sending.safe t q m));
        })

-- ---- the beginning

absent : {A B : Type 0} {o : Option A} {x : A} → o ≡ none → o ≡ some x → B
absent {x = x} p q = absurd (none-ne-some x (sym p ∙ q))

fresh_has : {D : Domain} {n p : ℕ} (A : Accepted D) (M : Records D) {s : State D} → Fresh D p s → Invariant D n p A M s
fresh_has {p = p} A M {s = s} k = record {
  holding = record {
    held = λ v r i w h. absent (k.words v r i) h;
    own = λ i. k.words s.current p i ∙ sym (rw (k.accepted s.current) (at_past [] i (omega arith)));
    own_ahead = λ v i l. k.words v p i;
    accepted_ahead = λ v l. k.accepted v;
  };
  giving = record {
    first = λ v r. rw (k.gave_out v r) (λ i w h. absent (at_past [] i (omega arith)) h);
    members = λ v r h. k.gave_out v r;
    count = λ r. k.given r ∙ sym (ap length (k.gave_out s.current r));
    out_ahead = λ v r l. k.gave_out v r;
  };
  recording = record {
    held = λ m j x h. absent (k.records m j) h;
    low = λ j x h. absent (k.made j) h;
    own = λ x h. absent (k.made s.latest) h;
    now = λ x q h. absent (k.made s.latest) h;
  };
  sending = record { unsent = λ t. k.passed; safe = λ t. k.declared };
  moving = λ v v' m. absurd (Memᴰ.not-nil (rw k.moves at m));
}

begin_has : {D : Domain} {n : ℕ} (g : Group D) → ((p : ℕ) → Fresh D p (g.member p)) → ((a b : ℕ) → g.channel a b ≡ []) → GroupInvariant D n g
unfolding AllRight
begin_has g f e = record {
  each = λ p. fresh_has (accepted_in g) (made_in g) (f p);
  channels = λ a b ne. record { right = rw (e a b) tt; end = λ t m. absurd (ne (sym ((f a).alone b m))) };
}

pub reached : {D : Domain} {n : ℕ} {g : Group D} → Reach D n g → GroupInvariant D n g
reached (begin {g = g} f e) = begin_has g f e
reached (then {g = g} {g' = g'} r step) = step_keeps g g' step (reached r)
