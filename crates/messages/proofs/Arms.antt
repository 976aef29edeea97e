-- The six kinds one by one, as the reader's and the writer's arms have them: the length, the message read, its tests, the body stored.
-- Assumes nothing. That reading and writing are inverse is in Trip, by one argument for all kinds.
use Prim.Native.Nat.{ℕ, ◌+◌, ◌≤◌}
use native.Mathlib.Omega.{arith}
use mathlib.Core.Bool.{true, ◌&&◌, and-true}
use mathlib.Core.List.{List, [], ◌∷◌, ◌++◌, append-nil}
use mathlib.Core.Logic.{◌⊎◌, inl, inr, ⊎_elim}
use mathlib.Core.Path.{◌≡◌, refl, sym, ap, ◌∙◌}
use lib.ListN.{length, get_or-eq_default}
use lib.Seq.{sets}
use Rattle.below.specs.Below.{all_below}
use Rattle.below.specs.Bits.{bit}
use Rattle.views.specs.Sets.{has}
use Rattle.views.specs.Views.{all_zero, view_ok}
use Rattle.views.specs.Cuts.{cut_ok}
use Rattle.views.specs.declared.View.{View}
use Rattle.views.specs.declared.Cut.{Cut}
use Rattle.messages.specs.declared.Message.{Message}
use Rattle.messages.specs.declared.kind.Kind.{Kind}
use Rattle.messages.specs.declared.kind.Kind.TheVariants.{View as ViewKind, MembershipView}
use Rattle.messages.specs.Kinds.{code_of, NoKind}
use Rattle.messages.specs.Bytes.{le, number_at, view_body, view_at, cut_bytes, cut_at}
use Rattle.messages.specs.Messages.{of_view, of_word, of_sync, of_forward, of_start_change}
use Rattle.messages.specs.Layouts.{place_fits, blank_view, body, length_of, fields_fit, well_formed}
use Rattle.messages.specs.Codec.{message_at}
use Rattle.messages.proofs.Numbers.{le_length, view_length}
use Rattle.messages.proofs.Stores.{sets_join}

-- ---- lengths

pub length_none : (k : ℕ) → NoKind k → 0 ≡ length_of k
unfolding length_of
length_none k h = sym (⊎_elim (λ e. rw e refl) (λ l. get_or-eq_default (0 ∷ 38 ∷ 9 ∷ 50 ∷ 48 ∷ 6 ∷ 38 ∷ []) 0 {n = k} l) h)

-- the two kinds that have a view alone
pub view_kinds : (kind : Kind) → (kind ≡ ViewKind) ⊎ (kind ≡ MembershipView) → (code_of kind ≡ 1) ⊎ (code_of kind ≡ 6)
view_kinds kind e = ⊎_elim (λ p. inl (ap code_of p)) (λ p. inr (ap code_of p)) e

-- the room that a kind has
pub room_of : (k j n : ℕ) → k ≡ j → n ≡ length_of k → length_of j ≤ n
room_of k j n e h = rw (h, e) (omega arith)

-- ---- the message read

module _ (bs : List ℕ) (k : ℕ) (r : Message) where
  pub at_view : (v : View) → k ≡ 1 → v ≡ view_at bs 1 → r ≡ of_view 1 v → r ≡ message_at bs k
  unfolding message_at
  at_view v e p q = rw (e, ← p) q

  pub at_word : (w : ℕ) → k ≡ 2 → w ≡ number_at 8 bs 1 → r ≡ of_word w → r ≡ message_at bs k
  unfolding message_at
  at_word w e p q = rw (e, ← p) q

  pub at_sync : (n : ℕ) (v : View) (c : Cut) → k ≡ 3 → n ≡ number_at 4 bs 1 → v ≡ view_at bs 5 → c ≡ cut_at bs 42 → r ≡ of_sync n v c → r ≡ message_at bs k
  unfolding message_at
  at_sync n v c e p q s t = rw (e, ← p, ← q, ← s) t

  pub at_forward : (s i w : ℕ) (v : View) → k ≡ 4 → s ≡ number_at 1 bs 1 → i ≡ number_at 1 bs 2 → v ≡ view_at bs 3 → w ≡ number_at 8 bs 40 → r ≡ of_forward s i v w → r ≡ message_at bs k
  unfolding message_at
  at_forward s i w v e p q t u x = rw (e, ← p, ← q, ← t, ← u) x

  pub at_start_change : (n s : ℕ) → k ≡ 5 → n ≡ number_at 4 bs 1 → s ≡ number_at 1 bs 5 → r ≡ of_start_change n s → r ≡ message_at bs k
  unfolding message_at
  at_start_change n s e p q t = rw (e, ← p, ← q) t

  pub at_membership : (v : View) → k ≡ 6 → v ≡ view_at bs 1 → r ≡ of_view 6 v → r ≡ message_at bs k
  unfolding message_at
  at_membership v e p q = rw (e, ← p) q

  pub at_views : (v : View) → (k ≡ 1) ⊎ (k ≡ 6) → v ≡ view_at bs 1 → r ≡ of_view k v → r ≡ message_at bs k
  at_views v e p q = ⊎_elim (λ t. at_view v t p (rw t at q)) (λ t. at_membership v t p (rw t at q)) e

-- ---- well formed: only the parts that the kind has are tested

module _ (m : Message) where
  pub well_view : (k : ℕ) (v : View) → (k ≡ 1) ⊎ (k ≡ 6) → m ≡ of_view k v → well_formed m ≡ view_ok v
  unfolding well_formed fields_fit cut_ok all_below has bit
  well_view k v e p = rw p (⊎_elim (λ q. rw q refl) (λ q. rw q refl) e)

  pub well_word : (w : ℕ) → m ≡ of_word w → well_formed m ≡ true
  unfolding well_formed fields_fit cut_ok all_below has bit blank_view all_zero
  well_word w p = rw p refl

  pub well_sync : (n : ℕ) (v : View) (c : Cut) → m ≡ of_sync n v c → well_formed m ≡ (cut_ok v.set c && view_ok v)
  unfolding well_formed fields_fit
  well_sync n v c p = rw p refl

  pub well_forward : (s i w : ℕ) (v : View) → m ≡ of_forward s i v w → well_formed m ≡ (place_fits 4 s i && view_ok v)
  unfolding well_formed fields_fit cut_ok all_below has bit
  well_forward s i w v p = rw (p, and-true) refl

  pub well_start_change : (n s : ℕ) → m ≡ of_start_change n s → well_formed m ≡ true
  unfolding well_formed fields_fit cut_ok all_below has bit blank_view all_zero
  well_start_change n s p = rw p refl

-- ---- the body stored

-- a store behind a store
behind : (xs ys l a b : List ℕ) (at n : ℕ) → at + length xs ≡ n → a ≡ sets l at xs → b ≡ sets a n ys → b ≡ sets l at (xs ++ ys)
behind xs ys l a b at n e p q = q ∙ ap (λ k. sets k n ys) p ∙ sets_join xs ys l at n e

-- the last store
last : (xs a b : List ℕ) (n : ℕ) → b ≡ sets a n xs → b ≡ sets a n (xs ++ [])
last xs a b n q = q ∙ ap (sets a n) (sym (append-nil xs))

module _ (m : Message) (l : List ℕ) where
  pub stored_view : (a : List ℕ) → (m.kind ≡ 1) ⊎ (m.kind ≡ 6) → a ≡ sets l 1 (view_body m.view) → a ≡ sets l 1 (body m)
  unfolding body
  stored_view a e p = ⊎_elim (λ q. rw q (last (view_body m.view) l a 1 p)) (λ q. rw q (last (view_body m.view) l a 1 p)) e

  pub stored_word : (a : List ℕ) → m.kind ≡ 2 → a ≡ sets l 1 (le 8 m.word) → a ≡ sets l 1 (body m)
  unfolding body
  stored_word a e p = rw e (last (le 8 m.word) l a 1 p)

  pub stored_sync : (a b c : List ℕ) → m.kind ≡ 3 → a ≡ sets l 1 (le 4 m.number) → b ≡ sets a 5 (view_body m.view) → c ≡ sets b 42 (cut_bytes m.cut) → c ≡ sets l 1 (body m)
  unfolding body
  stored_sync a b c e p q r =
      rw e
      (behind (le 4 m.number) (view_body m.view ++ (cut_bytes m.cut ++ [])) l a c 1 5 (rw (le_length 4 m.number) refl) p
      (behind (view_body m.view) (cut_bytes m.cut ++ []) a b c 5 42 (rw (view_length m.view) refl) q
      (last (cut_bytes m.cut) b c 42 r)))

  pub stored_forward : (a b c d : List ℕ) → m.kind ≡ 4 → a ≡ sets l 1 (le 1 m.sender) → b ≡ sets a 2 (le 1 m.index) → c ≡ sets b 3 (view_body m.view) → d ≡ sets c 40 (le 8 m.word) → d ≡ sets l 1 (body m)
  unfolding body
  stored_forward a b c d e p q r s =
      rw e
      (behind (le 1 m.sender ++ le 1 m.index) (view_body m.view ++ (le 8 m.word ++ [])) l b d 1 3 place_length (behind (le 1 m.sender) (le 1 m.index) l a b 1 2 (rw (le_length 1 m.sender) refl) p q)
      (behind (view_body m.view) (le 8 m.word ++ []) b c d 3 40 (rw (view_length m.view) refl) r
      (last (le 8 m.word) c d 40 s)))
    where
      place_length : 1 + length (le 1 m.sender ++ le 1 m.index) ≡ 3
      place_length = simp (lib.ListN.length-append, le_length)

  pub stored_start_change : (a b : List ℕ) → m.kind ≡ 5 → a ≡ sets l 1 (le 4 m.number) → b ≡ sets a 5 (le 1 m.set) → b ≡ sets l 1 (body m)
  unfolding body
  stored_start_change a b e p q = rw e (behind (le 4 m.number) (le 1 m.set) l a b 1 5 (rw (le_length 4 m.number) refl) p q)
