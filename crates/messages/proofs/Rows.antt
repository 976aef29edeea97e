-- The field area: a row copied into it place by place; the whole of it as one row; what narrow fields say; what the reader and the writer by a field area answer at each test. Assumes nothing.
use Prim.Native.Nat.{ℕ, ◌+◌, ◌^◌, ◌≤◌, ◌<◌}
use native.Mathlib.Nat.{one-mul}
use native.Mathlib.Omega.{arith}
use mathlib.Core.Bool.{Bool, true, false, ◌&&◌, and-false}
use mathlib.Core.List.{List, [], ◌∷◌, ◌++◌, append-nil}
use mathlib.Core.Path.{◌≡◌, refl, sym, ap, ◌∙◌}
use lib.Dec.{ltb}
use lib.ListN.{length, get_or, set, take, drop, length-append, length-take, drop_of_length-le}
use lib.Seq.{sets, sets-eq, drop_at}
use borrow.Author.Tests.{eq-eqb, ne_eqb, ltb-true}
use Rattle.below.specs.Below.{list_below}
use Rattle.below.proofs.Lists.{list_length}
use Rattle.below.proofs.Tests.{and_left, and_right}
use Rattle.below.proofs.All.{all_each}
use Rattle.messages.specs.declared.Message.{Message}
use Rattle.messages.specs.Kinds.{NoKind}
use Rattle.messages.specs.Layouts.{length_of, fields_fit, well_formed}
use Rattle.messages.specs.Codec.{message_at, reads, write_number, written}
use Rattle.messages.proofs.Arms.{length_none}
use Rattle.messages.proofs.Tested.{kindless, write_malformed, write_short}
use Rattle.messages.proofs.Stores.{sets_join, sets_front, stores_none, stores_more, stores_end}
use Rattle.messages.specs.Fields.{numbers_of, eight, fields_of, narrow_starts, narrow_counts, narrow_bytes, narrow, message_of, is_row, read_number, fields_read, number_written, area_written}

-- ---- `for n in 0..8 { fields[at + n] = xs[n]; }`

module _ (at : ℕ) (xs l : List ℕ) where
  pub copy_none : l ≡ sets l at (list_below (λ k. get_or xs k 0) 0)
  unfolding list_below
  copy_none = stores_none (λ k. get_or xs k 0 ∷ []) 1 (λ k. refl) at l

  pub copy_more : (n v : ℕ) (m : List ℕ) → m ≡ sets l at (list_below (λ k. get_or xs k 0) n) → v ≡ get_or xs n 0 → set m (at + n) v ≡ sets l at (list_below (λ k. get_or xs k 0) (n + 1))
  unfolding list_below
  copy_more n v m p q = stores_more (λ k. get_or xs k 0 ∷ []) 1 (λ k. refl) at l n m (set m (at + n) v) p (rw (one-mul n, q) refl)

  pub copy_end : (n : ℕ) (m : List ℕ) → n ≤ 8 → 8 ≤ n → m ≡ sets l at (list_below (λ k. get_or xs k 0) n) → m ≡ sets l at (eight xs)
  unfolding list_below eight
  copy_end n m a b p = stores_end (λ k. get_or xs k 0 ∷ []) 1 (λ k. refl) at l n 8 m a b p

eight_length : (xs : List ℕ) → length (eight xs) ≡ 8
unfolding eight
eight_length xs = list_length (λ n. get_or xs n 0) 8

-- the three stores are the whole row
pub whole_row : (m : Message) (l a b c : List ℕ) → length l ≡ 24 → a ≡ sets l 8 (eight m.view.starts) → b ≡ sets a 16 (eight m.cut.counts) → c ≡ sets b 0 (numbers_of m) → c ≡ fields_of m
unfolding fields_of
whole_row m l a b c e p q r =
    let xs = eight m.view.starts in
    let ys = eight m.cut.counts in
    let n : length (xs ++ ys) ≡ 16 = rw (length-append xs ys, eight_length m.view.starts, eight_length m.cut.counts) refl in
    let u : b ≡ sets l 8 (xs ++ ys) = q ∙ ap (λ k. sets k 16 ys) p ∙ sets_join xs ys l 8 16 (rw (eight_length m.view.starts) refl) in
    let v : b ≡ take 8 l ++ (xs ++ ys) = u ∙ sets-eq (xs ++ ys) l 8 (omega arith) ∙ ap (λ k. take 8 l ++ (xs ++ ys) ++ k) (drop_of_length-le l {i = 8 + length (xs ++ ys)} (omega arith)) ∙ append-nil (take 8 l ++ (xs ++ ys)) in
    let f : length (take 8 l) ≡ 8 = simp length-take (omega arith) in
    let w : drop 8 b ≡ xs ++ ys = ap (drop 8) v ∙ drop_at (take 8 l) (xs ++ ys) 8 f in
    let g : length b ≡ 24 = ap length v ∙ length-append (take 8 l) (xs ++ ys) ∙ rw (f, n) refl in
    r ∙ sets_front (numbers_of m) b (omega arith) ∙ ap (λ k. numbers_of m ++ k) w

-- ---- narrow fields

pub record Narrow (fs : List ℕ) : Type 0 where
  pub kind_low : get_or fs 0 0 < 256
  pub number_low : get_or fs 1 0 < 2 ^ 32
  pub set_low : get_or fs 2 0 < 256
  pub sender_low : get_or fs 3 0 < 256
  pub index_low : get_or fs 4 0 < 256
  pub id_low : get_or fs 6 0 < 2 ^ 32
  pub view_set_low : get_or fs 7 0 < 256
  pub starts_low : (n : ℕ) → n < 8 → get_or fs (8 + n) 0 < 2 ^ 32
  pub counts_low : (n : ℕ) → n < 8 → get_or fs (16 + n) 0 < 256

pub narrow_each : (fs : List ℕ) → narrow fs ≡ true → Narrow fs
unfolding narrow narrow_bytes narrow_starts narrow_counts
narrow_each fs e =
    let f : ℕ → ℕ → Bool = λ n k. ltb (get_or fs n 0) k in
    let low : (n k : ℕ) → f n k ≡ true → get_or fs n 0 < k = λ n k t. ltb-true (get_or fs n 0) k t in
    let rows = narrow_starts fs && narrow_counts fs in
    let wides = f 1 (2 ^ 32) && f 6 (2 ^ 32) in
    let a = and_left (narrow_bytes fs) (wides && rows) e in
    let b = and_right (narrow_bytes fs) (wides && rows) e in
    let w = and_left wides rows b in
    let r = and_right wides rows b in
    let a2 = and_right (f 0 256) (f 2 256 && (f 3 256 && (f 4 256 && f 7 256))) a in
    let a3 = and_right (f 2 256) (f 3 256 && (f 4 256 && f 7 256)) a2 in
    let a4 = and_right (f 3 256) (f 4 256 && f 7 256) a3 in
    record {
      kind_low = low 0 256 (and_left (f 0 256) (f 2 256 && (f 3 256 && (f 4 256 && f 7 256))) a);
      number_low = low 1 (2 ^ 32) (and_left (f 1 (2 ^ 32)) (f 6 (2 ^ 32)) w);
      set_low = low 2 256 (and_left (f 2 256) (f 3 256 && (f 4 256 && f 7 256)) a2);
      sender_low = low 3 256 (and_left (f 3 256) (f 4 256 && f 7 256) a3);
      index_low = low 4 256 (and_left (f 4 256) (f 7 256) a4);
      id_low = low 6 (2 ^ 32) (and_right (f 1 (2 ^ 32)) (f 6 (2 ^ 32)) w);
      view_set_low = low 7 256 (and_right (f 4 256) (f 7 256) a4);
      starts_low = λ n l. low (8 + n) (2 ^ 32) (all_each (λ k. f (8 + k) (2 ^ 32)) 8 n l (and_left (narrow_starts fs) (narrow_counts fs) r));
      counts_low = λ n l. low (16 + n) 256 (all_each (λ k. f (16 + k) 256) 8 n l (and_right (narrow_starts fs) (narrow_counts fs) r));
    }

-- ---- what a read answers

module _ (bs fs : List ℕ) where
  unread : (is_row fs && reads bs) ≡ false → (1 ≡ read_number bs fs) × (fs ≡ fields_read bs fs)
  unfolding read_number fields_read
  unread e = (rw e refl, rw e refl)

  pub unread_row : (length fs ≡ 24 → ⊥) → (1 ≡ read_number bs fs) × (fs ≡ fields_read bs fs)
  unfolding is_row
  unread_row h = unread (rw (ne_eqb (length fs) 24 h) refl)

  pub unread_empty : length bs ≡ 0 → (1 ≡ read_number bs fs) × (fs ≡ fields_read bs fs)
  unfolding reads length_of well_formed fields_fit message_at
  unread_empty e = unread (rw (none bs e, and-false) refl)
    where
      none : (l : List ℕ) → length l ≡ 0 → reads l ≡ false
      none [] e = refl
      none (x ∷ l) e = absurd (omega arith)

  pub unread_length : (n : ℕ) → (length bs ≡ n → ⊥) → n ≡ length_of (get_or bs 0 0) → (1 ≡ read_number bs fs) × (fs ≡ fields_read bs fs)
  unfolding reads
  unread_length n h e = unread (rw (ne_eqb (length bs) (length_of (get_or bs 0 0)) (λ q. h (q ∙ sym e)), and-false) refl)

  -- no kind has bytes
  pub unread_kind : NoKind (get_or bs 0 0) → (length bs ≡ 0 → ⊥) → (1 ≡ read_number bs fs) × (fs ≡ fields_read bs fs)
  unread_kind h some = unread_length 0 some (length_none (get_or bs 0 0) h)

  module _ (k : ℕ) (m : Message) (first : get_or bs 0 0 ≡ k) (read : m ≡ message_at bs k) where
    pub unread_malformed : well_formed m ≡ false → (1 ≡ read_number bs fs) × (fs ≡ fields_read bs fs)
    unfolding reads
    unread_malformed f = unread (rw (first, ← read, f, and-false, and-false) refl)

    reads_whole : length bs ≡ length_of k → well_formed m ≡ true → reads bs ≡ true
    unfolding reads
    reads_whole l w = rw (first, ← read, w, eq-eqb (length bs) (length_of k) l) refl

    pub read_row : (out : List ℕ) → length fs ≡ 24 → length bs ≡ length_of k → well_formed m ≡ true → out ≡ fields_of m → (0 ≡ read_number bs fs) × (out ≡ fields_read bs fs)
    unfolding read_number fields_read is_row
    read_row out n l w p =
        let t : reads bs ≡ true = reads_whole l w in
        (rw (eq-eqb (length fs) 24 n, t) refl, rw (eq-eqb (length fs) 24 n, t, first, ← read) p)

-- ---- what a write answers

module _ (fs area : List ℕ) where
  none_written : (is_row fs && narrow fs) ≡ false → (1 ≡ number_written fs area) × (area ≡ area_written fs area)
  unfolding number_written area_written
  none_written e = (rw e refl, rw e refl)

  pub unwritten_row : (length fs ≡ 24 → ⊥) → (1 ≡ number_written fs area) × (area ≡ area_written fs area)
  unfolding is_row
  unwritten_row h = none_written (rw (ne_eqb (length fs) 24 h) refl)

  pub write_row : (n : ℕ) (out : List ℕ) → length fs ≡ 24 → narrow fs ≡ true → (n ≡ write_number (message_of fs) area) × (out ≡ written (message_of fs) area)
      → (n ≡ number_written fs area) × (out ≡ area_written fs area)
  unfolding number_written area_written is_row
  write_row n out l e q =
      let t : (is_row fs && narrow fs) ≡ true = rw (eq-eqb (length fs) 24 l, e) refl in
      (rw t q.0, rw t q.1)

  -- refused as a message, or already as numbers
  unwritten : length fs ≡ 24 → (narrow fs ≡ true → (1 ≡ write_number (message_of fs) area) × (area ≡ written (message_of fs) area))
      → (1 ≡ number_written fs area) × (area ≡ area_written fs area)
  unwritten l h = go (narrow fs) refl
    where
      go : (b : Bool) → narrow fs ≡ b → (1 ≡ number_written fs area) × (area ≡ area_written fs area)
      go true e = write_row 1 area l e (h e)
      go false e = none_written (rw (e, and-false) refl)

  pub unwritten_malformed : length fs ≡ 24 → (narrow fs && well_formed (message_of fs)) ≡ false → (1 ≡ number_written fs area) × (area ≡ area_written fs area)
  unwritten_malformed l f = unwritten l (λ e. write_malformed (message_of fs) area (rw e at f))

  pub unwritten_short : (n : ℕ) → length fs ≡ 24 → length area < n → n ≡ length_of (get_or fs 0 0) → (1 ≡ number_written fs area) × (area ≡ area_written fs area)
  unfolding message_of
  unwritten_short n l h e = unwritten l (λ t. write_short (message_of fs) area n h e)

  pub unwritten_kind : length fs ≡ 24 → NoKind (get_or fs 0 0) → (1 ≡ number_written fs area) × (area ≡ area_written fs area)
  unfolding message_of
  unwritten_kind l h = unwritten l (λ _. write_malformed (message_of fs) area (kindless (message_of fs) h))
