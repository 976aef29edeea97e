-- What the reader and the writer answer, at each test at which they stop; the length of a message's bytes. Assumes nothing.
use Prim.Native.Nat.{ℕ, zero, suc, ◌+◌, ◌≤◌, ◌<◌}
use native.Mathlib.Omega.{arith}
use mathlib.Core.Bool.{Bool, true, false, cond, ◌&&◌, and-false}
use mathlib.Core.List.{List, [], ◌∷◌, ◌++◌}
use mathlib.Core.Logic.{⊎_elim}
use mathlib.Core.Path.{◌≡◌, refl, sym, ap, ◌∙◌}
use lib.Dec.{leb}
use lib.ListN.{length, get_or, drop, length-append}
use lib.Seq.{sets}
use borrow.Author.Tests.{eq-eqb, ne_eqb, le-leb, lt-leb, leb-true}
use Rattle.below.proofs.Tests.{and_left, and_right}
use Rattle.views.specs.Cuts.{cut_ok}
use Rattle.messages.specs.declared.Message.{Message}
use Rattle.std.specs.Prelude.{Ok}
use Rattle.messages.specs.Bytes.{le, view_body, cut_bytes}
use Rattle.messages.specs.Kinds.{NoKind}
use Rattle.messages.specs.Layouts.{has_number, has_place, has_view, has_cut, has_word, has_set, part, number_fits, place_fits, word_fits, set_fits, view_fits, cut_set, body, bytes_of, length_of, fields_fit, well_formed}
use Rattle.messages.specs.Codec.{message_at, reads, refused, read_of, writes, write_number, written}
use Rattle.messages.proofs.Arms.{length_none}
use Rattle.messages.proofs.Numbers.{le_length, le_byte, view_length, cut_length}
use Rattle.messages.proofs.Stores.{sets_front}

-- ---- the kind and the parts of a well formed message, and its bytes' number

pub kind_fits : (m : Message) → well_formed m ≡ true → (1 ≤ m.kind) × (m.kind ≤ 6)
unfolding well_formed fields_fit
kind_fits m e =
    let k = m.kind in
    let p = and_left (fields_fit k m.number m.sender m.index m.word m.set) (cut_ok (cut_set k m.view.set) m.cut && view_fits k m.view) e in
    let q = and_left (leb 1 k && leb k 6) (number_fits k m.number && (place_fits k m.sender m.index && (word_fits k m.word && set_fits k m.set))) p in
    (leb-true 1 k (and_left (leb 1 k) (leb k 6) q), leb-true k 6 (and_right (leb 1 k) (leb k 6) q))

-- a message of no kind
pub kindless : (m : Message) → NoKind m.kind → well_formed m ≡ false
kindless m h = go (well_formed m) refl
  where
    go : (b : Bool) → well_formed m ≡ b → well_formed m ≡ false
    go false e = e
    go true e = let p = kind_fits m e in absurd (⊎_elim (λ z. omega (arith, p.0)) (λ l. omega (arith, p.1)) h)

-- each part's own test
pub record PartsFit (m : Message) : Type 0 where
  pub number_fit : number_fits m.kind m.number ≡ true
  pub place_fit : place_fits m.kind m.sender m.index ≡ true
  pub word_fit : word_fits m.kind m.word ≡ true
  pub set_fit : set_fits m.kind m.set ≡ true
  pub cut_fit : cut_ok (cut_set m.kind m.view.set) m.cut ≡ true
  pub view_fit : view_fits m.kind m.view ≡ true

pub parts_fit : (m : Message) → well_formed m ≡ true → PartsFit m
unfolding well_formed fields_fit
parts_fit m e =
    let k = m.kind in
    let scalars = number_fits k m.number && (place_fits k m.sender m.index && (word_fits k m.word && set_fits k m.set)) in
    let rows = cut_ok (cut_set k m.view.set) m.cut && view_fits k m.view in
    let p : scalars ≡ true = and_right (leb 1 k && leb k 6) scalars (and_left ((leb 1 k && leb k 6) && scalars) rows e) in
    let q : rows ≡ true = and_right ((leb 1 k && leb k 6) && scalars) rows e in
    let r = and_right (number_fits k m.number) (place_fits k m.sender m.index && (word_fits k m.word && set_fits k m.set)) p in
    let s = and_right (place_fits k m.sender m.index) (word_fits k m.word && set_fits k m.set) r in
    record {
      number_fit = and_left (number_fits k m.number) (place_fits k m.sender m.index && (word_fits k m.word && set_fits k m.set)) p;
      place_fit = and_left (place_fits k m.sender m.index) (word_fits k m.word && set_fits k m.set) r;
      word_fit = and_left (word_fits k m.word) (set_fits k m.set) s;
      set_fit = and_right (word_fits k m.word) (set_fits k m.set) s;
      cut_fit = and_left (cut_ok (cut_set k m.view.set) m.cut) (view_fits k m.view) q;
      view_fit = and_right (cut_ok (cut_set k m.view.set) m.cut) (view_fits k m.view) q;
    }

part_length : (b : Bool) (xs : List ℕ) (w : ℕ) → length xs ≡ w → length (part b xs) ≡ cond b w 0
part_length true xs w e = e
part_length false xs w e = refl

-- what a kind's parts come to
widths : ℕ → ℕ
widths k =
    cond (has_number k) 4 0
    + (cond (has_place k) 2 0 + (cond (has_view k) 37 0 + (cond (has_cut k) 8 0 + (cond (has_word k) 8 0 + cond (has_set k) 1 0))))

body_length : (m : Message) → length (body m) ≡ widths m.kind
unfolding body widths
body_length m =
    let k = m.kind in
    let place : length (le 1 m.sender ++ le 1 m.index) ≡ 2 = simp (length-append, le_length) in
    rw
    (length-append, length-append, length-append, length-append, length-append, part_length (has_number k) (le 4 m.number) 4 (le_length 4 m.number), part_length (has_place k) (le 1 m.sender ++ le 1 m.index) 2 place, part_length (has_view k) (view_body m.view) 37 (view_length m.view), part_length (has_cut k) (cut_bytes m.cut) 8 (cut_length m.cut), part_length (has_word k) (le 8 m.word) 8 (le_length 8 m.word), part_length (has_set k) (le 1 m.set) 1 (le_length 1 m.set))
    refl

-- "38, 9, 50, 48, 6, 38"
length_table : (k : ℕ) → 1 ≤ k → k ≤ 6 → suc (widths k) ≡ length_of k
unfolding widths length_of
length_table zero p q = absurd (omega arith)
length_table (suc zero) p q = refl
length_table (suc (suc zero)) p q = refl
length_table (suc (suc (suc zero))) p q = refl
length_table (suc (suc (suc (suc zero)))) p q = refl
length_table (suc (suc (suc (suc (suc zero))))) p q = refl
length_table (suc (suc (suc (suc (suc (suc zero)))))) p q = refl
length_table (suc (suc (suc (suc (suc (suc (suc k))))))) p q = absurd (omega arith)

pub bytes_length : (m : Message) → 1 ≤ m.kind → m.kind ≤ 6 → length (bytes_of m) ≡ length_of m.kind
unfolding bytes_of
bytes_length m a b = ap suc (body_length m) ∙ length_table m.kind a b

pub length_some : (m : Message) → well_formed m ≡ true → 1 ≤ length_of m.kind
length_some m w = rw (← length_table m.kind (kind_fits m w).0 (kind_fits m w).1) (omega arith)

-- ---- reading

module _ (bs : List ℕ) where
  pub read_empty : length bs ≡ 0 → refused ≡ read_of bs
  unfolding read_of reads length_of well_formed fields_fit message_at
  read_empty e = go bs e
    where
      go : (l : List ℕ) → length l ≡ 0 → refused ≡ read_of l
      go [] e = refl
      go (x ∷ l) e = absurd (omega arith)

  pub read_length : (n : ℕ) → (length bs ≡ n → ⊥) → n ≡ length_of (get_or bs 0 0) → refused ≡ read_of bs
  unfolding read_of reads
  read_length n h e = rw (ne_eqb (length bs) (length_of (get_or bs 0 0)) (λ q. h (q ∙ sym e)))

  -- no kind has bytes
  pub read_none : NoKind (get_or bs 0 0) → (length bs ≡ 0 → ⊥) → refused ≡ read_of bs
  read_none h some = read_length 0 some (length_none (get_or bs 0 0) h)

  pub read_malformed : (m : Message) → m ≡ message_at bs (get_or bs 0 0) → well_formed m ≡ false → refused ≡ read_of bs
  unfolding read_of reads
  read_malformed m e f = rw (← e, f, and-false)

  pub read_whole : (m : Message) (n : ℕ) → length bs ≡ n → n ≡ length_of (get_or bs 0 0) → m ≡ message_at bs (get_or bs 0 0) → well_formed m ≡ true → Ok m ≡ read_of bs
  unfolding read_of reads
  read_whole m n a b e f = rw (eq-eqb (length bs) (length_of (get_or bs 0 0)) (a ∙ b), ← e, f)

-- ---- writing

module _ (m : Message) (area : List ℕ) where
  refused_write : writes m area ≡ false → (1 ≡ write_number m area) × (area ≡ written m area)
  unfolding write_number written
  refused_write e = (rw e refl, rw e refl)

  pub write_malformed : well_formed m ≡ false → (1 ≡ write_number m area) × (area ≡ written m area)
  unfolding writes
  write_malformed e = refused_write (rw e refl)

  pub write_short : (n : ℕ) → length area < n → n ≡ length_of m.kind → (1 ≡ write_number m area) × (area ≡ written m area)
  unfolding writes
  write_short n h e = refused_write (rw (lt-leb (length_of m.kind) (length area) (omega arith), and-false) refl)

  pub write_whole : (n : ℕ) (a b : List ℕ) → m.kind < 256 → well_formed m ≡ true → n ≤ length area → n ≡ length_of m.kind
      → a ≡ sets area 0 (le 1 m.kind) → b ≡ sets a 1 (body m) → (0 ≡ write_number m area) × (b ≡ written m area)
  unfolding writes write_number written bytes_of
  write_whole n a b k w h e p q =
      let l : length (bytes_of m) ≡ length_of m.kind = bytes_length m (kind_fits m w).0 (kind_fits m w).1 in
      let s : b ≡ sets area 0 (bytes_of m) = q ∙ ap (λ x. sets x 1 (body m)) (p ∙ ap (sets area 0) (le_byte m.kind k)) in
      let t : leb (length_of m.kind) (length area) ≡ true = le-leb (length_of m.kind) (length area) (omega arith) in
      (rw (w, t) refl, rw (w, t) (s ∙ sets_front (bytes_of m) area (omega arith) ∙ ap (λ x. bytes_of m ++ drop x area) l))
