-- Reading and writing are inverse, for all six kinds by one argument: a part that the kind has stands where the parts before it end.
--   reads-back : what a well formed message writes reads as that message.
--   reads_only : bytes that read are the bytes that their message writes, so nothing else is accepted.
--   fields_follow : reading into a field area accepts what reads, and leaves that message's fields: so both speak of the calls on fields too.
-- In order: a part that may be there; what a well formed message lacks is blank; the theorems. Assumes nothing.
use Prim.Native.Nat.{ℕ, ◌+◌, ◌^◌, ◌<◌}
use native.Mathlib.Nat.{add-zero}
use mathlib.Core.Bool.{Bool, true, false, cond, ◌&&◌}
use mathlib.Core.List.{List, ◌++◌}
use mathlib.Core.Path.{◌≡◌, refl, sym, ap, subst, ◌∙◌}
use lib.Dec.{eqb}
use lib.ListN.{length, get_or, replicate, get_or-replicate, length-append}
use lib.Seq.{ext_get_or}
use borrow.Author.Tests.{eq-eqb, eqb-true}
use Rattle.below.proofs.Tests.{clash, and_left, and_right}
use Rattle.below.proofs.All.{all_each}
use Rattle.below.proofs.Bits.{bit_none}
use Rattle.views.specs.Sets.{has}
use Rattle.views.specs.Views.{all_zero, no_view}
use Rattle.views.specs.Cuts.{count_fits, cut_ok, no_cut}
use Rattle.views.specs.declared.View.{View}
use Rattle.views.specs.declared.Cut.{Cut}
use Rattle.messages.specs.declared.Message.{Message}
use Rattle.std.specs.Prelude.{Ok}
use Rattle.messages.specs.Bytes.{le, number_at, view_body, view_at, cut_bytes, cut_at}
use Rattle.messages.specs.Layouts.{has_number, has_place, has_view, has_cut, has_word, has_set, part, place_fits, blank_view, body, bytes_of, length_of, well_formed}
use Rattle.messages.specs.Fields.{is_row, fields_of, read_number, fields_read}
use Rattle.messages.specs.Codec.{after_number, after_place, after_view, after_cut, after_word, message_at, reads, refused, read_of}
use Rattle.messages.proofs.Numbers.{AreBytes, Stands, stands_join, stands_left, stands_right, stands_whole, stands_self, le_length, le_reads, le_stands, ViewRange, CutRange, view_length, cut_length, view_reads, view_stands, cut_reads, cut_stands}
use Rattle.messages.proofs.Tested.{kind_fits, PartsFit, parts_fit, bytes_length}

-- ---- a part that may be there

module _ (b : Bool) (xs ys bs : List ℕ) (at w : ℕ) (e : length xs ≡ w) where
  -- the part, if there, and what follows it
  opened : Stands (part b xs ++ ys) bs at → (b ≡ true → Stands xs bs at) × Stands ys bs (at + cond b w 0)
  opened = go b
    where
      go : (c : Bool) → Stands (part c xs ++ ys) bs at → (c ≡ true → Stands xs bs at) × Stands ys bs (at + cond c w 0)
      go true s = (λ _. stands_left xs ys bs at s, rw e at (stands_right xs ys bs at s))
      go false s = (λ t. clash {b = false} t refl, rw add-zero s)

  closed : (b ≡ true → Stands xs bs at) → Stands ys bs (at + cond b w 0) → Stands (part b xs ++ ys) bs at
  closed = go b
    where
      go : (c : Bool) → (c ≡ true → Stands xs bs at) → Stands ys bs (at + cond c w 0) → Stands (part c xs ++ ys) bs at
      go true f s = stands_join xs ys bs at (f refl) (rw e s)
      go false f s = rw add-zero at s

-- the last part
opened_last : (b : Bool) (xs bs : List ℕ) (at : ℕ) → Stands (part b xs) bs at → b ≡ true → Stands xs bs at
opened_last true xs bs at s t = s
opened_last false xs bs at s t = clash {b = false} t refl

closed_last : (b : Bool) (xs bs : List ℕ) (at : ℕ) → (b ≡ true → Stands xs bs at) → Stands (part b xs) bs at
closed_last true xs bs at f = f refl
closed_last false xs bs at f = tt

-- a value read where the part is there, and blank where it is not
chosen : {A : Type 0} (b : Bool) (value blank x : A) → (b ≡ true → value ≡ x) → (b ≡ false → x ≡ blank) → cond b value blank ≡ x
chosen true value blank x f g = f refl
chosen false value blank x f g = sym (g refl)

given : {A : Type 0} (b : Bool) (f : A → List ℕ) (value blank : A) (bs : List ℕ) (at : ℕ) → Stands (f value) bs at → b ≡ true → Stands (f (cond b value blank)) bs at
given true f value blank bs at s t = s
given false f value blank bs at s t = clash {b = false} t refl

-- ---- what a well formed message lacks is blank

-- a message of the code's types
pub record MessageRange (m : Message) : Type 0 where
  pub view_range : ViewRange m.view
  pub cut_range : CutRange m.cut
  pub number_low : m.number < 256 ^ 4
  pub word_low : m.word < 256 ^ 8
  pub set_low : m.set < 256 ^ 1
  pub sender_low : m.sender < 256 ^ 1
  pub index_low : m.index < 256 ^ 1

-- a test that is not made leaves the other
lacks : (b : Bool) (x : ℕ) → cond b true (eqb x 0) ≡ true → b ≡ false → x ≡ 0
lacks b x e f = eqb-true x 0 (rw f at e)

-- eight zeros
zeros : (xs : List ℕ) → length xs ≡ 8 → ((n : ℕ) → n < 8 → get_or xs n 0 ≡ 0) → xs ≡ replicate 8 0
zeros xs e h = ext_get_or 0 xs (replicate 8 0) e (λ i l. h i (rw e at l) ∙ sym (get_or-replicate 8 i 0 0 (rw e at l)))

lacks_view : (b : Bool) (v : View) → length v.starts ≡ 8 → cond b (Rattle.views.specs.Views.view_ok v) (blank_view v) ≡ true → b ≡ false → v ≡ no_view
unfolding blank_view all_zero
lacks_view b v l e f =
    let p : blank_view v ≡ true = rw f at e in
    let q = and_right (eqb v.id 0) (eqb v.set 0 && all_zero v.starts) p in
    let i : v.id ≡ 0 = eqb-true v.id 0 (and_left (eqb v.id 0) (eqb v.set 0 && all_zero v.starts) p) in
    let s : v.set ≡ 0 = eqb-true v.set 0 (and_left (eqb v.set 0) (all_zero v.starts) q) in
    let t : v.starts ≡ replicate 8 0 = zeros v.starts l (λ n h. eqb-true (get_or v.starts n 0) 0 (all_each (λ k. eqb (get_or v.starts k 0) 0) 8 n h (and_right (eqb v.set 0) (all_zero v.starts) q))) in
    λ j. record { starts = t j; id = i j; set = s j }

lacks_cut : (b : Bool) (s : ℕ) (c : Cut) → length c.counts ≡ 8 → cut_ok (cond b s 0) c ≡ true → b ≡ false → c ≡ no_cut
unfolding cut_ok has
lacks_cut b s c l e f =
    let p : cut_ok 0 c ≡ true = rw f at e in
    let t : c.counts ≡ replicate 8 0 = zeros c.counts l (λ n h. eqb-true (get_or c.counts n 0) 0 (rw (bit_none n) at (all_each (λ k. count_fits (has 0 k) (get_or c.counts k 0)) 8 n h p))) in
    λ j. record { counts = t j }

-- ---- each part stands where the parts before it end

record PartsStand (m : Message) (bs : List ℕ) : Type 0 where
  number_stands : has_number m.kind ≡ true → Stands (le 4 m.number) bs 1
  place_stands : has_place m.kind ≡ true → Stands (le 1 m.sender ++ le 1 m.index) bs (after_number m.kind)
  view_stands : has_view m.kind ≡ true → Stands (view_body m.view) bs (after_place m.kind)
  cut_stands : has_cut m.kind ≡ true → Stands (cut_bytes m.cut) bs (after_view m.kind)
  word_stands : has_word m.kind ≡ true → Stands (le 8 m.word) bs (after_cut m.kind)
  set_stands : has_set m.kind ≡ true → Stands (le 1 m.set) bs (after_word m.kind)

place_length : (m : Message) → length (le 1 m.sender ++ le 1 m.index) ≡ 2
place_length m = simp (length-append, le_length)

-- what follows each part
abbrev from_set : Message → List ℕ
from_set m = part (has_set m.kind) (le 1 m.set)

abbrev from_word : Message → List ℕ
from_word m = part (has_word m.kind) (le 8 m.word) ++ from_set m

abbrev from_cut : Message → List ℕ
from_cut m = part (has_cut m.kind) (cut_bytes m.cut) ++ from_word m

abbrev from_view : Message → List ℕ
from_view m = part (has_view m.kind) (view_body m.view) ++ from_cut m

abbrev from_place : Message → List ℕ
from_place m = part (has_place m.kind) (le 1 m.sender ++ le 1 m.index) ++ from_view m

body_opened : (m : Message) (bs : List ℕ) → Stands (body m) bs 1 → PartsStand m bs
unfolding body
body_opened m bs s =
    let k = m.kind in
    let a = opened (has_number k) (le 4 m.number) (from_place m) bs 1 4 (le_length 4 m.number) s in
    let b = opened (has_place k) (le 1 m.sender ++ le 1 m.index) (from_view m) bs (after_number k) 2 (place_length m) a.1 in
    let c = opened (has_view k) (view_body m.view) (from_cut m) bs (after_place k) 37 (view_length m.view) b.1 in
    let d = opened (has_cut k) (cut_bytes m.cut) (from_word m) bs (after_view k) 8 (cut_length m.cut) c.1 in
    let e = opened (has_word k) (le 8 m.word) (from_set m) bs (after_cut k) 8 (le_length 8 m.word) d.1 in
    record {
      number_stands = a.0;
      place_stands = b.0;
      view_stands = c.0;
      cut_stands = d.0;
      word_stands = e.0;
      set_stands = opened_last (has_set k) (le 1 m.set) bs (after_word k) e.1;
    }

body_closed : (m : Message) (bs : List ℕ) → PartsStand m bs → Stands (body m) bs 1
unfolding body
body_closed m bs p =
    let k = m.kind in
    let f = closed_last (has_set k) (le 1 m.set) bs (after_word k) p.set_stands in
    let e = closed (has_word k) (le 8 m.word) (from_set m) bs (after_cut k) 8 (le_length 8 m.word) p.word_stands f in
    let d = closed (has_cut k) (cut_bytes m.cut) (from_word m) bs (after_view k) 8 (cut_length m.cut) p.cut_stands e in
    let c = closed (has_view k) (view_body m.view) (from_cut m) bs (after_place k) 37 (view_length m.view) p.view_stands d in
    let b = closed (has_place k) (le 1 m.sender ++ le 1 m.index) (from_view m) bs (after_number k) 2 (place_length m) p.place_stands c in
    closed (has_number k) (le 4 m.number) (from_place m) bs 1 4 (le_length 4 m.number) p.number_stands b

-- ---- what a well formed message writes reads as that message

-- the second of two bytes
second_byte : (x y : ℕ) (bs : List ℕ) (at : ℕ) → Stands (le 1 x ++ le 1 y) bs at → Stands (le 1 y) bs (at + 1)
second_byte x y bs at s = rw (le_length 1 x) at (stands_right (le 1 x) (le 1 y) bs at s)

-- where a kind has no place, its test is of both
lacks_place : (k r i : ℕ) → place_fits k r i ≡ true → has_place k ≡ false → (r ≡ 0) × (i ≡ 0)
lacks_place k r i e f =
    let p : (eqb r 0 && eqb i 0) ≡ true = rw f at e in
    (eqb-true r 0 (and_left (eqb r 0) (eqb i 0) p), eqb-true i 0 (and_right (eqb r 0) (eqb i 0) p))

message_back : (m : Message) (bs : List ℕ) → MessageRange m → PartsFit m → PartsStand m bs → message_at bs m.kind ≡ m
unfolding message_at
message_back m bs r f s =
    let k = m.kind in
    let view_is : cond (has_view k) (view_at bs (after_place k)) no_view ≡ m.view =
    chosen (has_view k) (view_at bs (after_place k)) no_view m.view (λ t. view_reads bs (after_place k) m.view r.view_range (s.view_stands t)) (lacks_view (has_view k) m.view r.view_range.eight f.view_fit) in
    let word_is : cond (has_word k) (number_at 8 bs (after_cut k)) 0 ≡ m.word =
    chosen (has_word k) (number_at 8 bs (after_cut k)) 0 m.word (λ t. le_reads 8 m.word (after_cut k) bs r.word_low (s.word_stands t)) (lacks (has_word k) m.word f.word_fit) in
    let number_is : cond (has_number k) (number_at 4 bs 1) 0 ≡ m.number =
    chosen (has_number k) (number_at 4 bs 1) 0 m.number (λ t. le_reads 4 m.number 1 bs r.number_low (s.number_stands t)) (lacks (has_number k) m.number f.number_fit) in
    let cut_is : cond (has_cut k) (cut_at bs (after_view k)) no_cut ≡ m.cut =
    chosen (has_cut k) (cut_at bs (after_view k)) no_cut m.cut (λ t. cut_reads bs (after_view k) m.cut r.cut_range (s.cut_stands t)) (lacks_cut (has_cut k) m.view.set m.cut r.cut_range.eight f.cut_fit) in
    let set_is : cond (has_set k) (number_at 1 bs (after_word k)) 0 ≡ m.set =
    chosen (has_set k) (number_at 1 bs (after_word k)) 0 m.set (λ t. le_reads 1 m.set (after_word k) bs r.set_low (s.set_stands t)) (lacks (has_set k) m.set f.set_fit) in
    let sender-is : cond (has_place k) (number_at 1 bs (after_number k)) 0 ≡ m.sender =
    chosen (has_place k) (number_at 1 bs (after_number k)) 0 m.sender (λ t. le_reads 1 m.sender (after_number k) bs r.sender_low (stands_left (le 1 m.sender) (le 1 m.index) bs (after_number k) (s.place_stands t))) (λ t. (lacks_place k m.sender m.index f.place_fit t).0) in
    let index_is : cond (has_place k) (number_at 1 bs (after_number k + 1)) 0 ≡ m.index =
    chosen (has_place k) (number_at 1 bs (after_number k + 1)) 0 m.index (λ t. le_reads 1 m.index (after_number k + 1) bs r.index_low (second_byte m.sender m.index bs (after_number k) (s.place_stands t))) (λ t. (lacks_place k m.sender m.index f.place_fit t).1) in
    λ j. record { view = view_is j; word = word_is j; number = number_is j; cut = cut_is j; kind = k; set = set_is j; sender = sender-is j; index = index_is j }

pub reads_back : (m : Message) → MessageRange m → well_formed m ≡ true → read_of (bytes_of m) ≡ Ok m
unfolding read_of reads bytes_of
reads_back m r w =
    let bs = bytes_of m in
    let s : PartsStand m bs = body_opened m bs (stands_self bs).1 in
    let b : message_at bs m.kind ≡ m = message_back m bs r (parts_fit m w) s in
    rw (b, w, eq-eqb (length bs) (length_of m.kind) (bytes_length m (kind_fits m w).0 (kind_fits m w).1)) refl

-- ---- bytes that read are the bytes that their message writes

parts_given : (bs : List ℕ) (k : ℕ) → AreBytes bs → PartsStand (message_at bs k) bs
unfolding message_at
parts_given bs k h =
    record {
      number_stands = given (has_number k) (le 4) (number_at 4 bs 1) 0 bs 1 (le_stands 4 1 bs h);
      place_stands = λ t. both_given t;
      view_stands = given (has_view k) view_body (view_at bs (after_place k)) no_view bs (after_place k) (view_stands bs (after_place k) h);
      cut_stands = given (has_cut k) cut_bytes (cut_at bs (after_view k)) no_cut bs (after_view k) (cut_stands bs (after_view k) h);
      word_stands = given (has_word k) (le 8) (number_at 8 bs (after_cut k)) 0 bs (after_cut k) (le_stands 8 (after_cut k) bs h);
      set_stands = given (has_set k) (le 1) (number_at 1 bs (after_word k)) 0 bs (after_word k) (le_stands 1 (after_word k) bs h);
    }
  where
    both_given : has_place k ≡ true → Stands (le 1 (cond (has_place k) (number_at 1 bs (after_number k)) 0) ++ le 1 (cond (has_place k) (number_at 1 bs (after_number k + 1)) 0)) bs (after_number k)
    both_given t =
        stands_join (le 1 (cond (has_place k) (number_at 1 bs (after_number k)) 0)) (le 1 (cond (has_place k) (number_at 1 bs (after_number k + 1)) 0)) bs (after_number k)
        (given (has_place k) (le 1) (number_at 1 bs (after_number k)) 0 bs (after_number k) (le_stands 1 (after_number k) bs h) t)
        (rw (le_length 1 (cond (has_place k) (number_at 1 bs (after_number k)) 0)) (given (has_place k) (le 1) (number_at 1 bs (after_number k + 1)) 0 bs (after_number k + 1) (le_stands 1 (after_number k + 1) bs h) t))

pub reads_only : (bs : List ℕ) (m : Message) → AreBytes bs → read_of bs ≡ Ok m → (well_formed m ≡ true) × (bytes_of m ≡ bs)
unfolding read_of reads bytes_of message_at
reads_only bs m h e = go (reads bs) refl e
  where
    read : Message
    read = message_at bs (get_or bs 0 0)

    whole : reads bs ≡ true → (well_formed read ≡ true) × (bytes_of read ≡ bs)
    whole t =
        let w : well_formed read ≡ true = and_right (eqb (length bs) (length_of (get_or bs 0 0))) (well_formed read) t in
        let l : length bs ≡ length_of (get_or bs 0 0) = eqb-true (length bs) (length_of (get_or bs 0 0)) (and_left (eqb (length bs) (length_of (get_or bs 0 0))) (well_formed read) t) in
        (w, stands_whole (bytes_of read) bs (bytes_length read (kind_fits read w).0 (kind_fits read w).1 ∙ sym l) (refl, body_closed read bs (parts_given bs (get_or bs 0 0) h)))

    go : (b : Bool) → reads bs ≡ b → cond b (Ok read) refused ≡ Ok m → (well_formed m ≡ true) × (bytes_of m ≡ bs)
    go true t p = let q : read ≡ m = cc in subst (λ (x : Message). (well_formed x ≡ true) × (bytes_of x ≡ bs)) q (whole t)
    go false t p = absurd cc

pub fields_follow : (bs fs : List ℕ) (m : Message) → is_row fs ≡ true → read_of bs ≡ Ok m → (read_number bs fs ≡ 0) × (fields_read bs fs ≡ fields_of m)
unfolding read_of read_number fields_read
fields_follow bs fs m r e = go (reads bs) refl e
  where
    read : Message
    read = message_at bs (get_or bs 0 0)

    go : (b : Bool) → reads bs ≡ b → cond b (Ok read) refused ≡ Ok m → (read_number bs fs ≡ 0) × (fields_read bs fs ≡ fields_of m)
    go true t p = let q : read ≡ m = cc in rw (r, t) (refl, ap fields_of q)
    go false t p = absurd cc

pub fields_refused : (bs fs : List ℕ) → read_of bs ≡ refused → (read_number bs fs ≡ 1) × (fields_read bs fs ≡ fs)
unfolding read_of read_number fields_read
fields_refused bs fs e = go (is_row fs) (reads bs) refl refl e
  where
    go : (a b : Bool) → is_row fs ≡ a → reads bs ≡ b → cond b (Ok (message_at bs (get_or bs 0 0))) refused ≡ refused → (read_number bs fs ≡ 1) × (fields_read bs fs ≡ fs)
    go true true s t p = absurd cc
    go true false s t p = rw (s, t) (refl, refl)
    go false b s t p = rw s (refl, refl)
