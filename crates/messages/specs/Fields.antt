-- A message as a row of 24 numbers, the field area that a C driver fills and reads; what the exported calls answer and leave in each lent area.
-- Assumes nothing.
use Rattle.std.specs.Prelude.{ℕ, ◌+◌, ◌^◌, Bool, cond, ◌&&◌, List, [], ◌∷◌, ◌++◌, eqb, ltb, length, get_or}
use Rattle.below.specs.Below.{all_below, list_below}
use Rattle.messages.specs.declared.Message.{Message}
use Rattle.messages.specs.Codec.{message_at, reads, write_number, written}

abbrev pub numbers_of : Message → List ℕ
numbers_of m = m.kind ∷ m.number ∷ m.set ∷ m.sender ∷ m.index ∷ m.word ∷ m.view.id ∷ m.view.set ∷ []

-- eight numbers, one a member
unfoldable pub eight : List ℕ → List ℕ
eight xs = list_below (λ n. get_or xs n 0) 8

-- the fields of a message, in their places: 0 kind, 1 number, 2 set, 3 sender, 4 index, 5 word, 6 and 7 the view's id and set, 8 to 15 its start numbers, 16 to 23 the cut
unfoldable pub fields_of : Message → List ℕ
fields_of m = numbers_of m ++ (eight m.view.starts ++ eight m.cut.counts)

-- the message that these fields are, if they are one
unfoldable pub message_of : List ℕ → Message
message_of fs =
    record {
      view = record { starts = list_below (λ n. get_or fs (8 + n) 0) 8; id = get_or fs 6 0; set = get_or fs 7 0 };
      word = get_or fs 5 0;
      number = get_or fs 1 0;
      cut = record { counts = list_below (λ n. get_or fs (16 + n) 0) 8 };
      kind = get_or fs 0 0;
      set = get_or fs 2 0;
      sender = get_or fs 3 0;
      index = get_or fs 4 0;
    }

-- eight fields from this one on are below a bound
abbrev pub narrow_row : List ℕ → ℕ → ℕ → Bool
narrow_row fs at top = all_below (λ n. ltb (get_or fs (at + n) 0) top) 8

-- no number is too large for its field: 8 bits for kind, sets, sender, index and counts, 32 for ids and numbers, 64 for the word
unfoldable pub narrow_starts : List ℕ → Bool
narrow_starts fs = narrow_row fs 8 (2 ^ 32)

unfoldable pub narrow_counts : List ℕ → Bool
narrow_counts fs = narrow_row fs 16 256

unfoldable pub narrow_bytes : List ℕ → Bool
narrow_bytes fs = ltb (get_or fs 0 0) 256 && (ltb (get_or fs 2 0) 256 && (ltb (get_or fs 3 0) 256 && (ltb (get_or fs 4 0) 256 && ltb (get_or fs 7 0) 256)))

unfoldable pub narrow : List ℕ → Bool
narrow fs = narrow_bytes fs && ((ltb (get_or fs 1 0) (2 ^ 32) && ltb (get_or fs 6 0) (2 ^ 32)) && (narrow_starts fs && narrow_counts fs))

-- the area is a field area: exactly 24 places
unfoldable pub is_row : List ℕ → Bool
is_row fs = eqb (length fs) 24

-- ---- what a read answers, and leaves in the field area

unfoldable pub read_number : List ℕ → List ℕ → ℕ
read_number bs fs = cond (is_row fs && reads bs) 0 1

unfoldable pub fields_read : List ℕ → List ℕ → List ℕ
fields_read bs fs = cond (is_row fs && reads bs) (fields_of (message_at bs (get_or bs 0 0))) fs

-- ---- what a write answers, and leaves in the byte area

unfoldable pub number_written : List ℕ → List ℕ → ℕ
number_written fs area = cond (is_row fs && narrow fs) (write_number (message_of fs) area) 1

unfoldable pub area_written : List ℕ → List ℕ → List ℕ
area_written fs area = cond (is_row fs && narrow fs) (written (message_of fs) area) area
