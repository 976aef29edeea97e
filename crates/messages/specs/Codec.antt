-- Reading and writing. "Reading any other bytes, or writing a malformed value or into too short an area, is refused with 1; bytes after the written ones stay."
-- That a message reads back as it was written, and that nothing else reads, is proved of these in proofs/Trip. Assumes nothing.
use Rattle.std.specs.Prelude.{ℕ, ◌+◌, Bool, cond, ◌&&◌, List, ◌++◌, eqb, leb, length, get_or, drop, Result, Ok, Err}
use Rattle.views.specs.Views.{no_view}
use Rattle.views.specs.Cuts.{no_cut}
use Rattle.messages.specs.declared.Message.{Message}
use Rattle.messages.specs.declared.Refusal.{Refusal}
use Rattle.messages.specs.declared.Refusal.TheVariants.{Malformed}
use Rattle.messages.specs.Bytes.{number_at, view_at, cut_at}
use Rattle.messages.specs.Layouts.{has_number, has_place, has_view, has_cut, has_word, has_set, bytes_of, length_of, well_formed}

-- where the parts of a kind stand: behind the first byte and the parts before them
abbrev pub after_number : ℕ → ℕ
after_number k = 1 + cond (has_number k) 4 0

abbrev pub after_place : ℕ → ℕ
after_place k = after_number k + cond (has_place k) 2 0

abbrev pub after_view : ℕ → ℕ
after_view k = after_place k + cond (has_view k) 37 0

abbrev pub after_cut : ℕ → ℕ
after_cut k = after_view k + cond (has_cut k) 8 0

abbrev pub after_word : ℕ → ℕ
after_word k = after_cut k + cond (has_word k) 8 0

-- the message of this kind that the bytes are, if they are one
unfoldable pub message_at : List ℕ → ℕ → Message
message_at bs k =
    record {
      view = cond (has_view k) (view_at bs (after_place k)) no_view;
      word = cond (has_word k) (number_at 8 bs (after_cut k)) 0;
      number = cond (has_number k) (number_at 4 bs 1) 0;
      cut = cond (has_cut k) (cut_at bs (after_view k)) no_cut;
      kind = k;
      set = cond (has_set k) (number_at 1 bs (after_word k)) 0;
      sender = cond (has_place k) (number_at 1 bs (after_number k)) 0;
      index = cond (has_place k) (number_at 1 bs (after_number k + 1)) 0;
    }

-- these bytes are a message
unfoldable pub reads : List ℕ → Bool
reads bs = eqb (length bs) (length_of (get_or bs 0 0)) && well_formed (message_at bs (get_or bs 0 0))

-- any other bytes are malformed
abbrev pub refused : Result Message Refusal
refused = Err Malformed

-- accepted with the message, or refused
unfoldable pub read_of : List ℕ → Result Message Refusal
read_of bs = cond (reads bs) (Ok (message_at bs (get_or bs 0 0))) refused

-- the message can be written into this area
unfoldable pub writes : Message → List ℕ → Bool
writes m area = well_formed m && leb (length_of m.kind) (length area)

unfoldable pub write_number : Message → List ℕ → ℕ
write_number m area = cond (writes m area) 0 1

-- the area after: the message at its start and the bytes after it as they were, or all as it was
unfoldable pub written : Message → List ℕ → List ℕ
written m area = cond (writes m area) (bytes_of m ++ drop (length_of m.kind) area) area
