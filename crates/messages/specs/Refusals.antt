-- What the reader and the writer answer beside the message and the areas: a result's number, as C is told it, and why nothing was read or written.
-- Assumes nothing.
use Rattle.std.specs.Prelude.{◌≡◌, ℕ, ◌≤◌, true, cond, ◌&&◌, ◌⊎◌, List, length, get_or, Result, Ok, Err, IfErr}
use Rattle.messages.specs.declared.Message.{Message}
use Rattle.messages.specs.declared.Refusal.{Refusal}
use Rattle.messages.specs.declared.kind.Kind.{Kind}
use Rattle.messages.specs.declared.kind.Kind.TheVariants.{View}
use Rattle.messages.specs.declared.Refusal.TheVariants.{NotFields, Malformed, NoRoom}
use Rattle.messages.specs.Layouts.{length_of, well_formed}
use Rattle.messages.specs.Kinds.{code_of}
use Rattle.messages.specs.Fields.{is_row, narrow, message_of, read_number, fields_read, number_written, area_written}

-- 0, or 1 where it is refused
abbrev pub number_of : {T E : Type 0} → Result T E → ℕ
number_of (Ok x) = 0
number_of (Err e) = 1

-- why a message is not written
abbrev pub unwritten : Message → Refusal
unwritten m = cond (well_formed m) NoRoom Malformed

-- why nothing is read into a field area
abbrev pub unread_into : List ℕ → Refusal
unread_into fs = cond (is_row fs) Malformed NotFields

-- why nothing is written from a field area
abbrev pub unwritten_from : List ℕ → Refusal
unwritten_from fs = cond (is_row fs) (cond (narrow fs && well_formed (message_of fs)) NoRoom Malformed) NotFields

-- what a read of the bytes answers and leaves in the field area
pub record IsRead {T : Type 0} (r : Result T Refusal) (bytes fields out : List ℕ) : Type 0 where
  pub number : number_of r ≡ read_number bytes fields
  pub left : out ≡ fields_read bytes fields
  pub reason : IfErr r (λ e. e ≡ unread_into fields)

-- what a write of the fields answers and leaves in the byte area
pub record IsWritten {T : Type 0} (r : Result T Refusal) (fields area out : List ℕ) : Type 0 where
  pub number : number_of r ≡ number_written fields area
  pub left : out ≡ area_written fields area
  pub reason : IfErr r (λ e. e ≡ unwritten_from fields)

-- the bytes have the kind and its length
pub record HasKind (bytes : List ℕ) (kind : Kind) : Type 0 where
  pub first : get_or bytes 0 0 ≡ code_of kind
  pub long : length bytes ≡ length_of (code_of kind)

-- the fields' kind is tested as this one is: a membership view has the parts of a view
abbrev pub IsTestedAs : List ℕ → Kind → Type 0
IsTestedAs fields kind = (get_or fields 0 0 ≡ code_of kind) ⊎ ((get_or fields 0 0 ≡ 6) × (kind ≡ View))

-- the fields are a message, which has room in the area
pub record Fits (fields : List ℕ) (kind : Kind) (area : List ℕ) : Type 0 where
  pub fit : (narrow fields && well_formed (message_of fields)) ≡ true
  pub room : length_of (code_of kind) ≤ length area
